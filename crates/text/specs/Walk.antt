-- Items that stand in a text one after the other. A reader gives the item at a place with the place after it, or none.
use Rattle.std.specs.Prelude.{ℕ, zero, suc, List, [], ◌∷◌, Option, Some, None}

abbrev pub then_walk : {A B : Type 0} → Option (A × ℕ) → B → (A → ℕ → B) → B
then_walk None z g = z
then_walk (Some (x, k)) z g = g x k

-- from place to place while there are items; `z` is what the last place gives, `c` adds an item, and the number bounds the steps
unfoldable pub walk : {A B : Type 0} → (ℕ → B) → (A → B → B) → (ℕ → Option (A × ℕ)) → ℕ → ℕ → B
walk z c rd zero at = z at
walk z c rd (suc f) at = then_walk (rd at) (z at) (λ x k. c x (walk z c rd f k))

-- the items from a place on, as many as can be read, and the place after them
abbrev pub items_from : {A : Type 0} → (ℕ → Option (A × ℕ)) → ℕ → ℕ → List A
items_from {A} rd f at = walk {B = List A} (λ k. []) (λ x xs. x ∷ xs) rd f at

abbrev pub end_from : {A : Type 0} → (ℕ → Option (A × ℕ)) → ℕ → ℕ → ℕ
end_from rd f at = walk (λ k. k) (λ x k. k) rd f at
