-- Words in a text (document 01, 'Code places and language forms': "compared with parts of the lent file").
use Rattle.std.specs.Prelude.{ℕ, List, [], ◌∷◌, Bool, true, false, ◌&&◌, eqb, drop}

-- w stands at the start of s
abbrev pub starts : List ℕ → List ℕ → Bool
starts [] s = true
starts (x ∷ w) [] = false
starts (x ∷ w) (y ∷ s) = eqb y x && starts w s

-- w stands in s at a place
unfoldable pub has_at : List ℕ → ℕ → List ℕ → Bool
has_at s at w = starts w (drop at s)

-- byte for byte the same, and of one length
abbrev pub same_bytes : List ℕ → List ℕ → Bool
same_bytes [] [] = true
same_bytes [] (y ∷ b) = false
same_bytes (x ∷ a) [] = false
same_bytes (x ∷ a) (y ∷ b) = eqb x y && same_bytes a b
