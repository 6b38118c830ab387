-- Rules, first match (document 01, 'The MUD rules': "The verdict is that of the first matching entry").
use Rattle.std.specs.Prelude.{ℕ, Bool, true, false, ◌&&◌, ◌||◌, cond, List, [], ◌∷◌}
use Rattle.flows.specs.Table.{Point, Set, Range, ◌to◌, in_range}
use Rattle.flows.specs.Flow.{is_flow}

-- One of the ranges holds x
unfoldable pub in_some : List Range → ℕ → Bool
in_some [] x = false
in_some (lo to hi ∷ rs) x = in_range lo hi x || in_some rs x

-- "All members given must hold together": each list of ranges has one that holds x. No list, no limit.
unfoldable pub in_all : List (List Range) → ℕ → Bool
in_all [] x = true
in_all (rs ∷ ls) x = in_some rs x && in_all ls x

-- A box has limits for each dimension (a name stands for several networks, and `neq` for two ranges)
abbrev pub Box : Type 0
Box = List (List (List Range))

unfoldable pub in_box : Box → Set
in_box [] [] = true
in_box [] (x ∷ p) = false
in_box (ls ∷ b) [] = false
in_box (ls ∷ b) (x ∷ p) = in_all ls x && in_box b p

-- accept (true) or drop (false), and what the rule matches
pub data Rule : Type 0 where
  rule : Bool → Box → Rule

-- What rules say of a point: nothing, or accept or drop
pub data Said : Type 0 where
  silent : Said
  said : Bool → Said

-- "The verdict is that of the first matching entry"
unfoldable pub first_match : List Rule → Point → Said
first_match [] p = silent
first_match (rule a b ∷ rs) p = cond (in_box b p) (said a) (first_match rs p)

-- "Then drop."
abbrev pub or_drop : Said → Bool
or_drop silent = false
or_drop (said a) = a

unfoldable pub accepts : List Rule → Set
accepts rs p = or_drop (first_match rs p)

-- The flows that rules let through
unfoldable pub let_through : List Rule → Set
let_through rs p = is_flow p && accepts rs p

-- Rules that drop what is no flow: opener 1 where the protocol is not 6, and a port above 0 where it is neither 6 nor 17
abbrev not_tcp : List Range
not_tcp = 0 to 5 ∷ (7 to 255 ∷ [])

abbrev no_ports : List Range
no_ports = 0 to 5 ∷ (7 to 16 ∷ (18 to 255 ∷ []))

abbrev above : ℕ → List (List Range)
above top = (1 to top ∷ []) ∷ []

unfoldable pub flow_rules : List Rule
flow_rules =
    rule false ([] ∷ ((not_tcp ∷ []) ∷ (above 1 ∷ ([] ∷ ([] ∷ ([] ∷ []))))))
    ∷ (rule false ([] ∷ ((no_ports ∷ []) ∷ ([] ∷ ([] ∷ (above 65535 ∷ ([] ∷ []))))))
    ∷ (rule false ([] ∷ ((no_ports ∷ []) ∷ ([] ∷ ([] ∷ ([] ∷ (above 65535 ∷ [])))))) ∷ []))
