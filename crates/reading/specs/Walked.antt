-- What a walk over entries finds, and the rules that it leaves in the work buffer.
use Rattle.std.specs.Prelude.{ℕ, ◌+◌, ◌*◌, ◌≡◌, cond, ◌&&◌, List, [], ◌∷◌, map, ltb}
use Rattle.std.proofs.lemmas.List.Edits.{sets}
use Rattle.flows.specs.declared.Direction.{Direction}
use Rattle.values.specs.Tree.{Json}
use Rattle.entries.specs.Known.{entry_known}
use Rattle.entries.specs.Sound.{entry_ok}
use Rattle.rules.specs.Rows.{rule_words}
use Rattle.reading.specs.declared.Tally.{Tally}

-- one more, but at most 65
unfoldable pub more : ℕ → ℕ
more n = cond (ltb n 65) (n + 1) 65

-- one entry, and all of a list
unfoldable pub see : Direction → Json → Tally → Tally
see d e t = record { known = t.known && entry_known e; sound = t.sound && entry_ok d e; count = more t.count }

unfoldable pub see_all : Direction → List Json → Tally → Tally
see_all d [] t = t
see_all d (e ∷ es) t = see_all d es (see d e t)

-- rule k stands from word 169 + 21 k on (builder, specs/Encoding); there is room for 64
unfoldable pub put_at : ℕ → List ℕ → List ℕ → List ℕ
put_at k r w = cond (ltb k 64) (sets w (169 + 21 * k) r) w

unfoldable pub put_all : ℕ → List (List ℕ) → List ℕ → List ℕ
put_all k [] w = w
put_all k (r ∷ rs) w = put_all (more k) rs (put_at k r w)

-- the rules of entries
abbrev pub rows_of : Direction → List ℕ → List ℕ → List Json → List (List ℕ)
rows_of d site url es = map (rule_words d site url) es

-- entries were walked over: t is the tally before, r after; w the words before, w' after
pub record Walked (d : Direction) (site url : List ℕ) (es : List Json) (t : Tally) (w : List ℕ) (r : Tally) (w' : List ℕ) : Type 0 where
  pub tally : r ≡ see_all d es t
  pub words : w' ≡ put_all t.count (rows_of d site url es) w
