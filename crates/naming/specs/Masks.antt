-- The site's networks as words, the places of its names, and names as masks of 64 bits over the networks.
use Rattle.std.specs.Prelude.{Ok, ℕ, zero, suc, ◌+◌, ◌*◌, ◌≡◌, List, [], ◌∷◌, map, Bool, false, ◌&&◌, cond, eqb, Option, Some, None}
use Rattle.site.specs.Line.{part}
use Rattle.site.specs.Site.{lines, judged}
use Rattle.site.specs.declared.lines.Kind.{Kind}
use Rattle.site.specs.declared.lines.SiteLine.{SiteLine}
use Rattle.naming.specs.Named.{kind_number}
use Rattle.naming.specs.declared.networks.Place.{Place}

-- a network is one word, its low end times 2^32 and its high end
abbrev pub network_word : SiteLine → ℕ
network_word l = l.low * 4294967296 + l.high

-- where the name of a line stands, and of which kind it is
abbrev pub place_of : SiteLine → Place
place_of l = record { kind = l.kind; name = l.name; end = l.end }

-- so many values: one for each line, then `none`
unfoldable pub lines_to : {A : Type 0} → A → (SiteLine → A) → ℕ → List SiteLine → List A
lines_to none one zero ls = []
lines_to none one (suc k) [] = none ∷ lines_to none one k []
lines_to none one (suc k) (l ∷ ls) = one l ∷ lines_to none one k ls

unfoldable pub network_words : List ℕ → List ℕ
network_words site = lines_to 0 network_word 64 (lines site 0)

-- the places in a sound site table, by which its names are found
abbrev pub PlacesOf : List ℕ → List (Option Place) → Type 0
PlacesOf site places = (judged site ≡ Ok tt) × (places ≡ lines_to None (λ l. Some (place_of l)) 64 (lines site 0))

-- `names` of the line whose place this is
unfoldable pub names_at : Kind → (List ℕ → Bool) → List ℕ → Place → Bool
names_at kind test site p = eqb (kind_number p.kind) (kind_number kind) && test (part p.name p.end site)

-- and of a place where no line may be
abbrev pub wanted_at : Kind → (List ℕ → Bool) → List ℕ → Option Place → Bool
wanted_at kind test site None = false
wanted_at kind test site (Some p) = names_at kind test site p

-- bit j is for element j
unfoldable pub mask_of : List Bool → ℕ
mask_of [] = 0
mask_of (b ∷ bs) = cond b 1 0 + 2 * mask_of bs

-- the lines that are named
unfoldable pub named_mask : (SiteLine → Bool) → List ℕ → ℕ
named_mask named site = mask_of (map named (lines site 0))
