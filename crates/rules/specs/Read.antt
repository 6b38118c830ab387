-- The entries that are read, of both directions, and numbers 9, 10 and 11 over them (document 01, 'Answer numbers and their order').
use Rattle.std.specs.Prelude.{ℕ, ◌+◌, Bool, true, ◌&&◌, List, [], ◌∷◌, length}
use Rattle.flows.specs.declared.Direction.TheVariants.{FromDevice, ToDevice}
use Rattle.values.specs.Tree.{Json}
use Rattle.lists.specs.Lists.{entries_of}
use Rattle.entries.specs.Known.{entry_known}
use Rattle.entries.specs.Sound.{entry_ok}

unfoldable pub every : (Json → Bool) → List Json → Bool
every p [] = true
every p (e ∷ es) = p e && every p es

-- no number 9 in an entry read
unfoldable pub all_known : Json → Bool
all_known file = every entry_known (entries_of FromDevice file) && every entry_known (entries_of ToDevice file)

-- no number 10
unfoldable pub all_sound : Json → Bool
all_sound file = every (entry_ok FromDevice) (entries_of FromDevice file) && every (entry_ok ToDevice) (entries_of ToDevice file)

-- "more than 64 entries read (a list named in both directions counts twice)"
unfoldable pub entries_read : Json → ℕ
entries_read file = length (entries_of FromDevice file) + length (entries_of ToDevice file)
