-- All that is read of a file: its tally, and the words that it leaves.
use Rattle.std.specs.Prelude.{ℕ, ◌+◌, ◌*◌, ◌≡◌, true, cond, List, ◌++◌, ltb, drop}
use Rattle.std.proofs.lemmas.List.Edits.{sets}
use Rattle.text.specs.Ascii.{ascii}
use Rattle.flows.specs.declared.Direction.{Direction}
use Rattle.flows.specs.declared.Direction.TheVariants.{FromDevice, ToDevice}
use Rattle.values.specs.Tree.{Json, lookup}
use Rattle.lists.specs.Lists.{entries_named, lists_of, policy_lists, entries_of}
use Rattle.naming.specs.Masks.{network_words}
use Rattle.rules.specs.Meaning.{url_of}
use Rattle.values.specs.Rules.{bytes_in}
use Rattle.rules.specs.Defaults.{dns_words, ntp_words}
use Rattle.reading.specs.declared.Tally.{Tally}
use Rattle.reading.specs.Walked.{see_all, put_all, rows_of}

abbrev pub none : Tally
none = record { known = true; sound = true; count = 0 }

-- entries of both directions, from-device first
abbrev pub see_both : List Json → List Json → Tally
see_both from to = see_all ToDevice to (see_all FromDevice from none)

abbrev pub put_both : List ℕ → List ℕ → List Json → List Json → List ℕ → List ℕ
put_both site url from to w = put_all (see_all FromDevice from none).count (rows_of ToDevice site url to) (put_all 0 (rows_of FromDevice site url from) w)

abbrev pub entries_by : Direction → Json → Json → List Json
entries_by d file mud = entries_named (lists_of file) (policy_lists d mud)

-- by the header
pub record BothWalked (site : List ℕ) (file mud : Json) (w : List ℕ) (r : Tally) (w' : List ℕ) : Type 0 where
  pub tally : r ≡ see_both (entries_by FromDevice file mud) (entries_by ToDevice file mud)
  pub words : w' ≡ put_both site (bytes_in (lookup (ascii "mud-url") mud)) (entries_by FromDevice file mud) (entries_by ToDevice file mud) w

-- by the file
unfoldable pub tally_of : Json → Tally
tally_of file = see_both (entries_of FromDevice file) (entries_of ToDevice file)

unfoldable pub entry_words : List ℕ → Json → List ℕ → List ℕ
entry_words site file w = put_both site (url_of file) (entries_of FromDevice file) (entries_of ToDevice file) w

pub record EntriesRead (site : List ℕ) (file : Json) (w : List ℕ) (r : Tally) (w' : List ℕ) : Type 0 where
  pub tally : r ≡ tally_of file
  pub words : w' ≡ entry_words site file w

-- the defaults after n entries, which are at most 64
unfoldable pub put_defaults : ℕ → List ℕ → List ℕ → List ℕ
put_defaults n site w = cond (ltb n 65) (sets (sets w (169 + 21 * n) (dns_words site)) (169 + 21 * n + 21) (ntp_words site)) w

-- networks, entries, defaults
unfoldable pub words_for : List ℕ → Json → List ℕ → List ℕ
words_for site file w = put_defaults (tally_of file).count site (entry_words site file (network_words site ++ drop 64 w))

pub record ReadIn (site : List ℕ) (file : Json) (w : List ℕ) (r : Tally) (w' : List ℕ) : Type 0 where
  pub tally : r ≡ tally_of file
  pub words : w' ≡ words_for site file w
