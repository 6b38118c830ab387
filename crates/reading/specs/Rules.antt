-- THE RULES OF A FILE: its entries, from-device first, then the defaults.
use Rattle.std.specs.Prelude.{ℕ, List, [], ◌∷◌, ◌++◌, map}
use Rattle.flows.specs.Rules.{Rule, rule}
use Rattle.flows.specs.declared.Direction.TheVariants.{FromDevice, ToDevice}
use Rattle.values.specs.Tree.{Json}
use Rattle.lists.specs.Lists.{entries_of}
use Rattle.naming.specs.Masks.{network_words}
use Rattle.builder.specs.Encoding.{box_of, accepting}
use Rattle.rules.specs.Meaning.{url_of}
use Rattle.rules.specs.Defaults.{dns_words, ntp_words}
use Rattle.reading.specs.Walked.{rows_of}

unfoldable pub rows_for : Json → List ℕ → List (List ℕ)
rows_for file site =
    rows_of FromDevice site (url_of file) (entries_of FromDevice file)
    ++ (rows_of ToDevice site (url_of file) (entries_of ToDevice file) ++ (dns_words site ∷ (ntp_words site ∷ [])))

-- the rule that words stand for
abbrev pub rule_in : List ℕ → List ℕ → Rule
rule_in nets row = rule (accepting row) (box_of nets row 6)

unfoldable pub rules_for : Json → List ℕ → List Rule
rules_for file site = map (rule_in (network_words site)) (rows_for file site)
