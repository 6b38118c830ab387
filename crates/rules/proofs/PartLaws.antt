-- Laws of the parts of an entry.
use Rattle.std.specs.Prelude.{Option, None, Some}
use Prim.Native.Nat.{ℕ, ◌+◌}
use mathlib.Core.Path.{◌≡◌, refl}
use mathlib.Core.List.{List, []}
use mathlib.Core.Bool.{Bool, true, false}
use lib.ListN.{get_or}
use borrow.Author.Rules.{rules}
use Rattle.text.specs.Ascii.{ascii}
use Rattle.text.specs.Words.{same_bytes}
use Rattle.text.specs.Bytes.{between}
use Rattle.text.specs.Numbers.{number_at, closed_by, quad_at}
use Rattle.text.specs.Networks.{network_at}
use Rattle.text.specs.declared.networks.Net.{Net}
use Rattle.jsontext.proofs.Runs.{past_is}
use Rattle.values.specs.Decode.{bytes_at}
use Rattle.values.specs.Tree.{tree_at, seen}
use Rattle.values.proofs.Trees.{tree_string}
use Rattle.values.proofs.Patterns.{no_bytes}
use Rattle.header.specs.Asked.{is_network, net_in}
use Rattle.rules.specs.Parts.{opener_in, network_in}
use Rattle.rules.specs.declared.parts.Between.{Between}

abbrev span : ℕ → ℕ → Between
span a b = record { low = a; high = b }

-- ## strings
net_empty : net_in [] ≡ None
unfolding net_in is_network network_at quad_at closed_by number_at between
net_empty = refl

module _ (s : List ℕ) (f : Option ℕ) {p : ℕ} (q : f ≡ Some p) {b : ℕ} (g : b ≡ get_or s p 0) where
  pub opener_other : (b ≡ 34 → ⊥) → span 1 1 ≡ opener_in (seen (tree_at 7 s) f)
  opener_other u = rw (q, no_bytes 7 s p b g u)

  pub network_other : (b ≡ 34 → ⊥) → span 0 4294967295 ≡ network_in (seen (tree_at 7 s) f)
  network_other u = rw (q, no_bytes 7 s p b g u, net_empty)

  module _ (u : b ≡ 34) where
    module _ {x : Bool} (e : x ≡ same_bytes (bytes_at s (p + 1)) (ascii "from-device")) where
      pub opener_device : x ≡ true → span 0 0 ≡ opener_in (seen (tree_at 7 s) f)
      opener_device y = rw (q, tree_string 7 s p g u, ← e, y)

      pub opener_remote : x ≡ false → span 1 1 ≡ opener_in (seen (tree_at 7 s) f)
      opener_remote y = rw (q, tree_string 7 s p g u, ← e, y)

    module _ {x : Option (Net × ℕ)} (e : x ≡ net_in (bytes_at s (p + 1))) where
      pub network_malformed : x ≡ None → span 0 4294967295 ≡ network_in (seen (tree_at 7 s) f)
      network_malformed y = rw (q, tree_string 7 s p g u, ← e, y)

      pub network_is : {net : Net} {after : ℕ} → x ≡ Some (net, after) → span net.low net.high ≡ network_in (seen (tree_at 7 s) f)
      network_is y = rw (q, tree_string 7 s p g u, ← e, y)

pub ruleset parting = (rules, past_is, opener_other, network_other, opener_device, opener_remote, network_malformed, network_is)
