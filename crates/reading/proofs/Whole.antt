-- Laws of all that is read of a file.
use Rattle.std.specs.Prelude.{Option, None, Some}
use Prim.Native.Nat.{ℕ, ◌+◌, ◌*◌, ◌<◌}
use mathlib.Core.Path.{◌≡◌, ap, ap₂, ◌∙◌, subst}
use mathlib.Core.List.{List, ◌++◌}
use lib.ListN.{drop}
use lib.Seq.{sets}
use borrow.Author.Rules.{rules}
use borrow.Author.Tests.{lt-ltb}
use Rattle.text.specs.Ascii.{ascii}
use Rattle.text.specs.Written.{Put}
use Rattle.flows.specs.declared.Direction.TheVariants.{FromDevice, ToDevice}
use Rattle.values.specs.Decode.{bytes_at}
use Rattle.values.specs.Tree.{Json, tree_at, tree_of, lookup, seen}
use Rattle.lists.specs.Lists.{entries_of}
use Rattle.naming.specs.Masks.{network_words}
use Rattle.rules.specs.Meaning.{url_of}
use Rattle.values.specs.Rules.{bytes_in, StringAt}
use Rattle.values.proofs.Patterns.{string_found}
use Rattle.rules.specs.Defaults.{default_words, dns_words, ntp_words}
use Rattle.reading.specs.declared.Tally.{Tally}
use Rattle.reading.specs.Walked.{see_all, put_all, rows_of, Walked}
use Rattle.reading.specs.Read.{none, entries_by, BothWalked, tally_of, entry_words, EntriesRead, put_defaults, words_for, ReadIn}

module _ (n : ℕ) (site w : List ℕ) where
  pub defaults_put : n < 65 → {q r : ℕ} {m o : List ℕ} → Put w (169 + 21 * n) (default_words site (ascii "urn:ietf:params:mud:dns") 53) r m → Put m (169 + 21 * n + 21) (default_words site (ascii "urn:ietf:params:mud:ntp") 123) q o → o ≡ put_defaults n site w
  unfolding put_defaults dns_words ntp_words
  defaults_put h {m = m} p f = f.text ∙ rw (lt-ltb n 65 h) (ap (λ (l : List ℕ). sets l (169 + 21 * n + 21) (ntp_words site)) p.text)

pub both_walked : (s site : List ℕ) (file : Json) (mud url : ℕ) (f : Option ℕ) {t r : Tally} {w m o : List ℕ} → lookup (ascii "mud-url") (tree_at 15 s mud) ≡ seen (tree_at 14 s) f → StringAt s f url → Walked FromDevice site (bytes_at s url) (entries_by FromDevice file (tree_at 15 s mud)) none w t m → Walked ToDevice site (bytes_at s url) (entries_by ToDevice file (tree_at 15 s mud)) t m r o → BothWalked site file (tree_at 15 s mud) w r o
both_walked s site file mud url f {t} {r} {w} {m} {o} e a g h =
    let from = entries_by FromDevice file (tree_at 15 s mud) in
    let to = entries_by ToDevice file (tree_at 15 s mud) in
    let b = bytes_at s url in
    let z : b ≡ bytes_in (lookup (ascii "mud-url") (tree_at 15 s mud)) = string_found (lookup (ascii "mud-url") (tree_at 15 s mud)) 14 s f e a in
    record {
      tally = h.tally ∙ ap (see_all ToDevice to) g.tally;
      words = subst (λ (u : List ℕ). o ≡ put_all (see_all FromDevice from none).count (rows_of ToDevice site u to) (put_all 0 (rows_of FromDevice site u from) w)) z
          (h.words ∙ ap₂ (λ (x : Tally) (y : List ℕ). put_all x.count (rows_of ToDevice site b to) y) g.tally g.words);
    }

module _ (s site w : List ℕ) {f : Option ℕ} (e : lookup (ascii "ietf-mud:mud") (tree_of 16 s) ≡ seen (tree_at 15 s) f) where
  pub entries_none : f ≡ None → EntriesRead site (tree_of 16 s) w none w
  unfolding tally_of entry_words entries_of see_all put_all
  entries_none q = record { tally = rw (e, q); words = rw (e, q) }

  pub entries_some : {mud : ℕ} → f ≡ Some mud → {r : Tally} {m : List ℕ} → BothWalked site (tree_of 16 s) (tree_at 15 s mud) w r m → EntriesRead site (tree_of 16 s) w r m
  unfolding tally_of entry_words entries_of url_of
  entries_some q h = record { tally = h.tally ∙ rw (e, q); words = h.words ∙ rw (e, q) }

pub all_read : (site : List ℕ) (file : Json) (w : List ℕ) {t : Tally} {m n o : List ℕ} → m ≡ network_words site ++ drop 64 w → EntriesRead site file m t n → o ≡ put_defaults t.count site n → ReadIn site file w t o
unfolding words_for
all_read site file w {t} {m} {n} {o} e a h =
    record {
      tally = a.tally;
      words = h ∙ ap₂ (λ (x : Tally) (y : List ℕ). put_defaults x.count site y) a.tally (a.words ∙ ap (entry_words site file) e);
    }

pub ruleset reads = (rules, defaults_put, both_walked, entries_none, entries_some, all_read)
