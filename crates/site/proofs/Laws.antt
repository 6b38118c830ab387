-- Laws of the site table's definitions, for the readers of its lines.
use Prim.Native.Nat.{ℕ, suc, ◌+◌, ◌-◌, ◌^◌, ◌≤◌, ◌<◌}
use mir.Syntax.{w64}
use mir.Val.{Fits}
use native.Mathlib.Nat.{add-zero}
use native.Mathlib.Numerals.{add-one}
use native.Mathlib.Omega.{arith}
use mathlib.Core.Path.{◌≡◌, refl, sym, ap, ◌∙◌, subst}
use mathlib.Core.Bool.{Bool, true, false, cond, not}
use mathlib.Core.List.{List, [], ◌∷◌}
use lib.ListN.{length, drop, get_or, drop_of_length-le, length-drop}
use lib.Seq.{drop-cons}
use Rattle.std.specs.List.{prefix_len}
use Rattle.std.proofs.lemmas.List.Sums.{sum_by-cons, prefix_len-le-length}
use borrow.Author.Rules.{rules}
use borrow.Author.Tests.{lt-leb, le-leb}
use Rattle.text.specs.Bytes.{between, is_at}
use Rattle.text.specs.Ascii.{ascii}
use Rattle.text.specs.Words.{has_at}
use Rattle.text.proofs.Walk.{Onward, walk_turn, walk_end}
use Rattle.text.proofs.NetworkLaws.{SoundNet, network_sound}
use Rattle.text.proofs.Tests.{by_test, cond_cases, and_right}
use Rattle.text.proofs.ByteLaws.{at_inside, at_is}
use Rattle.site.specs.Url.{printable, ends_authority, until_end, authority_of, is_mud_url}
use Rattle.text.specs.Networks.{network_at}
use Rattle.text.specs.Numbers.{then_read}
use Rattle.text.specs.declared.networks.Net.{Net}
use Rattle.std.specs.Prelude.{Option, Some, None}
use Rattle.std.proofs.lemmas.Option.{some_pair_parts}
use Rattle.site.specs.Line.{word_at, kind_at, name_length, name_ok, rest_at, part, line_at}
use lib.Dec.{ltb, eqb}
use Rattle.site.specs.Site.{line_feeds, item_of, stop}
use Rattle.site.specs.declared.lines.Kind.{Kind}
use Rattle.site.specs.declared.lines.Kind.TheVariants.{Host, Class, Mine, Local, Thing}
use Rattle.site.specs.declared.lines.SiteLine.{SiteLine}

-- ## URLs
-- the authority's length, as the iterator counts it
until_length : (xs : List ℕ) → prefix_len (λ b. not (ends_authority b)) xs ≡ length (until_end xs)
unfolding until_end
until_length [] = refl
until_length (b ∷ bs) = by_test (ends_authority b) (λ e. rw e refl) (λ e. rw (e, until_length bs) (omega arith))

pub authority_counted : (u : List ℕ) {t : List ℕ} → t ≡ drop 8 u → prefix_len (λ b. not (ends_authority b)) t ≡ length (authority_of u)
unfolding authority_of
authority_counted u e = rw e (until_length (drop 8 u))

-- ## lines
pub word_room : (w s : List ℕ) (at : ℕ) (b : Bool) → b ≡ word_at w s at → b ≡ true → at + length w < length s
unfolding word_at
word_room w s at b e y = at_inside s (at + length w) 0x09 (and_right (has_at s at w) _ (sym e ∙ y))

-- where a name ends is a place
pub name_fits : (s : List ℕ) (at n : ℕ) {t : List ℕ} → Fits w64 at → length s < 2 ^ 64 → t ≡ drop at s → n ≡ name_length t → Fits w64 (at + n)
name_fits s at n f l e q =
    let k : n ≡ name_length (drop at s) = q ∙ ap name_length e in
    omega (arith, prefix_len-le-length (between 0x21 0x7E) (drop at s), length-drop at s)

-- there is room after a byte that was found
pub room : (s : List ℕ) (at b : ℕ) (a : Bool) → a ≡ is_at s at b → a ≡ true → at + 1 ≤ length s
room s at b a h y = omega (arith, at_inside s at b (sym h ∙ y))

-- LF bytes from a place on
pub feeds_at : (s : List ℕ) (j : ℕ) → j < length s → line_feeds (drop j s) ≡ cond (eqb (get_or s j 0) 0x0A) 1 0 + line_feeds (drop (suc j) s)
feeds_at s j h = rw (drop-cons s j 0 h) (sum_by-cons (λ b. cond (eqb b 0x0A) 1 0) (get_or s j 0) (drop (suc j) s))

-- named by docs/PORT.md: they stand, though no proof cites them now
module _ (u : List ℕ) (i : ℕ) where
  pub printable_end : printable u ≡ printable (drop i u) → length u ≤ i → true ≡ printable u
  printable_end e h = sym (e ∙ rw (drop_of_length-le u h))

  module _ (h : i < length u) (b : Bool) (t : b ≡ between 0x21 0x7E (get_or u i 0)) where
    pub printable_not : printable u ≡ printable (drop i u) → b ≡ false → false ≡ printable u
    printable_not e n = sym (e ∙ rw (drop-cons u i 0 h, ← t, n))

    pub printable_more : printable u ≡ printable (drop i u) → b ≡ true → printable u ≡ printable (drop (i + 1) u)
    printable_more e n = e ∙ rw (drop-cons u i 0 h, ← t, n, add-one i)

module _ (u : List ℕ) where
  pub url_long : 255 < length u → false ≡ is_mud_url u
  unfolding is_mud_url
  url_long h = rw (lt-leb (length u) 255 h)

  module _ (l : length u ≤ 255) (a : Bool) (p : a ≡ printable u) where
    pub url_unprintable : a ≡ false → false ≡ is_mud_url u
    unfolding is_mud_url
    url_unprintable n = rw (le-leb (length u) 255 l, ← p, n)

    module _ (y : a ≡ true) (b : Bool) (q : b ≡ has_at u 0 (ascii "https://")) where
      pub url_scheme : b ≡ false → false ≡ is_mud_url u
      unfolding is_mud_url has_at
      url_scheme n = rw (le-leb (length u) 255 l, ← p, y, ← q, n)

      pub url_authority : b ≡ true → (k : ℕ) → k ≡ length (authority_of u) → ltb 0 k ≡ is_mud_url u
      unfolding is_mud_url has_at
      url_authority n k e = rw (le-leb (length u) 255 l, ← p, y, ← q, n, e)

-- a name, of which the bytes up to i are passed
module _ (s : List ℕ) (at i : ℕ) (e : at + name_length (drop at s) ≡ i + name_length (drop i s)) (h : i < length s) (b : Bool) (t : b ≡ between 0x21 0x7E (get_or s i 0)) where
  pub name_other : b ≡ false → i ≡ at + name_length (drop at s)
  name_other n = sym (e ∙ rw (drop-cons s i 0 h, ← t, n) (add-zero i))

  pub name_more : b ≡ true → at + name_length (drop at s) ≡ (i + 1) + name_length (drop (i + 1) s)
  name_more n = e ∙ rw (drop-cons s i 0 h, ← t, n, add-one i) (omega arith)

-- the network and the LF of a line
module _ (kind : Kind) (from end : ℕ) (s : List ℕ) (a : Bool) (h : a ≡ is_at s end 0x09) where
  pub rest_tab : a ≡ false → None ≡ rest_at kind from end s
  unfolding rest_at
  rest_tab n = rw (← h, n)

  module _ (y : a ≡ true) (r : Option (Net × ℕ)) (q : r ≡ network_at s (end + 1)) where
    pub rest_none : r ≡ None → None ≡ rest_at kind from end s
    unfolding rest_at
    rest_none n = rw (← h, y, ← q, n)

    module _ (net : Net) (after : ℕ) (n : r ≡ Some (net, after)) (b : Bool) (t : b ≡ is_at s after 0x0A) where
      pub rest_open : b ≡ false → None ≡ rest_at kind from end s
      unfolding rest_at
      rest_open m = rw (← h, y, ← q, n, ← t, m)

      pub rest_line : b ≡ true → Some (record { kind = kind; name = from; end = end; low = net.low; high = net.high; after = after + 1 }) ≡ rest_at kind from end s
      unfolding rest_at
      rest_line m = rw (← h, y, ← q, n, ← t, m)

module _ (s : List ℕ) (at : ℕ) (r : Option (Kind × ℕ)) (h : r ≡ kind_at s at) (kind : Kind) (from : ℕ) (y : r ≡ Some (kind, from)) (end : ℕ) (e : end ≡ from + name_length (drop from s)) (b : Bool) (o : b ≡ name_ok kind (part from end s)) where
  pub line_name : b ≡ false → None ≡ line_at s at
  unfolding line_at
  line_name n = rw (← h, y, ← e, ← o, n)

  pub line_rest : b ≡ true → (q : Option SiteLine) → q ≡ rest_at kind from end s → q ≡ line_at s at
  unfolding line_at
  line_rest n q t = rw (← h, y, ← e, ← o, n) t

-- ## where a line's parts lie
abbrev pub SoundKind : List ℕ → ℕ → Option (Kind × ℕ) → Type 0
SoundKind s at None = Unit {0}
SoundKind s at (Some (kind, from)) = (at < from) × (from ≤ length s)

word_sound : (s : List ℕ) (at : ℕ) (w : List ℕ) (kind : Kind) (r : Option (Kind × ℕ)) → SoundKind s at r → SoundKind s at (cond (word_at w s at) (Some (kind, at + suc (length w))) r)
word_sound s at w kind r h =
    cond_cases (SoundKind s at) (word_at w s at) (λ e. (omega arith, omega (arith, word_room w s at true (sym e) refl))) (λ e. h)

pub kind_sound : (s : List ℕ) (at : ℕ) → SoundKind s at (kind_at s at)
unfolding kind_at
kind_sound s at =
    word_sound s at (ascii "host") Host _
    (word_sound s at (ascii "class") Class _
    (word_sound s at (ascii "mine") Mine _
    (word_sound s at (ascii "local") Local _ (word_sound s at (ascii "thing") Thing None tt))))

pub name_ends_in : (s : List ℕ) (at : ℕ) (r : Option (Kind × ℕ)) → r ≡ kind_at s at → (kind : Kind) (from : ℕ) → r ≡ Some (kind, from) → (end : ℕ) → end ≡ from + name_length (drop from s) → end ≤ length s
name_ends_in s at r h kind from n end e =
    let k : from ≤ length s = (subst (SoundKind s at) (sym h ∙ n) (kind_sound s at)).1 in
    omega (arith, prefix_len-le-length (between 0x21 0x7E) (drop from s), length-drop from s)

-- a line lies behind its start, within the text; so does its name; its network's ends are addresses; and its last byte is an LF
abbrev pub SoundLine : List ℕ → ℕ → Option SiteLine → Type 0
SoundLine s at None = Unit {0}
SoundLine s at (Some l) =
    (at < l.after) × (l.after ≤ length s) × (l.name ≤ l.end) × (l.end ≤ length s) × (l.low ≤ l.high) × (l.high < 4294967296) × (get_or s (l.after - 1) 0 ≡ 0x0A)

rest_sound : (s : List ℕ) (at : ℕ) (kind : Kind) (from end : ℕ) → at < from → from ≤ end → SoundLine s at (rest_at kind from end s)
unfolding rest_at
rest_sound s at kind from end h f = cond_cases (SoundLine s at) (is_at s end 0x09) (λ e. go (network_at s (end + 1)) (network_sound s (end + 1))) (λ e. tt)
  where
    line_feed : (after : ℕ) → is_at s after 0x0A ≡ true → get_or s (after + 1 - 1) 0 ≡ 0x0A
    line_feed after e = let z : after + 1 - 1 ≡ after = omega arith in ap (λ k. get_or s k 0) z ∙ at_is s after 0x0A e

    go : (b : Option (Net × ℕ)) → SoundNet s (end + 1) b → SoundLine s at (then_read b (λ net after. cond (is_at s after 0x0A) (Some (record { kind = kind; name = from; end = end; low = net.low; high = net.high; after = after + 1 })) None))
    go None n = tt
    go (Some (net, after)) n = cond_cases (SoundLine s at) (is_at s after 0x0A) (λ e.
        (omega (arith, n.2), omega (arith, at_inside s after 0x0A e), f, omega (arith, n.2, n.3), n.0, n.1, line_feed after e)) (λ e. tt)

pub line_sound : (s : List ℕ) (at : ℕ) → SoundLine s at (line_at s at)
unfolding line_at
line_sound s at = go (kind_at s at) (kind_sound s at)
  where
    go : (r : Option (Kind × ℕ)) → SoundKind s at r → SoundLine s at (then_read r (λ kind from. cond (name_ok kind (part from (from + name_length (drop from s)) s)) (rest_at kind from (from + name_length (drop from s)) s) None))
    go None h = tt
    go (Some (kind, from)) h = cond_cases (SoundLine s at) (name_ok kind (part from (from + name_length (drop from s)) s)) (λ e. rest_sound s at kind from (from + name_length (drop from s)) (omega arith) (omega arith)) (λ e. tt)

pub lines_onward : (s : List ℕ) → Onward (λ k. item_of (line_at s k)) (length s)
lines_onward s at l k e = go (line_at s at) (line_sound s at) e
  where
    go : (r : Option SiteLine) → SoundLine s at r → item_of r ≡ Some (l, k) → (at < k) × (k ≤ length s)
    go None h q = absurd (let z : ◌≡◌ {A = ℕ} 0 1 = cc in omega arith)
    go (Some m) h q = let z : m.after ≡ k = (some_pair_parts m l m.after k q).1 in (omega arith, omega arith)

-- ## the table
module _ (s : List ℕ) (at : ℕ) (r : Option SiteLine) (h : r ≡ line_at s at) where
  pub stop_here : r ≡ None → stop s 0 ≡ stop s at → at ≡ stop s 0
  unfolding stop
  stop_here n e = sym (e ∙ walk_end (λ k. k) (λ x k. k) _ (length s) (lines_onward s) at (rw (← h, n)))

  module _ (l : SiteLine) (n : r ≡ Some l) where
    pub stop_further : stop s 0 ≡ stop s at → stop s 0 ≡ stop s l.after
    unfolding stop
    stop_further e = e ∙ walk_turn (λ k. k) (λ x k. k) _ (length s) (lines_onward s) at l.after l (rw (← h, n))

    pub stop_less : length s - l.after < length s - at
    stop_less = let w : SoundLine s at (Some l) = subst (SoundLine s at) (sym h ∙ n) (line_sound s at) in omega arith

pub ruleset lining = (rules, authority_counted, name_fits, stop_here, stop_further, stop_less, word_room, room, name_ends_in)
