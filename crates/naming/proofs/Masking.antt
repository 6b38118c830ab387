-- Laws of the words, places and masks.
use Rattle.std.specs.Prelude.{Ok, Option, Some, None}
use Prim.Native.Nat.{ℕ, zero, suc, ◌+◌, ◌-◌, ◌*◌, ◌/◌, ◌%◌, ◌^◌, ◌≤◌, ◌<◌}
use mir.Syntax.{w64}
use mir.Val.{Fits}
use native.Mathlib.Nat.{add-zero, zero-add, mul-zero, mul-one, one-mul, mul-add, add-mul, two-mul, two-pow-succ, pow-le-pow_right, mod-eq_of_lt}
use native.Mathlib.Numerals.{add-one}
use native.Mathlib.Omega.{arith}
use mathlib.Core.Path.{◌≡◌, refl, sym, ap, ◌∙◌}
use mathlib.Core.Bool.{Bool, true, false, cond}
use mathlib.Core.List.{List, [], ◌∷◌, ◌++◌, map, append-nil, append_assoc}
use lib.ListN.{length, take, drop, get_or, set, length-set, take-append-drop, drop_of_length-le}
use lib.Seq.{take-suc-set, drop-set-lt, drop-nil, drop-drop}
use borrow.Author.Rules.{rules}
use Rattle.std.proofs.Common.{Option, Some, None}
use Rattle.std.proofs.lemmas.Option.{none-some}
use Rattle.text.proofs.Tests.{by_test}
use Rattle.flows.specs.Rules.{in_some}
use Rattle.builder.specs.Encoding.{range_if, named_by}
use Rattle.site.specs.Line.{line_at}
use Rattle.site.specs.Site.{lines, judged}
use Rattle.site.specs.declared.lines.Kind.{Kind}
use Rattle.site.specs.declared.lines.SiteLine.{SiteLine}
use Rattle.naming.specs.Named.{names, in_named}
use Rattle.naming.specs.Masks.{network_word, place_of, lines_to, network_words, PlacesOf, names_at, mask_of, named_mask}
use Rattle.naming.specs.declared.networks.Place.{Place}
use Rattle.naming.proofs.Lines.{lines_end, lines_turn, line_parts, Each, lines_each, lines_few, site_short}

abbrev pub some_place : SiteLine → Option Place
some_place l = Some (place_of l)

-- ## words or places: j of them are written, and the lines from `at` on are left
pub record Loading {A : Type 0} (none : A) (word : SiteLine → A) (site : List ℕ) (before₀ : List A) (at j : ℕ) (words : List A) : Type 0 where
  pub room : j ≤ 64
  pub long : length words ≡ length before₀
  pub done : lines_to none word 64 (lines site 0) ≡ take j words ++ lines_to none word (64 - j) (lines site at)
  pub left : drop j words ≡ drop j before₀

pub loading_start : {A : Type 0} (none : A) (word : SiteLine → A) (site : List ℕ) (words : List A) → Loading none word site words 0 0 words
loading_start none word site words = record { room = omega arith; long = refl; done = refl; left = refl }

module _ {A : Type 0} {none : A} {word : SiteLine → A} {site : List ℕ} {before₀ : List A} {at j : ℕ} {words : List A} (c : Loading none word site before₀ at j words) where
  loaded : 64 ≤ j → words ≡ lines_to none word 64 (lines site 0) ++ drop 64 before₀
  unfolding lines_to
  loaded h =
      let z : j ≡ 64 = omega (arith, c.room) in
      let d : lines_to none word 64 (lines site 0) ≡ take 64 words = rw z at c.done ∙ append-nil (take 64 words) in
      let l : drop 64 words ≡ drop 64 before₀ = rw z at c.left in
      sym (rw (d, ← l) (take-append-drop 64 words))

  module _ (h : j < 64) (k : 64 ≤ length before₀) where
    pub loading_inside : j < length words
    loading_inside = omega (arith, c.long)

    put : (w : A) (after : ℕ) → lines_to none word (suc (63 - j)) (lines site at) ≡ w ∷ lines_to none word (63 - j) (lines site after) → Loading none word site before₀ after (j + 1) (set words j w)
    put w after e =
        let y : 64 - j ≡ suc (63 - j) = omega arith in
        let z : 64 - suc j ≡ 63 - j = omega arith in
        let d : lines_to none word 64 (lines site 0) ≡ take j words ++ (w ∷ lines_to none word (63 - j) (lines site after)) = c.done ∙ ap (λ l. take j words ++ l) (ap (λ n. lines_to none word n (lines site at)) y ∙ e) in
        let t : take (suc j) (set words j w) ≡ take j words ++ (w ∷ []) = take-suc-set words j w loading_inside in
        let u : drop (suc j) (set words j w) ≡ drop (suc j) words = drop-set-lt (suc j) words j w (omega arith) in
        let v : drop (suc j) words ≡ drop (suc j) before₀ = rw (← add-one j) (sym (drop-drop 1 j words) ∙ ap (drop 1) c.left ∙ drop-drop 1 j before₀) in
        rw (add-one j) (record {
          room = omega arith;
          long = length-set words j w ∙ c.long;
          done = d ∙ (rw (t, z) (sym (append_assoc (take j words) (w ∷ []) (lines_to none word (63 - j) (lines site after)))));
          left = u ∙ v;
        })

    module _ {r : Option SiteLine} (e : r ≡ line_at site at) where
      pub loading_none : r ≡ None → Loading none word site before₀ at (j + 1) (set words j none)
      unfolding lines_to
      loading_none q = put none at (rw (lines_end site at e q))

      pub loading_line : {l : SiteLine} → r ≡ Some l → {w : A} → w ≡ word l → Loading none word site before₀ l.after (j + 1) (set words j w)
      unfolding lines_to
      loading_line {l} q {w} f = put w l.after (rw (lines_turn site at e q, f))

pub networks_loaded : {site before₀ words : List ℕ} {at j : ℕ} → Loading 0 network_word site before₀ at j words → 64 ≤ j → words ≡ network_words site ++ drop 64 before₀
unfolding network_words
networks_loaded c h = loaded c h

module _ {site : List ℕ} {before₀ : List (Option Place)} {at j : ℕ} {places : List (Option Place)} (c : Loading None some_place site before₀ at j places) (h : j < 64) (k : length before₀ ≡ 64) {r : Option SiteLine} (e : r ≡ line_at site at) where
  pub places_none : r ≡ None → Loading None some_place site before₀ at (j + 1) (set places j None)
  places_none q = loading_none c h (omega arith) e q

  pub places_line : {l : SiteLine} → r ≡ Some l → {x : Place} → x ≡ place_of l → Loading None some_place site before₀ l.after (j + 1) (set places j (Some x))
  places_line q f = loading_line c h (omega arith) e q (ap Some f)

pub places_loaded : {site : List ℕ} {before₀ words : List (Option Place)} {at j : ℕ} → Loading None some_place site before₀ at j words → 64 ≤ j → length before₀ ≡ 64 → judged site ≡ Ok tt → PlacesOf site words
places_loaded {site} {before₀} c h k s =
    let o : length before₀ ≤ 64 = omega arith in
    (s, loaded c h ∙ rw (drop_of_length-le before₀ o) (append-nil (lines_to None some_place 64 (lines site 0))))

module _ (site : List ℕ) (at : ℕ) (h : judged site ≡ Ok tt) {r : Option SiteLine} (e : r ≡ line_at site at) {l : SiteLine} (q : r ≡ Some l) where
  pub line_name : l.name ≤ 8192
  line_name = omega (arith, (line_parts site at e q).2, (line_parts site at e q).3, site_short site h)

  pub line_end : l.end ≤ 8192
  line_end = omega (arith, (line_parts site at e q).3, site_short site h)

-- ## a line by its place
abbrev Inside : List ℕ → SiteLine → Type 0
Inside site l = (l.name ≤ l.end) × (l.end ≤ length site)

abbrev first_place : List SiteLine → Option Place
first_place [] = None
first_place (l ∷ ls) = some_place l

place_at : (k j : ℕ) (ls : List SiteLine) → j < k → get_or (lines_to None some_place k ls) j None ≡ first_place (drop j ls)
unfolding lines_to
place_at zero j ls h = absurd (omega arith)
place_at (suc k) zero [] h = refl
place_at (suc k) zero (l ∷ ls) h = refl
place_at (suc k) (suc j) [] h = place_at k j [] (omega arith) ∙ ap first_place (drop-nil j)
place_at (suc k) (suc j) (l ∷ ls) h = place_at k j ls (omega arith)

pub lines_long : {A : Type 0} (none : A) (one : SiteLine → A) (k : ℕ) (ls : List SiteLine) → length (lines_to none one k ls) ≡ k
unfolding lines_to
lines_long none one zero ls = refl
lines_long none one (suc k) [] = ap suc (lines_long none one k [])
lines_long none one (suc k) (l ∷ ls) = ap suc (lines_long none one k ls)

each_drop : (P : SiteLine → Type 0) (j : ℕ) (ls : List SiteLine) → Each P ls → Each P (drop j ls)
each_drop P zero ls e = e
each_drop P (suc j) [] e = e
each_drop P (suc j) (l ∷ ls) e = each_drop P j ls e.1

-- ## the masks: the first j lines give m
pub record Masking (named : SiteLine → Bool) (site : List ℕ) (j m : ℕ) : Type 0 where
  pub small : m < 2 ^ j
  pub whole : named_mask named site ≡ m + 2 ^ j * mask_of (map named (drop j (lines site 0)))

module _ (on : Bool) (j : ℕ) where
  -- named by docs/PORT.md: they stand, though no proof cites them now
  pub bit_off : on ≡ false → 0 ≡ cond on (2 ^ j) 0
  bit_off n = rw n

  pub bit_on : on ≡ true → j < 64 → 1 * 2 ^ j % 18446744073709551616 ≡ cond on (2 ^ j) 0
  bit_on n h =
      let p : 2 ^ j ≤ 9223372036854775808 = pow-le-pow_right (omega arith) {i = j} {j = 63} (omega arith) in
      let s : 2 ^ j < 18446744073709551616 = omega arith in
      rw (n, one-mul (2 ^ j)) (mod-eq_of_lt s)

pub masking_start : (named : SiteLine → Bool) (site : List ℕ) → Masking named site 0 0
unfolding named_mask
masking_start named site = record { small = omega arith; whole = sym (zero-add _ ∙ one-mul _) }

module _ (named : SiteLine → Bool) (site : List ℕ) (j m : ℕ) (c : Masking named site j m) where
  none_left : drop j (lines site 0) ≡ [] → m ≡ named_mask named site
  unfolding mask_of
  none_left q = sym (c.whole ∙ rw q (ap (λ k. m + k) (mul-zero (2 ^ j)) ∙ add-zero m))

  pub masking_end : (places : List (Option Place)) → PlacesOf site places → 64 ≤ j → m ≡ named_mask named site
  masking_end places p h = let l : length (lines site 0) ≤ j = omega (arith, lines_few site p.0) in none_left (drop_of_length-le (lines site 0) l)

the_place : {x y : Place} → Some x ≡ Some y → x ≡ y
the_place e = cc

-- of a line's place a name is what it is of the line
pub place_names : (kind : Kind) (test : List ℕ → Bool) (site : List ℕ) (l : SiteLine) → names_at kind test site (place_of l) ≡ names kind test site l
unfolding names_at names
place_names kind test site l = refl

-- place j is for line j, if there are so many
module _ (site : List ℕ) (places : List (Option Place)) (p : PlacesOf site places) (j : ℕ) (h : j < 64) where
  by_line : {A : Type 0} → (drop j (lines site 0) ≡ [] → get_or places j None ≡ None → A) → ((l : SiteLine) (ls : List SiteLine) → drop j (lines site 0) ≡ l ∷ ls → get_or places j None ≡ some_place l → Inside site l → A) → A
  by_line {A} none some =
      go (drop j (lines site 0)) refl (each_drop (Inside site) j (lines site 0) (lines_each (Inside site) site (λ at l s. (s.2, s.3)) 0))
      (ap (λ (a : List (Option Place)). get_or a j None) p.1 ∙ place_at 64 j (lines site 0) h)
    where
      go : (ls : List SiteLine) → drop j (lines site 0) ≡ ls → Each (Inside site) ls → get_or places j None ≡ first_place ls → A
      go [] q s f = none q f
      go (l ∷ ls) q s f = some l ls q f s.0

  module _ (kind : Kind) (test : List ℕ → Bool) (m : ℕ) (c : Masking (names kind test site) site j m) where
    pub masking_stop : get_or places j None ≡ None → m ≡ named_mask (names kind test site) site
    masking_stop z = by_line (λ q y. none_left (names kind test site) site j m c q) (λ l ls q f s. absurd (none-some (place_of l) (sym z ∙ f)))

  module _ {x : Place} (z : get_or places j None ≡ Some x) where
    by_place : {A : Type 0} → ((l : SiteLine) (ls : List SiteLine) → drop j (lines site 0) ≡ l ∷ ls → x ≡ place_of l → Inside site l → A) → A
    by_place some = by_line (λ q y. absurd (none-some x (sym y ∙ z))) (λ l ls q f s. some l ls q (the_place (sym z ∙ f)) s)

    pub place_ordered : x.name ≤ x.end
    place_ordered = by_place (λ l ls q f s. rw f s.0)

    pub place_inside : x.end ≤ length site
    place_inside = by_place (λ l ls q f s. rw f s.1)

    module _ (kind : Kind) (test : List ℕ → Bool) (m : ℕ) (c : Masking (names kind test site) site j m) {b : Bool} (f : b ≡ names_at kind test site x) {y : ℕ} (g : y ≡ cond b (2 ^ j) 0) where
      bit_below : y ≤ 2 ^ j
      bit_below = rw g (by_test b (λ y. rw y (omega arith)) (λ y. rw y (omega arith)))

      sum_below : m + y < 2 ^ suc j
      sum_below = rw (two-pow-succ j) (omega (arith, c.small, bit_below))

      pub masking_fits : Fits w64 (m + y)
      masking_fits =
          let q : 2 ^ suc j ≤ 18446744073709551616 = pow-le-pow_right (omega arith) {i = suc j} {j = 64} h in
          omega (arith, sum_below)

      pub masking_more : Masking (names kind test site) site (j + 1) (m + y)
      unfolding mask_of
      masking_more = by_place (λ l ls q f' s.
          let a : b ≡ names kind test site l = f ∙ ap (names_at kind test site) f' ∙ place_names kind test site l in
          let d : drop (j + 1) (lines site 0) ≡ ls = sym (drop-drop 1 j (lines site 0)) ∙ ap (drop 1) q in
          record { small = rw (add-one j) sum_below; whole = c.whole ∙ rw (q, d, ← a, add-one j, two-pow-succ j, g) (turn b (2 ^ j) (mask_of (map (names kind test site) ls))) })
        where
          turn : (b : Bool) (p k : ℕ) → m + p * (cond b 1 0 + 2 * k) ≡ m + cond b p 0 + (p + p) * k
          turn b p k =
              let s : (p + p) * k ≡ p * k + p * k = add-mul p p k in
              let t : p * (2 * k) ≡ p * k + p * k = ap (λ n. p * n) (two-mul k) ∙ mul-add p k k in
              by_test b
              (λ y. rw y (let u : p * (1 + 2 * k) ≡ p * 1 + p * (2 * k) = mul-add p 1 (2 * k) in let v : p * 1 ≡ p = mul-one p in omega arith))
              (λ y. rw y (let u : p * (0 + 2 * k) ≡ p * (2 * k) = ap (λ n. p * n) (zero-add (2 * k)) in omega arith))

-- of a `Site` a proof knows its bytes, which are those of its text
module _ {t v : List ℕ} (e : t ≡ v) where
  pub places_known : (places : List (Option Place)) → PlacesOf t places → PlacesOf v places
  places_known places p = rw (← e) p

  pub names_known : (kind : Kind) (test : List ℕ → Bool) (p : Place) {b : Bool} → b ≡ names_at kind test t p → b ≡ names_at kind test v p
  names_known kind test p f = rw (← e) f

pub ruleset masking = (rules, line_name, line_end, loading_start, loading_inside, loading_none, loading_line, networks_loaded, places_none, places_line, places_loaded, bit_on, masking_start, masking_end, place_ordered, place_inside, masking_stop, masking_fits, masking_more, places_known, names_known)

-- ## what a mask says
no_names : (k : ℕ) → named_by 0 (lines_to 0 network_word k []) ≡ []
unfolding named_by lines_to range_if
no_names zero = refl
no_names (suc k) = no_names k

module _ (low high : ℕ) (h : high < 4294967296) where
  low_is : (low * 4294967296 + high) / 4294967296 ≡ low
  low_is = omega arith

  high_is : (low * 4294967296 + high) % 4294967296 ≡ high
  high_is = omega arith

holds : (named : SiteLine → Bool) (a k : ℕ) (ls : List SiteLine) → length ls ≤ k → Each (λ l. l.high < 4294967296) ls → in_some (named_by (mask_of (map named ls)) (lines_to 0 network_word k ls)) a ≡ in_named named ls a
unfolding in_some named_by mask_of lines_to in_named range_if
holds named a k [] h s = rw (no_names k)
holds named a zero (l ∷ ls) h s = absurd (omega arith)
holds named a (suc k) (l ∷ ls) h s =
    let i = holds named a k ls (omega arith) s.1 in
    by_test (named l)
    (λ e.
    let p : (1 + 2 * mask_of (map named ls)) % 2 ≡ 1 = omega arith in
    let q : (1 + 2 * mask_of (map named ls)) / 2 ≡ mask_of (map named ls) = omega arith in
    rw (e, p, q, low_is l.low l.high s.0, high_is l.low l.high s.0, i))
    (λ e.
    let p : (0 + 2 * mask_of (map named ls)) % 2 ≡ 0 = omega arith in
    let q : (0 + 2 * mask_of (map named ls)) / 2 ≡ mask_of (map named ls) = omega arith in
    rw (e, p, q, i))

-- A MASK OVER THE WORDS NAMES THE ADDRESSES THAT THE LINES NAME
pub mask_holds : (named : SiteLine → Bool) (site : List ℕ) (a : ℕ) → length (lines site 0) ≤ 64 → in_some (named_by (named_mask named site) (network_words site)) a ≡ in_named named (lines site 0) a
unfolding named_mask network_words
mask_holds named site a h = holds named a 64 (lines site 0) h (lines_each (λ l. l.high < 4294967296) site (λ at l s. s.5) 0)
