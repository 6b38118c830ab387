-- The words that are left in the work buffer are the rules of the file.
use Prim.Native.Nat.{ℕ, suc, ◌+◌, ◌*◌, ◌≤◌}
use native.Mathlib.Nat.{add-zero, add-suc}
use native.Mathlib.Numerals.{add-one}
use native.Mathlib.Omega.{arith}
use mathlib.Core.Path.{◌≡◌, refl, sym, ap, ap₂, ◌∙◌, subst}
use mathlib.Core.List.{List, [], ◌∷◌, ◌++◌, map, append_assoc, append-nil}
use lib.Dec.{ltb}
use lib.ListN.{length, take, drop, set, length-append, length-drop, length-map, take-append-drop}
use lib.Seq.{sets, sets-eq, length-sets, take-append_seam, take-set-le, take-set-lt, drop-set-add, length-take-le}
use borrow.Author.Tests.{lt-ltb}
use Rattle.std.proofs.lemmas.List.{take-take}
use Rattle.text.proofs.Tests.{by_test}
use Rattle.flows.specs.Rules.{Rule, rule}
use Rattle.flows.specs.declared.Direction.{Direction}
use Rattle.flows.specs.declared.Direction.TheVariants.{FromDevice, ToDevice}
use Rattle.values.specs.Tree.{Json}
use Rattle.lists.specs.Lists.{entries_of}
use Rattle.site.specs.Site.{lines}
use Rattle.naming.specs.Masks.{network_word, network_words}
use Rattle.naming.proofs.Masking.{lines_long}
use Rattle.builder.specs.Encoding.{box_of, accepting, rules_from, rules_of}
use Rattle.rules.specs.Meaning.{url_of}
use Rattle.rules.specs.Read.{entries_read}
use Rattle.rules.specs.Rows.{rule_words, row_of}
use Rattle.rules.specs.Defaults.{dns_words, ntp_words}
use Rattle.rules.proofs.RowsHold.{rule_rest, rule_long}
use Rattle.reading.specs.declared.Tally.{Tally}
use Rattle.reading.specs.Walked.{more, see, see_all, put_at, put_all, rows_of}
use Rattle.reading.specs.Read.{none, tally_of, entry_words, put_defaults, words_for}
use Rattle.reading.specs.Rules.{rows_for, rule_in, rules_for}
use Rattle.reading.proofs.Walking.{put_long}

-- ## words that are put into a part of a list
take_sets : (n : ℕ) (l : List ℕ) (i : ℕ) (xs : List ℕ) → n ≤ i → take n (sets l i xs) ≡ take n l
take_sets n l i [] h = refl
take_sets n l i (x ∷ xs) h = take_sets n (set l i x) (suc i) xs (omega arith) ∙ take-set-le n l i x h

drop_sets : (n : ℕ) (l : List ℕ) (i : ℕ) (xs : List ℕ) → drop n (sets l (n + i) xs) ≡ sets (drop n l) i xs
drop_sets n l i [] = refl
drop_sets n l i (x ∷ xs) =
    let z : suc (n + i) ≡ n + suc i = sym (add-suc n i) in
    ap (λ (k : ℕ). drop n (sets (set l (n + i) x) k xs)) z ∙ drop_sets n (set l (n + i) x) (suc i) xs ∙ ap (λ (r : List ℕ). sets r (suc i) xs) (drop-set-add n l i x)

within_sets : (n : ℕ) (l : List ℕ) (i : ℕ) (xs : List ℕ) → i + length xs ≤ n → take n (sets l i xs) ≡ sets (take n l) i xs
within_sets n l i [] h = refl
within_sets n l i (x ∷ xs) h = within_sets n (set l i x) (suc i) xs (omega arith) ∙ ap (λ (r : List ℕ). sets r (suc i) xs) (take-set-lt n l i x (omega arith))

-- the rules of a work buffer
abbrev part : List ℕ → List ℕ
part w = drop 169 (take 1555 w)

part_sets : (w : List ℕ) (k : ℕ) (row : List ℕ) → k ≤ 65 → length row ≤ 21 → part (sets w (169 + 21 * k) row) ≡ sets (part w) (21 * k) row
part_sets w k row h l = ap (drop 169) (within_sets 1555 w (169 + 21 * k) row (omega arith)) ∙ drop_sets 169 (take 1555 w) (21 * k) row

part_long : (w : List ℕ) → 1555 ≤ length w → length (part w) ≡ 1386
part_long w h = length-drop 169 (take 1555 w) ∙ omega (arith, length-take-le 1555 w h)

-- ## rows that stand one after the other, 21 words apart
abbrev Held : List (List ℕ) → List ℕ → Type 0
Held [] r = Unit {0}
Held (row ∷ rows) r = (take (length row) r ≡ row) × Held rows (drop 21 r)

abbrev Short : List (List ℕ) → Type 0
Short [] = Unit {0}
Short (row ∷ rows) = (length row ≤ 21) × Short rows

held_put : (rows : List (List ℕ)) (row r : List ℕ) → Held rows r → Short rows → length row ≤ 21 → 21 * length rows + 21 ≤ length r → Held (rows ++ (row ∷ [])) (sets r (21 * length rows) row)
held_put [] row r h s l k =
    let e : sets r 0 row ≡ row ++ drop (0 + length row) r = sets-eq row r 0 (omega arith) in
    (ap (take (length row)) e ∙ take-append_seam row (drop (0 + length row) r), tt)
held_put (q ∷ rows) row r h s l k =
    let z : 21 * suc (length rows) ≡ 21 + 21 * length rows = omega arith in
    let i = held_put rows row (drop 21 r) h.1 s.1 l (omega (arith, length-drop 21 r)) in
    (take_sets (length q) r (21 * suc (length rows)) row (omega (arith, s.0)) ∙ h.0, subst (Held (rows ++ (row ∷ []))) (sym (ap (λ (n : ℕ). drop 21 (sets r n row)) z ∙ drop_sets 21 r (21 * length rows) row)) i)

short_append : (a b : List (List ℕ)) → Short a → Short b → Short (a ++ b)
short_append [] b s t = t
short_append (row ∷ a) b s t = (s.0, short_append a b s.1 t)

-- a row put behind k others
held_on : (rows : List (List ℕ)) (row w : List ℕ) (k : ℕ) → k ≡ length rows → k ≤ 65 → 1555 ≤ length w → Held rows (part w) → Short rows → length row ≤ 21 → Held (rows ++ (row ∷ [])) (part (sets w (169 + 21 * k) row))
held_on rows row w k e h long a s l =
    let z = part_sets w k row h l in
    let i = held_put rows row (part w) a s l (omega (arith, part_long w long)) in
    subst (Held (rows ++ (row ∷ []))) (sym (z ∙ ap (λ (n : ℕ). sets (part w) (21 * n) row) e)) i

held_all : (new done : List (List ℕ)) (w : List ℕ) (k : ℕ) → k ≡ length done → k + length new ≤ 64 → 1555 ≤ length w → Held done (part w) → Short done → Short new → Held (done ++ new) (part (put_all k new w))
unfolding put_all put_at more
held_all [] done w k e h long a s t = subst (λ (x : List (List ℕ)). Held x (part w)) (sym (append-nil done)) a
held_all (row ∷ new) done w k e h long a s t =
    rw (lt-ltb k 64 (omega arith), lt-ltb k 65 (omega arith), add-one k)
    (let w' = sets w (169 + 21 * k) row in
    let i = held_on done row w k e (omega arith) long a s t.0 in
    let n : suc k ≡ length (done ++ (row ∷ [])) = omega (arith, length-append done (row ∷ [])) in
    let j = held_all new (done ++ (row ∷ [])) w' (suc k) n (omega arith) (subst (λ (m : ℕ). 1555 ≤ m) (sym (length-sets w (169 + 21 * k) row)) long) i (short_append done (row ∷ []) s (t.0, tt)) t.1 in
    subst (λ (x : List (List ℕ)). Held x (part (put_all (suc k) new w'))) (append_assoc done (row ∷ []) new) j)

-- ## the rules that such rows are
abbrev Told : List ℕ → List (List ℕ) → Type 0
Told nets [] = Unit {0}
Told nets (row ∷ rows) = ((rest : List ℕ) → rule_in nets (row ++ rest) ≡ rule_in nets row) × Told nets rows

held_rules : (nets : List ℕ) (rows : List (List ℕ)) (r : List ℕ) → Held rows r → Told nets rows → rules_from (length rows) nets r ≡ map (rule_in nets) rows
unfolding rules_from
held_rules nets [] r h t = refl
held_rules nets (row ∷ rows) r h t =
    let e : r ≡ row ++ drop (length row) r = sym (ap (λ (x : List ℕ). x ++ drop (length row) r) (sym h.0) ∙ take-append-drop (length row) r) in
    ap₂ (λ (x : Rule) (xs : List Rule). x ∷ xs) (ap (rule_in nets) e ∙ t.0 (drop (length row) r)) (held_rules nets rows (drop 21 r) h.1 t.1)

told_append : (nets : List ℕ) (a b : List (List ℕ)) → Told nets a → Told nets b → Told nets (a ++ b)
told_append nets [] b s t = t
told_append nets (row ∷ a) b s t = (s.0, told_append nets a b s.1 t)

module _ (d : Direction) (site url : List ℕ) where
  rows_short : (es : List Json) → Short (rows_of d site url es)
  rows_short [] = tt
  rows_short (e ∷ es) = (rule_long d site url e, rows_short es)

  rows_told : (nets : List ℕ) (es : List Json) → Told nets (rows_of d site url es)
  rows_told nets [] = tt
  rows_told nets (e ∷ es) = (told e, rows_told nets es)
    where
      told : (e : Json) (rest : List ℕ) → rule_in nets (rule_words d site url e ++ rest) ≡ rule_in nets (rule_words d site url e)
      told e rest = unfold rule_words row_of in ap (rule (accepting (rule_words d site url e))) (rule_rest nets d site url e rest)

  -- ## the count
  pub counted : (es : List Json) (t : Tally) → t.count + length es ≤ 64 → (see_all d es t).count ≡ t.count + length es
  unfolding see_all see more
  counted [] t h = sym (add-zero t.count)
  counted (e ∷ es) t h =
      let z : (see d e t).count ≡ t.count + 1 = rw (lt-ltb t.count 65 (omega arith)) in
      counted es (see d e t) (omega arith) ∙ omega arith

-- ## the networks in front
pub networks_long : (site : List ℕ) → length (network_words site) ≡ 64
unfolding network_words
networks_long site = lines_long 0 network_word 64 (lines site 0)

put_front : (n k : ℕ) (rows : List (List ℕ)) (w : List ℕ) → n ≤ 169 → take n (put_all k rows w) ≡ take n w
unfolding put_all put_at
put_front n k [] w h = refl
put_front n k (row ∷ rows) w h = put_front n (more k) rows (put_at k row w) h ∙ by_test (ltb k 64) (λ e. rw e (take_sets n w (169 + 21 * k) row (omega arith))) (λ e. rw e)

module _ (file : Json) (site w : List ℕ) (few : entries_read file ≤ 64) (long : 1555 ≤ length w) where
  abbrev from : List Json
  from = entries_of FromDevice file

  abbrev to : List Json
  to = entries_of ToDevice file

  abbrev url : List ℕ
  url = url_of file

  abbrev rows_from : List (List ℕ)
  rows_from = rows_of FromDevice site url from

  abbrev rows_to : List (List ℕ)
  rows_to = rows_of ToDevice site url to

  abbrev w₀ : List ℕ
  w₀ = network_words site ++ drop 64 w

  long₀ : length w₀ ≡ length w
  long₀ = length-append (network_words site) (drop 64 w) ∙ omega (arith, networks_long site, length-drop 64 w)

  count_from : (see_all FromDevice from none).count ≡ length from
  unfolding entries_read
  count_from = counted FromDevice site url from none (omega arith) ∙ omega arith

  -- the tally's count
  pub count_is : (tally_of file).count ≡ entries_read file
  unfolding tally_of entries_read
  count_is = counted ToDevice site url to (see_all FromDevice from none) (omega (arith, count_from)) ∙ omega (arith, count_from)

  abbrev w₁ : List ℕ
  w₁ = put_all 0 rows_from w₀

  abbrev w₂ : List ℕ
  w₂ = put_all (length from) rows_to w₁

  entry_words_lem : entry_words site file w₀ ≡ w₂
  unfolding entry_words
  entry_words_lem = ap (λ (n : ℕ). put_all n rows_to w₁) count_from

  long₁ : length w₁ ≡ length w
  long₁ = put_long 0 rows_from w₀ ∙ long₀

  long₂ : length w₂ ≡ length w
  long₂ = put_long (length from) rows_to w₁ ∙ long₁

  held_from : Held rows_from (part w₁)
  unfolding entries_read
  held_from = held_all rows_from [] w₀ 0 refl (omega (arith, length-map from (rule_words FromDevice site url))) (omega (arith, long₀)) tt tt (rows_short FromDevice site url from)

  held_to : Held (rows_from ++ rows_to) (part w₂)
  unfolding entries_read
  held_to =
      held_all rows_to rows_from w₁ (length from) (sym (length-map from (rule_words FromDevice site url))) (omega (arith, length-map to (rule_words ToDevice site url))) (omega (arith, long₁))
      held_from (rows_short FromDevice site url from) (rows_short ToDevice site url to)

  abbrev n : ℕ
  n = entries_read file

  abbrev dns : List ℕ
  dns = dns_words site

  abbrev ntp : List ℕ
  ntp = ntp_words site

  abbrev w₃ : List ℕ
  w₃ = sets w₂ (169 + 21 * n) dns

  abbrev w₄ : List ℕ
  w₄ = sets w₃ (169 + 21 * n + 21) ntp

  words_are : words_for site file w ≡ w₄
  unfolding words_for put_defaults
  words_are = ap₂ (λ (k : ℕ) (x : List ℕ). put_defaults k site x) count_is entry_words_lem ∙ rw (lt-ltb n 65 (omega arith))

  rows_count : length (rows_from ++ rows_to) ≡ n
  unfolding entries_read
  rows_count = length-append rows_from rows_to ∙ omega (arith, length-map from (rule_words FromDevice site url), length-map to (rule_words ToDevice site url))

  rows_all_short : Short (rows_from ++ rows_to)
  rows_all_short = short_append rows_from rows_to (rows_short FromDevice site url from) (rows_short ToDevice site url to)

  dns_short : length dns ≤ 21
  unfolding dns_words
  dns_short = omega arith

  ntp_short : length ntp ≤ 21
  unfolding ntp_words
  ntp_short = omega arith

  held_dns : Held ((rows_from ++ rows_to) ++ (dns ∷ [])) (part w₃)
  held_dns = held_on (rows_from ++ rows_to) dns w₂ n (sym rows_count) (omega arith) (omega (arith, long₂)) held_to rows_all_short dns_short

  held_ntp : Held (((rows_from ++ rows_to) ++ (dns ∷ [])) ++ (ntp ∷ [])) (part w₄)
  held_ntp =
      let z : 169 + 21 * n + 21 ≡ 169 + 21 * suc n = omega arith in
      let e : suc n ≡ length ((rows_from ++ rows_to) ++ (dns ∷ [])) = omega (arith, length-append (rows_from ++ rows_to) (dns ∷ []), rows_count) in
      let l : 1555 ≤ length w₃ = omega (arith, length-sets w₂ (169 + 21 * n) dns, long₂) in
      subst (λ (k : ℕ). Held (((rows_from ++ rows_to) ++ (dns ∷ [])) ++ (ntp ∷ [])) (part (sets w₃ k ntp))) (sym z)
      (held_on ((rows_from ++ rows_to) ++ (dns ∷ [])) ntp w₃ (suc n) e (omega arith) l held_dns (short_append (rows_from ++ rows_to) (dns ∷ []) rows_all_short (dns_short, tt)) ntp_short)

  regroup : ((rows_from ++ rows_to) ++ (dns ∷ [])) ++ (ntp ∷ []) ≡ rows_for file site
  unfolding rows_for
  regroup = append_assoc (rows_from ++ rows_to) (dns ∷ []) (ntp ∷ []) ∙ append_assoc rows_from rows_to (dns ∷ (ntp ∷ []))

  rows_all_told : Told (network_words site) (rows_for file site)
  unfolding rows_for dns_words ntp_words box_of Rattle.builder.specs.Encoding.limits_of Rattle.builder.specs.Encoding.name_limits
  rows_all_told =
      told_append (network_words site) rows_from (rows_to ++ (dns ∷ (ntp ∷ []))) (rows_told FromDevice site url (network_words site) from)
      (told_append (network_words site) rows_to (dns ∷ (ntp ∷ [])) (rows_told ToDevice site url (network_words site) to) ((λ rest. refl), ((λ rest. refl), tt)))

  rows_length : length (rows_for file site) ≡ n + 2
  unfolding rows_for
  rows_length = length-append rows_from (rows_to ++ (dns ∷ (ntp ∷ []))) ∙ omega (arith, length-append rows_to (dns ∷ (ntp ∷ [])), length-append rows_from rows_to, rows_count)

  networks_kept : take 64 (take 1555 w₄) ≡ network_words site
  networks_kept =
      take-take 64 1555 w₄ (omega arith) ∙ take_sets 64 w₃ (169 + 21 * n + 21) ntp (omega arith) ∙ take_sets 64 w₂ (169 + 21 * n) dns (omega arith)
      ∙ put_front 64 (length from) rows_to w₁ (omega arith) ∙ put_front 64 0 rows_from w₀ (omega arith)
      ∙ ap (λ (k : ℕ). take k w₀) (sym (networks_long site)) ∙ take-append_seam (network_words site) (drop 64 w)

  -- THE WORK BUFFER HOLDS THE RULES OF THE FILE, and nothing else matters of what it held
  pub rules_held : rules_of (entries_read file + 2) (words_for site file w) ≡ rules_for file site
  unfolding rules_of rules_for
  rules_held =
      ap (rules_of (n + 2)) words_are
      ∙ ap₂ (λ (k : ℕ) (nets : List ℕ). rules_from k nets (part w₄)) (sym rows_length) networks_kept
      ∙ held_rules (network_words site) (rows_for file site) (part w₄) (subst (λ (rows : List (List ℕ)). Held rows (part w₄)) regroup held_ntp) rows_all_told
