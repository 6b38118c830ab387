-- Laws of rules in words.
use Rattle.std.specs.Prelude.{Option, None, Some, option_to_list}
use Rattle.std.specs.List.{flat_map}
use Prim.Native.Nat.{ℕ, suc, ◌+◌, ◌-◌, ◌≤◌, ◌<◌}
use native.Mathlib.Numerals.{add-one}
use native.Mathlib.Omega.{arith}
use mathlib.Core.Path.{◌≡◌, refl, sym, ap, ◌∙◌, subst}
use mathlib.Core.Bool.{Bool}
use mathlib.Core.List.{List, [], ◌∷◌, ◌++◌, append_assoc, append-nil}
use lib.ListN.{length, set, take, get_or}
use Rattle.std.proofs.lemmas.List.{take_more, take_all}
use Rattle.std.proofs.lemmas.List.Concat.{flat_map-append}
use lib.Seq.{sets, set_out, set_comm}
use borrow.Author.Rules.{rules}
use Rattle.text.specs.Ascii.{ascii}
use Rattle.text.specs.Written.{Put}
use Rattle.text.proofs.WrittenLaws.{and_then}
use Rattle.flows.specs.declared.Direction.{Direction}
use Rattle.jsontext.proofs.Runs.{past_is}
use Rattle.values.specs.Decode.{bytes_at}
use Rattle.values.specs.Rules.{bytes_in, StringAt, under}
use Rattle.values.specs.Tree.{Json, tree_at, seen}
use Rattle.values.proofs.Patterns.{text_is, text_not, string_found}
use Rattle.site.specs.Url.{authority_of, same_host, same_authority, same_name}
use Rattle.site.specs.declared.lines.Kind.{Kind}
use Rattle.site.specs.declared.lines.Kind.TheVariants as kind
use Rattle.naming.specs.Named.{names}
use Rattle.naming.specs.Masks.{named_mask}
use Rattle.naming.specs.Wanted.{kind_of, test_of}
use Rattle.naming.specs.declared.wanted.Wanted.{Wanted}
use Rattle.naming.specs.declared.wanted.Wanted.TheVariants.{Host, Class, Mine, Local, Model, Maker, Kin}
use Rattle.entries.specs.Sound.{remote_name}
use Rattle.entries.specs.declared.places.Mud.{Mud}
use Rattle.entries.specs.declared.places.Matches.{Matches}
use Rattle.entries.specs.declared.places.Entry.{Entry}
use Rattle.rules.specs.Meaning.{entry_accepts}
use Rattle.rules.specs.Names.{mask_if, masked, thing_masks, class_mask, null_masks, mud_masks, host_mask, mask_words}
use Rattle.rules.specs.Rows.{row_of, row_words, limit_words, rule_words}
use Rattle.rules.specs.Defaults.{default_row, default_words}
use Rattle.rules.specs.declared.rows.Row.{Row}

-- ## words at their places
module _ (l : List ℕ) (at x : ℕ) where
  pub word_put : (m : List ℕ) → m ≡ set l at x → Put l at (x ∷ []) (at + 1) m
  word_put m e = record { place = refl; text = e }

  pub word_out : length l ≤ at → Put l at (x ∷ []) (at + 1) l
  word_out h = record { place = refl; text = sym (set_out l at x h) }

-- the first k words are put
pub words_start : (l : List ℕ) (at : ℕ) (xs : List ℕ) → Put l at (take 0 xs) (at + 0) l
words_start l at xs = record { place = refl; text = refl }

pub words_more : {l m o : List ℕ} {at k r : ℕ} (xs : List ℕ) → Put l at (take k xs) (at + k) m → k < length xs → Put m (at + k) (get_or xs k 0 ∷ []) r o → Put l at (take (k + 1) xs) (at + (k + 1)) o
words_more {l} {m} {o} {at} {k} {r} xs e h f =
    rw (take_more xs k 0 h) (and_then e (record { place = omega (arith, f.place); text = f.text }))

pub words_end : {l m : List ℕ} {at k p : ℕ} (xs : List ℕ) → Put l at (take k xs) p m → length xs ≤ k → Put l at xs (at + length xs) m
words_end {l} {m} {at} {k} {p} xs e h =
    let z : take k xs ≡ xs = take_all k xs h in
    record { place = refl; text = rw z at e.text }

pub row_put : {l m : List ℕ} {at r : ℕ} {xs : List ℕ} (b : Row) → xs ≡ row_words b → Put l at xs r m → Put l at (row_words b) r m
row_put {l} {m} {at} {r} b e f = subst (λ (w : List ℕ). Put l at w r m) e f

-- ## masks
pub masks_more : {l m o : List ℕ} {at p r k : ℕ} (xs : List (Option ℕ)) → Put l at (flat_map option_to_list (take k xs)) p m → (h : k < length xs) {x : ℕ} → get_or xs k None ≡ Some x → Put m p (x ∷ []) r o → Put l at (flat_map option_to_list (take (k + 1) xs)) r o
masks_more {l} {m} {o} {at} {p} {r} {k} xs e h q f =
    rw (take_more xs k None h, flat_map-append option_to_list (take k xs) (get_or xs k None ∷ []), q) (and_then e f)

pub masks_same : {l m : List ℕ} {at p k : ℕ} (xs : List (Option ℕ)) → Put l at (flat_map option_to_list (take k xs)) p m → (h : k < length xs) → get_or xs k None ≡ None → Put l at (flat_map option_to_list (take (k + 1) xs)) p m
masks_same {l} {m} {at} {p} {k} xs e h q = rw (take_more xs k None h, flat_map-append option_to_list (take k xs) (get_or xs k None ∷ []), q, append-nil) e

pub masks_end : {l m : List ℕ} {at p k : ℕ} (xs : List (Option ℕ)) → Put l at (flat_map option_to_list (take k xs)) p m → length xs ≤ k → Put l at (flat_map option_to_list xs) p m
masks_end {l} {m} {at} {p} {k} xs e h = let z : take k xs ≡ xs = take_all k xs h in rw z at e

abbrev wanted_mask : List ℕ → List ℕ → Wanted → ℕ
wanted_mask s site w = named_mask (names (kind_of w) (test_of s w) site) site

-- the mask of a member that is named: by the string that it is, or by something else
abbrev MaskOf : List ℕ → List ℕ → Option ℕ → Wanted → List ℕ → Type 0
MaskOf s site f w l = l ≡ mask_if (seen (tree_at 7 s) f) (wanted_mask s site w)

module _ (s site w : List ℕ) (m : Option Json) (f : Option ℕ) (e : under w m ≡ seen (tree_at 7 s) f) {l : List ℕ} where
  by_string : (k : Kind) (test : List ℕ → List ℕ → Bool) {p : ℕ} → StringAt s f p → l ≡ mask_if (seen (tree_at 7 s) f) (masked k (test (bytes_at s p)) site) → l ≡ mask_if (under w m) (masked k (test (bytes_in (under w m))) site)
  by_string k test {p} a h = h ∙ ap (λ (b : List ℕ). mask_if (seen (tree_at 7 s) f) (masked k (test b) site)) (string_found (under w m) 7 s f e a) ∙ ap (λ (n : Option Json). mask_if n (masked k (test (bytes_in (under w m))) site)) (sym e)

  by_member : (x : ℕ) → l ≡ mask_if (seen (tree_at 7 s) f) x → l ≡ mask_if (under w m) x
  by_member x h = h ∙ ap (λ (n : Option Json). mask_if n x) (sym e)

pub mud_masks_are : (m : Mud) (site : List ℕ) (url : ℕ) {a b c : ℕ} (x₁ x₂ x₃ x₄ x₅ x₆ : Option ℕ) →
    StringAt m.s.now m.manufacturer a → MaskOf m.s.now site m.manufacturer (Maker a) (option_to_list x₁) →
    StringAt m.s.now m.model b → MaskOf m.s.now site m.model (Model b) (option_to_list x₂) →
    StringAt m.s.now m.controller c → MaskOf m.s.now site m.controller (Class c) (option_to_list x₃) →
    MaskOf m.s.now site m.kin (Kin url) (option_to_list x₄) → MaskOf m.s.now site m.local Local (option_to_list x₅) → MaskOf m.s.now site m.mine (Mine url) (option_to_list x₆) →
    flat_map option_to_list (x₁ ∷ (x₂ ∷ (x₃ ∷ (x₄ ∷ (x₅ ∷ (x₆ ∷ [])))))) ≡ mud_masks site (bytes_at m.s.now url) (seen (tree_at 8 m.s.now) m.found)
unfolding thing_masks class_mask null_masks
mud_masks_are m site url x₁ x₂ x₃ x₄ x₅ x₆ a₁ p₁ a₂ p₂ a₃ p₃ p₄ p₅ p₆ =
    let s = m.s.now in
    let j = seen (tree_at 8 s) m.found in
    rw (
      by_string s site (ascii "manufacturer") j m.manufacturer m.held.manufacturer_is kind.Thing (λ b n. same_authority (authority_of n) b) a₁ p₁,
      by_string s site (ascii "model") j m.model m.held.model_is kind.Thing (λ b n. same_name n b) a₂ p₂,
      by_string s site (ascii "controller") j m.controller m.held.controller_is kind.Class (λ b n. same_name n b) a₃ p₃,
      by_member s site (ascii "same-manufacturer") j m.kin m.held.kin_is (wanted_mask s site (Kin url)) p₄,
      by_member s site (ascii "local-networks") j m.local m.held.local_is (wanted_mask s site Local) p₅,
      by_member s site (ascii "my-controller") j m.mine m.held.mine_is (wanted_mask s site (Mine url)) p₆,
    ) (simp (append_assoc, append-nil))

pub host_mask_is : (d : Direction) (s site : List ℕ) (ipv4 : Option Json) (f : Option ℕ) {a : ℕ} {l : List ℕ} →
    under (remote_name d) ipv4 ≡ seen (tree_at 7 s) f → StringAt s f a → MaskOf s site f (Host a) l → l ≡ host_mask d site ipv4
unfolding host_mask
host_mask_is d s site ipv4 f e a p = by_string s site (remote_name d) ipv4 f e kind.Host (λ b n. same_host n b) a p

pub names_put : {l m o : List ℕ} {at p r : ℕ} (d : Direction) (site : List ℕ) (url : ℕ) (a : Matches) (b : Mud) (xs : List (Option ℕ)) (x : Option ℕ) →
    (b.s.now ≡ a.s.now) × (b.found ≡ a.mud) → flat_map option_to_list xs ≡ mud_masks site (bytes_at b.s.now url) (seen (tree_at 8 b.s.now) b.found) → Put l at (flat_map option_to_list xs) p m →
    option_to_list x ≡ host_mask d site (seen (tree_at 8 a.ipv4.s.now) a.ipv4.found) → Put m p (flat_map option_to_list (x ∷ [])) r o →
    Put l at (mask_words d site (bytes_at a.s.now url) (seen (tree_at 9 a.s.now) a.found)) r o
unfolding mask_words
names_put {l} {m} {o} {at} {p} {r} d site u y b xs x f a g i j =
    let s = y.s.now in
    let url = bytes_at s u in
    let mud = seen (tree_at 8 s) y.mud in
    let host = host_mask d site (seen (tree_at 8 s) y.ipv4.found) in
    let k : option_to_list x ≡ host = i ∙ ap (λ (t : List ℕ). host_mask d site (seen (tree_at 8 t) y.ipv4.found)) y.in_file in
    let q : flat_map option_to_list xs ≡ mud_masks site url mud = a ∙ ap (λ (t : List ℕ). mud_masks site (bytes_at t u) (seen (tree_at 8 t) b.found)) f.0 ∙ ap (λ (n : Option ℕ). mud_masks site url (seen (tree_at 8 s) n)) f.1 in
    rw (y.held.mud_is, y.held.ipv4_is)
    (subst (λ (w : List ℕ). Put l at w r o)
    (append_assoc (thing_masks site mud) (class_mask site mud ++ null_masks site url mud) host ∙ ap (λ (w : List ℕ). thing_masks site mud ++ w) (append_assoc (class_mask site mud) (null_masks site url mud) host))
    (and_then (subst (λ (w : List ℕ). Put l at w p m) q g) (subst (λ (w : List ℕ). Put m p w r o) (append-nil (option_to_list x) ∙ k) j)))

-- ## the count before the masks
sets_set : (l : List ℕ) (i at x : ℕ) (xs : List ℕ) → i < at → set (sets l at xs) i x ≡ sets (set l i x) at xs
sets_set l i at x [] h = refl
sets_set l i at x (y ∷ xs) h = sets_set (set l at y) i (suc at) x xs (omega arith) ∙ ap (λ (k : List ℕ). sets k (suc at) xs) (set_comm l at i y x (λ e. omega arith))

pub limits_put : {l m o : List ℕ} {at r z : ℕ} (d : Direction) (site url : List ℕ) (x : Option Json) → Put l (at + 1) (mask_words d site url x) r m → Put m at ((r - (at + 1)) ∷ []) z o → Put l at (limit_words d site url x) r o
limits_put {l} {m} {o} {at} {r} d site url x p e =
    let xs = mask_words d site url x in
    let z : r - (at + 1) ≡ length xs = omega (arith, p.place) in
    record { place = omega (arith, p.place); text = e.text ∙ rw (z, p.text, add-one at) (sets_set l at (suc at) (length xs) xs (omega arith)) }

-- ## the parts of a rule

-- ## what the rule says
pub rule_put : {l m o : List ℕ} {at p q : ℕ} {a : Bool} (d : Direction) (site : List ℕ) (url : ℕ) (e : Entry) {r : Row} →
    a ≡ entry_accepts (tree_at 10 e.s.now e.at) → r ≡ row_of a d (seen (tree_at 9 e.matches.s.now) e.matches.found) → Put l at (row_words r) p m →
    Put m p (limit_words d site (bytes_at e.matches.s.now url) (seen (tree_at 9 e.matches.s.now) e.matches.found)) q o → Put l at (rule_words d site (bytes_at e.s.now url) (tree_at 10 e.s.now e.at)) q o
unfolding rule_words
rule_put {l} {m} {o} {at} {p} {q} {a} d site url e z y g h =
    let s = e.s.now in
    let row : _ ≡ row_of a d (seen (tree_at 9 s) e.matches.found) = y ∙ ap (λ (t : List ℕ). row_of a d (seen (tree_at 9 t) e.matches.found)) e.in_file in
    rw (e.held.matches_is, ← z)
    (and_then (subst (λ (w : Row). Put l at (row_words w) p m) row g)
    (subst (λ (t : List ℕ). Put m p (limit_words d site (bytes_at t url) (seen (tree_at 9 t) e.matches.found)) q o) e.in_file h))

-- ## the defaults
pub default_put : {l m o : List ℕ} {at p r x : ℕ} {b : Row} (site class : List ℕ) (port : ℕ) → b ≡ default_row port → Put l at (row_words b) p m → x ≡ masked kind.Class (λ n. same_name n class) site → Put m p (1 ∷ (x ∷ [])) r o → Put l at (default_words site class port) r o
default_put {l} {m} {o} {at} {p} {r} site class port e g h k =
    and_then (subst (λ (w : Row). Put l at (row_words w) p m) e g) (subst (λ (z : ℕ). Put m p (1 ∷ (z ∷ [])) r o) h k)

pub ruleset rowing = (rules, past_is, word_put, word_out, words_start, words_more, words_end, row_put, masks_more, masks_same, masks_end, mud_masks_are, host_mask_is, names_put, limits_put, text_is, text_not, rule_put, default_put)
