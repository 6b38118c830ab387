-- Laws of what members are asked to be.
use Rattle.jsontext.specs.declared.Bad.{Bad}
use Rattle.std.specs.Prelude.{Option, None, Some, Result, Ok, Err}
use Prim.Native.Nat.{ℕ, zero, suc, ◌+◌, ◌/◌, ◌%◌, ◌≤◌, ◌<◌}
use native.Mathlib.Omega.{arith}
use native.Mathlib.Numerals.{add-one}
use mathlib.Core.Path.{◌≡◌, refl, sym, ap, ◌∙◌, subst}
use mathlib.Core.List.{List, [], ◌∷◌, ◌++◌, append-nil, append_assoc}
use mathlib.Core.Bool.{Bool, true, false, ◌&&◌, cond, and-false, and_assoc}
use lib.ListN.{length, take, set, length-take, length-append, length-set, drop_of_length-le}
use lib.Seq.{take-suc-set, drop-cons}
use lib.Dec.{ltb, leb}
use borrow.Author.Rules.{rules}
use borrow.Author.Tests.{eq-eqb, ne_eqb, le-leb, lt-leb, le-ltb, lt-ltb, leb-true, ltb-true, eqb-true}
use Rattle.std.specs.Option.{is_some}
use Rattle.text.specs.Ascii.{ascii}
use Rattle.text.proofs.Tests.{by_test, both, clash, and_left, and_right}
use Rattle.jsontext.specs.declared.Next.{Next}
use Rattle.jsontext.specs.declared.Next.TheVariants.{Done, More}
use Rattle.jsontext.specs.Reading.{is_space, span_at, element_at, value_at}
use Rattle.values.specs.declared.Piece.{Piece}
use Rattle.values.specs.Decode.{piece_at, before, bytes_at, first_of, rest_of}
use Rattle.values.specs.Clean.{all_bytes}
use Rattle.values.proofs.Decoding.{string_turn}
use Rattle.values.proofs.Comparing.{first_nil, first_is, both_less}
use Rattle.values.specs.Tree.{Json, Elements, no_more, element, elements_after, items, items_from, tree_at, lookup, is_null}
use Rattle.values.specs.Rules.{must, may}
use Rattle.values.proofs.Walking.{elements_turn, element_after_done, element_after_wrong, element_after_more}
use Rattle.values.proofs.Patterns.{text_is, text_not}
use Rattle.text.specs.Bytes.{between, is_at}
use Rattle.text.specs.Numbers.{number_at, quad_at, then_read}
use Rattle.text.specs.Networks.{net_of, network_at}
use Rattle.text.specs.Written.{decimal_by, decimal, quad}
use Rattle.text.specs.declared.networks.Net.{Net}
use Rattle.text.proofs.ByteLaws.{between_high, at_inside, at_is}
use Rattle.text.proofs.NumberLaws.{Sound, number_sound, quad_sound}
use Rattle.text.proofs.ReadBack.{number_spelt, quad_spelt}
use Rattle.text.proofs.WrittenLaws.{length_below, quad_short}
use Rattle.site.specs.Url.{is_mud_url, printable}
use Rattle.header.specs.Asked.{whole_net, is_network, net_in, one_null, is_null_array, obeys}
use Rattle.header.specs.Copied.{copied_of, CopiedTo}
use Rattle.header.specs.Header.{header_ok}
use Rattle.header.specs.declared.asked.Form.TheVariants.{Url}
use Rattle.header.specs.declared.asked.Asked.TheVariants.{Text, Boolean, Integer, Spelt}

-- ## `[null]`
module _ (j : Json) (d : ℕ) (s : List ℕ) {r : Option ℕ} (e : items j ≡ items_from d s r) where
  pub nulls_empty : r ≡ None → false ≡ is_null_array j
  nulls_empty q = rw (e, q)

  module _ {k : ℕ} (q : r ≡ Some k) {d' : ℕ} (z : d' ≡ d) {i : ℕ} (g : i ≡ span_at is_space s k) {x : Bool} (u : x ≡ is_null (tree_at d' s i)) where
    one : is_null_array j ≡ one_null (element (tree_at d' s i) (elements_after d' s k))
    one = rw (e, q, ← z, elements_turn d' s k, ← g)

    not_null : (j : Json) (es : Elements) → is_null j ≡ false → false ≡ one_null (element j es)
    not_null j no_more n = sym n
    not_null j (element k es) n = refl

    pub nulls_not : x ≡ false → false ≡ is_null_array j
    nulls_not n = not_null (tree_at d' s i) (elements_after d' s k) (sym u ∙ n) ∙ sym one

    module _ (y : x ≡ true) {m : Result Next Bad} (v : m ≡ element_at (value_at d' s) s k) where
      pub nulls_done : {o : Next} → m ≡ Ok o → {l : ℕ} → o ≡ Done l → true ≡ is_null_array j
      nulls_done w w₂ = sym (one ∙ rw (element_after_done d' s k v w w₂) (sym u ∙ y))

      pub nulls_wrong : {l : Bad} → m ≡ Err l → true ≡ is_null_array j
      nulls_wrong w = sym (one ∙ rw (element_after_wrong d' s k v w) (sym u ∙ y))

      pub nulls_more : {o : Next} → m ≡ Ok o → {l : ℕ} → o ≡ More l → false ≡ is_null_array j
      nulls_more w w₂ = sym (one ∙ rw (element_after_more d' s k v w w₂, elements_turn d' s _))

-- ## copying: n bytes of the string b are copied, and p has what is left
pub record Copying (b before₀ s : List ℕ) (p : Piece) (n : ℕ) (buf : List ℕ) : Type 0 where
  pub parts : b ≡ take n buf ++ before p (bytes_at s)
  pub bytes : all_bytes (take n buf) ≡ true
  pub inside : n ≤ length buf
  pub same : length buf ≡ length before₀

length-take-le : (n : ℕ) (l : List ℕ) → n ≤ length l → length (take n l) ≡ n
length-take-le n l h = simp length-take (omega arith)

all_append : (xs ys : List ℕ) → all_bytes (xs ++ ys) ≡ (all_bytes xs && all_bytes ys)
unfolding all_bytes
all_append [] ys = refl
all_append (x ∷ xs) ys = by_test (ltb x 256) (λ e. rw (e, all_append xs ys)) (λ e. rw e)

pub copying_start : (s : List ℕ) (at : ℕ) (buf : List ℕ) (p : Piece) → p ≡ piece_at s at → Copying (bytes_at s at) buf s p 0 buf
unfolding all_bytes
copying_start s at buf p e = record { parts = string_turn s at ∙ ap (λ (q : Piece). before q (bytes_at s)) (sym e); bytes = refl; inside = omega arith; same = refl }

module _ (b before₀ s : List ℕ) (p : Piece) (n : ℕ) (buf : List ℕ) (c : Copying b before₀ s p n buf) {h : Option ℕ} (e : h ≡ first_of p) where
  pub copying_end : h ≡ None → CopiedTo b before₀ buf (Some n)
  unfolding copied_of
  copying_end q =
      let whole : b ≡ take n buf = c.parts ∙ rw (first_nil s p (sym e ∙ q)) (append-nil (take n buf)) in
      let long : length b ≡ n = ap length whole ∙ length-take-le n buf c.inside in
      let good : (leb (length b) (length before₀) && all_bytes b) ≡ true = both (leb (length b) (length before₀)) (all_bytes b) (le-leb (length b) (length before₀) (omega (arith, c.inside, c.same))) (ap all_bytes whole ∙ c.bytes) in
      record { answer = rw (good, long); room = c.same; held = λ t. ap (λ k. take k buf) long ∙ sym whole }

  pub copying_all : length buf ≤ n → h ≡ None → CopiedTo b before₀ buf (Some (length buf))
  copying_all l q = let z : n ≡ length buf = omega (arith, l, c.inside) in subst (λ (k : ℕ). CopiedTo b before₀ buf (Some k)) z (copying_end q)

  module _ {a : ℕ} (q : h ≡ Some a) where
    left : b ≡ take n buf ++ (a ∷ before (rest_of s p) (bytes_at s))
    left = c.parts ∙ ap (λ l. take n buf ++ l) (first_is s p a (sym e ∙ q))

    refused : (leb (length b) (length before₀) && all_bytes b) ≡ false → CopiedTo b before₀ buf None
    unfolding copied_of
    refused f = record { answer = rw f; room = c.same; held = λ t. clash t f }

    pub copying_wide : 256 ≤ a → CopiedTo b before₀ buf None
    copying_wide l = refused (let w : all_bytes b ≡ false = rw (left, all_append (take n buf) (a ∷ before (rest_of s p) (bytes_at s)), c.bytes) (unfold all_bytes in rw (le-ltb a 256 l)) in rw w (and-false (leb (length b) (length before₀))))

    copying_full : length buf ≤ n → CopiedTo b before₀ buf None
    copying_full l = refused (let w : leb (length b) (length before₀) ≡ false = lt-leb (length b) (length before₀) (omega (arith, ap length left ∙ length-append (take n buf) (a ∷ before (rest_of s p) (bytes_at s)), length-take-le n buf c.inside, c.inside, c.same)) in rw w)

    pub copying_more : a < 256 → n < length buf → {y : ℕ} → y ≡ a → {x : Piece} → x ≡ rest_of s p → Copying b before₀ s x (n + 1) (set buf n y)
    copying_more l k w m =
        let t : take (n + 1) (set buf n a) ≡ take n buf ++ (a ∷ []) = rw (add-one) (take-suc-set buf n a k) in
        rw w
        (record {
          parts = left ∙ (rw (t, m) (sym (append_assoc (take n buf) (a ∷ []) (before (rest_of s p) (bytes_at s)))));
          bytes = rw (t, all_append (take n buf) (a ∷ []), c.bytes) (unfold all_bytes in rw (lt-ltb a 256 l));
          inside = rw (length-set) (omega arith);
          same = rw (length-set) c.same;
        })

pub copying_over : (b before₀ s : List ℕ) (p : Piece) (n : ℕ) (buf : List ℕ) → Copying b before₀ s p n buf → {h : Option ℕ} → h ≡ first_of p → length buf ≤ n → is_some h ≡ true → CopiedTo b before₀ buf None
copying_over b before₀ s p n buf c {h = None} e l q = clash q refl
copying_over b before₀ s p n buf c {h = Some a} e l q = copying_full b before₀ s p n buf c e refl l

pub ruleset copying = (rules, copying_start, copying_end, copying_all, copying_wide, copying_over, copying_more, both_less)

-- ## URLs and networks that were copied
module _ (b before₀ after : List ℕ) (r : Option ℕ) (c : CopiedTo b before₀ after r) where
  pub copied_bytes : {n : ℕ} → r ≡ Some n → (take n after ≡ b) × (length b ≡ n) × (n ≤ length after)
  unfolding copied_of
  copied_bytes {n} q = by_test (leb (length b) (length before₀) && all_bytes b)
      (λ t. let e : length b ≡ n = bytes_same (length b) n (rw t at (sym c.answer ∙ q)) in (rw (← e) (c.held t), e, omega (arith, leb-true (length b) (length before₀) (and_left (leb (length b) (length before₀)) (all_bytes b) t), c.room)))
      (λ t. absurd (long_not n (rw t at (sym c.answer ∙ q))))
    where
      bytes_same : (m k : ℕ) → Some m ≡ Some k → m ≡ k
      bytes_same m k e = cc

      long_not : (k : ℕ) → ◌≡◌ {A = Option ℕ} None (Some k) → ⊥
      long_not k e = let z : ◌≡◌ {A = ℕ} 0 1 = cc in omega arith

  pub copied_not : r ≡ None → (leb (length b) (length before₀) && all_bytes b) ≡ false
  unfolding copied_of
  copied_not q = by_test (leb (length b) (length before₀) && all_bytes b) (λ t. absurd (not_long (length b) (rw t at (sym c.answer ∙ q)))) (λ t. t)
    where
      not_long : (k : ℕ) → ◌≡◌ {A = Option ℕ} (Some k) None → ⊥
      not_long k e = let z : ◌≡◌ {A = ℕ} 0 1 = cc in omega arith

printable_all : (b : List ℕ) → printable b ≡ true → all_bytes b ≡ true
unfolding all_bytes
printable_all [] e = refl
printable_all (x ∷ xs) e =
    both (ltb x 256) (all_bytes xs) (lt-ltb x 256 (omega (arith, between_high 0x21 0x7E x (and_left _ _ e)))) (printable_all xs (and_right (between 0x21 0x7E x) _ e))

pub url_copied : (b before₀ after : List ℕ) (r : Option ℕ) → CopiedTo b before₀ after r → length before₀ ≡ 255 → r ≡ None → false ≡ is_mud_url b
unfolding is_mud_url
url_copied b before₀ after r c l q =
    by_test (leb (length b) 255)
    (λ e. rw e (by_test (printable b)
    (λ p. clash (both (leb (length b) (length before₀)) (all_bytes b) (rw l e) (printable_all b p)) (copied_not b before₀ after r c q))
    (λ p. rw p)))
    (λ e. rw e)

pub url_whole : (b before₀ after : List ℕ) (r : Option ℕ) → CopiedTo b before₀ after r → {n : ℕ} → r ≡ Some n → {x : Bool} → x ≡ is_mud_url (take n after) → x ≡ is_mud_url b
url_whole b before₀ after r c q h = h ∙ ap is_mud_url (copied_bytes b before₀ after r c q).0

-- ## a network is short, and of bytes
decimal_by_bytes : (f n : ℕ) → all_bytes (decimal_by f n) ≡ true
unfolding decimal_by all_bytes
decimal_by_bytes zero n = refl
decimal_by_bytes (suc f) n =
    by_test (ltb n 10)
    (λ e. rw (e, lt-ltb (0x30 + n) 256 (omega (arith, ltb-true n 10 e))))
    (λ e. rw (e, all_append (decimal_by f (n / 10)) ((0x30 + n % 10) ∷ []), decimal_by_bytes f (n / 10)) (unfold all_bytes in rw (lt-ltb (0x30 + n % 10) 256 (omega arith))))

decimal_bytes : (n : ℕ) → all_bytes (decimal n) ≡ true
unfolding decimal
decimal_bytes n = decimal_by_bytes (suc n) n

quad_bytes : (a : ℕ) → all_bytes (quad a) ≡ true
unfolding quad all_bytes
quad_bytes a =
    rw (all_append, decimal_bytes (a / 16777216), all_append, decimal_bytes (a / 65536 % 256), all_append, decimal_bytes (a / 256 % 256), decimal_bytes (a % 256))

-- what a network text is
pub record Spelling (b : List ℕ) : Type 0 where
  pub v : ℕ
  pub m : ℕ
  pub address : v ≤ 0xFFFFFFFF
  pub short : m ≤ 32
  pub is : b ≡ quad v ++ (0x2F ∷ decimal m)

network_spelling : (b : List ℕ) → is_network b ≡ true → Spelling b
unfolding is_network network_at
network_spelling b = go (quad_at b 0) refl
  where
    last : (v i : ℕ) → Some (v, i) ≡ quad_at b 0 → is_at b i 0x2F ≡ true → (q : Option (ℕ × ℕ)) → q ≡ number_at 32 b (i + 1) → whole_net b (then_read q (λ n j. Some (net_of n v true, j))) ≡ true → Spelling b
    last v i e t None f h = clash h refl
    last v i e t (Some (m, j)) f h =
        let z : j ≡ length b = eqb-true j (length b) (unfold net_of in h) in
        let k : j ≤ length b = omega arith in
        let l : length b ≤ j = omega arith in
        record {
          v = v;
          m = m;
          address = (subst (Sound 0xFFFFFFFF b 0) (sym e) (quad_sound b 0)).0;
          short = (subst (Sound 32 b (i + 1)) (sym f) (number_sound 32 b (i + 1))).0;
          is = (quad_spelt b 0 v i e).0 ∙ ap (λ l. quad v ++ l) (drop-cons b i 0 (at_inside b i 0x2F t) ∙ (rw (at_is b i 0x2F t, ← add-one i) (ap {B = List ℕ} (λ l. 0x2F ∷ l) ((number_spelt 32 b (i + 1) m j f).0 ∙ (rw (drop_of_length-le b l) (append-nil (decimal m)))))));
        }

    go : (q : Option (ℕ × ℕ)) → q ≡ quad_at b 0 → whole_net b (then_read q (λ a i. cond (is_at b i 0x2F) (then_read (number_at 32 b (i + 1)) (λ n j. Some (net_of n a true, j))) (Some (net_of 32 a false, i)))) ≡ true → Spelling b
    go None e h = clash h refl
    go (Some (v, i)) e h =
        by_test (is_at b i 0x2F)
        (λ t. last v i e t (number_at 32 b (i + 1)) refl (rw t at h))
        (λ t. clash (rw t at h) (unfold net_of in refl))

network_short : (b : List ℕ) → is_network b ≡ true → (length b ≤ 18) × (all_bytes b ≡ true)
network_short b h =
    let p = network_spelling b h in (
      rw p.is (omega (arith, length-append (quad p.v) (0x2F ∷ decimal p.m), quad_short p.v p.address, length_below 1 p.m (omega (arith, p.short)))),
      rw (p.is, all_append (quad p.v) (0x2F ∷ decimal p.m), quad_bytes p.v) (unfold all_bytes in decimal_bytes p.m),
    )

pub net_copied : (b before₀ after : List ℕ) (r : Option ℕ) → CopiedTo b before₀ after r → length before₀ ≡ 18 → r ≡ None → None ≡ net_in b
unfolding net_in
net_copied b before₀ after r c l q =
    by_test (is_network b)
    (λ e. let k = network_short b e in clash (both (leb (length b) (length before₀)) (all_bytes b) (rw l (le-leb (length b) 18 k.0)) k.1) (copied_not b before₀ after r c q))
    (λ e. rw e)

module _ (b before₀ buf : List ℕ) (r : Option ℕ) (c : CopiedTo b before₀ buf r) {n : ℕ} (q : r ≡ Some n) {x : Option (Net × ℕ)} (e : x ≡ network_at (take n buf) 0) where
  same_net : x ≡ network_at b 0
  same_net = e ∙ ap (λ l. network_at l 0) (copied_bytes b before₀ buf r c q).0

  pub net_none : x ≡ None → None ≡ net_in b
  unfolding net_in is_network
  net_none z = rw (← same_net, z)

  module _ {net : Net} {after : ℕ} (z : x ≡ Some (net, after)) where
    pub net_bare : net.given ≡ false → None ≡ net_in b
    unfolding net_in is_network
    net_bare g = rw (← same_net, z, g)

    module _ (g : net.given ≡ true) where
      pub net_rest : (after ≡ n → ⊥) → None ≡ net_in b
      unfolding net_in is_network
      net_rest f = rw (← same_net, z, g, ne_eqb after (length b) (λ h. f (h ∙ (copied_bytes b before₀ buf r c q).1)))

      pub net_whole : after ≡ n → Some (net, after) ≡ net_in b
      unfolding net_in is_network
      net_whole f = rw (← same_net, z, g, eq-eqb after (length b) (f ∙ sym (copied_bytes b before₀ buf r c q).1))

pub net_there : (b : List ℕ) → is_some (net_in b) ≡ is_network b
unfolding net_in
net_there b = by_test (is_network b) (λ t. rw t (go (network_at b 0) (unfold is_network in t))) (λ f. rw f)
  where
    go : (x : Option (Net × ℕ)) → whole_net b x ≡ true → is_some x ≡ true
    go None h = clash h refl
    go (Some (net, after)) h = refl

pub copied_in : (b before₀ after : List ℕ) (r : Option ℕ) → CopiedTo b before₀ after r → {n : ℕ} → r ≡ Some n → n ≤ length after
copied_in b before₀ after r c q = (copied_bytes b before₀ after r c q).2

pub copied_count : (b before₀ after : List ℕ) (r : Option ℕ) → CopiedTo b before₀ after r → {n : ℕ} → r ≡ Some n → n ≡ length (take n after)
copied_count b before₀ after r c {n} q = sym (length-take-le n after (copied_in b before₀ after r c q))

pub ruleset copied = (rules, copied_in, copied_count, url_copied, url_whole, net_copied, net_none, net_bare, net_rest, net_whole)

-- ## the header
pub header_is : (mud : Json) → header_ok mud
    ≡ (((must (lookup (ascii "mud-version") mud) (obeys (Integer 1 1)) && must (lookup (ascii "mud-url") mud) (obeys (Spelt Url)))
    && (must (lookup (ascii "last-update") mud) (obeys Text) && must (lookup (ascii "is-supported") mud) (obeys Boolean)))
    && may (lookup (ascii "cache-validity") mud) (obeys (Integer 1 168)))
unfolding header_ok
header_is mud = simp and_assoc

-- named by docs/PORT.md: they stand, though no proof cites them now
module _ (mud : Json) {a : Bool} (e : a ≡ must (lookup (ascii "mud-version") mud) (obeys (Integer 1 1))) where
  pub header_version : a ≡ false → false ≡ header_ok mud
  unfolding header_ok
  header_version n = rw (← e, n)

  module _ (y : a ≡ true) {b : Bool} (f : b ≡ must (lookup (ascii "mud-url") mud) (obeys (Spelt Url))) where
    pub header_url : b ≡ false → false ≡ header_ok mud
    unfolding header_ok
    header_url n = rw (← e, y, ← f, n)

    module _ (z : b ≡ true) {c : Bool} (g : c ≡ must (lookup (ascii "last-update") mud) (obeys Text)) where
      pub header_update : c ≡ false → false ≡ header_ok mud
      unfolding header_ok
      header_update n = rw (← e, y, ← f, z, ← g, n)

      module _ (w : c ≡ true) {d : Bool} (h : d ≡ must (lookup (ascii "is-supported") mud) (obeys Boolean)) where
        pub header_supported : d ≡ false → false ≡ header_ok mud
        unfolding header_ok
        header_supported n = rw (← e, y, ← f, z, ← g, w, ← h, n)

        pub header_validity : d ≡ true → {r : Bool} → r ≡ may (lookup (ascii "cache-validity") mud) (obeys (Integer 1 168)) → r ≡ header_ok mud
        unfolding header_ok
        header_validity n q = rw (← e, y, ← f, z, ← g, w, ← h, n) q

pub ruleset asking = (rules, text_not, text_is, nulls_empty, nulls_not, nulls_done, nulls_wrong, nulls_more)
