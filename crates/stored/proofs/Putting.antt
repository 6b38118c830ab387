-- Laws of the text of a table, written into a buffer. Assumes nothing.
use Prim.Native.Nat.{ℕ, suc, ◌+◌, ◌*◌, ◌/◌, ◌%◌, ◌^◌, ◌≤◌, ◌<◌}
use native.Mathlib.Omega.{arith}
use mathlib.Core.Path.{◌≡◌, ap, sym, ◌∙◌, subst}
use mathlib.Core.List.{List, [], ◌∷◌, ◌++◌, append_assoc}
use lib.ListN.{length, length-append}
use lib.Dec.{eqb}
use lib.Seq.{length-sets}
use mathlib.Core.Bool.{true, ◌&&◌, ◌||◌}
use mathlib.Core.Logic.{◌⊎◌, inl, inr}
use borrow.Author.Tests.{eqb-true}
use borrow.Author.Rules.{rules}
use Rattle.text.proofs.Tests.{and_left, and_right, or_split}
use Rattle.flows.specs.Canonical.{flow_ends, flow_line, LineIn}
use Rattle.text.specs.Written.{decimal, quad, Put}
use Rattle.text.proofs.WrittenLaws.{and_then, length_below, quad_short}
use Rattle.flows.specs.Table.{◌to◌, Line, Table}
use Rattle.flows.specs.Flow.{widths}
use Rattle.stored.specs.declared.lines.Line as struct
use Rattle.stored.specs.Line.{ranges}
use Rattle.stored.proofs.Spelling.{Read-as, as_read}
use Rattle.stored.specs.Text.{nth, range_text, address_text, line_text, table_text}
use Rattle.stored.specs.Words.{Fits}
use Rattle.stored.specs.Writing.{range_parts, quad_parts}

-- ## room for what is put, part after part
pub room_first : (at n : ℕ) (xs ys : List ℕ) → at + length (xs ++ ys) ≤ n → at + length xs ≤ n
room_first at n xs ys h = omega (arith, length-append xs ys)

pub room_next : {l m : List ℕ} {at p : ℕ} {xs : List ℕ} (ys : List ℕ) → Put l at xs p m → at + length (xs ++ ys) ≤ length l → p + length ys ≤ length m
room_next {l} {m} {at} {p} {xs} ys a h =
    let k : length m ≡ length l = ap length a.text ∙ length-sets l at xs in
    omega (arith, a.place, length-append xs ys)

-- a range: two ends, a dash between them and a byte after them
module _ {l m : List ℕ} {at p : ℕ} {xs : List ℕ} (ys : List ℕ) (close : ℕ) (h : at + length (xs ++ (0x2D ∷ (ys ++ (close ∷ [])))) ≤ length l) (a : Put l at xs p m) where
  pub room_dash : p < length m
  room_dash = omega (arith, room_next (0x2D ∷ (ys ++ (close ∷ []))) a h)

  module _ {o : List ℕ} {q : ℕ} (b : Put m p (0x2D ∷ []) q o) where
    after_dash : q + length (ys ++ (close ∷ [])) ≤ length o
    after_dash = room_next (ys ++ (close ∷ [])) b (room_next (0x2D ∷ (ys ++ (close ∷ []))) a h)

    pub room_high : q + length ys ≤ length o
    room_high = room_first q (length o) ys (close ∷ []) after_dash

    module _ {t : List ℕ} {r : ℕ} (c : Put o q ys r t) where
      pub room_close : r < length t
      room_close = omega (arith, room_next (close ∷ []) c after_dash)

      pub range_put : {u : List ℕ} {s : ℕ} → Put t r (close ∷ []) s u → Put l at (xs ++ (0x2D ∷ (ys ++ (close ∷ [])))) s u
      range_put d = and_then a (and_then b (and_then c d))

-- ## a line: what is put from each range on
abbrev from_2 : struct.Line → List ℕ
from_2 x = range_parts 0x09 x.protocol ++ (range_parts 0x09 x.opener ++ (quad_parts 0x09 x.address ++ (range_parts 0x09 x.remote ++ range_parts 0x0A x.device)))

abbrev from_3 : struct.Line → List ℕ
from_3 x = range_parts 0x09 x.opener ++ (quad_parts 0x09 x.address ++ (range_parts 0x09 x.remote ++ range_parts 0x0A x.device))

abbrev from_4 : struct.Line → List ℕ
from_4 x = quad_parts 0x09 x.address ++ (range_parts 0x09 x.remote ++ range_parts 0x0A x.device)

abbrev from_5 : struct.Line → List ℕ
from_5 x = range_parts 0x09 x.remote ++ range_parts 0x0A x.device

module _ (x : struct.Line) where
  line_parts : line_text (ranges x) ≡ range_parts 0x09 x.direction ++ from_2 x
  unfolding line_text range_text address_text nth ranges
  line_parts = simp append_assoc

  module _ (l : List ℕ) (at : ℕ) (h : at + length (line_text (ranges x)) ≤ length l) where
    left_1 : at + length (range_parts 0x09 x.direction ++ from_2 x) ≤ length l
    left_1 = subst (λ (t : List ℕ). at + length t ≤ length l) line_parts h

    pub room_1 : at + length (range_parts 0x09 x.direction) ≤ length l
    room_1 = room_first at (length l) (range_parts 0x09 x.direction) (from_2 x) left_1

    module _ {i : ℕ} {b : List ℕ} (put₁ : Put l at (range_parts 0x09 x.direction) i b) where
      left_2 : i + length (from_2 x) ≤ length b
      left_2 = room_next (from_2 x) put₁ left_1

      pub room_2 : i + length (range_parts 0x09 x.protocol) ≤ length b
      room_2 = room_first i (length b) (range_parts 0x09 x.protocol) (from_3 x) left_2

      module _ {j : ℕ} {c : List ℕ} (put₂ : Put b i (range_parts 0x09 x.protocol) j c) where
        left_3 : j + length (from_3 x) ≤ length c
        left_3 = room_next (from_3 x) put₂ left_2

        pub room_3 : j + length (range_parts 0x09 x.opener) ≤ length c
        room_3 = room_first j (length c) (range_parts 0x09 x.opener) (from_4 x) left_3

        module _ {k : ℕ} {d : List ℕ} (put₃ : Put c j (range_parts 0x09 x.opener) k d) where
          left_4 : k + length (from_4 x) ≤ length d
          left_4 = room_next (from_4 x) put₃ left_3

          pub room_4 : k + length (quad_parts 0x09 x.address) ≤ length d
          room_4 = room_first k (length d) (quad_parts 0x09 x.address) (from_5 x) left_4

          module _ {m : ℕ} {e : List ℕ} (put₄ : Put d k (quad_parts 0x09 x.address) m e) where
            left_5 : m + length (from_5 x) ≤ length e
            left_5 = room_next (from_5 x) put₄ left_4

            pub room_5 : m + length (range_parts 0x09 x.remote) ≤ length e
            room_5 = room_first m (length e) (range_parts 0x09 x.remote) (range_parts 0x0A x.device) left_5

            module _ {n : ℕ} {f : List ℕ} (put₅ : Put e m (range_parts 0x09 x.remote) n f) where
              pub room_6 : n + length (range_parts 0x0A x.device) ≤ length f
              room_6 = room_next (range_parts 0x0A x.device) put₅ left_5

              pub line_put : {r : ℕ} {o : List ℕ} → Put f n (range_parts 0x0A x.device) r o → Put l at (line_text (ranges x)) r o
              line_put put₆ = rw line_parts (and_then put₁ (and_then put₂ (and_then put₃ (and_then put₄ (and_then put₅ put₆)))))

-- ## lengths
ends_long : (k lo hi : ℕ) → lo < 10 ^ suc k → hi < 10 ^ suc k → length (range_text (lo to hi)) ≤ suc k + suc k + 1
unfolding range_text
ends_long k lo hi h i = rw (length-append (decimal lo) (0x2D ∷ decimal hi)) (omega (arith, length_below k lo h, length_below k hi i))

quads_long : (lo hi : ℕ) → lo < 4294967296 → hi < 4294967296 → length (address_text (lo to hi)) ≤ 31
unfolding address_text
quads_long lo hi h i = rw (length-append (quad lo) (0x2D ∷ quad hi)) (omega (arith, quad_short lo (omega arith), quad_short hi (omega arith)))

line_length : (l : Line) → length (line_text l) ≡ length (range_text (nth l 0)) + length (range_text (nth l 1)) + length (range_text (nth l 2)) + length (address_text (nth l 3)) + length (range_text (nth l 4)) + length (range_text (nth l 5)) + 6
unfolding line_text
line_length l = simp length-append (omega arith)

-- of a line whose protocol and ports have at most so many digits
line_sized : (l : struct.Line) → LineIn widths (ranges l) → (kp kr kq : ℕ) → l.protocol % 4294967296 < 10 ^ suc kp → l.remote % 4294967296 < 10 ^ suc kr → l.device % 4294967296 < 10 ^ suc kq → length (line_text (ranges l)) ≤ 52 + 2 * (kp + kr + kq)
unfolding nth ranges
line_sized l h kp kr kq i j k =
    omega (
      arith,
      line_length (ranges l),
      ends_long 0 (l.direction / 4294967296) (l.direction % 4294967296) (omega (arith, h.0, h.1)) (omega (arith, h.1)),
      ends_long kp (l.protocol / 4294967296) (l.protocol % 4294967296) (omega (arith, h.2.0)) i,
      ends_long 0 (l.opener / 4294967296) (l.opener % 4294967296) (omega (arith, h.2.2.0, h.2.2.1)) (omega (arith, h.2.2.1)),
      quads_long (l.address / 4294967296) (l.address % 4294967296) (omega (arith, h.2.2.2.0, h.2.2.2.1)) h.2.2.2.1,
      ends_long kr (l.remote / 4294967296) (l.remote % 4294967296) (omega (arith, h.2.2.2.2.0)) j,
      ends_long kq (l.device / 4294967296) (l.device % 4294967296) (omega (arith, h.2.2.2.2.2.0)) k,
    )

-- what holds of each line that can be read holds of each line within the widths
by_read : (P : Line → Type 0) → ((l : struct.Line) → LineIn widths (ranges l) → P (ranges l)) → (l : Line) → LineIn widths l → P l
by_read P f l h = let r : Read-as l = as_read l h in subst P r.is (f r.line (subst (LineIn widths) (sym r.is) h))

-- a line has at most 72 bytes
line_long : (l : Line) → LineIn widths l → length (line_text l) ≤ 72
line_long = by_read (λ l. length (line_text l) ≤ 72) wide
  where
    wide : (l : struct.Line) → LineIn widths (ranges l) → length (line_text (ranges l)) ≤ 72
    wide l h = unfold ranges in line_sized l h 2 4 4 (omega (arith, h.2.1)) (omega (arith, h.2.2.2.2.1)) (omega (arith, h.2.2.2.2.2.1))

-- a line of flows has two digits at most for a protocol with ports
short_protocol : (p0 p1 o1 r1 q1 : ℕ) → flow_ends p0 p1 o1 r1 q1 ≡ true → (p1 < 100) ⊎ ((r1 ≡ 0) × (q1 ≡ 0))
unfolding flow_ends
short_protocol p0 p1 o1 r1 q1 e = none_or (or_split (eqb r1 0 && eqb q1 0) _ (and_right (eqb o1 0 || (eqb p0 6 && eqb p1 6)) _ e))
  where
    tcp_or : ((eqb p0 6 && eqb p1 6) ≡ true) ⊎ ((eqb p0 17 && eqb p1 17) ≡ true) → (p1 < 100) ⊎ ((r1 ≡ 0) × (q1 ≡ 0))
    tcp_or (inl h) = inl (omega (arith, eqb-true p1 6 (and_right (eqb p0 6) _ h)))
    tcp_or (inr h) = inl (omega (arith, eqb-true p1 17 (and_right (eqb p0 17) _ h)))

    none_or : ((eqb r1 0 && eqb q1 0) ≡ true) ⊎ (((eqb p0 6 && eqb p1 6) || (eqb p0 17 && eqb p1 17)) ≡ true) → (p1 < 100) ⊎ ((r1 ≡ 0) × (q1 ≡ 0))
    none_or (inl h) = inr (eqb-true r1 0 (and_left _ _ h), eqb-true q1 0 (and_right (eqb r1 0) _ h))
    none_or (inr h) = tcp_or (or_split (eqb p0 6 && eqb p1 6) _ h)

flow_sized : (l : struct.Line) → LineIn widths (ranges l) → flow_line (ranges l) ≡ true → length (line_text (ranges l)) ≤ 70
unfolding ranges flow_line
flow_sized l h e = go (short_protocol (l.protocol / 4294967296) (l.protocol % 4294967296) (l.opener % 4294967296) (l.remote % 4294967296) (l.device % 4294967296) e)
  where
    go : (l.protocol % 4294967296 < 100) ⊎ ((l.remote % 4294967296 ≡ 0) × (l.device % 4294967296 ≡ 0)) → length (line_text (ranges l)) ≤ 70
    go (inl i) = line_sized l h 1 4 4 (omega arith) (omega (arith, h.2.2.2.2.1)) (omega (arith, h.2.2.2.2.2.1))
    go (inr i) = omega (arith, line_sized l h 2 0 0 (omega (arith, h.2.1)) (omega (arith, i.0)) (omega (arith, i.1)))

-- NO LINE IS LONGER THAN 70 BYTES
pub line_of_70 : (l : Line) → LineIn widths l → flow_line l ≡ true → length (line_text l) ≤ 70
line_of_70 = by_read (λ l. flow_line l ≡ true → length (line_text l) ≤ 70) (λ l h e. flow_sized l h e)

table_long : (t : Table) → Fits t → length (table_text t) ≤ 72 * length t
unfolding table_text
table_long [] h = omega arith
table_long (l ∷ t) h = rw (length-append (line_text l) (table_text t)) (omega (arith, line_long l h.0, table_long t h.1))

-- FIVE HUNDRED AND TWELVE LINES ALWAYS FIT
pub table_fits : (t : Table) → Fits t → length t ≤ 512 → length (table_text t) ≤ 36864
table_fits t h k = omega (arith, table_long t h)

pub ruleset putting = (rules, room_first, room_dash, room_high, room_close, range_put, room_1, room_2, room_3, room_4, room_5, room_6, line_put)
