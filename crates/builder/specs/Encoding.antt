-- How networks, rules and lines stand in the work buffer, in words of 64 bits.
use Rattle.std.specs.Prelude.{ℕ, zero, suc, ◌+◌, ◌-◌, ◌*◌, ◌/◌, ◌%◌, Bool, true, false, cond, List, [], ◌∷◌, ◌++◌, eqb, ltb, take, drop, get_or, set}
use Rattle.std.specs.Int.Bits.{bit_or}
use Rattle.flows.specs.Table.{Range, ◌to◌, Line, Table}
use Rattle.flows.specs.Rules.{Box, Rule, rule}

-- A range is one word, its low end times 2^32 and its high end. It holds nothing where the low end is above the high one.
abbrev pub low_of : ℕ → ℕ
low_of w = w / 4294967296

abbrev pub high_of : ℕ → ℕ
high_of w = w % 4294967296

abbrev pub range_of : ℕ → Range
range_of w = low_of w to high_of w

unfoldable pub range_if : Bool → Range → List Range → List Range
range_if true r rs = r ∷ rs
range_if false r rs = rs

-- The networks that a mask names: bit j is for network j
unfoldable pub named_by : ℕ → List ℕ → List Range
named_by m [] = []
named_by m (w ∷ ws) = range_if (eqb (m % 2) 1) (range_of w) (named_by (m / 2) ws)

-- Each of the first k masks is a limit of its own
unfoldable pub name_limits : List ℕ → ℕ → List ℕ → List (List Range)
name_limits nets zero ms = []
name_limits nets (suc k) ms = named_by (get_or ms 0 0) nets ∷ name_limits nets k (drop 1 ms)

abbrev pub at_most_seven : ℕ → ℕ
at_most_seven k = cond (ltb k 7) k 7

-- A rule is 21 words: 1 to accept; for each dimension two ranges, one of which must hold the value; the number of names that limit the
-- remote address, at most 7; for each of them the mask of its networks.
unfoldable pub limits_of : List ℕ → List ℕ → ℕ → List (List Range)
limits_of nets r d =
    (range_of (get_or r (2 * d + 1) 0) ∷ (range_of (get_or r (2 * d + 2) 0) ∷ []))
    ∷ cond (eqb d 3) (name_limits nets (at_most_seven (get_or r 13 0)) (drop 14 r)) []

-- The limits of the last k dimensions
unfoldable pub box_of : List ℕ → List ℕ → ℕ → Box
box_of nets r zero = []
box_of nets r (suc k) = limits_of nets r (5 - k) ∷ box_of nets r k

abbrev pub accepting : List ℕ → Bool
accepting r = eqb (get_or r 0 0) 1

-- n rules, one after the other
unfoldable pub rules_from : ℕ → List ℕ → List ℕ → List Rule
rules_from zero nets r = []
rules_from (suc n) nets r = rule (accepting r) (box_of nets r 6) ∷ rules_from n nets (drop 21 r)

-- The part of a work buffer that has the networks and the rules
abbrev pub ruled : List ℕ → List ℕ
ruled s = take 1555 s

-- THE RULES OF A WORK BUFFER: 64 networks, room for five rules of the builder's own, then n rules
unfoldable pub rules_of : ℕ → List ℕ → List Rule
rules_of n s = rules_from n (take 64 (ruled s)) (drop 169 (ruled s))

-- The builder's own rules, which drop what is no flow: opener 1 where the protocol is not 6; a remote port or a device port above 0 where the
-- protocol is below 17 and not 6; the same where it is above 17
unfoldable pub flow_words : List ℕ
flow_words =
    0 ∷ (1 ∷ (4294967296 ∷ (5 ∷ (30064771327 ∷ (4294967297 ∷ (4294967296 ∷ (4294967295 ∷ (4294967296 ∷ (65535 ∷ (4294967296 ∷ (65535 ∷ (4294967296 ∷ (0 ∷ (0 ∷ (0 ∷ (0 ∷ (0 ∷ (0 ∷ (0 ∷ (0 ∷ (
    0 ∷ (1 ∷ (4294967296 ∷ (5 ∷ (30064771088 ∷ (1 ∷ (4294967296 ∷ (4294967295 ∷ (4294967296 ∷ (4295032831 ∷ (4294967296 ∷ (65535 ∷ (4294967296 ∷ (0 ∷ (0 ∷ (0 ∷ (0 ∷ (0 ∷ (0 ∷ (0 ∷ (0 ∷ (
    0 ∷ (1 ∷ (4294967296 ∷ (5 ∷ (30064771088 ∷ (1 ∷ (4294967296 ∷ (4294967295 ∷ (4294967296 ∷ (65535 ∷ (4294967296 ∷ (4295032831 ∷ (4294967296 ∷ (0 ∷ (0 ∷ (0 ∷ (0 ∷ (0 ∷ (0 ∷ (0 ∷ (0 ∷ (
    0 ∷ (1 ∷ (4294967296 ∷ (77309411583 ∷ (4294967296 ∷ (1 ∷ (4294967296 ∷ (4294967295 ∷ (4294967296 ∷ (4295032831 ∷ (4294967296 ∷ (65535 ∷ (4294967296 ∷ (0 ∷ (0 ∷ (0 ∷ (0 ∷ (0 ∷ (0 ∷ (0 ∷ (0 ∷ (
    0 ∷ (1 ∷ (4294967296 ∷ (77309411583 ∷ (4294967296 ∷ (1 ∷ (4294967296 ∷ (4294967295 ∷ (4294967296 ∷ (65535 ∷ (4294967296 ∷ (4295032831 ∷ (4294967296 ∷ (0 ∷ (0 ∷ (0 ∷ (0 ∷ (0 ∷ (0 ∷ (0 ∷ (0 ∷ ([])))))))))))))))))))))))))))))))))))))))))))))))))))))))))))))))))))))))))))))))))))))))))))))))))))))))))

-- A line is three words: direction, protocol and opener; the address; the ports. A range of dimension d is put into word `column_of d`, its low
-- end times `base_of d` and its high end, both times `factor_of d`.
unfoldable pub column_of : ℕ → ℕ
column_of d = cond (ltb d 3) 0 (cond (eqb d 3) 1 2)

unfoldable pub base_of : ℕ → ℕ
base_of d = cond (ltb d 3) 256 (cond (eqb d 3) 4294967296 65536)

unfoldable pub factor_of : ℕ → ℕ
factor_of d = cond (eqb d 0) 4294967296 (cond (eqb d 1) 65536 (cond (eqb d 4) 4294967296 1))

unfoldable pub word_of : ℕ → ℕ → ℕ → ℕ
word_of d lo hi = (lo * base_of d + hi) * factor_of d

abbrev pub put_into : ℕ → ℕ → List ℕ → List ℕ
put_into c x ws = set ws c (bit_or (get_or ws c 0) x)

-- The words of a line that has the dimensions from d on
unfoldable pub line_words : ℕ → Line → List ℕ
line_words d [] = 0 ∷ (0 ∷ (0 ∷ []))
line_words d (lo to hi ∷ l) = put_into (column_of d) (word_of d lo hi) (line_words (suc d) l)

unfoldable pub table_words : ℕ → Table → List ℕ
table_words d [] = []
table_words d (l ∷ t) = line_words d l ++ table_words d t

-- The ends of a line's range of dimension d, out of the word that has it
unfoldable pub low_in : ℕ → ℕ → ℕ
low_in d w = w / factor_of d / base_of d % base_of d

unfoldable pub high_in : ℕ → ℕ → ℕ
high_in d w = w / factor_of d % base_of d

abbrev pub range_in : ℕ → ℕ → Range
range_in d w = low_in d w to high_in d w

-- Where the word with dimension d of line i stands
abbrev pub line_at : ℕ → ℕ → ℕ
line_at i d = 7071 + 3 * i + column_of d
