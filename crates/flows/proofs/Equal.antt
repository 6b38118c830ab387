-- The tests of equality tell equality.
use mathlib.Core.Path.{◌≡◌, refl}
use mathlib.Core.Bool.{true}
use mathlib.Core.List.{[], ◌∷◌}
use lib.Dec.{eqb}
use borrow.Author.Tests.{eqb-true, eq-eqb}
use Rattle.flows.specs.Table.{Range, ◌to◌, Line, Table, eq_range, eq_line, eq_table}
use Rattle.text.proofs.Tests.{and_left, and_right, both, clash}

pub eq_range_eq : (r s : Range) → eq_range r s ≡ true → r ≡ s
unfolding eq_range
eq_range_eq (a to b) (c to d) e =
    let p : a ≡ c = eqb-true a c (and_left (eqb a c) (eqb b d) e) in
    let q : b ≡ d = eqb-true b d (and_right (eqb a c) (eqb b d) e) in
    cc

pub eq_range_refl : (r : Range) → eq_range r r ≡ true
unfolding eq_range
eq_range_refl (a to b) = both (eqb a a) (eqb b b) (eq-eqb a a refl) (eq-eqb b b refl)

pub eq_line_eq : (l m : Line) → eq_line l m ≡ true → l ≡ m
unfolding eq_line
eq_line_eq [] [] e = refl
eq_line_eq [] (s ∷ m) e = clash e refl
eq_line_eq (r ∷ l) [] e = clash e refl
eq_line_eq (r ∷ l) (s ∷ m) e =
    let p : r ≡ s = eq_range_eq r s (and_left (eq_range r s) (eq_line l m) e) in
    let q : l ≡ m = eq_line_eq l m (and_right (eq_range r s) (eq_line l m) e) in
    cc

pub eq_line_refl : (l : Line) → eq_line l l ≡ true
unfolding eq_line
eq_line_refl [] = refl
eq_line_refl (r ∷ l) = both (eq_range r r) (eq_line l l) (eq_range_refl r) (eq_line_refl l)

pub eq_table_eq : (t u : Table) → eq_table t u ≡ true → t ≡ u
unfolding eq_table
eq_table_eq [] [] e = refl
eq_table_eq [] (s ∷ m) e = clash e refl
eq_table_eq (r ∷ l) [] e = clash e refl
eq_table_eq (r ∷ l) (s ∷ m) e =
    let p : r ≡ s = eq_line_eq r s (and_left (eq_line r s) (eq_table l m) e) in
    let q : l ≡ m = eq_table_eq l m (and_right (eq_line r s) (eq_table l m) e) in
    cc

pub eq_table_refl : (t : Table) → eq_table t t ≡ true
unfolding eq_table
eq_table_refl [] = refl
eq_table_refl (r ∷ l) = both (eq_line r r) (eq_table l l) (eq_line_refl r) (eq_table_refl l)
