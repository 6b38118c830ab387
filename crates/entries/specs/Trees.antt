-- A proof, here since the types of src/places.rt need it (a `ghost use` takes nothing from the crate's own proofs); no contract
-- rests on it. Two proofs that two trees are the same are one proof, so that a value may hold such a fact: a tree is given back
-- by the steps that build it.
use Rattle.std.specs.Prelude.{ℕ, List, [], ◌∷◌, Bool, true, false, cond, eqb, ◌≡◌, refl, Option}
use Rattle.std.specs.Coded.{Coded, code_by, coded×, coded_ℕ, coded_list, coded_option, coded_bool, Coded-set}
use Rattle.std.proofs.Common.{◌∙◌, ap}
use Rattle.values.specs.Tree.{Json, null, bool, integer, real, string, array, object, Elements, no_more, element, Members, nothing, member}

-- a step puts something onto what is built, or puts together what was built last
data Step : Type 0 where
  a_null : Step
  a_bool : Bool → Step
  an_integer : ℕ → Step
  a_real : Step
  a_string : List ℕ → Step
  an_array : Step
  an_object : Step
  the_end : Step
  an_element : Step
  the_last : Step
  a_member : List ℕ → Step

abbrev pair_of : Step → ℕ × List ℕ
pair_of a_null = (0, [])
pair_of (a_bool true) = (1, [])
pair_of (a_bool false) = (2, [])
pair_of (an_integer n) = (3, n ∷ [])
pair_of a_real = (4, [])
pair_of (a_string b) = (5, b)
pair_of an_array = (6, [])
pair_of an_object = (7, [])
pair_of the_end = (8, [])
pair_of an_element = (9, [])
pair_of the_last = (10, [])
pair_of (a_member n) = (11, n)

abbrev number_step : List ℕ → Step
number_step [] = a_null
number_step (n ∷ ns) = an_integer n

abbrev step_of : ℕ × List ℕ → Step
step_of (k, b) =
    cond (eqb k 1) (a_bool true) (cond (eqb k 2) (a_bool false) (cond (eqb k 3) (number_step b) (cond (eqb k 4) a_real (cond (eqb k 5) (a_string b)
    (cond (eqb k 6) an_array (cond (eqb k 7) an_object (cond (eqb k 8) the_end (cond (eqb k 9) an_element (cond (eqb k 10) the_last (cond (eqb k 11) (a_member b) a_null))))))))))

step_of-pair_of : (t : Step) → step_of (pair_of t) ≡ t
step_of-pair_of a_null = refl
step_of-pair_of (a_bool true) = refl
step_of-pair_of (a_bool false) = refl
step_of-pair_of (an_integer n) = refl
step_of-pair_of a_real = refl
step_of-pair_of (a_string b) = refl
step_of-pair_of an_array = refl
step_of-pair_of an_object = refl
step_of-pair_of the_end = refl
step_of-pair_of an_element = refl
step_of-pair_of the_last = refl
step_of-pair_of (a_member n) = refl

-- the trees, elements and members that are built, the last first
data Built : Type 0 where
  built : List Json → List Elements → List Members → Built

abbrev step : Step → Built → Built
step a_null (built js es ms) = built (null ∷ js) es ms
step (a_bool b) (built js es ms) = built (bool b ∷ js) es ms
step (an_integer n) (built js es ms) = built (integer n ∷ js) es ms
step a_real (built js es ms) = built (real ∷ js) es ms
step (a_string b) (built js es ms) = built (string b ∷ js) es ms
step an_array (built js [] ms) = built js [] ms
step an_array (built js (e ∷ es) ms) = built (array e ∷ js) es ms
step an_object (built js es []) = built js es []
step an_object (built js es (m ∷ ms)) = built (object m ∷ js) es ms
step the_end (built js es ms) = built js (no_more ∷ es) ms
step an_element (built [] es ms) = built [] es ms
step an_element (built (j ∷ js) [] ms) = built (j ∷ js) [] ms
step an_element (built (j ∷ js) (e ∷ es) ms) = built js (element j e ∷ es) ms
step the_last (built js es ms) = built js es (nothing ∷ ms)
step (a_member n) (built [] es ms) = built [] es ms
step (a_member n) (built (j ∷ js) es []) = built (j ∷ js) es []
step (a_member n) (built (j ∷ js) es (m ∷ ms)) = built js es (member n j m ∷ ms)

abbrev run : List Step → Built → Built
run [] b = b
run (t ∷ ts) b = run ts (step t b)

abbrev first : Built → Json
first (built [] es ms) = null
first (built (j ∷ js) es ms) = j

-- the steps of a tree, before others
abbrev mutual
  steps : Json → List Step → List Step
  steps null ts = a_null ∷ ts
  steps (bool b) ts = a_bool b ∷ ts
  steps (integer n) ts = an_integer n ∷ ts
  steps real ts = a_real ∷ ts
  steps (string b) ts = a_string b ∷ ts
  steps (array es) ts = element_steps es (an_array ∷ ts)
  steps (object ms) ts = member_steps ms (an_object ∷ ts)

  element_steps : Elements → List Step → List Step
  element_steps no_more ts = the_end ∷ ts
  element_steps (element j es) ts = element_steps es (steps j (an_element ∷ ts))

  member_steps : Members → List Step → List Step
  member_steps nothing ts = the_last ∷ ts
  member_steps (member n j ms) ts = member_steps ms (steps j (a_member n ∷ ts))

mutual
  run_steps : (j : Json) (ts : List Step) (js : List Json) (es : List Elements) (ms : List Members) → run (steps j ts) (built js es ms) ≡ run ts (built (j ∷ js) es ms)
  run_steps null ts js es ms = refl
  run_steps (bool b) ts js es ms = refl
  run_steps (integer n) ts js es ms = refl
  run_steps real ts js es ms = refl
  run_steps (string b) ts js es ms = refl
  run_steps (array e) ts js es ms = run_elements e (an_array ∷ ts) js es ms
  run_steps (object m) ts js es ms = run_members m (an_object ∷ ts) js es ms

  run_elements : (e : Elements) (ts : List Step) (js : List Json) (es : List Elements) (ms : List Members) → run (element_steps e ts) (built js es ms) ≡ run ts (built js (e ∷ es) ms)
  run_elements no_more ts js es ms = refl
  run_elements (element j e) ts js es ms = run_elements e (steps j (an_element ∷ ts)) js es ms ∙ run_steps j (an_element ∷ ts) js (e ∷ es) ms

  run_members : (m : Members) (ts : List Step) (js : List Json) (es : List Elements) (ms : List Members) → run (member_steps m ts) (built js es ms) ≡ run ts (built js es (m ∷ ms))
  run_members nothing ts js es ms = refl
  run_members (member n j m) ts js es ms = run_members m (steps j (a_member n ∷ ts)) js es ms ∙ run_steps j (a_member n ∷ ts) js es (m ∷ ms)

tree_code : Coded Json
tree_code =
    code_by (List Step) (coded_list (code_by (ℕ × List ℕ) (coded× coded_ℕ (coded_list coded_ℕ)) pair_of step_of step_of-pair_of))
    (λ j. steps j []) (λ ts. first (run ts (built [] [] []))) (λ j. ap first (run_steps j [] [] [] []))

pub found-set : (x y : Option Json) (p q : x ≡ y) → p ≡ q
found-set = Coded-set (coded_option tree_code)

pub test-set : (x y : Bool) (p q : x ≡ y) → p ≡ q
test-set = Coded-set coded_bool

pub ruleset trees = (found-set, test-set)
