use Rattle.jsontext.proofs.Runs.{passed}
use Rattle.values.proofs.Cleaning.{cleaning, joining}
use Rattle.values.proofs.clean.+checking.Goals as goal

pub check_array-loop-e-init : goal.check_array-loop-e-init
check_array-loop-e-init t c = search cleaning

pub check_array-returns-in_err-e-clause-value : goal.check_array-returns-in_err-e-clause-value
check_array-returns-in_err-e-clause-value t c = passed c.from_residual.ensures.1 (search (cleaning, c.in_err-e.was))

pub check_array-returns-in_err-k-clause-value : goal.check_array-returns-in_err-k-clause-value
check_array-returns-in_err-k-clause-value t c = passed c.from_residual-in_err-k.ensures.1 (search (cleaning, c.in_ok-e.was, c.in_err-k.was))

pub check_array-returns-in-Done-clause-value : goal.check_array-returns-in-Done-clause-value
check_array-returns-in-Done-clause-value t c = search (cleaning, c.in_ok-e.was, c.in_ok-k.was)

pub check_array-loop-e-smaller : goal.check_array-loop-e-smaller
check_array-loop-e-smaller t c = search (cleaning, c.in_ok-e.was, c.in_ok-k.was)

pub check_array-loop-e-preserved : goal.check_array-loop-e-preserved
check_array-loop-e-preserved t c = search (cleaning, c.in_ok-e.was, c.in_ok-k.was)

pub check_member-returns : goal.check_member-returns
check_member-returns t c = search (joining, c.in_ok-e.was)

pub check_object-loop-v-init : goal.check_object-loop-v-init
check_object-loop-v-init t c = search cleaning

pub check_object-returns-in_err-v-clause-value : goal.check_object-returns-in_err-v-clause-value
check_object-returns-in_err-v-clause-value t c = passed c.from_residual.ensures.1 (search (cleaning, c.in_err-v.was))

pub check_object-returns-in_err-e-clause-value : goal.check_object-returns-in_err-e-clause-value
check_object-returns-in_err-e-clause-value t c = passed c.from_residual-in_err-e.ensures.1 (search (cleaning, c.in_ok-v.was, c.in_err-e.was))

pub check_object-returns-in_err-e-clause-below : goal.check_object-returns-in_err-e-clause-below
check_object-returns-in_err-e-clause-below t c = search (cleaning, c.in_err-e.was)

pub check_object-returns-in_err-k-clause-value : goal.check_object-returns-in_err-k-clause-value
check_object-returns-in_err-k-clause-value t c = passed c.from_residual-in_err-k.ensures.1 (search (cleaning, c.in_ok-v.was, c.in_ok-e.was, c.in_err-k.was))

pub check_object-returns-in_err-k-clause-below : goal.check_object-returns-in_err-k-clause-below
check_object-returns-in_err-k-clause-below t c = search (cleaning, c.in_ok-e.was)

pub check_object-returns-in-Done-clause-value : goal.check_object-returns-in-Done-clause-value
check_object-returns-in-Done-clause-value t c = search (cleaning, c.in_ok-v.was, c.in_ok-e.was, c.in_ok-k.was)

pub check_object-returns-in-Done-clause-below : goal.check_object-returns-in-Done-clause-below
check_object-returns-in-Done-clause-below t c = search (cleaning, c.in_ok-e.was)

pub check_object-loop-v-smaller : goal.check_object-loop-v-smaller
check_object-loop-v-smaller t c = search (cleaning, c.in_ok-v.was, c.in_ok-e.was, c.in_ok-k.was)

pub check_object-loop-v-preserved : goal.check_object-loop-v-preserved
check_object-loop-v-preserved t c = search (cleaning, c.in_ok-v.was, c.in_ok-e.was, c.in_ok-k.was)
