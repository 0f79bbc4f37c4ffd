use Rattle.std.proofs.Common.{[], ◌∷◌}
use Rattle.machine_core.proofs.Whole.{takes_answers_walked, whole_walked, flat_now, never_stray, serves, is_kept}
use Rattle.machine_core.proofs.machine.ShapedMachine.apply.Goals as goal

pub step-requires : goal.step-requires
step-requires c = record { limit = c.self.invariant.limit; few = takes_answers_walked c.self.invariant [] }

pub invariant_of-self : goal.invariant_of-self
invariant_of-self c = whole_walked c.self.invariant (c.args.event ∷ []) _ _ c.step.ensures.unit c.step.ensures.banks

pub returns-clause-flat : goal.returns-clause-flat
returns-clause-flat c = rw (← c.self.view_is)
    (flat_now c.self.invariant _ _ _ _ c.step.ensures.answer c.step.ensures.unit c.step.ensures.banks)

pub returns-clause-never_stray : goal.returns-clause-never_stray
returns-clause-never_stray c =
    never_stray _ _ _ _
    (flat_now c.self.invariant _ _ _ _ c.step.ensures.answer c.step.ensures.unit c.step.ensures.banks)

pub returns-clause-at_rest : goal.returns-clause-at_rest
returns-clause-at_rest c = rw (← c.self.view_is) (λ r. rw c.step.ensures.answer (serves c.self.invariant _ r))

pub returns-clause-kept : goal.returns-clause-kept
returns-clause-kept c = is_kept (whole_walked c.self.invariant (c.args.event ∷ []) _ _ c.step.ensures.unit c.step.ensures.banks)
