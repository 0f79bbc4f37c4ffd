use Rattle.std.proofs.Common.{take, arith}
use Rattle.machine_core.proofs.Whole.{takes_answers_walked, whole_walked, flat_then, is_kept}
use Rattle.machine_core.proofs.machine.ShapedMachine.run.Goals as goal

pub walk-requires : goal.walk-requires
walk-requires c =
    let made = c.in_ok-answers.ensures in
    record {
      limit = c.self.invariant.limit;
      few = λ n. takes_answers_walked c.self.invariant (take n _);
      empty = made.items;
      room = omega arith;
    }

pub invariant_of-self : goal.invariant_of-self
invariant_of-self c = c.self.invariant

pub returns-in_err-answers-clause-kept : goal.returns-in_err-answers-clause-kept
returns-in_err-answers-clause-kept c = is_kept c.self.invariant

pub invariant_of-self-2 : goal.invariant_of-self-2
invariant_of-self-2 c = whole_walked c.self.invariant c.args.events.now _ _ c.walk.ensures.unit c.walk.ensures.banks

pub returns-clause-flat : goal.returns-clause-flat
returns-clause-flat c =
    rw (← c.self.view_is) (flat_then c.self.invariant _ _ _ _ c.walk.ensures.answers c.walk.ensures.unit c.walk.ensures.banks)

pub returns-clause-kept : goal.returns-clause-kept
returns-clause-kept c = is_kept (whole_walked c.self.invariant c.args.events.now _ _ c.walk.ensures.unit c.walk.ensures.banks)
