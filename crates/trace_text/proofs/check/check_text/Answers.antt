use Rattle.flat_model.specs.Memory.{shown}
use Rattle.trace_text.proofs.Held.{judged_zeros}
use Rattle.trace_text.proofs.check.check_text.Goals as goal

pub returns-clause-judged : goal.returns-clause-judged
returns-clause-judged g c =
    let judged = c.in_ok-checked.ensures.judged in
    let checked = c.in_ok-checked.checked in (
      judged.0,
      judged.1,
      judged_zeros c.args.words (shown c.in_ok-memory.memory) (shown checked.memory) judged.0 checked.end
          c.in_ok-memory.ensures.shown judged.2,
    )
