use Rattle.std.proofs.Common.{inr}
use Rattle.kroft_command.proofs.tasks.write_history.Goals as goal

pub returns-clause-ends : goal.returns-clause-ends
returns-clause-ends g c =
    let judged = c.write_values_by_law-judged in
    (judged.result, judged.new.writer, judged.ensures, inr (c.finish.new.output, c.in_ok-finish.ensures.ok, c.put_verdict.ensures.ends))
