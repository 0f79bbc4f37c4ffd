use Rattle.std.proofs.Common.{refl, ap, ◌∙◌, ◌++◌}
use Rattle.std.specs.List.{flat_map}
use Rattle.result_formats.specs.Counts.{pumps_in, pumps_head}
use Rattle.kroft_command.specs.Tool.{line}
use Rattle.kroft_command.proofs.Answering.{answered}
use Rattle.kroft_command.proofs.tasks.put_registers.Goals as goal

pub returns-clause-ends : goal.returns-clause-ends
returns-clause-ends g c =
    let read = c.in_ok-rows.ensures.rows in
    let lines = c.as_str.ensures.value
    ∙ (c.in_ok-told.ensures ∙ ap (flat_map (λ row. line (pumps_in c.args.format row))) (c.as_slice.ensures.value ∙ read.2)) in
    let text = c.as_str-2.ensures.value ∙ (c.in_ok-lines.ensures.ok ∙ ap (λ l. pumps_head c.args.format ++ l) lines) in
    answered g.O.Sink.took g.O.Sink.refused g.O.Sink.unflushed _ _ _ _
    c.as_str-2.result.now 0 (read.0, read.1, text, refl)
    c.answer.result c.answer.ensures.ok c.answer.ensures.status c.answer.ensures.err c.answer.ensures.fault
