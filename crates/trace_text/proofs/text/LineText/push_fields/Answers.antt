use Rattle.std.proofs.Common.{arith, ◌∙◌, ap, ◌++◌}
use Rattle.trace_text.specs.Texts.{field_text_at}
use Rattle.trace_text.proofs.Ranges.{flat_map_next}
use Rattle.trace_text.proofs.text.LineText.push_fields.Goals as goal

pub loop-i-preserved : goal.loop-i-preserved
loop-i-preserved g c =
    let i = c.loop-i.i in
    let f = field_text_at (g.M.AnyMachine.state c.args.machine.now) c.args.slot in
    record {
      text = c.push_field_at.ensures.text ∙ ap (λ l. l ++ f i) c.loop-i.invariant.text ∙ flat_map_next f c.args.self.now i;
      len = omega (arith, c.push_field_at.ensures.len, c.loop-i.invariant.len);
    }
