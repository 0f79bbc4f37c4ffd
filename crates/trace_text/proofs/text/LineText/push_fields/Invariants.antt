use Rattle.std.proofs.Common.{length, ◌≡◌, ◌+◌, ◌*◌, ◌≤◌, ◌++◌}
use Rattle.std.specs.List.{flat_map, range_with_len}
use Rattle.trace_text.specs.Texts.{field_text_at}
use Rattle.trace_text.proofs.text.LineText.push_fields.Given as goal

abbrev pub invariant-loop-i : goal.invariant-loop-i
invariant-loop-i g l = record {
  text : l.self ≡ l.fn.self ++ flat_map (field_text_at (g.M.AnyMachine.state l.machine) l.slot) (range_with_len 0 l.i);
  len : length l.self ≤ length l.fn.self + 40 * l.i;
}
