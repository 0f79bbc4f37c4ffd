use Rattle.std.proofs.Common.{take}
use Rattle.std.specs.List.{flat_map}
use Rattle.std.specs.Fmt.{HasWritten, IsPlainFormatter}
use Rattle.named_fields.specs.Formats.{said}
use Rattle.result_formats.specs.Series.{field_in}
use Rattle.result_formats.proofs.details.write_fields.Given as goal

abbrev pub invariant-loop-field : goal.invariant-loop-field
invariant-loop-field g l =
    IsPlainFormatter l.initial.f → HasWritten g.W.Write.write_str_gives l.initial.f
    (flat_map (λ y. field_in l.format (said y)) (take l.field-index l.fields)) l.f
