use Rattle.std.proofs.Common.{take}
use Rattle.std.specs.List.{flat_map}
use Rattle.std.specs.Fmt.{HasWritten, IsPlainFormatter}
use Rattle.result_formats.specs.Series.{told, series_in}
use Rattle.result_formats.proofs.series.write_series.Given as goal

abbrev pub invariant-loop-series : goal.invariant-loop-series
invariant-loop-series g l =
    IsPlainFormatter l.initial.f → HasWritten g.W.Write.write_str_gives l.initial.f
    (flat_map (λ y. series_in l.format (told y)) (take l.series-index l.all)) l.f
