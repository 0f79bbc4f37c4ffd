-- The figure of a sweep: rounds by the number of registers, a line for each latency.
use Rattle.std.specs.Prelude.{ℕ, ◌+◌, if◌then◌else◌, nat_lt, min, max, List, [], ◌∷◌, ◌++◌, map}
use Rattle.std.specs.List.{flat_map}
use Rattle.machine_core.specs.Words.{Sizes}
use Rattle.register_sweeps.specs.declared.rounds.RoundsRow.{RoundsRow}
use Rattle.round_driver.specs.declared.timing.Timing.{Timing}
use Rattle.result_figures.specs.declared.mark.Mark.{Mark}
use Rattle.result_figures.specs.declared.mark.Mark.TheVariants.{Title, Machine, Times, Axis, Column, Point, Line}
use Rattle.result_figures.specs.declared.mark.Scale.{Scale}
use Rattle.result_figures.specs.declared.mark.Title.TheVariants.{Registers}
use Rattle.result_figures.specs.declared.sweep.Ends.{Ends}
use Rattle.result_figures.specs.declared.sweep.SweepLine.{SweepLine}
use Rattle.result_figures.specs.Marks.{denials}
use Rattle.result_figures.specs.Scales.{ticks}

-- a latency, and its rows
pub record Swept : Type 0 where
  pub latency : ℕ
  pub rows : List RoundsRow

abbrev pub told : SweepLine → Swept
told line = record { latency = line.latency; rows = line.rows.now }

-- ---- the ends of the axis, and the most requests that were denied

abbrev pub no_rows : Ends
no_rows = record { least = 18446744073709551615; most = 0; denied = 0; requests = 0 }

abbrev pub with_row : Ends → RoundsRow → Ends
with_row e row =
    if nat_lt e.denied row.table.denied
    then record {
      least = min e.least row.table.rounds;
      most = max e.most row.table.rounds;
      denied = row.table.denied;
      requests = row.table.accepted + row.table.denied;
    }
    else record e { least = min e.least row.table.rounds; most = max e.most row.table.rounds }

abbrev pub with_rows : Ends → List RoundsRow → Ends
with_rows e [] = e
with_rows e (row ∷ rows) = with_rows (with_row e row) rows

abbrev pub with_lines : Ends → List Swept → Ends
with_lines e [] = e
with_lines e (swept ∷ rest) = with_lines (with_rows e swept.rows) rest

-- ---- marks

abbrev pub times : Timing → Mark
times timing = Times timing

abbrev pub column : RoundsRow → Mark
column row = Column row.regs

abbrev pub point : RoundsRow → Mark
point row = Point row.table.rounds

-- a point for each row, and the line's end
abbrev pub line_marks : Swept → List Mark
line_marks swept = map point swept.rows ++ Line swept.latency ∷ []

-- the rows of the first latency, which have the numbers of registers
abbrev pub first_rows : List Swept → List RoundsRow
first_rows [] = []
first_rows (swept ∷ rest) = swept.rows

abbrev pub heading : Sizes → Scale → List Timing → List Mark
heading sizes scale timings = (Title Registers ∷ Machine sizes ∷ Axis scale ∷ []) ++ map times timings

-- The axis goes from the least to the most rounds, or from 0.
abbrev pub sweep_marks : Sizes → Scale → List Timing → List Swept → List Mark
sweep_marks sizes scale timings all =
    let e = with_lines no_rows all in
    (((heading sizes scale timings ++ denials e.denied e.requests) ++ ticks scale e.least e.most) ++ map column (first_rows all))
    ++ flat_map line_marks all
