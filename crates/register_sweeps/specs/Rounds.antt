-- The rows of a sweep in rounds.
use Rattle.std.specs.Prelude.{ℕ, List, ◌++◌, codes, decimal}
use Rattle.std.specs.List.{All}
use Rattle.machine_core.specs.Words.{Sizes, Event}
use Rattle.round_driver.specs.Tables.{table_of}
use Rattle.round_driver.specs.Texts.{table_text}
use Rattle.round_driver.specs.Walks.{RequestsEnd}
use Rattle.round_driver.specs.declared.timing.Timing.{Timing}
use Rattle.register_sweeps.specs.declared.rounds.RoundsRow.{RoundsRow}
use Rattle.register_sweeps.specs.Sweep.{new_machine}

-- the row of a machine: the table of these requests in rounds on a new one of its numbers
abbrev pub rounds_row_of : Timing → List Event → Sizes → RoundsRow
rounds_row_of timing requests z = record { regs = z.regs; table = table_of timing (new_machine z) requests }

-- the run that the row of a machine counts is over in time
abbrev pub RunEnds : Timing → List Event → Sizes → Type 0
RunEnds timing requests z = RequestsEnd timing (new_machine z) requests

-- the run of each row is over in time
abbrev pub EachRunEnds : Timing → List Event → List Sizes → Type 0
EachRunEnds timing requests machines = All (RunEnds timing requests) machines

-- a row as the program writes it
abbrev pub rounds_row_text : RoundsRow → List ℕ
rounds_row_text row = codes "regs " ++ decimal row.regs ++ codes " " ++ table_text row.table
