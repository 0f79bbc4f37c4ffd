-- The figures of what the program counts, by their names.
use Rattle.std.specs.Prelude.{ℕ, List, [], ◌∷◌, ◌++◌, codes, decimal}
use Rattle.round_driver.specs.declared.table.LostRounds.{LostRounds}
use Rattle.round_driver.specs.declared.table.Table.{Table}
use Rattle.round_driver.specs.Tables.{empty_table}
use Rattle.round_driver.specs.Texts.{mean_wait, table_text}
use Rattle.register_sweeps.specs.declared.row.Row.{Row}
use Rattle.register_sweeps.specs.declared.rounds.RoundsRow.{RoundsRow}
use Rattle.register_sweeps.specs.Rounds.{rounds_row_text}
use Rattle.register_sweeps.specs.Sweep.{row_text, empty_row}
use Rattle.named_fields.specs.declared.figures.Figure.TheVariants.{Hundredths}
use Rattle.named_fields.specs.declared.format.Format.{Format}
use Rattle.named_fields.specs.Formats.{Named, named, counted, in_format, head_in_format}

-- what became of the requests
unfoldable pub requests_named : Table → List Named
requests_named t =
    counted (codes "rounds") t.rounds ∷ counted (codes "accepted") t.accepted ∷ counted (codes "denied") t.denied
    ∷ counted (codes "hits") t.hits ∷ counted (codes "joins") t.joins ∷ counted (codes "misses") t.misses
    ∷ counted (codes "stalled") t.stalled ∷ []

-- the lost rounds, by the number and the name of the cause
unfoldable pub lost_named : LostRounds → List Named
lost_named l =
    counted (codes "lost_3_tag_in_use") l.tag_in_use ∷ counted (codes "lost_4_replies_full") l.replies_full
    ∷ counted (codes "lost_5_targets_full") l.targets_full ∷ counted (codes "lost_7_no_register") l.no_register
    ∷ counted (codes "lost_8_set_pending") l.set_pending ∷ counted (codes "lost_9_queue_full") l.queue_full
    ∷ counted (codes "lost_10_bank_full") l.bank_full ∷ []

-- how long the loads waited, and what else the machine did
unfoldable pub waits_named : Table → List Named
waits_named t =
    counted (codes "values") t.values ∷ named (codes "mean") (Hundredths (mean_wait t).0 (mean_wait t).1)
    ∷ counted (codes "longest") t.longest ∷ counted (codes "registers") t.registers ∷ counted (codes "written") t.written ∷ []

-- a table of rounds
unfoldable pub table_named : Table → List Named
table_named t = requests_named t ++ (lost_named t.lost ++ waits_named t)

-- a row of a sweep in rounds
unfoldable pub rounds_named : RoundsRow → List Named
rounds_named r = counted (codes "regs") r.regs ∷ table_named r.table

-- the same behind the latency that it was counted with
unfoldable pub latency_named : (latency : ℕ) → RoundsRow → List Named
latency_named latency r = counted (codes "latency") latency ∷ rounds_named r

abbrev pub latency_text : (latency : ℕ) → RoundsRow → List ℕ
latency_text latency r = codes "latency " ++ (decimal latency ++ (codes " " ++ rounds_row_text r))

-- a row of a sweep by pumps
unfoldable pub pumps_named : Row → List Named
pumps_named r =
    counted (codes "regs") r.regs ∷ counted (codes "accepted") r.accepted ∷ counted (codes "denied") r.denied
    ∷ counted (codes "stalled") r.stalled ∷ counted (codes "waited") r.waited ∷ counted (codes "pumps") r.pumps
    ∷ counted (codes "values") r.values ∷ []

-- ---- what is written of them in a format

-- a table, and the line of names that goes before it
unfoldable pub table_in : Format → Table → List ℕ
table_in format t = in_format format (table_text t) (table_named t)

unfoldable pub table_head : Format → List ℕ
table_head format = head_in_format format (table_named empty_table)

-- a row of a sweep in rounds, and the names
unfoldable pub rounds_in : Format → RoundsRow → List ℕ
rounds_in format r = in_format format (rounds_row_text r) (rounds_named r)

unfoldable pub rounds_head : Format → List ℕ
rounds_head format = head_in_format format (rounds_named (record { regs = 0; table = empty_table }))

-- such a row behind its latency, and the names
unfoldable pub latency_in : Format → (latency : ℕ) → RoundsRow → List ℕ
latency_in format latency r = in_format format (latency_text latency r) (latency_named latency r)

unfoldable pub latency_head : Format → List ℕ
latency_head format = head_in_format format (latency_named 0 (record { regs = 0; table = empty_table }))

-- a row of a sweep by pumps, and the names
unfoldable pub pumps_in : Format → Row → List ℕ
pumps_in format r = in_format format (row_text r) (pumps_named r)

unfoldable pub pumps_head : Format → List ℕ
pumps_head format = head_in_format format (pumps_named (empty_row 0))
