-- The details of a run in a format.
use Rattle.std.specs.Prelude.{ℕ, ◌+◌, Option, Some, None, List, [], ◌∷◌, ◌++◌, codes, take}
use Rattle.result_formats.specs.declared.accesses.AccessCounts.{AccessCounts}
use Rattle.round_driver.specs.Details.{bucket_of}
use Rattle.round_driver.specs.Texts.{mean_of, table_text}
use Rattle.round_driver.specs.declared.details.Details.{Details}
use Rattle.round_driver.specs.declared.waits.Waits.{Waits}
use Rattle.named_fields.specs.declared.figures.Figure.TheVariants.{Hundredths}
use Rattle.named_fields.specs.declared.format.Format.{Format}
use Rattle.named_fields.specs.declared.format.Format.TheVariants.{Text, Csv, Json}
use Rattle.result_formats.specs.declared.series.By.TheVariants.{Number, Doubling}
use Rattle.named_fields.specs.Formats.{Named, named, counted, joined, member_text}
use Rattle.result_formats.specs.Counts.{table_named}
use Rattle.result_formats.specs.Series.{Listed, listed, all_fields, all_series}

-- the figures beside those of the table
unfoldable pub details_named : Details → List Named
details_named d =
    counted (codes "loads") d.kinds.loads.accepted ∷ counted (codes "load_hits") d.kinds.loads.hits
    ∷ counted (codes "load_joins") d.kinds.loads.joins ∷ counted (codes "load_misses") d.kinds.loads.misses
    ∷ counted (codes "stores") d.kinds.stores.accepted ∷ counted (codes "store_hits") d.kinds.stores.hits
    ∷ counted (codes "store_joins") d.kinds.stores.joins ∷ counted (codes "store_misses") d.kinds.stores.misses
    ∷ counted (codes "prefetches") d.kinds.prefetches.accepted ∷ counted (codes "prefetch_hits") d.kinds.prefetches.hits
    ∷ counted (codes "prefetch_joins") d.kinds.prefetches.joins ∷ counted (codes "prefetch_misses") d.kinds.prefetches.misses
    ∷ named (codes "mean_from_asking")
    (Hundredths (mean_of d.waits_from_asking.rounds d.waits_from_asking.loads).0
    (mean_of d.waits_from_asking.rounds d.waits_from_asking.loads).1)
    ∷ counted (codes "longest_from_asking") d.waits_from_asking.longest ∷ []

-- the loads by the bucket of their wait, up to that of the longest one
abbrev pub buckets_of : Waits → List ℕ
buckets_of w = take (bucket_of w.longest + 1) w.buckets

-- the series
unfoldable pub series_named : Details → List Listed
series_named d =
    listed (codes "set_hits") Number d.sets.hits ∷ listed (codes "set_joins") Number d.sets.joins
    ∷ listed (codes "set_misses") Number d.sets.misses
    ∷ listed (codes "rounds_by_registers") Number d.registers ∷ listed (codes "rounds_by_owed") Number d.owed
    ∷ listed (codes "waits") Doubling (buckets_of d.waits)
    ∷ listed (codes "waits_from_asking") Doubling (buckets_of d.waits_from_asking) ∷ []

-- ---- accesses

-- the figures of accesses: all, the reads, and the writes
unfoldable pub accesses_named : AccessCounts → List Named
accesses_named c =
    counted (codes "accesses") (c.reads.accesses + c.writes.accesses) ∷ counted (codes "access_hits") (c.reads.hits + c.writes.hits)
    ∷ counted (codes "access_joins") (c.reads.joins + c.writes.joins) ∷ counted (codes "access_misses") (c.reads.misses + c.writes.misses)
    ∷ counted (codes "access_denied") (c.reads.denied + c.writes.denied)
    ∷ counted (codes "reads") c.reads.accesses ∷ counted (codes "read_hits") c.reads.hits
    ∷ counted (codes "read_joins") c.reads.joins ∷ counted (codes "read_misses") c.reads.misses
    ∷ counted (codes "read_denied") c.reads.denied
    ∷ counted (codes "writes") c.writes.accesses ∷ counted (codes "write_hits") c.writes.hits
    ∷ counted (codes "write_joins") c.writes.joins ∷ counted (codes "write_misses") c.writes.misses
    ∷ counted (codes "write_denied") c.writes.denied ∷ []

-- behind something else, if there are any
unfoldable pub accesses_in : Format → Option AccessCounts → List ℕ
accesses_in format None = []
accesses_in format (Some c) = all_fields format (accesses_named c)

-- ---- all of them

-- the details, with the figures of the table, and with those of accesses, if they were counted
unfoldable pub details_in : Format → Details → Option AccessCounts → List ℕ
details_in Text d c = table_text d.table ++ (all_fields Text (details_named d) ++ (accesses_in Text c ++ all_series Text (series_named d)))
details_in Csv d c =
    codes "name,index,value"
    ++ (all_fields Csv (table_named d.table)
    ++ (all_fields Csv (details_named d) ++ (accesses_in Csv c ++ all_series Csv (series_named d))))
details_in Json d c =
    codes "{" ++ (joined member_text (table_named d.table)
    ++ (all_fields Json (details_named d)
    ++ (accesses_in Json c ++ (all_series Json (series_named d) ++ codes "}"))))
