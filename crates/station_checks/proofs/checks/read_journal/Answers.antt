use Rattle.std.proofs.Common.{◌∙◌, ap, sym, arith}
use Rattle.station_parts.specs.Words.{held_of}
use Rattle.station_checks.proofs.Reading.{read_more, read_none}
use Rattle.station_checks.proofs.checks.read_journal.Goals as goal
use Rattle.station_checks.proofs.checks.read_journal.Goals.{in-Some+in_ok-push, in_default}

pub loop-place-preserved : goal.loop-place-preserved
loop-place-preserved c =
    let xs = held_of c.args.cache.now in
    elim c.match-entry.branch [
      | in-Some+in_ok-push w ↦
          read_more xs c.loop-place.place w.in-Some.entry _ _ (sym c.entry.ensures ∙ w.in-Some.is) c.loop-place.invariant
          (ap (λ v. v.items) w.entries-is ∙ w.in_ok-push.ensures.items)
      | in_default w ↦ read_none xs c.loop-place.place (grind arith) (omega (arith, c.entries-place-end.ensures))
    ]
