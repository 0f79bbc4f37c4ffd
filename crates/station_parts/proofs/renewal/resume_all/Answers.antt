use Rattle.std.proofs.Common.{◌≡◌, ◌<◌, false, length, arith}
use Rattle.std.proofs.Math.Seq.{map-set_same}
use Rattle.std.proofs.lemmas.List.Elements.{AllWithin-more_set, All-from_all_within}
use Rattle.station_parts.specs.declared.port.Port.{Port}
use Rattle.station_parts.specs.Words.{offered, offered_before, has_ended}
use Rattle.station_parts.proofs.renewal.resume_all.Goals as goal

pub loop-p-preserved : goal.loop-p-preserved
loop-p-preserved c =
    let i = c.loop-p.invariant in
    let there : c.loop-p.p < length c.loop-p.ports = grind arith in
    record {
      same_ids = grind (arith, map-set_same);
      same_offered = grind (arith, map-set_same);
      same_taken = grind (arith, map-set_same);
      same_places = grind (arith, map-set_same);
      same_tellings = grind (arith, map-set_same);
      same_told = grind (arith, map-set_same);
      before = AllWithin-more_set _ _ _ there (λ (p : Port). offered_before p ≡ offered p) i.before c.resume.ensures.before;
      again = AllWithin-more_set _ _ _ there (λ (p : Port). has_ended p ≡ false) i.again c.resume.ensures.again;
    }

pub returns-clause-before : goal.returns-clause-before
returns-clause-before c = grind (arith, All-from_all_within)

pub returns-clause-again : goal.returns-clause-again
returns-clause-again c = grind (arith, All-from_all_within)
