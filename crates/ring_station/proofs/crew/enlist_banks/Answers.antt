use Rattle.std.proofs.Common.{◌≡◌, rules, arith}
use Rattle.std.proofs.lemmas.Grind.{common_steps}
use Rattle.std.proofs.lemmas.List.Elements.{All-push}
use Rattle.ring_station.specs.Ends.{not_begun}
use Rattle.ring_station.proofs.crew.enlist_banks.Goals as goal

pub loop-bank-preserved : goal.loop-bank-preserved
loop-bank-preserved c = record {
  can_next = search rules;
  is_finite = search rules;
  room = search rules;
  begun = rw c.push_reserved.ensures.items (All-push (λ r. r.end ≡ not_begun) _ _ c.loop-bank.invariant.begun c.not_begun.ensures);
  banks = grind (arith, common_steps);
}
