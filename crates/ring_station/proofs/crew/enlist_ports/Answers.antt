use Rattle.std.proofs.Common.{rules, arith}
use Rattle.std.proofs.lemmas.Grind.{common_steps}
use Rattle.std.proofs.lemmas.List.Elements.{All-push}
use Rattle.ring_station.specs.Crew.{HasNotBegun}
use Rattle.ring_station.proofs.crew.enlist_ports.Goals as goal

pub loop-port-preserved : goal.loop-port-preserved
loop-port-preserved c = record {
  can_next = search rules;
  is_finite = search rules;
  room = search rules;
  ports = grind (arith, common_steps);
  begun = rw c.push_reserved.ensures.items
      (All-push HasNotBegun _ _ c.loop-port.invariant.begun
      (record {
        list = c.new-in-loop-port.ensures.items;
        end = c.not_begun.ensures;
        phase = c.new.ensures.phase;
        owed = c.new.ensures.owed;
        talked = c.new.ensures.talked;
      }));
}
