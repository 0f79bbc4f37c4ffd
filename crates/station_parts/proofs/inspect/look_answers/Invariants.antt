use Rattle.std.proofs.Common.{◌≡◌, map, take}
use Rattle.rtrb.specs.Ring.{received}
use Rattle.station_parts.specs.Rings.{pops_from}
use Rattle.station_parts.specs.Ids.{bank_id}
use Rattle.station_parts.specs.Rows.{come_to}
use Rattle.station_parts.specs.Audited.{AreAtMost}
use Rattle.station_parts.specs.Words.{received_by, sent_by, words_of, commanded, answer_places}
use Rattle.station_parts.proofs.inspect.look_answers.Given as goal

abbrev pub invariant-loop-b : goal.invariant-loop-b
invariant-loop-b l =
    record {
      same_ids : map bank_id l.banks ≡ map bank_id l.fn.banks;
      same_received : map received_by l.banks ≡ map received_by l.fn.banks;
      same_sent : map sent_by l.banks ≡ map sent_by l.fn.banks;
      same_words : map words_of l.banks ≡ map words_of l.fn.banks;
      same_commands : map commanded l.banks ≡ map commanded l.fn.banks;
      same_rings : map pops_from l.answers.items ≡ map pops_from l.fn.answers.items;
      same_popped : map received l.answers.items ≡ map received l.fn.answers.items;
      more_places : AreAtMost (map answer_places l.fn.banks) (map answer_places l.banks);
      seen : take l.b (map come_to l.answers.items) ≡ take l.b (map sent_by l.banks);
    }
