use Rattle.std.proofs.Common.{◌≡◌, map, take}
use Rattle.station_parts.specs.Ids.{bank_id, line_ring}
use Rattle.station_parts.specs.Rows.{sent_over, brought_by}
use Rattle.station_parts.specs.Audited.{AreAtMost, line_places}
use Rattle.station_parts.specs.Words.{received_by, sent_by, words_of, commanded, answer_places}
use Rattle.station_parts.proofs.inspect.look_commands.Given as goal

abbrev pub invariant-loop-b : goal.invariant-loop-b
invariant-loop-b l =
    record {
      same_ids : map bank_id l.banks ≡ map bank_id l.fn.banks;
      same_received : map received_by l.banks ≡ map received_by l.fn.banks;
      same_answers : map sent_by l.banks ≡ map sent_by l.fn.banks;
      same_words : map words_of l.banks ≡ map words_of l.fn.banks;
      same_rings : map line_ring l.lines.items ≡ map line_ring l.fn.lines.items;
      same_sent : map sent_over l.lines.items ≡ map sent_over l.fn.lines.items;
      same_brought : map brought_by l.lines.items ≡ map brought_by l.fn.lines.items;
      more_places : AreAtMost (map answer_places l.fn.banks) (map answer_places l.banks);
      more_room : AreAtMost (map line_places l.fn.lines.items) (map line_places l.lines.items);
      seen : take l.b (map commanded l.banks) ≡ take l.b (map sent_over l.lines.items);
    }
