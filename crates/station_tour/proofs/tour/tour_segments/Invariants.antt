use Rattle.std.proofs.Common.{◌≡◌, ◌+◌, ◌<◌, ◌≤◌, vec_len}
use Rattle.station_parts.specs.Station.{AreOneStation}
use Rattle.station_checks.specs.Drawn.{ports_of, left_of}
use Rattle.station_tour.specs.Shown.{HasGrown}
use Rattle.station_tour.proofs.tour.tour_segments.Given as goal

abbrev pub invariant-loop-segment : goal.invariant-loop-segment
invariant-loop-segment g l =
    record {
      one : AreOneStation l.station.cache l.station.ports.items l.station.banks.items;
      ports : vec_len l.station.ports ≡ l.setting.plan.ports;
      parts : ports_of l.course.parts ≡ l.setting.plan.ports;
      told : HasGrown (g.S.Write.contents l.fn.story) (g.S.Write.contents l.story);
      left : left_of l.course.parts + l._segment ≤ l.setting.plan.asks;
      more : 0 < l._segment → 1 ≤ left_of l.course.parts;
    }
