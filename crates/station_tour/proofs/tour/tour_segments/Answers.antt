use Rattle.std.proofs.Common.{◌∙◌, arith}
use Rattle.station_checks.specs.Drawn.{left_of}
use Rattle.station_tour.proofs.Showing.{ends_last, grows_on, more_left}
use Rattle.station_tour.proofs.tour.tour_segments.Goals as goal

pub returns-in-Some : goal.returns-in-Some
returns-in-Some g c =
    λ shown some. ends_last (g.S.Write.contents c.args.story.now) (g.S.Write.contents c.loop-segment.story)
    (g.S.Write.contents c.tour_segment.new.story) c.args.setting.now.pages.story c.in_ok-end.end c.in-Some.findings
    c.loop-segment.invariant.told c.in_ok-end.ensures.told c.in-Some.is shown

pub loop-segment-preserved : goal.loop-segment-preserved
loop-segment-preserved g c =
    let end = c.in_ok-end.end in
    let left = more_left end (left_of c.tour_segment.new.course.parts) c.in_default.not-Some c.in_ok-end.ensures.more in
    record {
      one = c.in_ok-end.ensures.one;
      ports = c.in_ok-end.ensures.ports ∙ c.loop-segment.invariant.ports;
      parts = c.in_ok-end.ensures.parts ∙ c.loop-segment.invariant.parts;
      told = grows_on (g.S.Write.contents c.args.story.now) (g.S.Write.contents c.loop-segment.story)
          (g.S.Write.contents c.tour_segment.new.story) c.args.setting.now.pages.story end c.in_default.not-Some
          c.loop-segment.invariant.told c.in_ok-end.ensures.told;
      left = omega (arith, left, c.in_ok-end.ensures.fewer, c.loop-segment.invariant.left);
      more = λ some. left;
    }
