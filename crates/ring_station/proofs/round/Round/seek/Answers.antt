use Rattle.std.proofs.Common.{◌≡◌, false, rules, inr, refl, sym, ap, ◌∙◌, add-one, below_more, subst}
use Rattle.station_parts.specs.SideState.{state_of}
use Rattle.station_parts.specs.SideSteps.{has_item}
use Rattle.ring_station.specs.Round.{passed, source_of, round_behind, most_places}
use Rattle.ring_station.proofs.Passing.{looks_more, unknown_before, none_known, passed_within}
use Rattle.ring_station.proofs.round.Round.seek.Goals as goal

pub returns-then-has_item-clause-looks : goal.returns-then-has_item-clause-looks
returns-then-has_item-clause-looks c = looks_more _ _ _ c.loop-place.invariant.looks c.look.ensures.looks

pub returns-then-has_item-clause-stays : goal.returns-then-has_item-clause-stays
returns-then-has_item-clause-stays c within =
    rw c.loop-place.invariant.passed_is (passed_within c.loop-place._place _ within)

pub returns-clause-seeks : goal.returns-clause-seeks
returns-clause-seeks c may =
    let before = c.loop-place.invariant in
    let all : c.loop-place._place ≡ most_places c.args.self.now = search rules in
    let passed_is = rw all at before.passed_is in
    let unknown = rw all at before.unknown in
    record {
      count = _;
      passed_is = passed_is;
      unknown = unknown;
      ended = inr refl;
      all = none_known _ _ _ _ before.looks passed_is unknown;
    }

pub returns-clause-stays : goal.returns-clause-stays
returns-clause-stays c within =
    rw c.loop-place.invariant.passed_is (passed_within c.loop-place._place _ within)

pub loop-place-preserved : goal.loop-place-preserved
loop-place-preserved c =
    let before = c.loop-place.invariant in
    let first = c.args.self.now in
    let looks = looks_more _ _ _ before.looks c.look.ensures.looks in
    record {
      same = c.look.ensures.same ∙ before.same;
      looks = looks;
      passed_is = c.go_on_behind.ensures ∙ ap (round_behind false) before.passed_is
          ∙ ap (λ k. passed k first) (sym (add-one c.loop-place._place));
      unknown = below_more (λ k. has_item _ (state_of c.args.cache.now) ≡ false) c.loop-place._place
          before.unknown (unknown_before _ _ _ looks
          (subst (λ s. has_item s (state_of c.look.new.cache) ≡ false) (c.source.ensures ∙ ap source_of before.passed_is)
          (sym c.has_item.ensures ∙ c.if-has_item.false)));
    }
