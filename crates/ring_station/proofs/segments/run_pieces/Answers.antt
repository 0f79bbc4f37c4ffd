use Rattle.std.proofs.Common.{◌∙◌, inr}
use Rattle.std.proofs.lemmas.Result.{err_from_is_err_and}
use Rattle.ring_station.proofs.RunningOn.{hands_out_next, none_heard, one_heard}
use Rattle.ring_station.proofs.segments.run_pieces.Goals as goal

pub returns-in_err-keep-clause-stops : goal.returns-in_err-keep-clause-stops
returns-in_err-keep-clause-stops g c =
    let told = c.from_residual-in_err-keep in
    let fault = err_from_is_err_and told.result told.ensures.1 in
    let ran = c.in_ok-segment.ensures in
    rw fault.1 (record {
      kept_is = (c.in_err-keep.ensures.refused, none_heard (g.G.Gate.has_heard _));
      handed_out = inr (
        c.in_ok-segment.segment,
        (
          hands_out_next c.in_ok-pieces.ensures (c.requires.scripts ∙ c.args.station.now.ports.ok.0)
              (rw c.deref.ensures.value at ran.lists) ran.journal,
          fault.2,
        ),
      );
    })

pub returns-clause-runs : goal.returns-clause-runs
returns-clause-runs g c =
    let ran = c.in_ok-segment.ensures in
    record {
      segment = c.in_ok-segment.segment;
      kept_is = (c.in_ok-keep.ensures.kept, one_heard (g.G.Gate.has_heard _) c.in_ok-segment.segment ran.heard);
      handed_out = hands_out_next c.in_ok-pieces.ensures (c.requires.scripts ∙ c.args.station.now.ports.ok.0)
          (rw c.deref.ensures.value at ran.lists) ran.journal;
    }

pub returns-in_err-keep-clause-fault : goal.returns-in_err-keep-clause-fault
returns-in_err-keep-clause-fault g c =
    let told = c.from_residual-in_err-keep in
    let fault = err_from_is_err_and told.result told.ensures.1 in
    let ran = c.in_ok-segment.ensures in
    rw fault.1 (inr (inr (
      c.in_ok-segment.segment,
      hands_out_next c.in_ok-pieces.ensures (c.requires.scripts ∙ c.args.station.now.ports.ok.0) (rw c.deref.ensures.value at ran.lists)
          ran.journal,
      fault.2,
    )))
