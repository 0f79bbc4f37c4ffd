use Rattle.std.proofs.Common.{refl, sym, ◌∙◌, inl, inr, [], arith}
use Rattle.std.proofs.Math.Nat.{zero-mul}
use Rattle.std.proofs.lemmas.Result.{err_from_is_err_and}
use Rattle.station_parts.specs.Ids.{port_id}
use Rattle.station_parts.proofs.SameParts.{still_same, same_still}
use Rattle.ring_station.proofs.Ending.{long_alike}
use Rattle.ring_station.proofs.RunningOn.{come_further, stops_there, fails_there, turns_to_the_end, runs_in_segments, keeps_in_all}
use Rattle.ring_station.proofs.RunningOn.{none_heard, both_heard}
use Rattle.ring_station.proofs.segments.run_in_segments.Goals as goal

pub loop-begin-init : goal.loop-begin-init
loop-begin-init g c = record {
  same = still_same c.requires.one;
  scripts = c.requires.scripts;
  more = inl refl;
  so_far = record {
    segments = [];
    begin_is = sym (zero-mul _);
    kept_is = (g.met.K.Keeper.kept_none _, none_heard (g.G.Gate.has_heard _));
    each = refl;
  };
}

pub loop-begin-preserved : goal.loop-begin-preserved
loop-begin-preserved g c =
    let before = c.loop-begin.invariant in
    let ran = c.in_ok-run_pieces.ensures in
    let old = c.loop-begin.station.ports in
    let new = c.run_pieces.new.station.ports in
    record {
      same = same_still before.same ran.same;
      scripts = before.scripts ∙ old.ok.0 ∙ sym (long_alike port_id new.items old.items ran.same.ports) ∙ sym new.ok.0;
      more = inr (omega (arith, c.longest_script-longest.ensures));
      so_far = come_further before.so_far ran.runs ran.within
          (both_heard (g.G.Gate.has_heard _) g.K.Keeper.kept _ _ _ (g.met.K.Keeper.kept_more _ _ _));
    }

pub returns-in_err-run_pieces-clause-stops : goal.returns-in_err-run_pieces-clause-stops
returns-in_err-run_pieces-clause-stops g c =
    let told = err_from_is_err_and c.from_residual.result c.from_residual.ensures.1 in
    let before = c.loop-begin.invariant in
    let stop = c.in_err-run_pieces.ensures in
    rw (told.1, ← c.max-asks.ensures, told.2)
    (stops_there before.so_far stop.stops stop.within before.same.ports stop.same.ports
    (both_heard (g.G.Gate.has_heard _) g.K.Keeper.kept _ _ _ (g.met.K.Keeper.kept_more _ _ _))).0

pub returns-in_err-run_pieces-clause-stops_within : goal.returns-in_err-run_pieces-clause-stops_within
returns-in_err-run_pieces-clause-stops_within g c =
    let told = err_from_is_err_and c.from_residual.result c.from_residual.ensures.1 in
    let before = c.loop-begin.invariant in
    let stop = c.in_err-run_pieces.ensures in
    rw (told.1, ← c.max-asks.ensures, told.2)
    (stops_there before.so_far stop.stops stop.within before.same.ports stop.same.ports
    (both_heard (g.G.Gate.has_heard _) g.K.Keeper.kept _ _ _ (g.met.K.Keeper.kept_more _ _ _))).1

pub returns-in_err-run_pieces-clause-fault : goal.returns-in_err-run_pieces-clause-fault
returns-in_err-run_pieces-clause-fault g c =
    let told = err_from_is_err_and c.from_residual.result c.from_residual.ensures.1 in
    rw (told.1, ← c.max-asks.ensures, told.2) (fails_there c.loop-begin.invariant.so_far c.in_err-run_pieces.ensures.fault)

pub returns-then-longest-begin-clause-each_within : goal.returns-then-longest-begin-clause-each_within
returns-then-longest-begin-clause-each_within g c =
    let before = c.loop-begin.invariant in
    let ran = c.in_ok-run_pieces.ensures in
    rw (← c.max-asks.ensures)
    (turns_to_the_end _ _ _ (omega (arith, c.max-asks.ensures)) before.more (omega (arith, c.longest_script-longest.ensures))
    (come_further before.so_far ran.runs ran.within
    (both_heard (g.G.Gate.has_heard _) g.K.Keeper.kept _ _ _ (g.met.K.Keeper.kept_more _ _ _))))

pub returns-then-longest-begin-clause-runs : goal.returns-then-longest-begin-clause-runs
returns-then-longest-begin-clause-runs g c =
    runs_in_segments _ _ _ (omega arith) (c.requires.scripts ∙ c.args.station.now.ports.ok.0)
    (returns-then-longest-begin-clause-each_within g c)

pub returns-then-longest-begin-clause-within : goal.returns-then-longest-begin-clause-within
returns-then-longest-begin-clause-within g c = keeps_in_all _ _ _ (returns-then-longest-begin-clause-each_within g c)
