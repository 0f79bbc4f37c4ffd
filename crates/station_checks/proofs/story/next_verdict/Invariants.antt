use Rattle.std.proofs.Common.{◌≡◌, drop}
use Rattle.station_checks.specs.PortTexts.{final_verdicts}
use Rattle.station_checks.proofs.story.next_verdict.Given as goal

abbrev pub invariant-loop-place : goal.invariant-loop-place
invariant-loop-place l = final_verdicts (drop l.place l.list) ≡ final_verdicts l.list
