use Rattle.flat_model.specs.Memory.{shown}
use Rattle.trace_text.proofs.Held.{judged_flat, judged_mismatch}
use Rattle.trace_text.proofs.check.Checking.told.Goals as goal
use Rattle.trace_text.proofs.check.Checking.told.Goals.{in-None, in-Some}

pub returns : goal.returns
returns c start texts judged =
    let self = c.args.self in
    let now = shown self.memory in
    elim c.match-self.branch [
      | in-None w ↦
          rw w.end-is (judged_flat _ _ _ _ _ judged w.in-None.is)
      | in-Some w ↦
          rw w.end-is (judged_mismatch _ _ _ _ _ _ judged w.in-Some.is)
    ]
