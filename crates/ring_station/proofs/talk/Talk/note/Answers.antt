use Rattle.std.proofs.lemmas.List.{get_or_default}
use Rattle.ring_station.proofs.Talking.{verdict-if-not-value, judged}
use Rattle.ring_station.proofs.talk.Talk.note.Goals as goal

pub returns-in_default-Awaiting : goal.returns-in_default-Awaiting
returns-in_default-Awaiting c =
    judged c.args.script.now _ _ c.args.self.now.next _
    _ _ _ c.args.told c.in_default-Awaiting.is-1 c.note_verdict.ensures.phase
    (verdict-if-not-value _ c.in_default-Awaiting.not-Value-0) (c.requires.placed c.in_default-Awaiting.is-1)
    (get_or_default _ _ _ _ (c.requires.placed c.in_default-Awaiting.is-1))
    c.note_verdict.ensures.next c.note_verdict.ensures.owed
