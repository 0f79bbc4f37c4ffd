use Rattle.std.proofs.Common.{◌+◌, Option, Ok, ◌∙◌, ap, refl, arith}
use Rattle.history_text.specs.Lines.{seen, seen_by}
use Rattle.history_text.specs.Histories.{session_of}
use Rattle.history_text.specs.declared.events.OwnedEvent.{OwnedEvent}
use Rattle.history_text.proofs.LineTexts.{events_few}
use Rattle.history_text.proofs.Judging.{judged_passed, judged_event, line_stops}
use Rattle.history_text.proofs.reading.Judging.judge.Goals as goal

pub returns-in-None-clause-ok : goal.returns-in-None-clause-ok
returns-in-None-clause-ok c start texts text said h =
    let none = said ∙ ap (λ (o : Option OwnedEvent). Ok (seen_by o)) c.in-None.is in
    judged_passed c.args.self.now _ text h c.requires none (c.pass.ensures.kept _ h.kept) refl

pub returns-in-Ok-clause-ok : goal.returns-in-Ok-clause-ok
returns-in-Ok-clause-ok c start texts text said h =
    let some = said ∙ ap (λ (o : Option OwnedEvent). Ok (seen_by o)) c.in-Some.is in
    let e = c.in-Ok.ensures in
    judged_event c.args.self.now _ text h (e.lines ∙ c.requires) (seen c.in-Some.event) some (e.ok _ h.kept)
    (omega (arith, e.events, h.events, events_few texts, h.lines, c.requires, c.ranges.number.fits))

pub returns-in-Err-clause-stop : goal.returns-in-Err-clause-stop
returns-in-Err-clause-stop c = (
  refl,
  λ start texts text said h. (
      let some = said ∙ ap (λ (o : Option OwnedEvent). Ok (seen_by o)) c.in-Some.is in
      line_stops start texts text c.args.number (seen c.in-Some.event) c.in-Err.stop some (omega (arith, c.requires, h.lines))
      c.ranges.number.fits h.timely h.moment
      (c.in-Err.ensures.stop (session_of start texts)
      (record { kept = h.kept; few = omega (arith, h.moment, h.lines, c.requires, c.ranges.number.fits) }))),
)
