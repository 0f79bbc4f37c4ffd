use Rattle.std.proofs.Common.{◌<◌, sym, subst, ap, refl, ◌∙◌}
use Rattle.std.specs.Prelude.{IfErr}
use Rattle.history_reasons.specs.Log.{IsLogOf}
use Rattle.history_reasons.specs.Open.{loads_then, stores_then}
use Rattle.history_sessions.specs.Events.{plain}
use Rattle.history_sessions.specs.Kept.{JudgeFaultIs}
use Rattle.history_sessions.proofs.Plain.{seen_after, open_loads_after, open_stores_after, passes, kept_after, fault_is}
use Rattle.history_sessions.proofs.StepFaults.{passed_on}
use Rattle.history_sessions.proofs.Within.{within, noted}
use Rattle.history_sessions.proofs.session.HistorySession.taken.Goals as goal

pub returns-clause-ok : goal.returns-clause-ok
returns-clause-ok c s k =
    let event = c.args.event in
    let room = c.make_room.ensures.same s k in
    let judged = c.in_ok-step.ensures.ok s.history room.judge in
    let inside = within s.history event judged.0 in
    let left = c.note.ensures.open inside in (
      passes s.history event judged.0,
      record {
        law = room.law;
        judge = kept_after _ s.history event judged.1;
        loads = left.loads ∙ ap (λ os. loads_then os event) room.loads ∙ sym (open_loads_after s.loads event);
        stores = left.stores ∙ ap (λ os. stores_then os event) room.stores ∙ sym (open_stores_after s.stores event);
        undecided = refl;
        log = λ few. subst (IsLogOf c.note.new.self) (sym (seen_after s.seen event))
            (noted c.make_room.new.self.log c.note.new.self s.seen event room.log (λ most. c.note.ensures.within s.seen most inside)
            (subst (λ w. w.moment < 18446744073709551616) (seen_after s.seen event) few));
      },
    )

pub returns-in_err-step-clause-fault : goal.returns-in_err-step-clause-fault
returns-in_err-step-clause-fault c s k =
    let says = c.in_err-step.ensures.fault s.history (c.make_room.ensures.same s k).judge in
    passed_on c.from_residual.result (λ r. IfErr r (JudgeFaultIs c.args.self.now.judge s.history (plain c.args.event)))
    c.in_err-step.field-0.0 c.from_residual.ensures.1
    (subst (λ j. JudgeFaultIs j s.history (plain c.args.event) c.in_err-step.field-0.0) c.make_room.ensures.judge
    (fault_is _ s.history c.args.event c.in_err-step.field-0.0 says))
