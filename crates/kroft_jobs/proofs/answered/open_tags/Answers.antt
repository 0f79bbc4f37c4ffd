use Rattle.std.proofs.Common.{sym, ap, ◌∙◌, ◌++◌, append-nil, true, false, [], ◌∷◌}
use Rattle.std.specs.Prelude.{is_some}
use Rattle.flat_model.specs.Memory.{shown}
use Rattle.kroft_jobs.specs.Answering.{owed_below}
use Rattle.kroft_jobs.proofs.Owed.{owed_first, owed_more}
use Rattle.kroft_jobs.proofs.answered.open_tags.Goals as goal
use Rattle.kroft_jobs.proofs.answered.open_tags.Goals.{then-is_some+in_ok-push, else-is_some}

pub loop-number-init : goal.loop-number-init
loop-number-init c = c.new-tags.ensures.items ∙ sym (owed_first (shown c.args.memory.now))

pub loop-number-preserved : goal.loop-number-preserved
loop-number-preserved c =
    let f = shown c.args.memory.now in
    let k = c.loop-number.number in
    let tells = sym (c.is_some.ensures ∙ ap is_some c.due_word.ensures) in
    elim c.if-is_some.branch [
      | then-is_some+in_ok-push w ↦
          let more = owed_more f k true (tells ∙ w.if-is_some.true) in
          ap (λ v. v.items) w.tags-is ∙ w.in_ok-push.ensures.items ∙ ap (λ l. l ++ k ∷ []) c.loop-number.invariant ∙ sym more
      | else-is_some w ↦
          let more = owed_more f k false (tells ∙ w.if-is_some.false) ∙ append-nil (owed_below f k) in
          ap (λ v. v.items) w.tags-is ∙ c.loop-number.invariant ∙ sym more
    ]
