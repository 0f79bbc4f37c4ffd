use Rattle.std.proofs.Common.{subst}
use Rattle.atomic_histories.specs.Followed.{is_too_wide}
use Rattle.atomic_histories.specs.Shown.{StopIs, words_in}
use Rattle.atomic_histories.proofs.Parts.{pass_on}
use Rattle.atomic_histories.proofs.answers.ways_after.Goals as goal

pub returns-in_err-follow-clause-stop : goal.returns-in_err-follow-clause-stop
returns-in_err-follow-clause-stop c =
    let u = c.args.kept.now in
    let words = words_in u.stretches.items in
    let stop = c.in_err-follow.field-0.0 in
    pass_on c.from_residual-in_err-follow.result stop _
    c.from_residual-in_err-follow.ensures.1
    (subst (λ w. StopIs (is_too_wide c.args.limit c.args.unit words w c.args.event) stop) c.in_ok-after.ensures.same
    (c.in_err-follow.ensures.stop words))
