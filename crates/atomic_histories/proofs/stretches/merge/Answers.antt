use Rattle.atomic_histories.proofs.Frames.{merged_one, merged_other}
use Rattle.atomic_histories.proofs.stretches.merge.Goals.{in_default-via-in-Nothing+in_default, in_default-via-in_default}
use Rattle.atomic_histories.proofs.stretches.merge.Goals as goal

pub returns-in_default-clause-past : goal.returns-in_default-clause-past
returns-in_default-clause-past c =
    let ss = c.args.stretches.now.items in
    let p = c.push.ensures.past in
    elim c.in_default.branch [
      | in_default-via-in-Nothing+in_default w ↦ let e =
          merged_other ss c.args.one _ _ w.in_default.is-1 c.requires.other in rw e p
      | in_default-via-in_default w ↦ let e = merged_one ss _ c.args.other _ w.in_default.is-0 c.requires.one in rw e p
    ]
