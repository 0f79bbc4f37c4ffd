use Rattle.atomic_histories.proofs.AtOnce.{few_last}
use Rattle.atomic_histories.proofs.kept.KeptUnit.answer_last_store.Goals as goal

pub returns-in_err-past-clause-few : goal.returns-in_err-past-clause-few
returns-in_err-past-clause-few c = λ limit.
    few_last limit _ _ _ c.args.self.now.stretches.items
    _ c.requires.one c.requires.last c.requires.waits

pub returns-clause-few : goal.returns-clause-few
returns-clause-few c = λ limit.
    few_last limit _ _ _ c.args.self.now.stretches.items
    _ c.requires.one c.requires.last c.requires.waits
