-- The figure of what a run counted: a bar for each cause of lost rounds, and what became of the requests.
use Rattle.std.specs.Prelude.{ℕ, ◌+◌, max, List, [], ◌∷◌, ◌++◌}
use Rattle.std.specs.List.{flat_map}
use Rattle.machine_core.specs.Words.{Sizes}
use Rattle.flat_model.specs.declared.Cause.{Cause}
use Rattle.flat_model.specs.declared.Cause.TheVariants.{TagInUse, RepliesFull, TargetsFull, NoRegister, SetPending, QueueFull, BankFull}
use Rattle.round_driver.specs.declared.table.LostRounds.{LostRounds}
use Rattle.round_driver.specs.declared.table.Table.{Table}
use Rattle.round_driver.specs.declared.timing.Timing.{Timing}
use Rattle.result_figures.specs.declared.mark.Counted.TheVariants.{Rounds, Accepted, Hits, Joins, Misses}
use Rattle.result_figures.specs.declared.mark.Mark.{Mark}
use Rattle.result_figures.specs.declared.mark.Mark.TheVariants as mark
use Rattle.result_figures.specs.declared.mark.Shade.TheVariants.{Lost}
use Rattle.result_figures.specs.declared.mark.Title.TheVariants.{Losses}
use Rattle.result_figures.specs.declared.scale.TheConstants.{FEW_STEPS}
use Rattle.result_figures.specs.Marks.{denials}
use Rattle.result_figures.specs.Scales.{linear}

abbrev pub Loss : Type 0
Loss = Cause × ℕ

-- the causes that a machine of this repository refuses with, and the rounds lost to each
abbrev pub losses_of : LostRounds → List Loss
losses_of l =
    (TagInUse, l.tag_in_use) ∷ (RepliesFull, l.replies_full) ∷ (TargetsFull, l.targets_full) ∷ (NoRegister, l.no_register)
    ∷ (SetPending, l.set_pending) ∷ (QueueFull, l.queue_full) ∷ (BankFull, l.bank_full) ∷ []

-- the most rounds that were lost to one of them
abbrev pub most_lost : ℕ → List Loss → ℕ
most_lost least [] = least
most_lost least (loss ∷ rest) = most_lost (max least loss.1) rest

-- a row, and its bar
abbrev pub loss_marks : Loss → List Mark
loss_marks loss = mark.Cause loss.0 ∷ mark.Bar 0 loss.1 Lost ∷ []

abbrev pub losses_marks : List Loss → List Mark
losses_marks all = flat_map loss_marks all

unfoldable pub counts : Table → List Mark
counts t =
    mark.Count Rounds t.rounds ∷ mark.Count Accepted t.accepted ∷ mark.Count Hits t.hits ∷ mark.Count Joins t.joins
    ∷ mark.Count Misses t.misses ∷ []

unfoldable pub heading : Sizes → Timing → Table → List Mark
heading sizes timing t =
    (mark.Title Losses ∷ mark.Machine sizes ∷ mark.Times timing ∷ []) ++ denials t.denied (t.accepted + t.denied)

-- The axis goes from 0 to the most rounds that were lost to a cause.
unfoldable pub lost : List Loss → List Mark
lost all = linear (most_lost 0 all) FEW_STEPS ++ losses_marks all

abbrev pub figure : Sizes → Timing → Table → List Mark
figure sizes timing t = (heading sizes timing t ++ lost (losses_of t.lost)) ++ counts t
