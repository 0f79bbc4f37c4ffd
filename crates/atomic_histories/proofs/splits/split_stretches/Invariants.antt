use Rattle.atomic_histories.specs.Followed.{is_answer}
use Rattle.atomic_histories.specs.Shown.{Grows}
use Rattle.atomic_histories.specs.Shares.{IsSplit}
use Rattle.atomic_histories.proofs.splits.split_stretches.Given as goal

-- the shares of the stretches so far are known
abbrev pub invariant-loop-place : goal.invariant-loop-place
invariant-loop-place l = record {
  split : IsSplit (is_answer l.unit l.load.address l.load.since l.bytes) l.place l.stretches.items l.split;
  grows : Grows l.initial.stretches.items l.stretches.items;
}
