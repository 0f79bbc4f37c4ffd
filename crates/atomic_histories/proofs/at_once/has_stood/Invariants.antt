use Rattle.std.proofs.Common.{◌≡◌, ◌≤◌, length, take, Some, None}
use Rattle.atomic_histories.specs.Pasts.{got, missed}
use Rattle.atomic_histories.specs.Followed.{is_answer}
use Rattle.atomic_histories.specs.Shown.{past_at, pasts}
use Rattle.atomic_histories.proofs.at_once.has_stood.Given as goal

-- what is found further back is found on the whole
abbrev pub invariant-loop-before : goal.invariant-loop-before
invariant-loop-before l = record {
  got : got (is_answer l.place l.load.address l.load.since l.bytes) (past_at (pasts (take l.end l.stretches)) l.before)
      ≡ Some (past_at (pasts (take l.end l.stretches)) l.before)
      → got (is_answer l.place l.load.address l.load.since l.bytes) (past_at (pasts l.stretches) l.fn.past)
      ≡ Some (past_at (pasts l.stretches) l.fn.past);
  missed : missed (is_answer l.place l.load.address l.load.since l.bytes) (past_at (pasts (take l.end l.stretches)) l.before) ≡ None
      → missed (is_answer l.place l.load.address l.load.since l.bytes) (past_at (pasts l.stretches) l.fn.past) ≡ None;
  within : l.end ≤ length l.stretches;
}

abbrev pub decreases-loop-before : goal.decreases-loop-before
decreases-loop-before l = l.end
