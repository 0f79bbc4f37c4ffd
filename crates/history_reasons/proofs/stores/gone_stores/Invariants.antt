use Rattle.std.proofs.Common.{◌≡◌, ◌+◌, drop}
use Rattle.history_reasons.specs.Stores.{gone_stores, gone_bytes}
use Rattle.history_reasons.proofs.stores.gone_stores.Given as goal

-- the stores so far are gone, with those behind them that are still to go
abbrev pub invariant-loop-place : goal.invariant-loop-place
invariant-loop-place l = record {
  all : l.place + gone_stores l.left (drop l.place l.stores) ≡ gone_stores l.count l.stores;
  left : gone_bytes l.left (drop l.place l.stores) ≡ gone_bytes l.count l.stores;
}
