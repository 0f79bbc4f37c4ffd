use Rattle.std.proofs.Common.{◌≡◌, ℕ}
use Rattle.station_parts.specs.Ids.{port_id}
use Rattle.station_parts.specs.Words.{offered, taken}
use Rattle.station_examples.specs.Chains.{IsFollowed}
use Rattle.station_examples.proofs.chain.run_port.Given as goal

abbrev pub invariant-loop : goal.invariant-loop
invariant-loop l = record {
  same : port_id l.port ≡ port_id l.fn.port;
  followed : (first : ℕ) → IsFollowed first (offered l.fn.port) (taken l.fn.port) l.fn.follower.at
      → IsFollowed first (offered l.port) (taken l.port) l.follower.at;
}
