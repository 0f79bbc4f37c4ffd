use Rattle.std.proofs.Common.{◌≡◌, ℕ, ◌<◌, length, get_or}
use Rattle.rand_pcg.specs.Lcg.{started, increment_of}
use Rattle.rand_pcg.specs.Pcg.{multiplier_64}
use Rattle.station_checks.specs.Asked.{no_random}
use Rattle.station_checks.proofs.drawing.draw_of_each.Given as goal

abbrev pub invariant-loop-port : goal.invariant-loop-port
invariant-loop-port l =
    record {
      number : length l.randoms.items ≡ l.port;
      each : (p : ℕ) → p < l.port → get_or l.randoms.items p no_random ≡ started 64 multiplier_64 l.seed (increment_of 64 p);
    }
