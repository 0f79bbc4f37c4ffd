-- How long a bank takes for a command.
use Rattle.std.specs.Prelude.{ℕ, Bool, nat_lt}
use Rattle.round_driver.specs.declared.timing.Timing.{Timing}

-- that of banks with one command at a time
abbrev pub unpipelined : ℕ → Timing
unpipelined latency = record { latency = latency; busy = latency }

-- whether a bank begins commands while others are on their way through it
abbrev pub is_pipelined : Timing → Bool
is_pipelined t = nat_lt t.busy t.latency
