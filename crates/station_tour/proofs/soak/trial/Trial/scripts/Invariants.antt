use Rattle.std.proofs.Common.{◌≡◌, vec_len}
use Rattle.std.specs.List.{All}
use Rattle.std.specs.Global.{Vec}
use Rattle.station_journal.specs.declared.asks.Ask.{Ask}
use Rattle.station_checks.specs.Scripts.{AreRequests}
use Rattle.station_tour.proofs.soak.trial.Trial.scripts.Given as goal

abbrev pub invariant-loop-port : goal.invariant-loop-port
invariant-loop-port l =
    record {
      number : vec_len l.scripts ≡ l._port;
      requests : All (λ (s : Vec Ask). AreRequests s.items) l.scripts.items;
    }
