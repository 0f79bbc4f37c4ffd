-- What an offer makes of a port.
use Rattle.std.specs.Prelude.{◌≡◌, ◌<◌, ◌≤◌, ◌+◌, true, false, [], ◌∷◌, ◌++◌, Result, OnOk, OnErr, IfErr, IsOk, IsErr}
use Rattle.station_journal.specs.declared.asks.Ask.{Ask}
use Rattle.station_parts.specs.declared.port.Port.{Port}
use Rattle.station_parts.specs.Ids.{port_id}
use Rattle.station_parts.specs.Words.{offered, offered_before, taken, has_ended, known_places, known_tellings}

-- the ask was offered behind those before, or comes back and none was
pub record Offers (ask : Ask) (old new : Port) (result : Result (Unit {0}) Ask) : Type 0 where
  pub same : port_id new ≡ port_id old
  pub before : offered_before new ≡ offered_before old
  pub adds : OnOk result (offered new ≡ offered old ++ ask ∷ [])
  pub back : IfErr result (λ given. given ≡ ask)
  pub kept : OnErr result (offered new ≡ offered old)
  -- it comes back for these two reasons, and for no other
  pub full : OnErr result (has_ended old ≡ false → known_places new ≡ 0)
  pub ended : has_ended old ≡ true → IsErr result
  pub goes : has_ended old ≡ false → 0 < known_places old → IsOk result
  -- no free place that was known is forgotten, but the one that the ask takes
  pub places : OnOk result (known_places old ≤ known_places new + 1)
  pub kept_places : OnErr result (known_places old ≤ known_places new)
  pub taken : taken new ≡ taken old
  pub tellings : known_tellings new ≡ known_tellings old
