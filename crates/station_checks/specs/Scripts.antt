-- The scripts of the ports.
use Rattle.std.specs.Prelude.{◌≡◌, true, List}
use Rattle.std.specs.List.{All}
use Rattle.station_journal.specs.declared.asks.Ask.{Ask}
use Rattle.station_journal.specs.Conversation.{is_request}

-- each ask is a request: none of them is Done
abbrev pub AreRequests : List Ask → Type 0
AreRequests script = All (λ ask. is_request ask ≡ true) script
