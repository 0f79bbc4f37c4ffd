-- When parts are those of one station.
use Rattle.std.specs.Prelude.{◌≡◌, ℕ, List, map, length}
use Rattle.std.specs.List.{range_with_len}
use Rattle.cache_law.specs.declared.Sizes.{Sizes}
use Rattle.station_journal.specs.Journal.{zeros_in}
use Rattle.station_parts.specs.declared.port.Port.{Port}
use Rattle.station_parts.specs.declared.bank.BankSide.{BankSide}
use Rattle.station_parts.specs.declared.parts.CacheSide.{CacheSide}
use Rattle.station_parts.specs.declared.parts.Station.{Station}
use Rattle.station_parts.specs.Ids.{PortId, BankId, CacheId, port_id, bank_id, cache_id}

-- how many words of memory lie in each bank
abbrev pub words_by_bank : Sizes → List ℕ
words_by_bank z = map (λ b. length (zeros_in z b)) (range_with_len 0 z.banks)

-- each ring of the cache side has its other end at the port or bank of its number, and there is no further port or bank
pub record BelongTogether (cache : CacheId) (ports : List PortId) (banks : List BankId) : Type 0 where
  pub asks : map (λ p. p.asks) ports ≡ cache.asks
  pub told : map (λ p. p.told) ports ≡ cache.told
  pub commands : map (λ b. b.commands) banks ≡ cache.commands
  pub answers : map (λ b. b.answers) banks ≡ cache.answers
  pub words : map (λ b. b.words) banks ≡ words_by_bank cache.sizes

-- the parts are those of one station, in the order of their numbers. It speaks of what parts keep, so a call on a
-- part, which leaves the part's id as it is, leaves this as it is
abbrev pub AreOneStation : CacheSide → List Port → List BankSide → Type 0
AreOneStation cache ports banks = BelongTogether (cache_id cache) (map port_id ports) (map bank_id banks)

abbrev pub IsOneStation : Station → Type 0
IsOneStation s = AreOneStation s.cache s.ports.items s.banks.items

-- they are the same parts of one station, moved by their own calls
pub record AreSameParts (c c' : CacheSide) (ps ps' : List Port) (bs bs' : List BankSide) : Type 0 where
  pub cache : cache_id c' ≡ cache_id c
  pub ports : map port_id ps' ≡ map port_id ps
  pub banks : map bank_id bs' ≡ map bank_id bs
  pub one : AreOneStation c' ps' bs'

abbrev pub IsSameStation : Station → Station → Type 0
IsSameStation old new = AreSameParts old.cache new.cache old.ports.items new.ports.items old.banks.items new.banks.items

-- they are as they were
pub record AreUnmoved (c c' : CacheSide) (ps ps' : List Port) (bs bs' : List BankSide) : Type 0 where
  pub cache : c' ≡ c
  pub ports : ps' ≡ ps
  pub banks : bs' ≡ bs

abbrev pub IsUnmoved : Station → Station → Type 0
IsUnmoved old new = AreUnmoved old.cache new.cache old.ports.items new.ports.items old.banks.items new.banks.items
