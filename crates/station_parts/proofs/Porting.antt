-- One more entry, as the ports see it.
use Rattle.std.proofs.Common.{◌≡◌, ℕ, ◌+◌, ◌≤◌, true, ◌&&◌, List, [], ◌∷◌, ◌++◌, length, map, refl, sym, ap}
use Rattle.std.proofs.Common.{arith, append-nil, append_assoc, length-append}
use Rattle.std.proofs.lemmas.List.Folds.{list_all-append}
use Rattle.flat_model.specs.declared.Event.{Event}
use Rattle.flat_model.specs.declared.Answer.{Answer}
use Rattle.station_journal.specs.declared.journal.Source.{Source}
use Rattle.station_journal.specs.declared.journal.Entry.{Entry}
use Rattle.station_journal.specs.declared.journal.Entry.TheVariants.{Step}
use Rattle.station_journal.specs.declared.asks.Ask.{Ask}
use Rattle.station_journal.specs.declared.asks.Told.{Told}
use Rattle.station_journal.specs.Parts.{asked_by, told_by, asks_of, told_of, is_event_of, IsOfPorts}
use Rattle.station_journal.proofs.Parting.{asks_of-append, told_of-append}
use Rattle.station_parts.specs.Ports.{PortsTell}
use Rattle.station_parts.specs.Rings.{pops_from, pushes_to}
use Rattle.station_parts.specs.Rows.{received_at, pushed_at}
use Rattle.station_parts.proofs.Rows.{Popper, Pusher, same_length}

-- the entries that are noted stand behind those that were handed out
pub behind : (before held held' one : List Entry) → held' ≡ held ++ one → before ++ held' ≡ (before ++ held) ++ one
behind before held held' one is = cc (is, append_assoc before held one)

-- and are so few
pub within_all : (before held : List Entry) (handed limit : ℕ) → handed ≡ length before → length held ≤ limit
    → length (before ++ held) ≤ handed + limit
within_all before held handed limit is within = grind (arith, length-append)

-- entries that tell what was popped of the ports' asks, and what the ports were told
pub ports_step : (asks asks' : List (Popper Ask)) (tellings tellings' : List (Pusher Told))
    (entries entries' one : List Entry)
    → map pops_from asks' ≡ map pops_from asks
    → map pushes_to tellings' ≡ map pushes_to tellings
    → PortsTell asks tellings entries
    → IsOfPorts (length asks) one
    → ((p : ℕ) → received_at asks' p ≡ received_at asks p ++ asks_of p one)
    → ((p : ℕ) → pushed_at tellings' p ≡ pushed_at tellings p ++ told_of p one)
    → entries' ≡ entries ++ one
    → PortsTell asks' tellings' entries'
ports_step asks asks' tellings tellings' entries entries' one rings rings' h sourced popped pushed is =
    record {
      number = grind (arith, same_length);
      asked = λ p l. grind (arith, same_length, h.asked p, popped p, asks_of-append);
      told = λ p l. grind (arith, same_length, h.told p, pushed p, told_of-append);
      sources = grind (arith, same_length, list_all-append);
    }

-- nothing but looks
pub ports_looked : (asks asks' : List (Popper Ask)) (tellings tellings' : List (Pusher Told))
    (entries : List Entry)
    → map pops_from asks' ≡ map pops_from asks
    → map pushes_to tellings' ≡ map pushes_to tellings
    → PortsTell asks tellings entries
    → ((p : ℕ) → received_at asks' p ≡ received_at asks p)
    → ((p : ℕ) → pushed_at tellings' p ≡ pushed_at tellings p)
    → PortsTell asks' tellings' entries
ports_looked asks asks' tellings tellings' entries rings rings' h popped pushed =
    grind (arith, same_length, popped, pushed, h.asked, h.told)

-- an entry of which no port hears
pub ports_silent : (asks : List (Popper Ask)) (tellings : List (Pusher Told))
    (entries entries' : List Entry) (source : Source) (event : Event) (answer : Answer)
    → PortsTell asks tellings entries
    → is_event_of (length asks) source event ≡ true
    → ((p : ℕ) → asked_by p source event ≡ [])
    → ((p : ℕ) → told_by p source answer ≡ [])
    → entries' ≡ entries ++ Step source event answer ∷ []
    → PortsTell asks tellings entries'
ports_silent asks tellings entries entries' source event answer h sourced unasked untold is =
    ports_step asks asks tellings tellings entries entries' (Step source event answer ∷ []) refl refl h (ap (λ t. t && true) sourced)
    (λ (p : ℕ). sym (cc (unasked p, append-nil _)))
    (λ (p : ℕ). sym (cc (untold p, append-nil _))) is
