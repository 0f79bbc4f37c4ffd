-- The round comes by every source, and what looks at far ends leave of what is known.
use Rattle.std.proofs.Common.{◌≡◌, ◌≤◌, ◌<◌, ℕ, zero, suc, ◌+◌, ◌-◌, Bool, true, false, if◌then◌else◌, nat_lt, refl, sym, ap, ◌∙◌, arith}
use Rattle.std.proofs.Common.{rules, below_more, zero-add, List, length, length-append}
use Rattle.std.proofs.lemmas.Bool.{ltb-true, ltb-false, le-ltb}
use Rattle.station_journal.specs.declared.journal.Source.{Source}
use Rattle.station_parts.specs.SideState.{SideState, OnlyLooks}
use Rattle.station_parts.specs.SideSteps.{has_item}
use Rattle.ring_station.specs.declared.round.TheConstants.{OTHER_SOURCES}
use Rattle.ring_station.specs.declared.round.Round.{Round}
use Rattle.ring_station.specs.declared.round.Place.{Place}
use Rattle.ring_station.specs.declared.round.Place.TheVariants.{Ports, Bank, Stack, WriteQueue, Replies}
use Rattle.ring_station.specs.Round.{passed, round_behind, behind_place, port_behind, source_of, source_at, most_places, HasSource}
use Rattle.ring_station.specs.Round.{StandsWithin}
use mathlib.Core.List.{IsPrefix}
use Rattle.station_journal.specs.declared.journal.Source.TheVariants.{Ask, Word, Stack, Drain, Reply}
use Rattle.station_parts.proofs.Seeing.{prefix_steps}
use Rattle.station_journal.specs.declared.journal.Source.TheVariants as sources

-- ---- one look behind the other

pub looks_more : (s t u : SideState) → OnlyLooks s t → OnlyLooks t u → OnlyLooks s u
looks_more s t u one two = record {
  earlier = two.earlier ∙ one.earlier;
  held = two.held ∙ one.held;
  cache = two.cache ∙ one.cache;
  fault = two.fault ∙ one.fault;
  asked = λ p. two.asked p ∙ one.asked p;
  told = λ p. two.told p ∙ one.told p;
  commands = λ b. two.commands b ∙ one.commands b;
  words = λ b. two.words b ∙ one.words b;
  known = record {
    asks = λ p. prefix_steps _ _ _ (one.known.asks p) (two.known.asks p);
    words = λ b. prefix_steps _ _ _ (one.known.words b) (two.known.words b);
    telling_places = λ p. let b = two.known.telling_places p in omega arith;
    command_places = λ b. omega arith;
  };
}

-- ---- an item that isn't known behind a look wasn't known before it

longer_empty : {A : Type 0} (xs ys : List A) → IsPrefix xs ys → nat_lt 0 (length ys) ≡ false → nat_lt 0 (length xs) ≡ false
longer_empty xs ys (more, p) none =
    let few = ltb-false 0 _ none in
    let long = sym (length-append xs more) ∙ ap length p in
    le-ltb 0 _ (omega arith)

pub unknown_before : (s t : SideState) (source : Source) → OnlyLooks s t → has_item source t ≡ false → has_item source s ≡ false
unknown_before s t (Ask port) looks none = longer_empty _ _ (looks.known.asks port) none
unknown_before s t (Word bank) looks none = longer_empty _ _ (looks.known.words bank) none
unknown_before s t (Stack place) looks none = ap (λ c. nat_lt place (length c.stack)) (sym looks.cache) ∙ none
unknown_before s t Drain looks none = ap (λ c. nat_lt 0 (length c.queue)) (sym looks.cache) ∙ none
unknown_before s t (Reply place) looks none = ap (λ c. nat_lt place (length c.ready)) (sym looks.cache) ∙ none

-- a round of so many ports and banks that asks this port next and stands at this place
abbrev standing : ℕ → ℕ → ℕ → Place → Round
standing ports banks port place = record { ports = ports; banks = banks; port = port; place = place; has_word = false }

passed_on : (a b : ℕ) (r s : Round) → passed b r ≡ s → passed (a + b) r ≡ passed a s
passed_on zero b r s p = rw zero-add p
passed_on (suc a) b r s p =
    let e : suc a + b ≡ suc (a + b) = omega arith in
    rw e (ap (round_behind false) (passed_on a b r s p))

-- ---- from port to port, and from bank to bank

ports_on : (n b q j : ℕ) → q + j < n → passed j (standing n b q Ports) ≡ standing n b (q + j) Ports
ports_on n b q zero less = grind arith
ports_on n b q (suc j) less = rw (ports_on n b q j (omega arith)) (grind arith)

to_banks : (n b q : ℕ) → q < n → passed (n - q) (standing n b q Ports) ≡ standing n b 0 (Bank 0)
to_banks n b q less =
    let e : n - q ≡ suc (n - q - 1) = omega arith in
    rw (e, ports_on n b q (n - q - 1) (omega arith)) (grind arith)

banks_on : (n b q k j : ℕ) → k + j < b → passed j (standing n b q (Bank k)) ≡ standing n b q (Bank (k + j))
banks_on n b q k zero less = grind arith
banks_on n b q k (suc j) less = rw (banks_on n b q k j (omega arith)) (grind arith)

to_stack : (n b q k : ℕ) → k < b → passed (b - k) (standing n b q (Bank k)) ≡ standing n b q Stack
to_stack n b q k less =
    let e : b - k ≡ suc (b - k - 1) = omega arith in
    rw (e, banks_on n b q k (b - k - 1) (omega arith)) (grind arith)

-- ---- to the first bank

to_ports : (n b q : ℕ) (place : Place) → 0 < b → HasSource (standing n b q place) (source_at place q)
    → (t : ℕ) × (t ≤ b + OTHER_SOURCES) × (passed t (standing n b q place) ≡ standing n b q Ports)
to_ports n b q Ports some here = (0, omega arith, refl)
to_ports n b q (Bank k) some here = (3 + (b - k), omega arith, passed_on 3 (b - k) _ _ (to_stack n b q k here))
to_ports n b q Stack some here = (3, omega arith, refl)
to_ports n b q WriteQueue some here = (2, omega arith, refl)
to_ports n b q Replies some here = (1, omega arith, refl)

free_of_word : (r : Round) (word : Bool) → r.has_word ≡ word
    → (t : ℕ) × (t ≤ 1) × (passed t r ≡ standing r.ports r.banks r.port r.place)
free_of_word r true e = (1, omega arith, rw e refl)
free_of_word r false e =
    (0, omega arith, ap (λ w. record { ports = r.ports; banks = r.banks; port = r.port; place = r.place; has_word = w }) e)

-- ---- to each source

-- from the round it is so many places to another one, and from there it comes to a source
abbrev pub Comes : ℕ → Round → Source → Type 0
Comes most r s = (k : ℕ) × (k ≤ most) × (source_of (passed k r) ≡ s)

comes_on : (a m most : ℕ) (r t : Round) (s : Source) → passed a r ≡ t → Comes m t s → m + a ≤ most → Comes most r s
comes_on a m most r t s p come less = (come.0 + a, omega (arith, come.1), ap source_of (passed_on come.0 a r t p) ∙ come.2)

-- how far it is from the first bank
abbrev far : ℕ → Source → ℕ
far b (sources.Ask port) = b + 3 + port
far b source = b + 2

from_bank : (n b : ℕ) (s : Source) → 0 < b → HasSource (standing n b 0 (Bank 0)) s → Comes (far b s) (standing n b 0 (Bank 0)) s
from_bank n b (sources.Ask port) some there = (
  port + (3 + (b - 0)),
  omega arith,
  ap source_of (passed_on port _ _ _ (passed_on 3 (b - 0) _ _ (to_stack n b 0 0 some)) ∙ ports_on n b 0 port (omega (arith, there)))
      ∙ ap sources.Ask (zero-add port),
)
from_bank n b (sources.Word bank) some there =
    (bank, omega arith, ap source_of (banks_on n b 0 0 bank (omega (arith, there))) ∙ ap sources.Word (zero-add bank))
from_bank n b (sources.Stack place) some there = (b - 0, omega arith, ap source_of (to_stack n b 0 0 some) ∙ ap sources.Stack (sym there))
from_bank n b sources.Drain some there = (1 + (b - 0), omega arith, ap source_of (passed_on 1 (b - 0) _ _ (to_stack n b 0 0 some)))
from_bank n b (sources.Reply place) some there =
    (2 + (b - 0), omega arith, ap source_of (passed_on 2 (b - 0) _ _ (to_stack n b 0 0 some)) ∙ ap sources.Reply (sym there))

-- and from a port: an ask of one that comes before it is behind the first bank
from_port : (n b q p : ℕ) → p < n → q < n → 0 < b → (before : Bool) → nat_lt p q ≡ before
    → Comes (n + b + 2) (standing n b q Ports) (sources.Ask p)
from_port n b q p there here some true e =
    comes_on (n - q) _ _ _ _ _ (to_banks n b q here) (from_bank n b _ some there) (omega (arith, ltb-true p q e))
from_port n b q p there here some false e =
    let before = ltb-false p q e in
    (p - q, omega arith, ap source_of (ports_on n b q (p - q) (omega arith)) ∙ ap sources.Ask (omega arith))

from_ports : (n b q : ℕ) (s : Source) → q < n → 0 < b → HasSource (standing n b q Ports) s → Comes (n + b + 2) (standing n b q Ports) s
from_ports n b q (sources.Ask p) here some there = from_port n b q p there here some _ refl
from_ports n b q s here some there = comes_on (n - q) _ _ _ _ _ (to_banks n b q here) (from_bank n b s some there) (omega arith)

comes_by : (r : Round) → StandsWithin r → (s : Source) → HasSource r s → Comes (most_places r) r s
comes_by r here s there =
    let free = free_of_word r r.has_word refl in
    let port = to_ports r.ports r.banks r.port r.place here.banks here.source in
    comes_on (port.0 + free.0) _ _ r _ s (passed_on port.0 free.0 r _ free.2 ∙ port.2)
    (from_ports r.ports r.banks r.port s here.ports here.banks there) (omega (arith, free.1, port.1))

-- so a round of which no item is known behind it had none before it
pub none_known : (old new : Round) (s t : SideState) → OnlyLooks s t → new ≡ passed (most_places old) old
    → ((k : ℕ) → k < most_places old → has_item (source_of (passed k old)) s ≡ false) → StandsWithin old
    → has_item (source_of new) t ≡ false → (source : Source) → HasSource old source → has_item source s ≡ false
none_known old new s t looks e unknown within none source there =
    let come = comes_by old within source there in
    rw (← come.2) (below_more (λ k. has_item _ s ≡ false) _ unknown (unknown_before s t _ looks (rw e at none)) come.0
    (omega (arith, come.1)))

-- ---- it stays within its sources

bank_behind : (r : Round) (port k : ℕ) (more : Bool) → nat_lt (k + 1) r.banks ≡ more
    → HasSource r (source_at (if more then Bank (k + 1) else Stack) port)
bank_behind r port k true e = ltb-true _ _ e
bank_behind r port k false e = refl

port_within : (ports port : ℕ) → port < ports → port_behind ports port < ports
port_within ports port less = grind arith

port_left : (r : Round) (next : ℕ) → 0 < r.banks → next < r.ports → r.place ≡ Ports → (is_left : Bool)
    → HasSource r (source_at (if is_left then Bank 0 else r.place) next)
port_left r next banks less at true = banks
port_left r next banks less at false = rw at less

place_within : (did : Bool) (place : Place) (r : Round) → r.place ≡ place → StandsWithin r → StandsWithin (behind_place did place r)
place_within did Ports r at here =
    let next = port_within r.ports r.port here.ports in
    record { ports = next; banks = here.banks; source = port_left r _ here.banks next at _ }
place_within false (Bank k) r at here = record { ports = here.ports; banks = here.banks; source = bank_behind r r.port k _ refl }
place_within false place r at here = record { ports = here.ports; banks = here.banks; source = search rules }
place_within true place r at here = record { ports = here.ports; banks = here.banks; source = here.source }

pub behind_within : (did : Bool) (r : Round) (word : Bool) → r.has_word ≡ word → StandsWithin r → StandsWithin (round_behind did r)
behind_within did r true e here = rw e (record { ports = here.ports; banks = here.banks; source = here.source })
behind_within did r false e here =
    rw e
    (place_within did r.place _ refl
    (record { ports = here.ports; banks = here.banks; source = here.source }))

pub passed_within : (k : ℕ) (r : Round) → StandsWithin r → StandsWithin (passed k r)
passed_within zero r here = here
passed_within (suc k) r here = behind_within false (passed k r) (passed k r).has_word refl (passed_within k r here)
