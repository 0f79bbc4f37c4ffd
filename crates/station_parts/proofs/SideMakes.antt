-- What a step of the cache side has made is what its definition says.
use Rattle.std.proofs.Common.{◌≡◌, ◌≢◌, ℕ, ◌+◌, ◌<◌, not, true, false, List, [], ◌∷◌, ◌++◌, length, None, refl, subst, arith, append-nil}
use mathlib.Core.List.{IsPrefix}
use Rattle.flat_model.specs.declared.Event.{Event}
use Rattle.memory_banks.specs.declared.BankAnswer.{BankAnswer}
use Rattle.cache_law.specs.declared.Sizes.{Sizes}
use Rattle.cache_law.specs.State.{Cache}
use Rattle.cache_law.specs.Views.{is_empty}
use Rattle.cache_law.specs.Steps as unit
use Rattle.cache_law.specs.UnitForms.{StepForms}
use Rattle.station_journal.specs.declared.asks.Ask.{Ask}
use Rattle.station_journal.specs.declared.asks.Ask.TheVariants.{Load, Store, Prefetch, Evict, Done}
use Rattle.station_journal.specs.declared.asks.Told.{Told}
use Rattle.station_journal.specs.declared.journal.Source.{Source}
use Rattle.station_journal.specs.declared.journal.Source.TheVariants as sources
use Rattle.station_parts.specs.declared.parts.Stepped.{Stepped}
use Rattle.station_parts.specs.declared.parts.Stepped.TheVariants.{Idle, Did}
use Rattle.station_parts.specs.Rows.{received_at, pushed_at, known_at, room_at, PopsAt, LooksAt}
use Rattle.station_parts.specs.Asking.{event_for, asked_step}
use Rattle.station_parts.specs.declared.parts.CacheSide.{CacheSide}
use Rattle.station_parts.specs.SideState.{Known, KnowsMore, SideState, OnlyLooks, state_of}
use Rattle.station_parts.specs.SideSteps.{Effect, noted, asked, has_work, work_of}
use Rattle.station_parts.specs.SideSteps.{answer_of, Makes, EventForms, EntriesForms, StepMakes, SideSteps, words_from, refusal_of}
use Rattle.station_parts.specs.Ids.{cache_id}
use Rattle.station_parts.proofs.Rows.{Popper, Pusher, same_length, beyond, only-here, only-none}

-- there is no work
pub idles : (source : Source) (s t : SideState) → OnlyLooks s t → has_work source s t.known ≡ false → StepMakes source s t Idle
idles source s t looks none = grind (arith, append-nil)

module _ (source : Source) (s t : SideState) (looked : Known) (looks : KnowsMore s.known looked) where
  -- there is work, and this comes of it
  pub acts : (e : Effect) (result : Stepped) → has_work source s looked ≡ true → work_of source s looked ≡ e
      → result ≡ answer_of true e.fault → Makes e s looked t → EntriesForms s.sizes s.cache e.entries e → StepMakes source s t result
  acts e result some work answer makes forms = grind arith

  -- the unit makes a step
  pub steps : (event : Event) (d : unit.Stepped) (words : ℕ → List BankAnswer) → s.fault ≡ None → has_work source s looked ≡ true
      → work_of source s looked ≡ noted s source event d words → Makes (noted s source event d words) s looked t
      → EventForms s.sizes s.cache event (words_from source words) d.answer d.cache → StepMakes source s t Did
  steps event d words sound some work makes forms = acts _ Did some work (grind arith) makes (forms, tt)

-- ---- pops

module _ {T : Type 0} (olds news : List (Popper T)) (place : ℕ) where
  pub popped_none : PopsAt olds news place [] → (p : ℕ) → received_at news p ≡ received_at olds p
  popped_none pops p = grind (arith, pops.popped, only-none, append-nil)

  pub known_more : PopsAt olds news place [] → (p : ℕ) → IsPrefix (known_at olds p) (known_at news p)
  known_more pops p =
      subst (λ l. IsPrefix (known_at olds p) (l ++ known_at news p)) (only-none place p) (pops.known p)

  -- where an item was popped there is an end
  pub there_popped : (a : T) → PopsAt olds news place (a ∷ []) → place < length olds
  there_popped a pops = grind (arith, pops.popped place, beyond, only-here, same_length)

module _ (s : CacheSide) (place : ℕ) where
  -- the ports' asks were looked at
  pub asks_looked : (news : List (Popper Ask)) (tellings : List (Pusher Told))
      → PopsAt s.asks.items news place [] → LooksAt s.tellings.items tellings → OnlyLooks (state_of s) (record (state_of s) {
        asked = received_at news;
        told = pushed_at tellings;
        known = record (state_of s).known { asks = known_at news; telling_places = room_at tellings };
      })
  asks_looked news tellings pops looks =
      grind (arith, append-nil, known_more s.asks.items news place pops)

  -- the banks' words were
  pub words_looked : (news : List (Popper BankAnswer)) → PopsAt s.answers.items news place [] → OnlyLooks (state_of s)
      (record (state_of s) { words = received_at news; known = record (state_of s).known { words = known_at news } })
  words_looked news pops =
      grind (arith, append-nil, known_more s.answers.items news place pops)

-- and makes of the forms what its event does
pub asked_forms : {z : Sizes} {c : Cache} → StepForms z c → (room : ℕ → ℕ) (port : ℕ) (ask : Ask) → ask ≢ Done
    → EventForms z c (event_for port ask) [] (asked_step z room port c ask).answer (asked_step z room port c ask).cache
asked_forms forms room port (Load tag at) n = forms.request room _
asked_forms forms room port (Store at word lanes) n = forms.request room _
asked_forms forms room port (Prefetch at) n = forms.request room _
asked_forms forms room port (Evict block) n = forms.evict block
asked_forms forms room port Done n = absurd (n refl)

-- ---- work that is known stays

still_some : {T : Type 0} (xs ys : List T) → IsPrefix xs ys → not (is_empty xs) ≡ true → not (is_empty ys) ≡ true
still_some xs ys first e = grind arith

module _ (s : SideState) (k l : Known) (more : KnowsMore k l) where
  work_stays : (source : Source) → has_work source s k ≡ true → has_work source s l ≡ true
  work_stays (sources.Ask port) e = grind (arith, still_some)
  work_stays (sources.Word bank) e = grind (arith, still_some)
  work_stays (sources.Stack place) e = e
  work_stays sources.Drain e = grind arith
  work_stays (sources.Reply place) e = grind arith

-- a step that knew of work before it looked isn't idle
not_idle_at_work : (source : Source) (s t : SideState) (result : Stepped) → StepMakes source s t result
    → has_work source s s.known ≡ true → result ≢ Idle
not_idle_at_work source s t result m work e = grind (arith, work_stays, s.known, m.looks)

-- the step of a side that isn't refused
pub side_steps : (source : Source) (old new : CacheSide) (result : Stepped) → refusal_of (state_of old) ≡ None
    → StepMakes source (state_of old) (state_of new) result → cache_id new ≡ cache_id old → SideSteps source old new result
side_steps source old new result none makes same = record {
  refused = rw none tt;
  makes = rw none makes;
  busy = λ work. not_idle_at_work source (state_of old) (state_of new) result makes work;
  same = same;
}
