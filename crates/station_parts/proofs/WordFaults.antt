-- A word that the cache side has popped: whether it is a fault, and what a step makes of one.
use Rattle.std.proofs.Common.{◌≡◌, ◌≢◌, ℕ, ◌%◌, ◌^◌, ◌+◌, ◌<◌, ◌≤◌, nat_lt, true, false, List, [], ◌∷◌, ◌++◌, length, Some, None}
use Rattle.std.proofs.Common.{refl, append-nil, ap, ◌∙◌, subst, arith, length-append}
use Rattle.std.specs.List.{count_by}
use Rattle.std.proofs.Props.{props}
use Rattle.std.proofs.Math.Logic.{∥∥₁_map, ∥∥₁_elim}
use Rattle.std.proofs.lemmas.Bool.{le-ltb}
use Rattle.flat_model.specs.declared.Cause.TheVariants.{StrayWord}
use Rattle.flat_model.specs.declared.Answer.TheVariants.{Moved}
use Rattle.flat_model.specs.declared.Word.{Word}
use Rattle.memory_banks.specs.declared.Command.{Command}
use Rattle.memory_banks.specs.declared.BankAnswer.{BankAnswer}
use Rattle.memory_banks.specs.Memory.{is_read}
use Rattle.cache_law.specs.declared.Sizes.{Sizes}
use Rattle.cache_law.specs.State.{Cache, UnitState}
use Rattle.cache_law.specs.Causes.{arrive_cause}
use Rattle.cache_law.specs.Steps.{arrive_step}
use Rattle.station_journal.specs.declared.journal.Source.TheVariants as sources
use Rattle.station_journal.specs.declared.journal.SideFault.{SideFault}
use Rattle.station_journal.specs.declared.journal.SideFault.TheVariants.{Uncalled, Stray}
use Rattle.station_journal.specs.Side.{SideTells}
use Rattle.station_journal.proofs.Bringing.{IsRefused, refused, uncalled, stray}
use Rattle.station_parts.specs.declared.parts.CacheSide.{CacheSide}
use Rattle.station_parts.specs.declared.parts.Stepped.TheVariants.{Faulted}
use Rattle.station_parts.specs.Rows.{sent_at, popped_at, known_at, taken_at, only, PopsAt}
use Rattle.station_parts.specs.Words.{journal_of}
use Rattle.station_parts.specs.SideState.{Known, KnowsMore, state_of}
use Rattle.station_parts.specs.SideSteps.{arrives, has_work, work_of, word_fault, StepMakes}
use Rattle.station_parts.proofs.SideMakes.{acts, there_popped}
use Rattle.station_parts.proofs.Porting.{within_all}
use Rattle.station_parts.proofs.Rows.{only-here, only-there, Popper}

pub arrive_silent : (z : Sizes) (c : Cache) (slot i : ℕ) (word : Word) → (arrive_step z c slot i word).sent ≡ []
unfolding arrive_step
arrive_silent z c slot i word = grind arith

module _ (s : CacheSide) (news : List (Popper BankAnswer)) (bank : ℕ) (a : BankAnswer)
    (pops : PopsAt s.answers.items news bank (a ∷ [])) where
  abbrev sent : ℕ → List Command
  sent = sent_at s.row.lines.items

  abbrev popped : ℕ → List BankAnswer
  popped = popped_at s.answers.items

  pub in_banks : bank < s.unit.sizes.banks
  in_banks = subst (λ n. bank < n) s.ends (there_popped s.answers.items news bank a pops)

  pub more : popped_at news bank ≡ popped bank ++ a ∷ []
  more = grind (arith, pops.popped bank)

  pub others : (b : ℕ) → b ≢ bank → popped_at news b ≡ popped b
  others b ne = grind (arith, pops.popped b, only-there, append-nil)

  -- what is known once the bank's end has looked
  abbrev pub looked : Known
  looked = record (state_of s).known { words = λ b. only bank (a ∷ []) b ++ known_at news b }

  pub looks : KnowsMore (state_of s).known looked
  looks = grind (arith, append-nil, pops.known)

  -- the stack has room
  module _ (room : length s.unit.cache.stack < s.unit.sizes.depth) where
    pub works : has_work (sources.Word bank) (state_of s) looked ≡ true
    works = grind (arith, only-here)

    pub refused_here : (arrive_step s.unit.sizes s.unit.cache a.slot a.i a.word).answer ≢ Moved → IsRefused s.unit.sizes s.unit.cache a
    refused_here = refused s.unit.sizes s.unit.cache a room

  pub work_is : work_of (sources.Word bank) (state_of s) looked ≡ arrives (state_of s) bank a (word_fault (state_of s) bank a)
  work_is = grind (arith, only-here)

  -- a word that is a fault is lost
  pub loses : (fault : SideFault) (u : UnitState) → length s.unit.cache.stack < s.unit.sizes.depth
      → word_fault (state_of s) bank a ≡ Some fault → u.cache ≡ s.unit.cache
      → StepMakes (sources.Word bank) (state_of s) (record (state_of s) {
        sizes = u.sizes;
        cache = u.cache;
        fault = Some fault;
        words = popped_at news;
        known = record (state_of s).known { words = known_at news };
      }) Faulted
  loses fault u room is same =
      acts (sources.Word bank) (state_of s) _ looked looks (arrives (state_of s) bank a (Some fault)) Faulted (works room)
      (work_is ∙ ap (arrives (state_of s) bank a) is) refl
      (grind (arith, append-nil, pops.popped)) tt

  -- the count of words is exact: it tells whether the word goes beyond the reads that were sent
  module _ (sound : s.fault ≡ None) where
    within : length (journal_of s) ≤ s.handed + s.limit
    within = within_all _ s.journal.items s.handed s.limit s.handed_is s.within

    module _ (late : nat_lt (taken_at s.row.lines.items bank) (count_by is_read (sent bank) % 2 ^ 64) ≡ false) where
      tell : SideTells s.unit.sizes s.unit.cache sent popped s.fault (journal_of s)
          → SideTells s.unit.sizes s.unit.cache sent (popped_at news) (Some (Uncalled bank)) (journal_of s)
      tell h =
          uncalled s.unit.sizes s.in_range s.unit.cache sent popped _ _ bank a in_banks more others _
          _ (s.counted sound bank) within s.lasts s.fault sound h late

      pub tells_uncalled : ∥ SideTells s.unit.sizes s.unit.cache sent (popped_at news) (Some (Uncalled bank)) (journal_of s) ∥₁
      tells_uncalled = ∥∥₁_map s.tells tell

      beyond : SideTells s.unit.sizes s.unit.cache sent popped s.fault (journal_of s)
          → nat_lt (length (popped bank)) (count_by is_read (sent bank)) ≡ false
      beyond h =
          let lost = (tell h).all.1 in
          let all = ap length lost.is_lost.lost ∙ length-append _ (lost.word ∷ []) in
          let one = ap length more ∙ length-append (popped bank) _ in
          le-ltb _ _ (omega arith)

      pub fault-uncalled : word_fault (state_of s) bank a ≡ Some (Uncalled bank)
      fault-uncalled = let out = ∥∥₁_elim s.tells (hlevel props) beyond in grind arith

    module _ (due : nat_lt (taken_at s.row.lines.items bank) (count_by is_read (sent bank) % 2 ^ 64) ≡ true) where
      pub awaited : nat_lt (length (popped bank)) (count_by is_read (sent bank)) ≡ true
      awaited = grind arith

      pub fault-none : (arrive_step s.unit.sizes s.unit.cache a.slot a.i a.word).answer ≡ Moved → word_fault (state_of s) bank a ≡ None
      unfolding arrive_step
      fault-none moves = grind arith

      module _ (cause : arrive_cause s.unit.sizes s.unit.cache a.slot a.i ≡ Some StrayWord) where
        pub fault-stray : word_fault (state_of s) bank a ≡ Some (Stray bank a.slot a.i)
        fault-stray = grind (arith, cause)

        pub tells_stray : ∥ SideTells s.unit.sizes s.unit.cache sent (popped_at news) (Some (Stray bank a.slot a.i)) (journal_of s) ∥₁
        tells_stray =
            ∥∥₁_map s.tells (λ h. stray s.unit.sizes s.in_range s.unit.cache sent popped _ _ bank a in_banks
            more others _ _ (s.counted sound bank) within s.lasts s.fault sound h due cause)
