-- A word that the cache side has popped.
use Rattle.std.proofs.Common.{◌≡◌, ◌≢◌, ℕ, ◌+◌, ◌*◌, ◌%◌, ◌^◌, ◌<◌, ◌≤◌, true, false, nat_lt, List, [], ◌∷◌, ◌++◌, length, Option, Some}
use Rattle.std.proofs.Common.{None, refl, sym, ap, ◌∙◌, arith, length-append, mul-le-mul_right, suc, Bool}
use Rattle.std.specs.List.{count_by}
use Rattle.std.proofs.Math.Nat.{mod-eq_of_lt}
use Rattle.std.proofs.lemmas.Bool.{cases_eq, ltb-false}
use Rattle.flat_model.specs.declared.Cause.TheVariants.{StrayWord}
use Rattle.flat_model.specs.declared.Answer.{Answer}
use Rattle.flat_model.specs.declared.Answer.TheVariants.{Moved}
use Rattle.memory_banks.specs.declared.Command.{Command}
use Rattle.memory_banks.specs.declared.BankAnswer.{BankAnswer}
use Rattle.memory_banks.specs.Memory.{is_read}
use Rattle.cache_law.specs.declared.Sizes.{Sizes}
use Rattle.cache_law.specs.State.{Cache, UnitState}
use Rattle.cache_law.specs.Causes.{arrive_cause}
use Rattle.cache_law.specs.Steps.{arrive_step, fetches, load_step, store_step, prefetch_step, drain_step}
use Rattle.cache_law.specs.Sound.{InRange}
use Rattle.flat_model.specs.declared.Event.TheVariants.{Arrive, Serve}
use Rattle.station_journal.specs.declared.journal.Source.TheVariants.{Word}
use Rattle.station_journal.specs.declared.journal.Entry.{Entry}
use Rattle.station_journal.specs.declared.journal.Entry.TheVariants.{Step, Ended}
use Rattle.station_journal.specs.declared.journal.SideFault.{SideFault}
use Rattle.station_journal.specs.declared.journal.SideFault.TheVariants.{Uncalled, Stray}
use Rattle.station_journal.specs.Journal.{opening_stand, come_word, Stand, Brings, step, is_full, after_entry, Walks}
use Rattle.station_journal.specs.Side.{SideTells, IsLost}
use Rattle.station_journal.proofs.Sides.{side_looked}
use Rattle.station_journal.proofs.Telling.{tells_word}
use Rattle.std.proofs.lemmas.List.Sums.{count_by-le-length}
use Rattle.std.proofs.lemmas.List.FromFn.{length-map-range_with_len}
use Rattle.flat_model.specs.declared.Event.{Event}
use Rattle.memory_banks.specs.Banks.{commands_for}
use Rattle.miss_registers.proofs.Tags.{count_by-append}
use Rattle.cache_law.proofs.Silent.{evict_silent, process_silent, take_silent}

-- ---- how many reads a journal can have sent

for_few : (b : ℕ) (sent : List (ℕ × Command)) → length (commands_for b sent) ≤ length sent
for_few b [] = omega arith
for_few b (c ∷ rest) = let few = for_few b rest in grind arith

module _ (z : Sizes) (some : 0 < z.block_words) where
  fetches_few : (c : Cache) (block : ℕ) → length (fetches z c block) ≤ z.block_words
  unfolding fetches
  fetches_few c block = grind (arith, length-map-range_with_len)

  step_few : (brings : Brings) (s : Stand) (event : Event) → length (step z brings s event).sent ≤ z.block_words
  unfolding load_step store_step prefetch_step drain_step arrive_step
  step_few brings s (Serve bank) = omega arith
  step_few brings s event = grind (arith, fetches_few, evict_silent, process_silent, take_silent, s.cache)

  entry_few : (brings : Brings) (s : Stand) (event : Event) (t : Bool) (b : ℕ)
      → count_by is_read ((after_entry z brings s event t).sent b) ≤ count_by is_read (s.sent b) + z.block_words
  entry_few brings s event true b = omega arith
  entry_few brings s event false b = grind (arith, count_by-append, s.sent, count_by-le-length, for_few, step_few)

  pub reads_few : (brings : Brings) (entries : List Entry) (s e : Stand) → Walks z brings s entries e → (b : ℕ)
      → count_by is_read (e.sent b) ≤ count_by is_read (s.sent b) + length entries * z.block_words
  reads_few brings [] s e same b = grind arith
  reads_few brings (Ended port ∷ rest) s e walk b =
      let r = reads_few brings rest s e walk b in
      let n : suc (length rest) * z.block_words ≡ length rest * z.block_words + z.block_words = omega arith in
      omega arith
  reads_few brings (Step source event answer ∷ rest) s e walk b =
      let r = reads_few brings rest _ e walk.1 b in
      let one = entry_few brings s event (is_full answer) b in
      let n : suc (length rest) * z.block_words ≡ length rest * z.block_words + z.block_words = omega arith in
      omega arith

-- no word was popped
pub none_popped : (u : UnitState) (sent : ℕ → List Command) (popped popped' : ℕ → List BankAnswer) (fault : Option SideFault)
    (entries : List Entry)
    → ((b : ℕ) → popped' b ≡ popped b) → SideTells u.sizes u.cache sent popped fault entries
    → SideTells u.sizes u.cache sent popped' fault entries
none_popped u sent popped popped' fault entries same h = grind arith

-- ---- what is refused

-- a word is refused for its register, where the stack has room; and then the unit is as it was
pub record IsRefused (z : Sizes) (c : Cache) (a : BankAnswer) : Type 0 where
  pub cause : arrive_cause z c a.slot a.i ≡ Some StrayWord
  pub same : (arrive_step z c a.slot a.i a.word).cache ≡ c

pub refused : (z : Sizes) (c : Cache) (a : BankAnswer) → length c.stack < z.depth → (arrive_step z c a.slot a.i a.word).answer ≢ Moved
    → IsRefused z c a
unfolding arrive_cause arrive_step
refused z c a room not_moved = grind arith

module _ (z : Sizes) (in_range : InRange z) (cache : Cache) (sent : ℕ → List Command) (popped popped' : ℕ → List BankAnswer)
    (entries : List Entry) (bank : ℕ) (a : BankAnswer) (here : bank < z.banks) (more : popped' bank ≡ popped bank ++ a ∷ [])
    (others : (b : ℕ) → b ≢ bank → popped' b ≡ popped b) (taken limit : ℕ) (counted : taken ≡ length (popped bank))
    (within : length entries ≤ limit) (small : limit ≤ 2 ^ 56) (fault : Option SideFault) (sound : fault ≡ None)
    (faulted : SideTells z cache sent popped fault entries) where
  h : SideTells z cache sent popped None entries
  h = grind arith

  lost : IsLost h.come popped' bank a
  lost = grind arith

  -- there are few enough reads for the count
  exact : count_by is_read (sent bank) % 2 ^ 64 ≡ count_by is_read (sent bank)
  exact =
      let few = reads_few z (omega (arith, in_range.some_words)) (come_word h.come) entries (opening_stand z) h.stand h.walks bank in
      let most = mul-le-mul_right (length entries) in_range.few_words in
      let swap : length entries * z.block_words ≡ z.block_words * length entries = omega arith in
      let same = ap (count_by is_read) (h.commands bank here) in
      let bound : count_by is_read (sent bank) < 2 ^ 64 = omega arith in
      mod-eq_of_lt bound

  pub uncalled : nat_lt taken (count_by is_read (sent bank) % 2 ^ 64) ≡ false
      → SideTells z cache sent popped' (Some (Uncalled bank)) entries
  uncalled e = grind (arith, ltb-false, exact)

  pub called : nat_lt taken (count_by is_read (sent bank) % 2 ^ 64) ≡ true → length (popped bank) < count_by is_read (sent bank)
  called e = grind arith

  pub stray : nat_lt taken (count_by is_read (sent bank) % 2 ^ 64) ≡ true → arrive_cause z cache a.slot a.i ≡ Some StrayWord
      → SideTells z cache sent popped' (Some (Stray bank a.slot a.i)) entries
  stray e r = grind arith

-- ---- the cache side's facts, by what the step has done

-- the unit refused the word
pub side_stray : (u v : UnitState) (sent : ℕ → List Command) (popped' : ℕ → List BankAnswer) (fault : Option SideFault)
    (entries : List Entry) (a : BankAnswer)
    → IsRefused u.sizes u.cache a → v ≡ record u { cache = (arrive_step u.sizes u.cache a.slot a.i a.word).cache }
    → SideTells u.sizes u.cache sent popped' fault entries → SideTells v.sizes v.cache sent popped' fault entries
side_stray u v sent popped' fault entries a r v_is h = grind arith

-- it took it
pub side_word : (u v : UnitState) (sent sent' : ℕ → List Command) (popped popped' : ℕ → List BankAnswer) (fault : Option SideFault)
    (entries entries' : List Entry) (bank : ℕ) (a : BankAnswer) (answer : Answer)
    → fault ≡ None → bank < u.sizes.banks → length (popped bank) < count_by is_read (sent bank) → popped' bank ≡ popped bank ++ a ∷ []
    → ((b : ℕ) → b ≢ bank → popped' b ≡ popped b) → ((b : ℕ) → sent' b ≡ sent b)
    → answer ≡ (arrive_step u.sizes u.cache a.slot a.i a.word).answer → answer ≡ Moved
    → v ≡ record u { cache = (arrive_step u.sizes u.cache a.slot a.i a.word).cache }
    → entries' ≡ entries ++ Step (Word bank) (Arrive bank 0) Moved ∷ [] → SideTells u.sizes u.cache sent popped fault entries
    → SideTells v.sizes v.cache sent' popped' fault entries'
side_word u v sent sent' popped popped' fault entries entries' bank a answer sound here called more others still answer_is moves v_is
    entries_is h =
    let h' : SideTells u.sizes u.cache sent popped None entries = rw sound at h in
    side_looked v sent sent' popped' fault entries' still (rw (sound, v_is, entries_is) (tells_word u.sizes u.cache sent popped entries h'
    (Word bank) bank a _ popped' Moved here called more others (sym moves ∙ answer_is) refl refl))

-- one word more of one bank is counted
pub counts : (taken taken' : ℕ → ℕ) (popped popped' : ℕ → List BankAnswer) (bank : ℕ) (a : BankAnswer)
    → ((b : ℕ) → taken b ≡ length (popped b)) → popped' bank ≡ popped bank ++ a ∷ [] → ((b : ℕ) → b ≢ bank → popped' b ≡ popped b)
    → taken' bank ≡ taken bank + 1 → ((b : ℕ) → b ≢ bank → taken' b ≡ taken b) → (b : ℕ) → taken' b ≡ length (popped' b)
counts taken taken' popped popped' bank a counted more others one rest b = grind (arith, length-append, cases_eq)
