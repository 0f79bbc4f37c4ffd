-- A step of the unit, as the cache side makes it.
use Rattle.std.proofs.Common.{◌≡◌, ℕ, ◌<◌, List, [], ◌∷◌, ◌++◌, Option, None, refl, arith, sym, ap, ◌∙◌, append-nil}
use Rattle.flat_model.specs.declared.Event.{Event}
use Rattle.flat_model.specs.declared.Event.TheVariants.{Process, Drain}
use Rattle.flat_model.specs.declared.Answer.{Answer}
use Rattle.memory_banks.specs.declared.Command.{Command}
use Rattle.memory_banks.specs.declared.BankAnswer.{BankAnswer}
use Rattle.memory_banks.specs.Banks.{commands_for}
use Rattle.cache_law.specs.State.{Cache, UnitState}
use Rattle.cache_law.specs.Steps.{Stepped, process_step, drain_step}
use Rattle.cache_law.proofs.Silent.{process_silent}
use Rattle.station_journal.specs.declared.journal.Source.{Source}
use Rattle.station_journal.specs.declared.journal.Source.TheVariants.{Stack}
use Rattle.station_journal.specs.declared.journal.Source.TheVariants as sources
use Rattle.station_journal.specs.declared.journal.Entry.{Entry}
use Rattle.station_journal.specs.declared.journal.Entry.TheVariants.{Step}
use Rattle.station_journal.specs.declared.journal.SideFault.{SideFault}
use Rattle.station_journal.specs.Journal.{Stand, come_word}
use Rattle.station_journal.specs.Side.{SideTells}
use Rattle.station_journal.proofs.Recording.{Recorded, process_recorded, drain_recorded}
use Rattle.station_journal.proofs.Telling.{tells_step}

-- a step of the unit that is no arrival, where the side isn't faulted
pub side_step : (u v : UnitState) (sent sent' : ℕ → List Command) (popped : ℕ → List BankAnswer) (fault : Option SideFault)
    (entries entries' : List Entry) (source : Source) (event : Event) (step : Cache → Stepped) (answer : Answer)
    → fault ≡ None → SideTells u.sizes u.cache sent popped fault entries
    → ((come : ℕ → List BankAnswer) (s : Stand) → Recorded u.sizes (come_word come) s event (step s.cache))
    → v ≡ record u { cache = (step u.cache).cache } → answer ≡ (step u.cache).answer
    → ((b : ℕ) → b < u.sizes.banks → sent' b ≡ sent b ++ commands_for b (step u.cache).sent)
    → entries' ≡ entries ++ Step source event answer ∷ [] → SideTells v.sizes v.cache sent' popped fault entries'
side_step u v sent sent' popped fault entries entries' source event step answer sound h recorded v_is answer_is sent_is entries_is =
    let h' = rw sound at h in
    rw (sound, v_is, entries_is) (tells_step u.sizes u.cache sent popped entries h' source event step (step u.cache).cache sent' answer
    (recorded h'.come) refl answer_is sent_is)

-- one that sends nothing
pub silent_step : (u v : UnitState) (sent : ℕ → List Command) (popped : ℕ → List BankAnswer) (fault : Option SideFault)
    (entries entries' : List Entry) (source : Source) (event : Event) (step : Cache → Stepped) (answer : Answer)
    → fault ≡ None → SideTells u.sizes u.cache sent popped fault entries
    → ((come : ℕ → List BankAnswer) (s : Stand) → Recorded u.sizes (come_word come) s event (step s.cache)) → (step u.cache).sent ≡ []
    → v ≡ record u { cache = (step u.cache).cache } → answer ≡ (step u.cache).answer → entries' ≡ entries ++ Step source event answer ∷ []
    → SideTells v.sizes v.cache sent popped fault entries'
silent_step u v sent popped fault entries entries' source event step answer sound h recorded silent v_is answer_is entries_is =
    side_step u v sent sent popped fault entries entries' source event step answer sound h recorded v_is answer_is
    (λ b l. sym (cc (silent, append-nil _))) entries_is

pub side_process : (u v : UnitState) (sent : ℕ → List Command) (popped : ℕ → List BankAnswer) (fault : Option SideFault)
    (entries entries' : List Entry) (place : ℕ) (answer : Answer)
    → fault ≡ None → SideTells u.sizes u.cache sent popped fault entries → v ≡ record u { cache = (process_step u.cache place).cache }
    → answer ≡ (process_step u.cache place).answer → entries' ≡ entries ++ Step (Stack place) (Process place) answer ∷ []
    → SideTells v.sizes v.cache sent popped fault entries'
side_process u v sent popped fault entries entries' place answer sound h v_is answer_is entries_is =
    silent_step u v sent popped fault entries entries' (Stack place) (Process place) (λ c. process_step c place) answer sound h
    (λ come s. process_recorded u.sizes (come_word come) s place) (process_silent u.cache place) v_is answer_is entries_is

pub side_drain : (u v : UnitState) (sent between sent' : ℕ → List Command) (popped : ℕ → List BankAnswer) (fault : Option SideFault)
    (entries entries' : List Entry) (room : ℕ → ℕ) (answer : Answer)
    → 0 < u.sizes.block_words → fault ≡ None → SideTells u.sizes u.cache sent popped fault entries
    → v ≡ record u { cache = (drain_step u.sizes room u.cache).cache } → answer ≡ (drain_step u.sizes room u.cache).answer
    → ((b : ℕ) → between b ≡ sent b) → ((b : ℕ) → sent' b ≡ between b ++ commands_for b (drain_step u.sizes room u.cache).sent)
    → entries' ≡ entries ++ Step sources.Drain Drain answer ∷ [] → SideTells v.sizes v.cache sent' popped fault entries'
side_drain u v sent between sent' popped fault entries entries' room answer some sound h v_is answer_is looked sent_is entries_is =
    side_step u v sent sent' popped fault entries entries' sources.Drain Drain (λ c. drain_step u.sizes room c) answer sound h
    (λ come s. drain_recorded u.sizes (come_word come) s room some) v_is answer_is
    (λ b l. sent_is b ∙ ap (λ xs. xs ++ commands_for b (drain_step u.sizes room u.cache).sent) (looked b)) entries_is

-- nothing but looks was done
pub side_looked : (u : UnitState) (sent sent' : ℕ → List Command) (popped : ℕ → List BankAnswer) (fault : Option SideFault)
    (entries : List Entry)
    → ((b : ℕ) → sent' b ≡ sent b) → SideTells u.sizes u.cache sent popped fault entries
    → SideTells u.sizes u.cache sent' popped fault entries
side_looked u sent sent' popped fault entries same h =
    grind arith
