-- A ready value is taken, and its port is told of it.
use Rattle.std.proofs.Common.{◌≡◌, ℕ, ◌/◌, ◌%◌, [], ◌∷◌, Some, arith}
use Rattle.flat_model.specs.declared.Word.{Word}
use Rattle.flat_model.specs.declared.Event.TheVariants.{Take}
use Rattle.flat_model.specs.declared.Answer.{Answer}
use Rattle.flat_model.specs.declared.Answer.TheVariants as answers
use Rattle.cache_law.specs.State.{Cache}
use Rattle.cache_law.specs.Steps.{take_step}
use Rattle.cache_law.specs.Views.{reply_view}
use Rattle.station_journal.specs.declared.journal.Source.TheVariants as sources
use Rattle.station_journal.specs.declared.journal.Entry.TheVariants.{Step}
use Rattle.station_journal.specs.declared.asks.Told.{Told}
use Rattle.station_journal.specs.declared.asks.Told.TheVariants.{Value}
use Rattle.station_journal.specs.Parts.{told_of}
use Rattle.station_parts.specs.Rows.{only}

-- the value that a view shows is what a take answers
pub shown_taken : (c : Cache) (place tag : ℕ) (word : Word) → reply_view c place ≡ Some (answers.Value tag word)
    → (take_step c place).answer ≡ answers.Value tag word
unfolding take_step
shown_taken c place tag word e = grind arith

-- the entry of a value tells it to the port of its tag, and to no other
pub only_value : (place tag port : ℕ) (word : Word) (answer : Answer) (told : Told) → port ≡ tag / 256 → answer ≡ answers.Value tag word
    → told ≡ Value (tag % 256) word → (p : ℕ) → only port (told ∷ []) p ≡ told_of p (Step (sources.Reply place) (Take place) answer ∷ [])
only_value place tag port word answer told port_is answer_is told_is = grind arith
