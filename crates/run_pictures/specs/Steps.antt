-- The steps of a run: events that a machine is asked, and that are made.
use Rattle.std.specs.Prelude.{◌≡◌, ℕ}
use Rattle.machine_core.specs.Machine.{MachineState}
use Rattle.machine_core.specs.AnyMachine.{answered}
use Rattle.run_pictures.specs.declared.asked.Asked.{Asked}
use Rattle.run_pictures.specs.declared.step.Made.{Made}
use Rattle.run_pictures.specs.declared.step.Step.{Step}
use Rattle.run_pictures.specs.Asked.{other_answer}
use Rattle.run_pictures.specs.Phrases.{text_of}
use Rattle.run_pictures.specs.Words.{step_words}

-- what a machine that stands so makes of an event: its own answer, and the recorded one if that is another
abbrev pub made_by : MachineState → Asked → Made
made_by s asked =
    record {
      event = asked.event;
      answer = answered s asked.event;
      other = other_answer (answered s asked.event) asked.recorded;
    }

-- The step of this number: what such a machine makes of this, told in its words.
pub record IsStep (n : ℕ) (s : MachineState) (asked : Asked) (step : Step) : Type 0 where
  pub number : step.number ≡ n
  pub made : step.made ≡ made_by s asked
  pub words : text_of step.words ≡ step_words s asked.event
