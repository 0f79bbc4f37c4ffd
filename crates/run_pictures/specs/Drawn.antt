-- What is drawn of a run: the machine before its first event, and behind each.
use Rattle.std.specs.Prelude.{◌≡◌, ℕ, ◌+◌, ◌%◌, ◌==◌, Bool, ◌||◌, ◌<◌, ◌≤◌, Result, Ok, Err, List, [], ◌∷◌, length, Some, None}
use Rattle.std.specs.String.{string_bytes}
use Rattle.std.specs.Global.{Global}
use Rattle.std.specs.declared.string.String.{String}
use Rattle.machine_core.specs.Machine.{MachineState}
use Rattle.flat_model.specs.declared.image.Image.{Image}
use Rattle.machine_core.specs.AnyMachine.{after_event}
use Rattle.trace_text.specs.declared.fault.TheConstants.{MAX_PAIR}
use Rattle.trace_text.specs.Reading.{ReadWhole, ReadFails}
use Rattle.run_pictures.specs.declared.asked.Asked.{Asked}
use Rattle.run_pictures.specs.declared.drawing.Form.{Form}
use Rattle.run_pictures.specs.declared.drawing.Form.TheVariants as form
use Rattle.run_pictures.specs.declared.drawing.Drawing.{Drawing}
use Rattle.run_pictures.specs.declared.drawing.Drawing.TheVariants.{Page, Screens, Waveform}
use Rattle.run_pictures.specs.declared.page.Page.{Page as PageSoFar}
use Rattle.run_pictures.specs.declared.drawn.TheConstants.{MOST_EVENTS, WHOLE_EVERY}
use Rattle.run_pictures.specs.declared.show.ShowFault.{ShowFault}
use Rattle.run_pictures.specs.declared.show.ShowFault.TheVariants.{Trace, TooManyEvents, OutOfMemory}
use Rattle.run_pictures.specs.declared.step.Step.{Step}
use Rattle.run_pictures.specs.Asked.{said_fault, all_asked}
use Rattle.run_pictures.specs.Steps.{IsStep}
use Rattle.run_pictures.specs.Pictures.{Begins, GoesOn}
use Rattle.run_pictures.specs.Screens.{ScreensOpen, ScreensGoOn}
use Rattle.run_pictures.specs.Waves.{WaveOpens, WaveGoesOn}

-- ---- pages

-- Of a page it is proved what it shows: which step, told in which words, and what stands where.

-- Before the first event.
pub record PageOpens (image : Image) (s : MachineState) (p : PageSoFar) : Type 0 where
  pub film : Begins image s p.film
  pub last : p.step ≡ None

-- A step, and the picture behind it.
pub record PageGoesOn (s : MachineState) (step : Step) (old new : PageSoFar) : Type 0 where
  pub film : GoesOn s step.made old.film new.film
  pub last : new.step ≡ Some step

-- ---- drawings

-- a drawing in this form of a machine before its first event, over an image
abbrev pub Opens : Form → Image → MachineState → Drawing → Type 0
Opens form.Page image s (Page p) = PageOpens image s p
Opens form.Screens image s (Screens p) = ScreensOpen image s p
Opens form.Waveform image s (Waveform w) = WaveOpens s w
Opens form image s d = ⊥

-- A drawing goes on by a step, behind which the machine stands so. Screens have the whole machine there, or what changed. A
-- waveform tells nothing in words.
abbrev pub Draws : Bool → MachineState → Step → Drawing → Drawing → Type 0
Draws whole s step (Page p) (Page q) = PageGoesOn s step p q
Draws whole s step (Screens p) (Screens q) = ScreensGoOn whole s step p q
Draws whole s step (Waveform v) (Waveform w) = WaveGoesOn step.number s step.made v w
Draws whole s step d d' = ⊥

-- whether the step of this number, of so many, has the whole machine
abbrev pub is_whole : ℕ → ℕ → Bool
is_whole count n = (n == count) || (n % WHOLE_EVERY == 0)

-- What is asked is drawn as the step of this number, of so many, by a machine that stands so before it: with the machine's
-- own answer, and the recorded one beside it if that is another.
abbrev pub DrawsEvent : ℕ → ℕ → MachineState → Asked → Drawing → Drawing → Type 0
DrawsEvent count n s asked d d' =
    (step : Step) × IsStep n s asked step × Draws (is_whole count n) (after_event s asked.event) step d d'

-- All this is drawn, in order, as the machine's walk from this state answers it. The first event has this number, of so many.
abbrev pub Follows : ℕ → ℕ → MachineState → List Asked → Drawing → Drawing → Type 0
Follows count n s [] d last = last ≡ d
Follows count n s (asked ∷ rest) d last =
    (next : Drawing) × DrawsEvent count n s asked d next × Follows count (n + 1) (after_event s asked.event) rest next last

-- What is written of a drawing: screens and waveforms to the byte.
abbrev pub IsWritten : Drawing → List ℕ → Type 0
IsWritten (Page p) text = Unit {0}
IsWritten (Screens p) text = text ≡ string_bytes p.text
IsWritten (Waveform w) text = text ≡ string_bytes w.text

-- A text draws the walk over all that is asked, from this state over an image: the machine before the first event, and behind each.
abbrev pub IsDrawn : Form → Image → MachineState → List Asked → List ℕ → Type 0
IsDrawn form image s all text =
    (first : Drawing) × (last : Drawing) × Opens form image s first × Follows (length all) 1 s all first last × IsWritten last text

-- What becomes of a trace or of a recorded run: its events are drawn, each with its recorded answer if that isn't the
-- machine's. Or it has a fault, or too many events, or memory is missing.
abbrev pub Shows : {R : Type 0} (gave : R → List ℕ → R → Type 0) (failed : R → R → Type 0) → Form → Image → MachineState → R → R
    → Result (String Global) ShowFault → Type 0
Shows gave failed form image s r r' (Ok text) =
    (texts : List (List ℕ)) × ReadWhole gave said_fault MAX_PAIR r r' texts × (length (all_asked texts) ≤ MOST_EVENTS) ×
    IsDrawn form image s (all_asked texts) (string_bytes text)
Shows gave failed form image s r r' (Err (Trace fault)) = ReadFails gave failed said_fault MAX_PAIR r r' fault
Shows gave failed form image s r r' (Err TooManyEvents) =
    (texts : List (List ℕ)) × ReadWhole gave said_fault MAX_PAIR r r' texts × (MOST_EVENTS < length (all_asked texts))
Shows gave failed form image s r r' (Err OutOfMemory) = Unit {0}
