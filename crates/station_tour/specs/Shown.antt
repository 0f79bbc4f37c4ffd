-- What a job tells of what was seen of it.
use Rattle.std.specs.Prelude.{◌≡◌, ◌≤◌, ◌==◌, ◌&&◌, ℕ, ◌+◌, ◌-◌, ◌^◌, min, Bool, true, false, if◌then◌else◌}
use Rattle.std.specs.Prelude.{List, [], ◌++◌, length, Option, Some, None, ⊤}
use Rattle.std.specs.Global.{Vec}
use Rattle.std.specs.declared.time.Duration.{Duration}
use Rattle.std.specs.Io.KnownBytes.{Appends}
use Rattle.station_journal.specs.declared.asks.Ask.{Ask}
use Rattle.station_journal.specs.declared.asks.Told.{Told}
use Rattle.station_journal.specs.declared.journal.Entry.{Entry}
use Rattle.ring_station.specs.declared.segment.Segment.{Segment}
use Rattle.station_checks.specs.declared.plan.Plan.{Plan}
use Rattle.station_checks.specs.declared.findings.Findings.{Findings}
use Rattle.station_checks.specs.declared.story.Tally.{Tally}
use Rattle.station_checks.specs.Counts.{again_in}
use Rattle.station_checks.specs.PortTexts.{ports_text}
use Rattle.station_checks.specs.Stories.{findings_text, recorded_text, progress_text}
use Rattle.station_tour.specs.declared.command_line.Job.{Job}
use Rattle.station_tour.specs.declared.command_line.Job.TheVariants as job
use Rattle.station_tour.specs.declared.command_line.Show.{Show}
use Rattle.station_tour.specs.declared.command_line.Show.TheVariants.{Story, Journal}
use Rattle.station_tour.specs.declared.seen.Seen.{Seen}
use Rattle.station_tour.specs.declared.seen.Seen.TheVariants as seen
use Rattle.station_tour.specs.Asked.{asks_in}
use Rattle.station_tour.specs.Soaks.{soak_text}

-- known bytes grow by some that end in this text
abbrev pub EndsIn : Option (List ℕ) → Option (List ℕ) → List ℕ → Type 0
EndsIn old new text = (front : List ℕ) × Appends old new (front ++ text)

-- known bytes grow by some
unfoldable pub HasGrown : Option (List ℕ) → Option (List ℕ) → Type 0
HasGrown old new = (text : List ℕ) × Appends old new text

-- a story grows behind each segment, and ends behind the last one with what was found
abbrev pub GoesOn : Bool → Option (List ℕ) → Option (List ℕ) → Option Findings → Type 0
GoesOn story old new None = HasGrown old new
GoesOn story old new (Some found) = story ≡ true → EndsIn old new (findings_text found)

-- behind the first segment of a story its beginning is told
abbrev pub begin_text : Bool → ℕ → Plan → List (Vec Ask) → List (Vec Told) → List ℕ
begin_text story segments plan scripts lists = if story && (segments == 0) then ports_text plan scripts lists else []

-- the journal of a segment, if that is shown
abbrev pub journal_text : Bool → List Entry → List ℕ
journal_text journal entries = if journal then recorded_text entries else []

-- how far a tour is, if that is told
abbrev pub course_text : Bool → Tally → Duration → List ℕ
course_text progress tally took = if progress then progress_text tally took else []

-- a story ends with what was found
abbrev pub end_text : Bool → Findings → List ℕ
end_text story found = if story then findings_text found else []

-- a tally with one segment more
pub record IsNoted (old : Tally) (scripts : List (Vec Ask)) (segment : Segment) (new : Tally) : Type 0 where
  pub segments : new.segments ≡ min (old.segments + 1) (2 ^ 64 - 1)
  pub asks : new.asks ≡ min (old.asks + min (asks_in scripts) (2 ^ 64 - 1)) (2 ^ 64 - 1)
  pub entries : new.entries ≡ min (old.entries + length segment.journal.items) (2 ^ 64 - 1)
  pub again : new.again ≡ min (old.again + again_in segment.lists.items) (2 ^ 64 - 1)

-- ---- of which pages a tour is shown

abbrev pub shows_story : Show → Bool
shows_story Journal = false
shows_story show = true

abbrev pub shows_journal : Show → Bool
shows_journal Story = false
shows_journal show = true

-- a story ends with what was found, if there was an ask
abbrev pub EndsAsShown : Show → Plan → Option (List ℕ) → Option (List ℕ) → Findings → Type 0
EndsAsShown show plan old new found = shows_story show ≡ true → 1 ≤ plan.asks → EndsIn old new (findings_text found)

-- ---- what is told of a job

-- this was seen of a tour, and its story ends with it
abbrev pub TellsTour : Show → Plan → Option (List ℕ) → Option (List ℕ) → Seen → Type 0
TellsTour show plan old new (seen.Tour found) = EndsAsShown show plan old new found
TellsTour show plan old new other = ⊥

-- this was seen of a soak, and is what is told
abbrev pub TellsSoak : ℕ → Option (List ℕ) → Option (List ℕ) → Seen → Type 0
TellsSoak stations old new (seen.Soak soaked) = Appends old new (soak_text stations soaked)
TellsSoak stations old new other = ⊥

-- the servers were measured
abbrev pub IsMeasured : Seen → Type 0
IsMeasured (seen.Rates all_good) = ⊤
IsMeasured other = ⊥

abbrev pub IsTold : Job → Option (List ℕ) → Option (List ℕ) → Seen → Type 0
IsTold (job.Tour plan threads show) old new seen = TellsTour show plan old new seen
IsTold (job.Soak stations seed) old new seen = TellsSoak stations old new seen
IsTold (job.Rates plan) old new seen = IsMeasured seen
IsTold (job.Once plan server) old new seen = IsMeasured seen
