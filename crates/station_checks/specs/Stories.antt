-- What is told of a run.
use Rattle.std.specs.Prelude.{ℕ, ◌*◌, ◌/◌, ◌-◌, ◌==◌, if◌then◌else◌, Bool, List, [], ◌∷◌, ◌++◌, flat_map, drop, length, codes, decimal}
use Rattle.std.specs.Global.{Vec}
use Rattle.std.specs.Duration.{as_nanos}
use Rattle.std.specs.declared.time.Duration.{Duration}
use Rattle.station_journal.specs.declared.asks.Ask.{Ask}
use Rattle.station_journal.specs.declared.asks.Told.{Told}
use Rattle.station_journal.specs.declared.journal.Entry.{Entry}
use Rattle.station_journal.specs.declared.journal.Entry.TheVariants.{Step, Ended}
use Rattle.station_parts.specs.declared.parts.Audit.{Audit}
use Rattle.station_parts.specs.declared.parts.Audit.TheVariants.{Clean}
use Rattle.station_checks.specs.declared.findings.Findings.{Findings}
use Rattle.station_checks.specs.declared.plan.Plan.{Plan}
use Rattle.station_checks.specs.declared.story.Tally.{Tally}
use Rattle.station_checks.specs.declared.story.TheConstants.{SHOWN}
use Rattle.station_checks.specs.Texts.{line_of, entry_text}
use Rattle.station_checks.specs.Literals.{audit_literal}
use Rattle.station_checks.specs.PortTexts.{ports_text}

-- what an audit found
abbrev pub audit_line : Audit → List ℕ
audit_line Clean = line_of (codes "audit: clean, nothing is left in a ring and nothing is owed")
audit_line found = line_of (codes "audit: " ++ audit_literal found)

abbrev pub flat_text : Bool → List ℕ
flat_text is_flat = line_of (if is_flat then codes "journal: flat" else codes "journal: not flat")

abbrev pub findings_text : Findings → List ℕ
findings_text found = audit_line found.audit ++ flat_text found.is_flat

-- what no schedule changes
abbrev pub story_text : Plan → List (Vec Ask) → List (Vec Told) → Findings → List ℕ
story_text plan scripts lists found = ports_text plan scripts lists ++ findings_text found

-- the journal as a recorded run: a line for each step
abbrev pub step_text : Entry → List ℕ
step_text (Step source event answer) = line_of (entry_text (Step source event answer))
step_text (Ended port) = []

abbrev pub recorded_text : List Entry → List ℕ
recorded_text entries = flat_map step_text entries

-- how many a second, rounded down; 0 if no time passed
abbrev pub rate_of : ℕ → Duration → ℕ
rate_of count took = if as_nanos took == 0 then 0 else count * 1_000_000_000 / as_nanos took

-- how far a run is, in place of the line before
abbrev pub progress_text : Tally → Duration → List ℕ
progress_text tally took =
    13 ∷ decimal tally.asks ++ (codes " asks, " ++ (decimal (rate_of tally.asks took) ++ (codes " asks per second, "
    ++ (decimal tally.segments ++ (codes " segments, " ++ (decimal tally.segments ++ codes " audits clean"))))))

-- the last entries of a journal
abbrev pub last_of : List Entry → List Entry
last_of entries = drop (length entries - SHOWN) entries

abbrev pub shown_text : Entry → List ℕ
shown_text entry = line_of (codes "  " ++ entry_text entry)

abbrev pub length_text : ℕ → List ℕ
length_text entries = codes "the journal has " ++ (decimal entries ++ line_of (codes " entries, and ends with"))

abbrev pub again_text : ℕ → List ℕ
again_text again = line_of (decimal again ++ codes " asks were offered again")

abbrev pub rate_text : ℕ → List ℕ
rate_text rate = line_of (decimal rate ++ codes " asks per second")

-- what changes from run to run
abbrev pub run_text : Tally → List Entry → Duration → List ℕ
run_text tally entries took =
    length_text tally.entries
    ++ (flat_map shown_text (last_of entries) ++ (again_text tally.again ++ rate_text (rate_of tally.asks took)))
