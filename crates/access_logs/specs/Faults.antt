-- The texts of faults.
use Rattle.std.specs.Prelude.{ℕ, ◌*◌, if◌then◌else◌, nat_le, List, ◌++◌, codes, decimal}
use Rattle.flat_model.specs.declared.limits.TheConstants.{MAX_WORDS}
use Rattle.trace_text.specs.Faults.{trace_fault_text}
use Rattle.access_logs.specs.declared.fault.NoRoom.{NoRoom}
use Rattle.access_logs.specs.declared.fault.LogFault.{LogFault}
use Rattle.access_logs.specs.declared.fault.LogFault.TheVariants as log
use Rattle.access_logs.specs.declared.pages.TheConstants.{PAGE_WORDS, MAX_PAGES}

-- how many words would do, if any
unfoldable pub remedy_text : ℕ → List ℕ
remedy_text pages =
    if nat_le pages MAX_PAGES then decimal (pages * PAGE_WORDS) ++ codes " words would do" else codes "memory has at most "
    ++ decimal MAX_WORDS ++ codes " words"

-- a number behind its name
abbrev pub number_text : List ℕ → ℕ → List ℕ
number_text name n = name ++ decimal n

-- which page has no room
unfoldable pub place_text : NoRoom → List ℕ
place_text n = number_text (codes "line ") n.line ++ number_text (codes ": no room for page ") n.pages

abbrev pub no_room_text : NoRoom → List ℕ
no_room_text n = place_text n ++ codes ": " ++ remedy_text n.pages

-- why the requests of a log weren't written to its end
abbrev pub log_fault_text : LogFault → List ℕ
log_fault_text (log.Trace fault) = trace_fault_text fault
log_fault_text (log.NoRoom n) = no_room_text n
