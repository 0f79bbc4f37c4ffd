-- What the program is asked for, and how it ends.
use Rattle.std.specs.Prelude.{◌≡◌, ℕ, ◌%◌, ◌≤◌, Bool, true, false, ◌==◌, ◌&&◌, nat_lt, if◌then◌else◌, min}
use Rattle.std.specs.Prelude.{Option, Some, None, IfSome, is_some}
use Rattle.std.specs.Prelude.{List, [], ◌∷◌, ◌++◌, take, codes, decimal}
use Rattle.std.specs.Borrow.{Bor}
use Rattle.std.specs.List.{AllByRecursion, list_any}
use Rattle.std.specs.Option.{unwrap_or}
use Rattle.kroft_jobs.specs.Words.{MAX_WORDS, MOST_LATENCY, Timing, LogFault, ShowFault, MachineFault, TraceFault}
use Rattle.history_sessions.specs.Words.{UnitSize, Eight, DEFAULT_LIMIT}
use Rattle.history_sessions.specs.declared.judge.HistoryLaw.{HistoryLaw}
use Rattle.history_sessions.specs.declared.judge.HistoryLaw.TheVariants.{Atomic}
use Rattle.round_driver.specs.Timings.{unpipelined}
use Rattle.kroft_command.specs.Words.{MachineName, Registers, Timings, Task, HistoryTask, ImageName, ToolFault, LongImage}
use Rattle.kroft_command.specs.declared.command_line.MachineName.TheVariants as source
use Rattle.kroft_command.specs.declared.command_line.TheConstants.{MOST_LATENCIES, MOST_ROWS}
use Rattle.kroft_command.specs.declared.command_line.Task.TheVariants.{Sweep, Drive, Timeline, Requests, History}
use Rattle.kroft_command.specs.declared.command_line.ImageName.TheVariants as image
use Rattle.named_fields.specs.declared.format.VerdictFormat.TheVariants.{Text}
use Rattle.access_logs.specs.Faults.{no_room_text}
use Rattle.access_logs.specs.declared.fault.LogFault.TheVariants as log
use Rattle.shape_files.specs.MachineFile.{machine_fault_text}
use Rattle.shape_files.specs.declared.machine_file.MachineFault.TheVariants as machine
use Rattle.shape_files.specs.declared.shape_file.TheConstants.{REGISTER_COUNTS}
use Rattle.trace_text.specs.Codes.{line_feed}
use Rattle.trace_text.specs.Faults.{trace_fault_text}
use Rattle.trace_text.specs.declared.fault.TraceFault.TheVariants.{Write}
use Rattle.kroft_jobs.specs.Jobs as jobs
use Rattle.kroft_jobs.specs.declared.fault.JobFault.TheVariants.{Trace, OutOfMemory}
use Rattle.kroft_command.specs.declared.fault.ToolFault.TheVariants.{CommandLine, Job, Machine, MachineUnreadable, NoRoom, ImageUnreadable}
use Rattle.kroft_command.specs.declared.fault.ToolFault.TheVariants.{LongImage as TooLong, SheetUnreadable, Sheet, HistoryUnreadable}

-- times of memory that there may be
abbrev pub IsTimely : Timing → Type 0
IsTimely timing = timing.latency ≤ MOST_LATENCY

-- the times of memory that were given to a sweep
abbrev pub timings_in : Timings → List Timing
timings_in t = take (min t.given MOST_LATENCIES) t.all

-- the numbers of registers of a sweep: those of the machines that the program makes of shapes, unless some were given
abbrev pub registers_in : Registers → List ℕ
registers_in r = if r.given == 0 then REGISTER_COUNTS else take (min r.given MOST_ROWS) r.all

-- each of these is more than the one before it
abbrev pub ascends : {X : Type 0} → (X → ℕ) → List X → Bool
ascends of [] = true
ascends of (x ∷ []) = true
ascends of (x ∷ y ∷ rest) = nat_lt (of x) (of y) && ascends of (y ∷ rest)

abbrev pub latency_in : Timing → ℕ
latency_in timing = timing.latency

-- a bank would begin commands more rarely than it serves them
abbrev pub is_too_busy : Timing → Bool
is_too_busy timing = nat_lt timing.latency timing.busy

-- Latencies are swept in ascending order, at most eight of them,
abbrev pub AreInOrder : Timings → Type 0
AreInOrder t = (t.given ≤ MOST_LATENCIES) × (ascends latency_in (timings_in t) ≡ true)

-- and none is less than the rounds between two begins.
abbrev pub AreSwept : Timings → Type 0
AreSwept t = AreInOrder t × (list_any is_too_busy (timings_in t) ≡ false)

-- The rows have ascending numbers of registers, at most sixteen of them.
abbrev pub AreRows : Registers → Type 0
AreRows r = (r.given ≤ MOST_ROWS) × (ascends (λ n. n) (registers_in r) ≡ true)

-- Only the atomic law knows units, and a history that is written has its verdict as text.
abbrev pub KnowsUnits : HistoryLaw → Type 0
KnowsUnits (Atomic unit limit) = Unit {0}
KnowsUnits law = ⊥

abbrev pub IsJudged : HistoryTask → Type 0
IsJudged how = (is_some how.unit ≡ true → KnowsUnits how.law) × (how.values ≡ true → how.format ≡ Text)

-- what is asked of a task beside the ranges of its numbers
abbrev pub IsAllowed : Task → Type 0
IsAllowed (Sweep timings registers form) = AreSwept timings × AreRows registers
IsAllowed (Drive from timing summary all form) = is_too_busy timing ≡ false
IsAllowed (Timeline from timing) = is_too_busy timing ≡ false
IsAllowed (Requests from words) = words % 4 ≡ 0
IsAllowed (History how) = IsJudged how
IsAllowed task = Unit {0}

-- The memory of a history is bytes, so it begins with no addresses of words.
abbrev pub MayBegin : Task → ImageName → Type 0
MayBegin (History how) image.Address = ⊥
MayBegin task image = Unit {0}

-- An atomic law has the unit that is given, or eight bytes, and gives up where it usually does.
abbrev pub HasUnit : Option UnitSize → HistoryLaw → Type 0
HasUnit unit (Atomic size limit) = (size ≡ unwrap_or unit Eight) × (limit ≡ DEFAULT_LIMIT)
HasUnit unit law = Unit {0}

-- the numbers of what is asked for are in their ranges
abbrev pub IsInRange : Task → Type 0
IsInRange (Sweep timings registers form) = AllByRecursion IsTimely timings.all
IsInRange (Drive from timing summary all form) = IsTimely timing
IsInRange (Timeline from timing) = IsTimely timing
IsInRange (Requests from words) = words ≤ MAX_WORDS
IsInRange (History how) = HasUnit how.unit how.law
IsInRange task = Unit {0}

-- ---- the machine's file

-- what the machine's numbers are read from. Both files at once are refused.
abbrev pub machine_named : Option (Bor (List ℕ)) → Option (Bor (List ℕ)) → MachineName
machine_named shape (Some path) = source.Machine path
machine_named (Some path) None = source.Shape path
machine_named None None = source.Usual

-- ---- numbers that may be left out

-- rounds from a command's begin to its service, ten if none are given
abbrev pub latency_or_usual : Option ℕ → ℕ
latency_or_usual None = 10
latency_or_usual (Some latency) = latency

-- the times of memory: one command at a time, unless the rounds between two begins are given
abbrev pub timing_with : ℕ → Option ℕ → Timing
timing_with latency None = unpipelined latency
timing_with latency (Some busy) = record { latency = latency; busy = busy }

-- the words of memory, as many as there may be if none are given
abbrev pub words_or_most : Option ℕ → ℕ
words_or_most None = MAX_WORDS
words_or_most (Some words) = min words MAX_WORDS

-- ---- faults

-- a write or a flush of the output was refused
abbrev pub write_fault : ToolFault
write_fault = Job (Trace Write)

-- memory is missing
abbrev pub no_memory : ToolFault
no_memory = Job OutOfMemory

-- the status with which the program ends at a fault
abbrev pub status_of : ToolFault → ℕ
status_of (CommandLine error) = 2
status_of (Job fault) = jobs.status_of fault
status_of (Machine fault) = 3
status_of MachineUnreadable = 3
status_of SheetUnreadable = 4
status_of (Sheet fault) = 4
status_of HistoryUnreadable = 4
status_of (NoRoom fault) = 4
status_of ImageUnreadable = 4
status_of (TooLong image) = 4

-- a text with its LF
abbrev pub line : List ℕ → List ℕ
line text = text ++ line_feed ∷ []

-- what is told of an image for which memory has no room
abbrev pub long_image_text : LongImage → List ℕ
long_image_text image =
    codes "image: longer than memory: " ++ (decimal image.bytes ++ (codes " bytes, and memory has " ++ decimal image.memory))

-- What is told of a fault. No contract says what `clap` tells of refused words.
abbrev pub fault_text : ToolFault → Option (List ℕ)
fault_text (CommandLine error) = None
fault_text (Job fault) = Some (jobs.fault_text fault)
fault_text (Machine fault) = Some (machine_fault_text fault)
fault_text MachineUnreadable = Some (codes "machine: file not readable")
fault_text SheetUnreadable = Some (codes "sheet: file not readable")
fault_text (Sheet fault) = Some (codes "sheet: " ++ trace_fault_text fault)
fault_text HistoryUnreadable = Some (codes "history: file not readable")
fault_text (NoRoom fault) = Some (no_room_text fault)
fault_text ImageUnreadable = Some (codes "image: file not readable")
fault_text (TooLong image) = Some (long_image_text image)

-- the line of a fault, with its LF; what `clap` tells ends its own line
abbrev pub IsLineOf : ToolFault → List ℕ → Type 0
IsLineOf fault text = IfSome (fault_text fault) (λ told. text ≡ line told)

-- ---- what is told of a fault below

abbrev pub of_trace : TraceFault → ToolFault
of_trace fault = Job (jobs.of_trace fault)

abbrev pub of_machine : MachineFault → ToolFault
of_machine machine.OutOfMemory = no_memory
of_machine fault = Machine fault

abbrev pub of_show : ShowFault → ToolFault
of_show fault = Job (jobs.of_show fault)

abbrev pub of_log : LogFault → ToolFault
of_log (log.Trace fault) = of_trace fault
of_log (log.NoRoom fault) = NoRoom fault
