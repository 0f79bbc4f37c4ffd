-- What the program does: for its task, as the words were understood, the machine and the image that were read, and its input,
-- which bytes go to its output, and by which status or fault it ends.
use Rattle.std.specs.Prelude.{◌≡◌, ◌≢◌, ◌⊎◌, ℕ, ◌*◌, ◌/◌, ◌<◌, ◌≤◌, Bool, true, false}
use Rattle.std.specs.Prelude.{Option, Some, None, Result, Ok, Err, List, [], ◌∷◌, ◌++◌, length}
use Rattle.std.specs.Prelude.{map, if◌then◌else◌, nat_lt}
use Rattle.std.specs.List.{flat_map}
use Rattle.std.specs.Borrow.{Bor}
use Rattle.std.specs.String.{string_bytes}
use Rattle.std.specs.Global.{Global, Vec}
use Rattle.std.specs.declared.string.String.{String}
use Rattle.kroft_jobs.specs.Words.{Sizes, Image, CheckEnd, MAX_LINE, MAX_PAIR, TraceFault, LineFault, Counts, Access, LogFault, AccessGroup}
use Rattle.kroft_jobs.specs.Words.{AccessCounts, Event, PAGE_WORDS, Format, VerdictFormat, Details, Table, Timing, Form, ShowFault}
use Rattle.kroft_jobs.specs.Words.{Explanation, RoundsRow, MachineFault, ShapeFault, ToolShape, Score, Marking, Question}
use Rattle.register_sweeps.specs.Machine.{MachineState}
use Rattle.toml.specs.Parse.{parse_document}
use Rattle.flat_model.specs.Flat.{Flat}
use Rattle.flat_model.specs.Images.{memory_from, flat_from, bytes_of}
use Rattle.flat_model.specs.declared.image.Image.TheVariants as memory
use Rattle.trace_text.specs.Checks.{pair_fault, IsJudgedFrom}
use Rattle.trace_text.specs.Reading.{ReadWhole, ReadFails}
use Rattle.trace_text.specs.Requests.{requests_of}
use Rattle.trace_text.specs.Serving.{trace_fault, Ends}
use Rattle.access_logs.specs.Formats.{lackey_access, din_access}
use Rattle.access_logs.specs.Logs as logs
use Rattle.history_text.specs.Answers.{verdict_status as history_status}
use Rattle.history_text.specs.Histories.{Judges}
use Rattle.history_text.specs.Shrinking.{IsShort}
use Rattle.history_sessions.specs.Session.{Session, session_opening}
use Rattle.history_text.specs.Values.{Writes}
use Rattle.history_text.specs.declared.answers.HistoryEnd.{HistoryEnd}
use Rattle.run_pictures.specs.Drawn.{Shows}
use Rattle.kroft_jobs.specs.Runs.{Explains, status_of as explanation_status}
use Rattle.register_sweeps.specs.Sweep.{machine_over, row_of}
use Rattle.shape_files.specs.MachineFile.{TextSays, TextFails}
use Rattle.shape_files.specs.ShapeFile.{sizes_of, text_says}
use Rattle.shape_files.specs.declared.shape_file.TheConstants.{DEFAULT_SHAPE}
use Rattle.kroft_jobs.specs.Grades.{score_status}
use Rattle.result_formats.specs.Details.{details_in}
use Rattle.result_figures.specs.Losses.{figure as loss_marks}
use Rattle.result_figures.specs.Marks.{omissions_text}
use Rattle.result_figures.specs.Sweeps.{Swept, sweep_marks}
use Rattle.result_figures.specs.Timelines.{Ran, timeline_marks}
use Rattle.result_figures.specs.Turns.{sight_of}
use Rattle.result_figures.specs.declared.seen.Seen.{Seen}
use Rattle.result_figures.specs.declared.drawing.Drawing.{Drawing}
use Rattle.result_figures.specs.declared.mark.Mark.{Mark}
use Rattle.result_figures.specs.declared.mark.Omission.{Omission}
use Rattle.result_figures.specs.declared.mark.Omission.TheVariants.{Undrawn, Recorded}
use Rattle.result_figures.specs.declared.mark.Scale.{Scale}
use Rattle.result_formats.specs.Counts.{table_in, table_head, rounds_in, rounds_head, latency_in, latency_head, pumps_in, pumps_head}
use Rattle.kroft_jobs.specs.Answering.{tags_owed, answered_status}
use Rattle.kroft_jobs.specs.Driving.{DrivesAll}
use Rattle.kroft_jobs.specs.Following.{FollowsAll}
use Rattle.kroft_jobs.specs.Walking.{WalksAll}
use Rattle.kroft_jobs.specs.declared.walking.WalkedRun.{WalkedRun}
use Rattle.kroft_jobs.specs.declared.following.FollowedRun.{FollowedRun}
use Rattle.kroft_jobs.specs.declared.following.TheConstants.{MOST_FOLLOWED}
use Rattle.kroft_jobs.specs.Forms.{check_in, answered_in}
use Rattle.kroft_jobs.specs.Grading.{GradeBy, GradeOf, SolutionOf, WritesSheet}
use Rattle.kroft_jobs.specs.Handed.{questions_from}
use Rattle.kroft_jobs.specs.Jobs as jobs
use Rattle.kroft_jobs.specs.Jobs.{swept, verdict_status}
use Rattle.kroft_jobs.specs.Asking.{Asks, AsksNothing, room_of}
use Rattle.kroft_jobs.specs.Sweeping.{IsCounted, CountsAll, AreCounted, AreSwept, SweepFails}
use Rattle.kroft_jobs.specs.Writing.{IsPut, IsCut, IsOffered}
use Rattle.kroft_jobs.specs.declared.asked.RequestText.{RequestText}
use Rattle.kroft_jobs.specs.declared.fault.JobFault.{JobFault}
use Rattle.kroft_jobs.specs.declared.fault.JobFault.TheVariants.{ShapeUnreadable, OutOfMemory}
use Rattle.result_formats.specs.Explanations.{explanation_in}
use Rattle.result_formats.specs.Histories.{history_in}
use Rattle.kroft_jobs.specs.declared.rounds.LatencyRows.{LatencyRows}
use Rattle.clap.specs.Values.{kind_of}
use Rattle.clap.specs.declared.error.Error.{Error}
use Rattle.clap.specs.declared.error.kind.ErrorKind.TheVariants.{DisplayHelp, DisplayVersion}
use Rattle.kroft_command.specs.Words.{CommandLine, CountForm, HistoryTask, ImageName, LogName, MachineName, SheetWork, Task, ToolFault}
use Rattle.kroft_command.specs.declared.command_line.CountForm.TheVariants.{Lines, Figure}
use Rattle.kroft_command.specs.declared.command_line.ImageName.TheVariants as name
use Rattle.kroft_command.specs.declared.command_line.LogName.TheVariants.{Lackey, Din}
use Rattle.kroft_command.specs.declared.command_line.MachineName.TheVariants as source
use Rattle.kroft_command.specs.declared.command_line.SheetWork.TheVariants as sheet
use Rattle.kroft_command.specs.declared.command_line.Task.TheVariants as task
use Rattle.kroft_command.specs.declared.fault.ToolFault.TheVariants.{CommandLine as Words, Job, MachineUnreadable, ImageUnreadable}
use Rattle.kroft_command.specs.declared.fault.ToolFault.TheVariants.{LongImage as TooLong, SheetUnreadable, Sheet as SheetFault}
use Rattle.kroft_command.specs.declared.fault.ToolFault.TheVariants.{HistoryUnreadable}
use Rattle.named_fields.specs.declared.format.Format.TheVariants.{Text}
use Rattle.kroft_command.specs.Tool.{IsInRange, IsAllowed, MayBegin, timings_in, registers_in, line, write_fault, no_memory, of_machine}
use Rattle.kroft_command.specs.Tool.{of_trace, of_show, of_log}

-- how an end is told: by a status, or by a fault
abbrev pub told : {X F : Type 0} (status_for : X → ℕ) (fault_for : F → ToolFault) → Result X F → Result ℕ ToolFault
told status_for fault_for (Ok x) = Ok (status_for x)
told status_for fault_for (Err f) = Err (fault_for f)

-- what the lines of a log say
abbrev pub access_in : LogName → List ℕ → Result (Option Access) LineFault
access_in Lackey = lackey_access
access_in Din = din_access

-- a history by its law, before the first line
abbrev pub history_from : HistoryTask → List ℕ → Session
history_from how image = session_opening how.law image how.rest

-- ---- the rows of latencies

-- a latency and its rows
abbrev pub swept_rows : LatencyRows → Swept
swept_rows r = record { latency = r.latency; rows = r.rows.items }

-- a line for each of them
abbrev pub latency_lines : Format → Swept → List ℕ
latency_lines format s = flat_map (λ row. line (latency_in format s.latency row)) s.rows

-- ---- requests that are followed

-- the requests behind those that are drawn
abbrev pub undrawn : ℕ → Option Omission
undrawn requests = if nat_lt MOST_FOLLOWED requests then Some (Undrawn (record { drawn = MOST_FOLLOWED; requests = requests })) else None

abbrev pub ran_beside : Option Sizes → Option Seen → List Ran
ran_beside (Some sizes) (Some seen) = record { sizes = sizes; seen = sight_of seen } ∷ []
ran_beside sizes seen = []

abbrev pub followed_marks : Sizes → Option Sizes → Timing → FollowedRun → List Mark
followed_marks sizes beside timing run =
    timeline_marks (Some timing) (undrawn run.requests)
    (record { sizes = sizes; seen = sight_of run.first } ∷ ran_beside beside run.beside)

-- the first recorded answer that isn't the machine's
abbrev pub other_answers : Option ℕ → Option Omission
other_answers (Some event) = Some (Recorded event)
other_answers None = None

abbrev pub walked_marks : Sizes → WalkedRun → List Mark
walked_marks sizes run = timeline_marks None (other_answers run.other) (record { sizes = sizes; seen = sight_of run.seen } ∷ [])

-- ---- words

-- `clap` says by an error that words ask for help or the version,
abbrev pub AsksForText : Error → Type 0
AsksForText said = (kind_of said ≡ DisplayHelp) ⊎ (kind_of said ≡ DisplayVersion)

-- or by any other that they are refused.
abbrev pub IsRefused : Error → Type 0
IsRefused said = (kind_of said ≢ DisplayHelp) × (kind_of said ≢ DisplayVersion)

-- ---- files

-- The machine is the program's own, if no file is named, and else what the file's text says.
abbrev pub IsMachineOf : MachineName → Sizes → Type 0
IsMachineOf source.Usual sizes = sizes ≡ sizes_of DEFAULT_SHAPE
IsMachineOf (source.Shape path) sizes =
    (text : List ℕ) × (shape : ToolShape) × (text_says (parse_document text) ≡ Ok shape) × (sizes ≡ sizes_of shape)
IsMachineOf (source.Machine path) sizes = (text : List ℕ) × TextSays (parse_document text) sizes

-- Why a file has no text: it can't be read, or memory is missing for that.
abbrev pub IsUnread : (unreadable fault : ToolFault) → Type 0
IsUnread unreadable fault = (fault ≡ unreadable) ⊎ (fault ≡ no_memory)

-- Why a text says no shape: it says another one, or memory is missing for reading it as a table.
abbrev pub ShapeTextFails : List ℕ → JobFault → Type 0
ShapeTextFails text fault =
    (fault ≡ OutOfMemory) ⊎ ((f : ShapeFault) × (text_says (parse_document text) ≡ Err f) × (fault ≡ jobs.of_shape f))

abbrev pub MachineTextFails : List ℕ → ToolFault → Type 0
MachineTextFails text fault = (f : MachineFault) × TextFails text f × (fault ≡ of_machine f)

-- Why there are no numbers: the file can't be read, or its text says none.
abbrev pub MachineFails : MachineName → ToolFault → Type 0
MachineFails source.Usual fault = ⊥
MachineFails (source.Shape path) fault =
    IsUnread (Job ShapeUnreadable) fault ⊎ ((text : List ℕ) × (f : JobFault) × ShapeTextFails text f × (fault ≡ Job f))
MachineFails (source.Machine path) fault =
    IsUnread MachineUnreadable fault ⊎ ((text : List ℕ) × MachineTextFails text fault)

-- The machine beside it, if its file is named.
abbrev pub IsBesideOf : Option (Bor (List ℕ)) → Option Sizes → Type 0
IsBesideOf None None = Unit {0}
IsBesideOf (Some path) (Some sizes) = IsMachineOf (source.Machine path) sizes
IsBesideOf path sizes = ⊥

abbrev pub BesideFails : Option (Bor (List ℕ)) → ToolFault → Type 0
BesideFails None fault = ⊥
BesideFails (Some path) fault = MachineFails (source.Machine path) fault

-- Memory has zeros before the first store, if nothing is named, or addresses, or else what the file gave.
abbrev pub IsImageOf : ImageName → Image → Type 0
IsImageOf name.Zeros image = image ≡ memory.Zeros
IsImageOf name.Address image = image ≡ memory.Address
IsImageOf (name.File path) image = (bytes : Vec ℕ) × (image ≡ memory.Bytes bytes)

-- Why there is no image: its file has none.
abbrev pub ImageFails : ImageName → ToolFault → Type 0
ImageFails (name.File path) fault = IsUnread ImageUnreadable fault
ImageFails name fault = ⊥

-- The questions are those of the sheet's lines.
abbrev pub IsSheet : List Question → Type 0
IsSheet questions = (texts : List (List ℕ)) × (questions ≡ questions_from 1 texts)

-- Why a sheet's bytes ask nothing: a line has a fault, or memory is missing.
abbrev pub IsSheetFault : ToolFault → Type 0
IsSheetFault fault = (fault ≡ no_memory) ⊎ ((f : TraceFault) × (fault ≡ SheetFault f))

-- Why there are no questions: the file can't be read, or its bytes ask nothing.
abbrev pub SheetFileFails : ToolFault → Type 0
SheetFileFails fault = IsUnread SheetUnreadable fault ⊎ IsSheetFault fault

-- Why a file's history can't be judged: it can't be read, or has a fault, or memory is missing.
abbrev pub HistoryFileFails : ToolFault → Type 0
HistoryFileFails fault = IsUnread HistoryUnreadable fault ⊎ ((f : TraceFault) × (fault ≡ of_trace f))

-- only a grade is by a sheet
abbrev pub grade_format : Task → Format
grade_format (task.Grade format work) = format
grade_format task = Text

-- the bytes of a machine's memory
abbrev pub memory_bytes : Sizes → ℕ
memory_bytes sizes = 4 * sizes.words

-- A machine's memory has room for the image. That of a history has no end.
abbrev pub HasRoom : Task → (sizes : Sizes) (image : Image) → Type 0
HasRoom (task.History how) sizes image = Unit {0}
HasRoom task sizes image = length (bytes_of image) ≤ memory_bytes sizes

-- Why not: how many bytes either has.
abbrev pub LacksRoom : Task → (sizes : Sizes) (image : Image) → ToolFault → Type 0
LacksRoom (task.History how) sizes image fault = ⊥
LacksRoom task sizes image fault =
    (memory_bytes sizes < length (bytes_of image))
    × (fault ≡ TooLong (record { bytes = length (bytes_of image); memory = memory_bytes sizes }))

-- The same of the machine beside it.
abbrev pub HasRoomBeside : Task → (beside : Option Sizes) (image : Image) → Type 0
HasRoomBeside task None image = Unit {0}
HasRoomBeside task (Some sizes) image = HasRoom task sizes image

abbrev pub LacksRoomBeside : Task → (beside : Option Sizes) (image : Image) → ToolFault → Type 0
LacksRoomBeside task None image fault = ⊥
LacksRoomBeside task (Some sizes) image fault = LacksRoom task sizes image fault

-- No file is at fault, but the image is too long for a memory.
abbrev pub ImageIsTooLong : CommandLine → ToolFault → Type 0
ImageIsTooLong asked fault =
    (sizes : Sizes) × (beside : Option Sizes) × (image : Image) × IsMachineOf asked.machine sizes × IsBesideOf asked.beside beside
    × IsImageOf asked.image image × (LacksRoom asked.task sizes image fault ⊎ LacksRoomBeside asked.task beside image fault)

-- ---- tasks

-- What holds of an output before and behind a task, and of its end; and of an input, too.
abbrev pub Written : Type 0 → Type 1
Written W = (output output' : W) → Result ℕ ToolFault → Type 0

abbrev pub Ending : Type 0 → Type 0 → Type 1
Ending R W = (input input' : R) → Written W

-- Of an output: what it may take, and how it may refuse a write or a flush.
module _ {W : Type 0} (took : W → List ℕ → W → Type 0) (refused unflushed : W → W → Type 0) where
  -- The end of a job that finds a text and a status, and then puts the text. `Finds` says what it may find; `Fails`, why it
  -- may find nothing, and then nothing is written. Memory may be missing for the text.
  abbrev pub Answers : (Finds : List ℕ → ℕ → Type 0) (Fails : ToolFault → Type 0) → Written W
  Answers Finds Fails output output' (Ok status) = (text : List ℕ) × Finds text status × IsPut took output text output'
  Answers Finds Fails output output' (Err fault) =
      ((output' ≡ output) × (Fails fault ⊎ (fault ≡ no_memory)))
      ⊎ ((text : List ℕ) × (status : ℕ) × Finds text status × IsCut took refused unflushed output text output' × (fault ≡ write_fault))

  -- A text alone is put.
  abbrev pub PutsText : List ℕ → Written W
  PutsText text output output' (Ok status) = IsPut took output text output' × (status ≡ 0)
  PutsText text output output' (Err fault) = IsCut took refused unflushed output text output' × (fault ≡ write_fault)

  -- A text is told, whether or not it is taken, and nothing is if there is none.
  abbrev pub TellsText : List ℕ → W → W → Type 0
  TellsText text errors errors' = ((text ≡ []) × (errors' ≡ errors)) ⊎ IsOffered took refused unflushed errors text errors'

  -- What was driven stands behind a flush, if it came to its end.
  abbrev pub Finishes : Result ℕ LogFault → Written W
  Finishes (Ok rounds) output output' result =
      (took output [] output' × (result ≡ Ok 0)) ⊎ (unflushed output output' × (result ≡ Err write_fault))
  Finishes (Err fault) output output' result = (output' ≡ output) × (result ≡ Err (of_log fault))

  -- What became of a history is put, once it is judged.
  abbrev pub PutsVerdict : (how : HistoryTask) (judged : Result HistoryEnd TraceFault) → Written W
  PutsVerdict how judged =
      Answers (λ text status. (end : HistoryEnd) × (judged ≡ Ok end) × (text ≡ line (history_in how.format how.law end))
      × (status ≡ history_status how.all_answered end))
      (λ fault. (f : TraceFault) × (judged ≡ Err f) × (fault ≡ of_trace f))

  -- The history of a file is judged, and if its law refuses it, a short one is put, which the law refuses for the same answer.
  abbrev pub ShrinksHistory : (how : HistoryTask) (image : List ℕ) → Written W
  ShrinksHistory how image =
      Answers (λ text status. (end : HistoryEnd) × IsShort (history_from how image) end text
      × (status ≡ history_status how.all_answered end)) HistoryFileFails

  -- Words that are no task: what they ask for is put, or they are refused, and then nothing is written.
  abbrev pub TellsWords : (said : Error) → Written W
  TellsWords said =
      Answers (λ text status. AsksForText said × (status ≡ 0)) (λ fault. IsRefused said × (fault ≡ Words said))

-- Of the errors, too: what they may take, and how they may refuse a write or a flush.
module _ {W E : Type 0} (took : W → List ℕ → W → Type 0) (refused unflushed : W → W → Type 0)
    (noted : E → List ℕ → E → Type 0) (unnoted unsettled : E → E → Type 0) where
  -- A figure of these marks is put, once it is told what it leaves out; or memory is missing, and nothing is written or told.
  abbrev pub PutsFigure : List Mark → (errors errors' : E) → Written W
  PutsFigure marks errors errors' output output' result =
      ((drawing : Drawing) × (drawing.marks.items ≡ marks) × TellsText noted unnoted unsettled (omissions_text marks) errors errors'
      × PutsText took refused unflushed (string_bytes drawing.text) output output' result)
      ⊎ ((result ≡ Err no_memory) × (output' ≡ output) × (errors' ≡ errors))

  -- The marks that a job finds are drawn; or it finds none, and nothing is written or told.
  abbrev pub DrawsMarks : (Finds : List Mark → Type 0) (Fails : ToolFault → Type 0) → (errors errors' : E) → Written W
  DrawsMarks Finds Fails errors errors' output output' result =
      ((marks : List Mark) × Finds marks × PutsFigure marks errors errors' output output' result)
      ⊎ ((fault : ToolFault) × (Fails fault ⊎ (fault ≡ no_memory)) × (result ≡ Err fault) × (output' ≡ output) × (errors' ≡ errors))

-- Of an input, too: what a read may give, and how one may fail.
module _ {R W : Type 0} (gave : R → List ℕ → R → Type 0) (failed : R → R → Type 0)
    (took : W → List ℕ → W → Type 0) (refused unflushed : W → W → Type 0) where
  -- A trace is served on a new machine.
  unfoldable pub Runs : (sizes : Sizes) (image : Image) → Ending R W
  Runs sizes image input input' output output' result =
      (served : Result Counts TraceFault) × (after : MachineState)
      × Ends gave failed took refused unflushed input input' output output' (machine_over image sizes) after served
      × (result ≡ told (λ counts. 0) of_trace served)

  -- A recorded run is judged, and the verdict put.
  unfoldable pub Checks : (format : VerdictFormat) (sizes : Sizes) (image : Image) → Ending R W
  Checks format sizes image input input' =
      Answers took refused unflushed
      (λ text status. (texts : List (List ℕ)) × (end : CheckEnd) × (last : Flat)
      × ReadWhole gave pair_fault MAX_PAIR input input' texts
      × IsJudgedFrom (flat_from image sizes.words) texts end last × (text ≡ line (check_in format end)) × (status ≡ verdict_status end))
      (λ fault. (f : TraceFault) × ReadFails gave failed pair_fault MAX_PAIR input input' f × (fault ≡ of_trace f))

  -- It is judged, and which of its loads weren't answered is told behind the verdict.
  unfoldable pub ChecksAnswered : (format : VerdictFormat) (sizes : Sizes) (image : Image) → Ending R W
  ChecksAnswered format sizes image input input' =
      Answers took refused unflushed
      (λ text status. (texts : List (List ℕ)) × (end : CheckEnd) × (last : Flat) × (tags : List ℕ)
      × ReadWhole gave pair_fault MAX_PAIR input input' texts
      × IsJudgedFrom (flat_from image sizes.words) texts end last
      × (tags ≡ tags_owed last) × (text ≡ line (answered_in format end tags)) × (status ≡ answered_status end tags))
      (λ fault. (f : TraceFault) × ReadFails gave failed pair_fault MAX_PAIR input input' f × (fault ≡ of_trace f))

  unfoldable pub checks_by : (all_answered : Bool) → (format : VerdictFormat) (sizes : Sizes) (image : Image) → Ending R W
  checks_by false = Checks
  checks_by true = ChecksAnswered

  -- A recorded run is explained, and the explanation put.
  unfoldable pub ExplainsRun : (format : VerdictFormat) (sizes : Sizes) (image : Image) → Ending R W
  ExplainsRun format sizes image input input' =
      Answers took refused unflushed
      (λ text status. (why : Explanation) × Explains gave failed (memory_from image sizes.words) input input' (Ok why)
      × (text ≡ line (explanation_in format why)) × (status ≡ explanation_status why))
      (λ fault. (f : TraceFault) × Explains gave failed (memory_from image sizes.words) input input' (Err f) × (fault ≡ of_trace f))

  -- A sheet is graded on a new machine.
  unfoldable pub Grades : (format : Format) (marking : Marking) (sizes : Sizes) (image : Image) → Ending R W
  Grades format marking sizes image input input' output output' result =
      (graded : Result Score TraceFault)
      × WritesSheet gave failed took refused unflushed (GradeOf format marking (machine_over image sizes))
      input input' output output' graded
      × (result ≡ told score_status of_trace graded)

  -- Or its open answers are filled.
  unfoldable pub Solves : (sizes : Sizes) (image : Image) → Ending R W
  Solves sizes image input input' output output' result =
      (solved : Result (Unit {0}) TraceFault)
      × WritesSheet gave failed took refused unflushed (SolutionOf (machine_over image sizes)) input input' output output' solved
      × (result ≡ told (λ done. 0) of_trace solved)

  abbrev pub works_on_sheet : (work : SheetWork) (format : Format) (sizes : Sizes) (image : Image) → Ending R W
  works_on_sheet (sheet.Grade marking) format = Grades format marking
  works_on_sheet sheet.Solve format = Solves

  -- What was handed in is graded by the questions of a sheet,
  unfoldable pub GradesBy : (format : Format) (questions : List Question) (sizes : Sizes) (image : Image) → Ending R W
  GradesBy format questions sizes image input input' output output' result =
      (graded : Result Score TraceFault)
      × WritesSheet gave failed took refused unflushed (GradeBy format questions (machine_over image sizes))
      input input' output output' graded
      × (result ≡ told score_status of_trace graded)

  -- which a file has, unless that can't be read.
  unfoldable pub GradesByFile : (format : Format) (sizes : Sizes) (image : Image) → Ending R W
  GradesByFile format sizes image input input' output output' result =
      ((questions : List Question) × IsSheet questions × GradesBy format questions sizes image input input' output output' result)
      ⊎ ((fault : ToolFault) × (result ≡ Err fault) × (input' ≡ input) × (output' ≡ output) × SheetFileFails fault)

  -- The requests of a trace are served on each of these machines, and a row is put for each.
  abbrev pub SweepsRegisters : (format : Format) (machines : List Sizes) → Ending R W
  SweepsRegisters format machines input input' =
      Answers took refused unflushed
      (λ text status. (texts : List (List ℕ)) × ReadWhole gave trace_fault MAX_LINE input input' texts
      × (text ≡ pumps_head format ++ flat_map (λ row. line (pumps_in format row)) (map (row_of (requests_of texts)) machines))
      × (status ≡ 0))
      (λ fault. (f : JobFault) × SweepFails gave failed machines input input' f × (fault ≡ Job f))

  -- They are driven in rounds on each machine, and a row is put for each.
  abbrev pub SweepsRounds : (timing : Timing) (format : Format) (machines : List Sizes) → Ending R W
  SweepsRounds timing format machines input input' =
      Answers took refused unflushed
      (λ text status. (texts : List (List ℕ)) × (rows : List RoundsRow) × ReadWhole gave trace_fault MAX_LINE input input' texts
      × AreCounted timing machines (requests_of texts) rows
      × (text ≡ rounds_head format ++ flat_map (λ row. line (rounds_in format row)) rows) × (status ≡ 0))
      (λ fault. (f : JobFault) × SweepFails gave failed machines input input' f × (fault ≡ Job f))

  -- They are driven with several latencies in turn, and each row stands behind its latency.
  abbrev pub SweepsLatencies : (timings : List Timing) (format : Format) (machines : List Sizes) → Ending R W
  SweepsLatencies timings format machines input input' =
      Answers took refused unflushed
      (λ text status. (texts : List (List ℕ)) × (rows : List LatencyRows) × ReadWhole gave trace_fault MAX_LINE input input' texts
      × AreSwept timings machines (requests_of texts) rows
      × (text ≡ latency_head format ++ flat_map (latency_lines format) (map swept_rows rows)) × (status ≡ 0))
      (λ fault. (f : JobFault) × SweepFails gave failed machines input input' f × (fault ≡ Job f))

  -- one latency alone isn't told with its row
  abbrev pub sweeps_lines : (timings : List Timing) (format : Format) (machines : List Sizes) → Ending R W
  sweeps_lines [] = SweepsRegisters
  sweeps_lines (timing ∷ []) = SweepsRounds timing
  sweeps_lines (timing ∷ next ∷ rest) = SweepsLatencies (timing ∷ next ∷ rest)

  -- The requests of a trace or of a log are driven in rounds through a new machine: a table of its counts is put,
  abbrev pub PutsCounts : (from : RequestText) (timing : Timing) (format : Format) (sizes : Sizes) (image : Image) → Ending R W
  PutsCounts from timing format sizes image input input' =
      Answers took refused unflushed
      (λ text status. (requests : List Event) × (groups : List AccessGroup) × (table : Table)
      × Asks gave from (room_of sizes) input input' requests groups
      × IsCounted timing (machine_over image sizes) requests table
      × (text ≡ table_head format ++ line (table_in format table)) × (status ≡ 0))
      (λ fault. (f : LogFault) × AsksNothing gave failed from (room_of sizes) input input' f × (fault ≡ of_log f))

  -- or all details are put, and of a log what became of its accesses.
  abbrev pub PutsDetails : (from : RequestText) (timing : Timing) (format : Format) (sizes : Sizes) (image : Image) → Ending R W
  PutsDetails from timing format sizes image input input' =
      Answers took refused unflushed
      (λ text status. (details : Details) × (accesses : Option AccessCounts)
      × CountsAll gave from (room_of sizes) timing (machine_over image sizes) input input' details accesses
      × (text ≡ line (details_in format details accesses)) × (status ≡ 0))
      (λ fault. (f : LogFault) × AsksNothing gave failed from (room_of sizes) input input' f × (fault ≡ of_log f))

  -- The requests of a log are written, whose lines say these accesses, for a memory of so many words.
  unfoldable pub WritesRequests : (access_of : List ℕ → Result (Option Access) LineFault) (words : ℕ) → Ending R W
  WritesRequests access_of words input input' output output' result =
      (written : Result (Unit {0}) LogFault)
      × logs.Ends gave failed took refused unflushed access_of (words / PAGE_WORDS) input input' output output' written
      × (result ≡ told (λ done. 0) of_log written)

  -- The walk of a new machine over the events of a trace is drawn, and the drawing put.
  unfoldable pub Draws : (form : Form) (sizes : Sizes) (image : Image) → Ending R W
  Draws form sizes image input input' =
      Answers took refused unflushed
      (λ text status. (drawing : String Global) × Shows gave failed form image (machine_over image sizes) input input' (Ok drawing)
      × (text ≡ string_bytes drawing) × (status ≡ 0))
      (λ fault. (f : ShowFault) × Shows gave failed form image (machine_over image sizes) input input' (Err f) × (fault ≡ of_show f))

  -- A history is judged,
  abbrev pub JudgesHistory : (how : HistoryTask) (image : List ℕ) → Ending R W
  JudgesHistory how image input input' output output' result =
      (judged : Result HistoryEnd TraceFault) × Judges gave failed (history_from how image) input input' judged
      × PutsVerdict took refused unflushed how judged output output' result

  -- or judged and written, with what its loads may have returned. That is flushed before anything else, whatever became of it.
  abbrev pub WritesHistory : (how : HistoryTask) (image : List ℕ) → Ending R W
  WritesHistory how image input input' output output' result =
      (judged : Result HistoryEnd TraceFault) × (last : W)
      × Writes gave failed took refused unflushed (history_from how image) input input' output last judged
      × ((unflushed last output' × (result ≡ Err write_fault))
      ⊎ ((flushed : W) × took last [] flushed × PutsVerdict took refused unflushed how judged flushed output' result))

  abbrev pub judges_or_writes : Bool → (how : HistoryTask) (image : List ℕ) → Ending R W
  judges_or_writes false = JudgesHistory
  judges_or_writes true = WritesHistory

  unfoldable pub FollowsHistory : (how : HistoryTask) (image : List ℕ) → Ending R W
  FollowsHistory how = judges_or_writes how.values how

  -- A file's history is read in place of the input, if it is to be made short.
  abbrev pub judges_or_shrinks : Option (Bor (List ℕ)) → (how : HistoryTask) (image : List ℕ) → Ending R W
  judges_or_shrinks None how image input input' output output' result = FollowsHistory how image input input' output output' result
  judges_or_shrinks (Some path) how image input input' output output' result =
      (input' ≡ input) × ShrinksHistory took refused unflushed how image output output' result

-- What holds of an output, of an input and of the errors, too.
abbrev pub Telling : Type 0 → Type 0 → Type 0 → Type 1
Telling R W E = (errors errors' : E) → Ending R W

-- Of the errors: what they may take, and how they may refuse a write or a flush.
module _ {R W E : Type 0} (gave : R → List ℕ → R → Type 0) (failed : R → R → Type 0)
    (took : W → List ℕ → W → Type 0) (refused unflushed : W → W → Type 0)
    (noted : E → List ℕ → E → Type 0) (unnoted unsettled : E → E → Type 0) where
  -- Nothing is told while a task is done.
  abbrev pub Silently : Ending R W → Telling R W E
  Silently ends errors errors' input input' output output' result =
      (errors' ≡ errors) × ends input input' output output' result

  -- The requests of a trace or of a log are driven in rounds through a new machine, and the run is written. Before that it
  -- is told of a run that is too long for a check.
  abbrev pub WritesRun : (from : RequestText) (timing : Timing) (sizes : Sizes) (image : Image) → Telling R W E
  WritesRun from timing sizes image errors errors' input input' output output' result =
      (driven : Result ℕ LogFault) × (last : W)
      × DrivesAll gave failed took refused noted unnoted unsettled from (room_of sizes) timing (machine_over image sizes)
      input input' output last errors errors' driven
      × Finishes took refused unflushed driven last output' result

  -- The counts of a run are drawn,
  abbrev pub DrawsCounts : (from : RequestText) (timing : Timing) (sizes : Sizes) (image : Image) → Telling R W E
  DrawsCounts from timing sizes image errors errors' input input' =
      DrawsMarks took refused unflushed noted unnoted unsettled
      (λ marks. (requests : List Event) × (groups : List AccessGroup) × (table : Table)
      × Asks gave from (room_of sizes) input input' requests groups
      × IsCounted timing (machine_over image sizes) requests table × (marks ≡ loss_marks sizes timing table))
      (λ fault. (f : LogFault) × AsksNothing gave failed from (room_of sizes) input input' f × (fault ≡ of_log f)) errors errors'

  -- or put.
  abbrev pub counts_by : (form : CountForm) (all : Bool) (from : RequestText) (timing : Timing) (sizes : Sizes) (image : Image)
      → Telling R W E
  counts_by (Lines format) false from timing sizes image =
      Silently (PutsCounts gave failed took refused unflushed from timing format sizes image)
  counts_by (Lines format) true from timing sizes image =
      Silently (PutsDetails gave failed took refused unflushed from timing format sizes image)
  counts_by (Figure scale) all from timing sizes image = DrawsCounts from timing sizes image

  -- The first requests are followed, and drawn by rounds.
  abbrev pub DrawsTimeline : (from : RequestText) (timing : Timing) (sizes : Sizes) (beside : Option Sizes) (image : Image) → Telling R W E
  DrawsTimeline from timing sizes beside image errors errors' input input' =
      DrawsMarks took refused unflushed noted unnoted unsettled
      (λ marks. (run : FollowedRun)
      × FollowsAll gave from (room_of sizes) timing (machine_over image sizes) beside image input input' run
      × (marks ≡ followed_marks sizes beside timing run))
      (λ fault. (f : LogFault) × AsksNothing gave failed from (room_of sizes) input input' f × (fault ≡ of_log f)) errors errors'

  -- The events of a trace or of a recorded run are made, and its requests drawn by events.
  abbrev pub DrawsEvents : (sizes : Sizes) (image : Image) → Telling R W E
  DrawsEvents sizes image errors errors' input input' =
      DrawsMarks took refused unflushed noted unnoted unsettled
      (λ marks. (run : WalkedRun) × WalksAll gave failed (machine_over image sizes) input input' (Ok run)
      × (marks ≡ walked_marks sizes run))
      (λ fault. (f : ShowFault) × WalksAll gave failed (machine_over image sizes) input input' (Err f) × (fault ≡ of_show f)) errors errors'

  -- The rounds of a sweep are drawn, a line for each latency.
  abbrev pub DrawsSweep : (timings : List Timing) (scale : Scale) (sizes : Sizes) (machines : List Sizes) → Telling R W E
  DrawsSweep timings scale sizes machines errors errors' input input' =
      DrawsMarks took refused unflushed noted unnoted unsettled
      (λ marks. (texts : List (List ℕ)) × (rows : List LatencyRows) × ReadWhole gave trace_fault MAX_LINE input input' texts
      × AreSwept timings machines (requests_of texts) rows × (marks ≡ sweep_marks sizes scale timings (map swept_rows rows)))
      (λ fault. (f : JobFault) × SweepFails gave failed machines input input' f × (fault ≡ Job f)) errors errors'

  -- A machine of these numbers is swept with each number of registers.
  unfoldable pub Sweeps : (timings : List Timing) (form : CountForm) (sizes : Sizes) (registers : List ℕ) → Telling R W E
  Sweeps timings (Lines format) sizes registers =
      Silently (sweeps_lines gave failed took refused unflushed timings format (swept sizes registers))
  Sweeps timings (Figure scale) sizes registers = DrawsSweep timings scale sizes (swept sizes registers)

  -- The run is written, or what it counts is put.
  unfoldable pub Drives : (from : RequestText) (timing : Timing) (summary all : Bool) (form : CountForm) (sizes : Sizes)
      (image : Image) → Telling R W E
  Drives from timing false all form sizes image = WritesRun from timing sizes image
  Drives from timing true all form sizes image =
      counts_by form all from timing sizes image

  -- ---- the whole program

  -- What becomes of each task.
  unfoldable pub IsDone : Task → (shrink : Option (Bor (List ℕ))) → (sizes : Sizes) (beside : Option Sizes) (image : Image) → Telling R W E
  IsDone task.Run shrink sizes beside image = Silently (Runs gave failed took refused unflushed sizes image)
  IsDone (task.Check all_answered format) shrink sizes beside image =
      Silently (checks_by gave failed took refused unflushed all_answered format sizes image)
  IsDone (task.Sweep timings registers form) shrink sizes beside image =
      Sweeps (timings_in timings) form sizes (registers_in registers)
  IsDone (task.Explain format) shrink sizes beside image = Silently (ExplainsRun gave failed took refused unflushed format sizes image)
  IsDone (task.Grade format work) shrink sizes beside image =
      Silently (works_on_sheet gave failed took refused unflushed work format sizes image)
  IsDone (task.Drive from timing summary all form) shrink sizes beside image = Drives from timing summary all form sizes image
  IsDone (task.Timeline from timing) shrink sizes beside image = DrawsTimeline from timing sizes beside image
  IsDone (task.Requests log words) shrink sizes beside image =
      Silently (WritesRequests gave failed took refused unflushed (access_in log) words)
  IsDone (task.Show form) shrink sizes beside image = Silently (Draws gave failed took refused unflushed form sizes image)
  IsDone task.Events shrink sizes beside image = DrawsEvents sizes image
  IsDone (task.History how) shrink sizes beside image =
      Silently (judges_or_shrinks gave failed took refused unflushed shrink how (bytes_of image))

  -- The same with a sheet's file, by which what was handed in is graded.
  abbrev pub IsDoneBy : (sheet shrink : Option (Bor (List ℕ))) → Task → (sizes : Sizes) (beside : Option Sizes) (image : Image)
      → Telling R W E
  IsDoneBy None shrink task sizes beside image = IsDone task shrink sizes beside image
  IsDoneBy (Some path) shrink task sizes beside image =
      Silently (GradesByFile gave failed took refused unflushed (grade_format task) sizes image)

  -- The files that are named are read, and the task is done with what they say. Or one can't be read, or the image is too
  -- long, and nothing is done.
  unfoldable pub Performs : CommandLine → Telling R W E
  Performs asked errors errors' input input' output output' result =
      ((sizes : Sizes) × (beside : Option Sizes) × (image : Image) × IsMachineOf asked.machine sizes × IsBesideOf asked.beside beside
      × IsImageOf asked.image image × HasRoom asked.task sizes image × HasRoomBeside asked.task beside image
      × IsDoneBy asked.sheet asked.shrink asked.task sizes beside image errors errors' input input' output output' result)
      ⊎ ((fault : ToolFault) × (result ≡ Err fault) × (input' ≡ input) × (output' ≡ output) × (errors' ≡ errors)
      × (MachineFails asked.machine fault ⊎ (BesideFails asked.beside fault ⊎ (ImageFails asked.image fault ⊎ ImageIsTooLong asked fault))))

  -- The words are understood as a task that there may be, which is performed, or they ask for none, and nothing is read.
  unfoldable pub Works : Telling R W E
  Works errors errors' input input' output output' result =
      ((asked : CommandLine) × IsInRange asked.task × IsAllowed asked.task × MayBegin asked.task asked.image
      × Performs asked errors errors' input input' output output' result)
      ⊎ ((said : Error) × (input' ≡ input) × (errors' ≡ errors) × TellsWords took refused unflushed said output output' result)
