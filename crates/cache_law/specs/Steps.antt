-- What each event makes of the cache unit.
use Rattle.std.specs.Prelude.{ℕ, ◌/◌, ◌%◌, ◌<◌, Bool, IsTrue, if◌then◌else◌, nat_lt, List, [], ◌∷◌, ◌++◌, map, length, Option, Some, None}
use Rattle.std.specs.Prelude.{slice_get, slice_set}
use Rattle.std.specs.List.{remove}
use Rattle.flat_model.specs.declared.Word.{Word}
use Rattle.flat_model.specs.declared.Lanes.{Lanes}
use Rattle.flat_model.specs.declared.Cause.{Cause}
use Rattle.flat_model.specs.declared.Cause.TheVariants.{BankFull}
use Rattle.flat_model.specs.declared.Answer.{Answer}
use Rattle.flat_model.specs.declared.Answer.TheVariants.{Accepted, Moved, Value, Nothing, Refused}
use Rattle.flat_model.specs.Words.{zero_word, merged}
use Rattle.memory_banks.specs.declared.Command.{Command}
use Rattle.memory_banks.specs.declared.Command.TheVariants.{Write}
use Rattle.cache_law.specs.declared.Request.{Request}
use Rattle.cache_law.specs.declared.Request.TheVariants.{Load, Store, Prefetch}
use Rattle.cache_law.specs.declared.Reply.{Reply}
use Rattle.input_stack.specs.declared.Entry.{Entry}
use Rattle.write_queue.specs.declared.Queued.{Queued}
use Rattle.miss_registers.specs.declared.Owed.{Owed}
use Rattle.cache_law.specs.declared.Sizes.{Sizes}
use Rattle.cache_directory.specs.Frames as dir
use Rattle.miss_registers.specs.Registers.{marked, finished, finished_fields, is_done}
use Rattle.miss_registers.specs.Registers as regs
use Rattle.cache_law.specs.State.{Register, Cache, frame_of, is_present, register_at, field_at, is_live, live_for, free_slot}
use Rattle.cache_law.specs.State.{cell_of, block_of, first_of, place_in, order_of}
use Rattle.cache_law.specs.Begun.{begun_frame, begun_register}
use Rattle.cache_law.specs.Reads.{block_reads}
use Rattle.cache_law.specs.Causes.{choose, dirty_words, Found, Here, Coming, found, load_cause, store_cause, prefetch_cause}
use Rattle.cache_law.specs.Causes.{evict_cause, arrive_cause}

-- an answer, the unit after it, and the commands sent, each with its bank
pub record Stepped : Type 0 where
  pub answer : Answer
  pub cache : Cache
  pub sent : List (ℕ × Command)

-- the step, unless there is a cause: a refusal leaves everything unchanged
abbrev pub unless : Option Cause → Cache → Stepped → Stepped
unless (Some cause) c step = record { answer = Refused cause; cache = c; sent = [] }
unless None c step = step

abbrev pub moved : Cache → Stepped
moved c = record { answer = Moved; cache = c; sent = [] }

-- ---- a frame is given up

-- the registers once this one is obsolete
abbrev pub obsoleted : List Register → Option ℕ → List Register
obsoleted rs None = rs
obsoleted rs (Some slot) = slice_set rs slot (regs.made_obsolete (regs.register_at rs slot))

-- the frame's dirty words are queued, and it holds nothing
unfoldable pub released : Sizes → Cache → ℕ → Cache
released z c f =
    record c {
      directory = dir.released z.ways c.directory f;
      queue = c.queue ++ dirty_words z c (Some f);
    }

unfoldable pub evicted : Sizes → Cache → ℕ → ℕ → Cache
evicted z c block f = record (released z c f) { registers = obsoleted c.registers (live_for c block) }

-- ---- a miss

-- a frame that holds a block gives it up
abbrev pub given_up : ℕ → dir.Frames → ℕ → dir.Frames
given_up ways d f = if dir.is_held d f then dir.released ways d f else d

-- a block stands in its frame, which goes last in the order of its set; it begins with the newest bytes of its words that are queued
abbrev pub frames_with : ℕ → ℕ → dir.Frames → List Queued → ℕ → ℕ → dir.Frames
frames_with ways words d queue f block =
    record {
      frames = slice_set d.frames f (begun_frame words queue block);
      orders = slice_set d.orders (f / ways) (order_of d (f / ways) ++ f ∷ []);
    }

-- and so does its register
unfoldable pub installed : Sizes → Cache → ℕ → ℕ → ℕ → Cache
installed z c block f slot =
    record c {
      directory = frames_with z.ways z.block_words c.directory c.queue f block;
      registers = slice_set c.registers slot (begun_register z.block_words c.queue block f);
    }

abbrev pub missed : Sizes → Cache → ℕ → Option ℕ → Option ℕ → Cache
missed z c block (Some f) (Some slot) = installed z (released z c f) block f slot
missed z c block f slot = c

abbrev pub reads : Sizes → ℕ → Option ℕ → List (ℕ × Command)
reads z block None = []
reads z block (Some slot) = block_reads slot (first_of z block) z.block_words z.banks z.block_words

-- the unit once the block is present, and the reads that this takes
unfoldable pub fetched : Sizes → Cache → ℕ → Cache
fetched z c block = if is_present c block then c else missed z c block (choose z c block) (free_slot c)

unfoldable pub fetches : Sizes → Cache → ℕ → List (ℕ × Command)
fetches z c block = if is_present c block then [] else reads z block (free_slot c)

-- ---- requests, once the block is present

abbrev pub replied : Cache → ℕ → Word → Cache
replied c tag w = record c { ready = c.ready ++ record { tag = tag; word = w } ∷ [] }

abbrev pub awaited : Cache → ℕ → ℕ → ℕ → Word → Cache
awaited c slot i tag buffer =
    let code = (field_at c slot i).code in
    let load : Owed = record { tag = tag; lanes = code; held = merged zero_word buffer code } in
    record c { registers = slice_set c.registers slot (regs.awaited (register_at c slot) i load) }

abbrev pub loaded : Cache → ℕ → ℕ → Word → Found → Cache
loaded c tag i buffer (Here w) = replied c tag w
loaded c tag i buffer (Coming slot) = awaited c slot i tag buffer

-- the bytes go into the frame that holds the block
abbrev pub written_for : dir.Frames → Option ℕ → ℕ → Word → Lanes → dir.Frames
written_for d None i word lanes = d
written_for d (Some f) i word lanes = dir.with_frame d f (dir.written (dir.frame_at d.frames f) i word lanes)

-- and the lanes into the code of a word that is still missing
abbrev pub noted_for : List Register → Option ℕ → ℕ → Lanes → List Register
noted_for rs None i lanes = rs
noted_for rs (Some slot) i lanes =
    if (regs.field_at rs slot i).processed then rs else slice_set rs slot (regs.noted (regs.register_at rs slot) i lanes)

abbrev pub written : Cache → ℕ → ℕ → Word → Lanes → Cache
written c block i word lanes =
    record c {
      directory = written_for c.directory (frame_of c block) i word lanes;
      registers = noted_for c.registers (live_for c block) i lanes;
    }

unfoldable pub load_step : Sizes → (ℕ → ℕ) → Cache → ℕ → ℕ → Stepped
load_step z room c tag at =
    let block = block_of z at in
    let i = place_in z at in
    let d = fetched z c block in
    unless (load_cause z room c tag at) c (record {
      answer = Accepted;
      cache = loaded d tag i (cell_of d block i).word (found d block i);
      sent = fetches z c block;
    })

unfoldable pub store_step : Sizes → (ℕ → ℕ) → Cache → ℕ → Word → Lanes → Stepped
store_step z room c at word lanes =
    let block = block_of z at in
    unless (store_cause z room c at lanes) c (record {
      answer = Accepted;
      cache = written (fetched z c block) block (place_in z at) word lanes;
      sent = fetches z c block;
    })

unfoldable pub prefetch_step : Sizes → (ℕ → ℕ) → Cache → ℕ → Stepped
prefetch_step z room c at =
    unless (prefetch_cause z room c at) c (record {
      answer = Accepted;
      cache = fetched z c (block_of z at);
      sent = fetches z c (block_of z at);
    })

-- what the processor asks
abbrev pub request_step : Sizes → (ℕ → ℕ) → Cache → Request → Stepped
request_step z room c (Load tag at) = load_step z room c tag at
request_step z room c (Store at word lanes) = store_step z room c at word lanes
request_step z room c (Prefetch at) = prefetch_step z room c at

-- ---- the other events

abbrev pub evicted_from : Sizes → Cache → ℕ → Option ℕ → Cache
evicted_from z c block None = c
evicted_from z c block (Some f) = evicted z c block f

unfoldable pub evict_step : Sizes → Cache → ℕ → Stepped
evict_step z c block =
    unless (evict_cause z c block) c (record { answer = Accepted; cache = evicted_from z c block (frame_of c block); sent = [] })

abbrev pub drain_first : Sizes → (ℕ → ℕ) → Cache → List Queued → Stepped
drain_first z room c [] = record { answer = Nothing; cache = c; sent = [] }
drain_first z room c (q ∷ rest) =
    if nat_lt 0 (room (q.at % z.banks))
    then record {
      answer = Moved;
      cache = record c { queue = rest };
      sent = (q.at % z.banks, Write (q.at / z.banks) q.word q.lanes) ∷ [];
    }
    else record { answer = Refused BankFull; cache = c; sent = [] }

unfoldable pub drain_step : Sizes → (ℕ → ℕ) → Cache → Stepped
drain_step z room c = drain_first z room c c.queue

unfoldable pub arrived : Cache → ℕ → ℕ → Word → Cache
arrived c slot i word =
    record c {
      stack = c.stack ++ record { slot = slot; i = i; word = word } ∷ [];
      registers = slice_set c.registers slot (marked (register_at c slot) i);
    }

unfoldable pub arrive_step : Sizes → Cache → ℕ → ℕ → Word → Stepped
arrive_step z c slot i word = unless (arrive_cause z c slot i) c (moved (arrived c slot i word))

-- the frame that a register's words go into: that of a live one's block
abbrev pub frame_for : Cache → Register → Option ℕ
frame_for c r = if is_live r then frame_of c r.block else None

-- a frame is no longer pending where its last word came
abbrev pub settled_if : Bool → dir.Frames → ℕ → dir.Frames
settled_if last d f = if last then dir.with_frame d f (dir.settled (dir.frame_at d.frames f)) else d

-- a word goes into its frame, where there is one; the bytes outside the code come from memory
unfoldable pub filled_live : dir.Frames → Option ℕ → ℕ → Word → Lanes → Bool → dir.Frames
filled_live d None i word keep last = d
filled_live d (Some f) i word keep last = settled_if last (dir.with_frame d f (dir.filled (dir.frame_at d.frames f) i word keep)) f

-- that frame is there, and has the word
abbrev pub CanFill : dir.Frames → Option ℕ → ℕ → Type 0
CanFill d None i = Unit {0}
CanFill d (Some f) i = IsTrue (dir.is_held d f) × (i < length (dir.frame_at d.frames f).cells)

abbrev pub answered : Word → List Owed → List Reply
answered word waiting = map (λ w. record { tag = w.tag; word = merged word w.held w.lanes }) waiting

unfoldable pub processed : Cache → ℕ → Entry → Cache
processed c place e =
    let r = register_at c e.slot in
    let field = field_at c e.slot e.i in
    record c {
      directory = filled_live c.directory (frame_for c r) e.i e.word field.code (is_done (finished_fields r e.i));
      stack = remove c.stack place;
      ready = c.ready ++ answered e.word field.waiting;
      registers = slice_set c.registers e.slot (finished r e.i);
    }

abbrev pub process_entry : Cache → ℕ → Option Entry → Stepped
process_entry c place None = record { answer = Nothing; cache = c; sent = [] }
process_entry c place (Some e) = moved (processed c place e)

unfoldable pub process_step : Cache → ℕ → Stepped
process_step c place = process_entry c place (slice_get c.stack place)

abbrev pub take_reply : Cache → ℕ → Option Reply → Stepped
take_reply c place None = record { answer = Nothing; cache = c; sent = [] }
take_reply c place (Some r) =
    record { answer = Value r.tag r.word; cache = record c { ready = remove c.ready place }; sent = [] }

unfoldable pub take_step : Cache → ℕ → Stepped
take_step c place = take_reply c place (slice_get c.ready place)
