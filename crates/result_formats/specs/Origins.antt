-- Where the bytes of a wrong word come from.
use Rattle.std.specs.Prelude.{ℕ, ◌==◌, if◌then◌else◌, Option, Some, None}
use Rattle.run_reasons.specs.declared.pasts.Overwritten.{Overwritten}
use Rattle.run_reasons.specs.declared.reason.WrongWord.{WrongWord}
use Rattle.result_formats.specs.declared.origins.ByteOrigins.{ByteOrigins}
use Rattle.result_formats.specs.declared.origins.BytePlace.{BytePlace}
use Rattle.result_formats.specs.declared.origins.BytePlace.TheVariants.{First, Second, Third, Fourth}

-- nothing is told of a byte that is right
abbrev pub no_origins : ByteOrigins
no_origins = record { owed_from = None; got_from = None; put_by = None; overwritten_by = None }

-- The line that stored the byte that is owed, and of a byte that an older store had put there which lines those were;
abbrev pub stale_origins : ℕ → Option Overwritten → ByteOrigins
stale_origins store None = record { owed_from = Some store; got_from = None; put_by = None; overwritten_by = None }
stale_origins store (Some o) =
    record { owed_from = Some store; got_from = None; put_by = Some o.put; overwritten_by = Some o.by }

-- of one that was stored after the load, in which line.
abbrev pub wrong_origins : ℕ → ℕ → Option Overwritten → ByteOrigins
wrong_origins store later past =
    if later == 0 then stale_origins store past
    else record { owed_from = Some store; got_from = Some later; put_by = None; overwritten_by = None }

-- the same of a byte that is owed and one that came, if they differ
unfoldable pub origins_of : (owed store got later : ℕ) → Option Overwritten → ByteOrigins
origins_of owed store got later past = if owed == got then no_origins else wrong_origins store later past

abbrev pub origins_at : BytePlace → WrongWord → ByteOrigins
origins_at First w = origins_of w.load.word.b0 w.load.stores.b0 w.got.b0 w.later.b0 w.past.b0
origins_at Second w = origins_of w.load.word.b1 w.load.stores.b1 w.got.b1 w.later.b1 w.past.b1
origins_at Third w = origins_of w.load.word.b2 w.load.stores.b2 w.got.b2 w.later.b2 w.past.b2
origins_at Fourth w = origins_of w.load.word.b3 w.load.stores.b3 w.got.b3 w.later.b3 w.past.b3

-- the origins of a byte, where a word is wrong
unfoldable pub origins_in : BytePlace → Option WrongWord → ByteOrigins
origins_in place None = no_origins
origins_in place (Some wrong) = origins_at place wrong
