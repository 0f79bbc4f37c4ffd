-- The texts of a judge's answers.
use Rattle.std.specs.Prelude.{ℕ, ◌==◌, Bool, false, ◌&&◌, if◌then◌else◌, List, [], ◌∷◌, ◌++◌, Option, Some, None, codes, decimal, nat_lt}
use Rattle.std.specs.List.{filter, flat_map, range_with_len}
use Rattle.std.specs.Fmt.{digits}
use Rattle.history_sessions.specs.Words.{ByteSet, has}
use Rattle.flat_model.specs.Texts.{byte_text}
use Rattle.history_sessions.specs.declared.judge.LawName.{LawName}
use Rattle.history_sessions.specs.History.{law_text}
use Rattle.history_text.specs.declared.answers.OperationKind.{OperationKind}
use Rattle.history_text.specs.declared.answers.OperationKind.TheVariants.{Load, Store}
use Rattle.history_text.specs.declared.answers.ByteSource.{ByteSource}
use Rattle.history_text.specs.declared.answers.ByteSource.TheVariants as source
use Rattle.history_text.specs.declared.answers.AllowedByte.{AllowedByte}
use Rattle.history_text.specs.declared.answers.OverwrittenByte.{OverwrittenByte}
use Rattle.history_text.specs.declared.answers.RefusalCause.{RefusalCause}
use Rattle.history_text.specs.declared.answers.RefusalCause.TheVariants.{OutOfRange, NoByteEnabled, NumberInUse, NotOpen, WrongLength}
use Rattle.history_text.specs.declared.answers.RefusalCause.TheVariants.{WrongByte, NoMoment}
use Rattle.history_text.specs.declared.answers.Refusal.{Refusal}
use Rattle.history_text.specs.declared.answers.HistoryEnd.{HistoryEnd}
use Rattle.history_text.specs.declared.answers.HistoryEnd.TheVariants.{OfLaw, Refused, Undecided}
use Rattle.history_text.specs.declared.answers.HistoryVerdict.{HistoryVerdict}

-- ---- sets of bytes

-- the bytes of a set, in their order
unfoldable pub bytes_in_set : ByteSet → List ℕ
bytes_in_set set = filter (has set) (range_with_len 0 256)

-- bytes in two digits each, with this between them
abbrev pub joined_bytes : List ℕ → List ℕ → List ℕ
joined_bytes between [] = []
joined_bytes between (b ∷ bs) = byte_text b ++ flat_map (λ c. between ++ byte_text c) bs

-- ---- answers

abbrev pub kind_text : OperationKind → List ℕ
kind_text Load = codes "load"
kind_text Store = codes "store"

abbrev pub address_text : ℕ → List ℕ
address_text a = codes "0x" ++ digits 16 false a

-- where a byte comes from that a load may return
abbrev pub source_text : ByteSource → List ℕ
source_text source.Initial = codes " (memory at first)"
source_text (source.Store number line) = codes " (store " ++ (decimal number ++ (codes ", line " ++ (decimal line ++ codes ")")))
source_text source.Unknown = []

abbrev pub allowed_text : AllowedByte → List ℕ
allowed_text a = byte_text a.byte ++ source_text a.source

-- such bytes, of which one is meant
abbrev pub alternatives_text : List AllowedByte → List ℕ
alternatives_text [] = []
alternatives_text (a ∷ more) = allowed_text a ++ flat_map (λ b. codes " or " ++ allowed_text b) more

-- who overwrote the byte that came, if it stood there before
abbrev pub overwritten_text : Option OverwrittenByte → List ℕ
overwritten_text None = []
overwritten_text (Some o) = codes "; " ++ (byte_text o.byte ++ (codes " was overwritten by store " ++ decimal o.number))

-- the same with its address
abbrev pub overwritten_there_text : Option OverwrittenByte → List ℕ
overwritten_there_text None = []
overwritten_there_text (Some o) =
    codes "; " ++ (byte_text o.byte
    ++ (codes " at "
    ++ (address_text o.address ++ (codes " was overwritten by store " ++ decimal o.number))))

-- why an operation is none of the law
abbrev pub cause_text : RefusalCause → List ℕ
cause_text (OutOfRange address n) = codes "has "
    ++ (decimal n ++ (codes " bytes at " ++ (address_text address ++ codes ": it must have 1 to 64, all below 2^64")))
cause_text NoByteEnabled = codes "has no byte enabled"
cause_text NumberInUse = codes "is open already"
cause_text NotOpen = codes "isn't open"
cause_text (WrongLength requested returned) = codes "returned "
    ++ (decimal returned ++ (codes " bytes, of " ++ (decimal requested ++ codes " requested")))
cause_text (WrongByte address returned allowed sources overwritten) =
    codes "returned " ++ (byte_text returned ++ (codes " at " ++ (address_text address ++ (codes ", which may be "
    ++ (alternatives_text sources.items ++ overwritten_text overwritten)))))
cause_text (NoMoment address overwritten) =
    codes "returned what stood at no moment in the unit with " ++ (address_text address ++ overwritten_there_text overwritten)

abbrev pub refusal_text : Refusal → List ℕ
refusal_text r = codes "line "
    ++ (decimal r.line ++ (codes ": " ++ (kind_text r.kind ++ (codes " " ++ (decimal r.number ++ (codes " " ++ cause_text r.cause))))))

-- how many operations are open, if some are
abbrev pub open_text : ℕ → List ℕ
open_text count = if count == 0 then [] else codes ", " ++ (decimal count ++ codes " operations open")

abbrev pub end_text : LawName → HistoryEnd → List ℕ
end_text law (OfLaw events open_count) = codes "history of "
    ++ (decimal events ++ (codes " events is " ++ (law_text law ++ open_text open_count)))
end_text law (Refused refusal) = refusal_text refusal
end_text law (Undecided line address) =
    codes "line "
    ++ (decimal line
    ++ (codes
    ": undecided: there are too many orders in which the open operations may have taken effect in the unit with "
    ++ address_text address))

abbrev pub verdict_text : HistoryVerdict → List ℕ
verdict_text v = end_text v.law v.end.now

-- ---- statuses

-- the status with which a program ends that tells it: 0 for a history of the law, 1 if it is none, or if all operations must
-- be answered and some are open, 6 if it isn't known
abbrev pub verdict_status : Bool → HistoryEnd → ℕ
verdict_status all_answered (OfLaw events open_count) = if all_answered && nat_lt 0 open_count then 1 else 0
verdict_status all_answered (Refused refusal) = 1
verdict_status all_answered (Undecided line address) = 6
