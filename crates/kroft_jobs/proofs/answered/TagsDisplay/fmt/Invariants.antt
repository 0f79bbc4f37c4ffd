use Rattle.std.proofs.Common.{take}
use Rattle.std.specs.Fmt.{HasWritten, IsPlainFormatter}
use Rattle.kroft_jobs.specs.Answering.{tags_text}
use Rattle.kroft_jobs.proofs.answered.TagsDisplay.fmt.Given as goal

abbrev pub invariant-loop-tag : goal.invariant-loop-tag
invariant-loop-tag g l =
    IsPlainFormatter l.initial.f → HasWritten g.W.Write.write_str_gives l.initial.f (tags_text (take l.tag-index l.self.0.now)) l.f
