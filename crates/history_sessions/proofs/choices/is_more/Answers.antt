use Rattle.std.proofs.Common.{sym, ap, ◌∙◌}
use Rattle.memory_histories.specs.declared.sets.ByteSet.{ByteSet}
use Rattle.memory_histories.specs.Sets.{with_byte}
use Rattle.history_sessions.proofs.Alone.{alone_by_words}
use Rattle.history_sessions.proofs.choices.is_more.Goals as goal

pub returns-then-eq : goal.returns-then-eq
returns-then-eq c =
    sym (alone_by_words c.args.set c.with.result c.args.byte
    (c.with.ensures ∙ ap (λ (s : ByteSet). with_byte s c.args.byte) c.none.ensures) (sym c.if-eq.true ∙ c.eq.ensures))
