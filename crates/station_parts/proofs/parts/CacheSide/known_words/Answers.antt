use Rattle.std.proofs.Common.{length, sym, ap, ◌∙◌}
use Rattle.std.proofs.Math.Logic.{∥∥₁_map}
use Rattle.station_journal.proofs.Bringing.{none_popped}
use Rattle.station_parts.proofs.SideMakes.{popped_none, words_looked}
use Rattle.station_parts.proofs.parts.CacheSide.known_words.Goals as goal

pub invariant_of-self-clause-tells : goal.invariant_of-self-clause-tells
invariant_of-self-clause-tells c =
    ∥∥₁_map c.args.self.now.tells (none_popped _ _ _ _ _ _ (popped_none _ _ _ c.count_at.ensures.looks))

pub invariant_of-self-clause-counted : goal.invariant_of-self-clause-counted
invariant_of-self-clause-counted c sound b =
    c.args.self.now.counted sound b ∙ ap length (sym (popped_none _ _ _ c.count_at.ensures.looks b))

pub returns-clause-looks : goal.returns-clause-looks
returns-clause-looks c = words_looked c.args.self.now _ _ c.count_at.ensures.looks
