use Rattle.std.proofs.Common.{ap, ◌∙◌}
use Rattle.cache_directory.specs.Frames as dir
use Rattle.cache_law.proofs.Keeps.{held-filled}
use Rattle.cache_unit.proofs.unit.fill_live.Goals as goal

pub settle_frame-requires : goal.settle_frame-requires
settle_frame-requires c =
    ap (λ d. dir.is_held d c.in-Some.frame) c.fill.ensures.filled ∙ (held-filled c.args.directory.now c.in-Some.frame _ _ _ (rw
    c.in-Some.is at c.requires.there).0)

pub returns-then-last-clause-whole : goal.returns-then-last-clause-whole
returns-then-last-clause-whole c ways words h = c.settle_frame.ensures.whole ways words (c.fill.ensures.whole ways words h)
