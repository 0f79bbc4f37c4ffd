use Rattle.std.proofs.Common.{refl, sym, ◌∙◌}
use Rattle.cache_unit.proofs.Calls.{steps, refuses}
use Rattle.cache_law.proofs.Requesting.{prefetch_by}
use Rattle.cache_unit.proofs.unit.ShapedUnit.prefetch.Goals as goal

pub returns-then-is_outside : goal.returns-then-is_outside
returns-then-is_outside g c =
    let u = c.args.self.now in
    refuses _ _ _ u _ c.is_outside.ensures.sound _ (g.met.L.Lines.same_self _) _ (prefetch_by u.sizes (g.L.Lines.room_of _) u.cache _ _ _
    (sym c.is_outside.ensures.outside ∙ c.if-is_outside.true) refl) _ _ refl refl

pub returns-in-Err : goal.returns-in-Err
returns-in-Err g c =
    let u = c.args.self.now in
    refuses _ _ _ u _ c.is_outside.ensures.sound _ (g.met.L.Lines.same_self _) _ (prefetch_by u.sizes (g.L.Lines.room_of _) u.cache _ _ _
    (sym c.is_outside.ensures.outside ∙ c.if-is_outside.false) (rw c.block_of-block.ensures.value at c.in-Err.ensures.cause)) _ _
    c.in-Err.ensures.unit_kept c.in-Err.ensures.lines_kept

pub returns-in-Ok : goal.returns-in-Ok
returns-in-Ok g c =
    let u = c.args.self.now in
    steps _ _ _ u _ c.is_outside.ensures.sound _ _ (prefetch_by u.sizes (g.L.Lines.room_of _) u.cache _ _ _ (sym
    c.is_outside.ensures.outside ∙ c.if-is_outside.false) (rw c.block_of-block.ensures.value at c.in-Ok.ensures.no_cause)) _ _ (rw
    c.block_of-block.ensures.value at c.in-Ok.ensures.unit) (rw c.block_of-block.ensures.value at c.in-Ok.ensures.lines)
