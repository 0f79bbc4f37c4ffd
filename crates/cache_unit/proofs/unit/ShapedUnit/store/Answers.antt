use Rattle.std.proofs.Common.{◌≡◌, refl, sym, ◌∙◌, subst, ap, not}
use Rattle.memory_banks.specs.Banks.{HasSent}
use Rattle.cache_law.specs.State.{block_of, place_in}
use Rattle.cache_law.specs.Steps.{fetches, written}
use Rattle.cache_unit.proofs.Calls.{steps, refuses}
use Rattle.cache_law.proofs.Requesting.{store_by}
use Rattle.cache_unit.proofs.unit.ShapedUnit.store.Goals as goal

pub returns-then-is_outside : goal.returns-then-is_outside
returns-then-is_outside g c =
    let u = c.args.self.now in
    refuses _ _ _ u _ c.is_outside.ensures.sound _ (g.met.L.Lines.same_self _) _ (store_by u.sizes (g.L.Lines.room_of _) u.cache _ _ _ _ _
    _ (sym c.is_outside.ensures.outside ∙ c.if-is_outside.true) refl refl) _ _ refl refl

pub returns-then-not-has_any : goal.returns-then-not-has_any
returns-then-not-has_any g c =
    let u = c.args.self.now in
    refuses _ _ _ u _ c.is_outside.ensures.sound _ (g.met.L.Lines.same_self _) _ (store_by u.sizes (g.L.Lines.room_of _) u.cache _ _ _ _ _
    _ (sym c.is_outside.ensures.outside ∙ c.if-is_outside.false) (ap not (sym c.has_any.ensures ∙ c.if-not-has_any.true)) refl) _ _
    refl refl

pub returns-in-Err : goal.returns-in-Err
returns-in-Err g c =
    let u = c.args.self.now in
    refuses _ _ _ u _ c.is_outside.ensures.sound _ (g.met.L.Lines.same_self _) _ (store_by u.sizes (g.L.Lines.room_of _) u.cache _ _ _ _ _
    _ (sym c.is_outside.ensures.outside ∙ c.if-is_outside.false) (ap not (sym c.has_any.ensures ∙ c.if-not-has_any.false)) (rw
    c.block_of-block.ensures.value at c.in-Err.ensures.cause)) _ _
    c.in-Err.ensures.unit_kept c.in-Err.ensures.lines_kept

pub returns-in-Ok : goal.returns-in-Ok
returns-in-Ok g c =
    let u = c.args.self.now in
    let v = c.make_present.new.self in
    let w = c.store_present.new.self in
    let block = block_of u.sizes _ in
    steps _ _ _ u _ c.is_outside.ensures.sound _ _ (store_by u.sizes (g.L.Lines.room_of _) u.cache _ _ _ _ _ _ (sym
    c.is_outside.ensures.outside ∙ c.if-is_outside.false) (ap not (sym c.has_any.ensures ∙ c.if-not-has_any.false)) (rw
    c.block_of-block.ensures.value at c.in-Ok.ensures.no_cause)) w _ (subst (λ x. w ≡ record x {
      cache = written x.cache block
          (place_in u.sizes c.args.at) c.args.word c.args.lanes;
    }) (rw c.block_of-block.ensures.value at c.in-Ok.ensures.unit) (subst (λ i. w
    ≡ record v { cache = written v.cache block i c.args.word c.args.lanes }) c.place_in-i.ensures.value (rw
    c.block_of-block.ensures.value at c.store_present.ensures))) (subst (λ b. HasSent g.L.Lines.sent_to g.L.Lines.room_of
    g.L.Lines.same c.args.lines.now c.make_present.new.lines (fetches u.sizes u.cache b)) c.block_of-block.ensures.value
    c.in-Ok.ensures.lines)
