use Rattle.std.proofs.Common.{◌≡◌, ℕ, ◌*◌, ◌<◌, ◌≤◌, arith, ap, refl, sym, ◌∙◌, subst, Some, None, true, false, le-ltb, lt-ltb}
use Rattle.cache_unit.specs.View.{cache_of}
use Rattle.cache_law.proofs.Lists.{frame_of-some}
use Rattle.cache_unit.proofs.Taking.{lacks-true, lacks-false}
use Rattle.cache_law.proofs.Requesting.{evict_by}
use Rattle.cache_unit.proofs.Calls.{makes, made}
use Rattle.cache_unit.proofs.unit.ShapedUnit.evict.Goals as goal

pub overflow_mul-first : goal.overflow_mul-first
overflow_mul-first c = grind arith

pub dirty_words-dirty-requires : goal.dirty_words-dirty-requires
dirty_words-dirty-requires c = grind (arith, frame_of-some, c.in-Some.frame)

pub returns-then-first-words : goal.returns-then-first-words
returns-then-first-words c =
    let s = c.self.inside in
    rw (← c.self.view_is) (makes s.sizes _ c.self.invariant.sound _ _ _ _ (evict_by s.sizes _ _ false _ _ (le-ltb _ _ (rw c.from.ensures at
    (subst (λ n. n ≤ c.from.result * s.sizes.block_words) c.from-words.ensures (rw (← c.from-2.ensures) c.if-first-words.true)))) refl
    refl) _ refl)

-- the block's first word is in memory
within : (first words block number block_words size : ℕ) → first ≡ block → words ≡ size → number ≡ block_words → first * number < words
    → block * block_words < size
within first words block number block_words size a b e l = grind arith

pub returns-in_default : goal.returns-in_default
returns-in_default c =
    let s = c.self.inside in
    rw (← c.self.view_is) (makes s.sizes _ c.self.invariant.sound _ _ _ _ (evict_by s.sizes _ _ true None _ (lt-ltb _ _ (within _ _ _ _ _ _
    c.from.ensures c.from-words.ensures c.from-2.ensures c.if-first-words.false)) (sym c.look.ensures.found ∙ c.in_default.is) refl) _
    refl)

pub returns-then-room-dirty : goal.returns-then-room-dirty
returns-then-room-dirty c =
    let s = c.self.inside in
    let holds = sym c.in-Some.ensures.found in
    rw (← c.self.view_is) (makes s.sizes _ c.self.invariant.sound _ _ _ _ (evict_by s.sizes _ _ true (Some c.in-Some.frame) true (lt-ltb _
    _ (within _ _ _ _ _ _ c.from.ensures c.from-words.ensures c.from-2.ensures c.if-first-words.false)) holds (lacks-true s.sizes _
    c.self.invariant.sound _ c.in-Some.frame holds c.dirty_words-dirty.result _ (c.dirty_words-dirty.ensures.count _ _) (rw (←
    c.self.invariant.limit) c.room.ensures.value) c.if-room-dirty.true)) _ refl)

pub give_up-requires : goal.give_up-requires
give_up-requires c = grind arith

pub returns : goal.returns
returns c =
    let s = c.self.inside in
    let z = s.sizes in
    let holds = sym c.in-Some.ensures.found in
    let is = evict_by z (cache_of s) _ true (Some c.in-Some.frame) false (lt-ltb _ _ (within _ _ _ _ _ _ c.from.ensures
    c.from-words.ensures c.from-2.ensures c.if-first-words.false)) holds (lacks-false z _ c.self.invariant.sound _ c.in-Some.frame
    holds c.dirty_words-dirty.result _ (c.dirty_words-dirty.ensures.count _ _) (rw (← c.self.invariant.limit) c.room.ensures.value)
    c.if-room-dirty.false) in
    rw (← c.self.view_is) (record {
      sound = c.self.invariant.sound;
      answer = sym (ap (λ x. x.answer) is);
      unit = (rw (← c.self.view_is) at c.give_up.ensures) ∙ ap (made z) (sym (ap (λ x. x.cache) is));
    })
