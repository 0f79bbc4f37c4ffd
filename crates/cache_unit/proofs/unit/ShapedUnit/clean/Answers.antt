use Rattle.std.proofs.Common.{◌∙◌, ◌==◌, ap, sym, refl, true, false}
use Rattle.cache_unit.specs.View.{cache_of}
use Rattle.cache_unit.proofs.Views.{clean_by}
use Rattle.cache_unit.proofs.unit.ShapedUnit.clean.Goals.{then-are_free, else-are_free}
use Rattle.cache_unit.proofs.unit.ShapedUnit.clean.Goals as goal

pub returns-then-are_clean : goal.returns-then-are_clean
returns-then-are_clean c =
    let s = c.self.inside in
    let now = cache_of s in
    elim c.if-are_free.branch [
      | then-are_free w ↦ (
          rw (← c.self.view_is) (clean_by (cache_of s) true true _ (sym c.are_free.ensures ∙ w.if-are_free.true) (sym w.are_clean.ensures ∙
          sym w.value-is ∙ c.if-are_clean.true) (ap (λ n. n == 0) (sym c.len.ensures.value))))
      | else-are_free w ↦ (
          cc)
    ]

pub returns-else-are_clean : goal.returns-else-are_clean
returns-else-are_clean c =
    let s = c.self.inside in
    elim c.if-are_free.branch [
      | then-are_free w ↦ (
          let shown = clean_by (cache_of s) true false _ (sym c.are_free.ensures ∙ w.if-are_free.true) (sym w.are_clean.ensures ∙ sym
          w.value-is ∙ c.if-are_clean.false) refl in
          rw (← c.self.view_is) (c.if-are_clean.false ∙ shown))
      | else-are_free w ↦ (
          rw (← c.self.view_is) (c.if-are_clean.false ∙ (clean_by (cache_of s) false _ _ (sym c.are_free.ensures ∙ w.if-are_free.false)
          refl refl)))
    ]
