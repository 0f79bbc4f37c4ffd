use Rattle.std.proofs.Common.{is_some, ap, ap₂, sym, ◌∙◌}
use Rattle.flat_model.specs.Words.{zero_word, merged}
use Rattle.cache_unit.specs.View.{cache_of}
use Rattle.cache_law.proofs.Present.{live_for-some}
use Rattle.cache_unit.proofs.Findings.{cell_found, finding-processed, finding-written, finding-stacked, finding-coming}
use Rattle.cache_unit.proofs.Findings.{finding-resident, zero_from}
use Rattle.cache_unit.proofs.Begins.{held-cells}
use Rattle.cache_unit.specs.declared.unit.present.Finding.TheVariants.{Here, Coming}
use Rattle.cache_unit.proofs.unit.ShapedUnit.find_word.Goals as goal
use Rattle.cache_law.proofs.Lists.{frame_of-some}

pub word-buffer-requires : goal.word-buffer-requires
word-buffer-requires c =
    let s = c.self.inside in
    rw (sym (held-cells s.sizes.ways s.sizes.block_words s.directory _ c.self.invariant.sound.directory (ap is_some ((frame_of-some
    s.directory.frames _ _ (rw (← c.self.view_is) at c.requires.held)).1)))) at (rw (sym c.self.view_is) at c.requires.word)

pub returns-in_default : goal.returns-in_default
returns-in_default c =
    let now = cache_of c.self.inside in
    rw (← c.self.view_is)
    (ap Here (c.word-buffer.ensures.word ∙ sym (ap (λ x. x.word) (cell_found now _ _ _ (rw (← c.self.view_is) at c.requires.held)))) ∙ sym
    (finding-resident now _ _ (sym c.live_for.ensures.answer ∙ c.in_default.is)))

pub missing_code-requires : goal.missing_code-requires
missing_code-requires c = (live_for-some _ _ c.in-Some.slot (sym c.in-Some.ensures.answer)).0

pub returns-in_default-missing_code : goal.returns-in_default-missing_code
returns-in_default-missing_code c =
    let now = cache_of c.self.inside in
    rw (← c.self.view_is)
    (ap Here (c.word-buffer.ensures.word ∙ sym (ap (λ x. x.word) (cell_found now _ _ _ (rw (← c.self.view_is) at c.requires.held)))) ∙ sym
    (finding-processed now _ _ c.in-Some.slot (sym c.in-Some.ensures.answer) (sym c.missing_code.ensures ∙
    c.in_default-missing_code.is)))

pub returns-then-has_all : goal.returns-then-has_all
returns-then-has_all c =
    let now = cache_of c.self.inside in
    rw (← c.self.view_is)
    (ap Here (c.word-buffer.ensures.word ∙ sym (ap (λ x. x.word) (cell_found now _ _ _ (rw (← c.self.view_is) at c.requires.held)))) ∙ sym
    (finding-written now _ _ c.in-Some.slot (sym c.in-Some.ensures.answer) c.in-Some-missing_code.code (sym
    c.in-Some-missing_code.ensures) (sym c.has_all.ensures ∙ c.if-has_all.true)))

pub returns-in-Some-find : goal.returns-in-Some-find
returns-in-Some-find c =
    let s = c.self.inside in
    let now = cache_of s in
    rw (← c.self.view_is)
    (ap Here (cc (
      c.merge.ensures,
      (c.word-buffer.ensures.word ∙ sym (ap (λ x. x.word) (cell_found now _ _ _ (rw (← c.self.view_is) at
          c.requires.held)))),
    )) ∙ sym (finding-stacked now _ _ c.in-Some.slot (sym c.in-Some.ensures.answer) c.in-Some-missing_code.code (sym
    c.in-Some-missing_code.ensures) c.in-Some-find.word (sym c.has_all.ensures ∙ c.if-has_all.false) (sym c.in-Some-find.ensures)))

pub waiting-requires : goal.waiting-requires
waiting-requires c = (live_for-some _ _ c.in-Some.slot (sym c.in-Some.ensures.answer)).0

pub returns-in-None : goal.returns-in-None
returns-in-None c =
    let now = cache_of c.self.inside in
    let code = c.in-Some-missing_code.code in
    rw (← c.self.view_is)
    (ap₂ (λ w n. Coming c.in-Some.slot w code n) (c.merge-in-None.ensures ∙ ap (λ w. merged w c.word-buffer.result code) (zero_from _
    c.default.ensures) ∙ ap (λ w. merged zero_word w code) (c.word-buffer.ensures.word ∙ sym (ap (λ x. x.word) (cell_found now _ _ _
    (rw (← c.self.view_is) at c.requires.held))))) c.waiting.ensures ∙ sym (finding-coming now _ _ c.in-Some.slot (sym
    c.in-Some.ensures.answer) code (sym c.in-Some-missing_code.ensures) (sym c.has_all.ensures ∙ c.if-has_all.false) (sym
    c.find.ensures ∙ c.in-None.is)))
