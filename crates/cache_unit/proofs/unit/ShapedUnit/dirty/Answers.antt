use Rattle.std.proofs.Common.{◌∙◌, ap, sym, Some}
use Rattle.std.specs.Option.{option_map}
use borrow.Author.Tests.{ltb-true}
use Rattle.cache_unit.proofs.Views.{some-within, cell-there}
use Rattle.cache_directory.specs.Frames as dir
use Rattle.cache_unit.proofs.unit.ShapedUnit.dirty.Goals as goal

pub dirty-requires : goal.dirty-requires
dirty-requires c =
    ltb-true _ _ (sym (some-within (dir.frame_at c.self.inside.directory.frames _).cells _) ∙ (rw (← c.self.view_is) at (sym
    c.has_word.ensures ∙ c.if-has_word.true)))

pub returns-then-has_word : goal.returns-then-has_word
returns-then-has_word c =
    let s = c.self.inside in
    rw (← c.self.view_is) (ap Some c.dirty.ensures.dirty ∙ ap (option_map (λ x. x.dirty)) (sym (cell-there (dir.frame_at s.directory.frames
    _).cells _ (rw (← c.self.view_is) at (sym c.has_word.ensures ∙ c.if-has_word.true)))))
