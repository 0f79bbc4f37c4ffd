use Rattle.std.proofs.Common.{not, ◌||◌, ◌∙◌, sym, ap}
use Rattle.shape_files.specs.ShapeFile.{is_key}
use Rattle.shape_files.proofs.Members.{others, others-keys}
use Rattle.shape_files.proofs.shape_file.has_other_key.Goals as goal

pub loop-key-init : goal.loop-key-init
loop-key-init c = others-keys c.args.table.now.entries
    ∙ ap others (sym (c.into_iter-key-iterator.ensures.into_iter_gives ∙ c.keys-key-items.ensures.rest))

pub returns-then-not-is_key : goal.returns-then-not-is_key
returns-then-not-is_key c =
    let no_key = sym (ap is_key c.as_str.ensures.value) ∙ sym c.is_key.ensures ∙ c.if-not-is_key.true in
    sym (c.loop-key.invariant ∙ ap others c.in-Some.ensures.steps ∙ ap (λ b. not b || others c.next.new.self) no_key)

pub loop-key-preserved : goal.loop-key-preserved
loop-key-preserved c =
    let a_key = sym (ap is_key c.as_str.ensures.value) ∙ sym c.is_key.ensures ∙ c.if-not-is_key.false in
    c.loop-key.invariant ∙ ap others c.in-Some.ensures.steps ∙ ap (λ b. not b || others c.next.new.self) a_key

pub returns : goal.returns
returns c = sym (c.loop-key.invariant ∙ ap others (c.in-None.ensures.steps).0)
