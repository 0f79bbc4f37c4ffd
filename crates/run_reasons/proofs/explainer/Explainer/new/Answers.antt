use Rattle.std.proofs.Common.{◌≡◌, ℕ, List, [], length, replicate, sym, ap, ◌∙◌}
use Rattle.flat_model.specs.declared.Word.{Word}
use Rattle.flat_model.specs.Flat.{Flat, opening}
use Rattle.flat_model.specs.Memory as memory
use Rattle.flat_model.specs.Images.{memory_from}
use Rattle.flat_model.proofs.Images.{memory_length}
use Rattle.run_reasons.specs.declared.origins.Stores.{Stores}
use Rattle.run_reasons.specs.declared.origins.TagUse.{TagUse}
use Rattle.run_reasons.specs.declared.origins.TagUse.TheVariants.{Never}
use Rattle.run_reasons.specs.Pasts.{PastOf, kept}
use Rattle.run_reasons.specs.Origins.{Origins, no_stores}
use Rattle.run_reasons.specs.TagSlots.{uses_in, since_in}
use Rattle.run_reasons.specs.Shown.{shown}
use Rattle.run_reasons.proofs.explainer.Explainer.new.Goals as goal

pub returns : goal.returns
unfolding shown
returns c =
    let words = memory_from c.args.image.now c.args.words in
    let long : c.args.words ≡ length words = sym (memory_length c.args.image.now c.args.words) in
    let mk : Flat → List Stores → (ℕ → TagUse) → (ℕ → List Word) → PastOf → Origins =
    λ f s t w p. record { flat = f; stores = s; tags = t; since = w; past = p } in
    let flat : memory.shown c.in_ok-flat.flat ≡ opening words = c.in_ok-flat.ensures.shown in
    let stores : c.in_ok-stores.stores.items ≡ replicate (length words) no_stores = c.in_ok-stores.ensures.items
    ∙ ap (λ n. replicate n no_stores) long in
    let tags = c.in_ok-tags.tags in
    let uses : uses_in tags.slots.items ≡ (λ tag. Never) = c.in_ok-tags.ensures.uses in
    let since : since_in tags.left.items tags.slots.items ≡ (λ tag. []) = c.in_ok-tags.ensures.since in
    let past = kept c.new-past.result in
    ap (λ f. mk f c.in_ok-stores.stores.items (uses_in tags.slots.items) (since_in tags.left.items tags.slots.items) past) flat
    ∙ ap (λ s. mk (opening words) s (uses_in tags.slots.items) (since_in tags.left.items tags.slots.items) past) stores
    ∙ ap (λ t. mk (opening words) (replicate (length words) no_stores) t (since_in tags.left.items tags.slots.items) past) uses
    ∙ ap (λ w. mk (opening words) (replicate (length words) no_stores) (λ tag. Never) w past) since
    ∙ ap (mk (opening words) (replicate (length words) no_stores) (λ tag. Never) (λ tag. [])) c.new-past.ensures
