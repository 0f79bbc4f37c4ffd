use Rattle.std.proofs.Common.{◌≡◌, ◌<◌, ◌==◌, ℕ, length, refl, ap, ap₂, sym, ◌∙◌, subst, Bool, leb-false}
use Rattle.std.specs.List.{list_any}
use Rattle.cache_law.specs.State.{UnitState, Cache, block_of, place_in, tags}
use Rattle.cache_law.specs.Requests.{is_full_for, load_answer, load_present}
use Rattle.cache_unit.proofs.Calls.{steps, refuses}
use Rattle.cache_law.proofs.Requesting.{load_by, load_absent, load_decided}
use Rattle.cache_unit.proofs.unit.ShapedUnit.load.Goals as goal

pub returns-then-is_outside : goal.returns-then-is_outside
returns-then-is_outside g c =
    let u = c.args.self.now in
    refuses _ _ _ u _ c.is_outside.ensures.sound _ (g.met.L.Lines.same_self _) _ (load_by u.sizes (g.L.Lines.room_of _) u.cache _ _ _ _ _ _
    (sym c.is_outside.ensures.outside ∙ c.if-is_outside.true) refl refl refl) _ _ refl refl

pub returns-then-is_in_use : goal.returns-then-is_in_use
returns-then-is_in_use g c =
    let u = c.args.self.now in
    refuses _ _ _ u _ c.is_outside.ensures.sound _ (g.met.L.Lines.same_self _) _ (load_by u.sizes (g.L.Lines.room_of _) u.cache _ _ _ _ _ _
    (sym c.is_outside.ensures.outside ∙ c.if-is_outside.false) (sym c.is_in_use.ensures ∙ c.if-is_in_use.true) refl refl) _ _ refl refl

pub returns-then-owes_all : goal.returns-then-owes_all
returns-then-owes_all g c =
    let u = c.args.self.now in
    refuses _ _ _ u _ c.is_outside.ensures.sound _ (g.met.L.Lines.same_self _) _ (load_by u.sizes (g.L.Lines.room_of _) u.cache _ _ _ _ _ _
    (sym c.is_outside.ensures.outside ∙ c.if-is_outside.false) (sym c.is_in_use.ensures ∙ c.if-is_in_use.false) (sym c.owes_all.ensures
    ∙ c.if-owes_all.true) refl) _ _ refl refl

pub returns-in-Err : goal.returns-in-Err
returns-in-Err g c =
    let u = c.args.self.now in
    let room = g.L.Lines.room_of _ in
    refuses _ _ _ u _ c.is_outside.ensures.sound _ (g.met.L.Lines.same_self _) _ (load_by u.sizes room u.cache _ _ _ _ _ _ (sym
    c.is_outside.ensures.outside ∙ c.if-is_outside.false) (sym c.is_in_use.ensures ∙ c.if-is_in_use.false) (sym c.owes_all.ensures ∙
    c.if-owes_all.false) (load_absent u.sizes room u.cache _ c.in-Err.cause (rw c.block_of-block.ensures.value at
    c.in-Err.ensures.cause))) _ _
    c.in-Err.ensures.unit_kept c.in-Err.ensures.lines_kept

pub load_present-requires : goal.load_present-requires
load_present-requires g c =
    let u = c.args.self.now in
    let word = rw (ap (λ x. x.sizes.block_words) (sym c.in-Ok.ensures.unit)) at c.place_in-i.ensures.small in
    record {
      word = word;
      held = c.in-Ok.ensures.held;
      new_tag = (ap (λ l. list_any (λ t. t == c.args.tag) l) c.in-Ok.ensures.tags_kept ∙
          sym c.is_in_use.ensures ∙ c.if-is_in_use.false);
      replies = (rw (sym c.in-Ok.ensures.tags_kept) at (subst (λ x. length (tags
          u.cache) < x.sizes.replies) (sym c.in-Ok.ensures.unit) (leb-false u.sizes.replies _ (sym c.owes_all.ensures ∙
          c.if-owes_all.false))));
    }

pub returns-in-Ok : goal.returns-in-Ok
returns-in-Ok g c =
    let u = c.args.self.now in
    let v = c.make_present.new.self in
    let w = c.load_present.new.self in
    let block = block_of u.sizes _ in
    let place = place_in u.sizes _ in
    let after : Cache → ℕ → ℕ → Bool → Cache = λ d b i full. load_present d c.args.tag b i full in
    let full : ℕ → ℕ → Bool = λ b i. is_full_for u.cache b i in
    let told = c.load_present.ensures.unit
    ∙ ap (λ f. let x : UnitState = record { sizes = v.sizes; cache = after v.cache c.block_of-block.result c.place_in-i.result f } in x)
    (c.in-Ok.ensures.targets c.place_in-i.result) in
    rw (sym (c.load_present.ensures.answer ∙ ap load_answer (c.in-Ok.ensures.targets c.place_in-i.result) ∙ ap₂ (λ b i. load_answer (full b
    i)) c.block_of-block.ensures.value c.place_in-i.ensures.value)) at (steps _ _ _ u _ c.is_outside.ensures.sound _ _ (load_decided
    u.sizes (g.L.Lines.room_of _) u.cache _ _ (sym c.is_outside.ensures.outside ∙ c.if-is_outside.false) (sym c.is_in_use.ensures ∙
    c.if-is_in_use.false) (sym c.owes_all.ensures ∙ c.if-owes_all.false) (rw c.block_of-block.ensures.value at
    c.in-Ok.ensures.no_cause)) w _ (subst (λ x. w ≡ record x { cache = after x.cache block place (full block place) }) (rw
    c.block_of-block.ensures.value at c.in-Ok.ensures.unit) (rw c.place_in-i.ensures.value at (rw c.block_of-block.ensures.value at
    told))) (rw c.block_of-block.ensures.value at c.in-Ok.ensures.lines))
