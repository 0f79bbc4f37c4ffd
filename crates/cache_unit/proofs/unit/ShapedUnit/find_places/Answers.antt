use Rattle.std.proofs.Common.{arith, sym, ◌∙◌, mod-lt, Some, None, lt-ltb, le-ltb, refl}
use Rattle.cache_unit.specs.View.{cache_of}
use Rattle.cache_unit.proofs.Parts.{directory_whole}
use Rattle.cache_law.proofs.Choosing.{chosen_can, causes_are}
use Rattle.cache_unit.proofs.Taking.{find_places}
use Rattle.cache_unit.proofs.unit.ShapedUnit.find_places.Goals as goal

pub returns-in_default-clause-refused : goal.returns-in_default-clause-refused
returns-in_default-clause-refused g c =
    rw (← c.self.view_is) (causes_are c.self.inside.sizes _ c.self.invariant.sound (g.L.Lines.room_of _) _ None _ _ _ (sym
    c.free_slot.ensures.answer ∙ c.in_default.is) refl refl refl)

pub returns-in_default-choose_frame-clause-refused : goal.returns-in_default-choose_frame-clause-refused
returns-in_default-choose_frame-clause-refused g c =
    rw (← c.self.view_is) (causes_are c.self.inside.sizes _ c.self.invariant.sound (g.L.Lines.room_of _) _ (Some c.in-Some.slot) None _ _
    (sym c.in-Some.ensures.answer) (sym c.choose_frame.ensures ∙ c.in_default-choose_frame.is) refl refl)

pub choose_frame-requires : goal.choose_frame-requires
choose_frame-requires g c = grind arith

pub words_owed-requires : goal.words_owed-requires
words_owed-requires g c =
    let s = c.self.inside in
    let h = c.self.invariant.sound in
    record {
      whole = directory_whole _ c.self.invariant;
      frame = (chosen_can s.sizes.ways s.sizes.block_words s.directory _ c.in-Some-choose_frame.frame
          h.directory (mod-lt _ (directory_whole _ c.self.invariant).some_set) (sym c.in-Some-choose_frame.ensures)).there;
    }

pub returns-then-room-words_owed-clause-refused : goal.returns-then-room-words_owed-clause-refused
returns-then-room-words_owed-clause-refused g c =
    let s = c.self.inside in
    let now = cache_of s in
    rw (← c.self.view_is) (causes_are s.sizes _ c.self.invariant.sound (g.L.Lines.room_of _) _ (Some c.in-Some.slot) (Some
    c.in-Some-choose_frame.frame) _ _ (sym c.in-Some.ensures.answer) (sym c.in-Some-choose_frame.ensures) (lt-ltb _ _ (omega arith))
    refl)

pub returns-then-lacks_room-clause-refused : goal.returns-then-lacks_room-clause-refused
returns-then-lacks_room-clause-refused g c =
    let s = c.self.inside in
    let now = cache_of s in
    rw (← c.self.view_is) (causes_are s.sizes _ c.self.invariant.sound (g.L.Lines.room_of _) _ (Some c.in-Some.slot) (Some
    c.in-Some-choose_frame.frame) _ _ (sym c.in-Some.ensures.answer) (sym c.in-Some-choose_frame.ensures) (le-ltb _ _ (omega arith))
    (sym c.lacks_room.ensures ∙ c.if-lacks_room.true))

pub returns-clause-found : goal.returns-clause-found
returns-clause-found g c =
    let s = c.self.inside in
    let now = cache_of s in
    rw (← c.self.view_is) (find_places s.sizes _ c.self.invariant.sound (g.L.Lines.room_of _) _ c.in-Some.slot c.in-Some-choose_frame.frame
    (sym c.in-Some.ensures.answer) (sym c.in-Some-choose_frame.ensures) (omega arith) (sym c.lacks_room.ensures ∙
    c.if-lacks_room.false))
