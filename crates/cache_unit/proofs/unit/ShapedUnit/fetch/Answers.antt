use Rattle.std.proofs.Common.{◌≡◌, ◌+◌, ◌*◌, ◌<◌, ℕ, Some, arith, ap, sym}
use Rattle.cache_unit.proofs.Parts.{directory_whole, registers_whole}
use Rattle.cache_unit.specs.View.{cache_of}
use Rattle.cache_unit.proofs.BlockReads.{room_for_all}
use Rattle.cache_law.proofs.Fetching.{fetched-shown, IsSound-missed}
use Rattle.cache_unit.proofs.Calls.{made}
use Rattle.cache_law.proofs.Choosing.{takes_from, absent_frame, no_live}
use Rattle.cache_unit.proofs.Taking.{fetches-shown}
use Rattle.cache_directory.specs.Frames as dir
use Rattle.cache_unit.proofs.unit.ShapedUnit.fetch.Goals as goal

pub bring_in-requires : goal.bring_in-requires
bring_in-requires g c =
    let s = c.self.inside in
    let h = c.self.invariant.sound in
    let room = g.L.Lines.room_of _ in
    let t = takes_from s.sizes _ h room _ _ _ (rw (← c.self.view_is) at c.requires.may_take) in
    let absent = absent_frame (cache_of s) _ (rw (← c.self.view_is) at c.requires.absent) in
    let in_memory =
    rw (sym c.self.view_is) at c.requires.in_memory in
    let small : c.args.block * s.sizes.block_words + s.sizes.block_words < 4294967296 = omega arith in
    let held : (b : ℕ) → (dir.frame_at s.directory.frames _).block ≡ Some b → b * s.sizes.block_words + s.sizes.block_words < 4294967296 =
    λ b e. (let m = h.in_memory _ b e in omega arith) in
    record {
      whole = directory_whole _ c.self.invariant;
      whole_file = registers_whole _ c.self.invariant;
      absent = absent;
      frame = t.there;
      of_set = t.of_set;
      slot = t.register;
      free = t.free;
      no_live = (no_live s.directory.frames s.registers _ h.tied absent);
      fits = small;
      held_fits = held;
      room = grind arith;
      some_banks = c.self.invariant.ranges.some_banks;
      bank_room = (room_for_all room _ _ s.sizes.block_words s.sizes.banks c.self.invariant.ranges.some_banks t.banks);
    }

pub invariant_of-self : goal.invariant_of-self
invariant_of-self g c =
    let s = c.self.inside in
    let h = c.self.invariant.sound in
    let t = takes_from s.sizes _ h (g.L.Lines.room_of _) _ _ _ (rw (← c.self.view_is) at c.requires.may_take) in
    let in_memory =
    rw (sym c.self.view_is) at c.requires.in_memory in
    let b = c.bring_in.ensures in
    let all = IsSound-missed s.sizes _ _ c.args.places.frame c.args.places.slot h t.there t.of_set t.idle (absent_frame (cache_of s) _
    (rw (← c.self.view_is) at c.requires.absent)) t.register t.free in_memory t.queue in
    record { ranges = c.self.invariant.ranges; sound = grind arith; limit = grind arith }

pub returns-clause-unit : goal.returns-clause-unit
returns-clause-unit g c =
    let s = c.self.inside in
    let z = s.sizes in
    let may = rw (← c.self.view_is) at c.requires.may_take in
    let b = c.bring_in.ensures in
    rw (b.directory, b.registers, b.queue, ← c.self.view_is) (ap (made z) (fetched-shown z _ _ c.args.places.frame c.args.places.slot
    (rw (← c.self.view_is) at c.requires.absent) may.chosen may.free))

pub returns-clause-lines : goal.returns-clause-lines
returns-clause-lines g c =
    let s = c.self.inside in
    rw (
      ← c.self.view_is,
      ← (fetches-shown s.sizes (cache_of s) _ _ (rw (← c.self.view_is) at c.requires.absent) (rw (← c.self.view_is) at
          c.requires.may_take).free),
    ) c.bring_in.ensures.lines
