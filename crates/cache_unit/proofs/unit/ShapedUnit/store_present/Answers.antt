use Rattle.std.proofs.Common.{is_some, ap, sym}
use Rattle.cache_unit.specs.View.{cache_of}
use Rattle.cache_law.specs.Steps.{written_for, noted_for}
use Rattle.cache_unit.proofs.Begins.{held-cells}
use Rattle.cache_unit.proofs.Calls.{made}
use Rattle.cache_law.proofs.Present.{IsSound-stored}
use Rattle.cache_unit.proofs.unit.ShapedUnit.store_present.Goals as goal
use Rattle.cache_law.proofs.Lists.{frame_of-some}

pub write-requires : goal.write-requires
write-requires c =
    let s = c.self.inside in
    rw (sym (held-cells s.sizes.ways s.sizes.block_words s.directory _ c.self.invariant.sound.directory (ap is_some ((frame_of-some
    s.directory.frames _ _ (rw (← c.self.view_is) at c.requires.held)).1)))) at (rw (sym c.self.view_is) at c.requires.word)

pub invariant_of-self : goal.invariant_of-self
invariant_of-self c =
    let s = c.self.inside in
    record {
      ranges = c.self.invariant.ranges;
      sound = rw (c.write.ensures.written, c.note_code.ensures.noted) (rw (rw (← c.self.view_is) at c.requires.held) at (IsSound-stored
          s.sizes (cache_of s) c.args.block c.args.i c.args.word c.args.lanes (rw (sym c.self.view_is) at c.requires.word)
          c.self.invariant.sound));
      limit = c.self.invariant.limit;
    }

pub returns : goal.returns
returns c =
    let s = c.self.inside in
    let now = cache_of s in
    let held = rw (← c.self.view_is) at c.requires.held in
    let rs = noted_for s.registers _ _ _ in
    let e = ap (λ o. record now { directory = written_for s.directory o c.args.i c.args.word c.args.lanes; registers = rs }) (sym held) in
    rw (c.write.ensures.written, c.note_code.ensures.noted, ← c.self.view_is) (ap (made s.sizes) e)
