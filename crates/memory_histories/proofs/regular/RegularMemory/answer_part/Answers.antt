use Rattle.std.proofs.Common.{arith, ◌≡◌, refl}
use Rattle.std.specs.List.{filter}
use Rattle.std.proofs.Math.Path.{fun_ext}
use Rattle.memory_histories.specs.Windows.{is_open}
use Rattle.memory_histories.specs.Parts.{part_bytes, parts_bytes}
use Rattle.memory_histories.specs.Shown.{kept}
use Rattle.memory_histories.proofs.OnePart.{only_bytes, other_bytes}
use Rattle.memory_histories.proofs.regular.RegularMemory.answer_part.Goals as goal

pub returns-clause-ok : goal.returns-clause-ok
unfolding kept
returns-clause-ok c =
    let ps = c.args.self.now.stores.items in
    let bytes : part_bytes c.index.result.now ≡ filter (is_open c.args.number) (parts_bytes ps) = grind (arith, only_bytes) in
    rw (fun_ext c.in_ok-answer_part.ensures.ok, bytes, c.remove.ensures.by_index.2, ← other_bytes c.args.number ps c.args.place c.requires)
    refl
