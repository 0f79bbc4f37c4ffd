use Rattle.std.proofs.Common.{arith, ◌≡◌, ◌+◌, ◌-◌, length, take, length-take, length-drop, get_or-take, get_or-drop}
use Rattle.std.proofs.lemmas.List.{ext_get_or}
use Rattle.trace_text.proofs.pieces.keep_end.Goals as goal

pub returns : goal.returns
returns c =
    let n = c.args.to - c.args.from in
    let old = c.args.bytes.now in
    let new = c.copy_within.new.self in
    let len : length new ≡ length old = c.copy_within.ensures.len in
    ext_get_or 0 _ _
    (omega (arith, len, length-take n new, length-drop c.args.from (take c.args.to old), length-take c.args.to old))
    (λ k lt. grind (
      arith,
      length-take n new,
      get_or-take n new k 0,
      c.copy_within.ensures.by_index.0 k 0,
      get_or-drop c.args.from (take c.args.to old) k 0,
      get_or-take c.args.to old (c.args.from + k) 0,
    ))
