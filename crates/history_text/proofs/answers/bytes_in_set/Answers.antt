use Rattle.std.proofs.Common.{◌∷◌, [], length, length-append, sym, ◌∙◌, ap, arith}
use Rattle.history_text.proofs.Sets.{with_byte, without_byte, all_bytes}
use Rattle.history_text.proofs.answers.bytes_in_set.Goals.{then-contains, else-contains}
use Rattle.history_text.proofs.answers.bytes_in_set.Goals as goal

pub loop-byte-preserved : goal.loop-byte-preserved
loop-byte-preserved c =
    let n = c.loop-byte.byte in
    let bytes = c.loop-byte.bytes.items in
    let smaller = c.loop-byte.invariant.smaller in
    let few = c.loop-byte.invariant.few in
    elim c.if-contains.branch [
      | then-contains w ↦
          let pushed = ap (λ v. v.items) w.bytes-is ∙ w.push.ensures.items in
          record {
            smaller = with_byte c.args.set bytes _ n smaller (sym c.contains.ensures ∙ w.if-contains.true) pushed;
            few = omega (arith, ap length pushed, length-append bytes (n ∷ []), few);
          }
      | else-contains w ↦
          let same = ap (λ v. v.items) w.bytes-is in
          record {
            smaller = without_byte c.args.set bytes _ n smaller (sym c.contains.ensures ∙ w.if-contains.false) same;
            few = omega (arith, ap length same, few);
          }
    ]

pub returns : goal.returns
returns c = all_bytes c.args.set c.loop-byte.bytes.items c.loop-byte.byte (omega arith) c.loop-byte.invariant.smaller
