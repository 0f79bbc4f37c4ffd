use Rattle.std.proofs.Common.{◌∷◌, [], length, length-append, sym, ◌∙◌, ap, arith}
use Rattle.history_text.proofs.Pairs.{pair_more}
use Rattle.history_text.proofs.fields.digit_pairs.Goals as goal

pub pairs-preserved : goal.pairs-preserved
pairs-preserved c =
    let bytes = c.pairs.bytes.items in
    let b = c.in_ok-byte.field-0 in
    let pair = ap length c.in-Some.ensures.some in
    let pushed = ap length c.push.ensures.items in
    record {
      whole = pair_more c.args.text.now bytes c.push.new.self.items c.pairs.rest.now c.in-Some.behind.now c.in-Some.high c.in-Some.low b
          c.pairs.invariant.whole c.in-Some.ensures.some (sym c.byte.ensures ∙ c.in_ok-byte.was) c.push.ensures.items;
      room = omega (arith, pair, pushed, length-append bytes (b ∷ []), c.pairs.invariant.room);
    }
