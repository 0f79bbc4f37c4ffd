use Rattle.std.proofs.Common.{sym, ◌∷◌, ◌++◌, [], take, nat_eq, get_or, None, refl, arith}
use Rattle.std.proofs.lemmas.List.Elements.{All-push, All-more}
use Rattle.std.specs.HashMap.{get}
use Rattle.std.proofs.lemmas.List.{take_all}
use Rattle.memory_histories.specs.declared.answered.UnitChange.{UnitChange}
use Rattle.memory_histories.specs.declared.parts.StorePart.{StorePart}
use Rattle.memory_histories.specs.Parts.{parts_bytes}
use Rattle.memory_histories.specs.Shown.{answered_in, IsAfter, HasUnit}
use Rattle.memory_histories.proofs.Units.{still_whole, has_last}
use Rattle.memory_histories.proofs.answered.changes.Goals as goal
use Rattle.memory_histories.proofs.answered.changes.Goals.{then-not-has_unit+in_ok-after+in_ok-push, else-not-has_unit}

nothing : StorePart
nothing = record { number = 0; unit = 0; lanes = []; began = 0; ended = None }

pub loop-part-preserved : goal.loop-part-preserved
unfolding nothing
loop-part-preserved c =
    let ending = c.args.ending.now in
    let i = c.loop-part.part-index in
    let unit = (get_or ending i nothing).unit in
    let cs = c.loop-part.changes.items in
    elim c.if-not-has_unit.branch [
      | then-not-has_unit+in_ok-after+in_ok-push w ↦
          let change : UnitChange = record { unit = unit; after = w.in_ok-after.after } in
          let p = IsAfter c.args.moment (parts_bytes ending) (answered_in (get nat_eq c.args.units.now)) in
          record {
            after = rw (w.changes-is, w.in_ok-push.ensures.items)
                (All-push p cs change c.loop-part.invariant.after (rw w.parts_in-answered.ensures at w.in_ok-after.ensures));
            whole = rw (w.changes-is, w.in_ok-push.ensures.items)
                (All-more (HasUnit (cs ++ change ∷ [])) ending i nothing c.loop-part-test.true
                (still_whole cs change (take i ending) c.loop-part.invariant.whole)
                (has_last cs change (get_or ending i nothing) refl));
          }
      | else-not-has_unit w ↦ record {
        after = rw w.changes-is c.loop-part.invariant.after;
        whole = rw w.changes-is (All-more (HasUnit cs) ending i nothing c.loop-part-test.true c.loop-part.invariant.whole
            (sym (rw c.as_slice.ensures.value at w.if-not-has_unit.ensures)));
      }
    ]

pub returns-clause-whole : goal.returns-clause-whole
returns-clause-whole c = grind (arith, take_all)
