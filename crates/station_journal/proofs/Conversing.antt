-- A conversation, step by step.
use Rattle.std.proofs.Common.{◌≡◌, ℕ, suc, ◌+◌, false, cond, List, [], ◌∷◌, ◌++◌, length, refl, ap, arith, append-nil}
use Rattle.std.proofs.lemmas.List.Elements.{filter-append}
use Rattle.miss_registers.proofs.Tags.{count_by-append}
use Rattle.station_journal.specs.declared.asks.Ask.{Ask}
use Rattle.station_journal.specs.declared.asks.Told.{Told}
use Rattle.station_journal.specs.Conversation.{is_value, verdicts_in, is_final, accepted_load, accepted_loads, Follows}
use Rattle.station_journal.specs.Conversation.{IsUnderWay}

-- ---- one verdict more

pub follows-length : (script asked : List Ask) (verdicts : List Told) (left : List Ask) → Follows script asked verdicts left
    → length verdicts ≡ length asked
follows-length script [] [] left h = refl
follows-length (first ∷ script) (offer ∷ asked) (v ∷ verdicts) left h =
    ap suc (follows-length _ asked verdicts left h.1)
follows-length script asked verdicts left h = absurd h

follows-next : (script asked : List Ask) (verdicts : List Told) (ask : Ask) (more : List Ask) (verdict : Told)
    → Follows script asked verdicts (ask ∷ more)
    → Follows script (asked ++ ask ∷ []) (verdicts ++ verdict ∷ []) (cond (is_final verdict) more (ask ∷ more))
follows-next script [] [] ask more verdict h = grind arith
follows-next (first ∷ script) (offer ∷ asked) (v ∷ verdicts) ask more verdict h =
    (h.0, follows-next _ asked verdicts ask more verdict h.1)
follows-next script asked verdicts ask more verdict h = absurd h

pub accepted-append : (xs ys : List Ask) (us vs : List Told) → length us ≡ length xs
    → accepted_loads (xs ++ ys) (us ++ vs) ≡ accepted_loads xs us + accepted_loads ys vs
accepted-append [] ys [] vs e = omega arith
accepted-append (x ∷ xs) ys (u ∷ us) vs e = let r = accepted-append xs ys us vs (omega arith) in omega arith
accepted-append xs ys us vs e = absurd (omega arith)

-- ---- the steps of a port

-- it is told a verdict on its ask
pub under_way_judged : (script more : List Ask) (ask : Ask) (loads values : ℕ) (offered : List Ask) (taken : List Told) (verdict : Told)
    → is_value verdict ≡ false → IsUnderWay script (ask ∷ more) (ask ∷ []) loads values offered taken
    → IsUnderWay script (cond (is_final verdict) more (ask ∷ more)) [] (loads + accepted_load ask verdict) values offered
    (taken ++ verdict ∷ [])
under_way_judged script more ask loads values offered taken verdict none h =
    let verdicts : verdicts_in (taken ++ verdict ∷ []) ≡ verdicts_in taken ++ verdict ∷ [] = grind (arith, filter-append) in
    let follows = follows-next script h.asked _ ask more verdict h.follows in
    let loads = accepted-append h.asked (ask ∷ []) _ (verdict ∷ []) (follows-length script h.asked _ _ h.follows) in
    record {
      asked = h.asked ++ ask ∷ [];
      offered_is = grind (arith, append-nil);
      follows = grind arith;
      loads_are = grind arith;
      values_are = grind (arith, count_by-append);
    }
