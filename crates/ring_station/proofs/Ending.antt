-- What an audit and a renewal behind the threads leave of what they did, and what stands where all came to their ends.
use Rattle.std.proofs.Common.{◌≡◌, ℕ, ◌<◌, Bool, true, false, cond, List, ◌++◌, length, map, slice_index_or, refl, sym, ap, ◌∙◌}
use Rattle.std.proofs.Common.{zero, suc, arith}
use Rattle.std.specs.Prelude.{Option, Some, None, is_none, vec_len, [], ◌∷◌, take}
use Rattle.std.specs.Global.{Vec}
use Rattle.std.specs.List.{list_all}
use Rattle.std.proofs.Math.ListN.{get_or-map}
use Rattle.std.proofs.lemmas.Bool.{and_parts}
use Rattle.std.proofs.lemmas.List.{length-map, take_at}
use Rattle.station_journal.specs.declared.asks.Ask.{Ask}
use Rattle.station_journal.specs.declared.asks.Told.{Told}
use Rattle.station_parts.specs.declared.port.Port.{Port}
use Rattle.station_parts.specs.declared.bank.BankSide.{BankSide}
use Rattle.station_parts.specs.declared.parts.Audit.{Audit}
use Rattle.station_parts.specs.declared.parts.Audit.TheVariants.{Clean}
use Rattle.station_parts.specs.declared.parts.CacheSide.{CacheSide}
use Rattle.station_parts.specs.Ids.{port_id, bank_id, cache_id}
use Rattle.station_parts.specs.Rest.{is_at_rest}
use Rattle.station_parts.specs.Audited.{LeavesCache, LeavesPorts, LeavesBanks}
use Rattle.station_parts.specs.Words.{offered, offered_before, taken, received_by}
use Rattle.ring_station.specs.declared.fault.RunFault.TheVariants.{TurnLimit, OutOfMemory}
use Rattle.ring_station.specs.declared.report.Run.{Run}
use Rattle.ring_station.specs.declared.thread_end.ThreadEnd.{ThreadEnd}
use Rattle.ring_station.specs.declared.thread_end.ThreadFault.{ThreadFault}
use Rattle.ring_station.specs.Ends.{Stands, HasEnded, not_begun, is_over}
use Rattle.ring_station.specs.PortRuns.{HasRun, HaveRun, PortsRan}
use Rattle.ring_station.specs.PartRuns.{BanksRan, CacheRan, ended_in}
use Rattle.ring_station.specs.Run.{is_clean, fault_of, HaveFinished}
use Rattle.ring_station.proofs.Turning.{ended_along}
use Rattle.station_parts.specs.declared.renewal.RenewFault.{RenewFault}
use Rattle.station_parts.specs.declared.renewal.RenewFault.TheVariants.{WornOut, OutOfMemory, NotClean}
use Rattle.station_parts.specs.Renewed.{ResumesPorts, IsRefused}
use Rattle.ring_station.specs.declared.fault.SegmentFault.TheVariants.{Renewal}
use Rattle.ring_station.specs.Segments.{HaveRunOn, ComesToRenewal}

-- ---- what is shown behind an audit

-- rows that agree in what f shows
pub shown_alike : {X Y : Type 0} (f : X → Y) (xs ys : List X) → map f xs ≡ map f ys → (p : ℕ) (d : X)
    → f (slice_index_or xs p d) ≡ f (slice_index_or ys p d)
shown_alike f xs ys e p d = sym (get_or-map f xs p d) ∙ ap (λ l. slice_index_or l p (f d)) e ∙ get_or-map f ys p d

pub long_alike : {X Y : Type 0} (f : X → Y) (xs ys : List X) → map f xs ≡ map f ys → length xs ≡ length ys
long_alike f xs ys e = simp length-map at (ap length e)

-- a port that shows the same has run its script too
pub run_shown : {script : List Ask} {first ran new : Port} {list : List Told} → offered_before new ≡ offered_before ran
    → offered new ≡ offered ran → taken new ≡ taken ran → HasRun script first ran list → HasRun script first new list
run_shown before offer took h = record {
  before = before ∙ h.before;
  said = h.said;
  offered_is = offer ∙ h.offered_is;
  taken_is = took ∙ h.taken_is;
  converses = h.converses;
}

pub ports_shown : {scripts : List (Vec Ask)} {turns : ℕ} {old ran new : List Port} {lists : List (Vec Told)} {ends : List ThreadEnd}
    → map port_id new ≡ map port_id ran → LeavesPorts ran new → PortsRan scripts turns old ran lists ends
    → PortsRan scripts turns old new lists ends
ports_shown {ran = ran} {new = new} ids left h = record {
  number = long_alike port_id new ran ids ∙ h.number;
  listed = h.listed;
  ended = h.ended;
  each = λ p s d l e less.
      let one = h.each p s d l e less in
      let before = shown_alike offered_before new ran left.before p d in
      let offer = shown_alike offered new ran left.offered p d in
      let took = shown_alike taken new ran left.taken p d in
      record {
        same = shown_alike port_id new ran ids p d ∙ one.same;
        before = before ∙ one.before;
        took = took ∙ one.took;
        moved = omega (arith, one.moved, ap length offer, ap length took);
        ended = ended_along (omega arith) (λ on. refl) (run_shown before offer took) (λ x. x) one.ended;
      };
}

pub banks_shown : {turns : ℕ} {old ran new : List BankSide} {ends : List ThreadEnd} → map bank_id new ≡ map bank_id ran
    → LeavesBanks ran new → BanksRan turns old ran ends → BanksRan turns old new ends
banks_shown {ran = ran} {new = new} ids left h = record {
  number = long_alike bank_id new ran ids ∙ h.number;
  ended = h.ended;
  each = λ b d e less.
      let one = h.each b d e less in
      let received = shown_alike received_by new ran left.received b d in
      record {
        same = shown_alike bank_id new ran ids b d ∙ one.same;
        served = omega (arith, one.served, ap length received);
        ended = ended_along (omega arith) (λ on. refl)
            (λ r. record { last = r.last; stuck = r.stuck; served = received ∙ r.served }) (λ x. x) one.ended;
      };
}

pub cache_shown : {ports turns : ℕ} {old ran new : CacheSide} {end : ThreadEnd} → cache_id new ≡ cache_id ran
    → LeavesCache ran new → CacheRan ports turns old ran end → CacheRan ports turns old new end
cache_shown ids left h =
    let noted = ap length left.held in
    record {
      same = ids ∙ h.same;
      earlier = left.earlier ∙ h.earlier;
      noted = omega (arith, h.noted, noted);
      ended = ended_along (omega arith) (λ on. refl)
          (λ r. record { rests = ap is_at_rest left.cache ∙ r.rests; ended = omega (arith, r.ended, ap ended_in left.held) })
          (λ full. omega (arith, full, noted, ap (λ i. i.limit) ids)) h.ended;
    }

-- as many are put back as were taken out
pub put_back : {X Y : Type 0} (f : X → Y) (v : Vec X) (new rest : List X) → map f new ≡ map f v.items
    → take (vec_len v) (new ++ rest) ≡ new
put_back f v new rest same = take_at new rest _ (long_alike f new v.items same ∙ sym v.ok.0)

-- ---- every thread came to its end

clean_if : (found : Audit) → is_clean found ≡ true → found ≡ Clean
clean_if Clean e = refl
clean_if found e = absurd (cc)

whole_if : (l w : Bool) → cond l (Some OutOfMemory) (cond w None (Some TurnLimit)) ≡ None → w ≡ true
whole_if false true e = refl
whole_if l w e = absurd (cc)

-- a run without a fault
pub record IsGood (run : Run) : Type 0 where
  pub audit : run.audit ≡ Clean
  pub cache : is_over run.cache ≡ true
  pub ports : list_all is_over run.ports.items ≡ true
  pub banks : list_all is_over run.banks.items ≡ true

pub is_good : (run : Run) → fault_of run ≡ None → IsGood run
is_good run none =
    let ports = list_all is_over run.ports.items in
    let banks = list_all is_over run.banks.items in
    let a = and_parts _ _ (whole_if _ _ none) in
    let b = and_parts _ _ a.1 in
    let c = and_parts ports banks b.1 in
    record { audit = clean_if run.audit a.0; cache = b.0; ports = c.0; banks = c.1 }

over_stands : (over memory full : Type 0) (turns begun : ℕ) (fault : Option ThreadFault) → is_none fault ≡ true
    → Stands over memory full turns begun fault → (0 < begun) × over
over_stands over memory full turns begun None e h = h
over_stands over memory full turns begun (Some fault) e h = absurd (cc)

pub over : {over memory full : Type 0} {turns : ℕ} {end : ThreadEnd} → is_over end ≡ true → HasEnded over memory full turns end
    → (0 < turns) × over
over {over} {memory} {full} {turns} {end} e h =
    let s = over_stands over memory full turns end.turns end.fault e h.stands in
    (omega (arith, h.within, s.0), s.1)

over_at : (ends : List ThreadEnd) (p : ℕ) → list_all is_over ends ≡ true → p < length ends
    → is_over (slice_index_or ends p not_begun) ≡ true
over_at [] p all less = absurd (omega arith)
over_at (e ∷ ends) zero all less = (and_parts (is_over e) (list_all is_over ends) all).0
over_at (e ∷ ends) (suc p) all less = over_at ends p (and_parts _ _ all).1 (omega arith)

pub have_run : {scripts : List (Vec Ask)} {turns : ℕ} {old new : List Port} {lists : List (Vec Told)} {ends : List ThreadEnd}
    → PortsRan scripts turns old new lists ends → list_all is_over ends ≡ true → HaveRun scripts old new lists
have_run {ends = ends} ran all = record {
  number = ran.listed;
  each = λ p s d l less. (over (over_at ends p all (rw ran.ended less)) (ran.each p s d l not_begun less).ended).1;
}

pub have_finished : {turns : ℕ} {old new : List BankSide} {ends : List ThreadEnd} → BanksRan turns old new ends
    → list_all is_over ends ≡ true → HaveFinished new
have_finished {ends = ends} ran all b d less =
    let there = rw ran.number at less in
    (over (over_at ends b all (rw ran.ended there)) (ran.each b d not_begun there).ended).1

-- ---- a renewal behind a run

pub have_run_on : {scripts : List (Vec Ask)} {old ran new : List Port} {lists : List (Vec Told)} → length ran ≡ length old
    → HaveRun scripts old ran lists → ResumesPorts ran new → HaveRunOn scripts old new lists
have_run_on {old = old} {ran = ran} {new = new} number run resumed =
    let count : length new ≡ length old = grind (arith, long_alike) in
    record {
      number = run.number;
      each = λ p s d l less.
          let one = run.each p s d l less in
          record {
            said = one.said;
            offered_is = shown_alike offered new ran resumed.offered p d ∙ one.offered_is;
            taken_is = shown_alike taken new ran resumed.taken p d ∙ one.taken_is;
            converses = one.converses;
            before = resumed.before p d (rw count less);
            again = resumed.again p d (rw count less);
          };
    }

-- ports that ran to their end have done so where their station wasn't renewed, too
pub comes_to_renewal : {scripts : List (Vec Ask)} {old ran new : List Port} {lists : List (Vec Told)}
    (cache cache' : CacheSide) (banks banks' : List BankSide) (fault : RenewFault) → HaveRun scripts old ran lists
    → IsRefused fault cache cache' ran new banks banks' → ComesToRenewal scripts old new (Renewal fault)
comes_to_renewal {lists = lists} cache cache' banks banks' WornOut run refused = (lists, rw refused.2 run)
comes_to_renewal {lists = lists} cache cache' banks banks' OutOfMemory run refused = (lists, rw refused.2 run)
comes_to_renewal {ran = ran} {new = new} {lists = lists} cache cache' banks banks' (NotClean found) run refused =
    let leaves = refused.4 in (
      lists,
      record {
        number = run.number;
        each = λ p s d l less. run_shown (shown_alike offered_before new ran leaves.before p d)
            (shown_alike offered new ran leaves.offered p d) (shown_alike taken new ran leaves.taken p d) (run.each p s d l less);
      },
    )
