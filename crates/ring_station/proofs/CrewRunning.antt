-- From the runs of threads to those of the crew, and to what a run did of the station.
use Rattle.std.proofs.Common.{◌≡◌, ◌<◌, ◌+◌, ℕ, List, [], length, slice_index_or, ap, ◌∙◌, subst, map, refl, zero-add, ◌∷◌, sym}
use Rattle.std.proofs.Common.{ap₂, arith, suc}
use Rattle.std.specs.Global.{Vec}
use Rattle.std.specs.List.{All}
use Rattle.std.proofs.lemmas.List.{get_or_default, length-map}
use Rattle.station_journal.specs.declared.asks.Ask.{Ask}
use Rattle.station_journal.specs.declared.asks.Told.{Told}
use Rattle.ring_station.specs.declared.crew.PortRun.{PortRun}
use Rattle.ring_station.specs.declared.crew.BankRun.{BankRun}
use Rattle.ring_station.specs.PortRuns.{AreHeard, HaveRun, PortsRan}
use Rattle.ring_station.specs.PartRuns.{BanksRan}
use Rattle.ring_station.specs.Crew.{HasNotBegun, EachRanScript, EachIsSame, IsReady, EachIsReady, GoesOn, EachHeard, EachServed}
use Rattle.std.specs.Prelude.{vec_len}
use Rattle.std.proofs.Math.ListN.{get_or-map}
use Rattle.station_parts.specs.declared.port.Port.{Port}
use Rattle.station_parts.specs.declared.bank.BankSide.{BankSide}
use Rattle.station_parts.specs.Ids.{port_id, bank_id}
use Rattle.station_parts.specs.Words.{offered, taken}
use Rattle.station_parts.specs.New.{IsNewPort}
use Rattle.station_parts.specs.Runs.{list_in, HaveConversed}
use Rattle.station_journal.specs.Conversation.{Converses}
use Rattle.ring_station.specs.declared.thread_end.ThreadEnd.{ThreadEnd}
use Rattle.ring_station.specs.Ends.{not_begun}
use Rattle.std.proofs.lemmas.List as lemmas

-- lists that agree at each place in what f shows
pub map_same : {X Y : Type 0} (f : X → Y) (old new : List X) → length new ≡ length old
    → ((p : ℕ) (d : X) → p < length old → f (slice_index_or new p d) ≡ f (slice_index_or old p d))
    → map f new ≡ map f old
map_same f [] [] number each = refl
map_same f (x ∷ xs) (y ∷ ys) number each =
    ap₂ (λ a b. a ∷ b) (each 0 x (omega arith)) (map_same f xs ys (omega arith) (λ p d less. each (suc p) d (omega arith)))
map_same f xs ys number each = absurd (omega arith)

-- an item of a list that is as long as one that has some
pub item_of : {X : Type 0} (xs : List X) {n p : ℕ} → length xs ≡ n → p < n → X
item_of [] e less = absurd (omega arith)
item_of (x ∷ xs) e less = x

-- ---- the ports and banks that come back from their runs

pub ports_back : (scripts : List (Vec Ask)) (turns : ℕ) (runs new : List PortRun) (ports back : List Port) (lists : List (Vec Told))
    (ends : List ThreadEnd) → map (λ r. r.port) runs ≡ ports → EachRanScript scripts turns runs new → back ≡ map (λ r. r.port) new
    → lists ≡ map (λ r. r.list) new → ends ≡ map (λ r. r.end) new → PortsRan scripts turns ports back lists ends
ports_back scripts turns runs new ports back lists ends went ran came took ended =
    let port : PortRun → Port = λ r. r.port in
    rw (← went, came, took, ended) (record {
      number = simp length-map ran.number;
      listed = simp length-map ran.number;
      ended = simp length-map ran.number;
      each = λ p s d l e less.
          let there = simp length-map at less in
          let run : PortRun = record { port = d; talk = (item_of runs refl there).talk; list = l; end = e } in
          rw (
            get_or-map port runs p run,
            get_or-map port new p run,
            get_or-map (λ (r : PortRun). r.list) new p run,
            get_or-map (λ (r : PortRun). r.end) new p run,
          ) (ran.each p s run there);
    })

pub banks_back : (turns : ℕ) (runs new : List BankRun) (banks back : List BankSide) (ends : List ThreadEnd)
    → map (λ r. r.bank) runs ≡ banks → EachServed turns runs new → back ≡ map (λ r. r.bank) new → ends ≡ map (λ r. r.end) new
    → BanksRan turns banks back ends
banks_back turns runs new banks back ends went served came ended =
    let bank : BankRun → BankSide = λ r. r.bank in
    rw (← went, came, ended) (record {
      number = simp length-map served.number;
      ended = simp length-map served.number;
      each = λ b d e less.
          let run : BankRun = record { bank = d; end = e } in
          rw (get_or-map bank runs b run, get_or-map bank new b run, get_or-map (λ (r : BankRun). r.end) new b run)
          (served.each b run (simp length-map at less));
    })

-- ---- what they keep

pub port_ids : {scripts : List (Vec Ask)} {turns : ℕ} {old new : List Port} {lists : List (Vec Told)} {ends : List ThreadEnd}
    → length scripts ≡ length old → PortsRan scripts turns old new lists ends → map port_id new ≡ map port_id old
port_ids {scripts} {old = old} {new = new} {lists = lists} count ran =
    map_same port_id old new ran.number
    (λ p d less. (ran.each p (item_of scripts count less) d (item_of lists ran.listed less) not_begun less).same)

pub bank_ids : {turns : ℕ} {old new : List BankSide} {ends : List ThreadEnd} → BanksRan turns old new ends
    → map bank_id new ≡ map bank_id old
bank_ids {old = old} {new = new} ran = map_same bank_id old new ran.number (λ b d less. (ran.each b d not_begun less).same)

-- since they were made ports that were new before their run have had its conversations
pub have_conversed : (scripts : List (Vec Ask)) (old new : List Port) (lists : List (Vec Told)) → length scripts ≡ length old
    → map port_id new ≡ map port_id old → HaveRun scripts old new lists → All IsNewPort old → HaveConversed scripts new lists
have_conversed scripts old new lists count ids run fresh =
    let alike = simp length-map at (ap length ids) in
    let said : (p : ℕ) (less : p < length old) → Converses (list_in scripts p) (slice_index_or (map offered new) p []) (list_in lists p)
    × (slice_index_or (map taken new) p [] ≡ list_in lists p) =
    λ p less.
    let s = item_of scripts count less in
    let l = item_of lists run.number less in
    let d = item_of old refl less in
    let ran = run.each p s d l less in
    let items : (T : Type 0) → Vec T → List T = λ T v. v.items in
    rw (
      lemmas.get_or-map (items Ask) scripts p s [] (rw count less),
      lemmas.get_or-map (items Told) lists p l [] (rw run.number less),
      lemmas.get_or-map offered new p d [] (rw alike less),
      lemmas.get_or-map taken new p d [] (rw alike less),
      ran.offered_is,
      ran.taken_is,
      (fresh p d less).offered,
      (fresh p d less).taken,
    ) (ran.converses, refl) in
    record {
      number = run.number ∙ sym alike;
      each = λ p l. (said p (rw (← alike) l)).0;
      took = λ p l. (said p (rw (← alike) l)).1;
    }

-- as many runs as parts
pub enlisted_count : {X Y : Type 0} (f : X → Y) (runs : Vec X) (parts : Vec Y) → map f runs.items ≡ parts.items
    → vec_len runs ≡ vec_len parts
enlisted_count f runs parts e = omega (arith, simp length-map at (ap length e), runs.ok.0, parts.ok.0)

-- ---- the runs of the crew

-- the lists that came back of their runs
pub lists_heard : (HasHeard : ℕ → Told → Type 0) (runs : List PortRun) (lists : List (Vec Told)) → lists ≡ map (λ r. r.list) runs
    → EachHeard HasHeard 0 runs → AreHeard HasHeard lists
lists_heard HasHeard runs lists took heard = rw took (λ p l less.
    let there = simp length-map at less in
    let run = item_of runs refl there in
    rw (lemmas.get_or-map (λ (r : PortRun). r.list) runs p run l there) (rw zero-add at (heard p run there)))

-- the ports of a thread, at one of its places: its script, and its run as it stood at first
pub ready_now : (scripts : List (Vec Ask)) (start turn k : ℕ) (old now : List PortRun) (e : Vec Ask) (f : PortRun) (script : List Ask)
    → script ≡ (slice_index_or scripts (start + k) e).items → EachIsReady scripts start turn old → k < length old
    → ((d : PortRun) → slice_index_or now k d ≡ slice_index_or old k d) → IsReady script turn (slice_index_or now k f)
ready_now scripts start turn k old now e f script is ready less same = rw (is, same f) (ready.each k e f less)

pub goes_on_at : (scripts : List (Vec Ask)) (p turn : ℕ) (e : Vec Ask) (script : List Ask) (old new : PortRun)
    → script ≡ (slice_index_or scripts p e).items → p < length scripts → GoesOn script turn old new → (s : Vec Ask)
    → GoesOn (slice_index_or scripts p s).items turn old new
goes_on_at scripts p turn e script old new is less h s =
    subst (λ l. GoesOn l turn old new) (is ∙ ap (λ (v : Vec Ask). v.items) (get_or_default scripts p e s less)) h

pub still_not_begun : (old reserved : List PortRun) → EachIsSame old reserved → All HasNotBegun old → All HasNotBegun reserved
still_not_begun old reserved same begun =
    λ p d less.
    let there = rw same.number at less in
    let run = same.each p d there in
    let before = begun p d there in
    record {
      list = run.list ∙ before.list;
      end = run.end ∙ before.end;
      phase = rw run.talk before.phase;
      owed = rw run.talk before.owed;
      talked = λ script. rw run.talk (before.talked script);
    }
