-- Pieces of scripts, and their runs one behind the other: one more, the last one, and one that stops.
use Rattle.std.proofs.Common.{◌≡◌, ℕ, suc, ◌+◌, ◌*◌, ◌<◌, ◌≤◌, ◌⊎◌, inl, inr, List, [], ◌∷◌, ◌++◌, length, map, drop, slice_index_or, refl}
use Rattle.std.proofs.Common.{sym, ap, ◌∙◌, subst, arith, add-one, append_assoc, zero, take}
use Rattle.std.specs.Prelude.{max, false}
use Rattle.std.specs.Global.{Vec}
use Rattle.std.specs.Int.{div_ceil}
use Rattle.std.specs.List.{All, fold}
use Rattle.std.proofs.Math.Nat.{suc-mul, zero-mul, lt_of_mul-lt-mul_left, mul-le-mul_right}
use Rattle.std.proofs.lemmas.List.{append-nil, drop-drop, get_or-map, length-map, length_push, take_all}
use Rattle.std.proofs.lemmas.List.Elements.{All-nil, All-cons, All-append, All-from_get_or}
use Rattle.station_journal.specs.declared.asks.Ask.{Ask}
use Rattle.station_journal.specs.declared.asks.Told.{Told}
use Rattle.station_parts.specs.declared.port.Port.{Port}
use Rattle.station_parts.specs.declared.parts.Station.{Station}
use Rattle.station_parts.specs.Ids.{port_id}
use Rattle.station_parts.specs.Words.{offered, offered_before, has_ended, earlier_of, held_of}
use Rattle.ring_station.specs.declared.fault.SegmentFault.{SegmentFault}
use Rattle.ring_station.specs.declared.segment.Segment.{Segment}
use Rattle.ring_station.specs.Segments.{EachIsHeard, HaveRunOn, HandsOut, piece_behind, HandsOutNext, RunsNext, StopsNext, MayBeLost}
use Rattle.ring_station.specs.Segments.{pieces_of, HasRunPieces, lists_at, journals_of, longest_of, RunsInSegments, StopsBehind}
use Rattle.ring_station.specs.Segments.{EachKeepsTo, RunsInTurns, StopsInTurns, FailsBehind, FailsNext, piece_count, joined}
use Rattle.ring_station.specs.PortRuns.{AreHeard}
use Rattle.ring_station.specs.Within.{KeepsTo}
use Rattle.ring_station.proofs.CrewRunning.{item_of}
use Rattle.ring_station.proofs.Within.{keeps_self, keeps_on}
use Rattle.std.proofs.Math.Seq.{take-add}
use Rattle.std.proofs.lemmas.Grind.{div_ceil_times}

-- ---- all of a script

pieces_joined : (asks : ℕ) (script : List Ask) (n : ℕ) → joined (pieces_of asks script n) ≡ take (n * asks) script
pieces_joined asks script zero = rw (zero-mul asks) refl
pieces_joined asks script (suc n) =
    ap (λ rest. take asks script ++ rest) (pieces_joined asks (drop asks script) n)
    ∙ sym (take-add asks _ script) ∙ ap (λ k. take k script) (omega (arith, suc-mul n asks))

longest_so_far : List (Vec Ask) → ℕ → ℕ
longest_so_far scripts most = fold (λ longest script. max longest (length script.items)) most scripts

most_within : (scripts : List (Vec Ask)) (most : ℕ) → most ≤ longest_so_far scripts most
unfolding longest_so_far
most_within [] most = omega arith
most_within (script ∷ rest) most = let h = most_within rest (max most (length script.items)) in omega arith

each_within : (scripts : List (Vec Ask)) (most p : ℕ) (d : Vec Ask) → p < length scripts
    → length (slice_index_or scripts p d).items ≤ longest_so_far scripts most
unfolding longest_so_far
each_within [] most p d less = absurd (omega arith)
each_within (script ∷ rest) most zero d less = let h = most_within rest (max most (length script.items)) in omega arith
each_within (script ∷ rest) most (suc p) d less = each_within rest _ p d (omega arith)

pub all_at : {X : Type 0} (P : X → Type 0) (xs : List X) → ((p : ℕ) (d : X) → p < length xs → P (slice_index_or xs p d)) → All P xs
all_at P [] h = All-nil P
all_at P (x ∷ xs) h = All-from_get_or P (x ∷ xs) x (λ p less. h p x less)

-- so many pieces are all of each script
pub scripts_whole : (asks : ℕ) (scripts : List (Vec Ask)) (n : ℕ) → longest_of scripts ≤ n * asks
    → All (λ script. joined (pieces_of asks script.items n) ≡ script.items) scripts
unfolding longest_so_far
scripts_whole asks scripts n enough =
    all_at (λ (script : Vec Ask). joined (pieces_of asks script.items n) ≡ script.items) scripts
    (λ p d less.
    let script = (slice_index_or scripts p d).items in
    pieces_joined asks script n ∙ take_all _ script (let h = each_within scripts 0 p d less in omega arith))

-- ---- how many there are

pub enough_pieces : (asks longest : ℕ) → 0 < asks → longest ≤ max (div_ceil longest asks) 1 * asks
enough_pieces asks longest some =
    let bounds = div_ceil_times longest asks some in
    omega (arith, mul-le-mul_right {m = div_ceil longest asks} {n = max (div_ceil longest asks) 1} asks (omega arith))

-- behind so many pieces there is nothing, and behind all but the last there was more, or none was cut yet
pub count_is : (asks longest begin n : ℕ) → 0 < asks → begin + asks ≡ n * asks → (begin ≡ 0) ⊎ (begin < longest)
    → longest ≤ begin + asks → n ≡ max (div_ceil longest asks) 1
count_is asks longest begin n some at more enough =
    let bounds = div_ceil_times longest asks some in
    let few : div_ceil longest asks < suc n = lt_of_mul-lt-mul_left asks (omega arith) in
    let one : 0 < n = lt_of_mul-lt-mul_left asks (omega arith) in
    elim more [
      | inl none ↦ let last : n < 2 = lt_of_mul-lt-mul_left asks (omega arith) in omega arith
      | inr less ↦ let last : n < suc (div_ceil longest asks) = lt_of_mul-lt-mul_left asks (omega arith) in omega arith
    ]

-- ---- one run, of pieces that were cut

pub hands_out_next : {begin asks : ℕ} {scripts pieces : List (Vec Ask)} {old new : Station} {segment : Segment}
    → map (λ p. p.items) pieces ≡ map (λ s. piece_behind begin asks s.items) scripts → length scripts ≡ length old.ports.items
    → HaveRunOn pieces old.ports.items new.ports.items segment.lists.items
    → HandsOut old.cache new.cache segment.journal.items → HandsOutNext begin asks scripts old new segment
hands_out_next {begin = begin} {asks = asks} {scripts = scripts} {pieces = pieces} cut count run journal =
    let number = simp length-map at (ap length cut) in
    record {
      ran = record {
        number = run.number;
        each = λ p s d l less.
            let here : p < length scripts = rw count less in
            let is =
            sym (get_or-map (λ (v : Vec Ask). v.items) pieces p s [] (rw number here)) ∙ ap (λ l. slice_index_or l p []) cut
            ∙ get_or-map (λ (v : Vec Ask). piece_behind begin asks v.items) scripts p s [] here in
            rw (← is) (run.each p s d l less);
      };
      journal = journal;
    }

-- segments of which the gate has heard each telling: none, one, and two lists of them that were kept
module _ (HasHeard : ℕ → Told → Type 0) where
  abbrev IsHeard : Segment → Type 0
  IsHeard segment = AreHeard HasHeard segment.lists.items

  pub none_heard : EachIsHeard HasHeard []
  none_heard = All-nil IsHeard

  pub one_heard : (segment : Segment) → AreHeard HasHeard segment.lists.items → EachIsHeard HasHeard (segment ∷ [])
  one_heard segment heard = All-cons IsHeard segment [] heard none_heard

  pub both_heard : {K : Type 0} (kept : K → List Segment → K → Type 0) (a b c : K)
      → ((xs ys : List Segment) → kept a xs b → kept b ys c → kept a (xs ++ ys) c) → (xs ys : List Segment)
      → kept a xs b × EachIsHeard HasHeard xs → kept b ys c × EachIsHeard HasHeard ys
      → kept a (xs ++ ys) c × EachIsHeard HasHeard (xs ++ ys)
  both_heard kept a b c more xs ys first second = (more xs ys first.0 second.0, All-append IsHeard xs ys first.1 second.1)

-- ---- the runs so far

-- the pieces before this place were run, and their segments handed out and kept; each run kept to its turns
pub record HasComeTo (begin asks turns : ℕ) (scripts : List (Vec Ask)) (old new : Station)
    (kept : List Segment → Type 0) : Type 0
  where
    pub segments : List Segment
    pub begin_is : begin ≡ length segments * asks
    pub kept_is : kept segments
    pub each : EachKeepsTo turns 0 asks scripts old new segments

-- ---- runs, one behind the other

module _ (turns asks : ℕ) (scripts : List (Vec Ask)) where
  -- one more
  each_keeps_more : (begin place : ℕ) (first old new : Station) (segments : List Segment) (segment : Segment)
      → place ≡ begin + length segments * asks → EachKeepsTo turns begin asks scripts first old segments
      → HandsOutNext place asks scripts old new segment → KeepsTo turns old new
      → EachKeepsTo turns begin asks scripts first new (segments ++ segment ∷ [])
  each_keeps_more begin place first old new [] segment at none next within =
      let here : place ≡ begin = omega (arith, zero-mul asks) in
      (new, rw (← here, ← none) next, rw (← none) within, refl)
  each_keeps_more begin place first old new (one ∷ more) segment at h next within = (
    h.0,
    h.1,
    h.2,
    each_keeps_more (begin + asks) place h.0 old new more segment (omega (arith, suc-mul (length more) asks)) h.3 next within,
  )

  -- what they make of the station, and each port of the rest of its script
  all_ran : (begin : ℕ) (old new : Station) (segments : List Segment) → EachKeepsTo turns begin asks scripts old new segments
      → record {
        listed : All (λ segment. length segment.lists.items ≡ length old.ports.items) segments;
        handed_out : earlier_of new.cache ≡ earlier_of old.cache ++ journals_of segments;
        keeps : KeepsTo (length segments * turns) old new;
        each : (p : ℕ) (s : Vec Ask) (d : Port) (l : Vec Told) → p < length old.ports.items
            → HasRunPieces (pieces_of asks (drop begin (slice_index_or scripts p s).items) (length segments))
            (slice_index_or old.ports.items p d) (slice_index_or new.ports.items p d) (lists_at p l segments);
      }
  all_ran begin old new [] none = rw none (record {
    listed = All-nil _;
    handed_out = sym (append-nil _);
    keeps = keeps_self _ old;
    each = λ p s d l less. record { said = []; converses = tt; offered_is = sym (append-nil _); taken_is = sym (append-nil _) };
  })
  all_ran begin old new (segment ∷ more) h =
      let rest = all_ran (begin + asks) h.0 new more h.3 in
      record {
        listed = All-cons (λ (it : Segment). length it.lists.items ≡ length old.ports.items) segment more h.1.ran.number
            (rw (← h.2.ports) rest.listed);
        handed_out = rw (rest.handed_out, h.1.journal.earlier, append_assoc);
        keeps = keeps_on (omega (arith, suc-mul (length more) turns)) h.2 rest.keeps;
        each = λ p s d l less.
            let one = h.1.ran.each p s d l less in
            let others = rest.each p s d l (rw h.2.ports less) in
            record {
              said = one.said ∷ others.said;
              converses = (one.converses, rw (drop-drop asks begin (slice_index_or scripts p s).items) others.converses);
              offered_is = rw (others.offered_is, one.offered_is, append_assoc);
              taken_is = rw (others.taken_is, one.taken_is, append_assoc);
            };
      }

  -- behind the last one the journal is empty, and each port may offer again
  settled : (begin : ℕ) (old new : Station) (segments : List Segment) → 0 < length segments
      → length scripts ≡ length old.ports.items → EachKeepsTo turns begin asks scripts old new segments
      → (held_of new.cache ≡ []) × All (λ port. (offered_before port ≡ offered port) × (has_ended port ≡ false)) new.ports.items
  settled begin old new [] some count none = absurd (omega arith)
  settled begin old new (segment ∷ []) some count h = rw h.3 (
    h.1.journal.held,
    all_at (λ port. (offered_before port ≡ offered port) × (has_ended port ≡ false)) h.0.ports.items
        (λ p d less.
        let there = rw h.2.ports at less in
        let run = h.1.ran.each p (item_of scripts count there) d (item_of segment.lists.items h.1.ran.number there) there in
        (run.before, run.again)),
  )
  settled begin old new (segment ∷ next ∷ more) some count h =
      settled (begin + asks) h.0 new (next ∷ more) (omega arith) (count ∙ sym h.2.ports) h.3

  module _ {first new : Station} {all : List Segment → Type 0} where
    -- behind one more there are no asks
    pub turns_to_the_end : {begin : ℕ} → 0 < asks → (begin ≡ 0) ⊎ (begin < longest_of scripts) → longest_of scripts ≤ begin + asks
        → HasComeTo (begin + asks) asks turns scripts first new all → RunsInTurns turns asks scripts first new all
    turns_to_the_end {begin} some more enough come = record {
      segments = come.segments;
      kept_is = come.kept_is;
      number = count_is asks _ begin _ some come.begin_is more enough;
      each = come.each;
    }

    -- so many turns keep them to as many as there are pieces
    pub keeps_in_all : RunsInTurns turns asks scripts first new all → KeepsTo (piece_count asks scripts * turns) first new
    keeps_in_all runs = rw (← runs.number) (all_ran 0 first new runs.segments runs.each).keeps

    pub runs_in_segments : 0 < asks → length scripts ≡ length first.ports.items → RunsInTurns turns asks scripts first new all
        → RunsInSegments asks scripts first new all
    runs_in_segments some count runs =
        let ran = all_ran 0 first new runs.segments runs.each in
        let end = settled 0 first new runs.segments (omega (arith, runs.number)) count runs.each in
        record {
          segments = runs.segments;
          kept_is = runs.kept_is;
          number = runs.number;
          ran = record { listed = ran.listed; each = ran.each };
          whole = scripts_whole asks scripts _ (rw runs.number (enough_pieces asks _ some));
          journals = record { earlier = ran.handed_out; held = end.0 };
          again = end.1;
        }

-- ---- one run more, and one that stops

module _ {begin asks turns : ℕ} {scripts : List (Vec Ask)} {first old new : Station}
    {before since all : List Segment → Type 0}
  where
    pub come_further : HasComeTo begin asks turns scripts first old before → RunsNext begin asks scripts old new since
        → KeepsTo turns old new → ((xs ys : List Segment) → before xs → since ys → all (xs ++ ys))
        → HasComeTo (begin + asks) asks turns scripts first new all
    come_further come next within both = record {
      segments = come.segments ++ next.segment ∷ [];
      begin_is = rw (length_push come.segments next.segment, add-one (length come.segments))
          (omega (arith, come.begin_is, suc-mul (length come.segments) asks));
      kept_is = both _ _ come.kept_is next.kept_is;
      each = each_keeps_more turns asks scripts 0 begin first old new come.segments next.segment (omega (arith, come.begin_is)) come.each
          next.handed_out within;
    }

    -- one that stops
    pub stops_there : {fault : SegmentFault} → HasComeTo begin asks turns scripts first old before
        → StopsNext begin asks scripts old new since fault → KeepsTo turns old new
        → map port_id old.ports.items ≡ map port_id first.ports.items
        → map port_id new.ports.items ≡ map port_id old.ports.items → ((xs ys : List Segment) → before xs → since ys → all (xs ++ ys))
        → StopsBehind asks scripts first new all fault × StopsInTurns turns asks scripts first new all fault
    stops_there {fault} come stop within same still both =
        let segments = come.segments in
        let kept : all segments = rw append-nil at (both segments [] come.kept_is stop.kept_is) in
        let stops = λ (lost : List Segment) (lost_is : MayBeLost fault lost) (renewed : Station)
        (each : EachKeepsTo turns 0 asks scripts first renewed (segments ++ lost)) (since : KeepsTo turns renewed new)
        (ids : map port_id renewed.ports.items ≡ map port_id first.ports.items) (earlier : earlier_of new.cache ≡ earlier_of renewed.cache).
        let ran = all_ran turns asks scripts 0 first renewed (segments ++ lost) each in
        let both : StopsBehind asks scripts first new all fault × StopsInTurns turns asks scripts first new all fault = (
          record {
            segments = segments;
            lost = lost;
            kept_is = kept;
            lost_is = lost_is;
            handed_out = earlier ∙ ran.handed_out;
            ports = renewed.ports.items;
            same = ids;
            ran = record { listed = ran.listed; each = ran.each };
          },
          record {
            segments = segments;
            lost = lost;
            kept_is = kept;
            lost_is = lost_is;
            renewed = renewed;
            each = each;
            since = since;
          },
        ) in
        both in
        elim stop.handed_out [
          | inl unmoved ↦ stops [] tt old (rw append-nil come.each) within same unmoved
          | inr lost ↦
              stops (lost.0 ∷ []) lost.1.1 new
              (each_keeps_more turns asks scripts 0 begin first old new segments lost.0 (omega (arith, come.begin_is)) come.each lost.1.0
              within)
              (keeps_self turns new) (still ∙ same) refl
        ]

-- and why
pub fails_there : {begin asks turns : ℕ} {scripts : List (Vec Ask)} {first old new : Station}
    {before : List Segment → Type 0} {fault : SegmentFault} → HasComeTo begin asks turns scripts first old before
    → FailsNext begin asks turns scripts old new fault → FailsBehind turns asks scripts first new fault
fails_there {asks = asks} {turns = turns} {scripts = scripts} {old = old} {new = new} {fault = fault} come fails = record {
  segments = come.segments;
  renewed = old;
  each = come.each;
  fails = subst (λ b. FailsNext b asks turns scripts old new fault) come.begin_is fails;
}
