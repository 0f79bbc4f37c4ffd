-- Rows of lines, of which one was used.
use Rattle.std.proofs.Common.{◌≡◌, ℕ, ◌+◌, ◌<◌, ◌≤◌, List, [], length, slice_index_or, slice_set, append-nil, arith}
use Rattle.std.proofs.Math.Seq.{map-set_same}
use Rattle.rtrb.specs.Ring.{sent, known_free, SameProducer, SameConsumer, ProducerLooked, ConsumerLooked}
use Rattle.station_parts.specs.declared.row.Line.{Line}
use Rattle.station_parts.specs.Rings.{pushes_to, pops_from, HasPopped}
use Rattle.station_parts.specs.Rows.{sent_at, free_at, taken_at, OnlySent, LinesLook, IsCounted}
use Rattle.station_parts.proofs.Rows.{Popper, Pusher, here_after, there_after, here_before, each_place}

pub pushes_kept : {T : Type 0} (a b : Pusher T) → SameProducer a b → pushes_to b ≡ pushes_to a
pushes_kept a b same = grind arith

pub pops_kept : {T : Type 0} (a b : Popper T) → SameConsumer a b → pops_from b ≡ pops_from a
pops_kept a b same = grind arith

-- an end that looked has popped nothing
pub pops_looked : {T : Type 0} (a b : Popper T) → ConsumerLooked a b → HasPopped a b []
pops_looked a b looked = grind (arith, pops_kept, append-nil)

module _ (xs : List Line) (bank : ℕ) (x y : Line) (h : bank < length xs) (at : x ≡ slice_index_or xs bank x) where
  abbrev ys : List Line
  ys = slice_set xs bank y

  same_sent : sent y.ring ≡ sent x.ring → (b : ℕ) → sent_at ys b ≡ sent_at xs b
  same_sent same = grind (arith, each_place, here_after, here_before, there_after)

  same_taken : y.taken ≡ x.taken → (b : ℕ) → taken_at ys b ≡ taken_at xs b
  same_taken same = grind (arith, each_place, here_after, here_before, there_after)

  more_free : known_free x.ring ≤ known_free y.ring → (b : ℕ) → free_at xs b ≤ free_at ys b
  more_free more = grind (arith, each_place, here_before, here_after, there_after)

  -- it has sent
  pub line_sent : SameProducer x.ring y.ring → y.taken ≡ x.taken → OnlySent xs ys
  line_sent same taken = grind (arith, map-set_same, pushes_kept, same_taken)

  -- it has looked
  pub line_looks : ProducerLooked x.ring y.ring → y.taken ≡ x.taken → LinesLook xs ys
  line_looks looked taken = grind (arith, line_sent, same_sent, more_free)

  -- it has counted a word
  pub line_counted : y.ring ≡ x.ring → y.taken ≡ x.taken + 1 → IsCounted xs ys bank
  line_counted same taken = grind (arith, map-set_same, same_sent, each_place, here_after, here_before, there_after)

pub looks_none : (xs : List Line) → LinesLook xs xs
looks_none xs = grind arith

pub looks_steps : (xs ys zs : List Line) → LinesLook xs ys → LinesLook ys zs → LinesLook xs zs
looks_steps xs ys zs p q = grind arith
