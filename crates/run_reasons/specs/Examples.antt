-- Worked examples, each checked by computing.
use Rattle.std.specs.Prelude.{◌≡◌, ℕ, ◌+◌, true, false, Some, None, List, [], ◌∷◌}
use Rattle.std.proofs.Common.{refl}
use Rattle.flat_model.specs.declared.Word.{Word}
use Rattle.flat_model.specs.declared.Cause.TheVariants.{OutOfRange, TagInUse, NoRegister, StackFull}
use Rattle.flat_model.specs.declared.Event.{Event}
use Rattle.flat_model.specs.declared.Event.TheVariants.{Load, Store, Drain, Take}
use Rattle.flat_model.specs.declared.Answer.{Answer}
use Rattle.flat_model.specs.declared.Answer.TheVariants.{Accepted, Value, Refused}
use Rattle.flat_model.specs.Words.{zero_word, has, merged}
use Rattle.run_reasons.specs.Origins.{Origins, beginning, origins_after, stored_in}
use Rattle.run_reasons.specs.Pasts.{overwritten_at, overwritten_in, pasts_of}
use Rattle.run_reasons.specs.Reasons.{reason_of}
use Rattle.run_reasons.specs.declared.reason.Reason.TheVariants.{NeverAnswered, NeverRefused, Outside, Inside, TagInUse as InUse}
use Rattle.run_reasons.specs.declared.reason.Reason.TheVariants.{NeverLoaded, Taken, WrongWord}

abbrev word : ℕ → ℕ → ℕ → ℕ → Word
word a b c d = record { b0 = a; b1 = b; b2 = c; b3 = d }

-- what these events and answers leave of two words of zeros, of which the first is line n
abbrev after : ℕ → Origins → List (Event × Answer) → Origins
after n o [] = o
after n o (step ∷ steps) = after (n + 1) (origins_after o n step.0 step.1) steps

-- byte 0 of word 1 is stored in lines 1 and 2, loaded under tag 7 in line 3, and stored again in line 4
abbrev stored_again : Origins
stored_again = after 1 (beginning (zero_word ∷ zero_word ∷ [])) (
    (Store 1 (word 10 0 0 13) (record { 0 = 9 }), Accepted) ∷ (Store 1 (word 11 0 0 0) (record { 0 = 1 }), Accepted) ∷ (Load 7 1, Accepted)
    ∷ (Store 1 (word 12 14 0 0) (record { 0 = 3 }), Accepted) ∷ []
    )

-- The load is owed what stood there in line 3. Of the bytes that came, the first is that of line 4, and the second is none
-- that a last store put there, nor any other.
wrong_word : reason_of stored_again (Take 0) (Value 7 (word 12 1 0 13)) ≡ WrongWord (record {
  tag = 7;
  load = record { line = 3; at = 1; word = word 11 0 0 13; stores = record { b0 = 2; b1 = 0; b2 = 0; b3 = 1 } };
  got = word 12 1 0 13;
  later = record { b0 = 4; b1 = 0; b2 = 0; b3 = 0 };
  past = record { b0 = None; b1 = None; b2 = None; b3 = None };
  stood_since = false;
})
unfolding has merged stored_in overwritten_at overwritten_in pasts_of
wrong_word = refl

-- The first byte is the one of line 1, which line 2 overwrote, and of the others the second and third are the zeros that memory
-- began with: line 4 overwrote one of them.
stale_word : reason_of stored_again (Take 0) (Value 7 (word 10 0 0 0)) ≡ WrongWord (record {
  tag = 7;
  load = record { line = 3; at = 1; word = word 11 0 0 13; stores = record { b0 = 2; b1 = 0; b2 = 0; b3 = 1 } };
  got = word 10 0 0 0;
  later = record { b0 = 0; b1 = 0; b2 = 0; b3 = 0 };
  past = record {
    b0 = Some (record { put = 1; by = 2 });
    b1 = Some (record { put = 0; by = 4 });
    b2 = None;
    b3 = Some (record { put = 0; by = 1 });
  };
  stood_since = false;
})
unfolding has merged stored_in overwritten_at overwritten_in pasts_of
stale_word = refl

-- Word 1 of a memory in which each word holds its own address: byte 0 is loaded before line 2 stores another one, and line 3
-- tells that byte too early. The byte that is owed is no store's.
abbrev addressed : Origins
addressed = after 1 (beginning (zero_word ∷ word 1 0 0 0 ∷ []))
    ((Load 7 1, Accepted) ∷ (Store 1 (word 9 0 0 0) (record { 0 = 1 }), Accepted) ∷ [])

of_the_image : reason_of addressed (Take 0) (Value 7 (word 9 0 0 0)) ≡ WrongWord (record {
  tag = 7;
  load = record { line = 1; at = 1; word = word 1 0 0 0; stores = record { b0 = 0; b1 = 0; b2 = 0; b3 = 0 } };
  got = word 9 0 0 0;
  later = record { b0 = 2; b1 = 0; b2 = 0; b3 = 0 };
  past = record { b0 = None; b1 = None; b2 = None; b3 = None };
  stood_since = true;
})
unfolding has merged stored_in overwritten_at overwritten_in pasts_of
of_the_image = refl

-- Which words stood in word 1 for each tag: two loads before and between three stores, and one that is taken.
abbrev waited : Origins
waited = after 1 (beginning (zero_word ∷ zero_word ∷ [])) (
    (Load 7 1, Accepted) ∷ (Load 5 1, Accepted) ∷ (Store 1 (word 1 2 3 4) (record { 0 = 3 }), Accepted) ∷ (Load 8 1, Accepted)
    ∷ (Store 0 (word 9 9 9 9) (record { 0 = 15 }), Accepted) ∷ (Store 1 (word 5 6 7 8) (record { 0 = 12 }), Accepted)
    ∷ (Take 0, Value 5 zero_word) ∷ (Store 1 (word 0 0 0 1) (record { 0 = 8 }), Accepted) ∷ []
    )

since_the_first : waited.since 7 ≡ word 1 2 0 0 ∷ word 1 2 7 8 ∷ word 1 2 7 1 ∷ []
unfolding has merged
since_the_first = refl

since_the_second : waited.since 8 ≡ word 1 2 7 8 ∷ word 1 2 7 1 ∷ []
unfolding has merged
since_the_second = refl

-- nothing is owed under tag 5 any longer
since_the_value : waited.since 5 ≡ []
since_the_value = refl

in_use : reason_of stored_again (Load 7 0) (Refused NoRegister) ≡ InUse 7 3
unfolding has merged stored_in overwritten_at overwritten_in
in_use = refl

never_loaded : reason_of stored_again (Take 0) (Value 8 (word 0 0 0 0)) ≡ NeverLoaded 8
unfolding has merged stored_in overwritten_at overwritten_in
never_loaded = refl

taken : reason_of (after 5 stored_again ((Take 0, Value 7 (word 11 0 0 13)) ∷ [])) (Load 7 0) (Refused TagInUse) ≡ Taken 7 5
unfolding has merged stored_in overwritten_at overwritten_in
taken = refl

outside : reason_of stored_again (Load 7 2) Accepted ≡ Outside 2 2
unfolding has merged stored_in overwritten_at overwritten_in
outside = refl

inside : reason_of stored_again (Load 8 1) (Refused OutOfRange) ≡ Inside 1 2
unfolding has merged stored_in overwritten_at overwritten_in
inside = refl

never_answered : reason_of stored_again Drain Accepted ≡ NeverAnswered
never_answered = refl

never_refused : reason_of stored_again Drain (Refused StackFull) ≡ NeverRefused
never_refused = refl
