-- How a reading goes on and ends.
use Rattle.std.proofs.Common.{◌≡◌, ◌≢◌, ℕ, ◌+◌, ◌-◌, ◌<◌, ◌≤◌, ◌⊎◌, Option, None, List, [], ◌∷◌, ◌++◌, length, take, drop, get_or}
use Rattle.std.proofs.Common.{get_or-take, drop-cons, add-one, take-append-drop, length-take, length-drop, length-append, append_assoc}
use Rattle.std.proofs.Common.{refl, sym, ◌∙◌, ap, subst, arith, inl, inr, Err}
use Rattle.std.proofs.Math.Seq.{take-append-add}
use Rattle.std.proofs.lemmas.List.{take-append-le}
use Rattle.trace_text.specs.declared.lines.LineFault.{LineFault}
use Rattle.trace_text.specs.declared.lines.LineFault.TheVariants.{TooLong, NotEnded}
use Rattle.trace_text.specs.declared.reading.Uncollected.TheVariants as miss
use Rattle.trace_text.specs.declared.reading.Stop.{Stop}
use Rattle.trace_text.specs.declared.reading.Stop.TheVariants.{Fault, Halted}
use Rattle.trace_text.specs.declared.fault.TraceFault.{TraceFault}
use Rattle.trace_text.specs.declared.fault.TraceFault.TheVariants as fault
use Rattle.trace_text.specs.Streams.{HasNoEnd, Came}
use Rattle.trace_text.specs.Reading.{joined_texts, IsGood, BeginsFaulty, ReadIntoWithin, ReadStopsWithin}
use Rattle.trace_text.specs.Collecting.{Misses, ReadsWithin, Collected, AllCollected, Misread, Reading, Filled, BegunFault, AfterPause}
use Rattle.trace_text.proofs.Serving.{moved_more}
use Rattle.trace_text.proofs.LineTexts.{begins_with, good_then, good_more, good_one}

-- ---- the first LF

-- the first LF of these bytes is here
abbrev pub IsEnd : List ℕ → ℕ → Type 0
IsEnd rest at = (at < length rest) × (get_or rest at 0 ≡ 10) × ((k : ℕ) → k < at → get_or rest k 0 ≢ 10)

line_split : (rest : List ℕ) (at : ℕ) → IsEnd rest at → rest ≡ take at rest ++ (10 ∷ drop (at + 1) rest)
line_split rest at h = grind (arith, add-one, drop-cons, take-append-drop)

front_has_none : (rest : List ℕ) (at : ℕ) → IsEnd rest at → HasNoEnd (take at rest)
front_has_none rest at h k lt e = grind (arith, length-take, get_or-take)

-- the line before the first LF
good_front : (f : List ℕ → Option LineFault) (most : ℕ) (rest text : List ℕ) (at : ℕ) → IsEnd rest at → at ≤ most → text ≡ take at rest
    → f text ≡ None → IsGood f most text
good_front f most rest text at h short same none = grind (arith, length-take, front_has_none)

whole_line : (rest text rest' : List ℕ) (at : ℕ) → IsEnd rest at → text ≡ take at rest → rest' ≡ drop (at + 1) rest
    → rest ≡ text ++ (10 ∷ rest')
whole_line rest text rest' at h same behind = grind (arith, line_split)

progress : (texts : List (List ℕ)) (bytes rest : List ℕ) → bytes ≡ joined_texts texts ++ rest → (0 < length texts) ⊎
    (length bytes ≡ length rest)
progress [] bytes rest e = inr (ap length e)
progress (t ∷ ts) bytes rest e = inl (omega arith)

-- ---- lines that were taken, and a line at which the reading stops

module _ {C : Type 0} {f : List ℕ → Option LineFault} {went : C → List (List ℕ) → C → Type 0} {most limit : ℕ} where
  pub collected_line : {c d e : C} {n m : ℕ} {bytes rest text : List ℕ} (at : ℕ) (rest' : List ℕ)
      → Collected f went most limit c n bytes rest d m → IsEnd rest at → at ≤ most → text ≡ take at rest → f text ≡ None
      → ((start : C) (texts : List (List ℕ)) → m + 1 ≡ length texts + 1 → went start texts d → went start (texts ++ text ∷ []) e)
      → m < limit → rest' ≡ drop (at + 1) rest → Collected f went most limit c n bytes rest' e (m + 1)
  collected_line {e = e} {rest = rest} {text = text} at rest' p h short same none kept lt behind = record {
    texts = p.texts ++ text ∷ [];
    good = good_then p.good
        (good_one text rest' rest (good_front f most rest text at h short same none) (whole_line rest text rest' at h same behind));
    number = grind (arith, p.number, length-append);
    within = omega arith;
    kept = λ start front len held.
        subst (λ l. went start l e) (append_assoc front p.texts (text ∷ []))
        (kept start (front ++ p.texts) (omega (arith, len, p.number, length-append front p.texts)) (p.kept start front len held));
  }

  -- more lines have been taken, or no whole line was there
  pub all_progress : {c d : C} {n m left : ℕ} {bytes : List ℕ}
      → AllCollected f went most limit c n bytes left d m → (n < m) ⊎ (left ≡ length bytes)
  all_progress {left = left} {bytes = bytes} p = grind (arith, progress, p.collected.texts, length-drop)

  module _ (stopped : C → List ℕ → C → Type 0) where
    pub misread_said : {c d d' : C} {n m : ℕ} {bytes rest text : List ℕ} (at : ℕ) (e : LineFault)
        → Collected f went most limit c n bytes rest d m → IsEnd rest at → at ≤ most → text ≡ take at rest
        → Misses stopped (f text) d text d' (miss.Fault e) → m < limit
        → Misread f went stopped most limit c n bytes d' (Fault (fault.Line (m + 1) e))
    misread_said {m = m} {rest = rest} at e p h short same missed room = (
      rest,
      m,
      rw missed.2 p,
      refl,
      room,
      begins_with f most (take at rest) (drop (at + 1) rest) rest e (line_split rest at h) (omega (arith, length-take at rest))
          (front_has_none rest at h) missed.1 (ap f (sym same) ∙ missed.0),
    )

    pub misread_halted : {c d d' : C} {n m : ℕ} {bytes rest text : List ℕ} (at : ℕ)
        → Collected f went most limit c n bytes rest d m → IsEnd rest at → at ≤ most → text ≡ take at rest
        → Misses stopped (f text) d text d' miss.Halted → m < limit → Misread f went stopped most limit c n bytes d' Halted
    misread_halted {d = d} {m = m} {rest = rest} {text = text} at p h short same missed room = (
      rest,
      m,
      d,
      p,
      room,
      (
        text,
        drop (at + 1) rest,
        whole_line rest text (drop (at + 1) rest) at h same refl,
        good_front f most rest text at h short same missed.0,
        missed.1,
      ),
    )

    -- the fault of a line that began, whatever comes behind it
    pub misread_begun : {c d : C} {n m : ℕ} {bytes rest : List ℕ} (left : ℕ) (e : TraceFault)
        → Collected f went most limit c n bytes rest d m → HasNoEnd rest → left ≡ length rest → BegunFault m left most limit e
        → Misread f went stopped most limit c n bytes d (Fault e)
    misread_begun {m = m} {rest = rest} left fault.TooManyLines p none same h = (rest, m, p, h.0, omega (arith, same, h.1))
    misread_begun {m = m} {rest = rest} left (fault.Line number TooLong) p none same h =
        (rest, m, p, h.0, h.1, (omega (arith, same, h.2), λ k lt e. grind (arith, length-take, get_or-take, none k)))
    misread_begun left e p none same h = absurd h

-- ---- pieces

pub filled_by : {R : Type 0} {gave : R → List ℕ → R → Type 0} {r r' : R} (old buf post : List ℕ) (filled given : ℕ)
    → gave r (take given buf) r' → filled < length old → given ≤ length buf → length buf ≡ length old - filled
    → Filled gave r r' old (take filled old ++ (buf ++ post)) filled given
filled_by old buf post filled given gives lt le len = grind (arith, length-take, take-append-add, take-append-le)

-- the next piece came, and of its lines the first were taken
pub record ReadOn {R C : Type 0} (gave : R → List ℕ → R → Type 0) (f : List ℕ → Option LineFault) (went : C → List (List ℕ) → C → Type 0)
    (most limit : ℕ) (r : R) (c : C) (r' : R) (rest : List ℕ) (e : C) (count : ℕ) : Type 0 where
  pub texts : List (List ℕ)
  pub into : ReadIntoWithin gave f most limit r r' texts rest
  pub took : went c texts e
  pub number : count ≡ length texts

module _ {R C : Type 0} {gave : R → List ℕ → R → Type 0} {f : List ℕ → Option LineFault} {went : C → List (List ℕ) → C → Type 0}
    {most limit : ℕ} where
  pub reading_start : (r : R) (c : C) → went c [] c → Reading gave f went most limit r c [] r c 0
  reading_start r c none = record {
    texts = [];
    so_far = grind arith;
    took = none;
    number = refl;
  }

  -- a pause
  pub reading_still : {r r' : R} {c d e : C} {n : ℕ} {pending : List ℕ} → Reading gave f went most limit r c pending r' d n
      → ((start : C) (texts : List (List ℕ)) → went start texts d → went start texts e) → Reading gave f went most limit r c pending r' e n
  reading_still {c = c} p kept = grind arith

  pub read_on : {r r' r'' : R} {c d e : C} {n m : ℕ} {pending rest : List ℕ} (more whole : List ℕ)
      → Reading gave f went most limit r c pending r' d n → Came gave r' more r'' → whole ≡ pending ++ more
      → Collected f went most limit d n whole rest e m → ReadOn gave f went most limit r c r'' rest e m
  read_on {r' = r'} {c = c} {m = m} {pending = pending} {rest = rest} more whole p gives same q =
      let number : m ≡ length (p.texts ++ q.texts) = omega (arith, p.number, q.number, length-append p.texts q.texts) in
      record {
        texts = p.texts ++ q.texts;
        into = record {
          before = p.texts;
          pending = pending;
          last = r';
          so_far = p.so_far;
          piece = more;
          gives = gives;
          good = good_then (good_more more p.so_far.good) (rw (sym same) q.good);
          added = q.texts;
          behind = refl;
          within = omega (arith, number, q.within);
        };
        took = q.kept c p.texts (sym p.number) p.took;
        number = number;
      }

  pub reading_on : {r r' r'' : R} {c d e : C} {n m left : ℕ} {pending : List ℕ} (more whole rest : List ℕ)
      → Reading gave f went most limit r c pending r' d n → Came gave r' more r'' → whole ≡ pending ++ more
      → AllCollected f went most limit d n whole left e m → rest ≡ drop (length whole - left) whole → length rest ≤ most
      → (0 < length rest → m < limit) → Reading gave f went most limit r c rest r'' e m
  reading_on {c = c} {d = d} {e = e} {n = n} {m = m} more whole rest p gives same all at_end short room =
      let q = subst (λ l. Collected f went most limit d n whole l e m) (sym at_end) all.collected in
      let number : m ≡ length (p.texts ++ q.texts) = omega (arith, p.number, q.number, length-append p.texts q.texts) in
      record {
        texts = p.texts ++ q.texts;
        so_far = record {
          bytes = p.so_far.bytes ++ more;
          read = moved_more p.so_far.read gives;
          good = good_then (good_more more p.so_far.good) (rw (sym same) q.good);
          short = short;
          unfinished = rw at_end all.unfinished;
          within = omega (arith, number, q.within);
          room = λ some. omega (arith, room some, number);
        };
        took = q.kept c p.texts (sym p.number) p.took;
        number = number;
      }

  -- ---- ends

  module _ (failed : R → R → Type 0) where
    line_stops : {r r' : R} {c x : C} {rest : List ℕ} {k : ℕ} (n : ℕ) (e : LineFault)
        → (on : ReadOn gave f went most limit r c r' rest x k) → n ≡ k + 1 → k < limit → BeginsFaulty f most rest e
        → ReadStopsWithin gave failed f most limit r r' on.texts (fault.Line n e)
    line_stops n NotEnded on is lt begins = absurd begins
    line_stops {rest = rest} n e on is lt begins = (rest, on.into, omega (arith, is, on.number), omega (arith, lt, on.number), begins)

    module _ (stopped : C → List ℕ → C → Type 0) (paused unpaused : C → C → Type 0) where
      -- a fault of what was read, told after a pause
      told_after : {r r' : R} {c x : C} (c' : C) {rest : List ℕ} {k : ℕ} (e : TraceFault) (stop : Stop)
          → (on : ReadOn gave f went most limit r c r' rest x k) → ReadStopsWithin gave failed f most limit r r' on.texts e
          → AfterPause paused unpaused x c' e stop
          → ReadsWithin gave failed f went stopped paused unpaused most limit r r' c c' (Err stop)
      told_after {x = x} c' e (Fault g) on stops after =
          (on.texts, x, rw after.0 stops, on.took, after.1)
      told_after {x = x} c' {rest = rest} e Halted on stops after = (on.texts, rest, x, on.took, inr (on.into, inl after))

      -- a fault in the piece that came last, told after a pause
      pub reads_fault : {r r' r'' : R} {c d : C} (x c' : C) {n : ℕ} {pending : List ℕ} (more whole : List ℕ) (e : TraceFault) (stop : Stop)
          → Reading gave f went most limit r c pending r' d n → Came gave r' more r'' → whole ≡ pending ++ more
          → Misread f went stopped most limit d n whole x (Fault e) → AfterPause paused unpaused x c' e stop
          → ReadsWithin gave failed f went stopped paused unpaused most limit r r'' c c' (Err stop)
      reads_fault x c' more whole (fault.Line number e) stop p gives same q after =
          let on = read_on more whole p gives same q.2 in
          told_after c' (fault.Line number e) stop on (line_stops number e on q.3 q.4 q.5) after
      reads_fault x c' more whole fault.TooManyLines stop p gives same q after =
          let on = read_on more whole p gives same q.2 in
          told_after c' fault.TooManyLines stop on (q.0, on.into, omega (arith, q.3, on.number), q.4) after
      reads_fault x c' more whole e stop p gives same q after = absurd q

      -- the collector stopped at a line
      pub reads_halted : {r r' r'' : R} {c d : C} (x : C) {n : ℕ} {pending : List ℕ} (more whole : List ℕ)
          → Reading gave f went most limit r c pending r' d n → Came gave r' more r'' → whole ≡ pending ++ more
          → Misread f went stopped most limit d n whole x Halted
          → ReadsWithin gave failed f went stopped paused unpaused most limit r r'' c x (Err Halted)
      reads_halted x more whole p gives same q =
          let on = read_on more whole p gives same q.3 in
          (on.texts, q.0, q.2, on.took, inr (on.into, inr (omega (arith, q.4, on.number), q.5)))

      pub reads_unpaused : {r r' : R} {c d : C} (c' : C) {n : ℕ} {pending : List ℕ} → Reading gave f went most limit r c pending r' d n
          → unpaused d c' → ReadsWithin gave failed f went stopped paused unpaused most limit r r' c c' (Err Halted)
      reads_unpaused {d = d} c' {pending = pending} p stop = (p.texts, pending, d, p.took, inl (p.so_far, stop))
