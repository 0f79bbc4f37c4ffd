-- Steps of a run.
use Rattle.std.proofs.Common.{◌≡◌, ℕ, take, drop, take-append-drop, Option, Some, None, List, [], ◌∷◌, ◌++◌, length, ◌≤◌, refl, sym, ◌∙◌}
use Rattle.std.proofs.Common.{ap, append_assoc, append-nil, length-append, subst, arith}
use Rattle.std.proofs.lemmas.List.{take_all}
use Rattle.std.proofs.lemmas.List.Folds.{concat-append}
use Rattle.std.specs.Option.{option_to_list, option_and_then}
use Rattle.std.specs.List.{FoldsTo, AllByRecursion}
use Rattle.flat_model.specs.declared.Event.{Event}
use Rattle.flat_model.specs.declared.Answer.{Answer}
use Rattle.flat_model.specs.Flat.{Flat, flat_step, flat_run}
use Rattle.machine_core.specs.Machine.{MachineState}
use Rattle.machine_core.specs.AnyMachine.{flat}
use Rattle.trace_text.specs.Texts.{after_line}
use Rattle.trace_text.specs.declared.lines.Line.{Line}
use Rattle.trace_text.specs.declared.serve.Counts.{Counts}
use Rattle.trace_text.specs.Streams.{Moves, Partly}
use Rattle.trace_text.specs.Serving.{IsRead, texts_of, told, told_all, after_all, events_of, answers_of, event_in, answer_to, no_counts}
use Rattle.trace_text.specs.Serving.{counted, counted_line, LineServed, Applied}

folds_then : {S A : Type 0} (step : S → A → S → Type 0) (xs ys : List A) (r s t : S) → FoldsTo step r xs s → FoldsTo step s ys t
    → FoldsTo step r (xs ++ ys) t
folds_then step [] ys r s t p q = rw p q
folds_then step (x ∷ xs) ys r s t p q = (p.0, p.1, folds_then step xs ys p.0 s t p.2 q)

pub moved_none : {S : Type 0} {step : S → List ℕ → S → Type 0} (s : S) → Moves step s [] s
moved_none s = grind arith

pub moved_then : {S : Type 0} {step : S → List ℕ → S → Type 0} {r s t : S} {xs ys : List ℕ} → Moves step r xs s → Moves step s ys t
    → Moves step r (xs ++ ys) t
moved_then {step = step} {r = r} {s = s} {t = t} {xs = xs} {ys = ys} p q = record {
  pieces = p.pieces ++ q.pieces;
  steps = folds_then step p.pieces q.pieces r s t p.steps q.steps;
  whole = grind (arith, concat-append, p.whole, q.whole);
}

pub moved_one : {S : Type 0} {step : S → List ℕ → S → Type 0} {s t : S} {xs : List ℕ} → step s xs t → Moves step s xs t
moved_one {t = t} {xs = xs} p = record { pieces = xs ∷ []; steps = (t, p, refl); whole = append-nil xs }

pub moved_more : {S : Type 0} {step : S → List ℕ → S → Type 0} {r s t : S} {xs ys : List ℕ} → Moves step r xs s → step s ys t
    → Moves step r (xs ++ ys) t
moved_more p q = moved_then p (moved_one q)

pub moved_still : {S : Type 0} {step : S → List ℕ → S → Type 0} {r s t : S} {xs : List ℕ} → Moves step r xs s → step s [] t
    → Moves step r xs t
moved_still {xs = xs} p q = rw (sym (append-nil xs)) (moved_more p q)

and_then_more : (o : Option Flat) (f g : Flat → Option Flat) (t u : Flat) → ((v : Flat) → f v ≡ Some t → g v ≡ Some u)
    → option_and_then f o ≡ Some t → option_and_then g o ≡ Some u
and_then_more None f g t u more p = cc
and_then_more (Some v) f g t u more p = more v p

-- a run, and a run from where it ended
pub runs_then : (xs ys : List Event) (xa ya : List Answer) (s t u : Flat)
    → flat_run s xs xa ≡ Some t → flat_run t ys ya ≡ Some u → flat_run s (xs ++ ys) (xa ++ ya) ≡ Some u
runs_then [] ys [] ya s t u p q = cc
runs_then (x ∷ xs) ys (a ∷ xa) ya s t u p q =
    and_then_more (flat_step s x a) (λ v. flat_run v xs xa) _ t u (λ v here. runs_then xs ys xa ya v t u here q) p
runs_then xs ys xa ya s t u p q = cc

pub all_then : {X : Type 0} (P : X → Type 0) (xs ys : List X) → AllByRecursion P xs → AllByRecursion P ys → AllByRecursion P (xs ++ ys)
all_then P [] ys p q = q
all_then P (x ∷ xs) ys p q = (p.0, all_then P xs ys p.1 q)

-- one line more
record Last (m : MachineState) (c : Counts) (xs : List (List ℕ × Line)) (y : List ℕ × Line) : Type 0 where
  texts : texts_of (xs ++ y ∷ []) ≡ texts_of xs ++ y.0 ∷ []
  after : after_all m (xs ++ y ∷ []) ≡ after_line (after_all m xs) y.1
  written : told_all m (xs ++ y ∷ []) ≡ told_all m xs ++ told (after_all m xs) y
  counts : counted m c (xs ++ y ∷ []) ≡ counted_line (after_all m xs) (counted m c xs) y.1
  events : events_of (xs ++ y ∷ []) ≡ events_of xs ++ option_to_list (event_in y.1)
  answers : answers_of m (xs ++ y ∷ []) ≡ answers_of m xs ++ option_to_list (answer_to (after_all m xs) y.1)

last : (m : MachineState) (c : Counts) (xs : List (List ℕ × Line)) (y : List ℕ × Line) → Last m c xs y
last m c [] y = record {
  texts = refl;
  after = refl;
  written = append-nil (told m y);
  counts = refl;
  events = append-nil (option_to_list (event_in y.1));
  answers = append-nil (option_to_list (answer_to m y.1));
}
last m c (x ∷ xs) y =
    let rest = last (after_line m x.1) (counted_line m c x.1) xs y in
    record {
      texts = ap (λ l. x.0 ∷ l) rest.texts;
      after = rest.after;
      written = ap (λ l. told m x ++ l) rest.written ∙ sym (append_assoc (told m x) _ _);
      counts = rest.counts;
      events = grind (arith, rest.events, append_assoc);
      answers = grind (arith, rest.answers, append_assoc);
    }

-- ---- lines that were applied

pub applied_none : {W : Type 0} {took : W → List ℕ → W → Type 0} (w : W) (m : MachineState) (c : Counts) → c ≡ no_counts
    → Applied took w m [] w m c
applied_none w m c none = rw none (record {
  lines = [];
  read = tt;
  whole = refl;
  number = omega arith;
  within = grind arith;
  counts = refl;
  written = moved_none w;
  state = refl;
  runs = refl;
})

-- one line more
pub applied_line : {W : Type 0} {took : W → List ℕ → W → Type 0} {u v w : W} {k m n : MachineState} {b c : Counts} {texts : List (List ℕ)}
    (text : List ℕ)
    → Applied took u k texts v m b → LineServed took v m b text w n c → Applied took u k (texts ++ text ∷ []) w n c
applied_line {took = took} {u = u} {w = w} {k = k} {m = m} {n = n} text p q =
    let more : List ℕ × Line = (text, q.line) in
    let all = last k no_counts p.lines more in
    let both = runs_then (events_of p.lines) (option_to_list (event_in q.line)) (answers_of k p.lines) (option_to_list (answer_to m q.line))
    (flat k) (flat m) (flat n) p.runs q.runs in
    record {
      lines = p.lines ++ more ∷ [];
      read = all_then IsRead p.lines (more ∷ []) p.read (q.said, tt);
      whole = cc (p.whole, all.texts);
      number = grind (arith, p.number, q.number, length-append);
      within = q.within;
      counts = cc (q.counts, p.counts, p.state, all.counts);
      written = subst (λ l. Moves took u l w) (cc (all.written, p.state)) (moved_then p.written q.written);
      state = cc (q.state, p.state, all.after);
      runs = cc (both, all.events, all.answers, p.state);
    }

-- a flush
pub applied_still : {W : Type 0} {took : W → List ℕ → W → Type 0} {u v w : W} {k m n : MachineState} {b c : Counts} {texts : List (List ℕ)}
    → Applied took u k texts v m b → took v [] w → n ≡ m → c ≡ b → Applied took u k texts w n c
applied_still {took = took} {u = u} {w = w} {k = k} {n = n} {b = b} {texts = texts} p flush state counts =
    grind (arith, moved_still, p.written)

pub partly_more : {S : Type 0} {step : S → List ℕ → S → Type 0} {r s t : S} {bytes rest : List ℕ} (n : ℕ) (rest' : List ℕ)
    → Partly step r bytes rest s → step s (take n rest) t → rest' ≡ drop n rest → Partly step r bytes rest' t
partly_more {rest = rest} n rest' p q e = record {
  front = p.front ++ take n rest;
  whole = grind (arith, p.whole, take-append-drop, append_assoc);
  moved = moved_more p.moved q;
}

-- all that was left moved at once
pub partly_all : {S : Type 0} {step : S → List ℕ → S → Type 0} {r s t : S} {bytes rest : List ℕ} (n : ℕ)
    → Partly step r bytes rest s → step s (take n rest) t → length rest ≤ n → Moves step r bytes t
partly_all {step = step} {r = r} {s = s} {t = t} {rest = rest} n p q all = grind (arith, moved_more, p.moved, take_all)
