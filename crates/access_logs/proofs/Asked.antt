-- Requests that are written one by one.
use Rattle.std.proofs.Common.{◌≡◌, ℕ, ◌+◌, ◌<◌, Result, Ok, Err, OnErr, List, [], ◌∷◌, ◌++◌, drop, take-append-drop, sym, ◌∙◌, ap}
use Rattle.std.proofs.Common.{append_assoc, append-nil, arith}
use Rattle.std.specs.Prelude.{map, codes}
use Rattle.std.specs.List.{range_with_len}
use Rattle.std.proofs.lemmas.Grind.{flat_map-append}
use Rattle.std.proofs.lemmas.List.FromFn.{map-range_with_len_more, take-map-range_with_len}
use Rattle.flat_model.specs.declared.Event.{Event}
use Rattle.trace_text.specs.Streams.{Moves, Stopped}
use Rattle.trace_text.proofs.Serving.{moved_then}
use Rattle.access_logs.specs.Requests.{request_text, requests_text}

pub on_err : {A E P : Type 0} (r : Result A E) → P → OnErr r P
on_err (Ok x) p = tt
on_err (Err e) p = p

pub on_err_more : {A E P Q : Type 0} (r : Result A E) → (P → Q) → OnErr r P → OnErr r Q
on_err_more (Ok x) f p = tt
on_err_more (Err e) f p = f p

-- the line of a store, piece by piece
pub store_built : (x0 x1 x2 x3 x4 x5 x6 x7 word_at lanes word : List ℕ) → x0 ≡ [] → x1 ≡ x0 ++ codes "store " → x2 ≡ x1 ++ word_at
    → x3 ≡ x2 ++ 32 ∷ [] → x4 ≡ x3 ++ lanes → x5 ≡ x4 ++ 32 ∷ [] → x6 ≡ x5 ++ word → x7 ≡ x6 ++ 10 ∷ []
    → x7 ≡ (codes "store " ++ (word_at ++ (32 ∷ (lanes ++ (32 ∷ word))))) ++ 10 ∷ []
store_built x0 x1 x2 x3 x4 x5 x6 x7 word_at lanes word e0 e1 e2 e3 e4 e5 e6 e7 =
    let two = e2 ∙ ap (λ l. l ++ word_at) (e1 ∙ ap (λ l. l ++ codes "store ") e0) in
    let four = e4 ∙ ap (λ l. l ++ lanes) (e3 ∙ ap (λ l. l ++ 32 ∷ []) two) in
    let six = e6 ∙ ap (λ l. l ++ word) (e5 ∙ ap (λ l. l ++ 32 ∷ []) four) in
    let flat : x6 ≡ codes "store " ++ (word_at ++ (32 ∷ (lanes ++ (32 ∷ word)))) = six ∙ simp append_assoc in
    e7 ∙ ap (λ l. l ++ 10 ∷ []) flat

-- ---- a write that stops behind others

pub stopped_then : {S : Type 0} {step : S → List ℕ → S → Type 0} {refused : S → S → Type 0} {old mid new : S} {xs ys : List ℕ}
    (zs whole : List ℕ)
    → Moves step old xs mid → Stopped step refused mid ys new → whole ≡ (xs ++ ys) ++ zs → Stopped step refused old whole new
stopped_then {xs = xs} zs whole p q e = record {
  front = xs ++ q.front;
  back = q.back ++ zs;
  whole = e ∙ ap (λ l. (xs ++ l) ++ zs) q.whole ∙ append_assoc xs _ zs
      ∙ ap (λ l. xs ++ l) (append_assoc q.front q.back zs) ∙ sym (append_assoc xs q.front (q.back ++ zs));
  last = q.last;
  moved = moved_then p q.moved;
  refusal = q.refusal;
}

-- ---- the requests of the words from the first on

text_more : (f : ℕ → Event) (i : ℕ) → requests_text (map f (range_with_len 0 (i + 1))) ≡ requests_text (map f (range_with_len 0 i))
    ++ request_text (f i)
text_more f i =
    let before = map f (range_with_len 0 i) in
    ap requests_text (map-range_with_len_more f 0 i i (omega arith))
    ∙ flat_map-append request_text before _
    ∙ ap (λ l. requests_text before ++ l) (append-nil (request_text (f i)))

pub moved_next : {S : Type 0} {step : S → List ℕ → S → Type 0} {old mid new : S} (f : ℕ → Event) (i : ℕ)
    → Moves step old (requests_text (map f (range_with_len 0 i))) mid → Moves step mid (request_text (f i)) new
    → Moves step old (requests_text (map f (range_with_len 0 (i + 1)))) new
moved_next {step = step} {old = old} {new = new} f i p q = grind (arith, text_more, moved_then)

pub stopped_at : {S : Type 0} {step : S → List ℕ → S → Type 0} {refused : S → S → Type 0} {old mid new : S} (f : ℕ → Event) (i n : ℕ)
    → i < n
    → Moves step old (requests_text (map f (range_with_len 0 i))) mid → Stopped step refused mid (request_text (f i)) new
    → Stopped step refused old (requests_text (map f (range_with_len 0 n))) new
stopped_at f i n lt p q =
    let all = map f (range_with_len 0 n) in
    let upto = map f (range_with_len 0 (i + 1)) in
    let rest = drop (i + 1) all in
    let split = sym (take-append-drop (i + 1) all)
    ∙ ap (λ l. l ++ rest) (take-map-range_with_len f 0 n (i + 1) (omega (arith, lt))) in
    let whole = ap requests_text split ∙ flat_map-append request_text upto rest ∙ ap (λ l. l ++ requests_text rest) (text_more f i) in
    stopped_then (requests_text rest) (requests_text all) p q whole

-- ---- requests behind requests

pub moved_both : {S : Type 0} {step : S → List ℕ → S → Type 0} {old mid new : S} (xs ys : List Event)
    → Moves step old (requests_text xs) mid → Moves step mid (requests_text ys) new → Moves step old (requests_text (xs ++ ys)) new
moved_both {step = step} {old = old} {new = new} xs ys p q = grind (arith, flat_map-append, moved_then)

pub stopped_second : {S : Type 0} {step : S → List ℕ → S → Type 0} {refused : S → S → Type 0} {old mid new : S} (xs ys : List Event)
    → Moves step old (requests_text xs) mid → Stopped step refused mid (requests_text ys) new
    → Stopped step refused old (requests_text (xs ++ ys)) new
stopped_second xs ys p q =
    stopped_then [] (requests_text _) p q
    (flat_map-append request_text xs ys ∙ sym (append-nil (requests_text xs ++ requests_text ys)))
