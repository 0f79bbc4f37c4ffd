-- A log, line by line.
use Rattle.std.proofs.Common.{◌≡◌, ℕ, ◌+◌, ◌≤◌, Option, Some, None, Result, Ok, List, [], ◌∷◌, ◌++◌, length, length-append, refl, sym, ◌∙◌}
use Rattle.std.proofs.Common.{ap, subst, append_assoc, append-nil, arith}
use Rattle.trace_text.specs.Streams.{Moves}
use Rattle.trace_text.specs.declared.lines.LineFault.{LineFault}
use Rattle.trace_text.proofs.Serving.{moved_none, moved_still}
use Rattle.access_logs.specs.declared.access.Access.{Access}
use Rattle.access_logs.specs.Requests.{requests_text}
use Rattle.access_logs.specs.Logs.{LogState, log_start, access_told, state_after, requests_for, state_behind, requests_in, Requested, Asked}
use Rattle.access_logs.proofs.Asked.{moved_both}

pub state_more : (access_in : List ℕ → Result (Option Access) LineFault) (s : LogState) (texts : List (List ℕ)) (text : List ℕ)
    → state_behind access_in s (texts ++ text ∷ []) ≡ state_after (state_behind access_in s texts) (access_told (access_in text))
state_more access_in s [] text = refl
state_more access_in s (t ∷ ts) text = state_more access_in (state_after s (access_told (access_in t))) ts text

pub requests_more : (access_in : List ℕ → Result (Option Access) LineFault) (s : LogState) (texts : List (List ℕ)) (text : List ℕ)
    → requests_in access_in s (texts ++ text ∷ []) ≡ requests_in access_in s texts
    ++ requests_for (state_behind access_in s texts) (access_told (access_in text))
requests_more access_in s [] text = append-nil _
requests_more access_in s (t ∷ ts) text =
    let next = state_after s _ in
    let first = requests_for s (access_told (access_in t)) in
    ap (λ l. first ++ l) (requests_more access_in next ts text)
    ∙ sym (append_assoc first (requests_in access_in next ts)
    (requests_for (state_behind access_in next ts) (access_told (access_in text))))

lines_more : (s : LogState) (said : Option Access) → (state_after s said).lines ≡ s.lines + 1
lines_more s None = refl
lines_more s (Some a) = refl

-- one line more
pub requested_line : {W : Type 0} {took : W → List ℕ → W → Type 0} {access_in : List ℕ
    → Result (Option Access) LineFault} {room : ℕ} {old mid new : W} {texts : List (List ℕ)} {s s' : LogState} (text : List ℕ)
    (said : Option Access)
    → Ok said ≡ access_in text → Requested took access_in room old texts mid s → Asked took room mid s said new s'
    → Requested took access_in room old (texts ++ text ∷ []) new s'
requested_line {took = took} {access_in = access_in} {room = room} {old = old} {new = new} {texts = texts} {s = s} {s' = s'} text said e p
    q =
    let told : said ≡ access_told (access_in text) = ap access_told e in
    let behind = state_behind access_in log_start texts in
    record {
      written =
          let same : requests_in access_in log_start texts ++ requests_for s said ≡ requests_in access_in log_start (texts ++ text ∷ []) =
          ap (λ x. requests_in access_in log_start texts ++ requests_for x said) p.state
          ∙ ap (λ o. requests_in access_in log_start texts ++ requests_for behind o) told
          ∙ sym (requests_more access_in log_start texts text) in
          subst (λ l. Moves took old (requests_text l) new) same
          (moved_both (requests_in access_in log_start texts) (requests_for s said) p.written q.written);
      state = q.state ∙ ap (λ x. state_after x said) p.state ∙ ap (λ o. state_after behind o) told
          ∙ sym (state_more access_in log_start texts text);
      number = omega (arith, ap (λ x. x.lines) q.state, lines_more s said, p.number, length-append texts (text ∷ []));
      fits = q.fits;
    }

-- a line without an access
pub asked_none : {W : Type 0} (took : W → List ℕ → W → Type 0) (room : ℕ) (w : W) (s s' : LogState) → s' ≡ state_after s None
    → length s.pages ≤ room → Asked took room w s None w s'
asked_none took room w s s' e fits = subst (Asked took room w s None w) (sym e) (record {
  written = moved_none w;
  state = refl;
  fits = fits;
})

-- a flush
pub requested_still : {W : Type 0} {took : W → List ℕ → W → Type 0} {access_in : List ℕ
    → Result (Option Access) LineFault} {room : ℕ} {old mid new : W} {texts : List (List ℕ)} {s : LogState}
    → Requested took access_in room old texts mid s → took mid [] new → Requested took access_in room old texts new s
requested_still p flush = grind (arith, moved_still, p.written)
