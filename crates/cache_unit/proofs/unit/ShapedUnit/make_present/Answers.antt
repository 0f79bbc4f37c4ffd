use Rattle.std.proofs.Common.{◌&&◌, Some, None, ap, sym, ◌∙◌, subst, is_some, ◌≡◌, Result, Ok, Err, IfErr, IsErrAnd}
use Rattle.memory_banks.specs.Banks.{HasSent}
use Rattle.cache_law.specs.State.{UnitState, is_present, frame_of, tags}
use Rattle.cache_law.specs.Causes.{found, targets_full}
use Rattle.cache_law.specs.Requests.{absence_cause}
use Rattle.cache_unit.proofs.Calls.{sound_of}
use Rattle.cache_unit.proofs.BlockReads.{HasSent-none}
use Rattle.cache_law.proofs.Requesting.{fetched_frame, present_cause, absent_cause, present_fetched, present_fetches, tags_kept}
use Rattle.cache_law.proofs.Requesting.{targets_kept}
use Rattle.cache_unit.proofs.unit.ShapedUnit.make_present.Goals as goal

pub returns-in-Some-clause-no_cause : goal.returns-in-Some-clause-no_cause
returns-in-Some-clause-no_cause g c =
    let u = c.args.self.now in
    present_cause u.sizes (g.L.Lines.room_of _) u.cache _ (ap (λ v. is_present v.cache c.args.block) (sym c.self.view_is) ∙ ap is_some (sym
    c.in-Some.ensures.found))

pub returns-in-Some-clause-unit : goal.returns-in-Some-clause-unit
returns-in-Some-clause-unit g c =
    let u = c.args.self.now in
    ap (λ x. let v : UnitState = record { sizes = u.sizes; cache = x } in v) (sym (present_fetched u.sizes u.cache _ (ap (λ v. is_present
    v.cache c.args.block) (sym c.self.view_is) ∙ ap is_some (sym c.in-Some.ensures.found))))

pub returns-in-Some-clause-lines : goal.returns-in-Some-clause-lines
returns-in-Some-clause-lines g c =
    let u = c.args.self.now in
    subst (HasSent g.L.Lines.sent_to g.L.Lines.room_of g.L.Lines.same _ _) (sym (present_fetches u.sizes u.cache _ (ap (λ v. is_present
    v.cache c.args.block) (sym c.self.view_is) ∙ ap is_some (sym c.in-Some.ensures.found)))) (HasSent-none g.L.Lines.sent_to
    g.L.Lines.room_of g.L.Lines.same _ (g.met.L.Lines.same_self _))

pub returns-in-Some-clause-targets : goal.returns-in-Some-clause-targets
returns-in-Some-clause-targets g c i =
    let u = c.args.self.now in
    sym (ap (λ b. b && targets_full u.cache i (found u.cache c.args.block i)) (ap (λ v. is_present v.cache c.args.block) (sym
    c.self.view_is) ∙ ap is_some (sym c.in-Some.ensures.found)))

-- a refusal that is passed on is the same
passed_on : {X E : Type 0} (r : Result X E) (e : E) (P : E → Type 0) → IsErrAnd r (λ f. f ≡ e) → P e → IfErr r P
passed_on (Ok x) e P h p = tt
passed_on (Err f) e P h p = rw h p

pub returns-in_err-places-clause-cause : goal.returns-in_err-places-clause-cause
returns-in_err-places-clause-cause g c =
    let u = c.args.self.now in
    let room = g.L.Lines.room_of _ in
    passed_on _ c.in_err-places.field-0.0 (λ e. absence_cause u.sizes room u.cache _ ≡ Some e) c.from_residual.ensures.1 (absent_cause
    u.sizes room u.cache _ _ (ap (λ v. is_present v.cache c.args.block) (sym c.self.view_is) ∙ ap is_some (sym c.look.ensures.found ∙
    c.in_default.is)) c.in_err-places.ensures.refused)

pub fetch-requires : goal.fetch-requires
fetch-requires g c =
    record {
      absent = (ap (λ v. is_present v.cache c.args.block) (sym c.self.view_is) ∙ ap is_some (sym c.look.ensures.found ∙
          c.in_default.is));
      in_memory = c.requires;
      may_take = c.in_ok-places.ensures.found;
    }

pub returns-clause-tags_kept : goal.returns-clause-tags_kept
returns-clause-tags_kept g c =
    let u = c.args.self.now in
    let room = g.L.Lines.room_of _ in
    let holds = sound_of c.self.inside c.self.invariant u c.self.view_is in
    let here = ap (λ v. is_present v.cache c.args.block) (sym c.self.view_is) ∙ ap is_some (sym c.look.ensures.found ∙ c.in_default.is) in
    ap (λ v. tags v.cache) c.fetch.ensures.unit ∙ tags_kept u.sizes room u.cache _ holds
    (absent_cause u.sizes room u.cache _ None here c.in_ok-places.ensures.found.no_cause)

pub returns-clause-targets : goal.returns-clause-targets
returns-clause-targets g c i =
    let u = c.args.self.now in
    let room = g.L.Lines.room_of _ in
    let here = ap (λ v. is_present v.cache c.args.block) (sym c.self.view_is) ∙ ap is_some (sym c.look.ensures.found ∙ c.in_default.is) in
    let full = ap (λ b. b && targets_full u.cache i (found u.cache c.args.block i)) here in
    let holds = sound_of c.self.inside c.self.invariant u c.self.view_is in
    let none = absent_cause u.sizes room u.cache _ None here c.in_ok-places.ensures.found.no_cause in
    ap (λ v. targets_full v.cache i (found v.cache c.args.block i)) c.fetch.ensures.unit
    ∙ targets_kept u.sizes room u.cache _ holds none i full ∙ sym full

pub returns-in-Some-clause-held : goal.returns-in-Some-clause-held
returns-in-Some-clause-held g c =
    ap (λ v. frame_of v.cache c.args.block) (sym c.self.view_is) ∙ (sym c.in-Some.ensures.found)

pub returns-clause-held : goal.returns-clause-held
returns-clause-held g c =
    let u = c.args.self.now in
    let may = c.in_ok-places.ensures.found in
    let holds = sound_of c.self.inside c.self.invariant u c.self.view_is in
    let absent = ap (λ v. frame_of v.cache c.args.block) (sym c.self.view_is) ∙ (sym c.look.ensures.found ∙ c.in_default.is) in
    ap (λ v. frame_of v.cache c.args.block) c.fetch.ensures.unit ∙ fetched_frame u.sizes u.cache holds _ _ _ absent may.chosen may.free
