use Rattle.std.proofs.Common.{◌≡◌, List, [], ◌∷◌, ◌++◌, refl, sym, ap, subst, lit<, w32}
use Rattle.std.proofs.raw_atomic.Walks.{proved_at}
use Rattle.std.proofs.alloc.Calls.{Goes-blank}
use base.Fraction.{full_share}
use base.Fml.{ftrue, flft}
use base.Logic.{SProp, ent, id⊢, emp}
use lib.Dec.{T}
use mir.Raw.{raw as bare}
use mir.Syntax.{Ty, Dict, named, impl, method, tnil, dnil}
use mir.Val.{Val, vint, vunit, has_ty, WT}
use prog.Model.{Model}
use prog.Wired.{Wired}
use prog.Wp.{WpFn}
use seplogic.Ra.Ura.{Ura}
use types.Logic.{Logic}
use borrow.Fn.Glue.{glue_by, glue_ps}
use borrow.Fn.Impl.{via_longer, method_Known}
use borrow.Fn.Kinds.{ended_of, stays, r_unit}
use borrow.Fn.Run.{Over}
use borrow.Fn.World.{World}
use contract.BorrowLft.{◌⊑◌, ⊑_static}
use contract.Monad.{fact, fact_i}
use contract.Running.{Running, tables, tables_of}
use types.Kit.{‵, raw, ◌⊛◌, some, later, ◌$◌, ◌∵◌, !, qed, move, keep, drop, use0, use1, split, join, fsplit3, fjoin, fpack, feq_i, feq_l}
use types.Kit.{pick, await, rewrite, suffices, frame, group, done}
use types.Part.{whole, sub, store_in}
use types.Run.{enter, of_opd, lit, unit_lit, stop, fld, no_more, and_then, assigns, returns}
use types.ByLocal.{alloc_all, pass_all, free_all, look_at, get, through, sets, lands_as}
use denote.Builtin.{u32}
use denote.Exit.{yes, no}
use denote.Laws.{shows, Typed}
use denote.Memory.{cell_at}
use denote.Param.{layout, arg}
use denote.Param.Glue.{Met}
use denote.Param.Laws.{Laws, arg_laws}
use denote.Param.NoDrop
use denote.Plain.{uint_Makes}
use denote.RattleType.{RattleType, Valss}
use denote.RawPtr.{Ptr, RawPtr, ptr_val, rawptr_Lawful}
use denote.Ref.{MutRef, mut_at, mut_vals, mut_Tells}
use denote.Signature.{plain}
use denote.Steps.{nothing, owned, only, opens, closes, peeks}
use denote.Struct.Owning.{shape}
use denote.Struct.Struct.{within}
use denote.Triple.Call.{calls_at}
use denote.Triple.Carry.{AllWithin}
use denote.Triple.Clauses.{Lasts, lasts, at_exit}
use denote.Triple.Spec.{triple_of}
use denote.Triple.Table.{framed}
use denote.Triple.Walked.{Fit, Stays, walk_of, says, stay_ref, stay_dropped, Goes-ref, ends_at}
use Rattle.history_handles.specs.Blocks.{block_token}
use Rattle.std.specs.Box.Ownership.{box_owns}
use Rattle.std.specs.contracts.boxed.Box as boxed
use Rattle.std.specs.contracts.boxed.Box.into_raw as g
use Rattle.std.proofs.boxed.Box.into_raw.Met as made
use Rattle.std.proofs.boxed.Box.TheLaws as boxed_laws
use Rattle.std.specs.contracts.alloc.Global as heap
use Rattle.std.proofs.alloc.Global.TheLaws as heap_laws
use Rattle.std.specs.contracts.impls.GlobalAllocator.TheImpl as heap_impl
use Rattle.std.proofs.impls.GlobalAllocator.TheImpl.Met as heap_met
use Rattle.std.specs.Prelude.{None}
use Rattle.history_handles.specs.Behind.{behind}
use Rattle.history_handles.specs.contracts.history.OpenHistory as inner
use Rattle.history_handles.proofs.history.OpenHistory.TheLaws as inner_laws
use Rattle.history_handles.specs.contracts.handle.HistoryHandle.{the_row as R, the_type}
use Rattle.history_handles.proofs.handle.HistoryHandle.TheLaws.{lowers}
use Rattle.history_handles.specs.contracts.handle.HistoryHandle.keep as f
use Rattle.history_handles.proofs.handle.HistoryHandle.keep.Statement.{statement}
use Rattle.history_handles.proofs.handle.HistoryHandle.keep.Code as code
use Rattle.history_handles.proofs.Destruct++none.drop.Code as dropped
use Rattle.history_handles.proofs.history_handles++history++OpenHistory+Destruct.drop.Kinds as drop_kinds
use Rattle.history_handles.proofs.history_handles++history++OpenHistory+Destruct.drop.Met as drop_met
use Rattle.history_handles.proofs.history_handles++history++OpenHistory+Destruct.drop.Reads as drop_reads
use Rattle.history_handles.proofs.history_handles++history++OpenHistory+Destruct.drop.Symbol as drop_symbol

abbrev Boxed : RattleType
Boxed = boxed.the_row inner.the_row heap.the_row heap_impl.ghosts

-- the history as a type argument, and its laws
abbrev X : RattleType
X = arg (bare (layout inner.the_row)) no inner.the_row

abbrev L : Laws X
L = arg_laws (bare (layout inner.the_row)) no inner.the_row inner_laws.the_row_laws refl

-- what lets a history go
abbrev item_drop : Dict
item_drop = impl ("history_handles::history_handles++history++OpenHistory+Destruct::drop" ∷ []) tnil dnil

-- that it does: the function's own theorem, in the words in which a callee asks for it
item_glue : {M : Type 1} (𝓤 : Ura M) (𝓛 : Logic 𝓤) (𝓜 : Model 𝓤 𝓛.H) (𝓡 : Running 𝓤 𝓛.H 𝓜) → Wired 𝓡.env drop_symbol.code
    → Met 𝓛 𝓜 𝓡 𝓡.env X item_drop
item_glue {M} 𝓤 𝓛 𝓜 𝓡 wired =
    let world : World = record { M = M; 𝓤 = 𝓤; 𝓛 = 𝓛; 𝓜 = 𝓜; 𝓡 = 𝓡 } in
    let ended = ended_of 0 drop_kinds.ps drop_kinds.r in
    let called = method item_drop 0 _ in
    let met = drop_met.met 𝓤 𝓛 𝓜 𝓡 wired in
    glue_by X L world item_drop 𝓡.env
    (λ κs a. Lasts ended tt a) (λ κs a. lasts ended tt a)
    (λ κs a x ws. Fit ended (stays drop_kinds.ps) tt a ws × drop_reads.Learnt tt a x (at_exit ended tt a ws))
    (λ κs a. AllWithin 1 (κs.0, tt) (X.lives, tt) × Unit {0}) 0 tt (λ κs a h. ((h, tt), tt))
    (via_longer 𝓛 (Over 𝓛 𝓜 𝓡 𝓡.env) 1 (glue_ps X L) r_unit
    (λ κs a. Lasts ended tt a) (λ κs a. lasts ended tt a)
    (λ κs a x ws. Fit ended (stays drop_kinds.ps) tt a ws × drop_reads.Learnt tt a x (at_exit ended tt a ws))
    (λ κs a. AllWithin 1 (κs.0, tt) (X.lives, tt) × Unit {0}) called 0 tt
    (λ κs. tt) (λ κs a. drop_reads.Asked tt a) (λ κs a p. (tt, tt))
    (λ κs bd within a vss qs. method_Known 0 drop_kinds.ps drop_kinds.r drop_reads.requires drop_reads.ensures drop_reads.Asked
    drop_reads.Learnt drop_reads.known
    world drop_symbol.name called (drop_symbol.as_method 𝓡.env wired called refl) met ((tt, qs, tt, a, vss), tt)))

abbrev stayed : Stays f.ended.signature.params f.ended.kept
stayed = (stay_ref (0 ∷ []) tt (plain (λ _. R)), (stay_dropped (plain (λ _. Boxed)) yes, tt))

-- values of one type are one value
one_of : (τ : Ty) (vs : List Val) → Typed (τ ∷ []) vs → (v : Val) × ((vs ≡ v ∷ []) × (T (has_ty τ v) × WT v))
one_of τ [] t = absurd t
one_of τ (v ∷ []) t = (v, (refl, t.0))
one_of τ (v ∷ w ∷ vs) t = absurd t.1

pub keep_spec : {M : Type 1} → statement M
unfolding tables_of dropped.code
keep_spec {M} 𝓤 𝓛 𝓜 𝓡 wired =
    let c = f.clauses 𝓛 𝓜.mem 𝓡.returns in let W = walk_of 𝓛 f.ended stayed c in let 𝓣 = tables 𝓤 𝓛.H 𝓜 𝓡 𝓡.env in
    let Z = arg _ no heap.the_row in
    let LZ = arg_laws _ no heap.the_row heap_laws.the_row_laws refl in
    let no_drop = impl _ _ dnil in
    proved_at 𝓛 f.ended stayed c 𝓜 𝓡 (Goes-ref 𝓛 1 0 tt (plain (λ _. R)), (Goes-blank 𝓛 1 (plain (λ _. Boxed)) yes (λ κs x w. tt), tt))
    f.Key.name code.function (code.unfolded 𝓤 𝓛.H 𝓜 𝓡 wired) (λ y are.
    let κs = y.0.0 in let qs = y.0.1 in let r = y.0.3.0 in let item = y.0.3.1.0 in
    let b = r.ref_ptr.0 in let o = r.ref_ptr.1 in let h = r.now in let vs = mut_vals r in
    let found = one_of (layout Boxed) y.0.4.1.0 (((boxed_laws.the_field_loose inner.the_row heap.the_row heap_impl.ghosts
    inner_laws.the_row_laws heap_laws.the_row_laws).lawful 𝓛).typed item y.0.4.1.0 are.1.0) in
    let v = found.0 in let e₀ : y.0.4.0 ≡ vs = mut_Tells (named 0) κs.0 R r y.0.4.0 are.0 in let e₁ : y.0.4.1.0 ≡ v ∷ [] = found.1.0 in
    let Run : List Val → SProp 𝓤 = λ us. WpFn 𝓤 𝓛.H 𝓣.C 𝓣.Λ code.function us (W.post y) in
    qed 𝓛 (((‵ (flft κs.0 qs.0) ⊛ ‵ ftrue) ⊛ (‵ ((MutRef (named 0) κs.0 R).own_val r y.0.4.0) ⊛ ‵
    (Boxed.own_val item y.0.4.1.0) ⊛ ‵ ftrue)) ∷ raw (fact 𝓤 (behind r.now ≡ None)) ∷ []) ∵
    suffices ! (Run _) (subst (λ (us : List Val). ent 𝓤 (Run (vs ++ (v ∷ []))) (Run us)) (sym (λ i. e₀ i ++ (e₁ i ++ [])))
    (id⊢ 𝓤 (Run (vs ++ (v ∷ []))))) $
    split ! $ split ! $ move ! (2 ∷ []) $ split ! $ move ! (1 ∷ []) $ split ! $ keep ! (2 ∷ 0 ∷ 3 ∷ []) $
    rewrite ! 0 (λ (us : List Val). ‵ ((MutRef (named 0) κs.0 R).own_val r us)) e₀ refl $ rewrite ! 1
    (λ (us : List Val). ‵ (Boxed.own_val item us)) e₁ refl $
    -- [self; the box; the token]
    enter ! _ _ _ _ _ $ alloc_all ! (λ l. pass_all ! refl ((tt, tt), (found.1.1, tt)) $
    sets ! (of_opd ! (get ! refl)) refl found.1.1 $
    -- the call's right side
    let G = triple_of 𝓛 (g.signature X Z heap_impl.ghosts heap_impl.dict no_drop item_drop)
    (g.spec X Z heap_impl.ghosts heap_impl.dict no_drop item_drop 𝓛 𝓜.mem 𝓡.returns) in
    let S = g.ended X Z heap_impl.ghosts heap_impl.dict no_drop item_drop in
    let passed = heap_met.passed 𝓡.env (code.calls-std_heap::GlobalAllocator::allocate 𝓡.env wired)
    (code.calls-std_heap::GlobalAllocator::deallocate 𝓡.env wired)
    (code.calls-std_heap::GlobalAllocator::grow 𝓡.env wired) (code.calls-std_heap::GlobalAllocator::shrink 𝓡.env wired) M 𝓤 𝓛 𝓜 𝓡 in
    let glue = NoDrop.glues "history_handles::Destruct++none::drop" 𝓡.env (code.calls-history_handles::Destruct++none::drop 𝓡.env wired) Z
    LZ M 𝓤 𝓛 𝓜 𝓡 in
    let known = made.met 𝓤 𝓛 𝓜 𝓡 (code.calls-std_alloc::boxed::Box::into_raw 𝓡.env wired) X Z L LZ heap_impl.ghosts heap_impl.dict no_drop
    item_drop passed glue
    (item_glue 𝓤 𝓛 𝓜 𝓡 (code.calls-history_handles::history_handles++history++OpenHistory+Destruct::drop 𝓡.env wired)) in
    let x : G.Ghost = ((([], ([], tt)), (full_share, (full_share, tt)), tt, (item, tt), (v ∷ [], tt)), tt) in
    nothing ! $ use0 𝓛 (raw (fact 𝓤 ([] ⊑ Z.lives))) (fact_i 𝓤 _ (emp 𝓤) (⊑_static [])) $ join ! $
    use0 𝓛 (raw (fact 𝓤 ([] ⊑ X.lives))) (fact_i 𝓤 _ (emp 𝓤) (⊑_static [])) $ join ! $
    nothing ! $ move ! (3 ∷ 0 ∷ []) $ fjoin ! $
    nothing ! $ use0 𝓛 (‵ (flft [] full_share)) (𝓛.lfts.lft-nil full_share) $ join ! $ use0 𝓛 (‵ (flft [] full_share))
    (𝓛.lfts.lft-nil full_share) $ join ! $
    join ! $ join ! $ use1 𝓛 (raw (G.pre x)) (id⊢ 𝓤 _) $
    calls_at ! (framed 𝓤 𝓛.H 𝓜 𝓣) G known x (and_then ! (get ! refl) (no_more !)) (λ u.
    use1 𝓛 (later (some (λ (p : Ptr). ((‵ (flft [] full_share) ⊛ ‵ (flft [] full_share) ⊛ ‵ ftrue) ⊛ ‵ (RawPtr.own_val p (u ∷ [])))
    ⊛ some (λ (ws : Lasts S x.0.0 x.0.3). ‵ (lasts S x.0.0 x.0.3 ws) ⊛ ‵ (box_owns block_token inner.the_row p item.value))))) (id⊢ 𝓤 _) $
    await ! tt $ pick ! (λ p. split ! $ move ! (1 ∷ []) $ pick !
    (λ _. split ! $ drop ! $ move ! (1 ∷ []) $ split ! $ drop ! $ feq_l ! (λ is_pointer.
    let pointer = ((rawptr_Lawful 𝓛).typed p _ refl).0 in
    lands_as ! (ap only is_pointer) refl pointer $ sets ! (of_opd ! (get ! refl)) refl pointer $
    -- [the box's memory; self; the token]
    move ! (1 ∷ []) $ fsplit3 ! $ move ! (1 ∷ 2 ∷ 4 ∷ []) $ opens ! tt R b o (λ us.
    move ! (1 ∷ []) $ peeks ! R _ (shows 𝓛 R) h us (λ is. drop ! $
    let Cell = λ (ws : List Val). ‵ (cell_at full_share R.mir ws b o) in
    rewrite ! 0 Cell (lowers.val_is h us is) refl $
    -- [the struct's cell; the open borrow, in three entries; the first part of self; the box's memory]
    assigns ! (of_opd ! (get ! refl)) (through ! refl (fld ! refl (stop !))) (store_in ! 0 (sub ! 1 refl (whole !)) pointer) $
    assigns ! (of_opd ! (lit ! tt)) (through ! refl (fld ! refl (stop !)))
    (store_in ! 0 (sub ! 0 refl (whole !)) (tt, record { fits = lit< tt })) $
    sets ! (of_opd ! (unit_lit !)) refl (tt, tt) $
    let now = record h { «open» = 1; at = p; history = item.value } in let ws = lowers.lowered now ∷ [] in
    nothing ! $ feq_i ! (List Val) (ptr_val p ∷ []) (ptr_val p ∷ []) refl $ fjoin ! $
    owned ! u32 _ (uint_Makes 𝓛 w32) 1 (vint w32 1 ∷ []) (refl, lit< tt) $ fjoin ! $ feq_i ! (List Val) ws ws refl $ fjoin ! $
    fpack ! (Valss (u32 ∷ RawPtr ∷ [])) (within (shape the_type) (1, (p, tt)) ws) (vint w32 1 ∷ [], (ptr_val p ∷ [], tt)) $
    move ! (0 ∷ 6 ∷ []) $ fjoin ! $ move ! (1 ∷ 0 ∷ []) $ closes ! tt R now ws b o $
    returns ! (look_at ! 0 refl) $ free_all ! refl $ move ! (3 ∷ []) $ rewrite ! 0 (λ (us : List Val). ‵ (mut_at r us)) (sym e₀) refl $
    suffices ! _ (ends_at 𝓛 f.ended stayed c y vunit tt (now, (tt, tt)) (tt, (tt, tt))) $ says ! refl $
    group ! 3 $ nothing ! $ nothing ! $ join ! $ move ! (1 ∷ 0 ∷ []) $ join ! $ nothing ! $ move !
    (2 ∷ 0 ∷ []) $ join ! $ frame ! $ frame ! $
    feq_i ! _ (vunit ∷ []) _ refl $ done !))))))))
