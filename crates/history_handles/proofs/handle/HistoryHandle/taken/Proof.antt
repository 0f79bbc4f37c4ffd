use Rattle.std.proofs.Common.{◌≡◌, ◌≢◌, List, [], ◌∷◌, refl, lit<, w32}
use Rattle.std.specs.Prelude.{Bool}
use Rattle.std.proofs.raw_atomic.Walks.{proved}
use base.Fraction.{full_share}
use base.Fml.{ftrue, flft}
use base.Logic.{id⊢, emp}
use mir.Syntax.{named, impl, dnil}
use mir.Val.{Val, vint}
use contract.BorrowLft.{◌⊑◌, ⊑_static}
use contract.Monad.{fact, fact_i}
use contract.Running.{tables, tables_of}
use types.Kit.{‵, raw, ◌⊛◌, some, later, at_ret, ◌$◌, ◌∵◌, !, qed, move, keep, drop, use0, use1, split, split3, join, fsplit, fsplit3}
use types.Kit.{fjoin, fjoin3, fpack, feq_i, pick, await, rewrite, suffices, frame, group, done}
use types.Part.{whole, sub, look_in, store_in}
use types.Run.{enter, of_opd, lit, load, stop, fld, no_more, and_then, assigns, first, blocks, exec, returns}
use types.ByLocal.{alloc_all, pass_all, free_all, look_at, get, through, sets, lands_last, env}
use denote.Builtin.{u32}
use denote.Exit.{yes, no}
use denote.Laws.{shows}
use denote.Memory.{cell_at}
use denote.Param.{arg}
use denote.Param.Laws.{arg_laws}
use denote.Param.NoDrop
use denote.Plain.{uint_Makes}
use denote.RattleType.{Valss}
use denote.RawPtr.{RawPtr, ptr_val, rawptr_Lawful}
use denote.Ref.{MutRef, mut_vals, mut_Tells}
use denote.Signature.{plain}
use denote.Steps.{nothing, owned, opens, closes, peeks, heard}
use denote.Struct.Owning.{shape}
use denote.Struct.Struct.{within}
use denote.Triple.Call.{calls_at_last}
use denote.Triple.Clauses.{Lasts, lasts}
use denote.Triple.Spec.{triple_of}
use denote.Triple.Table.{framed}
use denote.Triple.Walked.{Stays, walk_of, says, stay_ref, stay_dropped, Goes-ref, Goes-dropped, ends_at}
use Rattle.history_handles.specs.Blocks.{block_token}
use Rattle.std.specs.Box.Ownership.{box_owns}
use Rattle.std.specs.Vec.Ownership.{owns_if}
use Rattle.std.specs.contracts.boxed.Box as boxed
use Rattle.std.specs.contracts.boxed.Box.from_raw as g
use Rattle.std.proofs.boxed.Box.from_raw.Met as made
use Rattle.std.proofs.boxed.Box.TheLaws as boxed_laws
use Rattle.std.specs.contracts.alloc.Global as heap
use Rattle.std.proofs.alloc.Global.TheLaws as heap_laws
use Rattle.std.specs.contracts.impls.GlobalAllocator.TheImpl as heap_impl
use Rattle.std.proofs.impls.GlobalAllocator.TheImpl.Met as heap_met
use Rattle.history_handles.specs.contracts.history.OpenHistory as inner
use Rattle.history_handles.proofs.history.OpenHistory.TheLaws as inner_laws
use Rattle.history_handles.specs.contracts.handle.HistoryHandle.{the_row as R, the_type}
use Rattle.history_handles.proofs.handle.HistoryHandle.TheLaws.{lowers}
use Rattle.history_handles.proofs.Nonzero.{is_nonzero}
use Rattle.history_handles.specs.contracts.handle.HistoryHandle.taken as f
use Rattle.history_handles.proofs.handle.HistoryHandle.taken.Statement.{statement}
use Rattle.history_handles.proofs.handle.HistoryHandle.taken.Code as code
use Rattle.history_handles.proofs.Destruct++none.drop.Code as dropped

abbrev stayed : Stays f.ended.signature.params f.ended.kept
stayed = (stay_ref (0 ∷ []) tt (plain (λ _. R)), (stay_dropped (plain (λ _. heap.the_row)) yes, tt))

pub taken_spec : {M : Type 1} → statement M
unfolding tables_of dropped.code
taken_spec {M} 𝓤 𝓛 𝓜 𝓡 wired =
    let c = f.clauses 𝓛 𝓜.mem 𝓡.returns in let W = walk_of 𝓛 f.ended stayed c in let 𝓣 = tables 𝓤 𝓛.H 𝓜 𝓡 𝓡.env in
    let X = arg _ no inner.the_row in
    let L = arg_laws _ no inner.the_row inner_laws.the_row_laws refl in
    let Z = arg _ no heap.the_row in
    let LZ = arg_laws _ no heap.the_row heap_laws.the_row_laws refl in
    let B = boxed.the_row X Z heap_impl.ghosts in let no_drop = impl _
    _ dnil in
    proved 𝓛 f.ended stayed c 𝓜 𝓡 (Goes-ref 𝓛 1 0 tt (plain (λ _. R)), (Goes-dropped 𝓛 1 (plain (λ _. Z)) yes (λ κs x w. refl), tt))
    f.Key.name code.function (code.unfolded 𝓤 𝓛.H 𝓜 𝓡 wired)
    (λ κs. (mut_vals, ((λ z. heap_laws.lowers.lowered z ∷ []), tt))) (λ κs. (mut_Tells (named 0) κs.0 R, (heap_laws.lowers.val_is, tt)))
    (λ κs qs bounds a _ are.
    let b = a.0.ref_ptr.0 in let o = a.0.ref_ptr.1 in let h = a.0.now in let vs = mut_vals a.0 in let z = a.1.0 in
    let zs = heap_laws.lowers.lowered z ∷ [] in
    let y : W.Ghost = ((κs, qs, bounds, a, (vs, (zs, tt))), tt) in
    let pointer = ((rawptr_Lawful 𝓛).typed h.at _ refl).0 in
    qed 𝓛 (((‵ (flft κs.0 qs.0) ⊛ ‵ ftrue) ⊛ (‵ ((MutRef (named 0) κs.0 R).own_val a.0 vs) ⊛ ‵ (Z.own_val z zs) ⊛ ‵ ftrue)) ∷ raw
    (fact 𝓤 (h.open ≢ 0)) ∷ []) ∵
    move ! (1 ∷ []) $ heard ! _ (λ is_open.
    split ! $ split ! $ move ! (2 ∷ []) $ split ! $ move ! (1 ∷ []) $ split ! $ keep ! (2 ∷ 0 ∷ 3 ∷ []) $
    enter ! _ _ _ _ _ $ alloc_all ! (λ l. pass_all ! refl ((tt, tt), ((tt, ((tt, tt), tt)), tt)) $
    fsplit3 ! $ move ! (1 ∷ 2 ∷ 4 ∷ []) $ opens ! tt R b o (λ us.
    move ! (1 ∷ []) $ peeks ! R _ (shows 𝓛 R) h us (λ is. fsplit ! $ move ! (1 ∷ []) $
    rewrite ! 0 (λ (t : Bool). ‵ (owns_if t (box_owns block_token X h.at h.history))) (is_nonzero h.open is_open) refl $
    let Cell = λ (ws : List Val). ‵ (cell_at full_share R.mir ws b o) in
    let word = lowers.val_is h us is in
    rewrite ! 2 Cell word refl $
    -- [the box's memory; the fields; the struct's cell; the open borrow, in three entries; the first part of self; the allocator]
    assigns ! (of_opd ! (lit ! tt)) (through ! refl (fld ! refl (stop !)))
    (store_in ! 2 (sub ! 0 refl (whole !)) (tt, record { fits = lit< tt })) $
    first ! $ blocks ! $
    sets ! (of_opd ! (load ! (through ! refl (fld ! refl (stop !))) (look_in ! 2 (sub ! 1 refl (whole !))))) refl pointer $
    sets ! (of_opd ! (get ! refl)) refl pointer $
    -- the call's right side
    let G = triple_of 𝓛 (g.signature X Z heap_impl.ghosts heap_impl.dict no_drop)
    (g.spec X Z heap_impl.ghosts heap_impl.dict no_drop 𝓛 𝓜.mem 𝓡.returns) in
    let T = g.ended X Z heap_impl.ghosts heap_impl.dict no_drop in
    let passed = heap_met.passed 𝓡.env (code.calls-std_heap::GlobalAllocator::allocate 𝓡.env wired)
    (code.calls-std_heap::GlobalAllocator::deallocate 𝓡.env wired)
    (code.calls-std_heap::GlobalAllocator::grow 𝓡.env wired) (code.calls-std_heap::GlobalAllocator::shrink 𝓡.env wired) M 𝓤 𝓛 𝓜 𝓡 in
    let glue = NoDrop.glues "history_handles::Destruct++none::drop" 𝓡.env (code.calls-history_handles::Destruct++none::drop 𝓡.env wired) Z
    LZ M 𝓤 𝓛 𝓜 𝓡 in
    let known = made.met 𝓤 𝓛 𝓜 𝓡 (code.calls-std_alloc::boxed::Box::from_raw 𝓡.env wired) X Z L LZ heap_impl.ghosts heap_impl.dict no_drop
    passed glue in
    let x : G.Ghost = ((([], ([], tt)), (full_share, (full_share, tt)), tt, (z, (h.at, tt)), (zs, (ptr_val h.at ∷ [], tt))), h.history) in
    use0 𝓛 (raw (fact 𝓤 ([] ⊑ Z.lives))) (fact_i 𝓤 _ (emp 𝓤) (⊑_static [])) $ join ! $
    use0 𝓛 (raw (fact 𝓤 ([] ⊑ X.lives))) (fact_i 𝓤 _ (emp 𝓤) (⊑_static [])) $ join ! $
    nothing ! $ feq_i ! (List Val) _ _ refl $ move ! (9 ∷ 0 ∷ 1 ∷ []) $ fjoin3 ! $
    nothing ! $ use0 𝓛 (‵ (flft [] full_share)) (𝓛.lfts.lft-nil full_share) $ join ! $ use0 𝓛 (‵ (flft [] full_share))
    (𝓛.lfts.lft-nil full_share) $ join ! $
    join ! $ join ! $ use1 𝓛 (raw (G.pre x)) (id⊢ 𝓤 _) $
    calls_at_last ! (framed 𝓤 𝓛.H 𝓜 𝓣) G known x (and_then ! (get ! refl) (and_then ! (get ! refl) (no_more !))) (λ u.
    use1 𝓛 (later (some (λ (r : B.Denot). ((‵ (flft [] full_share) ⊛ ‵ (flft [] full_share) ⊛ ‵ ftrue) ⊛ ‵ (B.own_val r (u ∷ [])))
    ⊛ some (λ (ws : Lasts T x.0.0 x.0.3). ‵ (lasts T x.0.0 x.0.3 ws) ⊛ (raw (fact 𝓤 (r.value ≡ h.history)) ⊛ raw (fact 𝓤 (r.alloc ≡ z)))))))
    (id⊢ 𝓤 _) $
    await ! tt $ pick ! (λ r. split ! $ move ! (1 ∷ []) $ pick ! (λ _. split3 ! $ drop ! $ heard ! _ (λ same. drop ! $ split ! $ drop ! $
    -- [the box; the fields; the struct's cell; the open borrow, in three entries; the first part of self]
    peeks ! B _ (shows 𝓛 B) r (u ∷ []) (λ made_is.
    let typed = ((boxed_laws.the_field_loose inner.the_row heap.the_row heap_impl.ghosts inner_laws.the_row_laws
    heap_laws.the_row_laws).lawful 𝓛).typed r (u ∷ []) made_is in
    lands_last ! refl typed.0 $ exec ! 𝓣.C 𝓣.Λ (env code.Mir.locals l) code.Mir.t-3 (at_ret _ (W.post y)) $
    sets ! (of_opd ! (get ! refl)) refl typed.0 $
    let now = record h { «open» = 0 } in let ws = lowers.lowered now ∷ [] in
    nothing ! $ feq_i ! (List Val) (ptr_val h.at ∷ []) (ptr_val h.at ∷ []) refl $ fjoin ! $
    owned ! u32 _ (uint_Makes 𝓛 w32) 0 (vint w32 0 ∷ []) (refl, lit< tt) $ fjoin ! $ feq_i ! (List Val) ws ws refl $ fjoin ! $
    fpack ! (Valss (u32 ∷ RawPtr ∷ [])) (within (shape the_type) (0, (h.at, tt)) ws) (vint w32 0 ∷ [], (ptr_val h.at ∷ [], tt)) $
    nothing ! $ move ! (1 ∷ 0 ∷ []) $ fjoin ! $
    -- [what the closed handle owns; the box; the old fields; the struct's cell; the open borrow, in three entries; the first part of self]
    move ! (3 ∷ 0 ∷ 4 ∷ 5 ∷ 6 ∷ []) $ closes ! tt R now ws b o $
    returns ! (look_at ! 0 refl) $ free_all ! refl $ keep ! (5 ∷ 0 ∷ 1 ∷ 2 ∷ 3 ∷ []) $
    suffices ! _ (ends_at 𝓛 f.ended stayed c y u r (now, (tt, tt)) (tt, (tt, tt))) $ says ! (same, refl) $
    group ! 3 $ nothing ! $ nothing ! $ join ! $ move ! (1 ∷ 0 ∷ []) $ join ! $ nothing ! $ move !
    (2 ∷ 0 ∷ []) $ join ! $ frame ! $ frame ! $ done !))))))))))
