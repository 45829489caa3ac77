-- `into_box` makes the box again, where the pointer is not null.
use Rattle.std.specs.Prelude.{◌≡◌, ◌∷◌, ◌++◌}
use Rattle.g1_handles.specs.{List, [], refl, sym, ap, ◌∙◌, subst, lit<, Some, None, SProp, emp, id⊢, ftrue, flft, WpFn, fact, fact_i, tables, Ptr, block_ptr, ptr_val, tests_null, ghosts}
use Rattle.g1_handles.proofs.{Fn, a_type, dcons, dnil, inst_fn, Val, vptr, vnull, vcons, vnil, ‵, raw, ◌⊛◌, prop, some, later, at_ret, any_q, ◌$◌, ◌∵◌, !, qed, by, move, keep, drop, use0, use1, await, pick, split, split3, join, regoal, rewrite, feq_i, fsplit, fjoin, whole, sub, agg, stop, fld, lit, of_opd, bin, no_more, and_then, first, blocks, branches, exec, returns, enter, alloc_all, pass_all, free_all, look_at, get, get_in, sets, sets_last, lands_last, env, no, RattleType, owns, types_at, type_at, nothing, only, heard, param, layout, bounded, triple_of, calls_at_last, Good, after, fm, and_tt, box_out, box_in, A, A_laws, both, Z, undropped, box_at, filled_good, closed_good, words_out, either, plain, Stays, stay_dropped, walk_of, Goes-blank, proved_at, leaves}
use base.Fraction.{full_share}
use contract.BorrowLft.{◌⊑◌, ⊑_static}
use denote.Param.NoDrop.{glues}
use denote.Triple.Clauses.{Lasts, lasts}
use mir.Syntax.{Body, seq, assign, place, rv_opd, copy, aggregate, int, w8}
use prog.Wp.{after_seq, Wp}
use types.Kit.{post}
use types.Match.{live}
use Rattle.core.proofs.option.Made.{Some-of, none_of}
use Rattle.std.proofs.impls.GlobalAllocator.TheImpl.Met.{passed}
use Rattle.std.specs.contracts.impls.GlobalAllocator.TheImpl.{dict}
use Rattle.std_alloc.proofs.BoxSteps.Form as box
use Rattle.std_alloc.specs.contracts.boxed.Box as B-type
use Rattle.std_alloc.specs.contracts.boxed.Box.from_raw as callee
use Rattle.std_alloc.proofs.boxed.Box.from_raw.Met.{met}
use Rattle.g1_handles.specs.contracts.nullable_box.NullableBox as boxed
use Rattle.g1_handles.specs.contracts.nullable_box.NullableBox.into_box.{ended, clauses}
use Rattle.g1_handles.specs.contracts.nullable_box.NullableBox.into_box.Key.{name as #self}
use Rattle.g1_handles.proofs.nullable_box.NullableBox.into_box.Statement.{statement}
use Rattle.g1_handles.proofs.nullable_box.NullableBox.into_box.Code as code

-- what follows the call
wraps : Body
wraps = seq (assign (place 7 []) (rv_opd (copy (place 8 [])))) (assign (place 6 []) (aggregate (int w8 1 ∷ copy (place 7 []) ∷ [])))

pub into_box_spec : {M : Type 1} → statement M
unfolding wraps Rattle.g1_handles.proofs.Destruct++none.drop.Code.code
into_box_spec {M} 𝓤 𝓛 𝓜 𝓡 wired T L d glue =
    let H = 𝓛.H in let 𝓣 = tables 𝓤 H 𝓜 𝓡 𝓡.env in let C = 𝓣.C in let Λ = 𝓣.Λ in let R : RattleType = param 0 T in let En = ended T d in let c = clauses T d 𝓛 𝓜.mem 𝓡.returns in
    let E : box.Bx = box_at T L in let B : RattleType = B-type.the_row R Z ghosts in let at = bounded (a_type ∷ []) (T, tt) (dcons d dnil) in let fn : Fn = inst_fn at code.function in
    let hs : Stays En.signature.params En.kept = (stay_dropped (plain (λ _. boxed.the_row R)) no, tt) in
    proved_at 𝓛 En hs c 𝓜 𝓡 (Goes-blank 𝓛 1 (plain (λ _. boxed.the_row R)) no (λ κs x f. tt), tt) (#self at) fn (code.unfolded 𝓤 H 𝓜 𝓡 wired (T, tt) d) (λ z are.
    let κs = z.0.0 in let qs = z.0.1 in let v = z.0.3.0 in let a = v.alloc in let vss = z.0.4 in let Post : Val → SProp 𝓤 = (walk_of 𝓛 En hs c).post z in let Out : RattleType = type_at En.signature.result κs in
    let here = ‵ (flft κs.0 qs.0) in let ever = ‵ (flft [] full_share) in let toks = here ⊛ ever ⊛ ‵ ftrue in
    qed 𝓛 (((here ⊛ ‵ ftrue) ⊛ ‵ (owns (types_at En.signature.params κs) z.0.3 vss)) ∷ raw ((c κs z.0.3).requires z.1) ∷ []) ∵ split ! $ move ! (1 ∷ []) $ fsplit ! $
    words_out R (boxed.the_type R).name (R ∷ []) ! v.at a v.value vss.0 (λ h ws fits. either R ! a v.at v.value
    (λ at e. let typed = closed_good h fits in
    regoal ! (λ (us : List Val). prop (WpFn 𝓤 H C Λ fn us Post)) (λ i. subst (λ (r : Ptr). vss.0 ≡ both (ptr_val r) h ∷ []) at ws i ++ []) refl $
    enter ! C Λ fn (both vnull h ∷ []) Post $ alloc_all ! (λ l. pass_all ! refl (typed, tt) $ let Ev = env fn.locals l in
    sets ! (of_opd ! (get_in ! (fld ! refl (stop !)) (sub ! 0 refl (whole !)))) refl (tt, record { fits = lit< tt }) $
    sets ! (of_opd ! (get_in ! (fld ! refl (stop !)) (sub ! 1 refl (whole !)))) refl fits $
    sets ! (of_opd ! (get ! refl)) refl (tt, record { fits = lit< tt }) $ sets ! (bin ! (get ! refl) (lit ! tt) tt) refl (tt, tt) $ first ! $ branches ! (get ! refl)
    (λ _. sets_last ! (agg ! (and_then ! (lit ! tt) (no_more !))) refl (tt, (record { fits = lit< tt }, tt)) $ exec ! C Λ Ev (after 5 fn.body) (at_ret Ev Post) $ sets ! (of_opd ! (get ! refl)) refl (tt, (record { fits = lit< tt }, tt)) $
    use0 𝓛 (‵ (Out.own_val None (live 0 vnil ∷ []))) (none_of 𝓛 B) $
    use0 𝓛 (raw (fact 𝓤 (v.value ≡ None))) (fact_i 𝓤 (v.value ≡ None) (emp 𝓤) e) $ nothing ! $ nothing ! $ fjoin ! $
    returns ! (look_at ! 0 refl) $ free_all ! refl $ keep ! (5 ∷ 0 ∷ 2 ∷ 1 ∷ []) $ by ! (leaves 𝓛 En hs c z (live 0 vnil) None (tt, tt) (tt, tt))) (λ wrong. absurd wrong)))
    (λ b o m at e may. let typed = filled_good b o h fits in let k = triple_of 𝓛 (callee.signature T A ghosts dict undropped) (callee.spec T A ghosts dict undropped 𝓛 𝓜.mem 𝓡.returns) in let Ce = callee.ended T A ghosts dict undropped in
    let y : k.Ghost = (((κs.0, ([], tt)), (qs.0, (full_share, tt)), tt, (a, (block_ptr b o, tt)), (h ∷ [], (vptr b o ∷ [], tt))), m) in
    move ! (4 ∷ []) $ use1 𝓛 (raw (fact 𝓤 (κs.0 ⊑ T.lives)) ⊛ ‵ ftrue) (id⊢ 𝓤 _) $ split ! $ move ! (1 ∷ []) $ drop ! $ use0 𝓛 (raw (fact 𝓤 ([] ⊑ A.lives))) (fact_i 𝓤 ([] ⊑ A.lives) (emp 𝓤) (⊑_static [])) $
    move ! (0 ∷ 2 ∷ []) $ join ! $ move ! (1 ∷ 0 ∷ []) $ join ! $
    move ! (2 ∷ []) $ feq_i ! (List Val) (vptr b o ∷ []) (vptr b o ∷ []) refl $ fjoin ! $ move ! (2 ∷ 0 ∷ []) $ fjoin ! $
    move ! (2 ∷ []) $ split ! $ use0 𝓛 ever (𝓛.lfts.lft-nil full_share) $ move ! (0 ∷ 2 ∷ []) $ join ! $ move ! (1 ∷ 0 ∷ []) $ join ! $ join ! $ join ! $ use1 𝓛 (raw (k.pre y)) (id⊢ 𝓤 _) $
    regoal ! (λ (us : List Val). prop (WpFn 𝓤 H C Λ fn us Post)) (λ i. subst (λ (r : Ptr). vss.0 ≡ both (ptr_val r) h ∷ []) at ws i ++ []) refl $
    enter ! C Λ fn (both (vptr b o) h ∷ []) Post $ alloc_all ! (λ l. pass_all ! refl (typed, tt) $ let Ev = env fn.locals l in
    let rest = any_q (after_seq 𝓤 H (Wp 𝓤 H C Λ Ev (after 5 fn.body) (post 𝓤 H (at_ret Ev Post))) (post 𝓤 H (at_ret Ev Post))) in
    sets ! (of_opd ! (get_in ! (fld ! refl (stop !)) (sub ! 0 refl (whole !)))) refl (tt, tt) $
    sets ! (of_opd ! (get_in ! (fld ! refl (stop !)) (sub ! 1 refl (whole !)))) refl fits $
    sets ! (of_opd ! (get ! refl)) refl (tt, tt) $ sets ! (bin ! (get ! refl) (lit ! tt) (tests_null (block_ptr b o) may)) refl (tt, tt) $ first ! $ branches ! (get ! refl) (λ wrong. absurd wrong) (λ _.
    first ! $ blocks ! $ sets ! (of_opd ! (get ! refl)) refl fits $ sets ! (of_opd ! (get ! refl)) refl (tt, tt) $
    calls_at_last ! (fm 𝓛 𝓜 𝓡) k (met 𝓤 𝓛 𝓜 𝓡 (code.calls-std_alloc::boxed::Box::from_raw 𝓡.env wired) T A L A_laws ghosts dict undropped
    (passed 𝓡.env (code.calls-std_heap::GlobalAllocator::allocate 𝓡.env wired) (code.calls-std_heap::GlobalAllocator::deallocate 𝓡.env wired) (code.calls-std_heap::GlobalAllocator::grow 𝓡.env wired) (code.calls-std_heap::GlobalAllocator::shrink 𝓡.env wired) M 𝓤 𝓛 𝓜 𝓡)
    (glues "g1_handles::Destruct++none::drop" 𝓡.env (code.calls-g1_handles::Destruct++none::drop 𝓡.env wired) A A_laws M 𝓤 𝓛 𝓜 𝓡)) y (and_then ! (get ! refl) (and_then ! (get ! refl) (no_more !))) (λ u.
    use1 𝓛 (later (some (λ (r : B.Denot). (toks ⊛ ‵ (B.own_val r (u ∷ []))) ⊛ some (λ (ls : Lasts Ce y.0.0 y.0.3). ‵ (lasts Ce y.0.0 y.0.3 ls) ⊛ (raw (fact 𝓤 (r.value ≡ m)) ⊛ raw (fact 𝓤 (r.alloc ≡ a))))))) (id⊢ 𝓤 (k.post y u)) $
    await ! tt $ pick ! (λ r. split ! $ move ! (1 ∷ []) $ pick ! (λ _. split3 ! $ drop ! $ move ! (1 ∷ []) $ drop ! $ heard ! (r.value ≡ m) (λ same. split ! $ move ! (1 ∷ []) $
    box_out E ! r (u ∷ []) (λ b' o' h' e' us fits'. box_in E ! r b' o' r.value e' refl $ rewrite ! 0 (λ (xs : List Val). ‵ (B.own_val r xs)) (sym us) refl $
    let held : Good (layout B) u = subst (Good (layout B)) (sym (ap only us)) (filled_good b' o' h' fits') in let v₁ : Val = live 1 (vcons u vnil) in
    let good : Good (layout Out) v₁ = (and_tt _ held.0, (record { fits = lit< tt }, (held.1, tt))) in
    lands_last ! refl held $ exec ! C Λ Ev wraps rest $ sets ! (of_opd ! (get ! refl)) refl held $ sets_last ! (agg ! (and_then ! (lit ! tt) (and_then ! (get ! refl) (no_more !)))) refl good $
    exec ! C Λ Ev (after 5 fn.body) (at_ret Ev Post) $ sets ! (of_opd ! (get ! refl)) refl good $
    use1 𝓛 (‵ (Out.own_val (Some r) (v₁ ∷ []))) (Some-of 𝓛 B r u) $
    use0 𝓛 (raw (fact 𝓤 (v.value ≡ Some r.value))) (fact_i 𝓤 (v.value ≡ Some r.value) (emp 𝓤) (e ∙ ap (λ (x : R.Denot). Some x) (sym same))) $ nothing ! $ nothing ! $ fjoin ! $
    move ! (3 ∷ []) $ split3 ! $ move ! (1 ∷ []) $ drop ! $ join ! $
    returns ! (look_at ! 0 refl) $ free_all ! refl $ keep ! (0 ∷ 1 ∷ 3 ∷ 2 ∷ []) $ by ! (leaves 𝓛 En hs c z v₁ (Some r) (tt, tt) (tt, tt))))))))))))
