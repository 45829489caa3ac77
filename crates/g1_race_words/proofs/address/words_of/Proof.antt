-- `words_of` reads the first field of the table, which is a pointer to its words.
use Rattle.atomic_table.proofs.Names.{◌≡◌, ℕ, ◌+◌, List, [], ◌∷◌, sym, refl, ap, a_type, dcons, dnil, named, Val, vptr, inst_fn, SProp, Lft, Fml, ftrue, fsep, flft, sem, emp, ent, sep, ‵, raw, ◌⊛◌, given, at_ret, ◌$◌, ◌∵◌, !, qed, by, move, keep, done, split, join, fsplit, fjoin, learn, rewrite, arith, use0, use1, feq_i, stop, load, addr, of_opd, first, blocks, exec, returns, enter, alloc_all, pass_all, free_all, look_at, get, through, sets, sets_last, env, tables, yes, RattleType, owns, types_at, plain, Ptr, block_ptr, ptr_val, nothing, param, bounded, Stays, stay_dropped, walk_of, Goes-dropped, fact, fact_i, fact_use, block_of, count_of, at_block, Coded, guard_i, RefOf, RawPtr, shr_vals, shr_Tells, unhide, hidden_shr, lent_out, Tuple}
use types.Run.{look}
use denote.Opens.{hide, shr_dup}
use Rattle.g1_race_words.specs.{ptr_row_laws, TableId, Placed, common}
use Rattle.std.proofs.Words.{pointer_in, pointer_out}
use Rattle.atomic_table.proofs.Walks.{proved, leaves}
use Rattle.core.proofs.atomic.Steps.{tail}
use Rattle.core.specs.contracts.marker.PhantomData as marker
use Rattle.atomic_table.specs.contracts.shared.Shared as table
use Rattle.atomic_table.proofs.Fields.{HandData}
use Rattle.atomic_table.proofs.Moves.{placed}
use Rattle.g1_race_words.specs.contracts.address.words_of.{ended, clauses}
use Rattle.g1_race_words.specs.contracts.address.words_of.Key.{name as #self}
use Rattle.g1_race_words.proofs.address.words_of.Statement.{statement}
use Rattle.g1_race_words.proofs.address.words_of.Code as code

pub words_of_spec : {M : Type 1} → statement M
unfolding Rattle.atomic_table.specs.Seated.seal
words_of_spec 𝓤 𝓛 𝓜 𝓡 wired T U Q P _ _ _ _ g d _ =
    let H = 𝓛.H in let 𝓣 = tables 𝓤 H 𝓜 𝓡 𝓡.env in let R : RattleType = param 0 T in let W : RattleType = param 1 U in let X : RattleType = param 2 Q in let Y : RattleType = param 3 P in let En = ended T U Q P g d in
    let inst = bounded (a_type ∷ a_type ∷ a_type ∷ a_type ∷ []) (T, (U, (Q, (P, tt)))) (dcons d dnil) in let fn = inst_fn inst code.function in
    let Row : RattleType = table.the_row R W X Y g in let D : RattleType = HandData R W X Y g in let self = RefOf (0 ∷ []) tt (plain (λ _. Row)) (λ _. tt) in
    let hs : Stays En.signature.params En.kept = (stay_dropped self yes, tt) in let c = clauses T U Q P g d 𝓛 𝓜.mem 𝓡.returns in
    proved 𝓛 En hs c 𝓜 𝓡 (Goes-dropped 𝓛 5 self yes (λ κs x f. refl), tt) (#self inst) fn (code.unfolded 𝓤 H 𝓜 𝓡 wired (T, (U, (Q, (P, tt)))) d)
    (λ κs. (shr_vals, tt)) (λ κs. (shr_Tells (named 0) κs.0 Row, tt)) (λ κs qs bounds a gh are.
    let b : ℕ = a.0.ref_ptr.0 in let o : ℕ = a.0.ref_ptr.1 in let κ : Lft = κs.0 in let t : Row.Denot = a.0.now in let w : Ptr = t.words in let p : Ptr = t.slots in let z : TableId = t.table_id in
    let cv : Coded U.Denot = W.coded in let C : Fml = common R cv.code (g.holds t.key) w p z in
    let y : (walk_of 𝓛 En hs c).Ghost = ((κs, qs, bounds, a, (vptr a.0.ref_ptr.0 a.0.ref_ptr.1 ∷ [], tt)), gh) in let Post : Val → SProp 𝓤 = (walk_of 𝓛 En hs c).post y in
    let others : Fml = fsep (flft κs.1.0 qs.1.0) (fsep (flft κs.1.1.0 qs.1.1.0) (fsep (flft κs.1.1.1.0 qs.1.1.1.0) (fsep (flft κs.1.1.1.1.0 qs.1.1.1.1.0) ftrue))) in
    let S : Fml = hidden_shr RawPtr κ w b o in let here : o + 0 ≡ o = omega arith in
    let shown : ent 𝓤 (sem 𝓛 S) (sep 𝓤 (sem 𝓛 S) (sem 𝓛 S)) = qed 𝓛 (‵ S ∷ []) ∵ shr_dup ! RawPtr ptr_row_laws w b o κ $ done ! in
    qed 𝓛 (((‵ (flft κs.0 qs.0) ⊛ ‵ others) ⊛ ‵ (owns (types_at En.signature.params κs) a y.0.4)) ∷ raw ((c κs a).requires gh) ∷ []) ∵
    keep ! (0 ∷ []) $ split ! $ split ! $ move ! (2 ∷ []) $ fsplit ! $ fsplit ! $ keep ! (1 ∷ 3 ∷ 4 ∷ []) $
    enter ! 𝓣.C 𝓣.Λ fn (vptr a.0.ref_ptr.0 a.0.ref_ptr.1 ∷ []) Post $ alloc_all ! (λ l. pass_all ! refl ((tt, tt), tt) $ let Ev = env fn.locals l in
    sets ! (addr ! (through ! refl (stop !))) refl (tt, tt) $ sets ! (of_opd ! (get ! refl)) refl (tt, tt) $
    use1 𝓛 (‵ (hidden_shr D κ (w, (p, (tt, tt))) b o) ⊛ ‵ (base.Fml.fhide (table.the_lent R W X Y g t (block_ptr b o) κ))) (lent_out 𝓛 (table.struct R W X Y g) (table.the_codes T.Denot U.Denot Q.Denot P.Denot R.coded W.coded X.coded Y.coded (marker.the_row (Tuple (Y ∷ W ∷ X ∷ []))).coded) (table.the_heap R W X Y g) (table.the_lent R W X Y g) κ t b o) $
    split ! $ move ! (1 ∷ []) $ unhide ! $ fsplit ! $ move ! (1 ∷ []) $
    use1 𝓛 (given (Placed R w p z) (‵ C)) (fact_use 𝓤 _ (placed 𝓛 R cv (g.holds t.key) w p z) (guard_i 𝓤 (Placed R w p z) (sem 𝓛 C))) $ learn ! (λ at. move ! (2 ∷ 3 ∷ []) $
    unhide ! $ fsplit ! $ fsplit ! $ hide ! $ move ! (0 ∷ 3 ∷ []) $ rewrite ! 0 (λ (k : ℕ). ‵ (hidden_shr RawPtr κ w b k)) here refl $ first ! $ blocks ! $
    pointer_in ! tt w at.0 b o shown (λ q'.
    sets_last ! (of_opd ! (load ! (through ! refl (stop !)) (look ! 1 refl))) refl (tt, tt) $
    exec ! 𝓣.C 𝓣.Λ Ev (tail (tail (tail fn.body))) (at_ret Ev Post) $ pointer_out ! tt w at.0 b o $
    sets ! (of_opd ! (get ! refl)) refl (tt, tt) $ let v : Val = vptr (block_of w) (count_of w) in
    nothing ! $ nothing ! $ fjoin ! $ move ! (1 ∷ 7 ∷ []) $ join ! $ use0 𝓛 (raw (fact 𝓤 (w ≡ w))) (fact_i 𝓤 (w ≡ w) (emp 𝓤) refl) $
    feq_i ! (List Val) (v ∷ []) (ptr_val w ∷ []) (ap (λ (r : Ptr). ptr_val r ∷ []) (sym (at_block w at.0))) $
    returns ! (look_at ! 0 refl) $ free_all ! refl $ keep ! (2 ∷ 3 ∷ 0 ∷ 1 ∷ []) $ by ! (leaves 𝓛 En hs c y v w (tt, tt) (tt, tt))))))
