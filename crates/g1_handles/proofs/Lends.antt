-- A handle lends what it holds: `lent`. Assumes `Logic`.
use Rattle.std.specs.Prelude.{◌≡◌, ◌∷◌, ◌++◌}
use Rattle.g1_handles.specs.{ℕ, List, [], refl, sym, subst, lit<, id⊢, Option, Some, None, MatchOption, Ura, Fml, SProp, ent, sep, emp, ftrue, fsep, flft, fact, fact_i, WpFn, Calls, Loops, Ptr, block_ptr, null_ptr, ptr_val, tests_null, Global, ghosts}
use Rattle.g1_handles.proofs.Prelude.{Sym, Ty, Fn, local, value_local, ty_ptr, assign, place, field, rv_opd, copy, aggregate, seq, return, Val, vptr, vnull, vcons, vnil, Logic, sem, ‵, raw, ◌⊛◌, prop, some, later, at_ret, any_q, ◌$◌, ◌∵◌, !, qed, by, move, keep, use0, use1, await, pick, split, split3, join, regoal, rewrite, feq_i, feq_l, fsplit, fjoin, fpack, whole, sub, agg, stop, fld, lit, of_opd, bin, no_more, and_then, first, blocks, branches, exec, returns, enter, alloc_all, pass_all, free_all, look_at, get, sets, sets_last, env, RattleType, layout, nothing, Struct, after, Ptr-Good}
use Rattle.g1_handles.proofs.Values.{Z, both, shape, owned, words_out, words_in, either, some_in}
use base.Fml.{fres, Lft, GName, Share}
use base.Fraction.{full_share}
use mir.Raw.{raw as bare}
use mir.Syntax.{Body, named, erased, mut, ty_ref, ty_bool, deref, addr_of, op2, ptr_eq, int, w8, w64, cond, block}
use prog.Wp.{after_seq, Wp}
use types.Kit.{post, group, done}
use types.Match.{live}
use types.Part.{look_in}
use types.Run.{load, addr}
use types.ByLocal.{through}
use denote.Follow.{follows, follows_by, follows_if, Part, lends_Part}
use denote.Memory.{cell_at, part_at, part_of, mem, pointee}
use denote.Ref.{MutBor, MutRef}
use denote.Steps.{opens, closes}
use Rattle.core.proofs.option.Made.{Some-of, none_of}
use Rattle.core.specs.Option.{ghost_name_of}
use Rattle.core.specs.contracts.option.Option as Opt

-- what follows the loan
abbrev wraps : Body
wraps = seq (assign (place 7 []) (rv_opd (copy (place 8 [])))) (assign (place 6 []) (aggregate (int w8 1 ∷ copy (place 7 []) ∷ [])))

-- looks whether the pointer in a handle of type B is null, and lends the value behind it
abbrev pub lends : Ty → RattleType → RattleType → Fn
lends word B R = record {
  lifetimes = 1;
  outlives = [];
  ty_params = [];
  givens = 0;
  params = 1;
  locals = local (layout (Opt.the_row (MutRef (named 0) [] R))) value_local ∷ local (ty_ref (named 0) mut (pointee B.written)) value_local ∷ local ty_ptr value_local ∷ local ty_ptr value_local ∷ local ty_ptr value_local ∷ local ty_bool value_local
      ∷ local (layout (Opt.the_row (MutRef erased [] R))) value_local ∷ local (ty_ref erased mut (pointee R.written)) value_local ∷ local (ty_ref erased mut (pointee R.written)) value_local ∷ [];
  body = seq (assign (place 3 []) (rv_opd (copy (place 1 (deref word ∷ field 0 ∷ [])))))
      (seq (assign (place 2 []) (rv_opd (copy (place 3 []))))
      (seq (assign (place 4 []) (rv_opd (copy (place 2 []))))
      (seq (assign (place 5 []) (op2 ptr_eq (copy (place 4 [])) (int w64 0)))
      (seq (cond (copy (place 5 [])) (assign (place 6 []) (aggregate (int w8 0 ∷ []))) (seq (block (assign (place 8 []) (addr_of (place 2 (deref (layout R) ∷ []))))) wraps))
      (seq (assign (place 0 []) (rv_opd (copy (place 6 []))))
      return)))));
}

-- B is the handle's type, made of a pointer, an allocator and a value
module _ (B R : RattleType) (n : Sym) (ts : List RattleType) (make : Ptr → Global → Option R.Denot → B.Denot) (mir : B.mir ≡ (Struct (shape R n ts)).mir)
    (own : (p : Ptr) (a : Global) (v : Option R.Denot) (vs : List Val) → B.own_val (make p a v) vs ≡ owned R n ts p a v vs)
    {M : Type 1} (𝓤 : Ura M) (𝓛 : Logic 𝓤) (κ : Lft) (q : Share) (rb ro : ℕ) (γ : GName) (p : Ptr) (a : Global) (v : Option R.Denot) where
  open 𝓛 use {H}

  abbrev fn : Fn
  fn = lends (layout (Struct (shape R n ts))) B R

  abbrev Lent : RattleType
  Lent = MutRef (named 0) κ R

  -- what the handle is at the end of the loan
  abbrev Says : Option (MutBor R.Denot) → Fml
  Says r = follows_if B R γ (ghost_name_of r) (λ w. make p a (Some w)) (make p a v)

  said_some : (r : MutBor R.Denot) → ent 𝓤 (sem 𝓛 (follows B R γ r.ghost_name (λ w. make p a (Some w)))) (sem 𝓛 (Says (Some r)))
  unfolding follows_by
  said_some r = id⊢ 𝓤 _

  said_none : ent 𝓤 (sem 𝓛 (fres γ (B.coded.code (make p a v)))) (sem 𝓛 (Says None))
  unfolding follows_by
  said_none = id⊢ 𝓤 _

  module _ (b o : ℕ) (at : p ≡ block_ptr b o) (h : Val) where
    -- all of an open handle but its value
    abbrev Rest : Fml
    Rest = fsep (ghosts.dealloc_token a (bare (layout R)) (block_ptr b o)) (fsep (Z.own_val a (h ∷ [])) (cell_at full_share (Struct (shape R n ts)).mir (both (vptr b o) h ∷ []) rb ro))

    abbrev with_value : R.Denot → B.Denot
    with_value w = make p a (Some w)

    back : (w : R.Denot) → ent 𝓤 (sep 𝓤 (sem 𝓛 ((mem R).own_at w b o)) (sem 𝓛 Rest)) (sem 𝓛 ((mem B).own_at (with_value w) rb ro))
    unfolding part_of
    back w =
        qed 𝓛 (‵ (part_at R full_share w b o) ∷ ‵ Rest ∷ []) ∵ move ! (1 ∷ []) $ fsplit ! $ move ! (2 ∷ 0 ∷ []) $ fjoin ! $ some_in R ! b o a w $ move ! (1 ∷ []) $ fsplit ! $ move ! (2 ∷ 0 ∷ []) $
        words_in R n ts ! (block_ptr b o) a (Some w) h $ rewrite ! 0 (λ (r : Ptr). ‵ (owned R n ts r a (Some w) (both (vptr b o) h ∷ []))) (sym at) refl $ rewrite ! 0 (λ (F : Fml). ‵ F) (sym (own p a (Some w) (both (vptr b o) h ∷ []))) refl $
        move ! (1 ∷ []) $ rewrite ! 0 (λ (τs : List Ty). ‵ (cell_at full_share τs (both (vptr b o) h ∷ []) rb ro)) (sym mir) refl $ fjoin ! $
        fpack ! (List Val) (λ us. fsep (cell_at full_share B.mir us rb ro) (B.own_val (with_value w) us)) (both (vptr b o) h ∷ []) $ done !

  module _ (C : Calls 𝓤 H) (Λ : Loops 𝓤 H) where
    -- X is what else is known, Y what was asked, and us the machine values of the reference
    pub lent : (Y : SProp 𝓤) (Post : Val → SProp 𝓤) (us : List Val)
        → ((r : Option (MutBor R.Denot)) (w : Val) → ent 𝓤 (sep 𝓤 (sep 𝓤 (sem 𝓛 (flft κ q)) (sem 𝓛 ftrue)) (sep 𝓤 (sem 𝓛 (fsep ftrue ftrue)) (sep 𝓤 (sem 𝓛 ((Opt.the_row Lent).own_val r (w ∷ []))) (sep 𝓤 (sem 𝓛 (Says r)) (fact 𝓤 (MatchOption r (v ≡ None) (λ x. v ≡ Some x.now))))))) (Post w))
        → ent 𝓤 (sep 𝓤 (sep 𝓤 (sep 𝓤 (sem 𝓛 (flft κ q)) (sem 𝓛 ftrue)) (sem 𝓛 (fsep ((MutRef (named 0) κ B).own_val (record { ref_ptr = (rb, ro); ghost_name = γ; now = make p a v }) us) ftrue))) Y) (WpFn 𝓤 H C Λ fn (us ++ []) Post)
    lent Y Post us leaves = let code = B.coded.code (make p a v) in
        qed 𝓛 (((‵ (flft κ q) ⊛ ‵ ftrue) ⊛ ‵ (fsep ((MutRef (named 0) κ B).own_val (record { ref_ptr = (rb, ro); ghost_name = γ; now = make p a v }) us) ftrue)) ∷ raw Y ∷ []) ∵
        split ! $ split ! $ move ! (2 ∷ []) $ fsplit ! $ fsplit ! $ feq_l ! (λ e. fsplit ! $ keep ! (0 ∷ 1 ∷ 3 ∷ []) $
        regoal ! (λ (vs : List Val). prop (WpFn 𝓤 H C Λ fn vs Post)) (λ i. e i ++ []) refl $
        enter ! C Λ fn (vptr rb ro ∷ []) Post $ alloc_all ! (λ l. pass_all ! refl ((tt, tt), tt) $ let Ev = env fn.locals l in
        let rest = any_q (after_seq 𝓤 H (Wp 𝓤 H C Λ Ev (after 5 fn.body) (post 𝓤 H (at_ret Ev Post))) (post 𝓤 H (at_ret Ev Post))) in
        opens ! tt B {h = make p a v} rb ro (λ vs. move ! (1 ∷ []) $ rewrite ! 0 (λ (F : Fml). ‵ F) (own p a v vs) refl $ words_out R n ts ! p a v vs (λ h ws fits. either R ! a p v
        (λ at none. let w : Val = both vnull h in let d = make p a v in
        rewrite ! 1 (λ (xs : List Val). ‵ (cell_at full_share B.mir xs rb ro)) (subst (λ (r : Ptr). vs ≡ both (ptr_val r) h ∷ []) at ws) refl $
        rewrite ! 1 (λ (τs : List Ty). ‵ (cell_at full_share τs (w ∷ []) rb ro)) mir refl $
        sets ! (of_opd ! (load ! (through ! refl (fld ! refl (stop !))) (look_in ! 1 (sub ! 0 refl (whole !))))) refl (Ptr-Good null_ptr) $
        sets ! (of_opd ! (get ! refl)) refl (Ptr-Good null_ptr) $ sets ! (of_opd ! (get ! refl)) refl (Ptr-Good null_ptr) $ sets ! (bin ! (get ! refl) (lit ! tt) tt) refl (tt, tt) $ first ! $ branches ! (get ! refl)
        (λ _. let out : Val = live 0 vnil in
        sets_last ! (agg ! (and_then ! (lit ! tt) (no_more !))) refl (tt, (record { fits = lit< tt }, tt)) $ exec ! C Λ Ev (after 5 fn.body) (at_ret Ev Post) $ sets ! (of_opd ! (get ! refl)) refl (tt, (record { fits = lit< tt }, tt)) $
        feq_i ! (Option R.Denot) v None none $ words_in R n ts ! null_ptr a v h $ rewrite ! 0 (λ (r : Ptr). ‵ (owned R n ts r a v (w ∷ []))) (sym at) refl $ rewrite ! 0 (λ (F : Fml). ‵ F) (sym (own p a v (w ∷ []))) refl $
        move ! (1 ∷ []) $ rewrite ! 0 (λ (τs : List Ty). ‵ (cell_at full_share τs (w ∷ []) rb ro)) (sym mir) refl $ closes ! tt B d (w ∷ []) rb ro $
        use1 𝓛 (‵ (fres γ (B.coded.code d))) (𝓛.names.obs-res γ (B.coded.code d)) $ use1 𝓛 (‵ (Says None)) said_none $
        move ! (2 ∷ []) $ nothing ! $ move ! (1 ∷ 0 ∷ []) $ join ! $ use0 𝓛 (‵ ((Opt.the_row Lent).own_val None (out ∷ []))) (none_of 𝓛 Lent) $
        use0 𝓛 (raw (fact 𝓤 (v ≡ None))) (fact_i 𝓤 (v ≡ None) (emp 𝓤) none) $ nothing ! $ nothing ! $ fjoin ! $
        returns ! (look_at ! 0 refl) $ free_all ! refl $ keep ! (3 ∷ 0 ∷ 2 ∷ 4 ∷ 1 ∷ []) $ by ! (leaves None out))
        (λ wrong. absurd wrong))
        (λ b o x at e' may. let w : Val = both (vptr b o) h in let F = with_value b o at h in
        rewrite ! 2 (λ (xs : List Val). ‵ (cell_at full_share B.mir xs rb ro)) (subst (λ (r : Ptr). vs ≡ both (ptr_val r) h ∷ []) at ws) refl $
        rewrite ! 2 (λ (τs : List Ty). ‵ (cell_at full_share τs (w ∷ []) rb ro)) mir refl $
        sets ! (of_opd ! (load ! (through ! refl (fld ! refl (stop !))) (look_in ! 2 (sub ! 0 refl (whole !))))) refl (tt, tt) $
        sets ! (of_opd ! (get ! refl)) refl (tt, tt) $ sets ! (of_opd ! (get ! refl)) refl (tt, tt) $ sets ! (bin ! (get ! refl) (lit ! tt) (tests_null (block_ptr b o) may)) refl (tt, tt) $ first ! $ branches ! (get ! refl)
        (λ wrong. absurd wrong)
        (λ _. let to : Val = vptr b o in
        fsplit ! $ first ! $ blocks ! $ sets_last ! (addr ! (through ! refl (stop !))) refl (tt, tt) $ exec ! C Λ Ev wraps rest $
        sets ! (of_opd ! (get ! refl)) refl (tt, tt) $ sets_last ! (agg ! (and_then ! (lit ! tt) (and_then ! (get ! refl) (no_more !)))) refl (tt, (record { fits = lit< tt }, (tt, tt))) $
        exec ! C Λ Ev (after 5 fn.body) (at_ret Ev Post) $ sets ! (of_opd ! (get ! refl)) refl (tt, (record { fits = lit< tt }, (tt, tt))) $
        move ! (2 ∷ 3 ∷ []) $ fjoin ! $ move ! (2 ∷ 0 ∷ []) $ fjoin ! $ move ! (2 ∷ 3 ∷ 4 ∷ 1 ∷ 0 ∷ []) $ group ! 5 $
        use1 𝓛 (later (some (λ (δ : GName). raw (Part 𝓛 B R F (named 0) κ q rb ro b o γ (sem 𝓛 (Rest b o at h)) (back b o at h) x δ))))
        (lends_Part 𝓛 B R F (named 0) κ q rb ro b o γ (sem 𝓛 (Rest b o at h)) (back b o at h) code code x) $ await ! tt $ pick ! (λ δ.
        let r : MutBor R.Denot = record { ref_ptr = (b, o); ghost_name = δ; now = x } in let out : Val = live 1 (vcons to vnil) in
        use1 𝓛 (‵ (Lent.own_val r (to ∷ [])) ⊛ ‵ (flft κ q) ⊛ ‵ (follows B R γ δ F)) (id⊢ 𝓤 _) $ split3 ! $
        use1 𝓛 (‵ ((Opt.the_row Lent).own_val (Some r) (out ∷ []))) (Some-of 𝓛 Lent r to) $ move ! (2 ∷ []) $ use1 𝓛 (‵ (Says (Some r))) (said_some r) $
        move ! (2 ∷ []) $ nothing ! $ move ! (1 ∷ 0 ∷ []) $ join ! $ use0 𝓛 (raw (fact 𝓤 (v ≡ Some x))) (fact_i 𝓤 (v ≡ Some x) (emp 𝓤) e') $ nothing ! $ nothing ! $ fjoin ! $
        returns ! (look_at ! 0 refl) $ free_all ! refl $ keep ! (2 ∷ 0 ∷ 4 ∷ 3 ∷ 1 ∷ []) $ by ! (leaves (Some r) out))))))))
