-- A nullable box and a handle are each made of the words of the other: `moved`. Assumes `Logic`.
use Rattle.std.specs.Prelude.{◌≡◌, ◌∷◌, ◌++◌}
use Rattle.g1_handles.specs.{List, [], refl, Option, Ura, SProp, ent, sep, emp, ftrue, fsep, fact, fact_i, WpFn, Calls, Loops, Ptr, ptr_val, Global}
use Rattle.g1_handles.proofs.Prelude.{Sym, Ty, Fn, local, value_local, ty_ptr, assign, place, field, rv_opd, copy, aggregate, seq, return, Val, Logic, sem, ‵, raw, ◌⊛◌, prop, ◌$◌, ◌∵◌, !, qed, by, move, keep, use0, split, regoal, fsplit, fjoin, whole, sub, agg, stop, fld, of_opd, no_more, and_then, returns, enter, alloc_all, pass_all, free_all, look_at, get, get_in, sets, RattleType, layout, nothing, Struct, Ptr-Good}
use Rattle.g1_handles.proofs.Values.{both}
use Rattle.g1_handles.proofs.Values.{Z, shape, owned, words_good, words_out, words_in}

-- takes two words apart, and puts them together
abbrev pub moves : Ty → Ty → Fn
moves to from = record {
  lifetimes = 0;
  outlives = [];
  ty_params = [];
  givens = 0;
  params = 1;
  locals = local to value_local ∷ local from value_local ∷ local ty_ptr value_local ∷ local (layout Z) value_local ∷ local ty_ptr value_local ∷ [];
  body = seq (assign (place 2 []) (rv_opd (copy (place 1 (field 0 ∷ [])))))
      (seq (assign (place 3 []) (rv_opd (copy (place 1 (field 1 ∷ [])))))
      (seq (assign (place 4 []) (rv_opd (copy (place 2 []))))
      (seq (assign (place 0 []) (aggregate (copy (place 4 []) ∷ copy (place 3 []) ∷ [])))
      return)));
}

module _ (R : RattleType) (n m : Sym) (ts us : List RattleType) {M : Type 1} (𝓤 : Ura M) (𝓛 : Logic 𝓤) where
  open 𝓛 use {H}

  abbrev fn : Fn
  fn = moves (layout (Struct (shape R m us))) (layout (Struct (shape R n ts)))

  -- X is what is known of lifetimes, and Y what was asked
  pub moved : (C : Calls 𝓤 H) (Λ : Loops 𝓤 H) (X Y : SProp 𝓤) (Post : Val → SProp 𝓤) (p : Ptr) (a : Global) (v : Option R.Denot) (vs : List Val)
      → ((w : Val) → ent 𝓤 (sep 𝓤 X (sep 𝓤 (sem 𝓛 (fsep ftrue ftrue)) (sep 𝓤 (sem 𝓛 (owned R m us p a v (w ∷ []))) (fact 𝓤 (v ≡ v))))) (Post w))
      → ent 𝓤 (sep 𝓤 (sep 𝓤 X (sem 𝓛 (fsep (owned R n ts p a v vs) ftrue))) Y) (WpFn 𝓤 H C Λ fn (vs ++ []) Post)
  moved C Λ X Y Post p a v vs leaves =
      qed 𝓛 ((raw X ⊛ ‵ (fsep (owned R n ts p a v vs) ftrue)) ∷ raw Y ∷ []) ∵ split ! $ move ! (1 ∷ []) $ fsplit ! $ words_out R n ts ! p a v vs (λ h ws fits. let w : Val = both (ptr_val p) h in
      regoal ! (λ (us : List Val). prop (WpFn 𝓤 H C Λ fn us Post)) (λ i. ws i ++ []) refl $
      enter ! C Λ fn (w ∷ []) Post $ alloc_all ! (λ l. pass_all ! refl (words_good R n ts p h fits, tt) $
      sets ! (of_opd ! (get_in ! (fld ! refl (stop !)) (sub ! 0 refl (whole !)))) refl (Ptr-Good p) $
      sets ! (of_opd ! (get_in ! (fld ! refl (stop !)) (sub ! 1 refl (whole !)))) refl fits $
      sets ! (of_opd ! (get ! refl)) refl (Ptr-Good p) $
      sets ! (agg ! (and_then ! (get ! refl) (and_then ! (get ! refl) (no_more !)))) refl (words_good R m us p h fits) $
      returns ! (look_at ! 0 refl) $ free_all ! refl $ words_in R m us ! p a v h $
      use0 𝓛 (raw (fact 𝓤 (v ≡ v))) (fact_i 𝓤 (v ≡ v) (emp 𝓤) refl) $ nothing ! $ nothing ! $ fjoin ! $ keep ! (4 ∷ 0 ∷ 2 ∷ 1 ∷ []) $ by ! (leaves w)))
