-- `null` puts null and the allocator together.
use Rattle.std.specs.Prelude.{◌≡◌, ◌∷◌, ◌++◌}
use Rattle.g1_handles.specs.{List, [], refl, sym, subst, Option, None, SProp, ent, emp, id⊢, WpFn, fact, fact_i, tables, null_ptr}
use Rattle.g1_handles.proofs.{Fn, a_type, dcons, dnil, inst_fn, Val, vnull, ‵, raw, ◌⊛◌, ◌$◌, ◌∵◌, !, qed, by, move, keep, drop, use0, split, suffices, fsplit, fjoin, feq_i, rewrite, agg, lit, no_more, and_then, returns, enter, alloc_all, pass_all, free_all, look_at, get, sets, RattleType, owns, types_at, nothing, param, layout, bounded, Goes-dropped, one, both, Z, closed_good, words_in, plain, alive, Stays, stay_dropped, walk_of, proved_at, leaves}
use Rattle.std.proofs.alloc.Global.TheLaws as laws
use Rattle.g1_handles.specs.contracts.nullable_box.NullableBox as boxed
use Rattle.g1_handles.specs.contracts.nullable_box.NullableBox.null.{ended, clauses}
use Rattle.g1_handles.specs.contracts.nullable_box.NullableBox.null.Key.{name as #self}
use Rattle.g1_handles.proofs.nullable_box.NullableBox.null.Statement.{statement}
use Rattle.g1_handles.proofs.nullable_box.NullableBox.null.Code as code

pub null_spec : {M : Type 1} → statement M
null_spec 𝓤 𝓛 𝓜 𝓡 wired T L d glue =
    let H = 𝓛.H in let LZ = laws.the_row_laws in let R : RattleType = param 0 T in let En = ended T d in let c = clauses T d 𝓛 𝓜.mem 𝓡.returns in
    let at = bounded (a_type ∷ []) (T, tt) (dcons d dnil) in let fn : Fn = inst_fn at code.function in
    let C = (tables 𝓤 H 𝓜 𝓡 𝓡.env).C in let Λ = (tables 𝓤 H 𝓜 𝓡 𝓡.env).Λ in
    let hs : Stays En.signature.params En.kept = (stay_dropped (plain (λ _. Z)) En.kept.0, tt) in
    proved_at 𝓛 En hs c 𝓜 𝓡 (Goes-dropped 𝓛 1 (plain (λ _. Z)) En.kept.0 (λ κs x f. refl), tt) (#self at) fn (code.unfolded 𝓤 H 𝓜 𝓡 wired (T, tt) d) (λ z are.
    let Post : Val → SProp 𝓤 = (walk_of 𝓛 En hs c).post z in let a = z.0.3.0 in let Run : List Val → SProp 𝓤 = λ ws. WpFn 𝓤 H C Λ fn ws Post in
    let h = one (layout Z) z.0.4.0 ((LZ.lawful 𝓛).typed a z.0.4.0 are.0) in let typed = closed_good h.0 h.2 in
    qed 𝓛 ((raw (alive 𝓛 En.signature z.0.0 z.0.1) ⊛ ‵ (owns (types_at En.signature.params z.0.0) z.0.3 z.0.4)) ∷ raw ((c z.0.0 z.0.3).requires z.1) ∷ []) ∵ move ! (1 ∷ []) $ drop ! $ split ! $ move ! (1 ∷ []) $ fsplit ! $
    rewrite ! 0 (λ (us : List Val). ‵ (Z.own_val a us)) h.1 refl $
    suffices ! (Run (h.0 ∷ [])) (subst (λ (us : List Val). ent 𝓤 (Run (h.0 ∷ [])) (Run us)) (sym (λ i. h.1 i ++ [])) (id⊢ 𝓤 (Run (h.0 ∷ [])))) $
    enter ! C Λ fn (h.0 ∷ []) Post $ alloc_all ! (λ l. pass_all ! refl (h.2, tt) $
    sets ! (agg ! (and_then ! (lit ! tt) (and_then ! (get ! refl) (no_more !)))) refl typed $
    returns ! (look_at ! 0 refl) $ free_all ! refl $ feq_i ! (Option R.Denot) None None refl $ words_in R (boxed.the_type R).name (R ∷ []) ! null_ptr a None h.0 $
    use0 𝓛 (raw (fact 𝓤 (None ≡ None))) (fact_i 𝓤 (None ≡ None) (emp 𝓤) refl) $ nothing ! $ nothing ! $ fjoin ! $ keep ! (4 ∷ 0 ∷ 2 ∷ 1 ∷ []) $
    by ! (leaves 𝓛 En hs c z (both vnull h.0) (record { at = null_ptr; alloc = a; value = None }) (tt, tt) (tt, tt))))
