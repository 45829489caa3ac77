-- The machine values of nullable boxes and of handles. Assumes `Logic`.
use Rattle.std.specs.Prelude.{◌≡◌, ◌∷◌, ◌++◌, ◌&&◌}
use Rattle.g1_handles.specs.{ℕ, List, [], refl, subst, lit<, Option, Some, None, T, true, Ura, Fml, fsep, feq, ent, guard, guard_i, snd∗, via, fact_use, RawPtr, Ptr, block_ptr, null_ptr, ptr_val, lies_at, Testable, Global, ghosts, holds, owns_boxed}
use Rattle.g1_handles.proofs.Prelude.{Sym, impl, tnil, tcons, dnil, Dict, Val, vnull, vptr, vstruct, vcons, vnil, of_list, has_ty, WT, Logic, sem, Item, Goal, Seq, Step, step, ‵, given, ◌$◌, move, drop, fsplit, fjoin, fpick, fpack, learn, use1, feq_i, feq_l, RattleType, Valss, nothing, Struct, within, fields, lone, layout, Laws, Al, Good, and_tt}
use mir.Raw.{raw as bare}
use denote.Exit.{no}
use denote.Param.{arg}
use denote.Param.Laws.{arg_laws}
use denote.Struct.Struct.{Shape}
use Rattle.std.proofs.alloc.Calls.{handle_tells}
use Rattle.std.proofs.GlobalToken.{dealloc_token-Testable}
use Rattle.std.specs.Borrow.{full_share}
use Rattle.std.specs.contracts.alloc.Global as global
use Rattle.std.specs.contracts.impls.GlobalAllocator.TheImpl.{dict}
use Rattle.std.proofs.alloc.Global.TheLaws as laws
use Rattle.std_alloc.proofs.BoxSteps.Form.{Bx}
use Rattle.g1_handles.specs.contracts.nullable_box.NullableBox as boxed

abbrev pub Z : RattleType
Z = global.the_row

-- the allocator as an argument of a call
abbrev pub A : RattleType
A = arg (bare (layout Z)) no Z

pub A_laws : Laws A
A_laws = arg_laws (bare (layout Z)) no Z laws.the_row_laws refl

-- its glue, since it needs no drop
abbrev pub undropped : Dict
undropped = impl ("g1_handles::Destruct++none::drop" ∷ []) (tcons (layout A) tnil) dnil

abbrev pub al : Al
al = record { row = Z; laws = laws.the_row_laws; g = ghosts; d = dict; drops = undropped }

-- a box as its type and its allocator say
abbrev pub box_at : (R : RattleType) → Laws R → Bx
box_at R L = record { row = R; laws = L; al = al }

abbrev pub both : Val → Val → Val
both v w = vstruct (vcons v (vcons w vnil))

-- a pointer with an allocator, in its words
pub filled_good : (b o : ℕ) (h : Val) → Good (layout Z) h → T (has_ty (layout Z) h && true) × WT (both (vptr b o) h)
filled_good b o h fits = (and_tt (has_ty (layout Z) h) fits.0, (tt, (fits.1, tt)))

-- null with an allocator, in its words
pub closed_good : (h : Val) → Good (layout Z) h → T (has_ty (layout Z) h && true) × WT (both vnull h)
closed_good h fits = (and_tt (has_ty (layout Z) h) fits.0, (record { fits = lit< tt }, (fits.1, tt)))

module _ (R : RattleType) {M : Type 1} {𝓤 : Ura M} (𝓛 : Logic 𝓤) where
  -- the pointer to a value may be compared with null
  pub tested : (a : Global) (p : Ptr) (x : R.Denot) → ent 𝓤 (sem 𝓛 (owns_boxed R a p x)) (guard 𝓤 (Testable p) (sem 𝓛 (owns_boxed R a p x)))
  tested a p x = fact_use 𝓤 (Testable p)
      (via 𝓤 _ (snd∗ 𝓤 (sem 𝓛 (lies_at R full_share p x)) (sem 𝓛 (ghosts.dealloc_token a (bare (lone R.mir)) p))) (dealloc_token-Testable 𝓛 a (bare (lone R.mir)) p))
      (guard_i 𝓤 (Testable p) (sem 𝓛 (owns_boxed R a p x)))

module _ (R : RattleType) {M : Type 1} {𝓤 : Ura M} {𝓛 : Logic 𝓤} {K : Type 0} {Γ : List (Item 𝓤)} {G : Goal 𝓤 𝓛.H} where
  -- it holds nothing, at null, or a value
  pub either : K → (a : Global) (p : Ptr) (v : Option R.Denot)
      → (p ≡ null_ptr → v ≡ None → Seq K 𝓛 Γ G)
      → ((b o : ℕ) (x : R.Denot) → p ≡ block_ptr b o → v ≡ Some x → Testable (block_ptr b o) → Seq K 𝓛 (‵ (owns_boxed R a (block_ptr b o) x) ∷ Γ) G)
      → Seq K 𝓛 (‵ (holds R a p v) ∷ Γ) G
  either t a null_ptr v none one = feq_l t (λ e. none refl e)
  either t a (block_ptr b o) v none one = fpick t (λ x. fsplit t $ feq_l t (λ e.
      use1 𝓛 (given (Testable (block_ptr b o)) (‵ (owns_boxed R a (block_ptr b o) x))) (tested R 𝓛 a (block_ptr b o) x) $ learn t (λ may. one b o x refl e may)))

-- a nullable box or a handle, with this name: a pointer and an allocator, and what they own
module _ (R : RattleType) (n : Sym) (ts : List RattleType) where
  abbrev pub shape : Shape
  shape = record { name = n; args = []; types = ts; fields = fields (boxed.the_type R) }

  abbrev pub owned : Ptr → Global → Option R.Denot → List Val → Fml
  owned p a v vs = fsep ((Struct shape).own_val (p, (((a.memory.seal, tt), tt), tt)) vs) (holds R a p v)

  pub words_good : (p : Ptr) (h : Val) → Good (layout Z) h → Good (layout (Struct shape)) (both (ptr_val p) h)
  words_good null_ptr h fits = closed_good h fits
  words_good (block_ptr b o) h fits = filled_good b o h fits

  module _ {M : Type 1} {𝓤 : Ura M} {𝓛 : Logic 𝓤} {K : Type 0} {Γ : List (Item 𝓤)} {G : Goal 𝓤 𝓛.H} where
    pub words_out : K → (p : Ptr) (a : Global) (v : Option R.Denot) (vs : List Val)
        → ((h : Val) → vs ≡ both (ptr_val p) h ∷ [] → Good (layout Z) h → Seq K 𝓛 (‵ (holds R a p v) ∷ ‵ (Z.own_val a (h ∷ [])) ∷ Γ) G)
        → Seq K 𝓛 (‵ (owned p a v vs) ∷ Γ) G
    words_out t p a v vs k =
        fsplit t $ fpick t (λ vss. fsplit t $ feq_l t (λ ev. fsplit t $ feq_l t (λ ep. fsplit t $ handle_tells al t a vss.1.0 (λ h ea fits. move t (1 ∷ []) $ drop t $ move t (1 ∷ []) $
        k h (subst (λ (ws : List Val). vs ≡ vstruct (of_list (ptr_val p ∷ (ws ++ []))) ∷ []) ea (subst (λ (ps : List Val). vs ≡ vstruct (of_list (ps ++ (vss.1.0 ++ []))) ∷ []) ep ev)) fits))))

    pub words_in : K → (p : Ptr) (a : Global) (v : Option R.Denot) (h : Val)
        → Step K 𝓛 (‵ (owned p a v (both (ptr_val p) h ∷ [])) ∷ Γ) G (‵ (holds R a p v) ∷ ‵ (Z.own_val a (h ∷ [])) ∷ Γ) G
    words_in t p a v h = step (λ s. let w : Val = both (ptr_val p) h in
        nothing t $ move t (2 ∷ 0 ∷ []) $ fjoin t $ feq_i t (List Val) (ptr_val p ∷ []) (ptr_val p ∷ []) refl $ fjoin t $ feq_i t (List Val) (w ∷ []) (w ∷ []) refl $ fjoin t $
        fpack t (Valss (RawPtr ∷ Z ∷ [])) (within shape (p, (((a.memory.seal, tt), tt), tt)) (w ∷ [])) (ptr_val p ∷ [], (h ∷ [], tt)) $ fjoin t $ s)

-- what a nullable box holds, or a handle
module _ (R : RattleType) {M : Type 1} {𝓤 : Ura M} {𝓛 : Logic 𝓤} {K : Type 0} {Γ : List (Item 𝓤)} {G : Goal 𝓤 𝓛.H} where
  pub some_in : K → (b o : ℕ) (a : Global) (x : R.Denot)
      → Step K 𝓛 (‵ (holds R a (block_ptr b o) (Some x)) ∷ Γ) G (‵ (owns_boxed R a (block_ptr b o) x) ∷ Γ) G
  some_in t b o a x = step (λ s.
      feq_i t (Option R.Denot) (Some x) (Some x) refl $ fjoin t $ fpack t R.Denot (λ y. fsep (feq (Option R.Denot) (Some x) (Some y)) (owns_boxed R a (block_ptr b o) y)) x $ s)
