-- Stores of a racer, each after the one before.
use Rattle.std.specs.Prelude.{◌≡◌, ◌≢◌, ◌+◌, ◌<◌, ◌∷◌, ◌++◌}
use Rattle.g1_handles.specs.{rules, inl, inr, ℕ, suc, List, [], length, take, slice_index_or, refl, sym, ap, ◌∙◌, subst, arith, take-suc, Kind, get_or_default, Race, race_layout, Reason, BatchEnd, Stopped, Full, Store, IsStoreOf, reference_of, Stores, StoresAll, CanStore, IsEnd, SaysNoStore, is_across, true}
use Rattle.g1_handles.specs.Racing.{Racing}
use Rattle.g1_handles.specs.declared.code.Reason.TheVariants as refusal

-- one store more
more : (a b c : Racing) (ss : List Store) (s : Store) (k : Kind) → StoresAll a ss b → CanStore b.race b.racer s.slot s.target → Stores b s.slot (reference_of s.target) k c → StoresAll a (ss ++ s ∷ []) c
more a b c [] s k e can h = (c, k, subst (λ (x : Racing). CanStore x.race x.racer s.slot s.target) e can, subst (λ (x : Racing). Stores x s.slot (reference_of s.target) k c) e h, refl)
more a b c (t ∷ ss) s k (m, j, could, first, rest) can h = (m, j, could, first, more m b c ss s k rest can h)

-- the first ones and the next
pub stores_next : (a b c : Racing) (ss : List Store) (i : ℕ) (d : Store) (k : Kind) → i < length ss → StoresAll a (take i ss) b → CanStore b.race b.racer (slice_index_or ss i d).slot (slice_index_or ss i d).target → Stores b (slice_index_or ss i d).slot (reference_of (slice_index_or ss i d).target) k c → StoresAll a (take (i + 1) ss) c
stores_next a b c ss i d k below first can h =
    let next : i + 1 ≡ suc i = omega arith in
    subst (λ (ts : List Store). StoresAll a ts c) (sym (ap (λ (n : ℕ). take n ss) next ∙ take-suc ss i d below)) (more a b c (take i ss) (slice_index_or ss i d) k first can h)

-- the race stays
pub stores_race : (a b : Racing) (ss : List Store) → StoresAll a ss b → b.race ≡ a.race
stores_race a b [] e = ap (λ (x : Racing). x.race) e
stores_race a b (s ∷ ss) (c, k, can, h, rest) = stores_race c b ss rest ∙ h.race

-- why there is no next store
pub stores_end : (a b : Racing) (ss : List Store) (i : ℕ) (d : Store) (r : Reason) (end : BatchEnd) → i < length ss → StoresAll a (take i ss) b
    → SaysNoStore b.race b.racer (slice_index_or ss i d).slot (slice_index_or ss i d).target r → (r ≡ refusal.LogFull → end ≡ Full) → (r ≢ refusal.LogFull → end ≡ Stopped) → IsEnd end a ss i b
stores_end a b ss i d r end below first (inr (within, log)) at_full else =
    subst (λ (x : BatchEnd). IsEnd x a ss i b) (sym (at_full log.0)) (record {
      more = below;
      across = λ f. subst (λ (x : Store). is_across a.race x ≡ true) (get_or_default ss i d f below) (subst (λ (x : Race). is_across x (slice_index_or ss i d) ≡ true) (stores_race a b (take i ss) first) log.1);
      full = log.2;
    })
stores_end a b ss i d r end below first (inl (e, lacks)) at_full else =
    let other : r ≢ refusal.LogFull = λ f. search (rules, e, f) in
    subst (λ (x : BatchEnd). IsEnd x a ss i b) (sym (else other)) (below, λ f. subst (λ (x : Store). IsStoreOf (race_layout a.race) x.slot x.target → ⊥) (get_or_default ss i d f below) (subst (λ (x : Race). IsStoreOf (race_layout x) (slice_index_or ss i d).slot (slice_index_or ss i d).target → ⊥) (stores_race a b (take i ss) first) lacks))
