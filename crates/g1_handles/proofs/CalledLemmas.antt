-- What a call on the handle of a heap says once its result is known.
use Rattle.std.specs.Prelude.{◌≡◌}
use Rattle.g1_handles.specs.{refl, ap, subst, inl, inr, props, Option, Some, None, Result, Ok, Err, All, length, vec_len, arc_value, is_prop→PathP, race_id, race_layout, Pause, Reason, RacingHeap, IsSameBut, IsSameHeap, IsCalled, IsHeapRefused}
use Rattle.g1_handles.specs.declared.heap.racing_heap.AtPause.{AtPause}
use Rattle.g1_handles.specs.declared.heap.racing_heap.RacingHeap.TheVariants as heap
use Rattle.g1_handles.proofs.VisitLemmas.{is_ok, err_of}

-- a heap at a pause is its share, its pause and its boxes
same_at : (a b : AtPause) → IsSameBut a b → b.pause ≡ a.pause → b ≡ a
same_at a b same e = λ i. record {
  race = same.race i;
  pause = e i;
  racers = same.racers i;
  sweepers = same.sweepers i;
  readers = same.readers i;
  id = is_prop→PathP (λ j. race_id (arc_value (same.race j)) ≡ ((e j).table_id, (e j).shape)) (λ j. hlevel props) b.id a.id i;
  laid = is_prop→PathP (λ j. race_layout (arc_value (same.race j)) ≡ (e j).layout) (λ j. hlevel props) b.laid a.laid i;
  racer_boxes = is_prop→PathP (λ j. vec_len (same.racers j) ≡ length (e j).logs) (λ j. hlevel props) b.racer_boxes a.racer_boxes i;
  sweeper_boxes = is_prop→PathP (λ j. vec_len (same.sweepers j) ≡ (e j).sweepers) (λ j. hlevel props) b.sweeper_boxes a.sweeper_boxes i;
  reader_boxes = is_prop→PathP (λ j. vec_len (same.readers j).idle ≡ (e j).shape.parties) (λ j. hlevel props) b.reader_boxes a.reader_boxes i;
  racers_wait = is_prop→PathP (λ j. All (λ m. arc_value m.value.race ≡ arc_value (same.race j)) (same.racers j).items) (λ j. hlevel props) b.racers_wait a.racers_wait i;
  sweepers_wait = is_prop→PathP (λ j. All (λ m. arc_value m.value.race ≡ arc_value (same.race j)) (same.sweepers j).items) (λ j. hlevel props) b.sweepers_wait a.sweepers_wait i;
  readers_wait = is_prop→PathP (λ j. All (λ m. arc_value m.value.race ≡ arc_value (same.race j)) (same.readers j).idle.items) (λ j. hlevel props) b.readers_wait a.readers_wait i;
}

module _ {A : Type 0} (Q : Pause → Result A Reason → Pause → Type 0) where
  -- a call that answers was made at a pause
  pub called_ok : (P : Pause → Pause → Type 0) (old new : Option RacingHeap) (answer : A)
      → ((p q : Pause) → Q p (Ok answer) q → P p q) → IsCalled Q old (Ok answer) new → IsSameHeap old new P
  called_ok P None new answer so is = absurd (subst is_ok is.1 tt)
  called_ok P (Some (heap.Racing b)) new answer so is = absurd (subst is_ok is.1 tt)
  called_ok P (Some (heap.Read b)) new answer so is = absurd (subst is_ok is.1 tt)
  called_ok P (Some (heap.Paused a)) None answer so is = is
  called_ok P (Some (heap.Paused a)) (Some (heap.Racing d)) answer so is = is
  called_ok P (Some (heap.Paused a)) (Some (heap.Read d)) answer so is = is
  called_ok P (Some (heap.Paused a)) (Some (heap.Paused b)) answer so is = (is.0, so a.pause b.pause is.1)

  -- a call that is refused has a reason
  pub called_why : (Why : Pause → Reason → Type 0) (old new : Option RacingHeap) (r : Reason)
      → ((p q : Pause) → Q p (Err r) q → Why p r) → IsCalled Q old (Err r) new → IsHeapRefused old Why r
  called_why Why None new r so is = inl (ap (err_of r) is.1, refl)
  called_why Why (Some (heap.Racing b)) new r so is = inr (inl (ap (err_of r) is.1, inl tt))
  called_why Why (Some (heap.Read b)) new r so is = inr (inl (ap (err_of r) is.1, inr tt))
  called_why Why (Some (heap.Paused a)) None r so is = absurd is
  called_why Why (Some (heap.Paused a)) (Some (heap.Racing d)) r so is = absurd is
  called_why Why (Some (heap.Paused a)) (Some (heap.Read d)) r so is = absurd is
  called_why Why (Some (heap.Paused a)) (Some (heap.Paused b)) r so is = inr (inr (so a.pause b.pause is.1))

  -- and nothing has changed where it keeps the pause as it is
  pub called_same : (old new : Option RacingHeap) (r : Result A Reason)
      → ((p q : Pause) → Q p r q → q ≡ p) → IsCalled Q old r new → new ≡ old
  called_same None new r so is = is.0
  called_same (Some (heap.Racing b)) new r so is = is.0
  called_same (Some (heap.Read b)) new r so is = is.0
  called_same (Some (heap.Paused a)) None r so is = absurd is
  called_same (Some (heap.Paused a)) (Some (heap.Racing d)) r so is = absurd is
  called_same (Some (heap.Paused a)) (Some (heap.Read d)) r so is = absurd is
  called_same (Some (heap.Paused a)) (Some (heap.Paused b)) r so is = ap (λ x. Some (heap.Paused x)) (same_at a b is.0 (so a.pause b.pause is.1))
