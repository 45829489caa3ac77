-- Parties that a resume hands out are fresh where the logs are empty.
use Rattle.std.specs.Prelude.{◌≡◌, ◌+◌, ◌<◌, ◌∷◌}
use Rattle.g1_race.specs.{ℕ, zero, Vec, vec_len, List, [], get_or, length, map, replicate, All, sym, ap, ◌∙◌, subst, arith, Global, get_or-map, length-map, length-replicate, Table, RaceShape, Racer, Sweeper, Start, began, Pause, table_at, start_at, beginning, started, start_of, blank, race_begun, racer_view, sweeper_view, racer_log, racer_number, racer_start, sweeper_start, AreFreshRacers, AreFreshSweepers, HaveBegun, HaveBegunWith, HasWordsOf, IsNewRacer, IsNewSweeper, IsFreshRacer, IsFreshSweeper}
use Rattle.std.proofs.lemmas.List.{get_or-replicate}
use Rattle.g1_layout.specs.Shape as layout
use Rattle.g1_race.specs.declared.race.Race.{Race}

empty_log : (rs : List Racer) (n : ℕ) → map racer_log rs ≡ replicate n [] → All (λ r. racer_log r ≡ []) rs
empty_log rs n e i d lt = sym (get_or-map racer_log rs i d [] lt) ∙ (ap (λ (l : List (List ℕ)). get_or l i []) e ∙ get_or-replicate n i [] [] (let few = ap length e in omega (arith, length-map rs racer_log, length-replicate {A = List ℕ} n [], few, lt)))

-- where all parties began so, that is what the race began with
pub begun_as : (race : Race) (begin : Start) (rs : List Racer) (ws : List Sweeper) → All (λ r. racer_start r ≡ begin) rs → All (λ w. sweeper_start w ≡ begin) ws → race.shape ≡ begin.shape → 0 < length rs + length ws
    → race_begun race (map racer_view rs) (map sweeper_view ws) ≡ beginning begin
begun_as race begin rs (w ∷ ws) racing sweeping shape some = λ i. beginning (started (shape i) (sweeping zero w (omega arith) i).words)
begun_as race begin (r ∷ rs) [] racing sweeping shape some = λ i. beginning (started (shape i) (racing zero r (omega arith) i).words)
begun_as race begin [] [] racing sweeping shape some = absurd (omega (arith, some))

-- the parties of a race that has resumed
module _ (race : Race) (h : Pause) (racers : Vec Racer Global) (sweepers : Vec Sweeper Global) (new : (vec_len racers ≡ length h.logs) × All (IsNewRacer race.table.table_id (start_at h)) racers.items)
    (other : (vec_len sweepers ≡ h.sweepers) × All (IsNewSweeper race.table.table_id (start_at h)) sweepers.items) where
  pub have_begun : (begin : Start) → start_at h ≡ begin → HaveBegun begin racers sweepers
  have_begun begin e = subst (λ (b : Start). HaveBegun b racers sweepers) e ((λ i d lt. ap start_of (new.1 i d lt).1), (λ i d lt. ap start_of (other.1 i d lt).1))

  pub begun_with : (t : Table) → race.layout ≡ h.layout → table_at h ≡ t → HasWordsOf t h.words → HaveBegunWith t race racers sweepers
  begun_with t laid is words = (start_at h, have_begun (start_at h) (λ i. start_at h), ap (λ (l : layout.Shape). began l (beginning (start_at h))) laid ∙ is, words)

  pub are_fresh : (n : ℕ) → race.shape ≡ h.shape → map racer_log racers.items ≡ h.logs → h.logs ≡ replicate n [] → AreFreshRacers race n racers
  are_fresh n shape logs empty = (
    new.0 ∙ (ap (λ (l : List (List ℕ)). length l) empty ∙ length-replicate n []),
    subst (λ (k : RaceShape). All (IsFreshRacer race.table.table_id k) racers.items) (sym shape) (λ i d lt. let is = new.1 i d lt in
        (is.0, is.1 ∙ ap (λ (s : Start). blank s 1 ((racer_number (get_or racers.items i d), []) ∷ [])) (sym (ap start_of is.1)), empty_log racers.items n (logs ∙ empty) i d lt)),
  )

  pub are_fresh_too : (n : ℕ) → race.shape ≡ h.shape → h.sweepers ≡ n → AreFreshSweepers race n sweepers
  are_fresh_too n shape count = (
    other.0 ∙ count,
    subst (λ (k : RaceShape). All (IsFreshSweeper race.table.table_id k) sweepers.items) (sym shape) (λ i d lt. let is = other.1 i d lt in (is.0, is.1 ∙ ap (λ (s : Start). blank s 1 []) (sym (ap start_of is.1)))),
  )
