-- What the steps on a race's seats ask, and those at a pause.
use Rattle.std.specs.Prelude.{◌≡◌, ◌-◌, ◌<◌, ◌≤◌}
use Rattle.g1_race_words.specs.{ℕ, List, [], set, get_or, true, false, refl, sym, ap, ◌∙◌, subst, arith, some, get_elem?, Me, keeps, Allows, Splits, Joins, TableId, Seat, set_again, set-get_or, RaceShape, View, AtRest, IsBegun, IsBlank, IsWholeShape, started, word_count, both, whole_seat, frozen_seat, after_split, new_racer, new_sweeper, new_reader, no_seat, changed_at, thawed, Freezes, IsWholeSeat, IsAtPause, IsPaused}
use Rattle.g1_race_words.proofs.Plain.{read_at}
use Rattle.g1_race_words.proofs.Tallies.{number_given, number_dropped}
use Rattle.g1_race_words.proofs.Splitting.{raced_join}
use Rattle.g1_race_words.proofs.Going.{begun, known, going_join}
use Rattle.g1_race_words.proofs.GoingAnew.{going_anew, begun_here, known_words, raced_mine, shape_mine}
use Rattle.g1_race_words.proofs.Blanks.{Rule, fresh, splits}

module _ (z : TableId) (k : RaceShape) (fits : z.words ≡ word_count k) (shaped : IsWholeShape k) (s : Seat (Unit {0}) View) (table : s.table_id ≡ z) where
  abbrev v : View
  v = s.me.0

  abbrev Owed : ℕ → (ℕ → ℕ) → (ℕ → Me (Unit {0}) View → Type 0) → Type 0
  Owed word f then = (s.table_id ≡ z) × (word < z.words) × Allows (Rule k) z.slots s.id s.me word f then

  -- the seat's view is this after the step
  abbrev Is : (ℕ → View) → ℕ → Me (Unit {0}) View → Type 0
  Is w n after = after ≡ (w n, s.me.1)

  some_word : 0 < z.words
  some_word = omega (arith, fits, shaped.5)

  abbrev Cut : (View → View) → Type 0
  Cut right = (s.table_id ≡ z) × (0 < z.words) × Splits (Rule k) s.id v (after_split v) (right v)

  pub split_racer_owed : IsWholeSeat v → Cut new_racer
  split_racer_owed (begin, w, is, heavy) = (table, some_word, rw is (splits k s.id (whole_seat begin w) false _ ((refl, refl, refl, refl), refl, refl, refl, refl, refl) heavy refl (fresh (w - 1)) (number_given (whole_seat begin w) heavy)))

  pub split_sweeper_owed : IsWholeSeat v → Cut new_sweeper
  split_sweeper_owed (begin, w, is, heavy) = (table, some_word, rw is (splits k s.id (whole_seat begin w) false [] ((refl, refl, refl, refl), refl, refl, refl, refl, refl) heavy refl (λ g i. absurd i) (number_dropped (whole_seat begin w))))

  -- what the seat of a pause is
  frozen_blank : IsAtPause z k s → (v.frozen ≡ true) × IsBlank v × (v.spare ≡ 0)
  frozen_blank here = subst (λ (m : Me (Unit {0}) View). (m.0.frozen ≡ true) × IsBlank m.0 × (m.0.spare ≡ 0)) (sym here.view) (refl, ((refl, refl, refl, refl), refl, refl, refl, refl, refl), refl)

  pub split_reader_owed : IsAtPause z k s → 0 < v.weight → Cut new_reader
  split_reader_owed here heavy = let is = frozen_blank here in (table, some_word, splits k s.id v true [] is.1 heavy is.0 (λ g i. absurd i) (number_dropped v))

  pub join_owed : (other : ℕ) (u : View) → u.weight ≡ 1 → AtRest u → (0 < z.words) × Joins (Rule k) s.id v other u (both v u) no_seat
  join_owed other u one rest = (
    some_word,
    λ t h at apart there. going_join k t.words t.views h s.id v other u at apart there (omega (arith, one)) rest.0
        (raced_join (begun k t.words t.views h) t.words t.views s.id v other u no_seat one rest ((refl, refl, refl, refl), refl, refl, refl, refl, refl) refl refl at apart there h.raced),
  )

  -- a pause

  pub see_owed : (p : ℕ) → IsAtPause z k s → 0 < v.weight → p < word_count k → Owed p (λ n. n) (λ n after. (after ≡ s.me) × (get_elem? v.began_words p ≡ some n))
  see_owed p here heavy lt = (
    table,
    omega (arith, fits, lt),
    λ t h len at bound.
        (v, keeps, tt, rw (set-get_or t.words p 0, set_again t.views s.id v at) h, (refl, ap (λ (l : List ℕ). get_elem? l p) (sym (known k t.words t.views h s.id v at heavy (frozen_blank here).0)) ∙ read_at t.words p (omega (arith, h.raced.sized, lt)))),
  )

  module _ (pos : 0 < k.parties) where
    -- the words are learned
    pub freeze_owed : v.weight ≡ k.parties → AtRest v → Owed 0 (λ n. n) (λ n after. Freezes s.me after)
    freeze_owed all rest = (
      table,
      some_word,
      λ t h len at bound.
          let shape = shape_mine k t.words t.views s.id v all pos h at in
          let here = begun_here k t.words t.views s.id v all pos h at shaped rest in
          let w = frozen_seat (started v.shape t.words) v.weight in (
            w,
            keeps,
            tt,
            rw (set-get_or t.words 0 0) (going_anew k t.words t.views s.id v all pos h at t.words w here ((refl, refl, refl, refl), refl, refl, refl, refl, refl) all (omega arith) (ap (λ (x : RaceShape). started x t.words) shape)),
            record {
              words = t.words;
              views = t.views;
              id = s.id;
              view = refl;
              begun = subst (λ (x : RaceShape). IsBegun (started x t.words)) (sym shape) here;
              raced = raced_mine k t.words t.views s.id v all pos h at;
              mine = at;
              still = known_words k t.words t.views s.id v all pos h at;
            },
          ),
    )

    module _ (paused : IsPaused z k s) where
      -- the race begins anew, with these words
      anew : (p : ℕ) (f : ℕ → ℕ) (w : View) → p < z.words → IsBegun (started k w.began_words) → set v.began_words p (f (get_or v.began_words p 0)) ≡ w.began_words → IsBlank w → w.weight ≡ v.weight → w.spare ≤ k.parties → w.shape ≡ v.shape → Owed p f (Is (λ _. w))
      anew p f w lt begun is still weight spare shape = (
        table,
        lt,
        λ t h len at bound.
            let words = known_words k t.words t.views s.id v paused.all pos h at (frozen_blank paused.here).0 in (
              w,
              keeps,
              tt,
              rw (words, is) (going_anew k t.words t.views s.id v paused.all pos h at w.began_words w begun still (weight ∙ paused.all) spare (ap (λ (x : RaceShape). started x w.began_words) (shape ∙ ap (λ (m : Me (Unit {0}) View). m.0.shape) paused.here.view))),
              refl,
            ),
      )

      pub thaw_owed : Owed 0 (λ n. n) (λ n after. after ≡ (thawed v, s.me.1))
      thaw_owed = anew 0 (λ n. n) (thawed v) some_word paused.here.begun (set-get_or v.began_words 0 0) (frozen_blank paused.here).1 refl (omega (arith, paused.all)) refl

      pub put_owed : (p n : ℕ) → p < word_count k → IsBegun (started k (set v.began_words p n)) → Owed p (λ _. n) (Is (λ _. changed_at v p n))
      put_owed p n lt begun = anew p (λ _. n) (changed_at v p n) (omega (arith, fits, lt)) begun refl (frozen_blank paused.here).1 refl (omega (arith, (frozen_blank paused.here).2)) refl
