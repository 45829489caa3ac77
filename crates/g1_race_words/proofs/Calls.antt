-- What the calls of a step ask, of the table and the seat inside.
use Rattle.std.specs.Prelude.{◌≡◌, ◌⊎◌, ◌+◌, ◌-◌, ◌*◌, ◌%◌, ◌^◌, ◌<◌, ◌≤◌, ◌==◌, ◌∷◌}
use Rattle.g1_race_words.specs.{inl, length, Some, StoresTo, ℕ, bit_or, cond, List, [], set, get_or, Bool, true, false, None, refl, sym, subst, arith, some, get_elem?, either, Me, keeps, Allows, TableId, Seat, set_again, set-get_or, RaceShape, View, Going, StoreHistory, IsWholeShape, IsWord, Raced, mark_word, bit_word, bit_index, flag, word_count, cleaned, dirtied, exchanged, looked, owed_card, raised, read, recorded, sought, spotted, wrote, HoldsBit, IsFound, IsMark, OwesFlag, OwesMark, Sits, WordStep, Write, Exchange, Look, Dirty, Spot, Raise, Clean, Read, Seek, Record, HasMade}
use Rattle.std.proofs.Math.Pow.{pow-lt}
use Rattle.g1_race_words.proofs.PairBits.{word_below}
use Rattle.g1_race_words.proofs.Flags.{flag_below, flag_card}
use Rattle.g1_race_words.proofs.FlagsKept.{BitsFrom, flags_step, front_bits, loaded_bits, pair_bits, flag_bits, owed_looked, stores_wrote, owed_wrote}
use Rattle.g1_race_words.proofs.Plain.{read_at}
use Rattle.g1_race_words.proofs.Writing.{raced_wrote}
use Rattle.g1_race_words.proofs.Marking.{raced_looked, raced_dirtied, raced_cleaned}
use Rattle.g1_race_words.proofs.Finding.{found_word, found_mark, has_made}
use Rattle.g1_race_words.proofs.Reading.{raced_read}
use Rattle.g1_race_words.proofs.Recording.{raced_sought, raced_recorded}
use Rattle.g1_race_words.proofs.Raising.{raced_spotted, raced_raised}
use Rattle.g1_race_words.proofs.Going.{Stays, begun, going_step}
use Rattle.g1_race_words.proofs.Blanks.{Rule, card_back}

module _ (z : TableId) (k : RaceShape) (fits : z.words ≡ word_count k) (shaped : IsWholeShape k) (s : Seat (Unit {0}) View) (table : s.table_id ≡ z) where
  abbrev v : View
  v = s.me.0

  abbrev Owed : ℕ → (ℕ → ℕ) → (ℕ → Me (Unit {0}) View → Type 0) → Type 0
  Owed word f then = (s.table_id ≡ z) × (word < z.words) × Allows (Rule k) z.slots s.id s.me word f then

  -- the seat's view is this after the step
  abbrev Is : (ℕ → View) → ℕ → Me (Unit {0}) View → Type 0
  Is w n after = after ≡ (w n, s.me.1)

  -- it sets no flag but that of the card that the seat owes
  abbrev Flags : ℕ → (ℕ → ℕ) → Type 0
  Flags i f = (words : List ℕ) → length words ≡ word_count k → BitsFrom k words (set words i (f (get_or words i 0))) (λ c. v.owed ≡ Some c)

  -- the seat has the stores that it had, and owes the card that it owed, or one to which it stores
  abbrev Owing : View → Type 0
  Owing w = ((c : ℕ) → StoresTo k c v → StoresTo k c w) × ((c : ℕ) → w.owed ≡ Some c → (v.owed ≡ Some c) ⊎ StoresTo k c w)

  on_front : (i : ℕ) (f : ℕ → ℕ) → i < k.slots + k.cards → Flags i f
  on_front i f lt words sized = front_bits k words i (f (get_or words i 0)) (λ c. v.owed ≡ Some c) lt

  -- a party's step on a word, where the race goes on
  swaps : (i : ℕ) (f : ℕ → ℕ) (w : ℕ → View) (then : ℕ → Me (Unit {0}) View → Type 0) → i < z.words → Sits k v → ((n : ℕ) → Stays v (w n)) → Flags i f → ((n : ℕ) → Owing (w n))
      → ((words : List ℕ) (views : List View) (h : Going k words views) → get_elem? views s.id ≡ some v
      → Raced (begun k words views h) (set words i (f (get_or words i 0))) (set views s.id (w (get_or words i 0))) × then (get_or words i 0) (w (get_or words i 0), s.me.1))
      → Owed i f then
  swaps i f w then lt sits stays flags owing goes = (
    table,
    lt,
    λ t h len at bound. let g = goes t.words t.views h at in let n = get_or t.words i 0 in (
      w n,
      keeps,
      tt,
      going_step k t.words t.views h (set t.words i (f n)) s.id v (w n) at (omega (arith, sits.weight)) sits.going (stays n) g.0
          (flags_step k h.first t.words (set t.words i (f n)) t.views s.id v (w n) at (flags t.words h.raced.sized) (owing n).0 (owing n).1 h.flags),
      g.1,
    ),
  )

  -- one that leaves the word as it is
  loads : (i : ℕ) (w : ℕ → View) (then : ℕ → Me (Unit {0}) View → Type 0) → i < z.words → Sits k v → ((n : ℕ) → Stays v (w n)) → ((n : ℕ) → Owing (w n))
      → ((words : List ℕ) (views : List View) (h : Going k words views) → get_elem? views s.id ≡ some v
      → Raced (begun k words views h) words (set views s.id (w (get_or words i 0))) × then (get_or words i 0) (w (get_or words i 0), s.me.1))
      → Owed i (λ n. n) then
  loads i w then lt sits stays owing goes = swaps i (λ n. n) w then lt sits stays (λ words sized. loaded_bits k words i (λ c. v.owed ≡ Some c)) owing (λ words views h at. rw (set-get_or words i 0) (goes words views h at))

  loaded : (i : ℕ) (words : List ℕ) (views : List View) (h : Going k words views) (w : ℕ → View) → let n = get_or words i 0 in Raced (begun k words views h) words (set views s.id (w n)) → Raced (begun k words views h) (set words i n) (set views s.id (w n))
  loaded i words views h w goes = subst (λ (new : List ℕ). Raced (begun k words views h) new (set views s.id (w (get_or words i 0)))) (sym (set-get_or words i 0)) goes

  -- the bit that a step sets
  one_bit : (x : ℕ × ℕ) → 1 * 2 ^ bit_index k x % 2 ^ 64 ≡ 2 ^ bit_index k x
  one_bit x = let i : ℕ = x.0 % 64 in let low : 2 ^ i < 2 ^ 64 = pow-lt (let goal : i < 64 = omega arith in goal) in omega (arith, low)

  pub write_owed : (p n : ℕ) → Sits k v × ((h : StoreHistory) × (v.histories ≡ h ∷ [])) → v.owed ≡ None → p < k.slots → IsWord k n
      → Owed p (λ _. n) (λ m after. Is (wrote v p n) m after × IsFound v p m × HasMade v (Write p n m))
  write_owed p n racer free lt bound = swaps p (λ _. n) (wrote v p n) (λ m after. Is (wrote v p n) m after × IsFound v p m × HasMade v (Write p n m)) (omega (arith, fits, lt)) racer.0 (λ m. (refl, refl, refl, refl)) (on_front p (λ _. n) (omega arith)) (λ m. (stores_wrote k v p n m racer.0.shape lt bound, owed_wrote k v p n m racer.0.shape lt bound racer.1.0 racer.1.1))
      (λ words views h at. let goes = raced_wrote (begun k words views h) words views s.id v p n racer.1.0 racer.0 free racer.1.1 lt bound at h.raced in
      (goes, (refl, found_word k s.id v p words views h at racer.0.weight lt, has_made k s.id v (Write p n (get_or words p 0)) words views h at racer.0 (racer.1, free, lt, bound) (read_at words p (omega (arith, h.raced.sized, lt))) goes)))

  pub exchange_owed : (p old n : ℕ) → Sits k v × ((h : StoreHistory) × (v.histories ≡ h ∷ [])) → v.owed ≡ None → p < k.slots → IsWord k n
      → Owed p (λ m. either (m == old) n m) (λ m after. Is (exchanged v p old n) m after × IsFound v p m × HasMade v (Exchange p old n m))
  exchange_owed p old n racer free lt bound = swaps p (λ m. either (m == old) n m) (exchanged v p old n) (λ m after. Is (exchanged v p old n) m after × IsFound v p m × HasMade v (Exchange p old n m)) (omega (arith, fits, lt)) racer.0 (λ m. stays (m == old) m) (on_front p (λ m. either (m == old) n m) (omega arith)) (λ m. owing (m == old) m)
      (λ words views h at. let on = goes words views h at (get_or words p 0 == old) in
      (on, (refl, found_word k s.id v p words views h at racer.0.weight lt, has_made k s.id v (Exchange p old n (get_or words p 0)) words views h at racer.0 (racer.1, free, lt, bound) (read_at words p (omega (arith, h.raced.sized, lt))) on)))
    where
      stays : (b : Bool) (m : ℕ) → Stays v (cond b (wrote v p n m) v)
      stays true m = (refl, refl, refl, refl)
      stays false m = (refl, refl, refl, refl)

      owing : (b : Bool) (m : ℕ) → Owing (cond b (wrote v p n m) v)
      owing true m = (stores_wrote k v p n m racer.0.shape lt bound, owed_wrote k v p n m racer.0.shape lt bound racer.1.0 racer.1.1)
      owing false m = (λ c s. s, λ c o. inl o)

      goes : (words : List ℕ) (views : List View) (h : Going k words views) → get_elem? views s.id ≡ some v → (b : Bool) → let m = get_or words p 0 in Raced (begun k words views h) (set words p (either b n m)) (set views s.id (cond b (wrote v p n m) v))
      goes words views h at true = raced_wrote (begun k words views h) words views s.id v p n racer.1.0 racer.0 free racer.1.1 lt bound at h.raced
      goes words views h at false = rw (set-get_or words p 0, set_again views s.id v at) h.raced

  -- a step after which the view is this, at a mark
  abbrev OfMark : (ℕ → View) → (ℕ → WordStep) → ℕ → Me (Unit {0}) View → Type 0
  OfMark w step n after = Is w n after × (n ≤ 1) × HasMade v (step n)

  pub look_owed : (word : ℕ) → Sits k v → OwesMark k v word → Owed word (λ n. n) (OfMark (looked v) (Look (word - v.shape.slots)))
  look_owed word sits (c, owes, lt, is) = rw (is, card_back k v c sits.shape) (loads (mark_word k c) (looked v) (OfMark (looked v) (Look c)) (omega (arith, fits, lt)) sits (λ n. (refl, refl, refl, refl)) (λ n. (λ d s. s, λ d o. inl (owed_looked v n d o)))
      (λ words views h at. let goes = raced_looked (begun k words views h) words views s.id v c sits owes lt at h.raced in
      (goes, (refl, found_mark k c words views h lt, has_made k s.id v (Look c (get_or words (mark_word k c) 0)) words views h at sits (owes, lt) (read_at words (mark_word k c) (omega (arith, h.raced.sized, lt))) (loaded (mark_word k c) words views h (looked v) goes)))))

  -- a step on a word of bits, whatever it finds
  abbrev OfBit : {A : Type 0} → (ℕ → View) → (A → ℕ → WordStep) → ℕ → Me (Unit {0}) View → Type 0
  OfBit {A} w step n after = Is w n after × ((x : A) × HasMade v (step x n))

  pub spot_owed : (word : ℕ) → Sits k v → (c : ℕ) → OwesFlag k v c word → Owed word (λ n. n) (OfBit (spotted v) Spot)
  spot_owed word sits c (owes, lt, is) = rw is (loads (bit_word k (flag k c)) (spotted v) (OfBit (spotted v) Spot) (omega (arith, fits, flag_below k c shaped lt)) sits (λ n. (refl, refl, refl, refl)) (λ n. (λ c s. s, λ c o. inl o))
      (λ words views h at. let goes = raced_spotted (begun k words views h) words views s.id v c shaped sits owes at h.raced in
      (goes, (refl, (c, has_made k s.id v (Spot c (get_or words (bit_word k (flag k c)) 0)) words views h at sits (owes, lt) (read_at words (bit_word k (flag k c)) (omega (arith, h.raced.sized, flag_below k c shaped lt))) (loaded (bit_word k (flag k c)) words views h (spotted v) goes))))))

  pub raise_owed : (word index : ℕ) → Sits k v → (c : ℕ) → OwesFlag k v c word → index ≡ bit_index k (flag k c)
      → Owed word (λ n. bit_or n (1 * 2 ^ index % 2 ^ 64)) (OfBit (λ _. raised v) Raise)
  raise_owed word index sits c (owes, lt, is) at = rw (is, at) (swaps (bit_word k (flag k c)) (λ n. bit_or n (1 * 2 ^ bit_index k (flag k c) % 2 ^ 64)) (λ _. raised v) (OfBit (λ _. raised v) Raise) (omega (arith, fits, flag_below k c shaped lt)) sits (λ n. (refl, refl, refl, refl)) (λ words sized. flag_bits k words c (λ d. v.owed ≡ Some d) shaped (omega (arith, sized, flag_below k c shaped lt)) (flag_card k c lt) owes) (λ n. (λ c s. s, λ c o. inl o))
      (λ words views h at. let goes = raced_raised (begun k words views h) words views s.id v c shaped sits owes lt at h.raced in
      (goes, (refl, (c, has_made k s.id v (Raise c (get_or words (bit_word k (flag k c)) 0)) words views h at sits (owes, lt) (read_at words (bit_word k (flag k c)) (omega (arith, h.raced.sized, flag_below k c shaped lt))) (rw (← one_bit (flag k c)) goes))))))

  pub dirty_owed : (word : ℕ) → Sits k v → OwesMark k v word → v.flagged ≡ owed_card v.owed → Owed word (λ _. 1) (OfMark (dirtied v (word - v.shape.slots)) (Dirty (word - v.shape.slots)))
  dirty_owed word sits (c, owes, lt, is) flagged = rw (is, card_back k v c sits.shape) (swaps (mark_word k c) (λ _. 1) (dirtied v c) (OfMark (dirtied v c) (Dirty c)) (omega (arith, fits, lt)) sits (λ n. (refl, refl, refl, refl)) (on_front (mark_word k c) (λ _. 1) (omega (arith, lt))) (λ n. (λ d s. s, λ d o. absurd (cc (o))))
      (λ words views h at. let goes = raced_dirtied (begun k words views h) words views s.id v c sits owes flagged lt at h.raced in
      (goes, (refl, found_mark k c words views h lt, has_made k s.id v (Dirty c (get_or words (mark_word k c) 0)) words views h at sits (owes, lt) (read_at words (mark_word k c) (omega (arith, h.raced.sized, lt))) goes))))

  pub clean_owed : (word : ℕ) → Sits k v → v.next ≡ v.end → IsMark k word → Owed word (λ _. 0) (OfMark (cleaned v (word - v.shape.slots)) (Clean (word - v.shape.slots)))
  clean_owed word sits done (c, lt, is) = rw (is, card_back k v c sits.shape) (swaps (mark_word k c) (λ _. 0) (cleaned v c) (OfMark (cleaned v c) (Clean c)) (omega (arith, fits, lt)) sits (λ n. (refl, refl, refl, refl)) (on_front (mark_word k c) (λ _. 0) (omega (arith, lt))) (λ n. (λ c s. s, λ c o. inl o))
      (λ words views h at. let goes = raced_cleaned (begun k words views h) words views s.id v c sits shaped.1 done lt at h.raced in
      (goes, (refl, found_mark k c words views h lt, has_made k s.id v (Clean c (get_or words (mark_word k c) 0)) words views h at sits (done, lt) (read_at words (mark_word k c) (omega (arith, h.raced.sized, lt))) goes))))

  pub read_owed : (p : ℕ) → Sits k v → v.held ≡ [] → v.next ≡ p → p < v.end → p < k.slots
      → Owed p (λ n. n) (λ n after. Is (read v p) n after × IsWord v.shape n × IsFound v p n × HasMade v (Read p n))
  read_owed p sits free next more lt = loads p (read v p) (λ n after. Is (read v p) n after × IsWord v.shape n × IsFound v p n × HasMade v (Read p n)) (omega (arith, fits, lt)) sits (λ n. (refl, refl, refl, refl)) (λ n. (λ c s. s, λ c o. inl o))
      (λ words views h at. let there = read_at words p (omega (arith, h.raced.sized)) in let goes = raced_read (begun k words views h) words views s.id v p sits free next lt at h.raced in
      (goes, (refl, subst (λ (x : RaceShape). IsWord x (get_or words p 0)) (sym sits.shape) (h.raced.bounded p _ lt there), found_word k s.id v p words views h at sits.weight lt, has_made k s.id v (Read p (get_or words p 0)) words views h at sits (next, more, lt) there (loaded p words views h (read v p) goes))))

  pub seek_owed : (word : ℕ) → Sits k v → (x : ℕ × ℕ) → HoldsBit k v x word → Owed word (λ n. n) (OfBit (sought v) Seek)
  seek_owed word sits x (held, pair, is) = rw is (loads (bit_word k x) (sought v) (OfBit (sought v) Seek) (omega (arith, fits, word_below k x shaped pair)) sits (λ n. (refl, refl, refl, refl)) (λ n. (λ c s. s, λ c o. inl o))
      (λ words views h at. let goes = raced_sought (begun k words views h) words views s.id v x shaped sits held at h.raced in
      (goes, (refl, (x, has_made k s.id v (Seek x (get_or words (bit_word k x) 0)) words views h at sits held (read_at words (bit_word k x) (omega (arith, h.raced.sized, word_below k x shaped pair))) (loaded (bit_word k x) words views h (sought v) goes))))))

  pub record_owed : (word index : ℕ) → Sits k v → (x : ℕ × ℕ) → HoldsBit k v x word → index ≡ bit_index k x
      → Owed word (λ n. bit_or n (1 * 2 ^ index % 2 ^ 64)) (OfBit (λ _. recorded v) Record)
  record_owed word index sits x (held, pair, is) at = rw (is, at) (swaps (bit_word k x) (λ n. bit_or n (1 * 2 ^ bit_index k x % 2 ^ 64)) (λ _. recorded v) (OfBit (λ _. recorded v) Record) (omega (arith, fits, word_below k x shaped pair)) sits (λ n. (refl, refl, refl, refl)) (λ words sized. pair_bits k words x (λ d. v.owed ≡ Some d) shaped (omega (arith, sized, word_below k x shaped pair)) pair.0 pair.1) (λ n. (λ c s. s, λ c o. inl o))
      (λ words views h at. let goes = raced_recorded (begun k words views h) words views s.id v x shaped sits held pair at h.raced in
      (goes, (refl, (x, has_made k s.id v (Record x (get_or words (bit_word k x) 0)) words views h at sits held (read_at words (bit_word k x) (omega (arith, h.raced.sized, word_below k x shaped pair))) (rw (← one_bit x) goes))))))
