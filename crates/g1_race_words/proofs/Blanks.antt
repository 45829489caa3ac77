-- What the rule says of a seat that is split off, and of one that is blank.
use Rattle.std.specs.Prelude.{◌≡◌, ◌+◌, ◌-◌, ◌<◌, ◌≤◌, ◌∷◌}
use Rattle.g1_race_words.specs.{ℕ, List, [], Bool, refl, sym, ap, arith, inl, inr, State, Me, Splits, Enters, RaceShape, View, Start, Going, In, StoreHistory, IsBlank, mark_word, start_of, blank, after_split, numbers}
use Rattle.g1_race_words.proofs.Splitting.{raced_split, raced_enter}
use Rattle.g1_race_words.proofs.Going.{begun, going_split, going_enter}

abbrev pub Rule : RaceShape → State (Unit {0}) View → Type 0
Rule k s = Going k s.words s.views

-- the mark's card
pub card_back : (k : RaceShape) (v : View) (c : ℕ) → v.shape ≡ k → mark_word k c - v.shape.slots ≡ c
card_back k v c e = let f : v.shape.slots ≡ k.slots = ap (λ (s : RaceShape). s.slots) e in omega arith

-- a seat that is split off
abbrev pub newcomer : View → Bool → List StoreHistory → View
newcomer v frozen histories = record (blank (start_of v) 1 histories) { frozen = frozen }

pub splits : (k : RaceShape) (id : ℕ) (v : View) (frozen : Bool) (hs : List StoreHistory) → IsBlank v → 0 < v.weight → v.frozen ≡ frozen → ((h : StoreHistory) → In hs h → h.1 ≡ []) → ((m : ℕ) → numbers m (after_split v) + numbers m (newcomer v frozen hs) ≤ numbers m v)
    → Splits (Rule k) id v (after_split v) (newcomer v frozen hs)
splits k id v frozen hs still heavy flag fresh fewer s h at = let right = newcomer v frozen hs in
    going_split k s.words s.views h id v right at heavy refl (sym flag) (omega arith) fresh refl (raced_split (begun k s.words s.views h) s.words s.views id v right still heavy refl fewer fresh refl refl refl refl refl refl at h.raced)

pub enters_blank : (k : RaceShape) (slots i : ℕ) (b : Start) → Enters (Rule k) slots i (λ n w. ◌≡◌ {A = Me (Unit {0}) View} (w, []) (blank b 0 [], []))
enters_blank k slots i b s h len fits = (blank b 0 [], going_enter k s.words s.views h (blank b 0 []) refl refl refl (raced_enter (begun k s.words s.views h) s.words s.views (blank b 0 []) ((refl, refl, refl, refl), refl, refl, refl, refl, refl) refl refl h.raced), refl)

-- a seat's history is empty at first
pub fresh : (number : ℕ) (h : StoreHistory) → In ((number, []) ∷ []) h → h.1 ≡ []
fresh number h (inl e) = ap (λ (x : StoreHistory). x.1) (sym e)
fresh number h (inr i) = absurd i
