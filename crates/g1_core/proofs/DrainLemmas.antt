-- A drain: its two loops, which count nothing, over the ring and over the dirty cards; and that it is a step
-- of the plain table, whole and short.
use Rattle.std.specs.Prelude.{◌≡◌, ◌≢◌, ◌<◌, ◌≤◌, ◌+◌, ◌^◌, ◌∷◌, ◌++◌}
use Rattle.g1_core.specs.{◌∙◌, inl, inr, ℕ, true, false, List, [], length, drop, Some, refl, sym, ap, subst, arith, Contains, slice_get, cases_lt, true≢false, false_from_ne_true, append-nil, append_assoc, length_push, Contains-push, Contains-append_left, Contains-push_cases, set_of, Ring, popped, AreRefinable, IsPending, refined, is_dirty, ring_with, AreDirtyBelow, Drains, IsCardDrained, IsDirtyDrained, IsRingDrained, nat_cmp, length-append, IsDirtyStopped, IsShortDrain, IsAllDrained}
use Rattle.g1_core.specs.Machine.{Machine, Table}
use Rattle.std.specs.FinSet as set
use Rattle.g1_core.proofs.SetLemmas.{in_list, in_set, All_by_member, same_cards}
use Rattle.g1_sets.proofs.BitLemmas.{increasing_push}
use Rattle.g1_core.proofs.TableLemmas.{refined_pending}
use Rattle.g1_core.proofs.MarkLemmas.{one_of}
use Rattle.g1_core.proofs.RefinedLemmas.{refined_none, refined_both, refinable_push, refinable_both}
use Rattle.g1_core.proofs.PartLemmas.{IsFront, front_of}
use Rattle.g1_core.proofs.StoreLemmas.{none_refinable}
use Rattle.g1_core.proofs.LengthLemmas.{none_read, one_read, more_read}
use Rattle.g1_core.proofs.TurnLemmas.{to_dirty}

-- more cards are refined
pub drains_none : (m : Machine) → m.reads < 2 ^ 64 → Drains m [] 0 m
drains_none m h = record { refines = none_refinable m.state.table; table = sym (refined_none m.state.table); ring = refl; settings = refl; reads = none_read m.reads m.state.table.layout.slots 0 h refl }

pub drains_both : (a b c : Machine) (xs ys : List ℕ) (n m : ℕ) → Drains a xs n b → Drains b ys m c → Drains a (xs ++ ys) (n + m) c
drains_both a b c xs ys n m h k =
    let refines : AreRefinable (refined xs a.state.table) ys = subst (λ t. AreRefinable t ys) h.table k.refines in
    let slots : b.state.table.layout.slots ≡ a.state.table.layout.slots = ap (λ (t : Table). t.layout.slots) h.table in
    record {
      refines = refinable_both a.state.table xs ys h.refines refines;
      table = k.table ∙ ap (refined ys) h.table ∙ refined_both xs ys a.state.table;
      ring = k.ring ∙ ap (λ (r : Ring). ring_with r c.state.ring.cards) h.ring;
      settings = k.settings ∙ h.settings;
      reads = more_read a.reads b.reads c.reads a.state.table.layout.slots b.state.table.layout.slots n m (n + m) h.reads k.reads slots refl;
    }

pub drains_card : (old : Machine) (card : ℕ) (ring : Ring) (new : Machine) → ring ≡ ring_with old.state.ring ring.cards → IsCardDrained old card ring new → Drains old (card ∷ []) 1 new
drains_card old card ring new same h = record {
  refines = refinable_push old.state.table [] card (none_refinable old.state.table) (subst (λ t. IsPending t card) (sym (refined_none old.state.table)) h.pending);
  table = h.table;
  ring = h.left ∙ same ∙ ap (λ (r : Ring). ring_with old.state.ring r.cards) (sym h.left);
  settings = h.settings;
  reads = h.reads ∙ one_read old.reads old.state.table.layout.slots 1 refl;
}

-- the loop over the ring
pub ring_none : (m : Machine) (cards : List ℕ) → m.reads < 2 ^ 64 → cards ≡ [] → IsRingDrained m cards (length cards) m
ring_none m cards h none = subst (λ (cs : List ℕ). IsRingDrained m cs (length cs) m) (sym none) (record { drains = drains_none m h; order = refl })

pub ring_more : (old mid new : Machine) (cards after : List ℕ) (card : ℕ) → IsRingDrained old cards (length cards) mid → Some card ≡ slice_get mid.state.ring.cards 0 → IsCardDrained mid card (popped mid.state.ring) new
    → after ≡ cards ++ card ∷ [] → IsRingDrained old after (length after) new
ring_more old mid new cards after card h first k listed =
    let front : IsFront mid.state.ring.cards card = front_of mid.state.ring.cards card first in
    let left : new.state.ring.cards ≡ front.rest = ap (λ (r : Ring). r.cards) k.left ∙ ap (λ (xs : List ℕ). drop 1 xs) front.cards in
    subst (λ (cs : List ℕ). IsRingDrained old cs (length cs) new) (sym listed) (record {
      drains = subst (λ n. Drains old (cards ++ card ∷ []) n new) (sym (length_push cards card)) (drains_both old mid new cards (card ∷ []) (length cards) 1 h.drains (drains_card mid card (popped mid.state.ring) new refl k));
      order = h.order ∙ ap (λ (xs : List ℕ). cards ++ xs) front.cards ∙ sym (append_assoc cards (card ∷ []) front.rest) ∙ ap (λ (xs : List ℕ). (cards ++ card ∷ []) ++ xs) (sym left);
    })

-- the loop over the dirty cards
pub dirty_none : (m : Machine) (cards : List ℕ) → m.reads < 2 ^ 64 → IsDirtyDrained m cards cards 0 m
dirty_none m cards h = record {
  gone = [];
  listed = sym (append-nil cards);
  drains = drains_none m h;
  ring = refl;
  below = record { ascending = λ k lt. absurd (omega arith); just = λ q. (λ c. absurd (omega (arith, c.1)), λ p. absurd (omega (arith, p.0))) };
  others = λ q le. refl;
}

-- another card stays dirty or not
other_dirty : (old new : Machine) (card q : ℕ) → IsCardDrained old card old.state.ring new → q ≢ card → is_dirty new.state q ≡ is_dirty old.state q
other_dirty old new card q k ne =
    let absent : set.contains (set_of (card ∷ [])) q ≡ false = false_from_ne_true _ (λ c. ne (one_of q card (in_list (card ∷ []) q c))) in
    rw (k.table, k.left, refined_pending (card ∷ []) old.state.table q, absent) (grind arith)

pub dirty_more : (old mid new : Machine) (before cards after : List ℕ) (bound card : ℕ) → IsDirtyDrained old before cards bound mid → is_dirty mid.state card ≡ true → bound ≤ card
    → ((earlier : ℕ) → bound ≤ earlier → earlier < card → is_dirty mid.state earlier ≡ false) → IsCardDrained mid card mid.state.ring new → after ≡ cards ++ card ∷ [] → IsDirtyDrained old before after (card + 1) new
dirty_more old mid new before cards after bound card h dirty le first k listed = record {
  gone = h.gone ++ card ∷ [];
  listed = listed ∙ ap (λ (cs : List ℕ). cs ++ card ∷ []) h.listed ∙ append_assoc before h.gone (card ∷ []);
  drains = subst (λ n. Drains old (h.gone ++ card ∷ []) n new) (sym (length_push h.gone card)) (drains_both old mid new h.gone (card ∷ []) (length h.gone) 1 h.drains (drains_card mid card mid.state.ring new refl k));
  ring = k.left ∙ h.ring;
  below = record {
    ascending = increasing_push h.gone card h.below.ascending (All_by_member (λ q. q < card) h.gone (λ q c. let m = (h.below.just q).0 c in omega (arith, m.0)));
    just = λ q. (
      λ c. elim (Contains-push_cases h.gone card q c) [
        | inl was ↦ let m = (h.below.just q).0 was in (omega (arith, m.0), m.1)
        | inr is ↦ (omega (arith, is), ap (is_dirty old.state) (sym is) ∙ sym (h.others card le) ∙ dirty)
      ],
      λ p. elim (cases_lt q bound) [
        | inl low ↦ Contains-append_left h.gone (card ∷ []) q ((h.below.just q).1 (low, p.1))
        | inr high ↦ elim (cases_lt q card) [
          | inl between ↦ absurd (true≢false (sym p.1 ∙ sym (h.others q high) ∙ first q high between))
          | inr top ↦ let is : q ≡ card = omega (arith, p.0) in subst (Contains (h.gone ++ card ∷ [])) (sym is) (Contains-push h.gone card)
        ]
      ],
    );
  };
  others = λ q above. other_dirty mid new card q k (λ e. absurd (omega arith)) ∙ h.others q (omega arith);
}

-- once no card from the bound on is dirty, none is
pub dirty_all : (old new : Machine) (before after : List ℕ) (bound : ℕ) → IsDirtyDrained old before after bound new → ((card : ℕ) → bound ≤ card → is_dirty new.state card ≡ false) → (card : ℕ) → is_dirty new.state card ≡ false
dirty_all old new before after bound h none q = elim (cases_lt q bound) [
  | inr above ↦ none q above
  | inl low ↦
      let listed : is_dirty old.state q ≡ true → set.contains (set_of h.gone) q ≡ true = λ was. in_set h.gone q ((h.below.just q).1 (low, was)) in
      rw (h.drains.table, refined_pending h.gone old.state.table q, h.ring) (grind arith)
]

-- the dirty cards are the same once the ring is drained
module _ (a b : Machine) (xs : List ℕ) (n : ℕ) (h : IsRingDrained a xs n b) (left : b.state.ring.cards ≡ []) where
  whole_ring : a.state.ring.cards ≡ xs
  whole_ring = h.order ∙ ap (λ (ys : List ℕ). xs ++ ys) left ∙ append-nil xs

  dirty_same : (q : ℕ) → is_dirty b.state q ≡ is_dirty a.state q
  dirty_same q = rw (h.drains.table, refined_pending xs a.state.table q, left, set.contains-empty nat_cmp q, whole_ring) (grind arith)

  below_same : (bound : ℕ) (ys : List ℕ) → AreDirtyBelow b.state bound ys → AreDirtyBelow a.state bound ys
  below_same bound ys k = record {
    ascending = k.ascending;
    just = λ q. (λ c. let m = (k.just q).0 c in (m.0, sym (dirty_same q) ∙ m.1), λ p. (k.just q).1 (p.0, dirty_same q ∙ p.1));
  }

  -- a drain that stops among the dirty cards
  pub short_dirty : (c : Machine) (after : List ℕ) → IsDirtyStopped b xs after c → n ≡ length xs → IsShortDrain a after c
  short_dirty c after k exact =
      let gone : c.state.ring.cards ≡ [] = ap (λ (r : Ring). r.cards) k.ring ∙ left in
      let many : length after ≡ length xs + length k.gone = ap length k.listed ∙ length-append xs k.gone in
      record {
        order = record { held = xs; dirty = k.gone; bound = k.bound; parts = k.listed; ring = whole_ring ∙ sym (append-nil xs) ∙ ap (λ (ys : List ℕ). xs ++ ys) (sym gone); below = below_same k.bound k.gone k.below; turn = inl gone };
        tried = n + (length k.gone + 1);
        each = omega (arith, many, exact);
        most = omega (arith, many, exact);
        drains = subst (λ (cs : List ℕ). Drains a cs (n + (length k.gone + 1)) c) (sym k.listed) (drains_both a b c xs k.gone n (length k.gone + 1) h.drains k.drains);
      }

  pub all_drained : (c : Machine) (after : List ℕ) (bound : ℕ) → IsDirtyDrained b xs after bound c → n ≡ length xs → ((q : ℕ) → is_dirty c.state q ≡ false) → IsAllDrained a after c
  all_drained c after bound k exact none =
      let gone : c.state.ring.cards ≡ [] = ap (λ (r : Ring). r.cards) k.ring ∙ left in
      let many : n + length k.gone ≡ length after = omega (arith, ap length k.listed, length-append xs k.gone, exact) in
      record {
        order = record { held = xs; dirty = k.gone; bound = bound; parts = k.listed; ring = whole_ring ∙ sym (append-nil xs); below = below_same bound k.gone k.below; turn = inl refl };
        drains = subst (λ m. Drains a after m c) many (subst (λ (cs : List ℕ). Drains a cs (n + length k.gone) c) (sym k.listed) (drains_both a b c xs k.gone n (length k.gone) h.drains k.drains));
        left = gone;
        nothing = same_cards _ _
            (λ q p. absurd (true≢false (sym (to_dirty c.state q p (λ stands. absurd (omega (arith, (subst (λ (ys : List ℕ). Contains ys q) gone stands).1)))) ∙ none q)))
            (λ q p. absurd (true≢false (sym p ∙ set.contains-empty nat_cmp q)));
      }
