-- Worked histories on a heap of 4 regions of 2 cards of 4 slots: the definitions allow the right answers and
-- refuse changed ones.
use Rattle.std.specs.Prelude.{◌↔◌, ◌≡◌, ◌<◌, ◌≤◌, ◌∷◌, ◌||◌}
use Rattle.g1_core.specs.{◌∙◌, ℕ, false, cond, List, [], Option, Some, None, refl, sym, ap, arith, Contains, nat_cmp, true≢false, Shape, IsShape, Kind, SameRegion, Null, AlreadyDirty, Logged, No, opening, Holds, Enters, IsPending, Entry, Reply, Store, members_entry, clear_entry, IsAllowed, IsPermitted, table_of_history, drained, IsExact, inl, inr, true, subst, and_parts, not-true, or_cases, nat_cmp_total, CardSet, AreMembers, AreRefinable, IsRecorded, refined, kind_of, pending_after, stored, eq_by_cmp}
use Rattle.g1_core.specs.Table.{Table}
use Rattle.g1_core.specs.declared.entry.Call.TheVariants.{Redirect}
use Rattle.std.specs.FinSet as set
use Rattle.g1_core.specs.declared.entry.Reply.TheVariants as reply
use Rattle.g1_core.specs.declared.reply.ClearReply.TheVariants as clear_reply
use Rattle.g1_core.proofs.StoreLemmas.{none_refinable}
use Rattle.g1_core.proofs.RunLemmas.{permitted_parts, has_slots}
use Rattle.g1_core.proofs.SinceLemmas.{drain_exact}
use Rattle.g1_core.proofs.TableLemmas.{nothing_refers, held_from_Holds, newly_recorded, pending_before, refined_pending, refined_recorded, store_marks}
use Rattle.g1_core.proofs.RefinedLemmas.{refined_none, refinable_push}
use Rattle.g1_core.proofs.SetLemmas.{in_list, in_set, same_cards}
use Rattle.g1_core.proofs.MarkLemmas.{one_of, itself}

abbrev pub heap : Shape
heap = record { regions = 4; cards = 2; slots = 4 }

heap_within : IsShape heap
heap_within = record { regions_low = omega arith; regions_high = omega arith; cards_low = omega arith; cards_high = omega arith; slots_low = omega arith; slots_high = omega arith }

-- a store of a place in a slot, by caller 0
abbrev stores : ℕ → Option ℕ → Kind → Entry
stores slot target kind = record { caller = 0; call = Store slot target; reply = reply.Stored kind No false; refined = [] }

-- slot 0, on card 0 in region 0, refers to place 8 in region 1
abbrev pub first : Entry
first = stores 0 (Some 8) Logged

abbrev pub start : Table
start = opening heap

pub nobody : (card : ℕ) → set.contains (start.pending) card ≡ false
nobody card = set.contains-empty nat_cmp card

-- the kinds of store
pub store_across_is_logged : IsAllowed start first
store_across_is_logged = record { numbers = (omega arith, omega arith); refines = none_refinable _; answers = (ap (λ b. cond b AlreadyDirty Logged) (sym (nobody 0)), λ h. refl) }

pub store_within_is_filtered : IsAllowed start (stores 0 (Some 5) SameRegion)
store_within_is_filtered = record { numbers = (omega arith, omega arith); refines = none_refinable _; answers = (refl, λ h. refl) }

pub store_of_null_is_filtered : IsAllowed start (stores 0 None Null)
store_of_null_is_filtered = record { numbers = (omega arith, tt); refines = none_refinable _; answers = (refl, λ h. refl) }

pub store_across_is_not_filtered : IsAllowed start (stores 0 (Some 8) SameRegion) → ⊥
store_across_is_not_filtered h =
    let is : SameRegion ≡ Logged = h.answers.0 ∙ ap (λ b. cond b AlreadyDirty Logged) (nobody 0) in cc

pub store_outside_the_heap_is_no_call : IsAllowed start (stores 32 (Some 0) Logged) → ⊥
store_outside_the_heap_is_no_call h = let below : 32 < 32 = h.numbers.0 in absurd (omega arith)

-- after that store card 0 holds into region 1
pub holding : Holds (table_of_history heap (first ∷ [])) 0 1
holding = record { slot = 0; place = 8; on_card = refl; refers = refl; into = refl; outside = λ e. absurd (omega arith) }

-- what a whole drain of a region answers after that store
module _ (region : ℕ) (cards refined : List ℕ) (h : IsPermitted start (first ∷ drained 0 region cards refined ∷ [])) where
  exact : IsExact heap (first ∷ []) region cards
  exact = let p = permitted_parts start (first ∷ []) (drained 0 region cards refined) [] h in drain_exact heap (has_slots heap heap_within) (first ∷ []) p.0 0 region cards refined p.1

pub drain_misses_no_card : (refined : List ℕ) → IsPermitted start (first ∷ drained 0 1 [] refined ∷ []) → ⊥
drain_misses_no_card refined h = let c : Contains [] 0 = (exact 1 [] refined h).every 0 holding in absurd (omega (arith, c.1))

pub drain_lists_no_card_of_the_region : (cards refined : List ℕ) → Contains cards 2 → IsPermitted start (first ∷ drained 0 1 cards refined ∷ []) → ⊥
drain_lists_no_card_of_the_region cards refined c h = (exact 1 cards refined h).outside 2 c refl

pub drain_lists_no_card_twice_or_behind_a_greater_one : (a b : ℕ) (refined : List ℕ) → b ≤ a → IsPermitted start (first ∷ drained 0 1 (a ∷ b ∷ []) refined ∷ []) → ⊥
drain_lists_no_card_twice_or_behind_a_greater_one a b refined le h = let up : a < b = (exact 1 (a ∷ b ∷ []) refined h).ascending 0 (omega arith) in absurd (omega arith)

-- a clear of region 1, in which slot 0 refers
pub clear_of_an_unused_region_is_granted : IsAllowed start (clear_entry 0 1 clear_reply.Cleared)
clear_of_an_unused_region_is_granted = record { numbers = omega arith; refines = none_refinable _; answers = (refl, refl, λ slot e. nothing_refers 32 slot e.place e.refers) }

pub clear_of_a_used_region_is_not_granted : (t : Table) (slot : ℕ) → Enters t slot 1 → IsAllowed t (clear_entry 0 1 clear_reply.Cleared) → ⊥
clear_of_a_used_region_is_not_granted t slot enters h = h.answers.2 slot enters

pub clear_names_no_other_slot_than_the_least : (t : Table) (slot least : ℕ) → Enters t least 1 → least < slot → IsAllowed t (clear_entry 0 1 (clear_reply.StillReferenced slot)) → ⊥
clear_names_no_other_slot_than_the_least t slot least enters less h = let le : slot ≤ least = h.answers.2.least least enters in absurd (omega arith)

pub clear_with_a_pending_card_is_not_granted : (t : Table) (card : ℕ) → IsPending t card → IsAllowed t (clear_entry 0 1 clear_reply.Cleared) → ⊥
clear_with_a_pending_card_is_not_granted t card pending h =
    true≢false (sym pending ∙ ap (λ s. set.contains s card) h.answers.1 ∙ set.contains-empty nat_cmp card)

-- members and redirects
pub members_lists_no_card_that_is_not_recorded : IsAllowed start (members_entry 0 1 (0 ∷ [])) → ⊥
members_lists_no_card_that_is_not_recorded h =
    let c : Contains (0 ∷ []) 0 = (0, omega arith, refl) in
    true≢false (sym (h.answers.1.recorded 0 c) ∙ set.contains-empty _ (0, 1))

pub redirect_to_the_same_region_is_no_call : (answer : Reply) (refined : List ℕ) → IsAllowed start (record { caller = 0; call = Redirect 1 1; reply = answer; refined = refined }) → ⊥
redirect_to_the_same_region_is_no_call answer refined h = h.numbers.2 refl

pub redirect_counts_just_the_moved_slots : (refined : List ℕ) → IsAllowed start (record { caller = 0; call = Redirect 1 2; reply = reply.Moved 1; refined = refined }) → ⊥
redirect_counts_just_the_moved_slots refined h = let no : 1 ≡ 0 = h.answers.1 in absurd (omega arith)

-- nothing is recorded at the opening
nothing_recorded : (card region : ℕ) → IsRecorded start card region → ⊥
nothing_recorded card region r = true≢false (sym r ∙ set.contains-empty _ (card, region))

no_members : (region : ℕ) → AreMembers start region []
no_members region = record { ascending = λ k lt. absurd (omega (arith, lt)); recorded = λ card c. absurd (omega (arith, c.1)); all = λ card r. absurd (nothing_recorded card region r) }

pub members_of_an_unused_region_are_none : IsAllowed start (members_entry 0 1 [])
members_of_an_unused_region_are_none = record { numbers = omega arith; refines = none_refinable _; answers = (refl, no_members 1) }

pub drain_of_an_unused_region_lists_no_card : IsAllowed start (drained 0 1 [] [])
drain_of_an_unused_region_lists_no_card = record {
  numbers = omega arith;
  refines = none_refinable _;
  answers = subst (λ (t : Table). (t.pending ≡ set.empty) × AreMembers t 1 []) (sym (refined_none start)) (refl, no_members 1);
}

-- once slot 0 refers to place 8, card 0 is pending and no other
abbrev after : Table
after = table_of_history heap (first ∷ [])

is_stored : after ≡ stored start 0 (Some 8)
is_stored = refined_none (stored start 0 (Some 8))

waits : IsPending after 0
waits = subst (λ (t : Table). IsPending t 0) (sym is_stored) (store_marks start 0 8 (λ e. absurd (omega (arith, e))))

only_first : (q : ℕ) → IsPending after q → q ≡ 0
only_first q p =
    let kind : kind_of start 0 (Some 8) ≡ Logged = ap (λ b. cond b AlreadyDirty Logged) (nobody 0) in
    let pending : after.pending ≡ set.insert set.empty 0 = ap (λ (t : Table). t.pending) is_stored ∙ ap (λ (k : Kind). pending_after k set.empty 0) kind in
    let there : (eq_by_cmp nat_cmp q 0 || set.contains start.pending q) ≡ true = sym (set.contains-insert nat_cmp_total set.empty 0 q) ∙ ap (λ (s : CardSet). set.contains s q) (sym pending) ∙ p in
    let none : set.contains start.pending q ≡ false = nobody q in
    grind arith

refinable : AreRefinable after (0 ∷ [])
refinable = refinable_push after [] 0 (none_refinable after) (subst (λ (t : Table). IsPending t 0) (sym (refined_none after)) waits)

nothing_waits : (refined (0 ∷ []) after).pending ≡ set.empty
nothing_waits = same_cards _ _
    (λ q p. absurd (true≢false (sym (in_set (0 ∷ []) q (itself q 0 (only_first q (pending_before (0 ∷ []) after q p)))) ∙ not-true _ (and_parts _ _ (sym (refined_pending (0 ∷ []) after q) ∙ p)).1)))
    (λ q p. absurd (true≢false (sym p ∙ nobody q)))

one_member : AreMembers (refined (0 ∷ []) after) 1 (0 ∷ [])
one_member = record {
  ascending = λ k lt. absurd (omega (arith, lt));
  recorded = λ card c. subst (λ (q : ℕ). IsRecorded (refined (0 ∷ []) after) q 1) (sym (one_of card 0 c)) (newly_recorded (0 ∷ []) after 0 1 (held_from_Holds after 0 1 holding) (in_set (0 ∷ []) 0 (itself 0 0 refl)));
  all = λ card r. elim (or_cases _ _ (sym (refined_recorded (0 ∷ []) after (card, 1)) ∙ r)) [
    | inl old ↦ absurd (nothing_recorded card 1 (ap (λ (t : Table). set.contains t.recorded (card, 1)) (sym is_stored) ∙ old))
    | inr new ↦ in_list (0 ∷ []) card (and_parts _ _ new).1
  ];
}

still_waits : (refined [] after).pending ≡ set.empty → ⊥
still_waits none = true≢false (sym waits ∙ ap (λ (t : Table). set.contains t.pending 0) (sym (refined_none after)) ∙ ap (λ (s : CardSet). set.contains s 0) none ∙ nobody 0)

pub drain_lists_the_card_that_holds : IsAllowed after (drained 0 1 (0 ∷ []) (0 ∷ []))
drain_lists_the_card_that_holds = record { numbers = omega arith; refines = refinable; answers = (nothing_waits, one_member) }

just_one : (cards : List ℕ) → AreMembers (refined (0 ∷ []) after) 1 cards → (card : ℕ) → Contains cards card ↔ (card ≡ 0)
just_one cards are card = (λ c. one_of card 0 (one_member.all card (are.recorded card c)), λ e. rw e (are.all 0 (one_member.recorded 0 (itself 0 0 refl))))

pub drain_lists_just_the_card_that_holds : (cards : List ℕ) → IsAllowed after (drained 0 1 cards (0 ∷ [])) → (card : ℕ) → Contains cards card ↔ (card ≡ 0)
drain_lists_just_the_card_that_holds cards h = just_one cards h.answers.1

pub drain_refines_all_that_waits : IsAllowed after (drained 0 1 [] []) → ⊥
drain_refines_all_that_waits h = still_waits h.answers.0

-- once that drain was made, card 0 is recorded for region 1
abbrev paused : Table
paused = table_of_history heap (first ∷ drained 0 1 (0 ∷ []) (0 ∷ []) ∷ [])

pub members_lists_the_recorded_card : IsAllowed paused (members_entry 0 1 (0 ∷ []))
members_lists_the_recorded_card = record { numbers = omega arith; refines = none_refinable _; answers = (refl, one_member) }

pub members_lists_just_the_recorded_card : (cards : List ℕ) → IsAllowed paused (members_entry 0 1 cards) → (card : ℕ) → Contains cards card ↔ (card ≡ 0)
members_lists_just_the_recorded_card cards h = just_one cards h.answers.1

-- a redirect from region 1 to region 2, after the first store
abbrev redirects : ℕ → List ℕ → Entry
redirects slots cards = record { caller = 0; call = Redirect 1 2; reply = reply.Moved slots; refined = cards }

pub redirect_moves_the_slot_that_refers : IsAllowed after (redirects 1 (0 ∷ []))
redirect_moves_the_slot_that_refers = record { numbers = (omega arith, omega arith, λ e. absurd (omega (arith, e))); refines = refinable; answers = (nothing_waits, refl) }

pub redirect_counts_just_the_slot_that_refers : (slots : ℕ) → IsAllowed after (redirects slots (0 ∷ [])) → slots ≡ 1
redirect_counts_just_the_slot_that_refers slots h = h.answers.1

pub redirect_refines_all_that_waits : IsAllowed after (redirects 1 []) → ⊥
redirect_refines_all_that_waits h = still_waits h.answers.0
