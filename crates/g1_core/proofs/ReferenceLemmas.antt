-- The changes of a region's members are all that a redirect has to move.
use Rattle.std.specs.Prelude.{◌≡◌, ◌≢◌, ◌<◌, ◌*◌}
use Rattle.g1_core.specs.{◌∙◌, inl, inr, ℕ, true, List, length, get_or, Option, Some, None, refl, sym, ap, subst, arith, map, Result, Ok, Err, Contains, All, count_by, OnErr, filter_map, enumerate_from, eqb-true, eqb-false, and_parts, true≢false, not-true, length-map, length-enumerate_from, Contains-get_or, Shape, IsShape, slot_count, card_of, region_of, region_of_card, same_offset, same_offset_below, Change, IsCore, pending_of, table_from, state_from, Holds, IsCovered, IsRecorded, enters, moved_target, moved_pair, moved, change_at, changes_of, slots_of, slots_on, changed, AreGaining, Cells, PairSet, pair_cmp, Ring, Pairs, AreTied, list_at, of_region, without, AreRead, AreCells, AreOutside}
use Rattle.g1_core.specs.Table.{Table}
use Rattle.std.specs.FinSet as set
use Rattle.g1_core.proofs.SetLemmas.{same_pairs, in_pairs, to_pairs, from_kept, to_kept, All_by_member, from_places, to_places}
use Rattle.g1_core.proofs.TableLemmas.{region_of_slot, is_slot}
use Rattle.g1_core.proofs.RunLemmas.{has_slots, holds_outside}
use Rattle.g1_core.proofs.ClearLemmas.{met}
use Rattle.g1_core.proofs.MovedLemmas.{moved_covered, moved_known, pair_from, to_pair}
use Rattle.g1_core.proofs.ChangeLemmas.{IsChanged, change_cases, all_moved, changed_places, of_region_from, of_region_to}
use Rattle.g1_core.proofs.WalkLemmas.{on_card, its_slot, to_slots, distinct_slots}

-- The references into a region are moved, where nothing is pending.
module _ (heap : Cells) (sets : Pairs) (ring : Ring) (pending : ℕ) (core : IsCore heap sets ring pending) (from to : ℕ) (apart : from ≢ to) (within : to < heap.layout.regions) (nothing : pending_of heap.marks ≡ set.empty) (tied : AreTied sets) where
  abbrev l : Shape
  l = heap.layout

  abbrev t : Table
  t = table_from heap sets.pairs

  abbrev members : List ℕ
  members = list_at sets.lists from

  abbrev changes : List Change
  changes = changes_of heap.layout heap.refs from to (slots_on heap.layout (list_at sets.lists from))

  shape : IsShape l
  shape = core.parts.cells.shape

  some : 0 < l.cards * l.slots
  some = has_slots l shape

  -- the card of each slot that enters the region is a member
  entering : (slot : ℕ) → enters l from (slot, get_or heap.refs slot None) ≡ true → Contains members (card_of l slot)
  entering slot h = elim (change_cases l from to slot (get_or heap.refs slot None)) [
    | inl left ↦ absurd (true≢false (sym h ∙ left.away))
    | inr c ↦
        let parts = and_parts _ _ (sym (ap (λ (o : Option ℕ). enters l from (slot, o)) c.refers) ∙ h) in
        met t from members nothing core.parts.cover (λ card r. (tied.members card from).1 r) slot
        (record { place = c.old; refers = c.refers; into = eqb-true _ _ parts.1; outside = λ e. eqb-false _ _ (not-true _ parts.0) e })
  ]

  pub every_moved : (changed heap.refs changes ≡ map (moved_target l from to) (enumerate_from 0 heap.refs)) × (length changes ≡ count_by (enters l from) (enumerate_from 0 heap.refs))
  every_moved = all_moved l from to some apart (slots_on l members) heap.refs (distinct_slots l shape members (tied.lists.distinct from)) (λ slot h. to_slots l shape members slot (entering slot h))

  -- each change is of a slot that enters
  changed_from : (slots : List ℕ) (x : Change) → Contains (changes_of l heap.refs from to slots) x
      → (slot : ℕ) × Contains slots slot × (d : IsChanged l from to slot (get_or heap.refs slot None)) × (let here : Change = record { slot = slot; place = same_offset l d.old to } in here ≡ x)
  changed_from slots x c =
      let k = from_kept (λ slot. change_at l from to slot (get_or heap.refs slot None)) slots x c in
      elim (change_cases l from to k.1 (get_or heap.refs k.1 None)) [
        | inl left ↦ let none : None ≡ Some x = sym left.none ∙ k.4 in cc
        | inr d ↦
            let here : Change = record { slot = k.1; place = same_offset l d.old to } in
            let both : Some here ≡ Some x = sym d.change ∙ k.4 in
            let is : here ≡ x = cc in
            (k.1, (k.0, k.2, k.3), d, is)
      ]

  change_within : (x : Change) → Contains changes x → (x.slot < slot_count l) × (x.place < slot_count l)
  change_within x c =
      let s = changed_from (slots_on l members) x c in
      subst (λ (y : Change). (y.slot < slot_count l) × (y.place < slot_count l)) s.3 (omega (arith, is_slot heap.refs s.0 s.2.old s.2.refers, core.parts.cells.slots), same_offset_below l s.2.old to some within)

  pub slots_within : All (λ change. change.slot < slot_count l) changes
  slots_within = All_by_member (λ change. change.slot < slot_count l) changes (λ x c. (change_within x c).0)

  pub places_within : All (λ change. change.place < slot_count l) changes
  places_within = All_by_member (λ change. change.place < slot_count l) changes (λ x c. (change_within x c).1)

  -- the pairs of the cards that gain a reference are those that the moved references make
  module _ (gaining : List ℕ) (gains : AreGaining l heap.refs from to members gaining) where
    gained_makes : (p : ℕ × ℕ) → set.contains (of_region gaining to) p ≡ true → set.contains (set.from_list {R = pair_cmp} (filter_map (moved_pair l from to) (enumerate_from 0 heap.refs))) p ≡ true
    gained_makes p h =
        let q : (p.1 ≡ to) × Contains gaining p.0 = of_region_from gaining to p (in_pairs _ p h) in
        let g = (gains p.0).0 q.1 in
        let null : Change = record { slot = 0; place = 0 } in
        let x : Change = get_or (changes_of l heap.refs from to (slots_of l p.0)) 0 null in
        let s = changed_from (slots_of l p.0) x (Contains-get_or (changes_of l heap.refs from to (slots_of l p.0)) 0 null (omega (arith, g.1))) in
        let on : card_of l s.0 ≡ p.0 = on_card l shape p.0 s.0 s.1 in
        let outside : region_of l s.0 ≢ to = λ e. g.2 (sym (ap (region_of_card l) on) ∙ region_of_slot l s.0 ∙ e) in
        let is : ◌≡◌ {A = ℕ × ℕ} (card_of l s.0, to) p = λ i. (on i, sym q.0 i) in
        to_pairs (filter_map (moved_pair l from to) (enumerate_from 0 heap.refs)) p
        (to_places (moved_pair l from to) heap.refs None s.0 p (is_slot heap.refs s.0 s.2.old s.2.refers) (to_pair l from to s.0 (get_or heap.refs s.0 None) s.2.enters outside ∙ ap Some is))

    made_gains : (p : ℕ × ℕ) → set.contains (set.from_list {R = pair_cmp} (filter_map (moved_pair l from to) (enumerate_from 0 heap.refs))) p ≡ true → set.contains (of_region gaining to) p ≡ true
    made_gains p h =
        let k = from_places (moved_pair l from to) heap.refs None p (in_pairs _ p h) in
        let m = pair_from l from to k.0 (get_or heap.refs k.0 None) p k.2 in
        elim (change_cases l from to k.0 (get_or heap.refs k.0 None)) [
          | inl left ↦ absurd (true≢false (sym m.0 ∙ left.away))
          | inr d ↦
              let s = its_slot l shape (card_of l k.0) k.0 refl in
              let listed : Contains (changes_of l heap.refs from to (slots_of l (card_of l k.0))) (record { slot = k.0; place = same_offset l d.old to }) =
              to_kept (λ slot. change_at l from to slot (get_or heap.refs slot None)) (slots_of l (card_of l k.0)) s.0 k.0 (record { slot = k.0; place = same_offset l d.old to }) s.1 s.2 d.change in
              let gain : Contains gaining (card_of l k.0) = (gains (card_of l k.0)).1 (entering k.0 m.0, omega (arith, listed.1), λ e. m.1 (sym (region_of_slot l k.0) ∙ e)) in
              to_pairs (map (λ (c : ℕ). (c, to)) gaining) p (subst (λ (p : ℕ × ℕ). Contains (map (λ (c : ℕ). (c, to)) gaining) p) m.2 (of_region_to gaining to (card_of l k.0) gain))
        ]

    pub gained_pairs : of_region gaining to ≡ set.from_list {R = pair_cmp} (filter_map (moved_pair l from to) (enumerate_from 0 heap.refs))
    gained_pairs = same_pairs _ _ gained_makes made_gains

    -- what the parts are afterwards
    module _ (now heap' : Cells) (sets' : Pairs) (most : ℕ) (read : AreRead heap now most) (layout : sets'.layout ≡ sets.layout) (pairs : sets'.pairs ≡ without (set.union sets.pairs (of_region gaining to)) from)
        (written : let h : Cells = record { layout = now.layout; refs = changed now.refs changes; marks = now.marks; reads = now.reads } in heap' ≡ h) where
      abbrev after : Cells
      after = record { layout = heap.layout; refs = changed heap.refs changes; marks = heap.marks; reads = now.reads }

      heap_is : heap' ≡ after
      heap_is = written ∙ ap (λ (h : Cells). let r : Cells = record { layout = h.layout; refs = changed h.refs changes; marks = h.marks; reads = now.reads } in r) read.cells

      recorded_is : sets'.pairs ≡ (moved from to t).recorded
      recorded_is = pairs ∙ ap (λ (ps : PairSet). without (set.union sets.pairs ps) from) gained_pairs

      table_is : table_from after sets'.pairs ≡ moved from to t
      table_is = λ i. record { layout = heap.layout; refs = every_moved.0 i; pending = pending_of heap.marks; recorded = recorded_is i }

      length_is : length (changed heap.refs changes) ≡ slot_count l
      length_is = ap (λ (rs : List (Option ℕ)). length rs) every_moved.0 ∙ length-map (enumerate_from 0 heap.refs) (moved_target l from to) ∙ length-enumerate_from 0 heap.refs ∙ core.parts.cells.slots

      pub moved_core : IsCore heap' sets' ring pending
      moved_core =
          let places = changed_places l changes heap.refs core.parts.cells.places places_within in
          let cells : AreCells after = record { shape = shape; slots = length_is; places = places; cards = core.parts.cells.cards } in
          let cover : IsCovered (table_from after sets'.pairs) = subst IsCovered (sym table_is) (moved_covered from to t some apart nothing core.parts.cover) in
          let outside : AreOutside (table_from after sets'.pairs) = λ card region r. elim (moved_known from to t some card region (subst (λ (t : Table). IsRecorded t card region) table_is r)).0 [
            | inl old ↦ core.parts.outside card region old
            | inr holds ↦ holds_outside (table_from after sets'.pairs) shape length_is places card region (subst (λ (t : Table). Holds t card region) (sym table_is) holds)
          ] in
          subst (λ (h : Cells). IsCore h sets' ring pending) (sym heap_is) (record { layouts = layout ∙ core.layouts; parts = search (cells, cover, outside) })

      pub moved_state : state_from heap' sets'.pairs ring ≡ record { table = moved from to t; ring = ring }
      moved_state = ap (λ (h : Cells). state_from h sets'.pairs ring) heap_is ∙ (λ i. record { table = table_is i; ring = ring })

      pub moved_reads : heap'.reads ≡ now.reads
      moved_reads = ap (λ (h : Cells). h.reads) heap_is

-- what holds of each error holds of an error
pub err_holds : {T E P : Type 0} (r : Result T E) → P → OnErr r P
err_holds (Ok x) h = tt
err_holds (Err e) h = h
