-- A write of one region's set, seen in the lists and in the room of all.
use Rattle.std.specs.Prelude.{◌≡◌, ◌<◌, ◌≤◌, ◌+◌, ◌∷◌, ◌++◌}
use Rattle.g1_sets.specs.{inr, ℕ, List, [], length, get_or, take, drop, refl, sym, ap, ◌∙◌, subst, arith, All, Contains, sum_by, slice_set, slice_index, Result, Ok, Err, OnErr, length-map, get_or-map, get_or-set_same, map-set, take_more, sum_by_push, sum_by-take-le, IndexSet, keys, spare, list_at, with_card, Joins, RegionSet, lists_of, rooms_of, HaveRoom}
use Rattle.std.proofs.Math.Seq.{map-set_same, take-append_seam}
use Rattle.std.proofs.lemmas.List.{length-set}
use Rattle.g1_sets.proofs.ListLemmas.{joins_more, list_at-set_same, list_at-set_other}
use Rattle.g1_sets.proofs.CardLemmas.{with_card-there, to_list}
use Rattle.g1_sets.proofs.RoomLemmas.{room_more, room_grown}

-- the regions up to the next one
pub taken : (regions : List ℕ) (i region n : ℕ) → i < length regions → region ≡ get_or regions i region → n ≡ region → take (i + 1) regions ≡ take i regions ++ n ∷ []
taken regions i region n lt read at = take_more regions i region lt ∙ ap (λ x. take i regions ++ x ∷ []) (sym read ∙ sym at)

-- the next region's set is there
pub within : (regions : List ℕ) (i region n before now : ℕ) → i < length regions → region ≡ get_or regions i region → n ≡ region → now ≡ before → All (λ r. r < before) regions → n < now
within regions i region n before now lt read at same all =
    let less : get_or regions i region < before = all i region lt in
    omega (arith, less, read, at, same)

-- what holds at all holds on an error
pub on_err : {A B : Type 0} (P : Type 0) (r : Result A B) → P → OnErr r P
on_err P (Ok _) holds = tt
on_err P (Err _) holds = holds

-- what a slice of a whole vector leaves in it
pub whole : {X : Type 0} (new old : List X) (len : ℕ) → length new ≡ len → take len (new ++ drop (length new) old) ≡ new
whole new old len e = subst (λ n. take n (new ++ drop (length new) old) ≡ new) e (take-append_seam new (drop (length new) old))

module _ {S : Type 0} (sets : List (IndexSet ℕ S)) (n : ℕ) (new : IndexSet ℕ S) where
  pub lists_set : lists_of (slice_set sets n new) ≡ slice_set (lists_of sets) n new.keys
  lists_set = map-set keys sets n new

  pub rooms_set : rooms_of (slice_set sets n new) ≡ slice_set (rooms_of sets) n (spare new)
  rooms_set = map-set spare sets n new

  module _ (d : IndexSet ℕ S) where
    pub lists_kept : new.keys ≡ keys (get_or sets n d) → lists_of (slice_set sets n new) ≡ lists_of sets
    lists_kept e = map-set_same keys sets n new d e

    module _ (within : n < length sets) where
      pub list_is : list_at (lists_of sets) n ≡ keys (get_or sets n d)
      list_is = get_or-map keys sets n d [] within

      pub room_is : slice_index (rooms_of sets) n ≡ spare (get_or sets n d)
      room_is = get_or-map spare sets n d 0 within

      pub in_rooms : n < length (rooms_of sets)
      in_rooms = subst (λ m. n < m) (sym (length-map sets spare)) within

      pub in_lists : n < length (lists_of sets)
      in_lists = subst (λ m. n < m) (sym (length-map sets keys)) within

      -- the card was inserted into the set
      pub inserted : (card : ℕ) → new.keys ≡ with_card (keys (get_or sets n d)) card → lists_of (slice_set sets n new) ≡ slice_set (lists_of sets) n (with_card (list_at (lists_of sets) n) card)
      inserted card added = lists_set ∙ ap (slice_set (lists_of sets) n) (added ∙ ap (λ cs. with_card cs card) (sym list_is))

      module _ (regions : List ℕ) (i region : ℕ) (lt : i < length regions) (read : region ≡ get_or regions i region) (at : n ≡ region) where
        -- room was made in one region more
        pub rooms_more : (row : RegionSet) → spare (get_or sets n d) ≤ spare new → 0 < spare new → HaveRoom row (rooms_of sets) (take i regions) → HaveRoom row (rooms_of (slice_set sets n new)) (take (i + 1) regions)
        rooms_more row grows some before =
            let room : slice_index (slice_set (rooms_of sets) n (spare new)) region ≡ spare new = ap (slice_index (slice_set (rooms_of sets) n (spare new))) (sym at) ∙ get_or-set_same (rooms_of sets) n (spare new) 0 in_rooms in
            subst (λ ns. HaveRoom row ns (take (i + 1) regions)) (sym rooms_set)
            (room_more row (slice_set (rooms_of sets) n (spare new)) regions i region lt read (inr (omega (arith, room, some)))
            (room_grown (rooms_of sets) (take i regions) n (spare new) row in_rooms (omega (arith, grows, room_is)) before))

        -- the card was inserted into one set more
        pub joins_next : (card : ℕ) → new.keys ≡ with_card (keys (get_or sets n d)) card → (old : List (List ℕ)) → Joins card (take i regions) old (lists_of sets) → Joins card (take (i + 1) regions) old (lists_of (slice_set sets n new))
        joins_next card added old so_far =
            let cards : List ℕ = with_card (list_at (lists_of sets) n) card in
            subst (λ rs. Joins card rs old (lists_of (slice_set sets n new))) (sym (taken regions i region n lt read at))
            (subst (λ ls. Joins card (take i regions ++ n ∷ []) old ls) (sym (inserted card added))
            (joins_more card (take i regions) old (lists_of sets) (slice_set (lists_of sets) n cards) n so_far (length-set (lists_of sets) n cards)
            (list_at-set_same (lists_of sets) n cards n in_lists refl) (λ r ne. list_at-set_other (lists_of sets) n cards r ne)))

-- the list of a region is that of its set
pub list_here : {S : Type 0} (sets : List (IndexSet ℕ S)) (n region : ℕ) (item : IndexSet ℕ S) (count : ℕ) → item ≡ get_or sets n item → n ≡ region → length (lists_of sets) ≡ count → region < count → list_at (lists_of sets) region ≡ keys item
list_here sets n region item count is at all lt =
    let inside : n < length sets = let e : length (lists_of sets) ≡ length sets = length-map sets keys in omega (arith, lt, at, all, e) in
    subst (λ r. list_at (lists_of sets) r ≡ keys item) at (list_is sets n item item inside ∙ ap keys (sym is))

-- one set more is counted
module _ {S : Type 0} (sets : List (IndexSet ℕ S)) (i : ℕ) (item : IndexSet ℕ S) (total : ℕ) (lt : i < length sets) (is : item ≡ get_or sets i item) (so_far : total ≡ sum_by length (take i (lists_of sets))) where
  pub counted : total + length (keys item) ≡ sum_by length (take (i + 1) (lists_of sets))
  counted =
      let inside : i < length (lists_of sets) = subst (λ m. i < m) (sym (length-map sets keys)) lt in
      let list : get_or (lists_of sets) i [] ≡ keys item = get_or-map keys sets i item [] lt ∙ ap keys (sym is) in
      let more : sum_by length (take (i + 1) (lists_of sets)) ≡ sum_by length (take i (lists_of sets)) + length (get_or (lists_of sets) i []) =
      ap (sum_by length) (take_more (lists_of sets) i [] inside) ∙ sum_by_push length (take i (lists_of sets)) (get_or (lists_of sets) i []) in
      let same : length (get_or (lists_of sets) i []) ≡ length (keys item) = ap length list in
      omega (arith, more, same, so_far)

  pub counted_le : total + length (keys item) ≤ sum_by length (lists_of sets)
  counted_le = let le : sum_by length (take (i + 1) (lists_of sets)) ≤ sum_by length (lists_of sets) = sum_by-take-le length (lists_of sets) (i + 1) in omega (arith, le, counted)

-- the card is in one set more already
pub joins_there : (card : ℕ) (regions : List ℕ) (i region : ℕ) (old now : List (List ℕ)) → i < length regions → region ≡ get_or regions i region → Contains (list_at now region) card → Joins card (take i regions) old now → Joins card (take (i + 1) regions) old now
joins_there card regions i region old now lt read there so_far =
    subst (λ rs. Joins card rs old now) (sym (taken regions i region region lt read refl))
    (joins_more card (take i regions) old now now region so_far refl (sym (with_card-there (list_at now region) card (to_list (list_at now region) card there))) (λ r ne. refl))
