-- A check of the readers finds a handle with none, or a reader of another race.
use Rattle.std.specs.Prelude.{◌≡◌, ◌⊎◌, ◌++◌, IsPermutation}
use Rattle.g1_handles.specs.{ℕ, arith, rules, All, length, refl, sym, subst, arc_value, TableId, start_at, known, FillRoom, AreReadersAt, inl, inr, List, Option, Some, Any, Reason, RacingHeap, ReaderParty, SaysNoParty, held_readers, IsReadBy, IsReadEndRefused, boxed_counts, idle_counts, counts_of, PartyCounts, map, ap, ◌∙◌, OfAtPause}
use Rattle.g1_handles.specs.declared.code.Reason.TheVariants as refusal
use Rattle.g1_handles.specs.declared.heap.racing_heap.RacingHeap.TheVariants as heap
use Rattle.std.proofs.lemmas.Grind.{common_steps}
use Rattle.g1_handles.proofs.{passed}
use Rattle.g1_handles.proofs.ReaderLemmas.{all_know, all_of_race}
use Rattle.g1_handles.proofs.heap.reading.end_read_of_heap.Goals as goal

back_at_pause : (h : RacingHeap) (l : List PartyCounts) → OfAtPause (Some h) (λ a. IsPermutation (boxed_counts a.readers.idle) l) → IsPermutation (idle_counts (Some h)) l
back_at_pause (heap.Paused a) l same = same
back_at_pause (heap.Read r) l same = absurd same
back_at_pause (heap.Racing b) l same = absurd same

of_readers : (h : Option RacingHeap) (rs : List (Option ReaderParty)) (r : Reason)
    → IsReadBy h (length rs) → (r ≡ refusal.OtherRace) ⊎ Any (λ m. SaysNoParty m r) rs → IsReadEndRefused h rs r
of_readers h rs r as_many (inl other) = inr (inr (inr (as_many, inr other)))
of_readers h rs r as_many (inr none) = inr (inr (inr (as_many, inl none)))

pub returns-in_err-check_parties-clause-why : goal.returns-in_err-check_parties-clause-why
returns-in_err-check_parties-clause-why c =
    let h = c.args.handle.now.value in
    let rs = held_readers c.args.readers.now in
    let as_many : IsReadBy h (length rs) = first_of (search rules, grind (arith, common_steps)) in
    passed (λ r. (r ≡ refusal.OtherRace) ⊎ Any (λ m. SaysNoParty m r) rs) (IsReadEndRefused h rs) c.check_parties.result _ _ c.in_err-check_parties.was c.check_parties.ensures.why c.from_residual.ensures.1
    (of_readers h rs _ as_many)

pub replace_with-requires : goal.replace_with-requires
replace_with-requires c =
    let b = c.in-Read-heap.being_read in
    let race = arc_value b.race in
    let p = b.reading.pause in
    let ms = held_readers c.check_parties.new.handles in
    let there : AreReadersAt race p ms = first_of (search rules, grind (arith, common_steps)) in
    let count : length c.check_parties.new.handles ≡ b.readers.out.count = first_of (search rules, grind (arith, common_steps)) in
    let came = c.gather.ensures in
    record {
      counted = refl;
      boxes = subst (λ (n : ℕ). FillRoom race n c.gather.new.boxes c.gather.new.roles) count (came.parties race (all_of_race race p ms there));
      readers = subst (λ (t : TableId). All (λ r. r ≡ known t (start_at p)) c.gather.new.roles.items) (sym b.table) (all_know race p ms _ came.roles there);
    }

pub returns-clause-ended : goal.returns-clause-ended
returns-clause-ended c =
    let b = c.in-Read-heap.being_read in
    let ms = held_readers c.args.readers.now in
    let came : boxed_counts c.gather.new.boxes ≡ map counts_of ms = c.gather.ensures.counts ∙ ap (map counts_of) c.check_parties.ensures.same in
    record {
      ended = first_of (search rules, grind (arith, common_steps));
      count = first_of (search rules, grind (arith, common_steps));
      counts = rw (c.in-Some.ensures.lent, c.in-Read-heap.is) (subst (λ (l : List PartyCounts). IsPermutation (idle_counts (Some c.replace_with.new.dest)) (l ++ boxed_counts b.readers.idle)) came (back_at_pause c.replace_with.new.dest _ c.replace_with.ensures.1));
      like = first_of (search rules, grind (arith, common_steps));
      closed = first_of (search rules, grind (arith, common_steps));
    }
