-- The handles have readers of the pause, which the heap was lent to.
use Rattle.std.specs.Prelude.{◌≡◌, ◌++◌, IsPermutation}
use Rattle.g1_handles.specs.{arith, rules, ℕ, List, Some, All, length, map, sym, ap, subst, Option, arc_value, TableId, Race, Pause, start_at, known, BeingRead, ReaderParty, held_readers, role_in, BelongsTo, AreOut, AreReadersAt, IsLentPause, PartyCounts, boxed_counts}
use Rattle.g1_handles.specs.declared.heap.racing_heap.AtPause.{AtPause}
use Rattle.std.proofs.lemmas.Grind.{common_steps}
use Rattle.g1_handles.proofs.ReaderLemmas.{KnowsPause, handed_out}
use Rattle.g1_handles.proofs.heap.reading.read_heap.Goals as goal

readers_at : (a : AtPause) (b : BeingRead) (n : ℕ) (ms : List (Option ReaderParty)) → IsLentPause a b → AreOut n b
    → map role_in ms ≡ map (λ r. Some r) b.readers.out.roles.items → All (BelongsTo (arc_value b.race)) ms → AreReadersAt (arc_value a.race) a.pause ms
readers_at a b n ms lent out is of =
    let roles = b.readers.out.roles.items in
    let known_there : All (KnowsPause b.reading.pause) roles = subst (λ (t : TableId). All (λ r. r ≡ known t (start_at b.reading.pause)) roles) b.table out.readers in
    let know : All (KnowsPause a.pause) roles = subst (λ (p : Pause). All (KnowsPause p) roles) lent.pause known_there in
    handed_out (arc_value a.race) a.pause ms roles a.id a.laid is know (subst (λ (race : Race). All (BelongsTo race) ms) (ap (λ r. arc_value r) lent.race) of)

pub hand_out_to-requires : goal.hand_out_to-requires
hand_out_to-requires c =
    let out = rw c.in-Read.is at c.replace_with.ensures.1.0 in
    (arc_value c.in-Read.being_read.race, first_of (search rules, grind (arith, common_steps)))

pub returns-clause-lent : goal.returns-clause-lent
returns-clause-lent c =
    let a = c.in-Paused.at in
    let b = c.in-Read.being_read in
    let ms = held_readers c.hand_out_to.new.handles in
    let n = length c.are_closed.new.handles in
    let out = rw c.in-Read.is at c.replace_with.ensures.1.0 in
    let lent = rw (c.in-Paused.is, c.in-Read.is) at c.replace_with.ensures.0 in
    let shared = rw (c.in-Paused.is, c.in-Read.is) at c.replace_with.ensures.1.1 in
    record {
      lent = search rules;
      readers_at = rw (c.in-Some.ensures.lent, c.in-Paused.is) (readers_at a b n ms lent out c.hand_out_to.ensures.roles (c.hand_out_to.ensures.race _ out.boxes.waiting));
      count = search rules;
      counts = rw (c.in-Some.ensures.lent, c.in-Paused.is) (subst (λ (l : List PartyCounts). IsPermutation (boxed_counts a.readers.idle) (l ++ boxed_counts b.readers.idle)) (sym c.hand_out_to.ensures.counts) shared);
      closed = search rules;
    }
