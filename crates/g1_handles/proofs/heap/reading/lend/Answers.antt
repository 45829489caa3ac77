-- What is lent is the heap of the pause, and as many of its readers.
use Rattle.std.specs.Prelude.{◌≡◌, ◌++◌, IsPermutation}
use Rattle.g1_handles.specs.{List, Box, All, length, refl, sym, ap, ◌∙◌, subst, arith, Global, arc_value, All-nil, TableId, Pause, start_at, Known, ReaderParty}
use Rattle.g1_handles.proofs.{seen_of_parts}
use Rattle.g1_handles.proofs.heap.reading.lend.Goals as goal

pub invariant_of-being_read-2 : goal.invariant_of-being_read-2
invariant_of-being_read-2 c =
    let at = c.in-Paused.at in
    let same = c.read_by-reading.ensures.pause in
    let Waits : Box ReaderParty Global → Type 0 = λ b. arc_value b.value.race ≡ arc_value at.race in
    let wait = c.move_boxes.ensures.race (arc_value at.race) at.readers_wait (subst (All Waits) (sym c.clear-2.ensures.items) (All-nil Waits)) in
    record {
      id = at.id ∙ sym (ap (λ (p : Pause). (p.table_id, p.shape)) same);
      laid = at.laid ∙ sym (ap (λ (p : Pause). p.layout) same);
      racer_boxes = at.racer_boxes ∙ sym (ap (λ (p : Pause). length p.logs) same);
      sweeper_boxes = at.sweeper_boxes ∙ sym (ap (λ (p : Pause). p.sweepers) same);
      table = c.read_by-reading.ensures.table ∙ sym (ap (λ (p : Pause). p.table_id) same);
      out = c.read_by-reading.ensures.count.0;
      reader_boxes = c.move_boxes.ensures.from ∙ (at.reader_boxes ∙ sym (ap (λ (p : Pause). p.shape.parties) same));
      racers_wait = at.racers_wait;
      sweepers_wait = at.sweepers_wait;
      readers_wait = wait.0;
    }

pub returns-clause-out : goal.returns-clause-out
returns-clause-out c =
    let at = c.in-Paused.at in
    let read = c.read_by-reading in
    let Waits : Box ReaderParty Global → Type 0 = λ b. arc_value b.value.race ≡ arc_value at.race in
    let wait = c.move_boxes.ensures.race (arc_value at.race) at.readers_wait (subst (All Waits) (sym c.clear-2.ensures.items) (All-nil Waits)) in
    record {
      counted = refl;
      boxes = record {
        box_count = omega (arith, c.move_boxes.ensures.to, c.clear-2.ensures.len);
        role_count = read.ensures.count.1;
        waiting = wait.1;
        of = λ k d below.
            ap (λ (r : Known). (r.table_id, r.start.shape)) (read.ensures.readers k d below)
            ∙ (ap (λ (t : TableId). (t, (start_at read.result.pause).shape)) read.ensures.table
            ∙ (ap (λ (p : Pause). (at.pause.table_id, p.shape)) read.ensures.pause ∙ sym at.id));
      };
      readers = read.ensures.readers;
    }

pub returns-clause-shared : goal.returns-clause-shared
returns-clause-shared c =
    let idle = c.in-Paused.at.readers.idle.items in
    let out = c.move_boxes.new.to.items in
    let rest = c.move_boxes.new.from.items in
    let moved : IsPermutation idle (out ++ rest) = subst (λ (l : List (Box ReaderParty Global)). IsPermutation (l ++ idle) (out ++ rest)) c.clear-2.ensures.items c.move_boxes.ensures.same in
    rw c.in-Paused.is (seen_of_parts (λ (m : Box ReaderParty Global). m.value.counts) idle out rest moved)
