-- Those that were out come back to the others.
use Rattle.std.specs.Prelude.{◌≡◌, ◌++◌, IsPermutation}
use Rattle.g1_handles.specs.{List, [], Box, Global, subst, arith, ReaderParty}
use Rattle.std.proofs.lemmas.List.{append-nil, nil_from_length}
use Rattle.g1_handles.proofs.{seen_of_parts, back}
use Rattle.g1_handles.proofs.heap.reading.end.Goals as goal

pub returns-clause-shared : goal.returns-clause-shared
returns-clause-shared c =
    let asked = rw c.in-Read.is at c.requires in
    let b = c.in-Read.being_read in
    let out = b.readers.out.boxes.items in
    let rest = b.readers.idle.items in
    let idle = c.move_boxes.new.to.items in
    let left = c.move_boxes.new.from.items in
    let none : left ≡ [] = nil_from_length left (omega (arith, c.move_boxes.ensures.from, asked.boxes.box_count, c.move_boxes.new.from.ok.0)) in
    let moved : IsPermutation (rest ++ out) idle = rw (append-nil idle) at (subst (λ (l : List (Box ReaderParty Global)). IsPermutation (rest ++ out) (idle ++ l)) none c.move_boxes.ensures.same) in
    rw c.in-Read.is (seen_of_parts (λ (m : Box ReaderParty Global). m.value.counts) idle out rest (back idle out rest moved))
