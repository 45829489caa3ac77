-- The call keeps what the boxes and the share are tied to.
use Rattle.g1_handles.specs.{refl, sym, ap, ◌∙◌, IsRaceWith}
use Rattle.g1_race_words.specs.declared.view.RaceShape.{RaceShape}
use Rattle.g1_handles.proofs.heap.at_pause.at_pause.Goals as goal

pub invariant_of-at : goal.invariant_of-at
invariant_of-at g c =
    let at = c.in-Paused.at in
    let new = c.call.new.arg2 in
    let kept : IsRaceWith new.logs at.pause new = c.requires.kept at.pause new c.call.result (record { shown = _; shows = refl; left = _; met = c.call.ensures; leaves = refl }) in
    record {
      id = at.id ∙ sym (ap (λ z. (z, new.shape)) kept.table_id ∙ ap (λ s. (at.pause.table_id, s)) kept.shape);
      laid = at.laid ∙ sym kept.layout;
      racer_boxes = at.racer_boxes ∙ sym kept.racers;
      sweeper_boxes = at.sweeper_boxes ∙ sym kept.sweepers;
      reader_boxes = at.reader_boxes ∙ sym (ap (λ (s : RaceShape). s.parties) kept.shape);
      racers_wait = at.racers_wait;
      sweepers_wait = at.sweepers_wait;
      readers_wait = at.readers_wait;
    }
