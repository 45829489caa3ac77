-- One word more.
use Rattle.std.specs.Prelude.{◌+◌}
use Rattle.g1_handles.specs.{rules, refl, arith, ℕ, subst, ◌∙◌, slice_index_or, racing, race_layout, race_shape, CanStoreWord, SwapsWord}
use Rattle.g1_race.specs.Exchanging.{HasRoomToStore}
use Rattle.g1_handles.proofs.RowLemmas.{row_next, row_word}
use Rattle.g1_handles.proofs.party.batch.store_row.Goals as goal

pub loop-i-preserved : goal.loop-i-preserved
loop-i-preserved c =
    let race = c.args.race.now in
    let words = c.args.words.now in
    let slot = c.args.first + c.loop-i.i in
    let word = slice_index_or words c.loop-i.i 0 in
    let before = racing race c.loop-i.racer c.loop-i.counts in
    let after = racing race c.swap_word-kind.new.self c.add_store.new.self in
    let fit = row_word (race_shape race) (race_layout race) words c.loop-i.i 0 c.layout-layout.ensures.slots c.requires.row.fit c.loop-i-test.true in
    let room : HasRoomToStore (race_shape race) c.in-Some.slot word c.loop-i.racer = search (rules, c.has_room_for_word.ensures, c.if-not-has_room_for_word.false) in
    let can : CanStoreWord race c.loop-i.racer slot word = record {
      fits = (omega (arith, c.requires.row.within, c.loop-i-test.true), fit);
      room = subst (λ (p : ℕ). HasRoomToStore (race_shape race) p word c.loop-i.racer) c.in-Some.ensures.1 room;
    } in
    let swaps : SwapsWord before slot word c.swap_word-kind.result.1 c.swap_word-kind.result.0 after = subst (λ (p : ℕ). SwapsWord before p word c.swap_word-kind.result.1 c.swap_word-kind.result.0 after) c.in-Some.ensures.1
    (record { race = refl; stored = c.swap_word-kind.ensures.stored; fits = c.swap_word-kind.ensures.fits; counts = c.add_store.ensures }) in (
      c.swap_word-kind.ensures.race ∙ c.loop-i.invariant.0,
      row_next (racing race c.args.racer.now c.args.counts.now) before after c.args.first words c.loop-i.i 0 _ _ c.loop-i-test.true c.loop-i.invariant.1 can swaps,
    )
