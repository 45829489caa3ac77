use Rattle.std.proofs.Common.{rules}
use Rattle.std.specs.Prelude.{◌≡◌, ◌+◌}
use Rattle.g1_race.specs.{length, length-map, refl, [], map, sym, ap, ◌∙◌, arith, RaceShape, IsBegun, IsPaused, started, null_of, frozen_seat, blank, collected, racer_view, sweeper_view}
use Rattle.g1_race.specs.declared.race.Race.{Race}
use Rattle.g1_race.proofs.{begun_covered, pair_listed}
use Rattle.g1_race.proofs.Pausing.{all_joined, at_rest, weight_is, is_paused, is_pause_reader, is_reader, is_over, same_pairs}
use Rattle.g1_race.proofs.paused.Paused.of.Goals as goal

pub join_racers-requires-clause-racers : goal.join_racers-requires-clause-racers
join_racers-requires-clause-racers g c = search (rules)

pub freeze-requires-clause-all : goal.freeze-requires-clause-all
freeze-requires-clause-all g c =
    let race = g.R.HoldsRace.held c.args.race in
    let view = ap (λ me. me.0) (all_joined race.shape c.race.result.now.table.shape (map racer_view c.args.racers.items) (map sweeper_view c.args.sweepers.items) _ _ _ (ap (λ (r : Race). r.table.shape) c.race.ensures ∙ race.key_is) c.enter-seat.ensures.view c.join_racers.ensures.view c.join_sweepers.ensures.view) in
    weight_is race.table.table_id race.shape c.args.sweepers.items c.args.racers.items c.requires.sweepers c.requires.racers.1 _ view (omega (arith, c.requires.racers.0, c.args.racers.ok.0, c.args.sweepers.ok.0)) race.some
    ∙ sym (ap (λ (k : RaceShape). k.parties) (ap (λ (r : Race). r.table.shape) c.race.ensures ∙ race.key_is))

pub freeze-requires-clause-rest : goal.freeze-requires-clause-rest
freeze-requires-clause-rest g c =
    let race = g.R.HoldsRace.held c.args.race in
    let view = ap (λ me. me.0) (all_joined race.shape c.race.result.now.table.shape (map racer_view c.args.racers.items) (map sweeper_view c.args.sweepers.items) _ _ _ (ap (λ (r : Race). r.table.shape) c.race.ensures ∙ race.key_is) c.enter-seat.ensures.view c.join_racers.ensures.view c.join_sweepers.ensures.view) in
    at_rest race.table.table_id race.shape c.args.sweepers.items c.args.racers.items c.requires.sweepers c.requires.racers.1 _ view

joined : (g : _) (c : goal.After-freeze g) → c.join_sweepers.new.pause_seat.me ≡ (collected (map sweeper_view c.args.sweepers.items) (collected (map racer_view c.args.racers.items) (blank (null_of (g.R.HoldsRace.held c.args.race).shape) 0 [])), [])
joined g c = all_joined (g.R.HoldsRace.held c.args.race).shape c.race.result.now.table.shape (map racer_view c.args.racers.items) (map sweeper_view c.args.sweepers.items) _ _ _ (ap (λ (r : Race). r.table.shape) c.race.ensures ∙ (g.R.HoldsRace.held c.args.race).key_is) c.enter-seat.ensures.view c.join_racers.ensures.view c.join_sweepers.ensures.view

view_is : (g : _) (c : goal.After-freeze g) → c.join_sweepers.new.pause_seat.me.0 ≡ collected (map sweeper_view c.args.sweepers.items) (collected (map racer_view c.args.racers.items) (blank (null_of (g.R.HoldsRace.held c.args.race).shape) 0 []))
view_is g c = ap (λ me. me.0) (joined g c)

count_is : (g : _) (c : goal.After-freeze g) → length c.args.racers.items + length c.args.sweepers.items ≡ (g.R.HoldsRace.held c.args.race).shape.parties
count_is g c = let e : length c.args.racers.items + length c.args.sweepers.items ≡ (g.R.HoldsRace.held c.args.race).shape.parties = omega (arith, c.requires.racers.0, c.args.racers.ok.0, c.args.sweepers.ok.0) in e

table_is : (g : _) (c : goal.After-freeze g) → c.freeze.new.seat.table_id ≡ (g.R.HoldsRace.held c.args.race).table.table_id
table_is g c = c.freeze.ensures.table ∙ (c.join_sweepers.ensures.seat ∙ (c.join_racers.ensures.seat ∙ (c.enter-seat.ensures.table ∙ ap (λ (r : Race). r.table.table_id) c.race.ensures)))

me_is : (g : _) (c : goal.After-freeze g) → c.freeze.new.seat.me ≡ (frozen_seat (started c.join_sweepers.new.pause_seat.me.0.shape c.freeze.ensures.told.words) c.join_sweepers.new.pause_seat.me.0.weight, [])
me_is g c = c.freeze.ensures.told.view ∙ ap (λ h. (frozen_seat (started c.join_sweepers.new.pause_seat.me.0.shape c.freeze.ensures.told.words) c.join_sweepers.new.pause_seat.me.0.weight, h)) (ap (λ me. me.1) (joined g c))

paused : (g : _) (c : goal.After-freeze g) → IsPaused (g.R.HoldsRace.held c.args.race).table.table_id (g.R.HoldsRace.held c.args.race).shape c.freeze.new.seat
paused g c =
    let race = g.R.HoldsRace.held c.args.race in
    let told = c.freeze.ensures.told in
    is_paused race.table.table_id race.shape c.args.sweepers.items c.args.racers.items c.requires.sweepers c.requires.racers.1 c.join_sweepers.new.pause_seat.me.0 (view_is g c) (count_is g c) race.some race.shaped c.freeze.new.seat told.words (me_is g c) (table_is g c) told.begun

pub invariant_of-result : goal.invariant_of-result
invariant_of-result g c = let is = paused g c in (is_reader _ _ c.freeze.new.seat is.here, omega (arith, is.all, (g.R.HoldsRace.held c.args.race).some))

pub invariant_of-result-2 : goal.invariant_of-result-2
invariant_of-result-2 g c = (is_pause_reader (g.R.HoldsRace.held c.args.race) c.freeze.new.seat (paused g c), (paused g c).here.begun, omega (arith, c.join_racers.ensures.len, c.join_sweepers.ensures.len, c.requires.racers.0))

begun_is : (g : _) (c : goal.After-freeze g) → IsBegun (started (g.R.HoldsRace.held c.args.race).shape c.freeze.new.seat.me.0.began_words)
begun_is g c = (paused g c).here.begun

pub returns : goal.returns
returns g c =
    let race = g.R.HoldsRace.held c.args.race in
    let told = c.freeze.ensures.told in
    record {
      left = record {
        layout = refl;
        within = λ x k. pair_listed race.shape race.layout c.freeze.new.seat.me.0.began_words race.laid (begun_is g c) x k;
        cover = begun_covered race.shape race.layout c.freeze.new.seat.me.0.began_words race.laid (begun_is g c);
        pairs = λ x. same_pairs race.table.table_id race.shape c.args.sweepers.items c.args.racers.items c.requires.sweepers c.requires.racers.1 c.join_sweepers.new.pause_seat.me.0 (view_is g c) (count_is g c) race.some race.shaped c.freeze.new.seat told.words (me_is g c) told.views told.id told.raced told.mine x;
        over = is_over race.table.table_id race.shape c.args.sweepers.items c.args.racers.items c.requires.sweepers c.requires.racers.1 c.join_sweepers.new.pause_seat.me.0 (view_is g c) (count_is g c) race.some race.shaped c.freeze.new.seat told.words (me_is g c) told.views told.id told.raced told.mine;
      };
      layout = refl;
      shape = refl;
      address = refl;
      table_id = refl;
      logs = c.join_racers.ensures.logs;
      count = let len = length-map c.args.sweepers.items sweeper_view in omega (arith, c.join_sweepers.ensures.len, c.args.sweepers.ok.0, len);
    }
