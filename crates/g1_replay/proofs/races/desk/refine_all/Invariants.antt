use Rattle.std.specs.Prelude.{◌≡◌, ◌<◌}
use Rattle.g1_replay.specs.{All, Contains, take, card_count, race_id, race_layout, sweeper_race, sweeper_start, sweeper_view}
use Rattle.g1_replay.proofs.races.desk.refine_all.Given as goal

-- the cards so far were swept
abbrev pub invariant-loop-card : goal.invariant-loop-card
invariant-loop-card l =
    (sweeper_race l.sweeper ≡ race_id l.race)
    × All (λ card. card < card_count (race_layout l.race) → Contains (sweeper_view l.sweeper).swept card) (take l.card-index l.cards)
    × (sweeper_start l.sweeper ≡ sweeper_start l.fn.sweeper)
