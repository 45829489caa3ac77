use Rattle.std.specs.Prelude.{◌≡◌, ◌⊎◌, ◌≤◌}
use Rattle.g1_core.specs.{take, All, Contains, card_count}
use Rattle.g1_core.proofs.clearing.first_of.Given as goal

abbrev pub invariant-loop-card : goal.invariant-loop-card
invariant-loop-card l = record {
  least : All (λ card. l.least ≤ card) (take l.card-index l.cards);
  among : (l.least ≡ card_count l.layout) ⊎ Contains (take l.card-index l.cards) l.least;
}
