-- Who a mutator and a taker are, whatever they have logged, put or taken.
use Rattle.g1_steps.specs.Prelude.{ℕ, Option, Some, None, Taker, sender_home, taker_home, number_of}
use Rattle.g1_steps.specs.Prelude.{sender_rights, taker_rights}
use Rattle.atomic_table.specs.Seated.{TableId}
use Rattle.g1_steps.specs.declared.steps.mutator.Mutator.{Mutator}

pub record MutatorMark : Type 0 where
  pub log : ℕ  -- the size of its log
  pub line : TableId
  pub number : ℕ
  pub rights : ℕ

pub record TakerMark : Type 0 where
  pub line : TableId
  pub rights : ℕ

abbrev pub mutator_mark : Option Mutator → Option MutatorMark
mutator_mark None = None
mutator_mark (Some m) =
    Some (record {
      log = m.log.size;
      line = sender_home m.sender;
      number = number_of m.sender;
      rights = sender_rights m.sender;
    })

abbrev pub taker_mark : Taker → TakerMark
taker_mark t = record { line = taker_home t; rights = taker_rights t }
