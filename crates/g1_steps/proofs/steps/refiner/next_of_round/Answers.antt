use Rattle.g1_steps.specs.{inr, refl, sym}
use Rattle.g1_steps.proofs.steps.refiner.next_of_round.Goals as goal

-- the line was empty: room was made, and nothing else
pub returns-in_default-clause-next : goal.returns-in_default-clause-next
returns-in_default-clause-next g c =
    let sums = c.args.sums.now in
    inr (record {
      ends = refl;
      same = λ i. record {
        state = c.args.calls.now;
        sum = record { taken = sums.taken; refined = c.in_ok-reserve.ensures.items i; hot = sums.hot; skipped = sums.skipped; left = 0; short = sums.short };
        taken = c.in_default.ensures.taken.0 i;
      };
      empty = record { taker = c.args.taker.now; has = sym c.in_default.ensures.taken.0; empty = c.in_default.ensures.taken.1 };
    })
