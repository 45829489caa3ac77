use Rattle.g1_replay.specs.{[], sym, refl, append-nil, racer_in, sender_in, sweeper_in, taker_in}
use Rattle.g1_replay.proofs.{back_more}
use Rattle.g1_replay.proofs.races.parties.Returned.place.Goals as goal

pub returns-in_ok-push-in-Racing-2 : goal.returns-in_ok-push-in-Racing-2
returns-in_ok-push-in-Racing-2 c = rw c.in-Racing.is (λ parties was. record {
  racers = back_more racer_in _ _ _ parties _ was.racers c.in_ok-push-in-Racing.ensures.items refl;
  senders = back_more sender_in _ _ _ parties _ was.senders c.in_ok-push-in-Racing-2.ensures.items refl;
  sweepers = back_more sweeper_in _ _ [] parties _ was.sweepers (sym (append-nil _)) refl;
  takers = back_more taker_in _ _ [] parties _ was.takers (sym (append-nil _)) refl;
})

pub returns-in_ok-push-in-Sweeping-2 : goal.returns-in_ok-push-in-Sweeping-2
returns-in_ok-push-in-Sweeping-2 c = rw c.in-Sweeping.is (λ parties was. record {
  racers = back_more racer_in _ _ [] parties _ was.racers (sym (append-nil _)) refl;
  senders = back_more sender_in _ _ [] parties _ was.senders (sym (append-nil _)) refl;
  sweepers = back_more sweeper_in _ _ _ parties _ was.sweepers c.in_ok-push-in-Sweeping.ensures.items refl;
  takers = back_more taker_in _ _ _ parties _ was.takers c.in_ok-push-in-Sweeping-2.ensures.items refl;
})
