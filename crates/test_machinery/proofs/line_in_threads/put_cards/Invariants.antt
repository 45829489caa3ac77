use Rattle.std.proofs.Common.{◌≡◌}
use Rattle.g1_log.specs.Ends.{IsSenderOf, sender_rights}
use Rattle.test_machinery.proofs.line_in_threads.put_cards.Given as goal

abbrev pub invariant-loop-card : goal.invariant-loop-card
invariant-loop-card g l = IsSenderOf l.line l.sender × (sender_rights l.sender ≡ sender_rights l.initial.sender)
