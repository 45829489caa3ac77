use Rattle.std.proofs.Common.{rules, arith, ◌≡◌, length, vec_len}
use Rattle.test_book.proofs.tests.player.opened.Goals as goal

pub returns-in-Ok-clause-mine : goal.returns-in-Ok-clause-mine
returns-in-Ok-clause-mine g c k d h =
    let len : length c.in-Ok.opened.1.items ≡ vec_len c.in-Ok.opened.1 = search rules in
    let many = c.in-Ok.ensures.callers in (c.in-Ok.ensures.each k d (omega arith)).of
