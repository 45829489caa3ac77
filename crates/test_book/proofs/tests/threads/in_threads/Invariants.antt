use Rattle.g1_shared.specs.Counts.{shared_terms}
use Rattle.test_book.proofs.tests.threads.in_threads.Given as goal

abbrev pub ghosts-four_threads-M-Ledger : goal.ghosts-four_threads-M-Ledger
ghosts-four_threads-M-Ledger g a = record { name = a.ledgers.made; parts = a.ledgers.parts }

abbrev pub ghosts-four_threads-M-Terms : goal.ghosts-four_threads-M-Terms
ghosts-four_threads-M-Terms g a = record { terms = shared_terms a.book a.ledgers.records }

abbrev pub ghosts-four_threads-S-Ledger : goal.ghosts-four_threads-S-Ledger
ghosts-four_threads-S-Ledger g a = record { name = a.ledgers.stored; parts = a.ledgers.parts }
