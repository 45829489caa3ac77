use Rattle.g1_shared.specs.Counts.{shared_terms}
use Rattle.test_book.proofs.tests.player.played.Given as goal

-- the ledgers are those that are handed in, and the terms those of the book and the records
abbrev pub ghosts-played_by-M-Ledger : goal.ghosts-played_by-M-Ledger
ghosts-played_by-M-Ledger g a = record { name = a.ledgers.made; parts = a.ledgers.parts }

abbrev pub ghosts-played_by-M-Terms : goal.ghosts-played_by-M-Terms
ghosts-played_by-M-Terms g a = record { terms = shared_terms a.book a.ledgers.records }

abbrev pub ghosts-played_by-S-Ledger : goal.ghosts-played_by-S-Ledger
ghosts-played_by-S-Ledger g a = record { name = a.ledgers.stored; parts = a.ledgers.parts }
