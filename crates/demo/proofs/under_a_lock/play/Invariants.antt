use Rattle.g1_shared.specs.Counts.{shared_terms}
use Rattle.demo.proofs.under_a_lock.play.Given as goal

-- the ledgers are those that are handed in, and the terms those of the book and the records
abbrev pub ghosts-live-M-Ledger : goal.ghosts-live-M-Ledger
ghosts-live-M-Ledger g a = record { name = a.ledgers.made; parts = a.ledgers.parts }

abbrev pub ghosts-live-M-Terms : goal.ghosts-live-M-Terms
ghosts-live-M-Terms g a = record { terms = shared_terms a.book a.ledgers.records }

abbrev pub ghosts-live-S-Ledger : goal.ghosts-live-S-Ledger
ghosts-live-S-Ledger g a = record { name = a.ledgers.stored; parts = a.ledgers.parts }
