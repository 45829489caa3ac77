use Rattle.g1_shared.specs.Counts.{shared_terms}
use Rattle.gate_growths.proofs.shared.share.Given as goal

-- the ledgers are those that are handed in, and the terms those of the book and the records
abbrev pub ghosts-share_by-M-Ledger : goal.ghosts-share_by-M-Ledger
ghosts-share_by-M-Ledger g a = record { name = a.ledgers.made; parts = a.ledgers.parts }

abbrev pub ghosts-share_by-M-Terms : goal.ghosts-share_by-M-Terms
ghosts-share_by-M-Terms g a = record { terms = shared_terms a.book a.ledgers.records }

abbrev pub ghosts-share_by-S-Ledger : goal.ghosts-share_by-S-Ledger
ghosts-share_by-S-Ledger g a = record { name = a.ledgers.stored; parts = a.ledgers.parts }
