use Rattle.g1_replay.specs.{shared_terms}
use Rattle.g1_replay.proofs.crews.play.run_scripts.Given as goal

-- the ledgers are those that were opened, and the terms those of the book and its records
abbrev pub ghosts-run_jobs-M-Ledger : goal.ghosts-run_jobs-M-Ledger
ghosts-run_jobs-M-Ledger g a = record { name = a.ledgers.made; parts = a.ledgers.parts }

abbrev pub ghosts-run_jobs-M-Terms : goal.ghosts-run_jobs-M-Terms
ghosts-run_jobs-M-Terms g a = record { terms = shared_terms a.book a.ledgers.records }

abbrev pub ghosts-run_jobs-S-Ledger : goal.ghosts-run_jobs-S-Ledger
ghosts-run_jobs-S-Ledger g a = record { name = a.ledgers.stored; parts = a.ledgers.parts }
