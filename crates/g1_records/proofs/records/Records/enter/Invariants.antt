use Rattle.g1_records.proofs.records.Records.enter.Given as goal

abbrev pub ghosts-enter_chosen : goal.ghosts-enter_chosen
ghosts-enter_chosen g a = record { entry = g.Q.Asks.entry a.own.now.number a._asked.now a._answer.now }
