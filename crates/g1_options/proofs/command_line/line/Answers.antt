use Rattle.std.proofs.Common.{◌∙◌, ap, ap₂}
use Rattle.std.proofs.lemmas.Result.{IfOk-weaker}
use Rattle.clap.specs.Words.{App, with_subcommand}
use Rattle.g1_options.specs.CommandLine.{with_shared, with_threads}
use Rattle.g1_options.proofs.command_line.line.Goals as goal

pub returns : goal.returns
returns c =
    let run = c.in_ok-run.ensures.app ∙ ap with_shared c.named.ensures.app in
    let crew = c.in_ok-crew.ensures.app ∙ ap with_threads c.named-2.ensures.app in
    let race = c.in_ok-race.ensures.app ∙ ap with_threads c.named-3.ensures.app in
    let with_run = c.in_ok-line.ensures.shape c.in_ok-run.ensures.local ∙ ap₂ with_subcommand c.top.ensures (ap (λ (a : App). a.top) run) in
    let with_crew = c.in_ok-line-2.ensures.shape c.in_ok-crew.ensures.local ∙ ap₂ with_subcommand with_run (ap (λ (a : App). a.top) crew) in
    IfOk-weaker c.subcommand-3.result _ _
    (λ r h. h.shape c.in_ok-race.ensures.local ∙ ap₂ with_subcommand with_crew (ap (λ (a : App). a.top) race)) c.subcommand-3.ensures
