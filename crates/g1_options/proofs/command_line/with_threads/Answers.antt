use Rattle.std.proofs.Common.{◌∙◌, ap₂, ◌||◌, codes}
use Rattle.std.proofs.lemmas.Result.{IfOk-weaker}
use Rattle.clap.specs.Words.{with_rule}
use Rattle.g1_options.specs.declared.options.TheConstants.Options.{REFINERS, ROUNDS}
use Rattle.g1_options.proofs.SpelledLemmas.{decimal_1, decimal_100, spelled}
use Rattle.g1_options.proofs.command_line.with_threads.Goals as goal

pub returns-clause-app : goal.returns-clause-app
returns-clause-app c =
    let refiners = c.argument.ensures.rule ∙ spelled (codes "refiners") REFINERS decimal_1 in
    let rounds = c.argument-2.ensures.rule ∙ spelled (codes "rounds") ROUNDS decimal_100 in
    let app-1 = c.in_ok-with_shared.ensures.app in
    let app-2 = c.in_ok-arg.ensures.shape c.argument.ensures.local ∙ ap₂ with_rule app-1 refiners in
    IfOk-weaker c.arg-2.result _ _ (λ r h. h.shape c.argument-2.ensures.local ∙ ap₂ with_rule app-2 rounds) c.arg-2.ensures

pub returns-clause-local : goal.returns-clause-local
returns-clause-local c =
    let globals-1 = c.in_ok-arg.ensures.globals ∙ ap₂ (λ x y. x || y) c.in_ok-with_shared.ensures.local c.argument.ensures.local in
    IfOk-weaker c.arg-2.result _ _ (λ r h. h.globals ∙ ap₂ (λ x y. x || y) globals-1 c.argument-2.ensures.local) c.arg-2.ensures
