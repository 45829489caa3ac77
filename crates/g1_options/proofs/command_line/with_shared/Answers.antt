use Rattle.std.proofs.Common.{◌∙◌, ap, ap₂, ◌||◌, codes}
use Rattle.std.proofs.lemmas.Result.{IfOk-weaker}
use Rattle.clap.specs.Words.{app_of, with_rule}
use Rattle.g1_core.specs.declared.config.TheConstants.Config.{LOG, LIMIT, HOT, RING, START}
use Rattle.g1_options.specs.declared.options.TheConstants.Options.{MUTATORS, HISTORY}
use Rattle.g1_options.proofs.SpelledLemmas.{decimal_1, decimal_4, decimal_5, decimal_10, decimal_256, decimal_1024, decimal_1000000, spelled}
use Rattle.g1_options.proofs.command_line.with_shared.Goals as goal

pub returns-clause-app : goal.returns-clause-app
returns-clause-app c =
    let mutators = c.argument.ensures.rule ∙ spelled (codes "mutators") MUTATORS decimal_1 in
    let log = c.argument-2.ensures.rule ∙ spelled (codes "log") LOG decimal_256 in
    let limit = c.argument-3.ensures.rule ∙ spelled (codes "limit") LIMIT decimal_10 in
    let hot = c.argument-4.ensures.rule ∙ spelled (codes "hot") HOT decimal_4 in
    let ring = c.argument-5.ensures.rule ∙ spelled (codes "ring") RING decimal_1024 in
    let start = c.argument-6.ensures.rule ∙ spelled (codes "start") START decimal_5 in
    let history = c.argument-7.ensures.rule ∙ spelled (codes "history") HISTORY decimal_1000000 in
    let app-1 = c.in_ok-arg.ensures.shape c.argument.ensures.local ∙ ap (with_rule (app_of c.args.command)) mutators in
    let app-2 = c.in_ok-arg-2.ensures.shape c.argument-2.ensures.local ∙ ap₂ with_rule app-1 log in
    let app-3 = c.in_ok-arg-3.ensures.shape c.argument-3.ensures.local ∙ ap₂ with_rule app-2 limit in
    let app-4 = c.in_ok-arg-4.ensures.shape c.argument-4.ensures.local ∙ ap₂ with_rule app-3 hot in
    let app-5 = c.in_ok-arg-5.ensures.shape c.argument-5.ensures.local ∙ ap₂ with_rule app-4 ring in
    let app-6 = c.in_ok-arg-6.ensures.shape c.argument-6.ensures.local ∙ ap₂ with_rule app-5 start in
    IfOk-weaker c.arg-7.result _ _ (λ r h. h.shape c.argument-7.ensures.local ∙ ap₂ with_rule app-6 history) c.arg-7.ensures

pub returns-clause-local : goal.returns-clause-local
returns-clause-local c =
    let globals-1 = c.in_ok-arg.ensures.globals ∙ ap₂ (λ x y. x || y) c.requires c.argument.ensures.local in
    let globals-2 = c.in_ok-arg-2.ensures.globals ∙ ap₂ (λ x y. x || y) globals-1 c.argument-2.ensures.local in
    let globals-3 = c.in_ok-arg-3.ensures.globals ∙ ap₂ (λ x y. x || y) globals-2 c.argument-3.ensures.local in
    let globals-4 = c.in_ok-arg-4.ensures.globals ∙ ap₂ (λ x y. x || y) globals-3 c.argument-4.ensures.local in
    let globals-5 = c.in_ok-arg-5.ensures.globals ∙ ap₂ (λ x y. x || y) globals-4 c.argument-5.ensures.local in
    let globals-6 = c.in_ok-arg-6.ensures.globals ∙ ap₂ (λ x y. x || y) globals-5 c.argument-6.ensures.local in
    IfOk-weaker c.arg-7.result _ _ (λ r h. h.globals ∙ ap₂ (λ x y. x || y) globals-6 c.argument-7.ensures.local) c.arg-7.ensures
