use Rattle.std.proofs.Common.{◌≡◌, ◌∙◌, ap, true, codes}
use Rattle.clap.specs.Words.{app_of, new_app}
use Rattle.clap.specs.Simple.{app_of_fields, on_top}
use Rattle.g1_options.specs.CommandLine.{line_top}
use Rattle.g1_options.proofs.command_line.top.Goals as goal

pub returns : goal.returns
returns c =
    let version : app_of c.version.result ≡ on_top (λ s. record s { has_version = true }) (new_app (codes "g1replay")) =
    ap app_of_fields c.version.ensures ∙ ap (on_top (λ s. record s { has_version = true })) c.new.ensures.app in
    let top-0 : app_of c.after_help.result ≡ on_top (λ s. record s { has_version = true }) (new_app (codes "g1replay")) =
    ap app_of_fields c.after_help.ensures ∙ ap app_of_fields c.about.ensures ∙ version in
    let top-1 : app_of c.arg_required_else_help.result ≡ on_top (λ s. record s { has_version = true; arg_required_else_help = true }) (new_app (codes "g1replay")) =
    ap app_of_fields c.arg_required_else_help.ensures ∙ ap (on_top (λ s. record s { arg_required_else_help = true })) top-0 in
    let top-2 : app_of c.subcommand_required.result ≡ line_top =
    ap app_of_fields c.subcommand_required.ensures ∙ ap (on_top (λ s. record s { subcommand_required = true })) top-1 in
    top-2
