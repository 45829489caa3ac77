use Rattle.std.proofs.Common.{◌≡◌, ◌∙◌, ap, map, refl, sym, true}
use Rattle.clap.specs.Words.{App, fault_of, is_simple, is_simple_and_free, subcommand_of, takes}
use Rattle.clap.proofs.OnLiterals.{clap_on_literals}
use Rattle.g1_options.specs.CommandLine.{line_app}
use Rattle.g1_options.proofs.command_line.read_options.Goals as goal

is_simple_line : is_simple line_app ≡ true
unfolding clap_on_literals
is_simple_line = refl

is_free_line : is_simple_and_free line_app ≡ true
unfolding clap_on_literals
is_free_line = refl

pub returns-in-Err-clause-refused : goal.returns-in-Err-clause-refused
returns-in-Err-clause-refused c taken =
    let line_is = c.in-Ok-line.ensures in
    c.of.ensures (c.in-Err.ensures.passes (ap (λ (a : App). takes a (map (λ w. w.now) c.args.words.now)) line_is ∙ taken))

pub returns-in-Some-clause-read : goal.returns-in-Some-clause-read
returns-in-Some-clause-read c =
    let line_is = c.in-Ok-line.ensures in
    let found = c.in-Ok-try_get_matches_from.ensures.matches (ap is_simple line_is ∙ is_simple_line) in
    let asked = c.in-Some.ensures in
    (asked.0, ap (λ (a : App). subcommand_of a (map (λ w. w.now) c.args.words.now)) (sym line_is) ∙ sym found.1 ∙ asked.1, asked.2)

pub returns-in-Some-clause-taken : goal.returns-in-Some-clause-taken
returns-in-Some-clause-taken c =
    let line_is = c.in-Ok-line.ensures in
    let nothing_wrong = c.in-Ok-try_get_matches_from.ensures.kinds (ap is_simple_and_free line_is ∙ is_free_line) in
    ap (λ (a : App). fault_of a (map (λ w. w.now) c.args.words.now)) (sym line_is) ∙ nothing_wrong
