-- What the words of a command line say of the options, over what `clap` makes of words (its
-- `specs/Walk.antt`).
use Rattle.std.specs.Prelude.{◌≡◌, ℕ, List, [], ◌∷◌, Some, true, false, codes, pos}
use Rattle.std.specs.Fmt.{decimal}
use Rattle.std.specs.Str.Parse.{digits_value, without_leading_plus}
use Rattle.clap.specs.Words.{App, Row, Rule, Text, new_app, new_rule, one_of, subcommand_of}
use Rattle.clap.specs.Words.{with_rule, with_subcommand}
use Rattle.clap.specs.Simple.{on_top}
use Rattle.clap.specs.declared.builder.command.Command.{Command}
use Rattle.clap.specs.declared.builder.command.Command.TheViews.{out-Command}
use Rattle.clap.specs.declared.builder.value_parser.ValueParser.TheVariants.{Signed}
use Rattle.g1_core.specs.declared.config.Limits.{Limits}
use Rattle.g1_core.specs.declared.config.Settings.{Settings}
use Rattle.g1_core.specs.declared.config.TheConstants.Config.{LOG, LIMIT, HOT, RING, START}
use Rattle.g1_trace.specs.declared.mode.Mode.{Mode}
use Rattle.g1_trace.specs.declared.mode.Mode.TheVariants.{Run, Crew, Race}
use Rattle.g1_options.specs.declared.options.Options.{Options}
use Rattle.g1_options.specs.declared.options.TheConstants.Options.{MUTATORS, HISTORY}
use Rattle.g1_options.specs.declared.options.TheConstants.Options.{REFINERS, ROUNDS}

-- an option that takes one whole number within these limits, with this text for its default
abbrev pub spelled_rule : Text → Limits → Text → Rule
spelled_rule name limits default = record (new_rule name) {
  long = Some name;
  value_names = 1;
  defaults = default ∷ [];
  parser = Some (Signed (pos limits.least) (pos limits.most));
}

-- the same, with the default of these limits
abbrev pub option_rule : Text → Limits → Rule
option_rule name limits = spelled_rule name limits (decimal limits.default)

-- no option is handed down to a subcommand
abbrev pub IsLocal : Command → Type 0
IsLocal c = (out-Command c).has_globals ≡ false

-- the options that all subcommands have
abbrev pub with_shared : App → App
with_shared a = with_rule (with_rule (with_rule (with_rule (with_rule (with_rule (with_rule a
    (option_rule (codes "mutators") MUTATORS))
    (option_rule (codes "log") LOG))
    (option_rule (codes "limit") LIMIT))
    (option_rule (codes "hot") HOT))
    (option_rule (codes "ring") RING))
    (option_rule (codes "start") START))
    (option_rule (codes "history") HISTORY)

-- and with those that the subcommands with threads have
abbrev pub with_threads : App → App
with_threads a = with_rule (with_rule (with_shared a)
    (option_rule (codes "refiners") REFINERS))
    (option_rule (codes "rounds") ROUNDS)

-- the subcommands
abbrev pub run_app : App
run_app = with_shared (new_app (codes "run"))

abbrev pub crew_app : App
crew_app = with_threads (new_app (codes "crew"))

abbrev pub race_app : App
race_app = with_threads (new_app (codes "race"))

-- the program, which tells its version and needs a subcommand
abbrev pub line_top : App
line_top =
    on_top (λ s. record s {
      has_version = true;
      arg_required_else_help = true;
      subcommand_required = true;
    }) (new_app (codes "g1replay"))

-- the whole command line
abbrev pub line_app : App
line_app =
    with_subcommand
    (with_subcommand (with_subcommand line_top run_app.top) crew_app.top) race_app.top

-- the number that stands for the option of this name, as given or by default
abbrev pub IsRead : List Row → Text → ℕ → Type 0
IsRead rows name n =
    (text : Text) × (one_of name rows ≡ Some text)
    × (digits_value 10 (without_leading_plus text) ≡ n)

-- each setting of the core has the number that stands for its own name
pub record AreSettingsRead (rows : List Row) (s : Settings) : Type 0 where
  pub log : IsRead rows (codes "log") s.log
  pub limit : IsRead rows (codes "limit") s.limit
  pub hot : IsRead rows (codes "hot") s.hot
  pub ring : IsRead rows (codes "ring") s.ring
  pub start : IsRead rows (codes "start") s.start

-- each option that all subcommands have has the number that stands for its own name
pub record AreCommonRead (rows : List Row) (o : Options) : Type 0 where
  pub mutators : IsRead rows (codes "mutators") o.mutators
  pub config : AreSettingsRead rows o.config
  pub history : IsRead rows (codes "history") o.history

-- the subcommand's name
abbrev pub mode_name : Mode → Text
mode_name Run = codes "run"
mode_name Crew = codes "crew"
mode_name Race = codes "race"

-- the options of a subcommand with threads
abbrev pub AreThreaded : List Row → Options → Type 0
AreThreaded rows o =
    AreCommonRead rows o × IsRead rows (codes "refiners") o.refiners
    × IsRead rows (codes "rounds") o.rounds

-- the options of each subcommand: what only other ones have is as by default
abbrev pub AreOptionsOf : Mode → List Row → Options → Type 0
AreOptionsOf Run rows o = AreCommonRead rows o × (o.refiners ≡ REFINERS.default)
    × (o.rounds ≡ ROUNDS.default)
AreOptionsOf Crew rows o = AreThreaded rows o
AreOptionsOf Race rows o = AreThreaded rows o

-- the words ask for this subcommand and give these options
abbrev pub IsCommandLine : List Text → Mode → Options → Type 0
IsCommandLine words mode o =
    (rows : List Row) × (subcommand_of line_app words ≡ Some (mode_name mode, rows))
    × AreOptionsOf mode rows o
