-- The defaults and limits of a replay's options.
use Rattle.std.specs.Prelude.{◌≡◌}
use Rattle.g1_core.specs.Settings.{AreSettings, IsWithin, default_settings}
use Rattle.g1_options.specs.declared.options.Options.{Options}
use Rattle.g1_options.specs.declared.options.TheConstants.Options.{MUTATORS, HISTORY}
use Rattle.g1_options.specs.declared.options.TheConstants.Options.{REFINERS, ROUNDS}

-- what stands where an option isn't given
pub record AreDefaults (o : Options) : Type 0 where
  pub mutators : o.mutators ≡ MUTATORS.default
  pub config : o.config ≡ default_settings
  pub history : o.history ≡ HISTORY.default
  pub refiners : o.refiners ≡ REFINERS.default
  pub rounds : o.rounds ≡ ROUNDS.default

-- the limits
pub record AreWithinLimits (o : Options) : Type 0 where
  pub mutators : IsWithin MUTATORS o.mutators
  pub config : AreSettings o.config
  pub history : IsWithin HISTORY o.history
  pub refiners : IsWithin REFINERS o.refiners
  pub rounds : IsWithin ROUNDS o.rounds
