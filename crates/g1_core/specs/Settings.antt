-- The settings of a core, and their limits.
use Rattle.std.specs.Prelude.{◌≤◌}
use Rattle.g1_core.specs.Prelude.{ℕ, refl, Coded, code_by, coded×, coded_ℕ}
use Rattle.g1_core.specs.declared.config.Limits.{Limits}
use Rattle.g1_core.specs.declared.config.Settings.{Settings}
use Rattle.g1_core.specs.declared.config.TheConstants.Config.{LOG, LIMIT, HOT, RING, START}

abbrev pub IsWithin : Limits → ℕ → Type 0
IsWithin limits number = (limits.least ≤ number) × (number ≤ limits.most)

-- each is within its limits
pub record AreSettings (s : Settings) : Type 0 where
  pub log : IsWithin LOG s.log
  pub limit : IsWithin LIMIT s.limit
  pub hot : IsWithin HOT s.hot
  pub ring : IsWithin RING s.ring
  pub start : IsWithin START s.start

-- what they are where nobody chooses
abbrev pub default_settings : Settings
default_settings =
    record {
      log = LOG.default;
      limit = LIMIT.default;
      hot = HOT.default;
      ring = RING.default;
      start = START.default;
    }

-- settings are stored as the tuple of their numbers
abbrev pub settings_code : Coded Settings
settings_code =
    code_by (ℕ × (ℕ × (ℕ × (ℕ × ℕ))))
    (coded× coded_ℕ (coded× coded_ℕ (coded× coded_ℕ (coded× coded_ℕ coded_ℕ))))
    (λ s. (s.log, (s.limit, (s.hot, (s.ring, s.start))))) (λ p. record {
      log = p.0;
      limit = p.1.0;
      hot = p.1.1.0;
      ring = p.1.1.1.0;
      start = p.1.1.1.1;
    }) (λ _. refl)
