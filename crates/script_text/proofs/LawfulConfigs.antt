-- Each configuration that is read is lawful.
use Rattle.std.proofs.Common.{◌≡◌, ◌≢◌, ℕ, suc, ◌<◌, ◌≤◌, ◌⊎◌, inl, inr, Bool, true, false, not, List, [], ◌∷◌, ◌++◌, length, get_or, Option, Some, None, IsTrue, All, refl, sym, arith}
use Rattle.std.proofs.lemmas.Bool.{and_parts, cases_order, leb-true}
use Rattle.std.proofs.lemmas.List.{length_push}
use Rattle.std.proofs.lemmas.List.Elements.{All-nil, All-push}
use Rattle.std.proofs.lemmas.List.Quantifiers.{all_pairs_push}
use Rattle.std.specs.List.{AllPairs}
use Rattle.std.specs.Prelude.{IfSome}
use Rattle.engine_config.specs.Config.{IsConfig, IsDial, IsName, IsWithin, dial_of, names_of, no_names}
use Rattle.engine_config.specs.declared.config.Config.{Config}
use Rattle.engine_config.specs.declared.config.DialTo.{DialTo}
use Rattle.engine_config.specs.declared.config.TheConstants.{MOST_HOLD, MOST_TIMEOUT}
use Rattle.fix_fields.specs.declared.limits.TheConstants.{LONGEST_NAME}
use Rattle.gate_io.specs.declared.wires.TheConstants.{MOST_CONNECTIONS, MOST_DIALLED}
use Rattle.lease_core.specs.declared.limits.TheConstants.{MOST_LEASES, MOST_LIBRARIES}
use Rattle.lease_words.specs.declared.layout.TheConstants.{LANE_SLOTS}
use Rattle.session_core.specs.declared.names.Names.{Names}
use Rattle.session_core.specs.declared.routing.TheConstants.{MOST_SESSIONS}
use Rattle.script_text.specs.Lawful.{AreNames, IsAddressed, IsLawfulConfig}
use Rattle.script_text.specs.SoFar.{config_with, no_config, replay_with}
use Rattle.script_text.specs.Words.{is_name}
use Rattle.script_text.specs.declared.limits.TheConstants.{MOST_COUNT}
use Rattle.script_text.specs.declared.lines.Setting.{Setting}
use Rattle.script_text.specs.declared.lines.Setting.TheVariants as setting
use Rattle.script_text.proofs.LineFacts.{SettingFits}

abbrev pub DialFits : Option DialTo → Type 0
DialFits to = IfSome to IsDial

-- a configuration so far, before the number of a replay's connections is put in
pub record ConfigSoFar (config : Config) : Type 0 where
  pub few : length config.names ≤ MOST_SESSIONS
  pub named : All AreNames config.names
  pub distinct : AllPairs (λ (a b : Names). a ≢ b) config.names
  pub libraries : config.libraries ≤ MOST_LIBRARIES
  pub connections : config.connections ≤ MOST_CONNECTIONS
  pub lane : (1 ≤ config.lane) × (config.lane ≤ LANE_SLOTS)
  pub leases : (1 ≤ config.leases) × (config.leases ≤ MOST_LEASES)
  pub sends : (1 ≤ config.sends) × (config.sends ≤ MOST_COUNT)
  pub asks : (1 ≤ config.asks) × (config.asks ≤ MOST_COUNT)
  pub timeout : (1 ≤ config.timeout) × (config.timeout ≤ MOST_TIMEOUT)
  pub hold : (1 ≤ config.hold) × (config.hold ≤ MOST_HOLD)
  pub dialled : length config.dialled ≡ length config.names
  pub addressed : All IsAddressed config.dialled
  pub each_dial : All DialFits config.dialled
  pub dials : config.dials ≤ MOST_DIALLED

pub no_config-so_far : ConfigSoFar no_config
no_config-so_far =
    record {
      few = omega arith;
      named = All-nil AreNames;
      distinct = λ i j d h within. absurd (omega arith);
      libraries = omega arith;
      connections = omega arith;
      lane = (omega arith, omega arith);
      leases = (omega arith, omega arith);
      sends = (omega arith, omega arith);
      asks = (omega arith, omega arith);
      timeout = (omega arith, omega arith);
      hold = (omega arith, omega arith);
      dialled = refl;
      addressed = All-nil IsAddressed;
      each_dial = All-nil DialFits;
      dials = omega arith;
    }

pub config_with-so_far : (serving : Bool) (config : Config) (what : Setting) → ConfigSoFar config → SettingFits serving config.names what → ConfigSoFar (config_with what config)
config_with-so_far serving config (setting.Session names to) h fits =
    record {
      few = omega (arith, fits.0, length_push config.names names);
      named = All-push AreNames config.names names h.named fits.1;
      distinct = all_pairs_push (λ (a b : Names). a ≢ b) config.names names h.distinct fits.2;
      libraries = h.libraries;
      connections = h.connections;
      lane = h.lane;
      leases = h.leases;
      sends = h.sends;
      asks = h.asks;
      timeout = h.timeout;
      hold = h.hold;
      dialled = omega (arith, h.dialled, length_push config.names names, length_push config.dialled to);
      addressed = All-push IsAddressed config.dialled to h.addressed fits.3;
      each_dial = All-push DialFits config.dialled to h.each_dial fits.4;
      dials = h.dials;
    }
config_with-so_far serving config (setting.Libraries n) h fits =
    record {
      few = h.few;
      named = h.named;
      distinct = h.distinct;
      libraries = fits;
      connections = h.connections;
      lane = h.lane;
      leases = h.leases;
      sends = h.sends;
      asks = h.asks;
      timeout = h.timeout;
      hold = h.hold;
      dialled = h.dialled;
      addressed = h.addressed;
      each_dial = h.each_dial;
      dials = h.dials;
    }
config_with-so_far serving config (setting.Connections n) h fits =
    record {
      few = h.few;
      named = h.named;
      distinct = h.distinct;
      libraries = h.libraries;
      connections = fits.1;
      lane = h.lane;
      leases = h.leases;
      sends = h.sends;
      asks = h.asks;
      timeout = h.timeout;
      hold = h.hold;
      dialled = h.dialled;
      addressed = h.addressed;
      each_dial = h.each_dial;
      dials = h.dials;
    }
config_with-so_far serving config (setting.Dials n) h fits =
    record {
      few = h.few;
      named = h.named;
      distinct = h.distinct;
      libraries = h.libraries;
      connections = h.connections;
      lane = h.lane;
      leases = h.leases;
      sends = h.sends;
      asks = h.asks;
      timeout = h.timeout;
      hold = h.hold;
      dialled = h.dialled;
      addressed = h.addressed;
      each_dial = h.each_dial;
      dials = fits.1;
    }
config_with-so_far serving config (setting.Lane n) h fits =
    record {
      few = h.few;
      named = h.named;
      distinct = h.distinct;
      libraries = h.libraries;
      connections = h.connections;
      lane = fits;
      leases = h.leases;
      sends = h.sends;
      asks = h.asks;
      timeout = h.timeout;
      hold = h.hold;
      dialled = h.dialled;
      addressed = h.addressed;
      each_dial = h.each_dial;
      dials = h.dials;
    }
config_with-so_far serving config (setting.Leases n) h fits =
    record {
      few = h.few;
      named = h.named;
      distinct = h.distinct;
      libraries = h.libraries;
      connections = h.connections;
      lane = h.lane;
      leases = fits;
      sends = h.sends;
      asks = h.asks;
      timeout = h.timeout;
      hold = h.hold;
      dialled = h.dialled;
      addressed = h.addressed;
      each_dial = h.each_dial;
      dials = h.dials;
    }
config_with-so_far serving config (setting.Sends n) h fits =
    record {
      few = h.few;
      named = h.named;
      distinct = h.distinct;
      libraries = h.libraries;
      connections = h.connections;
      lane = h.lane;
      leases = h.leases;
      sends = fits;
      asks = h.asks;
      timeout = h.timeout;
      hold = h.hold;
      dialled = h.dialled;
      addressed = h.addressed;
      each_dial = h.each_dial;
      dials = h.dials;
    }
config_with-so_far serving config (setting.Asks n) h fits =
    record {
      few = h.few;
      named = h.named;
      distinct = h.distinct;
      libraries = h.libraries;
      connections = h.connections;
      lane = h.lane;
      leases = h.leases;
      sends = h.sends;
      asks = fits;
      timeout = h.timeout;
      hold = h.hold;
      dialled = h.dialled;
      addressed = h.addressed;
      each_dial = h.each_dial;
      dials = h.dials;
    }
config_with-so_far serving config (setting.Timeout n) h fits =
    record {
      few = h.few;
      named = h.named;
      distinct = h.distinct;
      libraries = h.libraries;
      connections = h.connections;
      lane = h.lane;
      leases = h.leases;
      sends = h.sends;
      asks = h.asks;
      timeout = fits;
      hold = h.hold;
      dialled = h.dialled;
      addressed = h.addressed;
      each_dial = h.each_dial;
      dials = h.dials;
    }
config_with-so_far serving config (setting.Hold n) h fits =
    record {
      few = h.few;
      named = h.named;
      distinct = h.distinct;
      libraries = h.libraries;
      connections = h.connections;
      lane = h.lane;
      leases = h.leases;
      sends = h.sends;
      asks = h.asks;
      timeout = h.timeout;
      hold = fits;
      dialled = h.dialled;
      addressed = h.addressed;
      each_dial = h.each_dial;
      dials = h.dials;
    }

pub replay_with-so_far : (connects : ℕ) (config : Config) → connects ≤ MOST_CONNECTIONS → ConfigSoFar config → ConfigSoFar (replay_with connects config)
replay_with-so_far connects config few h =
    record {
      few = h.few;
      named = h.named;
      distinct = h.distinct;
      libraries = h.libraries;
      connections = few;
      lane = h.lane;
      leases = h.leases;
      sends = h.sends;
      asks = h.asks;
      timeout = h.timeout;
      hold = h.hold;
      dialled = h.dialled;
      addressed = h.addressed;
      each_dial = h.each_dial;
      dials = omega arith;
    }

-- ---- what an engine asks of it

is_name-length : (word : List ℕ) → is_name word ≡ true → IsName word
unfolding is_name
is_name-length word named =
    let parts = and_parts _ _ named in
    let bounds = and_parts _ _ parts.0 in
    record { from_least = leb-true _ _ bounds.0; to_most = leb-true _ _ bounds.1 }

only_once : (names : List Names) → AllPairs (λ (a b : Names). a ≢ b) names → (s t : ℕ) (d : Names) → s < length names → t < length names → get_or names s d ≡ get_or names t d → s ≡ t
only_once names distinct s t d first second same =
    elim (cases_order s t) [
      | inl e ↦ e
      | inr (inl less) ↦ absurd (distinct s t d less second same)
      | inr (inr more) ↦ absurd (distinct t s d more first (sym same))
    ]

so_far-fits : (config : Config) → ConfigSoFar config → IsConfig config
so_far-fits config h =
    record {
      sessions = h.few;
      names = λ s within.
          let named = h.named s no_names within in
          record { us = is_name-length _ named.0; them = is_name-length _ named.1 };
      different = λ s t first second same. only_once config.names h.distinct s t no_names first second same;
      libraries = h.libraries;
      connections = h.connections;
      lane = record { from_least = h.lane.0; to_most = h.lane.1 };
      leases = record { from_least = h.leases.0; to_most = h.leases.1 };
      sends = h.sends.0;
      asks = h.asks.0;
      timeout = record { from_least = h.timeout.0; to_most = h.timeout.1 };
      hold = record { from_least = h.hold.0; to_most = h.hold.1 };
      dialled = h.dialled;
      each_dial = λ s within. h.each_dial s None (omega (arith, h.dialled));
      dials = h.dials;
    }

pub so_far-lawful : (config : Config) → ConfigSoFar config → IsLawfulConfig config
so_far-lawful config h =
    record { fits = so_far-fits config h; named = h.named; addressed = h.addressed; sends = h.sends.1; asks = h.asks.1 }
