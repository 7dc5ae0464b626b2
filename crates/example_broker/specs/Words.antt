-- What words say.
use Rattle.engine_config.specs.Config.{IsConfig}
use Rattle.example_broker.specs.declared.words.Words.{Words}
use Rattle.example_broker.specs.declared.words.Words.TheVariants as words

-- the configuration is within the limits of an engine
abbrev pub HasConfig : Words → Type 0
HasConfig (words.None config) = IsConfig config
HasConfig (words.Serve address config) = IsConfig config
