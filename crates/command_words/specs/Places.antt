-- The words by their places, and the command line that reads them, as clap's definitions have it.
use Rattle.std.specs.Prelude.{◌≡◌, ◌≤◌, ℕ, true, List, codes, length, option_map, slice_get}
use Rattle.clap.specs.Words.{App, new_app, new_rule, with_rule}
use Rattle.clap.specs.Simple.{on_top}
use Rattle.command_words.specs.declared.places.Placed.{Placed}

-- each word stands at its place, and there are no more words than places
pub record AreAt (placed : Placed) (words : List (List ℕ)) : Type 0 where
  pub command : option_map (λ word. word.now) placed.command ≡ slice_get words 0
  pub subject : option_map (λ word. word.now) placed.subject ≡ slice_get words 1
  pub address : option_map (λ word. word.now) placed.address ≡ slice_get words 2
  pub turns : option_map (λ word. word.now) placed.turns ≡ slice_get words 3
  pub few : length words ≤ 4

-- no program's name before the words, and no flag
abbrev pub bare_line : App
bare_line = on_top (λ top. record top { no_binary_name = true; disable_help_flag = true }) (new_app (codes "fixgate"))

abbrev pub line_of_four : App
line_of_four = with_rule (with_rule (with_rule (with_rule bare_line (new_rule (codes "command"))) (new_rule (codes "subject"))) (new_rule (codes "address"))) (new_rule (codes "turns"))
