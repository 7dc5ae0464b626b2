-- The command that words give, and how it is printed that they give none.
use Rattle.std.specs.Prelude.{◌≡◌, ◌==◌, ℕ, ◌≤◌, Bool, false, not, List, [], ◌∷◌, Some, codes, IsTrue}
use Rattle.std.specs.List.{list_all}
use Rattle.command_words.specs.declared.words.Chosen.{Chosen}
use Rattle.command_words.specs.declared.words.Chosen.TheVariants.{Drill, Replay, Serve}
use Rattle.command_words.specs.declared.words.TheConstants.{MOST_TURNS}
use Rattle.command_words.specs.declared.words.WordsError.{WordsError}
use Rattle.command_words.specs.declared.words.WordsError.TheVariants.{OutOfMemory, Usage}
use Rattle.drill_maker.specs.declared.limits.TheConstants.{MOST_ROUNDS}
use Rattle.script_text.specs.Words.{natural_of}

-- a word that may stand in a command: it isn't empty and doesn't begin with `-`
abbrev pub is_word : List ℕ → Bool
is_word [] = false
is_word (b ∷ bytes) = not (b == 45)

-- a word is this number, from 1 to the most, as a script writes numbers
pub record IsNumberUpTo (most : ℕ) (word : List ℕ) (n : ℕ) : Type 0 where
  pub number_is : natural_of word ≡ Some n
  pub least_is : 1 ≤ n
  pub most_is : n ≤ most

-- the words are `drill` and the number of rounds
pub record AreDrill (words : List (List ℕ)) (n : ℕ) : Type 0 where
  pub number : List ℕ
  pub words_are : words ≡ codes "drill" ∷ number ∷ []
  pub rounds : IsNumberUpTo MOST_ROUNDS number n

-- the words are `serve`, a path, an address and the number of turns
pub record AreServe (words : List (List ℕ)) (path address : List ℕ) (turns : ℕ) : Type 0 where
  pub number : List ℕ
  pub words_are : words ≡ codes "serve" ∷ path ∷ address ∷ number ∷ []
  pub turns_are : IsNumberUpTo MOST_TURNS number turns

-- What the words of a command are: `replay` and a path, or one of the two above.
abbrev pub AreWordsOf : Chosen → List (List ℕ) → Type 0
AreWordsOf (Replay path) words = words ≡ codes "replay" ∷ path ∷ []
AreWordsOf (Drill n) words = AreDrill words n
AreWordsOf (Serve path address turns) words = AreServe words path address turns

-- the words give this command
pub record Gives (words : List (List ℕ)) (command : Chosen) : Type 0 where
  pub may_stand : IsTrue (list_all is_word words)
  pub are : AreWordsOf command words

-- the words give a command
pub record HasCommand (words : List (List ℕ)) : Type 0 where
  pub chosen : Chosen
  pub gives : Gives words chosen

-- the commands that run on one thread
abbrev pub IsForReplay : Chosen → Type 0
IsForReplay (Replay path) = Unit {0}
IsForReplay (Drill n) = Unit {0}
IsForReplay (Serve path address turns) = ⊥

-- and the command that serves connections
abbrev pub IsForServe : Chosen → Type 0
IsForServe (Replay path) = ⊥
IsForServe (Drill n) = ⊥
IsForServe (Serve path address turns) = Unit {0}

-- the words give a command that a call carries out, by which commands are for it
pub record HasCommandFor (IsForIt : Chosen → Type 0) (words : List (List ℕ)) : Type 0 where
  pub chosen : Chosen
  pub gives : Gives words chosen
  pub is_for_it : IsForIt chosen

-- the text of an error
abbrev pub error_text : WordsError → List ℕ
error_text OutOfMemory = codes "out of memory"
error_text Usage = codes "the words give no command"
