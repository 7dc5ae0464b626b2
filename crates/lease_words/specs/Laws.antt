-- What follows from what the calls tell.
use Rattle.std.specs.Prelude.{◌≡◌, ℕ, ◌≤◌}
use Rattle.lease_words.specs.declared.view.EngineSession.{EngineSession}
use Rattle.lease_words.specs.declared.view.LibraryKnows.{LibraryKnows}
use Rattle.lease_words.specs.Views.{pending, taken_of, library_session}
use Rattle.lease_words.specs.Facts.{OthersTaken}
use Rattle.lease_words.specs.Tells.{IsSettled}
use Rattle.lease_core.specs.Laws.{WordsAreShowable, WordsCanTimeOut}

-- Of a library that was settled, what was taken of its lane is all that it sent once nothing is left that the engine's lines show.
abbrev pub SettledLanesAreTaken : Type 0
SettledLanesAreTaken = (libraries s : ℕ) (es : EngineSession) (k : LibraryKnows) → IsSettled s es k → OthersTaken libraries es → pending es ≡ 0 → 1 ≤ k.number → k.number ≤ libraries
    → taken_of es k.number ≡ (library_session k s).items

-- what the proofs know of the words that lines stand for: a registry whose lines are the seat's can be shown them
pub record WordLaws : Type 0 where
  pub showable : WordsAreShowable
  pub can_time_out : WordsCanTimeOut
