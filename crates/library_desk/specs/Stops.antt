-- Where the serving of a library stops for want of memory.
use Rattle.std.specs.Prelude.{ℕ, ◌⊎◌}
use Rattle.lease_desk.specs.Desk.{TakesBackSome}
use Rattle.library_desk.specs.Serving.{Answers, Expires, Hears}
use Rattle.library_desk.specs.declared.desk.LibraryDesk.{LibraryDesk}
use Rattle.library_desk.specs.declared.serving.LibTurn.{LibTurn}
use Rattle.switchboard.specs.Stops.{NothingIsTold}

-- behind the library's command, and what became of it, nothing is told
pub record StopsBehindAnswer (library : ℕ) (old new : LibraryDesk) : Type 0 where
  pub answered : LibraryDesk
  pub turn : LibTurn
  pub answers : Answers library old answered turn
  pub stops : NothingIsTold answered.desk.board new.desk.board

-- where it fell silent its sessions were taken back, and its command isn't answered, or is
pub record StopsBehindExpiry (library at until beat : ℕ) (old heard new : LibraryDesk) : Type 0 where
  pub expired : LibraryDesk
  pub expires : Expires library at until old.watch beat heard expired
  pub stops : NothingIsTold expired.desk.board new.desk.board ⊎ StopsBehindAnswer library expired new

-- A library's beat is heard. Then some of a silent library's sessions are taken back, or what is due behind that isn't all done.
pub record StopsServing (library at until : ℕ) (old new : LibraryDesk) : Type 0 where
  pub beat : ℕ
  pub heard : LibraryDesk
  pub hears : Hears library at beat old heard
  pub stops : TakesBackSome library at until heard.desk new.desk ⊎ StopsBehindExpiry library at until beat old heard new
