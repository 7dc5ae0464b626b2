-- How the engine and a library meet: at the lease table, and at both rings of the library.
use Rattle.std.specs.Prelude.{◌≡◌, ◌≢◌, ℕ, ◌+◌, ◌-◌, ◌<◌, ◌≤◌, ◌++◌, drop, length, slice_get, slice_set, Some}
use Rattle.lease_core.specs.declared.messages.Command.{Command}
use Rattle.lease_core.specs.declared.messages.Notice.{Notice}
use Rattle.lease_words.specs.Tells.{HaveMetAll, IsUnderRule, engine_after_meeting, engine_session_after_meeting, library_after_meeting, library_session_after_meeting}
use Rattle.lease_words.specs.Views.{EngineView, LibraryView, engine_at, heard_of, library_at}
use Rattle.library_desk.specs.declared.desk.LibraryDesk.{LibraryDesk}
use Rattle.library_desk.specs.declared.ends.EngineEnds.{EngineEnds}
use Rattle.ring_links.specs.Ends.{HeadView, TailView}

-- Each of two seats of a table is told what the other has done, seen and was told of, and neither knew more of the other than that.
pub record SeatsMeet (engine_old engine_new : EngineView) (library_old library_new : LibraryView) : Type 0 where
  pub met : HaveMetAll engine_old.table.shape engine_old.knows library_old.knows
  pub engine : engine_new ≡ record engine_old { knows = engine_after_meeting engine_old.knows library_old.knows }
  pub library : library_new ≡ record library_old { knows = library_after_meeting engine_old.knows library_old.knows }
  pub engine_session : (s : ℕ) → s < engine_old.table.shape.sessions → engine_at engine_new s ≡ engine_session_after_meeting (engine_at engine_old s) (library_at library_old s)
  pub library_session : (s : ℕ) → s < engine_old.table.shape.sessions → library_at library_new s ≡ library_session_after_meeting library_old.knows.number (engine_at engine_old s) (library_at library_old s)
  pub heard : heard_of engine_new.knows library_old.knows.number ≡ record (heard_of engine_old.knows library_old.knows.number) { count = library_old.knows.beats }
  pub others : (other : ℕ) → 1 ≤ other → other ≢ library_old.knows.number → heard_of engine_new.knows other ≡ heard_of engine_old.knows other
  pub rule : IsUnderRule engine_old.table.shape engine_old.knows library_old.knows engine_old.settled

-- Each of the two ends of a ring is told what the other has done, and neither knew more of the other than that.
pub record EndsMeet {T : Type 0} (tail_old tail_new : TailView T) (head_old head_new : HeadView T) : Type 0 where
  pub pushed : head_new.popped ++ head_new.told ≡ tail_new.pushed
  pub popped : tail_new.told ≡ length head_new.popped
  pub tail : tail_new ≡ record tail_old { told = length head_old.popped }
  pub head : head_new ≡ record head_old { told = drop (length head_old.popped) tail_old.pushed }
  pub taken : tail_old.taken ≤ length head_old.popped
  pub heard : tail_old.told ≤ length head_old.popped
  pub seen : head_old.pushed ≤ length tail_old.pushed
  pub within : length tail_old.pushed ≤ length head_old.popped + tail_old.ring.capacity

-- The engine's ends of a library's rings meet the library's: the tail of its commands and the head of its notices.
pub record RingsMeet (library : ℕ) (old new : LibraryDesk) (tail_old tail_new : TailView Command) (head_old head_new : HeadView Notice) : Type 0 where
  pub before : EngineEnds
  pub after : EngineEnds
  pub found : slice_get old.ends.items (library - 1) ≡ Some before
  pub ends : new.ends.items ≡ slice_set old.ends.items (library - 1) after
  pub commands : EndsMeet tail_old tail_new before.head after.head
  pub notices : EndsMeet before.tail after.tail head_old head_new
