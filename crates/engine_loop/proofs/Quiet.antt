-- What is done for a library lets nothing come on a connection, and writes nothing.
use Rattle.std.proofs.Common.{◌≡◌, ℕ, ◌<◌, List, [], ◌∷◌, length, true, false, refl, sym, subst, ◌∙◌}
use Rattle.std.proofs.lemmas.List.Elements.{All-head, All-tail}
use Rattle.std.specs.List.{All}
use Rattle.connection_core.specs.Connection.{ConnectionState}
use Rattle.lease_core.specs.declared.entry.Entry.{Entry}
use Rattle.library_desk.specs.Happening.{IsOfLibraries}
use Rattle.switchboard.specs.Board.{Board, connection_at}
use Rattle.switchboard.specs.Going.{KeepsBytes, is_coming, is_quiet}
use Rattle.switchboard.specs.Happenings.{Happening, Happens, Reaches, accepts, answers, binds, binds_and_ends, dials, ends_bound, ends_unbound, gives, lapses, prepares, receives, requests, reserves, shows, takes, ticks, times_out, writes}
use Rattle.switchboard.specs.Ready.{IsReady}

-- what happens for a library is quiet, and no connection comes
record IsQuiet (happening : Happening) : Type 0 where
  quiet : is_quiet happening ≡ true
  none : is_coming happening ≡ false

of_libraries : (at : ℕ) (happening : Happening) → IsOfLibraries at happening → IsQuiet happening
of_libraries at (times_out s w bodies moment until) is = record { quiet = refl; none = refl }
of_libraries at (requests s library nr from) is = record { quiet = refl; none = refl }
of_libraries at (reserves s) is = record { quiet = refl; none = refl }
of_libraries at (accepts number moment) is = absurd (is)
of_libraries at (dials s number moment) is = absurd (is)
of_libraries at (takes k bytes) is = absurd (is)
of_libraries at (gives k) is = absurd (is)
of_libraries at (binds s k body moment) is = absurd (is)
of_libraries at (binds_and_ends s k body moment cause) is = absurd (is)
of_libraries at (receives s k body moment) is = absurd (is)
of_libraries at (answers k) is = absurd (is)
of_libraries at (ticks s moment) is = absurd (is)
of_libraries at (shows s w bodies moment until) is = absurd (is)
of_libraries at (lapses s) is = absurd (is)
of_libraries at (ends_unbound k cause) is = absurd (is)
of_libraries at (ends_bound s k cause) is = absurd (is)
of_libraries at (prepares s k) is = absurd (is)
of_libraries at (writes k n) is = absurd (is)

same_bytes : (c : ConnectionState) → KeepsBytes c c
same_bytes c = record { taken = refl; held = refl; garbled = refl; written = refl }

bytes_further : (first second third : ConnectionState) → KeepsBytes first second → KeepsBytes second third → KeepsBytes first third
bytes_further first second third one two = record {
  taken = two.taken ∙ one.taken;
  held = two.held ∙ one.held;
  garbled = two.garbled ∙ one.garbled;
  written = two.written ∙ one.written;
}

-- the connections are as many, with the same bytes
pub record IsStill (old new : Board) : Type 0 where
  pub count : length new.connections ≡ length old.connections
  pub bytes : (k : ℕ) → k < length old.connections → KeepsBytes (connection_at old k) (connection_at new k)

-- what the crates below say
pub record Laws : Type 0 where
  pub quiet : (before : ℕ → List Entry) (happening : Happening) (old new : Board) → is_quiet happening ≡ true → Happens happening old new → IsReady before old
      → (k : ℕ) → k < length old.connections → KeepsBytes (connection_at old k) (connection_at new k)
  pub count : (happening : Happening) (old new : Board) → is_coming happening ≡ false → Happens happening old new → length new.connections ≡ length old.connections
  pub ready : (before : ℕ → List Entry) (happening : Happening) (old new : Board) → Happens happening old new → IsReady before old → IsReady before new

pub still_run : (l : Laws) (before : ℕ → List Entry) (at : ℕ) (happenings : List Happening) (old new : Board) → All (IsOfLibraries at) happenings → Reaches happenings old new → IsReady before old → IsStill old new
still_run l before at [] old new all reached ready = subst (λ (b : Board). IsStill old b) (sym reached) (record { count = refl; bytes = λ k within. same_bytes (connection_at old k) })
still_run l before at (happening ∷ happenings) old new all reached ready =
    let middle = reached.0 in
    let is = of_libraries at happening (All-head (IsOfLibraries at) happening happenings all) in
    let first = l.count happening old middle is.none reached.1.0 in
    let rest = still_run l before at happenings middle new (All-tail (IsOfLibraries at) happening happenings all) reached.1.1 (l.ready before happening old middle reached.1.0 ready) in
    record {
      count = rest.count ∙ first;
      bytes = λ k within. bytes_further (connection_at old k) (connection_at middle k) (connection_at new k) (l.quiet before happening old middle is.quiet reached.1.0 ready k within) (rest.bytes k (subst (λ n. k < n) (sym first) within));
    }
