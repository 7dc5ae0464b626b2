-- Sessions and connections stay sound.
use Rattle.std.proofs.Common.{◌≡◌, ◌≢◌, ◌⊎◌, inl, inr, ℕ, zero, suc, ◌+◌, ◌<◌, List, [], ◌∷◌, ◌++◌, length, get_or, set, Option, None, Some, refl, sym, ap, subst, ◌∙◌, arith}
use Rattle.std.proofs.Math.ListN.{get_or-append}
use Rattle.std.proofs.Math.Seq.{get_or-append_seam}
use Rattle.std.proofs.lemmas.List.{get_or-set_other, get_or-set_same, length-set, length_push}
use Rattle.connection_core.specs.Connection.{ConnectionState}
use Rattle.session_book.specs.Kept.{Kept}
use Rattle.switchboard.specs.Board.{Board, DeskChanges, OutboxChanges, PlugChanges, book_at, connection_at, no_connection, no_session, place_at, session_at, with_connection, with_connections, with_session, with_session_more}
use Rattle.switchboard.specs.Sound.{IsPlaced, IsSameLine, IsSound, bound_of}

pub same_or_other : (i j : ℕ) → (i ≡ j) ⊎ (i ≢ j)
same_or_other zero zero = inl refl
same_or_other zero (suc j) = inr (λ e. absurd (omega arith))
same_or_other (suc i) zero = inr (λ e. absurd (omega arith))
same_or_other (suc i) (suc j) = elim (same_or_other i j) [ inl e ↦ inl (ap suc e) | inr n ↦ inr (λ e. n (omega arith)) ]

pub same_number : (a b : ℕ) → Some a ≡ Some b → a ≡ b
same_number a b e = (cc)

pub none_some : {T : Type 0} (a : T) → None ≡ Some a → ⊥
none_some a e = (cc)

-- nothing changes of what a sound board tells
pub record Alike (old new : Board) : Type 0 where
  pub sessions : length new.sessions ≡ length old.sessions
  pub places : new.places ≡ old.places
  pub connections : length new.connections ≡ length old.connections
  pub bound : (s : ℕ) → s < length old.sessions → bound_of (book_at new s) ≡ bound_of (book_at old s)
  pub lines : (k : ℕ) → k < length old.connections → IsSameLine (connection_at old k) (connection_at new k)

alike_placed : (old new : Board) (s : ℕ) (place : Option ℕ) → Alike old new → s < length old.sessions → IsPlaced old s place → IsPlaced new s place
alike_placed old new s None alike within is = alike.bound s within ∙ is
alike_placed old new s (Some k) alike within is =
    let line = alike.lines k is.within in
    record {
      within = (let same = alike.connections in let small = is.within in omega arith);
      names = line.session ∙ is.names;
      stands = line.cause ∙ is.stands;
      bound = alike.bound s within ∙ is.bound ∙ ap (λ n. Some n) (sym line.number);
    }

pub alike_sound : (old new : Board) → Alike old new → IsSound old → IsSound new
alike_sound old new alike sound = record {
  places = ap length alike.places ∙ sound.places ∙ sym alike.sessions;
  placed = λ s within.
      let small : s < length old.sessions = subst (λ n. s < n) alike.sessions within in
      subst (λ places. IsPlaced new s (get_or places s None)) (sym alike.places) (alike_placed old new s (place_at old s) alike small (sound.placed s small));
  alone = λ k s within names stands.
      let small : k < length old.connections = subst (λ n. k < n) alike.connections within in
      let line = alike.lines k small in
      let was = sound.alone k s small (sym line.session ∙ names) (sym line.cause ∙ stands) in
      (subst (λ n. s < n) (sym alike.sessions) was.0, ap (λ places. get_or places s None) alike.places ∙ was.1);
}

-- one of a list changes, in a way that leaves this of it
set_keeps : {T U : Type 0} (f : T → U) (xs : List T) (i j : ℕ) (x d : T) → i < length xs → f x ≡ f (get_or xs i d) → f (get_or (set xs i x) j d) ≡ f (get_or xs j d)
set_keeps f xs i j x d within same =
    elim (same_or_other j i) [
      | inl e ↦ subst (λ n. f (get_or (set xs i x) n d) ≡ f (get_or xs n d)) (sym e) (ap f (get_or-set_same xs i x d within) ∙ same)
      | inr n ↦ ap f (get_or-set_other xs i j x d n)
    ]

line_set : (xs : List ConnectionState) (i j : ℕ) (x : ConnectionState) → i < length xs → IsSameLine (get_or xs i no_connection) x → IsSameLine (get_or xs j no_connection) (get_or (set xs i x) j no_connection)
line_set xs i j x within same = record {
  session = set_keeps (λ (c : ConnectionState). c.session) xs i j x no_connection within same.session;
  cause = set_keeps (λ (c : ConnectionState). c.cause) xs i j x no_connection within same.cause;
  number = set_keeps (λ (c : ConnectionState). c.number) xs i j x no_connection within same.number;
}

pub same_line : (c : ConnectionState) → IsSameLine c c
same_line c = record { session = refl; cause = refl; number = refl }

-- one connection takes bytes, gives a piece or is written to
pub connection_sound : (board : Board) (k : ℕ) (c : ConnectionState) → k < length board.connections → IsSameLine (connection_at board k) c → IsSound board → IsSound (with_connection k c board)
connection_sound board k c within same sound =
    alike_sound board (with_connection k c board) (record {
      sessions = refl;
      places = refl;
      connections = length-set board.connections k c;
      bound = λ s small. refl;
      lines = λ j small. line_set board.connections k j c within same;
    }) sound

-- one session changes that stays bound as it was
pub session_sound : (board : Board) (s : ℕ) (kept : Kept) → s < length board.sessions → bound_of kept.book ≡ bound_of (book_at board s) → IsSound board → IsSound (with_session s kept board)
session_sound board s kept within same sound =
    alike_sound board (with_session s kept board) (record {
      sessions = length-set board.sessions s kept;
      places = refl;
      connections = refl;
      bound = λ j small. set_keeps (λ (k : Kept). bound_of k.book) board.sessions s j kept no_session within same;
      lines = λ j small. same_line (connection_at board j);
    }) sound

pub outbox_lines : (place : Option ℕ) (old new : Board) → OutboxChanges place old new → ((k : ℕ) → place ≡ Some k → k < length old.connections)
    → (length new.connections ≡ length old.connections) × ((j : ℕ) → IsSameLine (connection_at old j) (connection_at new j))
outbox_lines None old new same within = (ap length same, λ j. subst (λ cs. IsSameLine (connection_at old j) (get_or cs j no_connection)) (sym same) (same_line (connection_at old j)))
outbox_lines (Some k) old new same within =
    let c = record (connection_at old k) { out = (connection_at new k).out } in (
      ap length same.0 ∙ length-set old.connections k c,
      λ j. subst (λ cs. IsSameLine (connection_at old j) (get_or cs j no_connection)) (sym same.0)
          (line_set old.connections k j c (within k refl) (record { session = refl; cause = refl; number = refl })),
    )

-- one session and what waits on its connection change
pub desk_sound : (s : ℕ) (place : Option ℕ) (old new : Board) → s < length old.sessions → ((k : ℕ) → place ≡ Some k → k < length old.connections) → DeskChanges s place old new → bound_of (book_at new s) ≡ bound_of (book_at old s)
    → IsSound old → IsSound new
desk_sound s place old new within placed changes same sound =
    let lines = outbox_lines place old new changes.connections placed in
    alike_sound old new (record {
      sessions = ap length changes.sessions ∙ length-set old.sessions s (session_at new s);
      places = changes.places;
      connections = lines.0;
      bound = λ j small.
          ap (λ (sessions : List Kept). bound_of (get_or sessions j no_session).book) changes.sessions
          ∙ set_keeps (λ (k : Kept). bound_of k.book) old.sessions s j (session_at new s) no_session within same;
      lines = λ j small. lines.1 j;
    }) sound

-- a sound board says where a session is bound
pub place_within : (board : Board) (s k : ℕ) → IsSound board → s < length board.sessions → place_at board s ≡ Some k → k < length board.connections
place_within board s k sound within at = (subst (λ place. IsPlaced board s place) at (sound.placed s within)).within

-- another session isn't bound to the connection to which this one is
others_place : (board : Board) (s k j : ℕ) → IsSound board → s < length board.sessions → place_at board s ≡ Some k → j < length board.sessions → place_at board j ≡ Some k → j ≡ s
others_place board s k j sound within at small there =
    let one = subst (λ place. IsPlaced board s place) at (sound.placed s within) in
    let other = subst (λ place. IsPlaced board j place) there (sound.placed j small) in
    same_number j s (sym other.names ∙ one.names)

-- what holds of a session where neither its book nor its connection changed
kept_placed : (old new : Board) (s : ℕ) (place : Option ℕ) → bound_of (book_at new s) ≡ bound_of (book_at old s)
    → ((k : ℕ) → place ≡ Some k → k < length old.connections → (k < length new.connections) × IsSameLine (connection_at old k) (connection_at new k))
    → IsPlaced old s place → IsPlaced new s place
kept_placed old new s None same lines is = same ∙ is
kept_placed old new s (Some k) same lines is =
    let found = lines k refl is.within in
    record { within = found.0; names = found.1.session ∙ is.names; stands = found.1.cause ∙ is.stands; bound = same ∙ is.bound ∙ ap (λ n. Some n) (sym found.1.number) }

equal_lines : (a b : ConnectionState) → b ≡ a → IsSameLine a b
equal_lines a b e = record { session = ap (λ (c : ConnectionState). c.session) e; cause = ap (λ (c : ConnectionState). c.cause) e; number = ap (λ (c : ConnectionState). c.number) e }

module _ (board : Board) (kept : Kept) (none : bound_of kept.book ≡ None) (sound : IsSound board) where
  more_one : length (board.sessions ++ kept ∷ []) ≡ length board.sessions + 1
  more_one = length_push board.sessions kept

  more_place : (s : ℕ) → s < length board.sessions → place_at (with_session_more kept board) s ≡ place_at board s
  more_place s small = get_or-append board.places (None ∷ []) None s (subst (λ n. s < n) (sym sound.places) small)

  more_last : place_at (with_session_more kept board) (length board.sessions) ≡ None
  more_last = ap (λ n. get_or (board.places ++ None ∷ []) n None) (sym sound.places) ∙ get_or-append_seam board.places None [] None

  more_placed : (s : ℕ) → (s ≡ length board.sessions) ⊎ (s ≢ length board.sessions) → s < length (board.sessions ++ kept ∷ []) → IsPlaced (with_session_more kept board) s (place_at (with_session_more kept board) s)
  more_placed s (inl last) within =
      let new = with_session_more kept board in
      let place : place_at new s ≡ None = ap (place_at new) last ∙ more_last in
      let book : book_at new s ≡ kept.book = ap (book_at new) last ∙ ap (λ (k : Kept). k.book) (get_or-append_seam board.sessions kept [] no_session) in
      subst (λ found. IsPlaced new s found) (sym place) (ap bound_of book ∙ none)
  more_placed s (inr other) within =
      let new = with_session_more kept board in
      let small : s < length board.sessions = omega (arith, more_one, other) in
      let book : bound_of (book_at new s) ≡ bound_of (book_at board s) = ap (λ (k : Kept). bound_of k.book) (get_or-append board.sessions (kept ∷ []) no_session s small) in
      subst (λ found. IsPlaced new s found) (sym (more_place s small))
      (kept_placed board new s (place_at board s) book (λ k at within_k. (within_k, same_line (connection_at board k))) (sound.placed s small))

  -- one session more, which is bound to no connection
  pub more_sound : IsSound (with_session_more kept board)
  more_sound = record {
    places = length_push board.places None ∙ ap (λ n. n + 1) sound.places ∙ sym more_one;
    placed = λ s within. more_placed s (same_or_other s (length board.sessions)) within;
    alone = λ k s within names stands.
        let was = sound.alone k s within names stands in
        (subst (λ n. s < n) (sym more_one) (let small = was.0 in omega arith), more_place s was.0 ∙ was.1);
  }

-- one connection more, to which no session is bound
module _ (board : Board) (c : ConnectionState) (unbound : c.session ≡ None) (sound : IsSound board) where
  accept_alone : (k s : ℕ) → (k ≡ length board.connections) ⊎ (k ≢ length board.connections) → k < length (board.connections ++ c ∷ [])
      → (get_or (board.connections ++ c ∷ []) k no_connection).session ≡ Some s → (get_or (board.connections ++ c ∷ []) k no_connection).cause ≡ None
      → (s < length board.sessions) × (place_at board s ≡ Some k)
  accept_alone k s (inl last) within names stands =
      let found : get_or (board.connections ++ c ∷ []) k no_connection ≡ c = ap (λ n. get_or (board.connections ++ c ∷ []) n no_connection) last ∙ get_or-append_seam board.connections c [] no_connection in
      absurd (none_some s (sym unbound ∙ sym (ap (λ (x : ConnectionState). x.session) found) ∙ names))
  accept_alone k s (inr other) within names stands =
      let small : k < length board.connections = omega (arith, length_push board.connections c, other) in
      let found = get_or-append board.connections (c ∷ []) no_connection k small in
      sound.alone k s small (sym (ap (λ (x : ConnectionState). x.session) found) ∙ names) (sym (ap (λ (x : ConnectionState). x.cause) found) ∙ stands)

  pub accept_sound : IsSound (with_connections (board.connections ++ c ∷ []) board)
  accept_sound =
      let new = with_connections (board.connections ++ c ∷ []) board in
      record {
        places = sound.places;
        placed = λ s within. kept_placed board new s (place_at board s) refl
            (λ k at small. (subst (λ n. k < n) (sym (length_push board.connections c)) (omega arith), equal_lines (connection_at board k) (connection_at new k) (get_or-append board.connections (c ∷ []) no_connection k small)))
            (sound.placed s within);
        alone = λ k s within names stands. accept_alone k s (same_or_other k (length board.connections)) within names stands;
      }

-- a session is bound to a connection, or leaves it
module _ (s k : ℕ) (place : Option ℕ) (old new : Board) (small : s < length old.sessions) (within : k < length old.connections) (plug : PlugChanges s k place old new) (sound : IsSound old) where
  pub plug_sessions : length new.sessions ≡ length old.sessions
  plug_sessions = ap length plug.sessions ∙ length-set old.sessions s (session_at new s)

  pub plug_connections : length new.connections ≡ length old.connections
  plug_connections = ap length plug.connections ∙ length-set old.connections k (connection_at new k)

  plug_places : length new.places ≡ length new.sessions
  plug_places = ap length plug.places ∙ length-set old.places s place ∙ sound.places ∙ sym plug_sessions

  pub place_here : place_at new s ≡ place
  place_here = ap (λ places. get_or places s None) plug.places ∙ get_or-set_same old.places s place None (subst (λ n. s < n) (sym sound.places) small)

  pub place_there : (j : ℕ) → j ≢ s → place_at new j ≡ place_at old j
  place_there j other = ap (λ places. get_or places j None) plug.places ∙ get_or-set_other old.places s j place None other

  pub book_there : (j : ℕ) → j ≢ s → book_at new j ≡ book_at old j
  book_there j other = ap (λ (sessions : List Kept). (get_or sessions j no_session).book) plug.sessions ∙ ap (λ (x : Kept). x.book) (get_or-set_other old.sessions s j (session_at new s) no_session other)

  pub line_there : (j : ℕ) → j ≢ k → connection_at new j ≡ connection_at old j
  line_there j other = ap (λ (cs : List ConnectionState). get_or cs j no_connection) plug.connections ∙ get_or-set_other old.connections k j (connection_at new k) no_connection other

  -- the other sessions, which aren't bound to this connection
  placed_there : (j : ℕ) → j ≢ s → j < length new.sessions → (place_at old j ≢ Some k) → IsPlaced new j (place_at new j)
  placed_there j other within_new apart =
      let was_small : j < length old.sessions = subst (λ n. j < n) plug_sessions within_new in
      subst (λ found. IsPlaced new j found) (sym (place_there j other))
      (kept_placed old new j (place_at old j) (ap bound_of (book_there j other))
      (λ i at there. (subst (λ n. i < n) (sym plug_connections) there, equal_lines (connection_at old i) (connection_at new i) (line_there i (λ e. apart (at ∙ ap (λ n. Some n) e)))))
      (sound.placed j was_small))

  -- the other connections, to which this session isn't bound
  alone_there : (i j : ℕ) → i ≢ k → i < length new.connections → (connection_at new i).session ≡ Some j → (connection_at new i).cause ≡ None → place_at old s ≢ Some i
      → (j < length new.sessions) × (place_at new j ≡ Some i)
  alone_there i j other within_new names stands apart =
      let same = line_there i other in
      let was = sound.alone i j (subst (λ n. i < n) plug_connections within_new) (sym (ap (λ (x : ConnectionState). x.session) same) ∙ names) (sym (ap (λ (x : ConnectionState). x.cause) same) ∙ stands) in
      let elsewhere : j ≢ s = λ e. apart (ap (place_at old) (sym e) ∙ was.1) in
      (subst (λ n. j < n) (sym plug_sessions) was.0, place_there j elsewhere ∙ was.1)

pub bind_sound : (s k : ℕ) (old new : Board) → s < length old.sessions → k < length old.connections → PlugChanges s k (Some k) old new → place_at old s ≡ None → (connection_at old k).session ≡ None
    → (connection_at new k).session ≡ Some s → (connection_at new k).cause ≡ None → bound_of (book_at new s) ≡ Some (connection_at new k).number → IsSound old → IsSound new
bind_sound s k old new small within plug free unbound names stands bound sound =
    let here = place_here s k (Some k) old new small within plug sound in
    record {
      places = plug_places s k (Some k) old new small within plug sound;
      placed = λ j within_new. elim (same_or_other j s) [
        | inl e ↦ subst (λ n. IsPlaced new n (place_at new n)) (sym e)
            (subst (λ place. IsPlaced new s place) (sym here)
            (record { within = subst (λ n. k < n) (sym (plug_connections s k (Some k) old new small within plug sound)) within; names = names; stands = stands; bound = bound }))
        | inr other ↦ placed_there s k (Some k) old new small within plug sound j other within_new
            (λ at. none_some j (sym unbound ∙ (subst (λ place. IsPlaced old j place) at (sound.placed j (subst (λ n. j < n) (plug_sessions s k (Some k) old new small within plug sound) within_new))).names))
      ];
      alone = λ i j within_new told still. elim (same_or_other i k) [
        | inl e ↦ (let one : s ≡ j = same_number s j (sym names ∙ ap (λ n. (connection_at new n).session) (sym e) ∙ told) in (
          subst (λ n. n < length new.sessions) one (subst (λ n. s < n) (sym (plug_sessions s k (Some k) old new small within plug sound)) small),
          ap (place_at new) (sym one) ∙ here ∙ ap (λ n. Some n) (sym e),
        ))
        | inr other ↦ alone_there s k (Some k) old new small within plug sound i j other within_new told still (λ at. none_some i (sym free ∙ at))
      ];
    }

pub end_sound : (s k : ℕ) (old new : Board) → s < length old.sessions → PlugChanges s k None old new → place_at old s ≡ Some k
    → (connection_at new k).cause ≢ None → bound_of (book_at new s) ≡ None → IsSound old → IsSound new
end_sound s k old new small plug at ended free sound =
    let within = place_within old s k sound small at in
    let here = place_here s k None old new small within plug sound in
    record {
      places = plug_places s k None old new small within plug sound;
      placed = λ j within_new. elim (same_or_other j s) [
        | inl e ↦ subst (λ n. IsPlaced new n (place_at new n)) (sym e) (subst (λ place. IsPlaced new s place) (sym here) free)
        | inr other ↦ placed_there s k None old new small within plug sound j other within_new
            (λ there. other (others_place old s k j sound small at (subst (λ n. j < n) (plug_sessions s k None old new small within plug sound) within_new) there))
      ];
      alone = λ i j within_new told still. elim (same_or_other i k) [
        | inl e ↦ absurd (ended (ap (λ n. (connection_at new n).cause) (sym e) ∙ still))
        | inr other ↦ alone_there s k None old new small within plug sound i j other within_new told still (λ there. other (same_number i k (sym there ∙ at)))
      ];
    }

unbound_placed : (board : Board) (k : ℕ) (c : ConnectionState) (s : ℕ) (place : Option ℕ) → (connection_at board k).session ≡ None → IsPlaced board s place → IsPlaced (with_connection k c board) s place
unbound_placed board k c s None was_unbound is = is
unbound_placed board k c s (Some i) was_unbound is =
    let other : i ≢ k = λ e. none_some s (sym was_unbound ∙ ap (λ n. (connection_at board n).session) (sym e) ∙ is.names) in
    let same = get_or-set_other board.connections k i c no_connection other in
    record {
      within = subst (λ n. i < n) (sym (length-set board.connections k c)) is.within;
      names = ap (λ (x : ConnectionState). x.session) same ∙ is.names;
      stands = ap (λ (x : ConnectionState). x.cause) same ∙ is.stands;
      bound = is.bound ∙ ap (λ (x : ConnectionState). Some x.number) (sym same);
    }

-- a connection to which no session is bound ends
pub unbound_sound : (board : Board) (k : ℕ) (c : ConnectionState) → k < length board.connections → (connection_at board k).session ≡ None → c.session ≡ None → IsSound board → IsSound (with_connection k c board)
unbound_sound board k c within was_unbound unbound sound =
    let new = with_connection k c board in
    record {
      places = sound.places;
      placed = λ s small. unbound_placed board k c s (place_at board s) was_unbound (sound.placed s small);
      alone = λ i s within_new names stands. elim (same_or_other i k) [
        | inl e ↦ absurd (none_some s (sym unbound ∙ ap (λ (x : ConnectionState). x.session) (sym (get_or-set_same board.connections k c no_connection within)) ∙ ap (λ n. (connection_at new n).session) (sym e) ∙ names))
        | inr other ↦ (let same = get_or-set_other board.connections k i c no_connection other in
            sound.alone i s (subst (λ n. i < n) (length-set board.connections k c) within_new) (sym (ap (λ (x : ConnectionState). x.session) same) ∙ names) (sym (ap (λ (x : ConnectionState). x.cause) same) ∙ stands))
      ];
    }

set_last : {T : Type 0} (xs : List T) (x y : T) → set (xs ++ x ∷ []) (length xs) y ≡ xs ++ y ∷ []
set_last [] x y = refl
set_last (z ∷ xs) x y = ap (λ l. z ∷ l) (set_last xs x y)

-- a session is bound to a connection that it dialled
pub dial_sound : (s : ℕ) (c : ConnectionState) (old new : Board) → s < length old.sessions → place_at old s ≡ None → new.sessions ≡ set old.sessions s (session_at new s) → new.places ≡ set old.places s (Some (length old.connections))
    → new.connections ≡ old.connections ++ c ∷ [] → new.nowhere ≡ old.nowhere → c.session ≡ Some s → c.cause ≡ None → bound_of (book_at new s) ≡ Some c.number → IsSound old → IsSound new
dial_sound s c old new small free sessions places connections nowhere names stands bound sound =
    let k = length old.connections in
    let plain = record c { session = None } in
    let mid = with_connections (old.connections ++ plain ∷ []) old in
    let found : connection_at new k ≡ c = ap (λ (cs : List ConnectionState). get_or cs k no_connection) connections ∙ get_or-append_seam old.connections c [] no_connection in
    let plug : PlugChanges s k (Some k) mid new = record {
      sessions = sessions;
      places = places;
      connections = connections ∙ sym (set_last old.connections plain c) ∙ ap (λ (x : ConnectionState). set (old.connections ++ plain ∷ []) k x) (sym found);
      nowhere = nowhere;
    } in
    bind_sound s k mid new small (subst (λ n. k < n) (sym (length_push old.connections plain)) (omega arith)) plug free
    (ap (λ (x : ConnectionState). x.session) (get_or-append_seam old.connections plain [] no_connection))
    (ap (λ (x : ConnectionState). x.session) found ∙ names) (ap (λ (x : ConnectionState). x.cause) found ∙ stands)
    (bound ∙ ap (λ (x : ConnectionState). Some x.number) (sym found))
    (accept_sound old plain refl sound)
