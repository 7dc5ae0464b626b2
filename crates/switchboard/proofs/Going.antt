-- Whatever happens, sessions and connections go on.
use Rattle.std.proofs.Common.{◌≡◌, inl, inr, ℕ, ◌<◌, ◌≤◌, List, [], ◌∷◌, ◌++◌, length, get_or, set, Option, None, Some, true, refl, sym, ap, subst, ◌∙◌, append_assoc, arith}
use Rattle.std.proofs.Math.ListN.{get_or-append}
use Rattle.std.proofs.lemmas.List.{append-nil, get_or-set_other, get_or-set_same, length-set, length_push}
use Rattle.connection_core.specs.Connection.{ConnectionState, after_end as after_cause, after_next, after_taking, fresh, fresh_dial}
use Rattle.connection_core.specs.Outgoing.{Outlet, no_outgoing}
use Rattle.lease_core.specs.declared.word.Word.{Word}
use Rattle.session_core.specs.declared.causes.Cause.{Cause}
use Rattle.session_book.specs.Acts.{after_binding, after_dial, after_end, after_lapse, after_message, after_request, after_ticking}
use Rattle.session_book.specs.Book.{Book, Desk, IsSameSession, with_outbox}
use Rattle.session_book.specs.Kept.{Kept}
use Rattle.session_book.specs.Rereading.{WentOn}
use Rattle.session_book.specs.Words.{after_timeout, after_word}
use Rattle.switchboard.specs.Board.{Board, OutboxChanges, book_at, connection_at, desk_at, desk_with, no_connection, no_session, place_at, session_at}
use Rattle.switchboard.specs.Going.{GoesOnTo, IsSameConnection}
use Rattle.switchboard.specs.Happenings.{BindsTo, BookChanges, ConnectionChanges, EndsBound, Happening, Happens, Reaches, SessionGoesOn, accepts, answers, binds, binds_and_ends, dials, ends_bound, ends_unbound, gives, lapses, prepares, receives, requests, reserves, shows, takes, ticks, times_out, writes}
use Rattle.switchboard.proofs.Changes.{none_is}
use Rattle.switchboard.proofs.Sounds.{none_some, same_or_other}
use Rattle.switchboard.proofs.Turns.{set_books, set_sessions}

-- what the crate below says
pub record GoingLaws : Type 0 where
  pub message : (at : ℕ) (body : List ℕ) (desk : Desk) → WentOn desk.book (after_message at body desk).book
  pub bind : (c at : ℕ) (body : List ℕ) (desk : Desk) → WentOn desk.book (after_binding at c body desk).book
  pub dial : (c at : ℕ) (desk : Desk) → WentOn desk.book (after_dial at c desk).book
  pub tick : (at : ℕ) (desk : Desk) → WentOn desk.book (after_ticking at desk).book
  pub leave : (c : ℕ) (book : Book) → WentOn book (after_end c book)
  pub word : (at until : ℕ) (w : Word) (bodies : List (List ℕ)) (desk : Desk) → WentOn desk.book (after_word at until w bodies desk).book
  pub timeout : (at until : ℕ) (old : Word) (bodies : List (List ℕ)) (desk : Desk) → WentOn desk.book (after_timeout at until old bodies desk).book
  pub request : (library nr from : ℕ) (book : Book) → WentOn book (after_request library nr from book)
  pub lapse : (book : Book) → WentOn book (after_lapse book)
  pub itself : (book : Book) → WentOn book book
  pub further : (first second third : Book) → WentOn first second → WentOn second third → WentOn first third

-- each session goes on
record BooksGoOn (old new : Board) : Type 0 where
  sessions : length new.sessions ≡ length old.sessions
  same : (s : ℕ) → IsSameSession (book_at old s) (book_at new s)
  books : (s : ℕ) → WentOn (book_at old s) (book_at new s)

-- each connection goes on in some way, and there may be further ones
pub record LinesGoOn (Goes : ConnectionState → ConnectionState → Type 0) (old new : Board) : Type 0 where
  pub more : length old.connections ≤ length new.connections
  pub each : (k : ℕ) → k < length old.connections → Goes (connection_at old k) (connection_at new k)

-- a connection that stays as it is goes on so: all stay, one changes, or there is one more
module _ (Goes : ConnectionState → ConnectionState → Type 0) (itself : (c : ConnectionState) → Goes c c) where
  pub same_lines : (old new : Board) → new.connections ≡ old.connections → LinesGoOn Goes old new
  same_lines old new same = record {
    more = (let count : length new.connections ≡ length old.connections = ap length same in omega arith);
    each = λ k within. subst (λ cs. Goes (connection_at old k) (get_or cs k no_connection)) (sym same) (itself (connection_at old k));
  }

  pub one_line : (k : ℕ) (c : ConnectionState) (old new : Board) → new.connections ≡ set old.connections k c → Goes (connection_at old k) c → LinesGoOn Goes old new
  one_line k c old new changes goes = record {
    more = (let count : length new.connections ≡ length old.connections = ap length changes ∙ length-set old.connections k c in omega arith);
    each = λ i within. subst (λ cs. Goes (connection_at old i) (get_or cs i no_connection)) (sym changes) (elim (same_or_other i k) [
      | inl e ↦ subst (λ n. Goes (connection_at old n) (get_or (set old.connections k c) n no_connection)) (sym e)
          (subst (λ x. Goes (connection_at old k) x) (sym (get_or-set_same old.connections k c no_connection (subst (λ n. n < length old.connections) e within))) goes)
      | inr other ↦ subst (λ x. Goes (connection_at old i) x) (sym (get_or-set_other old.connections k i c no_connection other)) (itself (connection_at old i))
    ]);
  }

  pub line_more : (c : ConnectionState) (old new : Board) → new.connections ≡ old.connections ++ c ∷ [] → LinesGoOn Goes old new
  line_more c old new changes = record {
    more = (let count : length new.connections ≡ length (old.connections ++ c ∷ []) = ap length changes in omega (arith, length_push old.connections c));
    each = λ i within. subst (λ cs. Goes (connection_at old i) (get_or cs i no_connection)) (sym changes)
        (subst (λ x. Goes (connection_at old i) x) (sym (get_or-append old.connections (c ∷ []) no_connection i within)) (itself (connection_at old i)));
  }

  -- what is to be written changes on the connection at a place, or on none
  pub outbox_lines : (place : Option ℕ) (old new : Board) → OutboxChanges place old new
      → ((k : ℕ) → place ≡ Some k → Goes (connection_at old k) (record (connection_at old k) { out = (connection_at new k).out })) → LinesGoOn Goes old new
  outbox_lines None old new changes goes = same_lines old new changes
  outbox_lines (Some k) old new changes goes = one_line k (record (connection_at old k) { out = (connection_at new k).out }) old new changes.0 (goes k refl)

  pub change_lines : (k : ℕ) (c : ConnectionState) (old new : Board) → ConnectionChanges k c old new → Goes (connection_at old k) c → LinesGoOn Goes old new
  change_lines k c old new changes goes = one_line k c old new (ap (λ (b : Board). b.connections) changes.others) goes

-- they go on twice
pub lines_further : (Goes : ConnectionState → ConnectionState → Type 0) → ((a b c : ConnectionState) → Goes a b → Goes b c → Goes a c) → (first second third : Board)
    → LinesGoOn Goes first second → LinesGoOn Goes second third → LinesGoOn Goes first third
lines_further Goes further first second third one two = record {
  more = (let a = one.more in let b = two.more in omega arith);
  each = λ k within. further (connection_at first k) (connection_at second k) (connection_at third k) (one.each k within) (two.each k (let a = one.more in omega arith));
}

-- a connection of which nothing comes, and that is bound and has ended as before
same_connection : (old new : ConnectionState) → new.number ≡ old.number → new.since ≡ old.since → new.dialled ≡ old.dialled → new.taken ≡ old.taken → new.session ≡ old.session → new.cause ≡ old.cause → IsSameConnection old new
same_connection old new number since dialled taken session cause = record {
  number = number;
  since = since;
  dialled = dialled;
  more = [];
  taken = taken ∙ sym (append-nil old.taken);
  bound = λ s was. session ∙ was;
  ended = λ first was. cause ∙ was;
}

pub still_same : (c : ConnectionState) → IsSameConnection c c
still_same c = same_connection c c refl refl refl refl refl refl

pub same_further : (a b c : ConnectionState) → IsSameConnection a b → IsSameConnection b c → IsSameConnection a c
same_further a b c one two = record {
  number = two.number ∙ one.number;
  since = two.since ∙ one.since;
  dialled = two.dialled ∙ one.dialled;
  more = one.more ++ two.more;
  taken = two.taken ∙ ap (λ bytes. bytes ++ two.more) one.taken ∙ append_assoc a.taken one.more two.more;
  bound = λ s was. two.bound s (one.bound s was);
  ended = λ cause was. two.ended cause (one.ended cause was);
}

-- other items wait, bytes come, a piece is handed out, it is answered, bound or ended
with_out : (c : ConnectionState) (out : Outlet) → IsSameConnection c (record c { out = out })
with_out c out = same_connection c (record c { out = out }) refl refl refl refl refl refl

taking : (bytes : List ℕ) (c : ConnectionState) → IsSameConnection c (after_taking bytes c)
taking bytes c = record { number = refl; since = refl; dialled = refl; more = bytes; taken = refl; bound = λ s was. was; ended = λ cause was. was }

binding_to : (s : ℕ) (c : ConnectionState) (out : Outlet) → c.session ≡ None → IsSameConnection c (record c { session = Some s; out = out })
binding_to s c out free = record {
  number = refl;
  since = refl;
  dialled = refl;
  more = [];
  taken = sym (append-nil c.taken);
  bound = λ j was. absurd (none_some j (sym free ∙ was));
  ended = λ cause was. was;
}

ending : (cause : Cause) (c : ConnectionState) → IsSameConnection c (after_cause cause c)
ending cause c = record {
  number = refl;
  since = refl;
  dialled = refl;
  more = [];
  taken = sym (append-nil c.taken);
  bound = λ s was. was;
  ended = λ first was. rw was refl;
}

both : (old new : Board) → BooksGoOn old new → LinesGoOn IsSameConnection old new → GoesOnTo old new
both old new books lines = record { sessions = books.sessions; same = books.same; books = books.books; more = lines.more; each = lines.each }

only_lines : (old new : Board) → GoesOnTo old new → LinesGoOn IsSameConnection old new
only_lines old new goes = record { more = goes.more; each = goes.each }

module _ (l : GoingLaws) where
  pub goes_nowhere : (board : Board) → GoesOnTo board board
  goes_nowhere board = record {
    sessions = refl;
    same = λ s. record { names = refl; dials = refl };
    books = λ s. l.itself (book_at board s);
    more = omega arith;
    each = λ k within. still_same (connection_at board k);
  }

  pub goes_further : (first second third : Board) → GoesOnTo first second → GoesOnTo second third → GoesOnTo first third
  goes_further first second third one two =
      let lines = lines_further IsSameConnection same_further first second third (only_lines first second one) (only_lines second third two) in
      record {
        sessions = two.sessions ∙ one.sessions;
        same = λ s. record { names = (two.same s).names ∙ (one.same s).names; dials = (two.same s).dials ∙ (one.same s).dials };
        books = λ s. l.further (book_at first s) (book_at second s) (book_at third s) (one.books s) (two.books s);
        more = lines.more;
        each = lines.each;
      }

  -- a book that is the same, and one that is what an event makes of it
  same_book : (old new : Book) → new ≡ old → IsSameSession old new × WentOn old new
  same_book old new same = subst (λ book. IsSameSession old book × WentOn old book) (sym same) (record { names = refl; dials = refl }, l.itself old)

  becomes : (old new made : Book) → new ≡ made → WentOn old made → WentOn old new
  becomes old new made is went = subst (WentOn old) (sym is) went

  same_sessions : (old new : Board) → new.sessions ≡ old.sessions → BooksGoOn old new
  same_sessions old new same =
      let books = λ (s : ℕ). same_book (book_at old s) (book_at new s) (ap (λ (xs : List Kept). (get_or xs s no_session).book) same) in
      record { sessions = ap length same; same = λ s. (books s).0; books = λ s. (books s).1 }

  one_session : (s : ℕ) (old new : Board) → new.sessions ≡ set old.sessions s (session_at new s) → IsSameSession (book_at old s) (book_at new s) → WentOn (book_at old s) (book_at new s) → BooksGoOn old new
  one_session s old new changes same went =
      let books : (j : ℕ) → IsSameSession (book_at old j) (book_at new j) × WentOn (book_at old j) (book_at new j) = λ j. elim (same_or_other j s) [
        | inl e ↦ subst (λ n. IsSameSession (book_at old n) (book_at new n) × WentOn (book_at old n) (book_at new n)) (sym e) (same, went)
        | inr other ↦ same_book (book_at old j) (book_at new j) (set_books s old new changes j other)
      ] in
      record { sessions = set_sessions s old new changes; same = λ j. (books j).0; books = λ j. (books j).1 }

  changing : (k : ℕ) (c : ConnectionState) (old new : Board) → ConnectionChanges k c old new → IsSameConnection (connection_at old k) c → GoesOnTo old new
  changing k c old new changes same =
      both old new (same_sessions old new (ap (λ (b : Board). b.sessions) changes.others)) (change_lines IsSameConnection still_same k c old new changes same)

  -- the session goes on, with what waits on its connection
  going : (s : ℕ) (old new : Board) (made : Desk) → SessionGoesOn s old new → desk_at new s ≡ made → WentOn (book_at old s) made.book → GoesOnTo old new
  going s old new made goes desk went =
      both old new
      (one_session s old new goes.others.sessions goes.lawful.same (becomes (book_at old s) (book_at new s) made.book (ap (λ (d : Desk). d.book) desk) went))
      (outbox_lines IsSameConnection still_same (place_at old s) old new goes.others.connections (λ k at. with_out (connection_at old k) (connection_at new k).out))

  -- and without that
  alone : (s : ℕ) (made : Book) (old new : Board) → BookChanges s made old new → WentOn (book_at old s) made → GoesOnTo old new
  alone s made old new changes went =
      both old new
      (one_session s old new (ap (λ (b : Board). b.sessions) changes.others) changes.lawful.same (becomes (book_at old s) (book_at new s) made changes.becomes went))
      (same_lines IsSameConnection still_same old new (ap (λ (b : Board). b.connections) changes.others))

  binding : (s k : ℕ) (body : List ℕ) (at : ℕ) (old new : Board) → BindsTo s k body at old new → GoesOnTo old new
  binding s k body at old new is =
      let desk = desk_with old s (Some k) in
      let number = (connection_at old k).number in
      both old new
      (one_session s old new is.plugged.sessions is.lawful.same (becomes (book_at old s) (book_at new s) (after_binding at number body desk).book (ap (λ (d : Desk). d.book) is.desk) (l.bind number at body desk)))
      (one_line IsSameConnection still_same k (connection_at new k) old new is.plugged.connections
      (subst (λ c. IsSameConnection (connection_at old k) c) (sym is.connection) (binding_to s (connection_at old k) (connection_at new k).out (none_is _ is.unbound))))

  leaving : (s k : ℕ) (cause : Cause) (old new : Board) → EndsBound s k cause old new → GoesOnTo old new
  leaving s k cause old new is =
      let number = (connection_at old k).number in
      both old new
      (one_session s old new is.unplugged.sessions is.lawful.same (becomes (book_at old s) (book_at new s) (after_end number (book_at old s)) is.book (l.leave number (book_at old s))))
      (one_line IsSameConnection still_same k (connection_at new k) old new is.unplugged.connections
      (subst (λ c. IsSameConnection (connection_at old k) c) (sym is.connection) (ending cause (connection_at old k))))

  pub happened : (happening : Happening) (old new : Board) → Happens happening old new → GoesOnTo old new
  happened (accepts number at) old new is =
      both old new (same_sessions old new (ap (λ (b : Board). b.sessions) is.connection))
      (line_more IsSameConnection still_same (fresh number at (connection_at new (length old.connections)).out) old new (ap (λ (b : Board). b.connections) is.connection))
  happened (dials s number at) old new is =
      let desk = with_outbox (book_at old s) no_outgoing in
      both old new
      (one_session s old new is.sessions is.lawful.same (becomes (book_at old s) (book_at new s) (after_dial at number desk).book (ap (λ (d : Desk). d.book) is.desk) (l.dial number at desk)))
      (line_more IsSameConnection still_same (fresh_dial number at s (connection_at new (length old.connections)).out) old new is.connection)
  happened (takes k bytes) old new is = changing k (after_taking bytes (connection_at old k)) old new is.changes (taking bytes (connection_at old k))
  happened (gives k) old new is = changing k (after_next (connection_at old k)) old new is.changes (same_connection (connection_at old k) (after_next (connection_at old k)) refl refl refl refl refl refl)
  happened (binds s k body at) old new is = binding s k body at old new is.binding
  happened (binds_and_ends s k body at cause) old new is = goes_further old is.between new (binding s k body at old is.between is.binding) (leaving s k cause is.between new is.leaves)
  happened (receives s k body at) old new is = going s old new (after_message at body (desk_at old s)) is.goes_on is.desk (l.message at body (desk_at old s))
  happened (answers k) old new is =
      let c = record (connection_at old k) { answered = true } in
      changing k c old new is (same_connection (connection_at old k) c refl refl refl refl refl refl)
  happened (ticks s at) old new is = going s old new (after_ticking at (desk_at old s)) is.goes_on is.desk (l.tick at (desk_at old s))
  happened (shows s w bodies at until) old new is = going s old new (after_word at until w bodies (desk_at old s)) is.goes_on is.desk (l.word at until w bodies (desk_at old s))
  happened (times_out s w bodies at until) old new is = going s old new (after_timeout at until w bodies (desk_at old s)) is.goes_on is.desk (l.timeout at until w bodies (desk_at old s))
  happened (requests s library nr from) old new is = alone s (after_request library nr from (book_at old s)) old new is (l.request library nr from (book_at old s))
  happened (lapses s) old new is = alone s (after_lapse (book_at old s)) old new is (l.lapse (book_at old s))
  happened (ends_unbound k cause) old new is = changing k (after_cause cause (connection_at old k)) old new is.changes (ending cause (connection_at old k))
  happened (ends_bound s k cause) old new is = leaving s k cause old new is
  happened (prepares s k) old new is = changing k _ old new is.changes (with_out (connection_at old k) (connection_at new k).out)
  happened (writes k n) old new is = changing k _ old new is.changes (with_out (connection_at old k) (connection_at new k).out)
  happened (reserves s) old new is = going s old new (desk_at old s) is.goes_on is.desk (l.itself (book_at old s))

  pub ran : (happenings : List Happening) (old new : Board) → Reaches happenings old new → GoesOnTo old new
  ran [] old new reached = subst (λ board. GoesOnTo old board) (sym reached) (goes_nowhere old)
  ran (happening ∷ happenings) old new reached = goes_further old reached.0 new (happened happening old reached.0 reached.1.0) (ran happenings reached.0 new reached.1.1)
