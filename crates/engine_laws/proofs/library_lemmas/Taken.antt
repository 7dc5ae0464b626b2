-- What was taken of the libraries' lanes is what the journals have as sends, over each step of a turn.
use Rattle.std.proofs.Common.{◌≡◌, ◌≢◌, inl, inr, ℕ, suc, ◌<◌, ◌≤◌, List, [], ◌∷◌, ◌++◌, length, refl, sym, ap, subst, ◌∙◌, arith}
use Rattle.std.proofs.lemmas.Bool.{cases_eq}
use Rattle.std.proofs.lemmas.List.{get_or-set_other, get_or-set_same, length-set}
use Rattle.std.specs.Prelude.{slice_index_or}
use Rattle.engine_end.specs.Meeting.{SeatsMeet}
use Rattle.lease_core.specs.Laws.{LinesAreHeld, LinesAreRaised, LinesGoOn, PushedIsLast}
use Rattle.lease_core.specs.Lines.{entries_after_hold, entries_after_timeout, entries_after_word, granted_line, lines_of, no_line, raised, taken_back}
use Rattle.lease_core.specs.State.{state_of}
use Rattle.lease_core.specs.Steps.{entry_with, reply_to, timeout_entry}
use Rattle.lease_core.specs.declared.entry.Entry.{Entry}
use Rattle.lease_core.specs.declared.lease.Line.{Line}
use Rattle.lease_core.specs.declared.messages.Notice.{Notice}
use Rattle.lease_core.specs.declared.messages.Reply.{Reply}
use Rattle.lease_core.specs.declared.messages.Reply.TheVariants as reply
use Rattle.lease_core.specs.declared.word.Standing.{Standing}
use Rattle.lease_core.specs.declared.word.Standing.TheVariants.{Active, Released, Revoked}
use Rattle.lease_core.specs.declared.word.Word.{Word}
use Rattle.lease_desk.specs.Desk.{Gathers, TakesBack, TakesBackFrom, after_takes, bodies_of, seat_after_reply}
use Rattle.lease_desk.specs.declared.desk.LeaseDesk.{LeaseDesk}
use Rattle.lease_words.specs.Sees.{after_grant, after_look, after_publish, after_revoke}
use Rattle.lease_words.specs.Tells.{engine_session_after_meeting, engine_sessions_after_meeting}
use Rattle.lease_words.specs.Views.{EngineView, LibraryView, TableRef, engine_at, engine_view, library_at, no_engine_session, with_engine_at}
use Rattle.lease_words.specs.declared.view.EngineSession.{EngineSession}
use Rattle.lease_words.specs.declared.view.LibrarySession.{LibrarySession}
use Rattle.library_clock.specs.Watched.{Watched}
use Rattle.library_desk.specs.Serving.{Answers, AnswersRequest, Expires, PumpsTo, Replies, RepliesTo, Serves}
use Rattle.library_desk.specs.declared.desk.LibraryDesk.{LibraryDesk}
use Rattle.library_desk.specs.declared.serving.LibTurn.{LibTurn}
use Rattle.library_desk.specs.declared.serving.LibTurn.TheVariants.{Answered, Ended, NoCommand, NoRoom}
use Rattle.engine_laws.specs.libraries.Sends.{AreTaken, LanesAreTaken}
use Rattle.engine_laws.proofs.library_lemmas.Lanes.{all_shown, lanes_gathered, lanes_stay, last_further, last_raised, last_taken_back, nothing_found}
use Rattle.engine_laws.proofs.library_lemmas.Sent.{BooksKeepSends, KeepsSends, Laws as SentLaws, one_goes_on, run_keeps}
use Rattle.engine_laws.proofs.Walking.{each_in_turn}
use Rattle.engine_laws.proofs.library_lemmas.Steps.{IsKept}
use Rattle.message_log.specs.declared.entry.OutEntry.{OutEntry}
use Rattle.session_book.specs.Acts.{after_request}
use Rattle.session_book.specs.Book.{Book, Desk}
use Rattle.session_book.specs.Kept.{IsBook}
use Rattle.session_book.specs.Sends.{AreSendsOf, new_sends}
use Rattle.session_book.specs.Words.{after_timeout, after_word, shown_sends}
use Rattle.switchboard.specs.Board.{Board, book_at, desk_at}
use Rattle.switchboard.specs.Going.{GoesOnTo}
use Rattle.switchboard.specs.Happenings.{Happening, Reaches, requests, reserves, shows, times_out}
use Rattle.switchboard.specs.Ready.{IsReady}

-- what the crates below say
pub record Laws : Type 0 where
  pub sent : SentLaws
  pub ready : (before : ℕ → List Entry) (happenings : List Happening) (old new : Board) → Reaches happenings old new → IsReady before old → IsReady before new
  pub goes_on : (happenings : List Happening) (old new : Board) → Reaches happenings old new → GoesOnTo old new
  pub joins : (first second : List Happening) (old between new : Board) → Reaches first old between → Reaches second between new → Reaches (first ++ second) old new
  pub word : (library : ℕ) (before : List Entry) (sends : List OutEntry) (at until : ℕ) (w : Word) (bodies : List (List ℕ)) (desk : Desk) → IsBook desk.book → length bodies ≡ shown_sends desk.book.entries w
      → AreSendsOf library before sends desk.book → AreSendsOf library before (sends ++ new_sends library desk.book at bodies) (after_word at until w bodies desk).book
  pub timeout : (library : ℕ) (before : List Entry) (sends : List OutEntry) (at until : ℕ) (old : Word) (bodies : List (List ℕ)) (desk : Desk) → IsBook desk.book → length bodies ≡ shown_sends desk.book.entries old
      → AreSendsOf library before sends desk.book → AreSendsOf library before (sends ++ new_sends library desk.book at bodies) (after_timeout at until old bodies desk).book
  pub request : (library : ℕ) (before : List Entry) (sends : List OutEntry) (by nr from : ℕ) (book : Book) → AreSendsOf library before sends book → AreSendsOf library before sends (after_request by nr from book)
  pub one : LinesGoOn
  pub raises : LinesAreRaised
  pub holds : LinesAreHeld
  pub last : PushedIsLast

-- how many libraries the table has
abbrev libraries_of : LeaseDesk → ℕ
libraries_of desk = desk.seat.table.shape.libraries

module _ (before : ℕ → List Entry) where
  -- the lanes of a session, by what the seat knows of it
  abbrev LanesAt : LeaseDesk → ℕ → Type 0
  LanesAt desk s = LanesAreTaken (libraries_of desk) (before s) (book_at desk.board s) (engine_at desk.seat s)

  -- Board, table and what the seat knows of sessions are as they were.
  pub same_seat : (old new : LeaseDesk) → new.board ≡ old.board → new.seat.table ≡ old.seat.table → new.seat.knows.sessions ≡ old.seat.knows.sessions → AreTaken before old → AreTaken before new
  same_seat old new board table sessions was = record {
    seated = ap (λ (b : Board). length b.sessions) board ∙ was.seated ∙ ap (λ (t : TableRef). t.shape.sessions) (sym table);
    known = ap (λ (es : List EngineSession). length es) sessions ∙ was.known ∙ ap (λ (b : Board). length b.sessions) (sym board);
    each = λ s small.
        subst (λ (t : TableRef). LanesAreTaken t.shape.libraries (before s) (book_at new.board s) (engine_at new.seat s)) (sym table)
        (subst (λ (es : List EngineSession). LanesAreTaken (libraries_of old) (before s) (book_at new.board s) (slice_index_or es s no_engine_session)) (sym sessions)
        (subst (λ (b : Board). LanesAreTaken (libraries_of old) (before s) (book_at b s) (engine_at old.seat s)) (sym board)
        (was.each s (subst (λ (b : Board). s < length b.sessions) board small))));
  }

  -- sessions go on by sends of nobody, and the seat is the same
  pub board_alone : (old new : LeaseDesk) → BooksKeepSends old.board new.board → new.seat ≡ old.seat → AreTaken before old → AreTaken before new
  board_alone old new keeps seat was = record {
    seated = keeps.sessions ∙ was.seated ∙ ap (λ (v : EngineView). v.table.shape.sessions) (sym seat);
    known = ap (λ (v : EngineView). length v.knows.sessions) seat ∙ was.known ∙ sym keeps.sessions;
    each = λ s small.
        subst (λ (v : EngineView). LanesAreTaken v.table.shape.libraries (before s) (book_at new.board s) (engine_at v s)) (sym seat)
        (lanes_stay (libraries_of old) (before s) (book_at old.board s) (book_at new.board s) (engine_at old.seat s) (keeps.books s) (was.each s (subst (λ n. s < n) keeps.sessions small)));
  }

  -- one session goes on, and so does what the seat knows of it
  pub one_session : (s : ℕ) (old new : LeaseDesk) (es : EngineSession) → length new.board.sessions ≡ length old.board.sessions → new.seat ≡ with_engine_at old.seat s es
      → ((other : ℕ) → other ≢ s → book_at new.board other ≡ book_at old.board other) → (s < length old.board.sessions → LanesAreTaken (libraries_of old) (before s) (book_at new.board s) es) → AreTaken before old
      → AreTaken before new
  one_session s old new es count seat others own was =
      let seen = with_engine_at old.seat s es in
      let sessions = old.seat.knows.sessions in
      let each : (j : ℕ) → j < length new.board.sessions → LanesAreTaken (libraries_of old) (before j) (book_at new.board j) (engine_at seen j) =
      λ j small. elim (cases_eq j s) [
        | inl same ↦ (
            let here : s < length old.board.sessions = subst (λ n. n < length old.board.sessions) same (subst (λ n. j < n) count small) in
            subst (λ k. LanesAreTaken (libraries_of old) (before k) (book_at new.board k) (engine_at seen k)) (sym same)
            (subst (λ (e : EngineSession). LanesAreTaken (libraries_of old) (before s) (book_at new.board s) e) (sym (get_or-set_same sessions s es no_engine_session (subst (λ n. s < n) (sym was.known) here)))
            (own here)))
        | inr other ↦
            subst (λ (e : EngineSession). LanesAreTaken (libraries_of old) (before j) (book_at new.board j) e) (sym (get_or-set_other sessions s j es no_engine_session other))
            (subst (λ (b : Book). LanesAreTaken (libraries_of old) (before j) b (engine_at old.seat j)) (sym (others j other)) (was.each j (subst (λ n. j < n) count small)))
      ] in
      record {
        seated = count ∙ was.seated ∙ ap (λ (v : EngineView). v.table.shape.sessions) (sym seat);
        known = ap (λ (v : EngineView). length v.knows.sessions) seat ∙ length-set sessions s es ∙ was.known ∙ sym count;
        each = λ j small. subst (λ (v : EngineView). LanesAreTaken v.table.shape.libraries (before j) (book_at new.board j) (engine_at v j)) (sym seat) (each j small);
      }

  -- a count is published
  pub published : (s count : ℕ) (old new : LeaseDesk) → new.board ≡ old.board → new.seat ≡ with_engine_at old.seat s (after_publish (engine_at old.seat s) count) → AreTaken before old → AreTaken before new
  published s count old new board seat was =
      one_session s old new (after_publish (engine_at old.seat s) count) (ap (λ (b : Board). length b.sessions) board) seat (λ other different. ap (λ (b : Board). book_at b other) board)
      (λ small.
      let own = was.each s small in
      subst (λ (b : Board). LanesAreTaken (libraries_of old) (before s) (book_at b s) (after_publish (engine_at old.seat s) count)) (sym board)
      (record { lines = own.lines; based = own.based; granted = own.granted; lanes = own.lanes; taken = own.taken }))
      was

  -- the engine and a library meet
  long_together : (es : List EngineSession) (ls : List LibrarySession) → length ls ≡ length es → length (engine_sessions_after_meeting es ls) ≡ length es
  long_together [] ls same = refl
  long_together (e ∷ es) [] same = absurd (omega arith)
  long_together (e ∷ es) (l ∷ ls) same = ap (λ n. suc n) (long_together es ls (omega arith))

  pub met : (library_old library_new : LibraryView) (old new : LeaseDesk) → SeatsMeet old.seat new.seat library_old library_new → new.board ≡ old.board → AreTaken before old → AreTaken before new
  met library_old library_new old new is board was =
      let shape = old.seat.table.shape in
      let so = is.rule.ruled.views is.rule.seat (engine_view shape old.seat.knows (library_old.knows ∷ old.seat.settled)) is.rule.knows in
      let long : length library_old.knows.sessions ≡ length old.seat.knows.sessions = so.libraries.0.count ∙ sym (so.engine refl).count in
      let table : new.seat.table ≡ old.seat.table = ap (λ (v : EngineView). v.table) is.engine in
      record {
        seated = ap (λ (b : Board). length b.sessions) board ∙ was.seated ∙ ap (λ (t : TableRef). t.shape.sessions) (sym table);
        known = ap (λ (v : EngineView). length v.knows.sessions) is.engine ∙ long_together old.seat.knows.sessions library_old.knows.sessions long ∙ was.known ∙ ap (λ (b : Board). length b.sessions) (sym board);
        each = λ s small.
            let here : s < length old.board.sessions = subst (λ (b : Board). s < length b.sessions) board small in
            let own = was.each s here in
            subst (λ (t : TableRef). LanesAreTaken t.shape.libraries (before s) (book_at new.board s) (engine_at new.seat s)) (sym table)
            (subst (λ (e : EngineSession). LanesAreTaken (libraries_of old) (before s) (book_at new.board s) e) (sym (is.engine_session s (subst (λ n. s < n) was.seated here)))
            (subst (λ (b : Board). LanesAreTaken (libraries_of old) (before s) (book_at b s) (engine_session_after_meeting (engine_at old.seat s) (library_at library_old s))) (sym board)
            (record { lines = own.lines; based = own.based; granted = own.granted; lanes = own.lanes; taken = own.taken })));
      }

  -- The board is ready, and so it is.
  abbrev pub Taken : LeaseDesk → Type 0
  Taken desk = IsReady before desk.board × AreTaken before desk

  abbrev pub KeepsTaken : LeaseDesk → LeaseDesk → Type 0
  KeepsTaken old new = Taken old → Taken new

  module _ (l : Laws) where
    -- what a gathering makes of the lines, and what a taking back
    gathered_lines : (entries : List Entry) (lines : List Line) (w : Word) (until : ℕ) → lines_of entries ≡ lines → lines_of (entries_after_hold until (entries_after_word entries w)) ≡ raised lines w
    gathered_lines entries lines w until same = l.holds (entries_after_word entries w) until ∙ l.raises entries w ∙ ap (λ (ls : List Line). raised ls w) same

    timed_out_lines : (standing : Standing) (entries : List Entry) → lines_of (entries_after_timeout standing entries) ≡ taken_back standing (lines_of entries)
    timed_out_lines Active entries = l.one entries (timeout_entry (state_of entries))
    timed_out_lines Released entries = refl
    timed_out_lines Revoked entries = refl

    -- a session is gathered
    gathered_here : (s at until : ℕ) (old new : LeaseDesk) (is : Gathers s at until old new) → IsReady before old.board → s < length old.board.sessions → LanesAt old s
        → LanesAreTaken (libraries_of old) (before s) (book_at new.board s) (after_takes is.items (after_look (engine_at old.seat s) is.word))
    gathered_here s at until old new is ready small was =
        let book = book_at old.board s in
        let es = engine_at old.seat s in
        let rests = is.reaches.1.0 in
        let shown = is.reaches.1.1.1.0 in
        let count : length (bodies_of is.items) ≡ shown_sends book.entries is.word = shown.bodies_are ∙ ap (λ (d : Desk). shown_sends d.book.entries is.word) rests.desk in
        let lines : lines_of (book_at new.board s).entries ≡ raised es.lines is.word = ap (λ (d : Desk). lines_of d.book.entries) is.desk ∙ gathered_lines book.entries es.lines is.word until was.lines in
        lanes_gathered (libraries_of old) (before s) at is.items book (book_at new.board s) es (after_look es is.word) refl refl (last_raised is.word es.lines) (nothing_found es.lines is.word is.items is.finds.stands is.finds.count) was lines
        (λ library sends are. subst (λ (d : Desk). AreSendsOf library (before s) (sends ++ new_sends library book at (bodies_of is.items)) d.book) (sym is.desk)
        (l.word library (before s) sends at until is.word (bodies_of is.items) (desk_at old.board s) (ready.books s small).is_book count are))

    pub gathered : (s at until : ℕ) (old new : LeaseDesk) → Gathers s at until old new → KeepsTaken old new
    gathered s at until old new is was =
        let happenings = reserves s ∷ shows s is.word (bodies_of is.items) at until ∷ [] in (
          l.ready before happenings old.board new.board is.reaches was.0,
          one_session s old new (after_takes is.items (after_look (engine_at old.seat s) is.word)) (l.goes_on happenings old.board new.board is.reaches).sessions is.seat
              (λ other different. l.sent.desk s other _ old.board new.board different is.others)
              (λ small. gathered_here s at until old new is was.0 small (was.1.each s small)) was.1,
        )

    -- and taken back
    taken_here : (s at until : ℕ) (old new : LeaseDesk) (is : TakesBack s at until old new) → IsReady before old.board → s < length old.board.sessions → LanesAt old s
        → LanesAreTaken (libraries_of old) (before s) (book_at new.board s) (after_takes is.items (after_revoke (engine_at old.seat s) is.word))
    taken_here s at until old new is ready small was =
        let book = book_at old.board s in
        let es = engine_at old.seat s in
        let rests = is.reaches.1.0 in
        let ended = is.reaches.1.1.1.0 in
        let before_it : (book_at is.reaches.0 s).entries ≡ book.entries = ap (λ (d : Desk). d.book.entries) rests.desk in
        let count : length (bodies_of is.items) ≡ shown_sends book.entries is.word =
        ended.bodies_are ∙ sym (all_shown (book_at is.reaches.0 s).entries is.word ended.can) ∙ ap (λ (entries : List Entry). shown_sends entries is.word) before_it in
        let lines : lines_of (book_at new.board s).entries ≡ taken_back is.word.standing (raised es.lines is.word) =
        ap (λ (d : Desk). lines_of d.book.entries) is.desk ∙ timed_out_lines is.word.standing (entries_after_hold until (entries_after_word book.entries is.word))
        ∙ ap (λ (ls : List Line). taken_back is.word.standing ls) (gathered_lines book.entries es.lines is.word until was.lines) in
        lanes_gathered (libraries_of old) (before s) at is.items book (book_at new.board s) es (after_revoke es is.word) refl refl
        (last_further es.lines (raised es.lines is.word) (taken_back is.word.standing (raised es.lines is.word)) (last_raised is.word es.lines) (last_taken_back is.word.standing (raised es.lines is.word)))
        (nothing_found es.lines is.word is.items is.finds.stands is.finds.count) was lines
        (λ library sends are. subst (λ (d : Desk). AreSendsOf library (before s) (sends ++ new_sends library book at (bodies_of is.items)) d.book) (sym is.desk)
        (l.timeout library (before s) sends at until is.word (bodies_of is.items) (desk_at old.board s) (ready.books s small).is_book count are))

    taken_back_one : (s at until : ℕ) (old new : LeaseDesk) → TakesBack s at until old new → KeepsTaken old new
    taken_back_one s at until old new is was =
        let happenings = reserves s ∷ times_out s is.word (bodies_of is.items) at until ∷ [] in (
          l.ready before happenings old.board new.board is.reaches was.0,
          one_session s old new (after_takes is.items (after_revoke (engine_at old.seat s) is.word)) (l.goes_on happenings old.board new.board is.reaches).sessions is.seat
              (λ other different. l.sent.desk s other _ old.board new.board different is.others)
              (λ small. taken_here s at until old new is was.0 small (was.1.each s small)) was.1,
        )

    taken_back_from : (library at until s : ℕ) (old new : LeaseDesk) → TakesBackFrom library at until s old new → KeepsTaken old new
    taken_back_from library at until s old new is was = elim is [
      | inl takes ↦ taken_back_one s at until old new takes.1 was
      | inr same ↦ subst Taken (sym same.1) was
    ]

    pub kept : IsKept KeepsTaken
    kept = record {
      itself = λ desk was. was;
      further = λ first second third one two was. two (one was);
      gathers = gathered;
      aside = λ happenings old new all reaches seat was.
          let ran = run_keeps l.sent before happenings old.board new.board all reaches was.0 in
          (ran.0, board_alone old new ran.1 seat was.1);
      publishes = λ s count old new board seat was. (subst (IsReady before) (sym board) was.0, published s count old new board seat was.1);
      joins = l.joins;
    }

    -- a request is answered: a granted session is the library's by one lease more
    replied_by : (library nr s from : ℕ) (old new : LibraryDesk) (notice : Notice) (r : Reply) → 1 ≤ library → (is : Replies library nr s from old new notice) → is.reply ≡ r → AreTaken before old.desk → AreTaken before new.desk
    replied_by library nr s from old new notice (reply.Granted lease start) from_one is granted was =
        let book = book_at old.desk.board s in
        let es = engine_at old.desk.seat s in
        let reply_is : reply_to book.leases (state_of book.entries) library from ≡ reply.Granted lease start = sym is.reply_is ∙ granted in
        let entries : (book_at new.desk.board s).entries ≡ book.entries ++ entry_with library nr from (reply.Granted lease start) ∷ [] =
        ap (λ (b : Book). b.entries) is.book ∙ ap (λ (r : Reply). book.entries ++ entry_with library nr from r ∷ []) reply_is in
        let lines : lines_of (book_at new.desk.board s).entries ≡ lines_of book.entries ++ granted_line library ∷ [] = ap lines_of entries ∙ l.one book.entries (entry_with library nr from (reply.Granted lease start)) in
        let seat : new.desk.seat ≡ with_engine_at old.desk.seat s (after_grant es library) = is.seat ∙ ap (λ (r : Reply). seat_after_reply s library r old.desk.seat) granted in
        one_session s old.desk new.desk (after_grant es library) (l.sent.goes_on (requests s library nr from) old.desk.board new.desk.board is.happens).sessions seat
        (λ other different. l.sent.session s other old.desk.board new.desk.board different is.others)
        (λ small.
        let own = was.each s small in
        record {
          lines = lines ∙ ap (λ (ls : List Line). ls ++ granted_line library ∷ []) own.lines;
          based = own.based;
          granted = λ some. subst (λ (last : Line). 1 ≤ last.library) (sym (l.last no_line es.lines (granted_line library))) from_one;
          lanes = own.lanes;
          taken = λ other other_from_one to_last.
              let lane = own.taken other other_from_one to_last in
              record {
                sends = lane.sends;
                sends_are = subst (AreSendsOf other (before s) lane.sends) (sym is.book) (l.request other (before s) lane.sends library nr from book lane.sends_are);
                bodies = lane.bodies;
              };
        })
        was
    replied_by library nr s from old new notice (reply.Refused why) from_one is refused was =
        let book = book_at old.desk.board s in
        let reply_is : reply_to book.leases (state_of book.entries) library from ≡ reply.Refused why = sym is.reply_is ∙ refused in
        let entries : (book_at new.desk.board s).entries ≡ book.entries ++ entry_with library nr from (reply.Refused why) ∷ [] =
        ap (λ (b : Book). b.entries) is.book ∙ ap (λ (r : Reply). book.entries ++ entry_with library nr from r ∷ []) reply_is in
        let keeps : KeepsSends book (book_at new.desk.board s) = record {
          lines = ap lines_of entries ∙ l.one book.entries (entry_with library nr from (reply.Refused why));
          sends = λ other earlier sends are. subst (AreSendsOf other earlier sends) (sym is.book) (l.request other earlier sends library nr from book are);
        } in
        board_alone old.desk new.desk
        (one_goes_on s old.desk.board new.desk.board (l.sent.goes_on (requests s library nr from) old.desk.board new.desk.board is.happens).sessions keeps
        (λ other different. l.sent.session s other old.desk.board new.desk.board different is.others))
        (is.seat ∙ ap (λ (r : Reply). seat_after_reply s library r old.desk.seat) refused) was

    replied : (library nr s from : ℕ) (old new : LibraryDesk) (notice : Notice) → 1 ≤ library → RepliesTo library nr s from old new notice → KeepsTaken old.desk new.desk
    replied library nr s from old new notice from_one is was = elim is [
      | inl configured ↦ (
        l.sent.ready before (requests s library nr from) old.desk.board new.desk.board configured.1.happens was.0,
        replied_by library nr s from old new notice configured.1.reply from_one configured.1 refl was.1,
      )
      | inr beyond ↦ subst Taken (sym (ap (λ (d : LibraryDesk). d.desk) beyond.1.rest)) was
    ]

    -- one library is served
    same_desk : (old new : LibraryDesk) → new.desk ≡ old.desk → KeepsTaken old.desk new.desk
    same_desk old new same was = subst Taken (sym same) was

    answered_request : (library nr : ℕ) (old new : LibraryDesk) → 1 ≤ library → AnswersRequest library nr old new → KeepsTaken old.desk new.desk
    answered_request library nr old new from_one is was =
        let popped = same_desk old is.popped (ap (λ (d : LibraryDesk). d.desk) is.looks.rest) was in
        let told = replied library nr is.s is.from is.popped is.replied is.notice from_one is.replies popped in
        same_desk is.replied new (ap (λ (d : LibraryDesk). d.desk) is.tells.rest) told

    answered_turn : (library : ℕ) (old new : LibraryDesk) (turn : LibTurn) → 1 ≤ library → Answers library old new turn → KeepsTaken old.desk new.desk
    answered_turn library old new (NoRoom pushed taken) from_one looks was = same_desk old new (ap (λ (d : LibraryDesk). d.desk) looks.rest) was
    answered_turn library old new NoCommand from_one looks was = same_desk old new (ap (λ (d : LibraryDesk). d.desk) looks.rest) was
    answered_turn library old new (Ended finished) from_one looks was = same_desk old new (ap (λ (d : LibraryDesk). d.desk) looks.rest) was
    answered_turn library old new (Answered nr) from_one is was = answered_request library nr old new from_one is was

    expired : (library at until : ℕ) (watch : Watched) (beat : ℕ) (old new : LibraryDesk) → Expires library at until watch beat old new → KeepsTaken old.desk new.desk
    expired library at until watch beat old new is was = elim is [
      | inl silent ↦ each_in_turn (TakesBackFrom library at until) KeepsTaken (λ desk held. held) (λ a b c one two held. two (one held)) (taken_back_from library at until) (length old.desk.board.sessions) old.desk new.desk
          silent.1.taken_back was
      | inr same ↦ same_desk old new (ap (λ (d : LibraryDesk). d.desk) same.1) was
    ]

    pumped_to : (library s : ℕ) (old new : LibraryDesk) → PumpsTo library s old new → KeepsTaken old.desk new.desk
    pumped_to library s old new is was = elim is [
      | inl pumping ↦ same_desk old new (ap (λ (d : LibraryDesk). d.desk) pumping.1.0.rest) was
      | inr same ↦ same_desk old new (ap (λ (d : LibraryDesk). d.desk) same.1) was
    ]

    pub served : (library at until : ℕ) (old new : LibraryDesk) (turn : LibTurn) → 1 ≤ library → Serves library at until old new turn → KeepsTaken old.desk new.desk
    served library at until old new turn from_one is was =
        let board : is.heard.desk.board ≡ old.desk.board = ap (λ (d : LibraryDesk). d.desk.board) is.hears.rest in
        let heard : Taken is.heard.desk = (
          subst (IsReady before) (sym board) was.0,
          same_seat old.desk is.heard.desk board (ap (λ (v : EngineView). v.table) is.hears.seat) (ap (λ (v : EngineView). v.knows.sessions) is.hears.seat) was.1,
        ) in
        let gone = expired library at until old.watch is.beat is.heard is.expired is.expires heard in
        let told = answered_turn library is.expired is.answered turn from_one is.answers gone in
        each_in_turn (PumpsTo library) (λ a b. KeepsTaken a.desk b.desk) (λ d held. held) (λ a b c one two held. two (one held)) (λ s a b. pumped_to library s a b) (length is.answered.desk.board.sessions) is.answered new is.pumps told
