-- One library is served, and what was pushed to each lies within what it holds by its leases.
use Rattle.std.proofs.Common.{◌≡◌, inl, inr, ℕ, zero, suc, ◌+◌, ◌-◌, ◌<◌, ◌≤◌, List, [], ◌∷◌, ◌++◌, length, Some, refl, sym, ap, subst, ◌∙◌, arith}
use Rattle.std.proofs.lemmas.List.Elements.{All-append, All-cons, All-nil, All-push, All-weaker}
use Rattle.std.specs.List.{All}
use Rattle.std.specs.Prelude.{slice_get, slice_set}
use Rattle.catchup_pump.specs.Pump.{message_at, messages_from}
use Rattle.catchup_pump.specs.declared.cursor.Cursor.{Cursor}
use Rattle.engine_end.specs.Meeting.{RingsMeet}
use Rattle.lease_core.specs.Laws.{LinesTellLease, PushedIsLast}
use Rattle.lease_core.specs.Runs.{IsRun}
use Rattle.lease_core.specs.State.{state_of}
use Rattle.lease_core.specs.declared.entry.Entry.{Entry}
use Rattle.lease_core.specs.declared.messages.Command.{Command}
use Rattle.lease_core.specs.declared.messages.Notice.{Notice}
use Rattle.lease_core.specs.declared.messages.Notice.TheVariants.{Granted, Message, Refused}
use Rattle.lease_core.specs.declared.messages.Reply.{Reply}
use Rattle.lease_core.specs.declared.messages.Reply.TheVariants as reply
use Rattle.lease_desk.specs.Desk.{TakesBackFrom, bodies_of, owner_at}
use Rattle.lease_desk.specs.declared.desk.LeaseDesk.{LeaseDesk}
use Rattle.library_clock.specs.Watched.{Watched}
use Rattle.library_desk.specs.Serving.{Answers, AnswersRequest, Expires, PumpsTo, RepliesTo, Serves, TellsTo, cursor_at, notice_of}
use Rattle.library_desk.specs.declared.desk.LibraryDesk.{LibraryDesk}
use Rattle.library_desk.specs.declared.ends.EngineEnds.{EngineEnds}
use Rattle.library_desk.specs.declared.serving.LibTurn.{LibTurn}
use Rattle.library_desk.specs.declared.serving.LibTurn.TheVariants.{Answered, Ended, NoCommand, NoRoom}
use Rattle.engine_laws.specs.libraries.Feeds.{AreFed, leases_at}
use Rattle.engine_laws.specs.libraries.Going.{GoingLaws}
use Rattle.engine_laws.specs.libraries.Spans.{AllLieWithin, IsBelowEnd, LiesWithin}
use Rattle.engine_laws.proofs.library_lemmas.Ends.{ends_change}
use Rattle.engine_laws.proofs.library_lemmas.Fed as fed
use Rattle.engine_laws.proofs.library_lemmas.Going.{Keeps, gathering_keeps, keeps_further, keeps_itself, run_keeps, taking_back_keeps}
use Rattle.engine_laws.proofs.library_lemmas.Holdings.{JournalLaws, below_further, owned_below}
use Rattle.engine_laws.proofs.Walking.{each_in_turn, small_in_turn}
use Rattle.engine_laws.proofs.library_lemmas.Steps.{IsKept}
use Rattle.ring_links.specs.Ends.{HeadView, TailView}
use Rattle.switchboard.specs.Board.{Board, book_at}
use Rattle.switchboard.specs.Going.{GoesOnTo}
use Rattle.switchboard.specs.Happenings.{Happening, Happens, Reaches, requests, reserves, shows, times_out}
use Rattle.switchboard.specs.Ready.{IsReady}

-- what the laws of journals and of boards say
pub record Laws : Type 0 where
  pub going : GoingLaws
  pub journals : JournalLaws
  pub lease_told : LinesTellLease
  pub pushed_last : PushedIsLast
  pub itself : (board : Board) → GoesOnTo board board
  pub further : (first second third : Board) → GoesOnTo first second → GoesOnTo second third → GoesOnTo first third
  pub joins : (first second : List Happening) (old between new : Board) → Reaches first old between → Reaches second between new → Reaches (first ++ second) old new
  pub ready : (before : ℕ → List Entry) (happening : Happening) (old new : Board) → Happens happening old new → IsReady before old → IsReady before new
  pub runs_ready : (before : ℕ → List Entry) (happenings : List Happening) (old new : Board) → Reaches happenings old new → IsReady before old → IsReady before new

-- one library's ends were looked at, and nothing was pushed
looked_at : (library : ℕ) (old new : LibraryDesk) (b a : EngineEnds) → 1 ≤ library → slice_get old.ends.items (library - 1) ≡ Some b → a.tail.pushed ≡ b.tail.pushed → new.ends.items ≡ slice_set old.ends.items (library - 1) a
    → new.desk.board ≡ old.desk.board → AllLieWithin old → AllLieWithin new
looked_at library old new b a from_one found pushed ends board was =
    subst (λ (now : Board). (other : ℕ) (e : EngineEnds) → 1 ≤ other → slice_get new.ends.items (other - 1) ≡ Some e → All (LiesWithin now other) e.tail.pushed) (sym board)
    (ends_change (λ other e. All (LiesWithin old.desk.board other) e.tail.pushed) old.ends.items new.ends.items library b a from_one found ends
    (λ other e different other_from_one has. was other e other_from_one has)
    (subst (λ ns. All (LiesWithin old.desk.board library) ns) (sym pushed) (was library b from_one found)))

-- the engine and a library meet
pub met : (library : ℕ) (old new : LibraryDesk) (tail_old tail_new : TailView Command) (head_old head_new : HeadView Notice) → 1 ≤ library → RingsMeet library old new tail_old tail_new head_old head_new
    → new ≡ record old { desk = record (old.desk) { seat = new.desk.seat }; ends = new.ends } → AllLieWithin old → AllLieWithin new
met library old new tail_old tail_new head_old head_new from_one rings rest was =
    looked_at library old new rings.before rings.after from_one rings.found (ap (λ t. t.pushed) rings.notices.tail) rings.ends (ap (λ (d : LibraryDesk). d.desk.board) rest) was

-- a notice is pushed
told_to : (library : ℕ) (notice : Notice) (old new : LibraryDesk) → 1 ≤ library → LiesWithin old.desk.board library notice → TellsTo library notice old new → AllLieWithin old → AllLieWithin new
told_to library notice old new from_one lies tells was =
    let board : new.desk.board ≡ old.desk.board = ap (λ (d : LibraryDesk). d.desk.board) tells.rest in
    subst (λ (now : Board). (other : ℕ) (e : EngineEnds) → 1 ≤ other → slice_get new.ends.items (other - 1) ≡ Some e → All (LiesWithin now other) e.tail.pushed) (sym board)
    (ends_change (λ other e. All (LiesWithin old.desk.board other) e.tail.pushed) old.ends.items new.ends.items library tells.before tells.after from_one tells.found tells.ends
    (λ other e different other_from_one has. was other e other_from_one has)
    (subst (λ ns. All (LiesWithin old.desk.board library) ns) (sym tells.tells.pushed)
    (All-push (LiesWithin old.desk.board library) tells.before.tail.pushed notice (was library tells.before from_one tells.found) lies)))

-- a reply is no message
reply_lies : (board : Board) (library nr s from : ℕ) (r : Reply) → LiesWithin board library (notice_of nr s from r)
reply_lies board library nr s from (reply.Granted lease start) = tt
reply_lies board library nr s from (reply.Refused why) = tt

module _ (l : Laws) where
  -- what was pushed lies within as sessions go on
  lies_further : (library : ℕ) (old new : Board) → GoesOnTo old new → (n : Notice) → LiesWithin old library n → LiesWithin new library n
  lies_further library old new goes (Message s lease pos bytes) is = λ limit run.
      let books = goes.books s in
      let entries = (book_at old s).entries in
      let whole : IsRun limit (entries ++ books.added) = subst (IsRun limit) books.entries_are run in
      let first : IsRun limit entries = ((l.journals.runs limit entries books.added).0 whole).0 in
      subst (λ es. IsBelowEnd es library lease pos) (sym books.entries_are) (below_further l.journals limit library lease pos entries books.added whole (is limit first))
  lies_further library old new goes (Granted nr s lease from start) is = is
  lies_further library old new goes (Refused nr s why) is = is

  pub boards_go_on : (old new : LibraryDesk) → GoesOnTo old.desk.board new.desk.board → new.ends.items ≡ old.ends.items → AllLieWithin old → AllLieWithin new
  boards_go_on old new goes ends was = λ library e from_one has.
      All-weaker (LiesWithin old.desk.board library) (LiesWithin new.desk.board library) (lies_further library old.desk.board new.desk.board goes) e.tail.pushed
      (was library e from_one (subst (λ (es : List EngineEnds). slice_get es (library - 1) ≡ Some e) ends has))

  -- the messages from a session's cursor on are of the lease by which its library has it
  module _ (board : Board) (library s : ℕ) (c : Cursor) (log : List (List ℕ)) (from_one : 1 ≤ library) (session : c.s ≡ s) (lease : c.lease ≡ leases_at board s) (owned : owner_at board s ≡ library) where
    one_lies : (n : ℕ) → c.at + n < (state_of (book_at board s).entries).inbound → LiesWithin board library (message_at c log n)
    one_lies n below =
        let entries = (book_at board s).entries in
        subst (λ k. (limit : ℕ) → IsRun limit (book_at board k).entries → IsBelowEnd (book_at board k).entries library c.lease (c.at + n)) (sym session)
        (λ limit run. subst (λ last. IsBelowEnd entries library last (c.at + n)) (sym (lease ∙ l.lease_told entries)) (owned_below l.journals limit entries library (c.at + n) run owned from_one below))

    messages_lie : (n : ℕ) → c.at + n ≤ (state_of (book_at board s).entries).inbound → All (LiesWithin board library) (messages_from c log n)
    messages_lie zero within = All-nil (LiesWithin board library)
    messages_lie (suc n) within =
        All-append (LiesWithin board library) (messages_from c log n) (message_at c log n ∷ []) (messages_lie n (omega arith))
        (All-cons (LiesWithin board library) (message_at c log n) [] (one_lies n (omega arith)) (All-nil (LiesWithin board library)))

  module _ (before : ℕ → List Entry) where
    -- the board is ready, and what was pushed is in order and lies within
    abbrev pub Held : LibraryDesk → Type 0
    Held d = IsReady before d.desk.board × (AreFed d × AllLieWithin d)

    -- one board becomes another so that it stays ready, and its sessions go on
    pub record Goes (old new : Board) : Type 0 where
      pub ready : IsReady before old → IsReady before new
      pub keeps : Keeps old new
      pub on : GoesOnTo old new

    goes_itself : (board : Board) → Goes board board
    goes_itself board = record { ready = λ ready. ready; keeps = keeps_itself board; on = l.itself board }

    goes_further : (first second third : Board) → Goes first second → Goes second third → Goes first third
    goes_further first second third one two = record {
      ready = λ ready. two.ready (one.ready ready);
      keeps = keeps_further first second third one.keeps two.keeps;
      on = l.further first second third one.on two.on;
    }

    abbrev pub GoesDesk : LeaseDesk → LeaseDesk → Type 0
    GoesDesk old new = Goes old.board new.board

    pub desk_goes_on : (old new : LibraryDesk) → GoesDesk old.desk new.desk → new ≡ record old { desk = new.desk } → Held old → Held new
    desk_goes_on old new goes rest was =
        let ends : new.ends.items ≡ old.ends.items = ap (λ (d : LibraryDesk). d.ends.items) rest in
        (goes.ready was.0, (fed.board_goes_on old new goes.keeps (ap (λ (d : LibraryDesk). d.cursors.items) rest) ends was.1.0, boards_go_on old new goes.on ends was.1.1))

    pub kept : IsKept GoesDesk
    kept = record {
      itself = λ desk. goes_itself desk.board;
      further = λ first second third. goes_further first.board second.board third.board;
      gathers = λ s at until old new is. record {
        ready = l.runs_ready before (reserves s ∷ shows s is.word (bodies_of is.items) at until ∷ []) old.board new.board is.reaches;
        keeps = gathering_keeps l.going s at until old new is;
        on = l.going.runs (reserves s ∷ shows s is.word (bodies_of is.items) at until ∷ []) old.board new.board is.reaches;
      };
      aside = λ happenings old new all reaches seat. record {
        ready = l.runs_ready before happenings old.board new.board reaches;
        keeps = run_keeps l.going happenings old.board new.board all reaches;
        on = l.going.runs happenings old.board new.board reaches;
      };
      publishes = λ s count old new board seat. subst (Goes old.board) (sym board) (goes_itself old.board);
      joins = l.joins;
    }

    taken_back_from : (library at until s : ℕ) (old new : LeaseDesk) → TakesBackFrom library at until s old new → GoesDesk old new
    taken_back_from library at until s old new is = elim is [
      | inl takes ↦ (
          let back = takes.1 in
          let happenings = reserves s ∷ times_out s back.word (bodies_of back.items) at until ∷ [] in
          record {
            ready = l.runs_ready before happenings old.board new.board back.reaches;
            keeps = taking_back_keeps l.going s at until old new back;
            on = l.going.runs happenings old.board new.board back.reaches;
          })
      | inr same ↦ subst (λ (d : LeaseDesk). Goes old.board d.board) (sym same.1) (goes_itself old.board)
    ]

    expired : (library at until : ℕ) (watch : Watched) (beat : ℕ) (old new : LibraryDesk) → Expires library at until watch beat old new → Held old → Held new
    expired library at until watch beat old new is was = elim is [
      | inl silent ↦ (
          let back = silent.1 in
          desk_goes_on old new (each_in_turn (TakesBackFrom library at until) GoesDesk (λ d. goes_itself d.board) (λ a b c. goes_further a.board b.board c.board) (taken_back_from library at until)
          (length old.desk.board.sessions) old.desk new.desk back.taken_back) back.rest was)
      | inr same ↦ subst Held (sym same.1) was
    ]

    -- a reply was given
    replied : (library nr s from : ℕ) (old new : LibraryDesk) (notice : Notice) → RepliesTo library nr s from old new notice → IsReady before old.desk.board → AllLieWithin old
        → IsReady before new.desk.board × (AllLieWithin new × LiesWithin new.desk.board library notice)
    replied library nr s from old new notice is ready was = elim is [
      | inl configured ↦ (
          let replies = configured.1 in (
            l.ready before (requests s library nr from) old.desk.board new.desk.board replies.happens ready,
            (
              boards_go_on old new (l.going.happens (requests s library nr from) old.desk.board new.desk.board replies.happens) (ap (λ (d : LibraryDesk). d.ends.items) replies.rest) was,
              subst (LiesWithin new.desk.board library) (sym replies.notice_is) (reply_lies new.desk.board library nr s from replies.reply),
            ),
          ))
      | inr beyond ↦ (
          let strays = beyond.1 in
          let board : new.desk.board ≡ old.desk.board = ap (λ (d : LibraryDesk). d.desk.board) strays.rest in (
            subst (IsReady before) (sym board) ready,
            (
              boards_go_on old new (subst (GoesOnTo old.desk.board) (sym board) (l.itself old.desk.board)) (ap (λ (d : LibraryDesk). d.ends.items) strays.rest) was,
              subst (LiesWithin new.desk.board library) (sym strays.notice_is) tt,
            ),
          ))
    ]

    -- what is said of a library's command, beside the order of what is pushed
    abbrev Beside : LibraryDesk → Type 0
    Beside d = IsReady before d.desk.board × AllLieWithin d

    looked : (library : ℕ) (old new : LibraryDesk) (b a : EngineEnds) → 1 ≤ library → slice_get old.ends.items (library - 1) ≡ Some b → a.tail.pushed ≡ b.tail.pushed → new.ends.items ≡ slice_set old.ends.items (library - 1) a
        → new ≡ record old { ends = new.ends } → Beside old → Beside new
    looked library old new b a from_one found pushed ends rest was =
        let board : new.desk.board ≡ old.desk.board = ap (λ (d : LibraryDesk). d.desk.board) rest in
        (subst (IsReady before) (sym board) was.0, looked_at library old new b a from_one found pushed ends board was.1)

    answered_request : (library nr : ℕ) (old new : LibraryDesk) → 1 ≤ library → AnswersRequest library nr old new → Beside old → Beside new
    answered_request library nr old new from_one is was =
        let looks = is.looks in
        let popped = looked library old is.popped looks.before looks.after from_one looks.found looks.looks.pushed looks.ends looks.rest was in
        let told = replied library nr is.s is.from is.popped is.replied is.notice is.replies popped.0 popped.1 in
        let board : new.desk.board ≡ is.replied.desk.board = ap (λ (d : LibraryDesk). d.desk.board) is.tells.rest in
        (subst (IsReady before) (sym board) told.0, told_to library is.notice is.replied new from_one told.1.1 is.tells told.1.0)

    answered_turn : (library : ℕ) (old new : LibraryDesk) (turn : LibTurn) → 1 ≤ library → Answers library old new turn → Beside old → Beside new
    answered_turn library old new (NoRoom pushed taken) from_one looks was = looked library old new looks.before looks.after from_one looks.found looks.looks.pushed looks.ends looks.rest was
    answered_turn library old new NoCommand from_one looks was = looked library old new looks.before looks.after from_one looks.found looks.looks.pushed looks.ends looks.rest was
    answered_turn library old new (Ended finished) from_one looks was = looked library old new looks.before looks.after from_one looks.found looks.looks.pushed looks.ends looks.rest was
    answered_turn library old new (Answered nr) from_one is was = answered_request library nr old new from_one is was

    -- sessions go on behind a pump
    abbrev HeldOf : ℕ → LibraryDesk → LibraryDesk → Type 0
    HeldOf count a b = Held a → length a.desk.board.sessions ≡ count → Held b × (length b.desk.board.sessions ≡ count)

    pumped_lies : (library s : ℕ) (old new : LibraryDesk) → 1 ≤ library → s < length old.desk.board.sessions → PumpsTo library s old new → Held old → AllLieWithin new
    pumped_lies library s old new from_one small is was = elim is [
      | inl pumping ↦ (
          let pumps = pumping.1.0 in
          let board = old.desk.board in
          let c = cursor_at old.cursors.items s in
          let n = (cursor_at new.cursors.items s).at - c.at in
          let from = (was.1.0.fed library pumps.before from_one pumps.found).goes_on s small pumping.0 in
          let logged : length (book_at board s).inbound ≡ (state_of (book_at board s).entries).inbound = (was.0.books s small).is_book.inbound in
          let forward = pumps.forward in
          let within = pumps.within in
          subst (λ (now : Board). (other : ℕ) (e : EngineEnds) → 1 ≤ other → slice_get new.ends.items (other - 1) ≡ Some e → All (LiesWithin now other) e.tail.pushed) (sym (ap (λ (d : LibraryDesk). d.desk.board) pumps.rest))
          (ends_change (λ other e. All (LiesWithin board other) e.tail.pushed) old.ends.items new.ends.items library pumps.before pumps.after from_one pumps.found pumps.ends
          (λ other e different other_from_one has. was.1.1 other e other_from_one has)
          (subst (λ ns. All (LiesWithin board library) ns) (sym pumps.pushed)
          (All-append (LiesWithin board library) pumps.before.tail.pushed (messages_from c (book_at board s).inbound n) (was.1.1 library pumps.before from_one pumps.found)
          (messages_lie board library s c (book_at board s).inbound from_one from.session from.lease pumping.0 n (omega arith))))))
      | inr same ↦ subst AllLieWithin (sym same.1) was.1.1
    ]

    pumped_board : (library s : ℕ) (old new : LibraryDesk) → PumpsTo library s old new → new.desk.board ≡ old.desk.board
    pumped_board library s old new is = elim is [
      | inl pumping ↦ ap (λ (d : LibraryDesk). d.desk.board) pumping.1.0.rest
      | inr same ↦ ap (λ (d : LibraryDesk). d.desk.board) same.1
    ]

    pumped_to : (library s count : ℕ) (old new : LibraryDesk) → 1 ≤ library → s < count → PumpsTo library s old new → HeldOf count old new
    pumped_to library s count old new from_one small is was counted =
        let next = fed.pumped_to library s count old new from_one small is was.1.0 counted in
        ((subst (IsReady before) (sym (pumped_board library s old new is)) was.0, (next.0, pumped_lies library s old new from_one (omega arith) is was)), next.1)

    pub served : (library at until : ℕ) (old new : LibraryDesk) (turn : LibTurn) → 1 ≤ library → Serves library at until old new turn → Held old → Held new
    served library at until old new turn from_one is was =
        let heard : Held is.heard = (
          subst (IsReady before) (sym (ap (λ (d : LibraryDesk). d.desk.board) is.hears.rest)) was.0,
          (subst AreFed (sym is.hears.rest) (record { cursors = was.1.0.cursors; fed = was.1.0.fed }), subst AllLieWithin (sym is.hears.rest) was.1.1),
        ) in
        let gone = expired library at until old.watch is.beat is.heard is.expired is.expires heard in
        let beside = answered_turn library is.expired is.answered turn from_one is.answers (gone.0, gone.1.1) in
        let told : Held is.answered = (beside.0, (fed.answered_turn l.going l.lease_told l.pushed_last library is.expired is.answered turn from_one is.answers gone.1.0, beside.1)) in
        let count = length is.answered.desk.board.sessions in
        (small_in_turn (PumpsTo library) (HeldOf count) (λ d held counted. (held, counted)) (λ a b c one two held counted. two (one held counted).0 (one held counted).1) count
        (λ s a b small pumps. pumped_to library s count a b from_one small pumps) count (omega arith) is.answered new is.pumps told refl).0
