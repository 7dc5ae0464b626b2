-- One library is served, and all requests stay answered.
use Rattle.std.proofs.Common.{◌≡◌, ◌≢◌, inl, inr, ℕ, ◌-◌, ◌<◌, ◌≤◌, true, List, [], ◌∷◌, ◌++◌, length, Some, refl, sym, ap, subst, ◌∙◌, arith}
use Rattle.std.proofs.lemmas.Bool.{cases_eq}
use Rattle.std.proofs.lemmas.List.{append-nil, append_assoc, length-set}
use Rattle.std.proofs.lemmas.Option.{same_Some, slice_get_within}
use Rattle.std.specs.List.{flat_map}
use Rattle.std.specs.Prelude.{slice_get, slice_set}
use Rattle.engine_end.specs.Meeting.{RingsMeet}
use Rattle.lease_core.specs.State.{state_of}
use Rattle.lease_core.specs.Steps.{entry_with, reply_to}
use Rattle.lease_core.specs.declared.entry.Entry.{Entry}
use Rattle.lease_core.specs.declared.entry.Why.TheVariants.{UnknownSession}
use Rattle.lease_core.specs.declared.messages.Command.{Command}
use Rattle.lease_core.specs.declared.messages.Command.TheVariants.{Done, Request}
use Rattle.lease_core.specs.declared.messages.Notice.{Notice}
use Rattle.lease_core.specs.declared.messages.Notice.TheVariants.{Refused}
use Rattle.lease_core.specs.declared.messages.Reply.{Reply}
use Rattle.lease_desk.specs.Desk.{TakesBack, TakesBackFrom, bodies_of}
use Rattle.lease_desk.specs.declared.desk.LeaseDesk.{LeaseDesk}
use Rattle.library_clock.specs.Watched.{Watched}
use Rattle.library_desk.specs.Serving.{Answers as AnswersOf, AnswersRequest, Expires, PumpsTo, Replies, RepliesTo, Serves, Strays, cursor_at}
use Rattle.library_desk.specs.declared.desk.LibraryDesk.{LibraryDesk}
use Rattle.library_desk.specs.declared.desk.Stray.{Stray}
use Rattle.library_desk.specs.declared.ends.EngineEnds.{EngineEnds}
use Rattle.library_desk.specs.declared.serving.LibTurn.{LibTurn}
use Rattle.library_desk.specs.declared.serving.LibTurn.TheVariants.{Answered, Ended, NoCommand, NoRoom}
use Rattle.engine_laws.specs.libraries.Replies.{AllAreAnswered, AreAnswered, Ask, IsAnswered, KeepsReplies, answered_by, asked_by, is_unasked, replies_told, reply_of, reply_told, stray_reply, stray_told}
use Rattle.engine_laws.proofs.library_lemmas.Ends.{ends_change, get_set_other, get_set_same}
use Rattle.engine_laws.proofs.Walking.{each_in_turn}
use Rattle.engine_laws.proofs.library_lemmas.Told.{Answers, SameNotices, messages_more, one_more, refuses, replies, same_notices, stray_others, stray_own, told_others, told_own}
use Rattle.ring_links.specs.Ends.{HeadView, TailView}
use Rattle.session_book.specs.Book.{Book}
use Rattle.switchboard.specs.Board.{Board, book_at, session_at, with_session}
use Rattle.switchboard.specs.Happenings.{Happening, Happens, reserves, times_out}

-- the journals of the one tell the replies of the other
abbrev pub RepliesStay : LeaseDesk → LeaseDesk → Type 0
RepliesStay old new = KeepsReplies old.board new.board

pub unchanged : (board : Board) → KeepsReplies board board
unchanged board = record { sessions = refl; told = λ library s. refl }

pub joined : (first second third : Board) → KeepsReplies first second → KeepsReplies second third → KeepsReplies first third
joined first second third one two = record { sessions = two.sessions ∙ one.sessions; told = λ library s. two.told library s ∙ one.told library s }

-- the replies that a board tells
abbrev told_at : Board → ℕ → ℕ → List Notice
told_at board library s = replies_told library s (book_at board s).entries

-- What a request makes of sessions and strays, and the notice that answers it: its session's journal, or the strays, tell that, and nothing else does.
record AsksFor (library nr s : ℕ) (notice : Notice) (old new : LibraryDesk) : Type 0 where
  sessions : length new.desk.board.sessions ≡ length old.desk.board.sessions
  own : (j : ℕ) → j < length old.desk.board.sessions → told_at new.desk.board library j ≡ told_at old.desk.board library j ++ reply_of j notice
  others : (other j : ℕ) → other ≢ library → told_at new.desk.board other j ≡ told_at old.desk.board other j
  strays_own : flat_map (stray_told library) new.strays.items ≡ flat_map (stray_told library) old.strays.items ++ stray_reply (length old.desk.board.sessions) notice
  strays_others : (other : ℕ) → other ≢ library → flat_map (stray_told other) new.strays.items ≡ flat_map (stray_told other) old.strays.items
  ends : new.ends.items ≡ old.ends.items
  answered : answered_by notice ≡ record { nr = nr; s = s } ∷ []

count_stays : (s : ℕ) (old new : Board) → new ≡ with_session s (session_at new s) old → length new.sessions ≡ length old.sessions
count_stays s old new same = ap (λ (b : Board). length b.sessions) same ∙ length-set old.sessions s (session_at new s)

module _ (others_stay : (s other : ℕ) (old new : Board) → other ≢ s → new ≡ with_session s (session_at new s) old → book_at new other ≡ book_at old other) where
  asked_of_session : (library nr s from : ℕ) (old new : LibraryDesk) (notice : Notice) → s < length old.desk.board.sessions → Replies library nr s from old new notice → AsksFor library nr s notice old new
  asked_of_session library nr s from old new notice small is =
      let before = book_at old.desk.board s in
      let entry = entry_with library nr from (reply_to before.leases (state_of before.entries) library from) in
      let answer : Answers nr s notice = subst (Answers nr s) (sym is.notice_is) (replies nr s from is.reply) in
      let entries : (other : ℕ) → told_at new.desk.board other s ≡ told_at old.desk.board other s ++ reply_told other s entry =
      λ other. ap (λ (b : Book). replies_told other s b.entries) is.book ∙ one_more (reply_told other s) before.entries entry in
      let same : (other j : ℕ) → j ≢ s → told_at new.desk.board other j ≡ told_at old.desk.board other j =
      λ other j different. ap (λ (b : Book). replies_told other j b.entries) (others_stay s j old.desk.board new.desk.board different is.others) in
      record {
        sessions = count_stays s old.desk.board new.desk.board is.others;
        own = λ j within. elim (cases_eq j s) [
          | inl here ↦ subst (λ k. told_at new.desk.board library k ≡ told_at old.desk.board library k ++ reply_of k notice) (sym here)
              (entries library ∙ ap (λ (ns : List Notice). told_at old.desk.board library s ++ ns)
              (ap (λ (r : Reply). reply_told library s (entry_with library nr from r)) (sym is.reply_is) ∙ told_own library nr s from is.reply ∙ ap (λ (n : Notice). n ∷ []) (sym is.notice_is) ∙ sym answer.own))
          | inr different ↦ same library j different ∙ sym (append-nil (told_at old.desk.board library j)) ∙ ap (λ (ns : List Notice). told_at old.desk.board library j ++ ns) (sym (answer.others j (λ e. different (sym e))))
        ];
        others = λ other j different. elim (cases_eq j s) [
          | inl here ↦ subst (λ k. told_at new.desk.board other k ≡ told_at old.desk.board other k) (sym here)
              (entries other ∙ ap (λ (ns : List Notice). told_at old.desk.board other s ++ ns)
              (ap (λ (r : Reply). reply_told other s (entry_with library nr from r)) (sym is.reply_is) ∙ told_others library other nr s from is.reply (λ e. different (sym e))) ∙ append-nil (told_at old.desk.board other s))
          | inr elsewhere ↦ same other j elsewhere
        ];
        strays_own = ap (λ (d : LibraryDesk). flat_map (stray_told library) d.strays.items) is.rest ∙ sym (append-nil (flat_map (stray_told library) old.strays.items))
            ∙ ap (λ (ns : List Notice). flat_map (stray_told library) old.strays.items ++ ns) (sym (answer.within (length old.desk.board.sessions) small));
        strays_others = λ other different. ap (λ (d : LibraryDesk). flat_map (stray_told other) d.strays.items) is.rest;
        ends = ap (λ (d : LibraryDesk). d.ends.items) is.rest;
        answered = answer.answered;
      }

  asked_beyond : (library nr s : ℕ) (old new : LibraryDesk) (notice : Notice) → length old.desk.board.sessions ≤ s → Strays library nr s old new notice → AsksFor library nr s notice old new
  asked_beyond library nr s old new notice least is =
      let answer : Answers nr s notice = subst (Answers nr s) (sym is.notice_is) (refuses nr s (UnknownSession s)) in
      let stray : Stray = record { library = library; nr = nr; s = s } in
      let board : new.desk.board ≡ old.desk.board = ap (λ (d : LibraryDesk). d.desk.board) is.rest in
      record {
        sessions = ap (λ (b : Board). length b.sessions) board;
        own = λ j within. ap (λ (b : Board). told_at b library j) board ∙ sym (append-nil (told_at old.desk.board library j))
            ∙ ap (λ (ns : List Notice). told_at old.desk.board library j ++ ns) (sym (answer.others j (λ same. absurd (omega arith))));
        others = λ other j different. ap (λ (b : Board). told_at b other j) board;
        strays_own = ap (flat_map (stray_told library)) is.stray ∙ one_more (stray_told library) old.strays.items stray
            ∙ ap (λ (ns : List Notice). flat_map (stray_told library) old.strays.items ++ ns)
            (stray_own library (Refused nr s (UnknownSession s) ∷ []) ∙ ap (λ (n : Notice). n ∷ []) (sym is.notice_is) ∙ sym (answer.beyond (length old.desk.board.sessions) least));
        strays_others = λ other different. ap (flat_map (stray_told other)) is.stray ∙ one_more (stray_told other) old.strays.items stray
            ∙ ap (λ (ns : List Notice). flat_map (stray_told other) old.strays.items ++ ns) (stray_others library other (Refused nr s (UnknownSession s) ∷ []) (λ e. different (sym e)))
            ∙ append-nil (flat_map (stray_told other) old.strays.items);
        ends = ap (λ (d : LibraryDesk). d.ends.items) is.rest;
        answered = answer.answered;
      }

  asked : (library nr s from : ℕ) (old new : LibraryDesk) (notice : Notice) → RepliesTo library nr s from old new notice → AsksFor library nr s notice old new
  asked library nr s from old new notice is = elim is [
    | inl configured ↦ asked_of_session library nr s from old new notice configured.0 configured.1
    | inr beyond ↦ asked_beyond library nr s old new notice beyond.0 beyond.1
  ]

  module _ (before : ℕ → List Entry) where
    -- the ends of a library at which as much was asked and answered
    quiet_ends : (board : Board) (strays : List Stray) (library : ℕ) (b a : EngineEnds) → SameNotices b.tail.pushed a.tail.pushed → flat_map asked_by a.head.popped ≡ flat_map asked_by b.head.popped
        → IsAnswered before board strays library b → IsAnswered before board strays library a
    quiet_ends board strays library b a same asks was = record {
      each = same.answered ∙ was.each ∙ sym asks;
      told = λ s small. was.told s small ∙ ap (λ (ns : List Notice). replies_told library s (before s) ++ ns) (sym (same.of_session s));
      strays_are = was.strays_are ∙ sym (same.stray (length board.sessions));
    }

    -- sessions go on without a request
    pub board_goes_on : (old new : LibraryDesk) → KeepsReplies old.desk.board new.desk.board → new.strays.items ≡ old.strays.items → new.ends.items ≡ old.ends.items → AreAnswered before old → AreAnswered before new
    board_goes_on old new keeps strays ends was = λ library e from_one has.
        let answered = was library e from_one (subst (λ (es : List EngineEnds). slice_get es (library - 1) ≡ Some e) ends has) in
        record {
          each = answered.each;
          told = λ s small. keeps.told library s ∙ answered.told s (subst (λ n. s < n) keeps.sessions small);
          strays_are = ap (flat_map (stray_told library)) strays ∙ answered.strays_are ∙ ap (λ n. flat_map (stray_reply n) e.tail.pushed) (sym keeps.sessions);
        }

    -- one library's ends were looked at, or a command that is no request was popped
    looked_at : (library : ℕ) (old new : LibraryDesk) (b a : EngineEnds) → 1 ≤ library → slice_get old.ends.items (library - 1) ≡ Some b → a.tail.pushed ≡ b.tail.pushed → new.ends.items ≡ slice_set old.ends.items (library - 1) a
        → new ≡ record old { ends = new.ends } → flat_map asked_by a.head.popped ≡ flat_map asked_by b.head.popped → AreAnswered before old → AreAnswered before new
    looked_at library old new b a from_one found pushed ends rest asks was =
        let own = was library b from_one found in
        let quiet = quiet_ends old.desk.board old.strays.items library b a (same_notices b.tail.pushed a.tail.pushed pushed) asks own in
        subst (λ (d : LibraryDesk). AllAreAnswered before d.desk.board d.strays.items new.ends.items) (sym rest)
        (ends_change (IsAnswered before old.desk.board old.strays.items) old.ends.items new.ends.items library b a from_one found ends (λ other e different other_from_one has. was other e other_from_one has) quiet)

    pumped_to : (library s : ℕ) (old new : LibraryDesk) → 1 ≤ library → PumpsTo library s old new → AreAnswered before old → AreAnswered before new
    pumped_to library s old new from_one is was = elim is [
      | inl pumping ↦ (
          let pumps = pumping.1.0 in
          let own = was library pumps.before from_one pumps.found in
          let quiet = quiet_ends old.desk.board old.strays.items library pumps.before pumps.after (messages_more pumps.before.tail.pushed pumps.after.tail.pushed (cursor_at old.cursors.items s) (book_at old.desk.board s).inbound
          ((cursor_at new.cursors.items s).at - (cursor_at old.cursors.items s).at) pumps.pushed)
          (ap (λ h. flat_map asked_by h.popped) pumps.head) own in
          subst (λ (d : LibraryDesk). AllAreAnswered before d.desk.board d.strays.items new.ends.items) (sym pumps.rest)
          (ends_change (IsAnswered before old.desk.board old.strays.items) old.ends.items new.ends.items library pumps.before pumps.after from_one pumps.found pumps.ends (λ other e different other_from_one has. was other e other_from_one has) quiet))
      | inr same ↦ subst (AreAnswered before) (sym same.1) was
    ]

    answered_request : (library nr : ℕ) (old new : LibraryDesk) → 1 ≤ library → AnswersRequest library nr old new → AreAnswered before old → AreAnswered before new
    answered_request library nr old new from_one is was =
        let looks = is.looks in
        let tells = is.tells in
        let asks = asked library nr is.s is.from is.popped is.replied is.notice is.replies in
        let b = looks.before in
        let a = tells.after in
        let own = was library b from_one looks.found in
        let board : is.popped.desk.board ≡ old.desk.board = ap (λ (d : LibraryDesk). d.desk.board) looks.rest in
        let strays : is.popped.strays.items ≡ old.strays.items = ap (λ (d : LibraryDesk). d.strays.items) looks.rest in
        let ends : is.replied.ends.items ≡ slice_set old.ends.items (library - 1) looks.after = asks.ends ∙ looks.ends in
        let there = slice_get_within old.ends.items (library - 1) b looks.found in
        let between : tells.before ≡ looks.after =
        same_Some tells.before looks.after (sym tells.found ∙ ap (λ (es : List EngineEnds). slice_get es (library - 1)) ends ∙ get_set_same old.ends.items (library - 1) looks.after there) in
        let pushed : a.tail.pushed ≡ b.tail.pushed ++ is.notice ∷ [] =
        tells.tells.pushed ∙ ap (λ (e : EngineEnds). e.tail.pushed ++ is.notice ∷ []) between ∙ ap (λ (ns : List Notice). ns ++ is.notice ∷ []) looks.looks.pushed in
        let popped : a.head.popped ≡ b.head.popped ++ Request nr is.s is.from ∷ [] = ap (λ h. h.popped) tells.tells.head ∙ ap (λ (e : EngineEnds). e.head.popped) between ∙ looks.finds.1 in
        let count : length is.replied.desk.board.sessions ≡ length old.desk.board.sessions = asks.sessions ∙ ap (λ (c : Board). length c.sessions) board in
        let now : IsAnswered before is.replied.desk.board is.replied.strays.items library a = record {
          each = ap (flat_map answered_by) pushed ∙ one_more answered_by b.tail.pushed is.notice ∙ ap (λ (xs : List Ask). xs ++ answered_by is.notice) own.each ∙ ap (λ (xs : List Ask). flat_map asked_by b.head.popped ++ xs) asks.answered
              ∙ sym (one_more asked_by b.head.popped (Request nr is.s is.from)) ∙ sym (ap (flat_map asked_by) popped);
          told = λ j small. asks.own j (subst (λ n. j < n) asks.sessions small) ∙ ap (λ (c : Board). told_at c library j ++ reply_of j is.notice) board
              ∙ ap (λ (ns : List Notice). ns ++ reply_of j is.notice) (own.told j (subst (λ n. j < n) count small))
              ∙ append_assoc (replies_told library j (before j)) (flat_map (reply_of j) b.tail.pushed) (reply_of j is.notice)
              ∙ ap (λ (ns : List Notice). replies_told library j (before j) ++ ns) (sym (one_more (reply_of j) b.tail.pushed is.notice) ∙ sym (ap (flat_map (reply_of j)) pushed));
          strays_are = asks.strays_own ∙ ap (λ (ss : List Stray). flat_map (stray_told library) ss ++ stray_reply (length is.popped.desk.board.sessions) is.notice) strays
              ∙ ap (λ (c : Board). flat_map (stray_told library) old.strays.items ++ stray_reply (length c.sessions) is.notice) board
              ∙ ap (λ (ns : List Notice). ns ++ stray_reply (length old.desk.board.sessions) is.notice) own.strays_are
              ∙ sym (one_more (stray_reply (length old.desk.board.sessions)) b.tail.pushed is.notice) ∙ sym (ap (flat_map (stray_reply (length old.desk.board.sessions))) pushed)
              ∙ ap (λ n. flat_map (stray_reply n) a.tail.pushed) (sym count);
        } in
        let others : (other : ℕ) (e : EngineEnds) → other ≢ library → 1 ≤ other → slice_get is.replied.ends.items (other - 1) ≡ Some e → IsAnswered before is.replied.desk.board is.replied.strays.items other e =
        λ other e different other_from_one has.
        let at : slice_get old.ends.items (other - 1) ≡ Some e =
        sym (get_set_other old.ends.items (library - 1) (other - 1) looks.after (λ s. different (omega arith))) ∙ sym (ap (λ (es : List EngineEnds). slice_get es (other - 1)) ends) ∙ has in
        let theirs = was other e other_from_one at in
        record {
          each = theirs.each;
          told = λ j small. asks.others other j different ∙ ap (λ (c : Board). told_at c other j) board ∙ theirs.told j (subst (λ n. j < n) count small);
          strays_are = asks.strays_others other different ∙ ap (flat_map (stray_told other)) strays ∙ theirs.strays_are ∙ ap (λ n. flat_map (stray_reply n) e.tail.pushed) (sym count);
        } in
        subst (λ (d : LibraryDesk). AllAreAnswered before d.desk.board d.strays.items new.ends.items) (sym tells.rest)
        (ends_change (IsAnswered before is.replied.desk.board is.replied.strays.items) is.replied.ends.items new.ends.items library tells.before a from_one tells.found tells.ends others now)

    answered_turn : (library : ℕ) (old new : LibraryDesk) (turn : LibTurn) → 1 ≤ library → AnswersOf library old new turn → AreAnswered before old → AreAnswered before new
    answered_turn library old new (NoRoom pushed taken) from_one looks was =
        looked_at library old new looks.before looks.after from_one looks.found looks.looks.pushed looks.ends looks.rest (ap (λ h. flat_map asked_by h.popped) looks.finds.3) was
    answered_turn library old new NoCommand from_one looks was =
        looked_at library old new looks.before looks.after from_one looks.found looks.looks.pushed looks.ends looks.rest (ap (flat_map asked_by) looks.finds.1) was
    answered_turn library old new (Ended finished) from_one looks was = looked_at library old new looks.before looks.after from_one looks.found looks.looks.pushed looks.ends looks.rest
        (ap (flat_map asked_by) looks.finds.1 ∙ one_more asked_by looks.before.head.popped (Done finished) ∙ append-nil (flat_map asked_by looks.before.head.popped)) was
    answered_turn library old new (Answered nr) from_one is was = answered_request library nr old new from_one is was

    -- the engine and a library meet
    pub met : (library : ℕ) (old new : LibraryDesk) (tail_old tail_new : TailView Command) (head_old head_new : HeadView Notice) → 1 ≤ library → RingsMeet library old new tail_old tail_new head_old head_new
        → new ≡ record old { desk = record (old.desk) { seat = new.desk.seat }; ends = new.ends } → AreAnswered before old → AreAnswered before new
    met library old new tail_old tail_new head_old head_new from_one rings rest was =
        let b = rings.before in
        let a = rings.after in
        let pushed : a.tail.pushed ≡ b.tail.pushed = ap (λ t. t.pushed) rings.notices.tail in
        let popped : a.head.popped ≡ b.head.popped = ap (λ h. h.popped) rings.commands.head in
        let quiet = quiet_ends old.desk.board old.strays.items library b a (same_notices b.tail.pushed a.tail.pushed pushed) (ap (flat_map asked_by) popped) (was library b from_one rings.found) in
        subst (λ (d : LibraryDesk). AllAreAnswered before d.desk.board d.strays.items new.ends.items) (sym rest)
        (ends_change (IsAnswered before old.desk.board old.strays.items) old.ends.items new.ends.items library b a from_one rings.found rings.ends (λ other e different other_from_one has. was other e other_from_one has) quiet)

    module _ (kept : (happening : Happening) (old new : Board) → is_unasked happening ≡ true → Happens happening old new → KeepsReplies old new) where
      taken_back : (s at until : ℕ) (old new : LeaseDesk) → TakesBack s at until old new → RepliesStay old new
      taken_back s at until old new is =
          let between = is.reaches.0 in
          let ended = is.reaches.1.1 in
          joined old.board between new.board (kept (reserves s) old.board between refl is.reaches.1.0)
          (subst (KeepsReplies between) (sym ended.1.1) (kept (times_out s is.word (bodies_of is.items) at until) between ended.0 refl ended.1.0))

      taken_back_from : (library at until s : ℕ) (old new : LeaseDesk) → TakesBackFrom library at until s old new → RepliesStay old new
      taken_back_from library at until s old new is = elim is [
        | inl takes ↦ taken_back s at until old new takes.1
        | inr same ↦ subst (RepliesStay old) (sym same.1) (unchanged old.board)
      ]

      expired : (library at until : ℕ) (watch : Watched) (beat : ℕ) (old new : LibraryDesk) → Expires library at until watch beat old new → AreAnswered before old → AreAnswered before new
      expired library at until watch beat old new is was = elim is [
        | inl silent ↦ (
            let back = silent.1 in
            board_goes_on old new (each_in_turn (TakesBackFrom library at until) RepliesStay (λ d. unchanged d.board) (λ a b c. joined a.board b.board c.board) (taken_back_from library at until)
            (length old.desk.board.sessions) old.desk new.desk back.taken_back) (ap (λ (d : LibraryDesk). d.strays.items) back.rest) (ap (λ (d : LibraryDesk). d.ends.items) back.rest) was)
        | inr same ↦ subst (AreAnswered before) (sym same.1) was
      ]

      pub served : (library at until : ℕ) (old new : LibraryDesk) (turn : LibTurn) → 1 ≤ library → Serves library at until old new turn → AreAnswered before old → AreAnswered before new
      served library at until old new turn from_one is was =
          let heard : AreAnswered before is.heard = subst (λ (d : LibraryDesk). AllAreAnswered before d.desk.board d.strays.items d.ends.items) (sym is.hears.rest) was in
          let gone = expired library at until old.watch is.beat is.heard is.expired is.expires heard in
          let told = answered_turn library is.expired is.answered turn from_one is.answers gone in
          each_in_turn (PumpsTo library) (λ a b. AreAnswered before a → AreAnswered before b) (λ d answered. answered) (λ a b c one two answered. two (one answered)) (λ s a b. pumped_to library s a b from_one)
          (length is.answered.desk.board.sessions) is.answered new is.pumps told
