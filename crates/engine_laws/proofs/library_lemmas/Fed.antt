-- One library is served, and what was pushed to each stays in order.
use Rattle.std.proofs.Common.{◌≡◌, ◌≢◌, ◌⊎◌, inl, inr, ℕ, ◌+◌, ◌-◌, ◌<◌, ◌≤◌, List, [], ◌∷◌, ◌++◌, length, Option, None, Some, refl, sym, ap, subst, ◌∙◌, arith}
use Rattle.std.proofs.lemmas.Bool.{cases_eq}
use Rattle.std.proofs.lemmas.List.{get_or-set_other, get_or-set_same, length-set, length_push}
use Rattle.std.proofs.lemmas.List.Elements.{All-append, All-cons, All-nil, All-weaker}
use Rattle.std.specs.List.{All}
use Rattle.std.specs.Prelude.{slice_get, slice_set}
use Rattle.catchup_pump.specs.Pump.{messages_from}
use Rattle.catchup_pump.specs.declared.cursor.Cursor.{Cursor}
use Rattle.engine_end.specs.Meeting.{RingsMeet}
use Rattle.lease_core.specs.Laws.{LinesTellLease, PushedIsLast}
use Rattle.lease_core.specs.Lines.{granted_line, lines_of, no_line}
use Rattle.lease_core.specs.State.{lease_of, owner_in, owner_of, state_of}
use Rattle.lease_core.specs.Steps.{entry_with, reply_to}
use Rattle.lease_core.specs.declared.entry.Why.{Why}
use Rattle.lease_core.specs.declared.entry.Why.TheVariants.{UnknownSession}
use Rattle.lease_core.specs.declared.lease.Line.{Line}
use Rattle.lease_core.specs.declared.messages.Command.{Command}
use Rattle.lease_core.specs.declared.messages.Notice.{Notice}
use Rattle.lease_core.specs.declared.messages.Notice.TheVariants.{Granted, Message, Refused}
use Rattle.lease_core.specs.declared.messages.Reply.{Reply}
use Rattle.lease_core.specs.declared.messages.Reply.TheVariants as reply
use Rattle.lease_desk.specs.Desk.{TakesBackFrom, owner_at}
use Rattle.lease_desk.specs.declared.desk.LeaseDesk.{LeaseDesk}
use Rattle.library_api.specs.Reads.{AreInOrder}
use Rattle.library_clock.specs.Watched.{Watched}
use Rattle.library_desk.specs.Serving.{Answers, AnswersRequest, Expires, PumpsTo, Replies, RepliesTo, Serves, Strays, cursor_at, cursors_after, no_cursor, notice_of, TellsTo}
use Rattle.library_desk.specs.declared.desk.LibraryDesk.{LibraryDesk}
use Rattle.library_desk.specs.declared.ends.EngineEnds.{EngineEnds}
use Rattle.library_desk.specs.declared.serving.LibTurn.{LibTurn}
use Rattle.library_desk.specs.declared.serving.LibTurn.TheVariants.{Answered, Ended, NoCommand, NoRoom}
use Rattle.engine_laws.specs.libraries.Feeds.{AreFed, IsFed, IsLogged, IsPumpedFrom, leases_at, next_over}
use Rattle.engine_laws.specs.libraries.Going.{GoingLaws}
use Rattle.engine_laws.proofs.library_lemmas.Ends.{ends_change}
use Rattle.engine_laws.proofs.library_lemmas.Going.{Keeps, by_going, keeps_further, keeps_itself, one_keeps, taking_back_keeps}
use Rattle.engine_laws.proofs.library_lemmas.Orders.{aside_next, aside_order, is_of_other, is_of_own, messages_aside, messages_logged, messages_order, next_append, order_append, own_next, own_order}
use Rattle.engine_laws.proofs.Walking.{each_in_turn, small_in_turn}
use Rattle.ring_links.specs.Ends.{HeadView, TailView}
use Rattle.session_book.specs.Book.{Book}
use Rattle.switchboard.specs.Board.{Board, book_at}
use Rattle.switchboard.specs.Happenings.{requests}

logged_on : (old new : Board) → Keeps old new → (n : Notice) → IsLogged old n → IsLogged new n
logged_on old new keeps (Message s lease pos bytes) is = keeps.log s pos bytes is
logged_on old new keeps (Granted nr s lease from start) is = is
logged_on old new keeps (Refused nr s why) is = is

-- sessions go on, and nothing is pushed
fed_goes_on : (old new : Board) (cursors : List Cursor) (library : ℕ) (pushed : List Notice) → 1 ≤ library → Keeps old new → IsFed old cursors library pushed → IsFed new cursors library pushed
fed_goes_on old new cursors library pushed from_one keeps was = record {
  in_order = was.in_order;
  logged = All-weaker (IsLogged old) (IsLogged new) (logged_on old new keeps) pushed was.logged;
  fresh = λ s lease small later. was.fresh s lease (subst (λ n. s < n) keeps.sessions small) (let more = keeps.more s in omega arith);
  goes_on = λ s small owned.
      let kept = keeps.owner s (omega arith) in
      let before = was.goes_on s (subst (λ n. s < n) keeps.sessions small) (sym kept.0 ∙ owned) in
      record { session = before.session; lease = before.lease ∙ sym kept.1; next = ap (λ n. next_over s n None pushed) kept.1 ∙ before.next };
}

pub board_goes_on : (old new : LibraryDesk) → Keeps old.desk.board new.desk.board → new.cursors.items ≡ old.cursors.items → new.ends.items ≡ old.ends.items → AreFed old → AreFed new
board_goes_on old new keeps cursors ends was = record {
  cursors = ap (λ (cs : List Cursor). length cs) cursors ∙ was.cursors ∙ sym keeps.sessions;
  fed = λ library e from_one has.
      let before = was.fed library e from_one (subst (λ (es : List EngineEnds). slice_get es (library - 1) ≡ Some e) ends has) in
      subst (λ (cs : List Cursor). IsFed new.desk.board cs library e.tail.pushed) (sym cursors) (fed_goes_on old.desk.board new.desk.board old.cursors.items library e.tail.pushed from_one keeps before);
}

-- a refusal is pushed
refused_fed : (board : Board) (cursors : List Cursor) (library nr s : ℕ) (why : Why) (pushed : List Notice) → IsFed board cursors library pushed → IsFed board cursors library (pushed ++ Refused nr s why ∷ [])
refused_fed board cursors library nr s why pushed was =
    let n = Refused nr s why in
    let same : (t lease : ℕ) → next_over t lease None (pushed ++ n ∷ []) ≡ next_over t lease None pushed =
    λ t lease. next_append t lease None pushed (n ∷ []) ∙ aside_next t lease (next_over t lease None pushed) n refl in
    record {
      in_order = λ t lease. order_append t lease None pushed (n ∷ []) (was.in_order t lease) (aside_order t lease (next_over t lease None pushed) n refl);
      logged = All-append (IsLogged board) pushed (n ∷ []) was.logged (All-cons (IsLogged board) n [] tt (All-nil (IsLogged board)));
      fresh = λ t lease small later. same t lease ∙ was.fresh t lease small later;
      goes_on = λ t small owned.
          let before = was.goes_on t small owned in
          record { session = before.session; lease = before.lease; next = same t (leases_at board t) ∙ before.next };
    }

-- The last lease of a session is granted to a library, and its cursor set.
record Grants (s library lease from : ℕ) (old new : Board) (cursors more : List Cursor) : Type 0 where
  small : s < length old.sessions
  sessions : length new.sessions ≡ length old.sessions
  others : (j : ℕ) → j ≢ s → book_at new j ≡ book_at old j
  inbound : (book_at new s).inbound ≡ (book_at old s).inbound
  next : lease ≡ leases_at old s + 1
  given : leases_at new s ≡ lease
  owner : owner_at new s ≡ library
  count : length cursors ≡ length old.sessions
  cursors_are : more ≡ slice_set cursors s (record { s = s; lease = lease; at = from })

module _ (s library lease from : ℕ) (old new : Board) (cursors more : List Cursor) (grants : Grants s library lease from old new cursors more) where
  granted_log : (n : Notice) → IsLogged old n → IsLogged new n
  granted_log (Message t other pos bytes) is = elim (cases_eq t s) [
    | inl same ↦ subst (λ k. slice_get (book_at new k).inbound pos ≡ Some bytes) (sym same)
        (ap (λ (log : List (List ℕ)). slice_get log pos) grants.inbound ∙ subst (λ k. slice_get (book_at old k).inbound pos ≡ Some bytes) same is)
    | inr different ↦ ap (λ (b : Book). slice_get b.inbound pos) (grants.others t different) ∙ is
  ]
  granted_log (Granted nr t other at start) is = is
  granted_log (Refused nr t why) is = is

  -- no fewer leases than before
  more_leases : (t : ℕ) → leases_at old t ≤ leases_at new t
  more_leases t = elim (cases_eq t s) [
    | inl same ↦ subst (λ k. leases_at old k ≤ leases_at new k) (sym same) (let next = grants.next in let given = grants.given in omega arith)
    | inr different ↦ (let lines = ap (λ (b : Book). length (lines_of b.entries)) (grants.others t different) in omega arith)
  ]

  cursor_here : cursor_at more s ≡ record { s = s; lease = lease; at = from }
  cursor_here = ap (λ (cs : List Cursor). cursor_at cs s) grants.cursors_are ∙ get_or-set_same cursors s _ no_cursor (let small = grants.small in let count = grants.count in omega arith)

  cursor_there : (t : ℕ) → t ≢ s → cursor_at more t ≡ cursor_at cursors t
  cursor_there t different = ap (λ (cs : List Cursor). cursor_at cs t) grants.cursors_are ∙ get_or-set_other cursors s t _ no_cursor different

  -- of another session nothing changes
  elsewhere : (t : ℕ) (pushed behind : List Notice) → t ≢ s → next_over t (leases_at old t) None behind ≡ next_over t (leases_at old t) None pushed → IsPumpedFrom old t (cursor_at cursors t) pushed → IsPumpedFrom new t (cursor_at more t) behind
  elsewhere t pushed behind different same was =
      let lines : leases_at new t ≡ leases_at old t = ap (λ (b : Book). length (lines_of b.entries)) (grants.others t different) in
      let cursor = cursor_there t different in
      record {
        session = ap (λ (c : Cursor). c.s) cursor ∙ was.session;
        lease = ap (λ (c : Cursor). c.lease) cursor ∙ was.lease ∙ sym lines;
        next = ap (λ n. next_over t n None behind) lines ∙ same ∙ was.next ∙ ap (λ (c : Cursor). Some c.at) (sym cursor);
      }

  owner_there : (t : ℕ) → t ≢ s → owner_at new t ≡ owner_at old t
  owner_there t different = ap (λ (b : Book). owner_of (state_of b.entries)) (grants.others t different)

  -- to another library nothing is pushed
  granted_elsewhere : (other : ℕ) (pushed : List Notice) → other ≢ library → IsFed old cursors other pushed → IsFed new more other pushed
  granted_elsewhere other pushed different was = record {
    in_order = was.in_order;
    logged = All-weaker (IsLogged old) (IsLogged new) granted_log pushed was.logged;
    fresh = λ t l small later. was.fresh t l (subst (λ n. t < n) grants.sessions small) (let more = more_leases t in omega arith);
    goes_on = λ t small owned. elim (cases_eq t s) [
      | inl same ↦ absurd (different (sym owned ∙ subst (λ k. owner_at new k ≡ library) (sym same) grants.owner))
      | inr apart ↦ elsewhere t pushed pushed apart refl (was.goes_on t (subst (λ n. t < n) grants.sessions small) (sym (owner_there t apart) ∙ owned))
    ];
  }

  -- the grant is pushed to its library
  granted_here : (nr start : ℕ) (pushed : List Notice) → IsFed old cursors library pushed → IsFed new more library (pushed ++ Granted nr s lease from start ∷ [])
  granted_here nr start pushed was =
      let n = Granted nr s lease from start in
      let behind = pushed ++ n ∷ [] in
      let none : next_over s lease None pushed ≡ None = was.fresh s lease grants.small (let next = grants.next in omega arith) in
      let here : next_over s lease None behind ≡ Some from = next_append s lease None pushed (n ∷ []) ∙ own_next s lease (next_over s lease None pushed) n (is_of_own s lease) in
      let there : (t l : ℕ) → (s ≢ t) ⊎ (lease ≢ l) → next_over t l None behind ≡ next_over t l None pushed =
      λ t l apart. next_append t l None pushed (n ∷ []) ∙ aside_next t l (next_over t l None pushed) n (is_of_other t l s lease apart) in
      record {
        in_order = λ t l. elim (cases_eq s t) [
          | inl session ↦ (elim (cases_eq lease l) [
            | inl same ↦ subst (λ k. AreInOrder k l None behind) session (subst (λ k. AreInOrder s k None behind) same
                (order_append s lease None pushed (n ∷ []) (was.in_order s lease) (own_order s lease (next_over s lease None pushed) n (is_of_own s lease) none)))
            | inr another ↦ order_append t l None pushed (n ∷ []) (was.in_order t l) (aside_order t l (next_over t l None pushed) n (is_of_other t l s lease (inr another)))
          ])
          | inr apart ↦ order_append t l None pushed (n ∷ []) (was.in_order t l) (aside_order t l (next_over t l None pushed) n (is_of_other t l s lease (inl apart)))
        ];
        logged = All-append (IsLogged new) pushed (n ∷ []) (All-weaker (IsLogged old) (IsLogged new) granted_log pushed was.logged) (All-cons (IsLogged new) n [] tt (All-nil (IsLogged new)));
        fresh = λ t l small later. elim (cases_eq s t) [
          | inl session ↦ (
              let above : lease < l = (let given = grants.given in let here_later = subst (λ k. leases_at new k < l) (sym session) later in omega arith) in
              there t l (inr (λ same. absurd (omega arith))) ∙ was.fresh t l (subst (λ k. t < k) grants.sessions small) (let more = more_leases t in omega arith))
          | inr apart ↦ there t l (inl apart) ∙ was.fresh t l (subst (λ k. t < k) grants.sessions small) (let more = more_leases t in omega arith)
        ];
        goes_on = λ t small owned. elim (cases_eq t s) [
          | inl same ↦ subst (λ k. IsPumpedFrom new k (cursor_at more k) behind) (sym same) (record {
            session = ap (λ (c : Cursor). c.s) cursor_here;
            lease = ap (λ (c : Cursor). c.lease) cursor_here ∙ sym grants.given;
            next = ap (λ k. next_over s k None behind) grants.given ∙ here ∙ ap (λ (c : Cursor). Some c.at) (sym cursor_here);
          })
          | inr apart ↦ elsewhere t pushed behind apart (there t (leases_at old t) (inl (λ e. apart (sym e)))) (was.goes_on t (subst (λ k. t < k) grants.sessions small) (sym (owner_there t apart) ∙ owned))
        ];
      }

module _ (l : GoingLaws) (lease_told : LinesTellLease) (pushed_last : PushedIsLast) where
  -- a refused request leaves the sessions with whom they were
  refused_keeps : (library nr s from : ℕ) (why : Why) (old new : LibraryDesk) (notice : Notice) (is : Replies library nr s from old new notice) → is.reply ≡ reply.Refused why → Keeps old.desk.board new.desk.board
  refused_keeps library nr s from why old new notice is refused =
      let before = book_at old.desk.board s in
      let reply_is : reply_to before.leases (state_of before.entries) library from ≡ reply.Refused why = sym is.reply_is ∙ refused in
      let entries : (book_at new.desk.board s).entries ≡ before.entries ++ entry_with library nr from (reply.Refused why) ∷ [] =
      ap (λ (b : Book). b.entries) is.book ∙ ap (λ (r : Reply). before.entries ++ entry_with library nr from r ∷ []) reply_is in
      let lines : lines_of (book_at new.desk.board s).entries ≡ lines_of before.entries = ap lines_of entries ∙ l.one before.entries (entry_with library nr from (reply.Refused why)) in
      by_going l old.desk.board new.desk.board (l.happens (requests s library nr from) old.desk.board new.desk.board is.happens)
      (one_keeps l s old.desk.board new.desk.board (λ j other. l.session s j old.desk.board new.desk.board other is.others)
      (λ some. (ap Rattle.lease_core.specs.Showable.owner_by lines, ap (λ (ls : List Line). length ls) lines)))

  grant_of : (library nr s from lease start : ℕ) (old new : LibraryDesk) (notice : Notice) (is : Replies library nr s from old new notice) → is.reply ≡ reply.Granted lease start → s < length old.desk.board.sessions
      → length old.cursors.items ≡ length old.desk.board.sessions → Grants s library lease from old.desk.board new.desk.board old.cursors.items new.cursors.items
  grant_of library nr s from lease start old new notice is granted small count =
      let before = book_at old.desk.board s in
      let reply_is : reply_to before.leases (state_of before.entries) library from ≡ reply.Granted lease start = sym is.reply_is ∙ granted in
      let entries : (book_at new.desk.board s).entries ≡ before.entries ++ entry_with library nr from (reply.Granted lease start) ∷ [] =
      ap (λ (b : Book). b.entries) is.book ∙ ap (λ (r : Reply). before.entries ++ entry_with library nr from r ∷ []) reply_is in
      let lines : lines_of (book_at new.desk.board s).entries ≡ lines_of before.entries ++ granted_line library ∷ [] = ap lines_of entries ∙ l.one before.entries (entry_with library nr from (reply.Granted lease start)) in
      let long : leases_at new.desk.board s ≡ leases_at old.desk.board s + 1 = ap (λ (ls : List Line). length ls) lines ∙ length_push (lines_of before.entries) (granted_line library) in
      let next : lease ≡ leases_at old.desk.board s + 1 = grant_next before.leases (state_of before.entries) library from lease start reply_is ∙ ap (λ n. n + 1) (sym (lease_told before.entries)) in
      record {
        small = small;
        sessions = (l.happens (requests s library nr from) old.desk.board new.desk.board is.happens).sessions;
        others = λ j other. l.session s j old.desk.board new.desk.board other is.others;
        inbound = ap (λ (b : Book). b.inbound) is.book;
        next = next;
        given = long ∙ sym next;
        owner = sym (l.tell (book_at new.desk.board s).entries) ∙ ap Rattle.lease_core.specs.Showable.owner_by lines ∙ ap (λ (line : Line). owner_in line.ending line.library) (pushed_last no_line (lines_of before.entries) (granted_line library));
        count = count;
        cursors_are = is.cursors ∙ ap (λ (r : Reply). cursors_after s from r old.cursors.items) granted;
      }
    where
      by_reply : (st : Rattle.lease_core.specs.State.State) (why : Rattle.std.proofs.Common.Option Why) (n m : ℕ) → Rattle.lease_core.specs.Steps.reply_by st why ≡ reply.Granted n m → n ≡ lease_of st + 1
      by_reply st None n m same = sym (ap first_of same)
        where
          first_of : Reply → ℕ
          first_of (reply.Granted n m) = n
          first_of (reply.Refused why) = 0
      by_reply st (Some why) n m same = absurd cc

      grant_next : (limit : ℕ) (st : Rattle.lease_core.specs.State.State) (p f n m : ℕ) → reply_to limit st p f ≡ reply.Granted n m → n ≡ lease_of st + 1
      grant_next limit st p f n m same = by_reply st (Rattle.lease_core.specs.Steps.why_refused limit st p f) n m same

-- The log of a session is pumped to the library that has it, n messages from its cursor on.
record PumpsLog (s library n : ℕ) (board : Board) (cursors more : List Cursor) : Type 0 where
  small : s < length board.sessions
  count : length cursors ≡ length board.sessions
  owned : owner_at board s ≡ library
  within : (cursor_at cursors s).at + n ≤ length (book_at board s).inbound
  cursors_are : more ≡ slice_set cursors s (record (cursor_at cursors s) { at = (cursor_at cursors s).at + n })

module _ (s library n : ℕ) (board : Board) (cursors more : List Cursor) (pumps : PumpsLog s library n board cursors more) where
  abbrev pumped_messages : List Notice
  pumped_messages = messages_from (cursor_at cursors s) (book_at board s).inbound n

  pumped_there : (t : ℕ) → t ≢ s → cursor_at more t ≡ cursor_at cursors t
  pumped_there t different = ap (λ (cs : List Cursor). cursor_at cs t) pumps.cursors_are ∙ get_or-set_other cursors s t _ no_cursor different

  pumped_elsewhere : (t : ℕ) (pushed behind : List Notice) → t ≢ s → next_over t (leases_at board t) None behind ≡ next_over t (leases_at board t) None pushed → IsPumpedFrom board t (cursor_at cursors t) pushed
      → IsPumpedFrom board t (cursor_at more t) behind
  pumped_elsewhere t pushed behind different same was =
      let cursor = pumped_there t different in
      record {
        session = ap (λ (c : Cursor). c.s) cursor ∙ was.session;
        lease = ap (λ (c : Cursor). c.lease) cursor ∙ was.lease;
        next = same ∙ was.next ∙ ap (λ (c : Cursor). Some c.at) (sym cursor);
      }

  -- to another library nothing is pushed
  pumped_to_another : (other : ℕ) (pushed : List Notice) → other ≢ library → IsFed board cursors other pushed → IsFed board more other pushed
  pumped_to_another other pushed different was = record {
    in_order = was.in_order;
    logged = was.logged;
    fresh = was.fresh;
    goes_on = λ t small owned. elim (cases_eq t s) [
      | inl same ↦ absurd (different (sym owned ∙ ap (λ k. owner_at board k) same ∙ pumps.owned))
      | inr apart ↦ pumped_elsewhere t pushed pushed apart refl (was.goes_on t small owned)
    ];
  }

  module _ (pushed : List Notice) (was : IsFed board cursors library pushed) where
    from_cursor : IsPumpedFrom board s (cursor_at cursors s) pushed
    from_cursor = was.goes_on s pumps.small pumps.owned

    -- the messages are of the session's last lease, in order
    own_messages : (next : Option ℕ) → next ≡ Some (cursor_at cursors s).at → AreInOrder s (leases_at board s) next pumped_messages × (next_over s (leases_at board s) next pumped_messages ≡ Some ((cursor_at cursors s).at + n))
    own_messages next same =
        let c = cursor_at cursors s in
        let before = from_cursor in
        subst (λ l. AreInOrder s l next pumped_messages × (next_over s l next pumped_messages ≡ Some (c.at + n))) before.lease
        (subst (λ k. AreInOrder k c.lease next pumped_messages × (next_over k c.lease next pumped_messages ≡ Some (c.at + n))) before.session
        (subst (λ o. AreInOrder c.s c.lease o pumped_messages × (next_over c.s c.lease o pumped_messages ≡ Some (c.at + n))) (sym same) (messages_order c (book_at board s).inbound n)))

    other_messages : (t l : ℕ) (next : Option ℕ) → (s ≢ t) ⊎ (leases_at board s ≢ l) → AreInOrder t l next pumped_messages × (next_over t l next pumped_messages ≡ next)
    other_messages t l next different =
        let before = from_cursor in
        messages_aside t l next (cursor_at cursors s) (book_at board s).inbound n (elim different [
          | inl apart ↦ inl (λ same. apart (sym before.session ∙ same))
          | inr another ↦ inr (λ same. another (sym before.lease ∙ same))
        ])

    still : (t l : ℕ) → (s ≢ t) ⊎ (leases_at board s ≢ l) → next_over t l None (pushed ++ pumped_messages) ≡ next_over t l None pushed
    still t l different = next_append t l None pushed pumped_messages ∙ (other_messages t l (next_over t l None pushed) different).1

    still_order : (t l : ℕ) → (s ≢ t) ⊎ (leases_at board s ≢ l) → AreInOrder t l None (pushed ++ pumped_messages)
    still_order t l different = order_append t l None pushed pumped_messages (was.in_order t l) (other_messages t l (next_over t l None pushed) different).0

    all_logged : All (IsLogged board) pumped_messages
    all_logged =
        let c = cursor_at cursors s in
        subst (λ k. All (IsLogged board) (messages_from c (book_at board k).inbound n)) from_cursor.session
        (messages_logged board c n (subst (λ k. c.at + n ≤ length (book_at board k).inbound) (sym from_cursor.session) pumps.within))

    cursor_moved : cursor_at more s ≡ record (cursor_at cursors s) { at = (cursor_at cursors s).at + n }
    cursor_moved = ap (λ (cs : List Cursor). cursor_at cs s) pumps.cursors_are ∙ get_or-set_same cursors s _ no_cursor (let small = pumps.small in let count = pumps.count in omega arith)

    pumped_here : IsFed board more library (pushed ++ pumped_messages)
    pumped_here = record {
      in_order = λ t l. elim (cases_eq s t) [
        | inl session ↦ (elim (cases_eq (leases_at board s) l) [
          | inl same ↦ subst (λ k. AreInOrder k l None (pushed ++ pumped_messages)) session (subst (λ k. AreInOrder s k None (pushed ++ pumped_messages)) same
              (order_append s (leases_at board s) None pushed pumped_messages (was.in_order s (leases_at board s)) (own_messages (next_over s (leases_at board s) None pushed) from_cursor.next).0))
          | inr another ↦ still_order t l (inr another)
        ])
        | inr apart ↦ still_order t l (inl apart)
      ];
      logged = All-append (IsLogged board) pushed pumped_messages was.logged all_logged;
      fresh = λ t l small later. elim (cases_eq s t) [
        | inl session ↦ (
            let above : leases_at board s < l = subst (λ k. leases_at board k < l) (sym session) later in
            still t l (inr (λ same. absurd (omega arith))) ∙ was.fresh t l small later)
        | inr apart ↦ still t l (inl apart) ∙ was.fresh t l small later
      ];
      goes_on = λ t small owned. elim (cases_eq t s) [
        | inl same ↦ subst (λ k. IsPumpedFrom board k (cursor_at more k) (pushed ++ pumped_messages)) (sym same) (record {
          session = ap (λ (c : Cursor). c.s) cursor_moved ∙ from_cursor.session;
          lease = ap (λ (c : Cursor). c.lease) cursor_moved ∙ from_cursor.lease;
          next = next_append s (leases_at board s) None pushed pumped_messages ∙ (own_messages (next_over s (leases_at board s) None pushed) from_cursor.next).1 ∙ ap (λ (c : Cursor). Some c.at) (sym cursor_moved);
        })
        | inr apart ↦ pumped_elsewhere t pushed (pushed ++ pumped_messages) apart (still t (leases_at board t) (inl (λ e. apart (sym e)))) (was.goes_on t small owned)
      ];
    }

-- The sessions as a reply leaves them feed each library so, once its notice is pushed to the one that asked.
record RepliedFed (library : ℕ) (old new : LibraryDesk) (notice : Notice) : Type 0 where
  count : length new.cursors.items ≡ length new.desk.board.sessions
  own : (pushed : List Notice) → IsFed old.desk.board old.cursors.items library pushed → IsFed new.desk.board new.cursors.items library (pushed ++ notice ∷ [])
  others : (other : ℕ) (pushed : List Notice) → 1 ≤ other → other ≢ library → IsFed old.desk.board old.cursors.items other pushed → IsFed new.desk.board new.cursors.items other pushed
  ends : new.ends.items ≡ old.ends.items

stray_fed : (library nr s : ℕ) (old new : LibraryDesk) (notice : Notice) → Strays library nr s old new notice → AreFed old → RepliedFed library old new notice
stray_fed library nr s old new notice is was =
    let board : new.desk.board ≡ old.desk.board = ap (λ (d : LibraryDesk). d.desk.board) is.rest in
    let cursors : new.cursors.items ≡ old.cursors.items = ap (λ (d : LibraryDesk). d.cursors.items) is.rest in
    record {
      count = ap (λ (cs : List Cursor). length cs) cursors ∙ was.cursors ∙ sym (ap (λ (b : Board). length b.sessions) board);
      own = λ pushed fed.
          subst (λ n. IsFed new.desk.board new.cursors.items library (pushed ++ n ∷ [])) (sym is.notice_is)
          (subst (λ (b : Board). IsFed b new.cursors.items library (pushed ++ Refused nr s (UnknownSession s) ∷ [])) (sym board)
          (subst (λ (cs : List Cursor). IsFed old.desk.board cs library (pushed ++ Refused nr s (UnknownSession s) ∷ [])) (sym cursors)
          (refused_fed old.desk.board old.cursors.items library nr s (UnknownSession s) pushed fed)));
      others = λ other pushed from_one different fed.
          subst (λ (b : Board). IsFed b new.cursors.items other pushed) (sym board) (subst (λ (cs : List Cursor). IsFed old.desk.board cs other pushed) (sym cursors) fed);
      ends = ap (λ (d : LibraryDesk). d.ends.items) is.rest;
    }

-- one library's ends were looked at, and nothing was pushed
looked_at : (library : ℕ) (old new : LibraryDesk) (b a : EngineEnds) → 1 ≤ library → slice_get old.ends.items (library - 1) ≡ Some b → a.tail.pushed ≡ b.tail.pushed → new.ends.items ≡ slice_set old.ends.items (library - 1) a
    → new ≡ record old { ends = new.ends } → AreFed old → AreFed new
looked_at library old new b a from_one found pushed ends rest was =
    subst AreFed (sym rest) (record {
      cursors = was.cursors;
      fed = ends_change (λ other e. IsFed old.desk.board old.cursors.items other e.tail.pushed) old.ends.items new.ends.items library b a from_one found ends
          (λ other e different other_from_one has. was.fed other e other_from_one has)
          (subst (λ ns. IsFed old.desk.board old.cursors.items library ns) (sym pushed) (was.fed library b from_one found));
    })

-- the engine and a library meet
pub met : (library : ℕ) (old new : LibraryDesk) (tail_old tail_new : TailView Command) (head_old head_new : HeadView Notice) → 1 ≤ library → RingsMeet library old new tail_old tail_new head_old head_new
    → new ≡ record old { desk = record (old.desk) { seat = new.desk.seat }; ends = new.ends } → AreFed old → AreFed new
met library old new tail_old tail_new head_old head_new from_one rings rest was =
    let b = rings.before in
    let a = rings.after in
    let pushed : a.tail.pushed ≡ b.tail.pushed = ap (λ t. t.pushed) rings.notices.tail in
    subst AreFed (sym rest) (record {
      cursors = was.cursors;
      fed = ends_change (λ other e. IsFed old.desk.board old.cursors.items other e.tail.pushed) old.ends.items new.ends.items library b a from_one rings.found rings.ends
          (λ other e different other_from_one has. was.fed other e other_from_one has)
          (subst (λ ns. IsFed old.desk.board old.cursors.items library ns) (sym pushed) (was.fed library b from_one rings.found));
    })

-- a reply was given, and its notice is pushed
told_to : (library : ℕ) (asked replied new : LibraryDesk) (notice : Notice) → 1 ≤ library → RepliedFed library asked replied notice → TellsTo library notice replied new → AreFed asked → AreFed new
told_to library asked replied new notice from_one reply tells was =
    let at : (other : ℕ) (e : EngineEnds) → slice_get replied.ends.items (other - 1) ≡ Some e → slice_get asked.ends.items (other - 1) ≡ Some e =
    λ other e has. subst (λ (es : List EngineEnds). slice_get es (other - 1) ≡ Some e) reply.ends has in
    subst AreFed (sym tells.rest) (record {
      cursors = reply.count;
      fed = ends_change (λ other e. IsFed replied.desk.board replied.cursors.items other e.tail.pushed) replied.ends.items new.ends.items library tells.before tells.after from_one tells.found tells.ends
          (λ other e different other_from_one has. reply.others other e.tail.pushed other_from_one different (was.fed other e other_from_one (at other e has)))
          (subst (λ ns. IsFed replied.desk.board replied.cursors.items library ns) (sym tells.tells.pushed)
          (reply.own tells.before.tail.pushed (was.fed library tells.before from_one (at library tells.before tells.found))));
    })

-- sessions go on behind a pump
abbrev pub FedOf : ℕ → LibraryDesk → LibraryDesk → Type 0
FedOf count a b = AreFed a → length a.desk.board.sessions ≡ count → AreFed b × (length b.desk.board.sessions ≡ count)

pub pumped_to : (library s : ℕ) (count : ℕ) (old new : LibraryDesk) → 1 ≤ library → s < count → PumpsTo library s old new → FedOf count old new
pumped_to library s count old new from_one small is was counted = elim is [
  | inl pumping ↦ (
      let pumps = pumping.1.0 in
      let n = (cursor_at new.cursors.items s).at - (cursor_at old.cursors.items s).at in
      let forward = pumps.forward in
      let within = pumps.within in
      let moved : PumpsLog s library n old.desk.board old.cursors.items new.cursors.items = record {
        small = omega arith;
        count = was.cursors;
        owned = pumping.0;
        within = omega arith;
        cursors_are = pumps.cursors ∙ ap (λ c. slice_set old.cursors.items s c) (pumps.cursor ∙ ap (λ k. record (cursor_at old.cursors.items s) { at = k }) (omega arith));
      } in (
        subst AreFed (sym pumps.rest) (record {
          cursors = ap (λ (cs : List Cursor). length cs) pumps.cursors ∙ length-set old.cursors.items s (cursor_at new.cursors.items s) ∙ was.cursors;
          fed = ends_change (λ other e. IsFed old.desk.board new.cursors.items other e.tail.pushed) old.ends.items new.ends.items library pumps.before pumps.after from_one pumps.found pumps.ends
              (λ other e different other_from_one has. pumped_to_another s library n old.desk.board old.cursors.items new.cursors.items moved other e.tail.pushed different (was.fed other e other_from_one has))
              (subst (λ ns. IsFed old.desk.board new.cursors.items library ns) (sym pumps.pushed)
              (pumped_here s library n old.desk.board old.cursors.items new.cursors.items moved pumps.before.tail.pushed (was.fed library pumps.before from_one pumps.found)));
        }),
        ap (λ (d : LibraryDesk). length d.desk.board.sessions) pumps.rest ∙ counted,
      ))
  | inr same ↦ (subst AreFed (sym same.1) was, ap (λ (d : LibraryDesk). length d.desk.board.sessions) same.1 ∙ counted)
]

module _ (l : GoingLaws) (lease_told : LinesTellLease) (pushed_last : PushedIsLast) where
  replied_fed : (library nr s from : ℕ) (old new : LibraryDesk) (notice : Notice) (r : Reply) → 1 ≤ library → s < length old.desk.board.sessions → (is : Replies library nr s from old new notice) → is.reply ≡ r → AreFed old → RepliedFed library old new notice
  replied_fed library nr s from old new notice (reply.Granted lease start) from_one small is granted was =
      let grants = grant_of l lease_told pushed_last library nr s from lease start old new notice is granted small was.cursors in
      let notice_is : notice ≡ Granted nr s lease from start = is.notice_is ∙ ap (λ (r : Reply). notice_of nr s from r) granted in
      record {
        count = ap (λ (cs : List Cursor). length cs) grants.cursors_are ∙ length-set old.cursors.items s _ ∙ was.cursors ∙ sym grants.sessions;
        own = λ pushed fed. subst (λ n. IsFed new.desk.board new.cursors.items library (pushed ++ n ∷ [])) (sym notice_is)
            (granted_here s library lease from old.desk.board new.desk.board old.cursors.items new.cursors.items grants nr start pushed fed);
        others = λ other pushed other_from_one different fed. granted_elsewhere s library lease from old.desk.board new.desk.board old.cursors.items new.cursors.items grants other pushed different fed;
        ends = ap (λ (d : LibraryDesk). d.ends.items) is.rest;
      }
  replied_fed library nr s from old new notice (reply.Refused why) from_one small is refused was =
      let keeps = refused_keeps l lease_told pushed_last library nr s from why old new notice is refused in
      let notice_is : notice ≡ Refused nr s why = is.notice_is ∙ ap (λ (r : Reply). notice_of nr s from r) refused in
      let cursors : new.cursors.items ≡ old.cursors.items = is.cursors ∙ ap (λ (r : Reply). cursors_after s from r old.cursors.items) refused in
      let goes : (other : ℕ) (pushed : List Notice) → 1 ≤ other → IsFed old.desk.board old.cursors.items other pushed → IsFed new.desk.board new.cursors.items other pushed =
      λ other pushed other_from_one fed. subst (λ (cs : List Cursor). IsFed new.desk.board cs other pushed) (sym cursors) (fed_goes_on old.desk.board new.desk.board old.cursors.items other pushed other_from_one keeps fed) in
      record {
        count = ap (λ (cs : List Cursor). length cs) cursors ∙ was.cursors ∙ sym keeps.sessions;
        own = λ pushed fed. subst (λ n. IsFed new.desk.board new.cursors.items library (pushed ++ n ∷ [])) (sym notice_is)
            (refused_fed new.desk.board new.cursors.items library nr s why pushed (goes library pushed from_one fed));
        others = λ other pushed other_from_one different fed. goes other pushed other_from_one fed;
        ends = ap (λ (d : LibraryDesk). d.ends.items) is.rest;
      }

  replies_fed : (library nr s from : ℕ) (old new : LibraryDesk) (notice : Notice) → 1 ≤ library → RepliesTo library nr s from old new notice → AreFed old → RepliedFed library old new notice
  replies_fed library nr s from old new notice from_one is was = elim is [
    | inl configured ↦ replied_fed library nr s from old new notice configured.1.reply from_one configured.0 configured.1 refl was
    | inr beyond ↦ stray_fed library nr s old new notice beyond.1 was
  ]

  answered_request : (library nr : ℕ) (old new : LibraryDesk) → 1 ≤ library → AnswersRequest library nr old new → AreFed old → AreFed new
  answered_request library nr old new from_one is was =
      let looks = is.looks in
      let popped = looked_at library old is.popped looks.before looks.after from_one looks.found looks.looks.pushed looks.ends looks.rest was in
      told_to library is.popped is.replied new is.notice from_one (replies_fed library nr is.s is.from is.popped is.replied is.notice from_one is.replies popped) is.tells popped

  pub answered_turn : (library : ℕ) (old new : LibraryDesk) (turn : LibTurn) → 1 ≤ library → Answers library old new turn → AreFed old → AreFed new
  answered_turn library old new (NoRoom pushed taken) from_one looks was = looked_at library old new looks.before looks.after from_one looks.found looks.looks.pushed looks.ends looks.rest was
  answered_turn library old new NoCommand from_one looks was = looked_at library old new looks.before looks.after from_one looks.found looks.looks.pushed looks.ends looks.rest was
  answered_turn library old new (Ended finished) from_one looks was = looked_at library old new looks.before looks.after from_one looks.found looks.looks.pushed looks.ends looks.rest was
  answered_turn library old new (Answered nr) from_one is was = answered_request library nr old new from_one is was

  taken_back_from : (library at until s : ℕ) (old new : LeaseDesk) → TakesBackFrom library at until s old new → Keeps old.board new.board
  taken_back_from library at until s old new is = elim is [
    | inl takes ↦ taking_back_keeps l s at until old new takes.1
    | inr same ↦ subst (λ (d : LeaseDesk). Keeps old.board d.board) (sym same.1) (keeps_itself old.board)
  ]

  expired : (library at until : ℕ) (watch : Watched) (beat : ℕ) (old new : LibraryDesk) → Expires library at until watch beat old new → AreFed old → AreFed new
  expired library at until watch beat old new is was = elim is [
    | inl silent ↦ (
        let back = silent.1 in
        board_goes_on old new (each_in_turn (TakesBackFrom library at until) (λ (a b : LeaseDesk). Keeps a.board b.board) (λ d. keeps_itself d.board) (λ a b c. keeps_further a.board b.board c.board) (taken_back_from library at until)
        (length old.desk.board.sessions) old.desk new.desk back.taken_back) (ap (λ (d : LibraryDesk). d.cursors.items) back.rest) (ap (λ (d : LibraryDesk). d.ends.items) back.rest) was)
    | inr same ↦ subst AreFed (sym same.1) was
  ]

  pub served : (library at until : ℕ) (old new : LibraryDesk) (turn : LibTurn) → 1 ≤ library → Serves library at until old new turn → AreFed old → AreFed new
  served library at until old new turn from_one is was =
      let heard : AreFed is.heard = subst AreFed (sym is.hears.rest) (record { cursors = was.cursors; fed = was.fed }) in
      let gone = expired library at until old.watch is.beat is.heard is.expired is.expires heard in
      let told = answered_turn library is.expired is.answered turn from_one is.answers gone in
      let count = length is.answered.desk.board.sessions in
      (small_in_turn (PumpsTo library) (FedOf count) (λ d fed counted. (fed, counted)) (λ a b c one two fed counted. two (one fed counted).0 (one fed counted).1) count
      (λ s a b small pumps. pumped_to library s count a b from_one small pumps) count (omega arith) is.answered new is.pumps told refl).0
