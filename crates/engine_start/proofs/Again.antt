-- How the sessions go on, one after another, and how the engine is in order behind them.
use Rattle.std.proofs.Common.{◌≡◌, ℕ, ◌+◌, ◌<◌, ◌≤◌, List, [], ◌∷◌, ◌++◌, length, get_or, Option, None, refl, sym, ap, subst, ◌∙◌, arith}
use borrow.Author.Count.{below_more}
use Rattle.std.proofs.Math.ListN.{get_or-append}
use Rattle.std.proofs.Math.Seq.{get_or-append_seam}
use Rattle.std.proofs.lemmas.List.{get_or-map, get_or_default, length-append, length-map}
use Rattle.engine_config.specs.Config.{dial_of, names_of}
use Rattle.engine_config.specs.declared.config.Config.{Config}
use Rattle.engine_config.specs.declared.config.DialTo.{DialTo}
use Rattle.engine_start.proofs.NewBooks.{GoesOnFirst}
use Rattle.engine_start.proofs.Outset.{session_of}
use Rattle.engine_start.proofs.Reading.{entries_back, leases_back}
use Rattle.engine_start.specs.Restarts.{NotesClosing, RestartsSessions, ResumesLeases, book_behind, closing_noted, expected_behind, lines_of_sessions, read_back, records_of, restarted_book}
use Rattle.engine_start.specs.Revived.{AreRevived, GoOnBehind, GoesOnBehind, revived_at, revived_by}
use Rattle.engine_start.specs.Starts.{configured_book}
use Rattle.engine_start.specs.declared.reviving.Revived.{Revived}
use Rattle.lease_core.specs.Lines.{lines_of}
use Rattle.lease_core.specs.State.{state_of}
use Rattle.lease_core.specs.declared.limits.TheConstants.{MOST_LEASES}
use Rattle.lease_core.specs.declared.entry.Entry.{Entry}
use Rattle.lease_core.specs.declared.lease.Line.{Line}
use Rattle.lease_core.specs.declared.record.Record.{Record}
use Rattle.lease_desk.specs.Desk.{IsInStep}
use Rattle.lease_words.specs.Tokens.{new_engine_seat}
use Rattle.lease_words.specs.Views.{EngineView, TableRef, engine_at, new_engine_session, pending}
use Rattle.lease_words.specs.declared.view.EngineSession.{EngineSession}
use Rattle.session_book.specs.Book.{Book}
use Rattle.session_book.specs.Kept.{Kept}
use Rattle.session_book.specs.Records.{HasNotedAll, Pending}
use Rattle.session_core.specs.declared.names.Names.{Names}
use Rattle.session_desk.specs.Steps.{nothing_noted, pending_at}
use Rattle.switchboard.specs.Board.{Board, book_at, no_session, with_session_more}
use Rattle.switchboard.specs.Ready.{IsFirst, entries_of}
use Rattle.switchboard.specs.Sound.{IsLawful, IsSound, bound_of}

-- one session more
pub one_goes_on : GoesOnFirst → (config : Config) (until : ℕ) (revived : List Revived) (count : ℕ) (old new : Board) (kept : Kept) (unkept_old unkept_new : List Pending) (unkept : Pending) (one : Revived)
    → bound_of kept.book ≡ None → IsLawful kept.book → revived_at revived count ≡ one → GoesOnBehind config until count one kept.book unkept → new ≡ with_session_more kept old → unkept_new ≡ unkept_old ++ unkept ∷ []
    → GoOnBehind config until revived count old unkept_old → GoOnBehind config until revived (count + 1) new unkept_new
one_goes_on law config until revived count old new kept unkept_old unkept_new unkept one unbound lawful which goes_on is noted begin =
    let sessions : new.sessions ≡ old.sessions ++ kept ∷ [] = ap (λ (b : Board). b.sessions) is in
    let book : book_at new count ≡ kept.book =
    ap (λ (ks : List Kept). (get_or ks count no_session).book) sessions
    ∙ ap (λ n. (get_or (old.sessions ++ kept ∷ []) n no_session).book) (sym begin.count_is)
    ∙ ap (λ (k : Kept). k.book) (get_or-append_seam old.sessions kept [] no_session) in
    let pending_is : pending_at unkept_new count ≡ unkept =
    ap (λ (ps : List Pending). get_or ps count nothing_noted) noted
    ∙ ap (λ n. get_or (unkept_old ++ unkept ∷ []) n nothing_noted) (sym begin.unkept_count)
    ∙ get_or-append_seam unkept_old unkept [] nothing_noted in
    record {
      count_is = ap (λ (ks : List Kept). length ks) sessions ∙ length-append old.sessions (kept ∷ []) ∙ ap (λ n. n + 1) begin.count_is;
      unkept_count = ap (λ (ps : List Pending). length ps) noted ∙ length-append unkept_old (unkept ∷ []) ∙ ap (λ n. n + 1) begin.unkept_count;
      each = below_more (λ s. GoesOnBehind config until s (revived_at revived s) (book_at new s) (pending_at unkept_new s)) count
          (λ s small.
          let same_book : book_at new s ≡ book_at old s =
          ap (λ (ks : List Kept). (get_or ks s no_session).book) sessions ∙ ap (λ (k : Kept). k.book) (get_or-append old.sessions (kept ∷ []) no_session s (let same = begin.count_is in omega arith)) in
          let same_unkept : pending_at unkept_new s ≡ pending_at unkept_old s =
          ap (λ (ps : List Pending). get_or ps s nothing_noted) noted ∙ get_or-append unkept_old (unkept ∷ []) nothing_noted s (let same = begin.unkept_count in omega arith) in
          subst (λ (b : Book). GoesOnBehind config until s (revived_at revived s) b (pending_at unkept_new s)) (sym same_book)
          (subst (λ (p : Pending). GoesOnBehind config until s (revived_at revived s) (book_at old s) p) (sym same_unkept) (begin.each s small)))
          (subst (λ (x : Revived). GoesOnBehind config until count x (book_at new count) (pending_at unkept_new count)) (sym which)
          (subst (λ (b : Book). GoesOnBehind config until count one b (pending_at unkept_new count)) (sym book)
          (subst (λ (p : Pending). GoesOnBehind config until count one kept.book p) (sym pending_is) goes_on)));
      first = subst (λ b. IsFirst (entries_of b) b) (sym is) (law old kept unbound lawful begin.first);
      nowhere = ap (λ (b : Board). b.nowhere.outgoing) is ∙ begin.nowhere;
    }

-- what was read at a place stands there, whatever stands where nothing is
pub read_is : {A : Type 0} (xs ys : List A) (s : ℕ) (x d : A) → xs ≡ ys → x ≡ get_or xs s x → s < length ys → x ≡ get_or ys s d
read_is xs ys s x d same at small = at ∙ ap (λ zs. get_or zs s x) same ∙ get_or_default ys s x d small

-- what was read so far is the front of the list, and the next one stands behind it
pub next_within : (done rest all : List Revived) (one : Revived) → done ++ one ∷ rest ≡ all → length done < length all
next_within done rest all one is =
    let more : length all ≡ length done + length (one ∷ rest) = ap (λ (xs : List Revived). length xs) (sym is) ∙ length-append done (one ∷ rest) in
    omega arith

pub next_is : (done rest all : List Revived) (one : Revived) → done ++ one ∷ rest ≡ all → revived_at all (length done) ≡ one
next_is done rest all one is = ap (λ xs. revived_at xs (length done)) (sym is) ∙ get_or-append_seam done one rest (revived_by 0 [])

-- a session without records is new
new_again : (names : Names) (dial : Option DialTo) (until leases : ℕ) → restarted_book names dial until (read_back leases []) (expected_behind []) ≡ configured_book leases names dial
unfolding state_of
new_again names dial until leases = refl

module _ (config : Config) (until : ℕ) (records : List Record) (revived : List Revived) (board : Board) (unkept : List Pending)
    (are : AreRevived config.leases (length config.names) records revived) (go_on : GoOnBehind config until revived (length config.names) board unkept) where
  book_of : (s : ℕ) → s < length config.names → book_at board s ≡ book_behind config until records s
  book_of s small =
      (go_on.each s small).book_is ∙ ap (λ (x : Revived). restarted_book (names_of config s) (dial_of config s) until x.revival x.expected) (are.each s small)

  pub restarts_sessions : RestartsSessions config until records board
  restarts_sessions = record {
    count = go_on.count_is;
    books = book_of;
    new = λ s small none. book_of s small
        ∙ ap (λ (own : List Record). restarted_book (names_of config s) (dial_of config s) until (read_back config.leases own) (expected_behind own)) none
        ∙ new_again (names_of config s) (dial_of config s) until config.leases;
    owned = λ s small. (go_on.each s small).owned;
    unbound = λ s small. go_on.first.unbound s (subst (λ n. s < n) (sym go_on.count_is) small);
    first = go_on.first;
    nowhere = go_on.nowhere;
  }

  pub leases_are : (s : ℕ) → s < length board.sessions → (book_at board s).leases ≡ config.leases
  leases_are s small =
      ap (λ (b : Book). b.leases) (book_of s (subst (λ n. s < n) go_on.count_is small)) ∙ leases_back config.leases (records_of s records)

  recovered : (s : ℕ) → s < length config.names → length (revived_at revived s).revival.entries ≡ length (records_of s records)
  recovered s small =
      ap (λ (x : Revived). length x.revival.entries) (are.each s small)
      ∙ ap (λ (es : List Entry). length es) (entries_back config.leases (records_of s records))
      ∙ length-map (records_of s records) (λ (r : Record). r.entry)

  pub notes_closing : NotesClosing config records board unkept
  notes_closing = record {
    noted = record {
      count = go_on.unkept_count ∙ sym go_on.count_is;
      each = λ s small. (let all : HasNotedAll (pending_at unkept s) (book_at board s) = (go_on.each s (subst (λ n. s < n) go_on.count_is small)).all in omega arith);
    };
    each = λ s small. (go_on.each s small).noted ∙ ap (λ n. closing_noted n (book_at board s)) (recovered s small);
    all = λ s small. (go_on.each s small).all;
  }

module _ (board : Board) (t : TableRef) (seat : EngineView) (seat_is : seat ≡ new_engine_seat t) (sessions : t.shape.sessions ≡ length board.sessions) (before : t.shape.before ≡ lines_of_sessions board.sessions) where
  known : (s : ℕ) → s < length board.sessions → engine_at seat s ≡ new_engine_session t.shape s
  known s small =
      ap (λ (v : EngineView). engine_at v s) seat_is ∙ session_of t.shape 0 t.shape.sessions s (subst (λ n. s < n) (sym sessions) small) ∙ ap (new_engine_session t.shape) (omega arith)

  lines_known : (s : ℕ) → s < length board.sessions → (new_engine_session t.shape s).lines ≡ lines_of (book_at board s).entries
  lines_known s small =
      ap (λ (ls : List (List Line)). get_or ls s []) before ∙ get_or-map (λ (k : Kept). lines_of k.book.entries) board.sessions s no_session [] small

  pub resumes_leases : (s : ℕ) → s < length board.sessions → ResumesLeases board seat s
  resumes_leases s small = record {
    lines = ap (λ (es : EngineSession). es.lines) (known s small) ∙ lines_known s small;
    base = ap (λ (es : EngineSession). es.base) (known s small) ∙ ap (λ (ls : List Line). length ls) (lines_known s small);
  }

  pub begins_again : IsSound board → ((s : ℕ) → pending (engine_at seat s) ≡ 0) → ((s : ℕ) → s < length board.sessions → (book_at board s).leases ≤ MOST_LEASES) → IsInStep board seat
  begins_again sound taken few = record {
    sound = sound;
    agree = λ s small. record {
      lines = sym (resumes_leases s small).lines;
      taken = taken s;
      published = (let none : (engine_at seat s).published ≡ 0 = ap (λ (es : EngineSession). es.published) (known s small) in omega arith);
    };
    few = few;
  }
