-- What a gathered session and the seat have in common.
use Rattle.std.proofs.Common.{◌≡◌, ℕ, zero, suc, ◌+◌, ◌<◌, ◌≤◌, List, [], ◌∷◌, length, get_or, set, Option, None, Some, Bool, true, false, refl, sym, ap, subst, ◌∙◌, arith}
use Rattle.std.specs.Prelude.{if◌then◌else◌, IfSome}
use Rattle.std.proofs.lemmas.List.{get_or-set_same, length-map}
use Rattle.switchboard.specs.Connection.{ConnectionState}
use Rattle.lease_core.specs.Lines.{last_line, lines_of, missing_sends, raised, raised_line, raises, word_of}
use Rattle.lease_core.specs.State.{with_last}
use Rattle.lease_core.specs.declared.entry.Entry.{Entry}
use Rattle.lease_core.specs.declared.lease.Line.{Line}
use Rattle.lease_core.specs.declared.word.Word.{Word}
use Rattle.lease_words.specs.declared.item.Item.{Item}
use Rattle.lease_words.specs.declared.view.EngineSession.{EngineSession}
use Rattle.lease_words.specs.Leases.{is_running}
use Rattle.lease_words.specs.Sees.{after_look, after_revoke, after_take}
use Rattle.lease_words.specs.Views.{EngineView, engine_at, last_library, pending, with_engine_at}
use Rattle.switchboard.specs.Book.{Desk}
use Rattle.switchboard.specs.Kept.{Kept}
use Rattle.switchboard.specs.Words.{after_timeout, after_word, shown_sends}
use Rattle.switchboard.specs.Board.{Board, DeskChanges, OutboxChanges, book_at, connection_at, desk_at, no_connection, place_at, session_at}
use Rattle.switchboard.specs.Happenings.{Happens, shows, times_out}
use Rattle.switchboard.specs.Sound.{bound_of}
use Rattle.lease_desk.specs.declared.desk.LeaseDesk.{LeaseDesk}
use Rattle.lease_desk.specs.Desk.{Agrees, Finds, Gathers, Rests, TakesBack, TakesItems, after_takes, bodies_of}
use Rattle.lease_desk.proofs.Takes.{seat_again}

-- taking items changes neither the lines nor what is published
pub takes_lines : (items : List Item) (es : EngineSession) → (after_takes items es).lines ≡ es.lines
takes_lines [] es = refl
takes_lines (item ∷ items) es = takes_lines items (after_take es (last_library es) (item ∷ []))

pub takes_published : (items : List Item) (es : EngineSession) → (after_takes items es).published ≡ es.published
takes_published [] es = refl
takes_published (item ∷ items) es = takes_published items (after_take es (last_library es) (item ∷ []))

-- a word that doesn't raise the lines that then stand for it shows no send more
none_missing : (lines : List Line) (w : Word) → word_of lines ≡ w → missing_sends lines w ≡ 0
none_missing lines w stands =
    let same : (last_line lines).sends ≡ w.count = ap (λ (v : Word). v.count) stands in
    omega arith

choose : (b : Bool) (lines : List Line) (w : Word) → word_of (if b then with_last (raised_line w) lines else lines) ≡ w → (if b then missing_sends lines w else 0) ≡ missing_sends lines w
choose true lines w stands = refl
choose false lines w stands = sym (none_missing lines w stands)

pub shown_is_missing : (lines : List Line) (w : Word) → word_of (raised lines w) ≡ w → (if raises lines w then missing_sends lines w else 0) ≡ missing_sends lines w
unfolding raised
shown_is_missing lines w stands = choose (raises lines w) lines w stands

pub bodies_fit : (entries : List Entry) (es : EngineSession) (w : Word) (n : ℕ) → lines_of entries ≡ es.lines → word_of (raised es.lines w) ≡ w → n ≡ missing_sends es.lines w → n ≡ shown_sends entries w
bodies_fit entries es w n same stands count =
    count ∙ sym (shown_is_missing es.lines w stands) ∙ ap (λ lines. if raises lines w then missing_sends lines w else 0) (sym same)

set_again : {T : Type 0} (xs : List T) (i : ℕ) (a b : T) → set (set xs i a) i b ≡ set xs i b
set_again [] i a b = refl
set_again (x ∷ xs) zero a b = refl
set_again (x ∷ xs) (suc i) a b = ap (λ ys. x ∷ ys) (set_again xs i a b)

-- the outbox at a place changes twice
outbox_again : (place : Option ℕ) (old mid new : Board) → IfSome place (λ k. k < length old.connections) → OutboxChanges place old mid → OutboxChanges place mid new → OutboxChanges place old new
outbox_again None old mid new within first second = second ∙ first
outbox_again (Some k) old mid new within first second =
    let out = (connection_at new k).out in
    let here : connection_at mid k ≡ record (connection_at old k) { out = (connection_at mid k).out } =
    ap (λ (cs : List ConnectionState). get_or cs k no_connection) first.0 ∙ get_or-set_same old.connections k (record (connection_at old k) { out = (connection_at mid k).out }) no_connection within in
    let changed : record (connection_at mid k) { out = out } ≡ record (connection_at old k) { out = out } = ap (λ (c : ConnectionState). record c { out = out }) here in (
      second.0
          ∙ ap (λ (c : ConnectionState). set mid.connections k c) changed
          ∙ ap (λ (cs : List ConnectionState). set cs k (record (connection_at old k) { out = out })) first.0
          ∙ set_again old.connections k (record (connection_at old k) { out = (connection_at mid k).out }) (record (connection_at old k) { out = out }),
      second.1 ∙ first.1,
    )

pub changes_again : (s : ℕ) (place : Option ℕ) (old mid new : Board) → IfSome place (λ k. k < length old.connections) → DeskChanges s place old mid → DeskChanges s place mid new → DeskChanges s place old new
changes_again s place old mid new within first second = record {
  sessions = second.sessions ∙ ap (λ (sessions : List Kept). set sessions s (session_at new s)) first.sessions ∙ set_again old.sessions s (session_at mid s) (session_at new s);
  places = second.places ∙ first.places;
  connections = outbox_again place old mid new within first.connections second.connections;
}

-- what rests agrees as before
pub rests_agree : (s : ℕ) (old new : LeaseDesk) → Rests s old new → Agrees old.board old.seat s → Agrees new.board new.seat s
rests_agree s old new rests agrees = record {
  lines = ap (λ (d : Desk). lines_of d.book.entries) rests.desk ∙ agrees.lines ∙ ap (λ (v : EngineView). (engine_at v s).lines) (sym rests.seat);
  taken = ap (λ (v : EngineView). pending (engine_at v s)) rests.seat ∙ agrees.taken;
  published = (
      let seat : (engine_at new.seat s).published ≡ (engine_at old.seat s).published = ap (λ (v : EngineView). (engine_at v s).published) rests.seat in
      let book : length (book_at new.board s).inbound ≡ length (book_at old.board s).inbound = ap (λ (d : Desk). length d.book.inbound) rests.desk in
      let was = agrees.published in
      omega arith
      );
}

-- the place of a session whose desk alone changed
pub place_rests : (s : ℕ) (place : Option ℕ) (old new : Board) → DeskChanges s place old new → place_at new s ≡ place_at old s
place_rests s place old new changes = ap (λ places. get_or places s None) changes.places

-- a session that was gathered or taken back behind a seat that saw the same
pub news_agree : (s : ℕ) (board : Board) (seat : EngineView) (lines : List Line) (published inbound : ℕ) (items : List Item) (es : EngineSession)
    → lines_of (book_at board s).entries ≡ lines → es.lines ≡ lines → es.published ≡ published → published ≤ inbound → length (book_at board s).inbound ≡ inbound
    → engine_at seat s ≡ after_takes items es → pending (engine_at seat s) ≡ 0 → Agrees board seat s
news_agree s board seat lines published inbound items es told seen same small grown known none = record {
  lines = told ∙ sym seen ∙ sym (takes_lines items es) ∙ ap (λ (e : EngineSession). e.lines) (sym known);
  taken = none;
  published = (let is : (engine_at seat s).published ≡ published = ap (λ (e : EngineSession). e.published) known ∙ takes_published items es ∙ same in omega arith);
}

-- the seat behind a look or a revoke, and behind the items that were taken for it
seat_is : (s : ℕ) (see : EngineSession → EngineSession) (old mid looked new : EngineView) (items : List Item) → mid ≡ old → looked ≡ with_engine_at mid s (see (engine_at mid s))
    → engine_at looked s ≡ see (engine_at mid s) → new ≡ with_engine_at looked s (after_takes items (engine_at looked s)) → new ≡ with_engine_at old s (after_takes items (see (engine_at old s)))
seat_is s see old mid looked new items same looked_is known new_is =
    new_is
    ∙ ap (λ (v : EngineView). with_engine_at v s (after_takes items (engine_at looked s))) looked_is
    ∙ seat_again mid s (see (engine_at mid s)) (after_takes items (engine_at looked s))
    ∙ ap (λ (es : EngineSession). with_engine_at mid s (after_takes items es)) known
    ∙ ap (λ (v : EngineView). with_engine_at v s (after_takes items (see (engine_at v s)))) same

known_is : (s : ℕ) (see : EngineSession → EngineSession) (old mid looked new : EngineView) (items : List Item) → mid ≡ old → engine_at looked s ≡ see (engine_at mid s)
    → engine_at new s ≡ after_takes items (engine_at looked s) → engine_at new s ≡ after_takes items (see (engine_at old s))
known_is s see old mid looked new items same known new_is =
    new_is ∙ ap (after_takes items) known ∙ ap (λ (v : EngineView). after_takes items (see (engine_at v s))) same

finds_is : (s : ℕ) (word : Word) (old mid : EngineView) (items : List Item) (bodies : List (List ℕ)) → mid ≡ old → word_of (raised (engine_at mid s).lines word) ≡ word → bodies ≡ bodies_of items
    → length bodies ≡ missing_sends (engine_at mid s).lines word → Finds (engine_at old s) word items
finds_is s word old mid items bodies same stands bodies_are count = record {
  stands = subst (λ (v : EngineView). word_of (raised (engine_at v s).lines word) ≡ word) same stands;
  count = sym (length-map items (λ (item : Item). item.body)) ∙ ap (λ (bs : List (List ℕ)). length bs) (sym bodies_are) ∙ count ∙ ap (λ (v : EngineView). missing_sends (engine_at v s).lines word) same;
}

module _ (s at until : ℕ) (word : Word) (old mid new : LeaseDesk) (looked : EngineView) (bodies : List (List ℕ)) (within : IfSome (place_at old.board s) (λ k. k < length old.board.connections)) (rests : Rests s old mid) (stands : word_of (raised (engine_at mid.seat s).lines word) ≡ word) (takes : TakesItems s looked new.seat bodies) (count : length bodies ≡ missing_sends (engine_at mid.seat s).lines word) (changes : DeskChanges s (place_at mid.board s) mid.board new.board) (bound : bound_of (book_at new.board s) ≡ bound_of (book_at mid.board s)) where
  others : DeskChanges s (place_at old.board s) old.board new.board
  others = changes_again s (place_at old.board s) old.board mid.board new.board within rests.others
      (subst (λ place. DeskChanges s place mid.board new.board) (place_rests s (place_at old.board s) old.board mid.board rests.others) changes)

  pub gathers : looked ≡ with_engine_at mid.seat s (after_look (engine_at mid.seat s) word) → engine_at looked s ≡ after_look (engine_at mid.seat s) word
      → desk_at new.board s ≡ after_word at until word bodies (desk_at mid.board s) → Happens (shows s word bodies at until) mid.board new.board → Gathers s at until old new
  gathers looked_is known desk happens =
      let see = λ (es : EngineSession). after_look es word in
      record {
        word = word;
        items = takes.items;
        finds = finds_is s word old.seat mid.seat takes.items bodies rests.seat stands takes.bodies_are count;
        seat = seat_is s see old.seat mid.seat looked new.seat takes.items rests.seat looked_is known takes.seat;
        known = known_is s see old.seat mid.seat looked new.seat takes.items rests.seat known takes.known;
        desk = desk ∙ ap (λ (bs : List (List ℕ)). after_word at until word bs (desk_at mid.board s)) takes.bodies_are ∙ ap (after_word at until word (bodies_of takes.items)) rests.desk;
        others = others;
        bound = bound ∙ ap (λ (d : Desk). bound_of d.book) rests.desk;
        reaches = (mid.board, (rests.happens, (new.board, (subst (λ bs. Happens (shows s word bs at until) mid.board new.board) takes.bodies_are happens, refl))));
      }

  pub takes_back : looked ≡ with_engine_at mid.seat s (after_revoke (engine_at mid.seat s) word) → engine_at looked s ≡ after_revoke (engine_at mid.seat s) word
      → desk_at new.board s ≡ after_timeout at until word bodies (desk_at mid.board s) → Happens (times_out s word bodies at until) mid.board new.board → TakesBack s at until old new
  takes_back looked_is known desk happens =
      let see = λ (es : EngineSession). after_revoke es word in
      record {
        word = word;
        items = takes.items;
        finds = finds_is s word old.seat mid.seat takes.items bodies rests.seat stands takes.bodies_are count;
        seat = seat_is s see old.seat mid.seat looked new.seat takes.items rests.seat looked_is known takes.seat;
        known = known_is s see old.seat mid.seat looked new.seat takes.items rests.seat known takes.known;
        desk = desk ∙ ap (λ (bs : List (List ℕ)). after_timeout at until word bs (desk_at mid.board s)) takes.bodies_are ∙ ap (after_timeout at until word (bodies_of takes.items)) rests.desk;
        others = others;
        bound = bound ∙ ap (λ (d : Desk). bound_of d.book) rests.desk;
        reaches = (mid.board, (rests.happens, (new.board, (subst (λ bs. Happens (times_out s word bs at until) mid.board new.board) takes.bodies_are happens, refl))));
      }

-- what was taken is what the look showed, where nothing waited before
pub all_taken : (taken looked before missing : ℕ) → taken ≡ looked → looked ≡ before + missing → before ≡ 0 → taken ≡ missing
all_taken taken looked before missing all more none = omega arith

pub still_ended : (items : List Item) (old new : EngineSession) → new ≡ after_takes items old → is_running old.lines ≡ false → is_running new.lines ≡ false
still_ended items old new is ended = ap (λ (es : EngineSession). is_running es.lines) is ∙ ap is_running (takes_lines items old) ∙ ended
