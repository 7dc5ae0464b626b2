-- As texts are made and written and a connection ends, the items that were queued stay, with the names and the logs of which their texts are made.
use Rattle.std.proofs.Common.{◌≡◌, ◌≢◌, inl, inr, ℕ, zero, suc, ◌<◌, ◌≤◌, List, length, get_or, set, Option, None, Some, refl, sym, ap, subst, ◌∙◌}
use Rattle.std.proofs.lemmas.List.{get_or-set_other, get_or-set_same, length-set}
use Rattle.connection_core.specs.Connection.{ConnectionState, after_end}
use Rattle.connection_core.specs.Items.{AreItemsOf}
use Rattle.connection_core.specs.Outgoing.{Outgoing, Outlet, after_makings, after_writing, waiting_text}
use Rattle.gate_io.specs.Wire.{Link}
use Rattle.lease_core.specs.declared.entry.Entry.{Entry}
use Rattle.message_log.specs.declared.entry.OutEntry.{OutEntry}
use Rattle.resend_plan.specs.declared.item.Names2.{Names2}
use Rattle.resend_plan.specs.declared.item.WireItem.{WireItem}
use Rattle.session_book.specs.Book.{Book}
use Rattle.session_book.specs.Kept.{Kept}
use Rattle.session_book.specs.Spells.{spell_items}
use Rattle.session_core.specs.declared.causes.Cause.{Cause}
use Rattle.session_desk.specs.Steps.{parting}
use Rattle.switchboard.specs.Board.{Board, book_at, connection_at, names_at, no_connection, no_session}
use Rattle.switchboard.specs.Happenings.{EndsBound, EndsUnbound, Happens, Prepares, Writes as WritesBytes}
use Rattle.switchboard.specs.Ready.{IsReady}
use Rattle.wire_desk.proofs.Progress.{same_or_other}
use Rattle.wire_desk.specs.Steps.{PartsIfNeeded, PreparesTo, Sessions, Writes, WritesInTurn, WritesSome, WrittenSoFar, cause_behind}
use Rattle.wire_desk.specs.Texts.{HaveTextsFrom}
use Rattle.wire_desk.specs.declared.written.Written.{Written}

-- what is so of the items of a connection goes on as their texts are made and written
pub record ItemLaws : Type 0 where
  pub make : (names : Names2) (log : List (List OutEntry)) (items : List WireItem) (out : Outgoing) (count : ℕ) → AreItemsOf names log items out → AreItemsOf names log items (after_makings names log count out)
  pub write : (names : Names2) (log : List (List OutEntry)) (items : List WireItem) (out : Outgoing) (n : ℕ) → AreItemsOf names log items out → n ≤ length (waiting_text out) → AreItemsOf names log items (after_writing n out)

-- the items of a session that were queued on what is to be written are those that were queued
abbrev AreItemsStill : Board → ℕ → Outgoing → Outgoing → Type 0
AreItemsStill board s old new = (items : List WireItem) → AreItemsOf (names_at board s) (book_at board s).outbound items old → AreItemsOf (names_at board s) (book_at board s).outbound items new

-- Each session has the names and the outbound log that it had, and each connection names its session, with the items that were queued on it.
record KeepsItems (old new : Board) : Type 0 where
  count : length new.connections ≡ length old.connections
  names : (s : ℕ) → names_at new s ≡ names_at old s
  log : (s : ℕ) → (book_at new s).outbound ≡ (book_at old s).outbound
  bound : (k : ℕ) → k < length old.connections → (connection_at new k).session ≡ (connection_at old k).session
  items : (s k : ℕ) → k < length old.connections → (connection_at old k).session ≡ Some s → AreItemsStill old s (connection_at old k).out.outgoing (connection_at new k).out.outgoing

keeps_itself : (board : Board) → KeepsItems board board
keeps_itself board = record {
  count = refl;
  names = λ s. refl;
  log = λ s. refl;
  bound = λ k within. refl;
  items = λ s k within named items are. are;
}

keeps_same : (old new : Board) → new ≡ old → KeepsItems old new
keeps_same old new same = subst (λ (b : Board). KeepsItems old b) (sym same) (keeps_itself old)

keeps_further : (first second third : Board) → KeepsItems first second → KeepsItems second third → KeepsItems first third
keeps_further first second third one two = record {
  count = two.count ∙ one.count;
  names = λ s. two.names s ∙ one.names s;
  log = λ s. two.log s ∙ one.log s;
  bound = λ k within. two.bound k (subst (λ n. k < n) (sym one.count) within) ∙ one.bound k within;
  items = λ s k within named items are.
      let so_far = one.items s k within named items are in
      let last = (connection_at third k).out.outgoing in
      let there : k < length second.connections = subst (λ n. k < n) (sym one.count) within in
      let still : AreItemsOf (names_at second s) (book_at second s).outbound items last =
      two.items s k there (one.bound k within ∙ named) items
      (subst (λ (names : Names2). AreItemsOf names (book_at second s).outbound items (connection_at second k).out.outgoing) (sym (one.names s))
      (subst (λ (log : List (List OutEntry)). AreItemsOf (names_at first s) log items (connection_at second k).out.outgoing) (sym (one.log s)) so_far)) in
      subst (λ (log : List (List OutEntry)). AreItemsOf (names_at first s) log items last) (one.log s)
      (subst (λ (names : Names2). AreItemsOf names (book_at second s).outbound items last) (one.names s) still);
}

-- one connection becomes another that names the same session
one_keeps : (k : ℕ) (c : ConnectionState) (old new : Board) → new.connections ≡ set old.connections k c → c.session ≡ (connection_at old k).session
    → ((s : ℕ) → names_at new s ≡ names_at old s) → ((s : ℕ) → (book_at new s).outbound ≡ (book_at old s).outbound)
    → ((s : ℕ) → (connection_at old k).session ≡ Some s → AreItemsStill old s (connection_at old k).out.outgoing c.out.outgoing)
    → KeepsItems old new
one_keeps k c old new connections session names log items =
    let here : k < length old.connections → connection_at new k ≡ c =
    λ within. ap (λ (cs : List ConnectionState). get_or cs k no_connection) connections ∙ get_or-set_same old.connections k c no_connection within in
    let there : (j : ℕ) → j ≢ k → connection_at new j ≡ connection_at old j =
    λ j other. ap (λ (cs : List ConnectionState). get_or cs j no_connection) connections ∙ get_or-set_other old.connections k j c no_connection other in
    record {
      count = ap (λ (cs : List ConnectionState). length cs) connections ∙ length-set old.connections k c;
      names = names;
      log = log;
      bound = λ j within. elim (same_or_other j k) [
        | inl e ↦ subst (λ n. (connection_at new n).session ≡ (connection_at old n).session) (sym e)
            (ap (λ (l : ConnectionState). l.session) (here (subst (λ n. n < length old.connections) e within)) ∙ session)
        | inr other ↦ ap (λ (l : ConnectionState). l.session) (there j other)
      ];
      items = λ s j within named. elim (same_or_other j k) [
        | inl e ↦ subst (λ n. AreItemsStill old s (connection_at old n).out.outgoing (connection_at new n).out.outgoing) (sym e)
            (subst (λ (l : ConnectionState). AreItemsStill old s (connection_at old k).out.outgoing l.out.outgoing) (sym (here (subst (λ n. n < length old.connections) e within)))
            (items s (subst (λ n. (connection_at old n).session ≡ Some s) e named)))
        | inr other ↦ subst (λ (l : ConnectionState). AreItemsStill old s (connection_at old j).out.outgoing l.out.outgoing) (sym (there j other)) (λ items are. are)
      ];
    }

same_session : (s i : ℕ) → Some s ≡ Some i → s ≡ i
same_session s i is = cc

module _ (g : ItemLaws) where
  prepared_keeps : (s k : ℕ) (old new : Board) → Prepares s k old new → KeepsItems old new
  prepared_keeps s k old new is =
      let c = record (connection_at old k) { out = (connection_at new k).out } in
      let others = is.changes.others in
      one_keeps k c old new (ap (λ (b : Board). b.connections) others) refl (λ i. ap (λ (b : Board). names_at b i) others) (λ i. ap (λ (b : Board). (book_at b i).outbound) others)
      (λ i named items are.
      let one : s ≡ i = same_session s i (sym is.names ∙ named) in
      let out = (connection_at old k).out.outgoing in
      let made = g.make (names_at old s) (book_at old s).outbound items out is.more.count (subst (λ n. AreItemsOf (names_at old n) (book_at old n).outbound items out) (sym one) are) in
      subst (λ n. AreItemsOf (names_at old n) (book_at old n).outbound items (connection_at new k).out.outgoing) one
      (subst (λ (o : Outgoing). AreItemsOf (names_at old s) (book_at old s).outbound items o) (sym is.more.more) made))

  written_keeps : (k n : ℕ) (old new : Board) → WritesBytes k n old new → KeepsItems old new
  written_keeps k n old new is =
      let c = record (connection_at old k) { out = (connection_at new k).out } in
      let others = is.changes.others in
      one_keeps k c old new (ap (λ (b : Board). b.connections) others) refl (λ i. ap (λ (b : Board). names_at b i) others) (λ i. ap (λ (b : Board). (book_at b i).outbound) others)
      (λ i named items are.
      subst (λ (o : Outgoing). AreItemsOf (names_at old i) (book_at old i).outbound items o) (sym is.outgoing)
      (g.write (names_at old i) (book_at old i).outbound items (connection_at old k).out.outgoing n are is.within))

  -- a session that leaves its connection asks for no byte
  ended_keeps : (s k : ℕ) (cause : Cause) (old new : Board) → EndsBound s k cause old new → KeepsItems old new
  ended_keeps s k cause old new is =
      let sessions = is.unplugged.sessions in
      let kept = get_or new.sessions s no_session in
      let other_book : (i : ℕ) → i ≢ s → book_at new i ≡ book_at old i =
      λ i other. ap (λ (ks : List Kept). (get_or ks i no_session).book) sessions ∙ ap (λ (one : Kept). one.book) (get_or-set_other old.sessions s i kept no_session other) in
      let names_of : Book → Names2 = λ b. record { us = b.machine.names.us; them = b.machine.names.them } in
      one_keeps k (connection_at new k) old new is.unplugged.connections (ap (λ (c : ConnectionState). c.session) is.connection)
      (λ i. elim (same_or_other i s) [
        | inl e ↦ subst (λ n. names_at new n ≡ names_at old n) (sym e) (ap names_of is.book)
        | inr other ↦ ap names_of (other_book i other)
      ])
      (λ i. elim (same_or_other i s) [
        | inl e ↦ subst (λ n. (book_at new n).outbound ≡ (book_at old n).outbound) (sym e) (ap (λ (b : Book). b.outbound) is.book)
        | inr other ↦ ap (λ (b : Book). b.outbound) (other_book i other)
      ])
      (λ i named. subst (λ (o : Outlet). AreItemsStill old i (connection_at old k).out.outgoing o.outgoing) (sym (ap (λ (c : ConnectionState). c.out) is.connection)) (λ items are. are))

  left_keeps : (k : ℕ) (cause : Cause) (old new : Board) → EndsUnbound k cause old new → KeepsItems old new
  left_keeps k cause old new is =
      let others = is.changes.others in
      one_keeps k (after_end cause (connection_at old k)) old new (ap (λ (b : Board). b.connections) others) refl (λ i. ap (λ (b : Board). names_at b i) others)
      (λ i. ap (λ (b : Board). (book_at b i).outbound) others) (λ i named items are. are)

  prepared_to : (session : Option ℕ) (k : ℕ) (old new : Board) → PreparesTo session k old new → KeepsItems old new
  prepared_to None k old new same = keeps_same old new same
  prepared_to (Some s) k old new is = prepared_keeps s k old new is.0

  written_some : (k n : ℕ) (old new : Board) → WritesSome k n old new → KeepsItems old new
  written_some k n old new some = elim some [
    | inl none ↦ keeps_same old new none.1
    | inr wrote ↦ written_keeps k n old new wrote
  ]

  parted : (session : Option ℕ) (k : ℕ) (cause : Cause) (old new : Board) → Happens (parting session k cause) old new → KeepsItems old new
  parted (Some s) k cause old new is = ended_keeps s k cause old new is
  parted None k cause old new is = left_keeps k cause old new is

  parted_if_needed : (cause : Option Cause) (k : ℕ) (old new : Board) → PartsIfNeeded cause k old new → KeepsItems old new
  parted_if_needed None k old new same = keeps_same old new same
  parted_if_needed (Some cause) k old new is = parted (connection_at old k).session k cause old new is

  written_once : (written : Written) (k : ℕ) (link_old link_new : Link) (old new : Sessions) → Writes written k link_old link_new old new → KeepsItems old.desk.board new.desk.board
  written_once written k link_old link_new old new is =
      let board = old.desk.board in
      let wrote = is.wrote.board in
      keeps_further board is.prepared new.desk.board (prepared_to (connection_at board k).session k board is.prepared is.prepares)
      (keeps_further is.prepared wrote new.desk.board (written_some k written.bytes is.prepared wrote is.writes)
      (parted_if_needed (cause_behind written.stop (connection_at wrote k)) k wrote new.desk.board is.ends))

  written_in_turn : (places : List ℕ) (count : ℕ) (old new : WrittenSoFar) → WritesInTurn places count old new → KeepsItems old.sessions.desk.board new.sessions.desk.board
  written_in_turn places zero old new same = keeps_same old.sessions.desk.board new.sessions.desk.board (ap (λ (so_far : WrittenSoFar). so_far.sessions.desk.board) same)
  written_in_turn places (suc count) old new steps =
      let middle = steps.0 in
      keeps_further old.sessions.desk.board middle.sessions.desk.board new.sessions.desk.board (written_in_turn places count old middle steps.1)
      (written_once steps.2.written (get_or places count 0) _ _ middle.sessions new.sessions steps.2.writes)

  pub texts_begin : (before : ℕ → List Entry) (places : List ℕ) (count : ℕ) (old new : WrittenSoFar) → WritesInTurn places count old new → IsReady before old.sessions.desk.board
      → HaveTextsFrom before old.sessions.desk.board new.sessions.desk.board
  texts_begin before places count old new writes ready s k within named =
      let board = old.sessions.desk.board in
      let was = ready.texts s k within named in
      record {
        added = was.added;
        entries_are = was.entries_are;
        past = was.past;
        spell = was.spell;
        later = was.later;
        spells = was.spells;
        connection = was.connection;
        sent = was.sent;
        items = (written_in_turn places count old new writes).items s k within named (spell_items (book_at board s).outbound was.spell) was.items;
        stands = was.stands;
        other = was.other;
      }
