-- Nothing but a write changes what is written of a connection.
use Rattle.std.proofs.Common.{◌≡◌, ℕ, zero, suc, ◌≤◌, List, [], ◌∷◌, get_or, length, false, None, Some, refl, sym, ap, ◌∙◌, arith, length-append}
use Rattle.std.proofs.lemmas.List.{take-append-le}
use Rattle.connection_core.specs.Connection.{ConnectionState, after_end as after_cause, after_next, after_taking, fresh, fresh_dial}
use Rattle.connection_core.specs.Outgoing.{Outgoing, after_makings, item_text, with_first_text, written_text}
use Rattle.lease_core.specs.declared.entry.Entry.{Entry}
use Rattle.lease_core.specs.declared.event.Event.TheVariants.{Binds as Bound}
use Rattle.session_book.specs.OutEntry.{OutEntry}
use Rattle.session_book.specs.Names2.{Names2}
use Rattle.session_book.specs.WireItem.{WireItem}
use Rattle.session_core.specs.Receive.{after_receive, receive}
use Rattle.session_core.specs.Tick.{after_tick, tick}
use Rattle.session_core.specs.declared.acts.Act.{Act}
use Rattle.session_core.specs.declared.acts.Act.TheVariants.{Accept, Resend, Reset, Send}
use Rattle.session_core.specs.declared.causes.Cause.{Cause}
use Rattle.session_book.specs.Acts.{after_act, after_acts, after_message, after_ticking}
use Rattle.session_book.specs.Book.{Book, Desk, with_event, with_machine, with_outbox}
use Rattle.session_book.specs.Words.{after_timeout, after_word}
use Rattle.switchboard.specs.Board.{Board, book_at, connection_at, desk_at, desk_with, names_at, outgoing_at, place_at}
use Rattle.switchboard.specs.Going.{IsWrittenAsBefore, is_writing}
use Rattle.switchboard.specs.Happenings.{BindsTo, BookChanges, ConnectionChanges, EndsBound, Happening, Happens, SessionGoesOn, accepts, answers, binds, binds_and_ends, dials, ends_bound, ends_unbound, gives, lapses, prepares, receives, requests, reserves, shows, takes, ticks, times_out, writes}
use Rattle.switchboard.specs.Ready.{IsReady}
use Rattle.switchboard.proofs.Going.{LinesGoOn, change_lines, line_more, lines_further, one_line, outbox_lines, same_lines}

-- what is written of a session's connection stays as it was, since items are queued alone
abbrev IsOnlyQueued : Desk → Desk → Type 0
IsOnlyQueued old new = written_text new.outgoing ≡ written_text old.outgoing

act_queues : (at : ℕ) (act : Act) (desk : Desk) → IsOnlyQueued desk (after_act at act desk)
act_queues at (Accept body) desk = refl
act_queues at (Send admin) desk = refl
act_queues at (Resend begin last) desk = refl
act_queues at Reset desk = refl

acts_queue : (at : ℕ) (acts : List Act) (desk : Desk) → IsOnlyQueued desk (after_acts at acts desk)
acts_queue at [] desk = refl
acts_queue at (act ∷ acts) desk = acts_queue at acts (after_act at act desk) ∙ act_queues at act desk

message_queues : (at : ℕ) (body : List ℕ) (desk : Desk) → IsOnlyQueued desk (after_message at body desk)
message_queues at body desk =
    let machine = desk.book.machine in
    acts_queue at (receive machine body at).acts (with_outbox (with_machine (after_receive machine body at) desk.book) desk.outgoing)

tick_queues : (at : ℕ) (desk : Desk) → IsOnlyQueued desk (after_ticking at desk)
tick_queues at desk =
    let machine = desk.book.machine in
    acts_queue at (tick machine at).acts (with_outbox (with_machine (after_tick machine at) desk.book) desk.outgoing)

-- as texts are made, they come behind what is written
record IsBehind (old new : Outgoing) : Type 0 where
  written : written_text new ≡ written_text old
  within : new.written ≤ length new.text

first_behind : (names : Names2) (log : List (List OutEntry)) (items : List WireItem) (out : Outgoing) → out.written ≤ length out.text → IsBehind out (with_first_text names log items out)
first_behind names log [] out within = record { written = refl; within = within }
first_behind names log (item ∷ items) out within = record {
  written = take-append-le out.written out.text (item_text names log item) within;
  within = omega (arith, length-append out.text (item_text names log item));
}

makings_behind : (names : Names2) (log : List (List OutEntry)) (count : ℕ) (out : Outgoing) → out.written ≤ length out.text → IsBehind out (after_makings names log count out)
makings_behind names log zero out within = record { written = refl; within = within }
makings_behind names log (suc count) out within =
    let made = after_makings names log count out in
    let so_far = makings_behind names log count out within in
    let next = first_behind names log made.unmade made so_far.within in
    record { written = next.written ∙ so_far.written; within = next.within }

as_before : (c : ConnectionState) → IsWrittenAsBefore c c
as_before c = refl

as_before_further : (a b c : ConnectionState) → IsWrittenAsBefore a b → IsWrittenAsBefore b c → IsWrittenAsBefore a c
as_before_further a b c one two = two ∙ one

abbrev AreWrittenAsBefore : Board → Board → Type 0
AreWrittenAsBefore old new = LinesGoOn IsWrittenAsBefore old new

-- a session goes on, with what is queued on its connection
going_writes : (s : ℕ) (old new : Board) (made : Desk) → SessionGoesOn s old new → desk_at new s ≡ made → IsOnlyQueued (desk_at old s) made → AreWrittenAsBefore old new
going_writes s old new made goes desk queued =
    let places : place_at new s ≡ place_at old s = ap (λ places. get_or places s None) goes.others.places in
    let stays : written_text (outgoing_at new (place_at new s)) ≡ written_text (outgoing_at old (place_at old s)) = ap (λ (d : Desk). written_text d.outgoing) desk ∙ queued in
    outbox_lines IsWrittenAsBefore as_before (place_at old s) old new goes.others.connections
    (λ k at.
    ap (λ place. written_text (outgoing_at new place)) (sym (places ∙ at)) ∙ stays ∙ ap (λ place. written_text (outgoing_at old place)) at)

binding_writes : (s k : ℕ) (body : List ℕ) (at : ℕ) (old new : Board) → BindsTo s k body at old new → AreWrittenAsBefore old new
binding_writes s k body at old new is =
    let number = (connection_at old k).number in
    let desk = desk_with old s (Some k) in
    one_line IsWrittenAsBefore as_before k (connection_at new k) old new is.plugged.connections
    (ap (λ (d : Desk). written_text d.outgoing) is.desk ∙ message_queues at body (with_outbox (with_event (Bound number) desk.book) desk.outgoing))

leaving_writes : (s k : ℕ) (cause : Cause) (old new : Board) → EndsBound s k cause old new → AreWrittenAsBefore old new
leaving_writes s k cause old new is =
    one_line IsWrittenAsBefore as_before k (connection_at new k) old new is.unplugged.connections (ap (λ (c : ConnectionState). written_text c.out.outgoing) is.connection)

alone_writes : (s : ℕ) (made : Book) (old new : Board) → BookChanges s made old new → AreWrittenAsBefore old new
alone_writes s made old new changes = same_lines IsWrittenAsBefore as_before old new (ap (λ (b : Board). b.connections) changes.others)

changing_writes : (k : ℕ) (c : ConnectionState) (old new : Board) → ConnectionChanges k c old new → IsWrittenAsBefore (connection_at old k) c → AreWrittenAsBefore old new
changing_writes = change_lines IsWrittenAsBefore as_before

pub written_before : (before : ℕ → List Entry) (happening : Happening) (old new : Board) → is_writing happening ≡ false → Happens happening old new → IsReady before old → AreWrittenAsBefore old new
written_before before (accepts number at) old new apart is ready =
    line_more IsWrittenAsBefore as_before (fresh number at (connection_at new (length old.connections)).out) old new (ap (λ (b : Board). b.connections) is.connection)
written_before before (dials s number at) old new apart is ready = line_more IsWrittenAsBefore as_before (fresh_dial number at s (connection_at new (length old.connections)).out) old new is.connection
written_before before (takes k bytes) old new apart is ready = changing_writes k (after_taking bytes (connection_at old k)) old new is.changes refl
written_before before (gives k) old new apart is ready = changing_writes k (after_next (connection_at old k)) old new is.changes refl
written_before before (binds s k body at) old new apart is ready = binding_writes s k body at old new is.binding
written_before before (binds_and_ends s k body at cause) old new apart is ready =
    lines_further IsWrittenAsBefore as_before_further old is.between new (binding_writes s k body at old is.between is.binding) (leaving_writes s k cause is.between new is.leaves)
written_before before (receives s k body at) old new apart is ready = going_writes s old new (after_message at body (desk_at old s)) is.goes_on is.desk (message_queues at body (desk_at old s))
written_before before (answers k) old new apart is ready = changing_writes k _ old new is refl
written_before before (ticks s at) old new apart is ready = going_writes s old new (after_ticking at (desk_at old s)) is.goes_on is.desk (tick_queues at (desk_at old s))
written_before before (shows s w bodies at until) old new apart is ready = going_writes s old new (after_word at until w bodies (desk_at old s)) is.goes_on is.desk refl
written_before before (times_out s w bodies at until) old new apart is ready = going_writes s old new (after_timeout at until w bodies (desk_at old s)) is.goes_on is.desk refl
written_before before (requests s library nr from) old new apart is ready = alone_writes s _ old new is
written_before before (lapses s) old new apart is ready = alone_writes s _ old new is
written_before before (ends_unbound k cause) old new apart is ready = changing_writes k (after_cause cause (connection_at old k)) old new is.changes refl
written_before before (ends_bound s k cause) old new apart is ready = leaving_writes s k cause old new is
written_before before (prepares s k) old new apart is ready =
    let names = names_at old s in
    let log = (book_at old s).outbound in
    let out = (connection_at old k).out.outgoing in
    let within : out.written ≤ length out.text = (ready.texts s k is.changes.within is.names).items.within in
    changing_writes k _ old new is.changes (ap written_text is.more.more ∙ (makings_behind names log is.more.count out within).written)
written_before before (writes k n) old new apart is ready = absurd (cc)
written_before before (reserves s) old new apart is ready = going_writes s old new (desk_at old s) is.goes_on is.desk refl
