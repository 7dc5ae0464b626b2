-- What is logged of a library's sends goes on with each event.
use Rattle.std.proofs.Common.{◌≡◌, ℕ, ◌+◌, Bool, true, false, if◌then◌else◌, List, [], ◌∷◌, ◌++◌, length, fold, map, Option, Some, is_some, unwrap_or, refl, sym, ap, subst, ◌∙◌, append_assoc, arith}
use Rattle.std.specs.Prelude.{◌==◌}
use Rattle.std.specs.List.{All, flat_map}
use Rattle.std.proofs.lemmas.Bool.{false≢true}
use Rattle.std.proofs.lemmas.Grind.{flat_map-append}
use Rattle.std.proofs.lemmas.List.{append-nil}
use Rattle.std.proofs.lemmas.List.Elements.{All-append, All-cons, All-head, All-nil, All-tail}
use Rattle.lease_core.specs.Lines.{entries_after_hold, entries_after_send, entries_after_sends, entries_after_standing, entries_after_timeout, entries_after_word, is_news, news_count}
use Rattle.lease_core.specs.Runs.{owes_hold}
use Rattle.lease_core.specs.State.{State as Totals, last_lease, last_or, lease_with_send, no_lease, sent_in_series, series_of, state_after, state_of, with_last}
use Rattle.lease_core.specs.Steps.{entry_with, hold_entry, send_entry}
use Rattle.lease_core.specs.declared.entry.Entry.{Entry}
use Rattle.lease_core.specs.declared.entry.Entry.TheVariants.{Arrive, Admin, Bind, Plan, Leave, Reset, Granted, Refused, Send, Release, Timeout, Hold, Lapse}
use Rattle.lease_core.specs.declared.lease.Lease.{Lease}
use Rattle.lease_core.specs.declared.messages.Reply.{Reply}
use Rattle.lease_core.specs.declared.messages.Reply.TheVariants.{Granted as ToGranted, Refused as ToRefused}
use Rattle.lease_core.specs.declared.word.Standing.{Standing}
use Rattle.lease_core.specs.declared.word.Standing.TheVariants.{Active, Released, Revoked}
use Rattle.lease_core.specs.declared.word.Word.{Word}
use Rattle.message_log.specs.Growth.{GoesOn}
use Rattle.message_log.specs.Series.{entry_at, with_entry}
use Rattle.message_log.specs.declared.entry.OutEntry.{OutEntry}
use Rattle.resend_plan.specs.Wire.{no_entry}
use Rattle.session_core.specs.declared.acts.Act.{Act}
use Rattle.session_core.specs.declared.acts.Act.TheVariants.{Accept, Resend, Reset as Restart, Send as SendAct}
use Rattle.session_book.specs.Book.{Book}
use Rattle.session_book.specs.Sends.{AreSendsOf, HasSend, IsLoggedSend, new_sends, sent_at, sent_by}
use Rattle.session_book.specs.Spells.{Placed, placed, placed_from}
use Rattle.session_book.specs.Told.{TellActs, TellsAct}
use Rattle.session_book.specs.Words.{sent_entry, shown_sends, with_sends}
use Rattle.session_book.specs.Grounds.{RunGrounds}
use Rattle.session_book.proofs.News.{named}
use Rattle.session_book.proofs.Runs.{Makes, entries_behind}
use Rattle.session_book.proofs.Spells.{placed_join}
use Rattle.session_book.proofs.Telling.{LogsAgree, agree_sent, news_is, sends_from_first, sent_is, series_are}

abbrev is_send : Entry → Bool
is_send (Send lease owner ordinal number) = true
is_send _ = false

-- an entry that is no send
abbrev pub NoSend : Entry → Type 0
NoSend e = is_send e ≡ false

no_send : (library : ℕ) (log : List (List OutEntry)) (s : Totals) (e : Entry) → NoSend e → sent_by library log s e ≡ []
no_send library log s (Arrive pos) is = refl
no_send library log s (Admin number) is = refl
no_send library log s (Bind c) is = refl
no_send library log s (Plan begin last at) is = refl
no_send library log s (Leave c) is = refl
no_send library log s (Reset series) is = refl
no_send library log s (Granted by nr lease from start) is = refl
no_send library log s (Refused by nr why) is = refl
no_send library log s (Send lease owner ordinal number) is = absurd (false≢true (sym is))
no_send library log s (Release lease owner count heir) is = refl
no_send library log s (Timeout lease owner count) is = refl
no_send library log s (Hold lease until) is = refl
no_send library log s (Lapse lease) is = refl

logged_none : (log : List (List OutEntry)) (s : Totals) (e : Entry) → NoSend e → IsLoggedSend log s e
logged_none log s (Arrive pos) is = tt
logged_none log s (Admin number) is = tt
logged_none log s (Bind c) is = tt
logged_none log s (Plan begin last at) is = tt
logged_none log s (Leave c) is = tt
logged_none log s (Reset series) is = tt
logged_none log s (Granted by nr lease from start) is = tt
logged_none log s (Refused by nr why) is = tt
logged_none log s (Send lease owner ordinal number) is = absurd (false≢true (sym is))
logged_none log s (Release lease owner count heir) is = tt
logged_none log s (Timeout lease owner count) is = tt
logged_none log s (Hold lease until) is = tt
logged_none log s (Lapse lease) is = tt

none_sent : (library : ℕ) (log : List (List OutEntry)) (s : Totals) (es : List Entry) → All NoSend es → flat_map (sent_at library log) (placed_from s es) ≡ []
none_sent library log s [] are = refl
none_sent library log s (e ∷ es) are =
    ap (λ found. found ++ flat_map (sent_at library log) (placed_from (state_after s e) es)) (no_send library log s e (All-head NoSend e es are))
    ∙ none_sent library log (state_after s e) es (All-tail NoSend e es are)

none_logged : (log : List (List OutEntry)) (s : Totals) (es : List Entry) → All NoSend es → All (HasSend log) (placed_from s es)
none_logged log s [] are = All-nil (HasSend log)
none_logged log s (e ∷ es) are =
    All-cons (HasSend log) (placed s e) (placed_from (state_after s e) es) (logged_none log s e (All-head NoSend e es are)) (none_logged log (state_after s e) es (All-tail NoSend e es are))

one_no_send : (inbound : List (List ℕ)) (log : List (List OutEntry)) (s : Totals) (act : Act) (e : Entry) → TellsAct inbound log s act e → NoSend e
one_no_send inbound log s (Accept body) e is = ap is_send is.1.0
one_no_send inbound log s (SendAct message) e is = ap is_send is.1.0
one_no_send inbound log s (Resend begin last) e is = ap is_send is.1
one_no_send inbound log s Restart e is = ap is_send is.1

-- the acts of the session machine are no sends
pub acts_no_sends : (inbound : List (List ℕ)) (log : List (List OutEntry)) (s : Totals) (acts : List Act) (es : List Entry) → TellActs inbound log s acts es → All NoSend es
acts_no_sends inbound log s [] [] is = All-nil NoSend
acts_no_sends inbound log s [] (e ∷ es) is = absurd is
acts_no_sends inbound log s (act ∷ acts) [] is = absurd is
acts_no_sends inbound log s (act ∷ acts) (e ∷ es) is = All-cons NoSend e es (one_no_send inbound log s act e is.0) (acts_no_sends inbound log (state_after s e) acts es is.1)

pub reply_no_send : (library nr from : ℕ) (reply : Reply) → NoSend (entry_with library nr from reply)
reply_no_send library nr from (ToGranted lease start) = refl
reply_no_send library nr from (ToRefused why) = refl

-- the library of the last lease stays as it sends
library_sends : (none : Lease) (leases : List Lease) → (last_or none (with_last lease_with_send leases)).library ≡ (last_or none leases).library
library_sends none [] = refl
library_sends none (l ∷ []) = refl
library_sends none (l ∷ (next ∷ more)) = library_sends l (next ∷ more)

abbrev owner_in : List Entry → ℕ
owner_in entries = (last_lease (state_of entries).leases).library

both_sent : (b : Bool) (sends more : List OutEntry) (entry : OutEntry) → (sends ++ (if b then entry ∷ [] else [])) ++ (if b then more else []) ≡ sends ++ (if b then entry ∷ more else [])
both_sent true sends more entry = append_assoc sends (entry ∷ []) more
both_sent false sends more entry = ap (λ found. found ++ []) (append-nil sends)

nothing_sent : (b : Bool) (sends : List OutEntry) → sends ++ (if b then [] else []) ≡ sends
nothing_sent true sends = append-nil sends
nothing_sent false sends = append-nil sends

module _ (r : RunGrounds) where
  sent_stays : (library : ℕ) (earlier later : List (List OutEntry)) (s : Totals) (e : Entry) → GoesOn earlier later → IsLoggedSend earlier s e → sent_by library later s e ≡ sent_by library earlier s e
  sent_stays library earlier later s (Arrive pos) on is = refl
  sent_stays library earlier later s (Admin number) on is = refl
  sent_stays library earlier later s (Bind c) on is = refl
  sent_stays library earlier later s (Plan begin last at) on is = refl
  sent_stays library earlier later s (Leave c) on is = refl
  sent_stays library earlier later s (Reset series) on is = refl
  sent_stays library earlier later s (Granted by nr lease from start) on is = refl
  sent_stays library earlier later s (Refused by nr why) on is = refl
  sent_stays library earlier later s (Send lease owner ordinal number) on is =
      ap (λ (o : Option OutEntry). if owner == library then unwrap_or o no_entry ∷ [] else []) (r.stay earlier later (series_of s) number on is)
  sent_stays library earlier later s (Release lease owner count heir) on is = refl
  sent_stays library earlier later s (Timeout lease owner count) on is = refl
  sent_stays library earlier later s (Hold lease until) on is = refl
  sent_stays library earlier later s (Lapse lease) on is = refl

  logged_stays : (earlier later : List (List OutEntry)) (s : Totals) (e : Entry) → GoesOn earlier later → IsLoggedSend earlier s e → IsLoggedSend later s e
  logged_stays earlier later s (Arrive pos) on is = tt
  logged_stays earlier later s (Admin number) on is = tt
  logged_stays earlier later s (Bind c) on is = tt
  logged_stays earlier later s (Plan begin last at) on is = tt
  logged_stays earlier later s (Leave c) on is = tt
  logged_stays earlier later s (Reset series) on is = tt
  logged_stays earlier later s (Granted by nr lease from start) on is = tt
  logged_stays earlier later s (Refused by nr why) on is = tt
  logged_stays earlier later s (Send lease owner ordinal number) on is = ap (λ (o : Option OutEntry). is_some o) (r.stay earlier later (series_of s) number on is) ∙ is
  logged_stays earlier later s (Release lease owner count heir) on is = tt
  logged_stays earlier later s (Timeout lease owner count) on is = tt
  logged_stays earlier later s (Hold lease until) on is = tt
  logged_stays earlier later s (Lapse lease) on is = tt

  all_sent : (library : ℕ) (earlier later : List (List OutEntry)) (ps : List Placed) → GoesOn earlier later → All (HasSend earlier) ps → flat_map (sent_at library later) ps ≡ flat_map (sent_at library earlier) ps
  all_sent library earlier later [] on are = refl
  all_sent library earlier later (p ∷ ps) on are =
      ap (λ found. found ++ flat_map (sent_at library later) ps) (sent_stays library earlier later p.before p.entry on (All-head (HasSend earlier) p ps are))
      ∙ ap (λ found. sent_at library earlier p ++ found) (all_sent library earlier later ps on (All-tail (HasSend earlier) p ps are))

  all_logged : (earlier later : List (List OutEntry)) (ps : List Placed) → GoesOn earlier later → All (HasSend earlier) ps → All (HasSend later) ps
  all_logged earlier later [] on are = All-nil (HasSend later)
  all_logged earlier later (p ∷ ps) on are =
      All-cons (HasSend later) p ps (logged_stays earlier later p.before p.entry on (All-head (HasSend earlier) p ps are)) (all_logged earlier later ps on (All-tail (HasSend earlier) p ps are))

  sends_go_on : (library : ℕ) (before : List Entry) (sends : List OutEntry) (old new : Book) (added : List Entry) → AreSendsOf library before sends old → Makes r old new added
      → All (HasSend new.outbound) (placed_from (state_of old.entries) added)
      → AreSendsOf library before (sends ++ flat_map (sent_at library new.outbound) (placed_from (state_of old.entries) added)) new
  sends_go_on library before sends old new added are makes logged =
      let log = new.outbound in
      let s = state_of before in
      let t : fold state_after s are.added ≡ state_of old.entries = sym (r.logs.decide_over before are.added) ∙ ap state_of (sym are.entries_are) in
      let joined : placed_from s (are.added ++ added) ≡ placed_from s are.added ++ placed_from (state_of old.entries) added =
      placed_join s are.added added ∙ ap (λ found. placed_from s are.added ++ placed_from found added) t in
      record {
        added = are.added ++ added;
        entries_are = entries_behind r before are.added old new added are.entries_are makes;
        logged = subst (All (HasSend log)) (sym joined)
            (All-append (HasSend log) (placed_from s are.added) (placed_from (state_of old.entries) added) (all_logged old.outbound log (placed_from s are.added) makes.outbound are.logged) logged);
        sends_are = ap (λ ps. flat_map (sent_at library log) ps) joined
            ∙ flat_map-append (sent_at library log) (placed_from s are.added) (placed_from (state_of old.entries) added)
            ∙ ap (λ found. found ++ flat_map (sent_at library log) (placed_from (state_of old.entries) added)) (all_sent library old.outbound log (placed_from s are.added) makes.outbound are.logged ∙ are.sends_are);
      }

  -- what sends nothing
  pub aside_sends : (library : ℕ) (before : List Entry) (sends : List OutEntry) (old new : Book) (added : List Entry) → AreSendsOf library before sends old → Makes r old new added → All NoSend added
      → AreSendsOf library before sends new
  aside_sends library before sends old new added are makes none =
      subst (λ found. AreSendsOf library before found new)
      (ap (λ found. sends ++ found) (none_sent library new.outbound (state_of old.entries) added none) ∙ append-nil sends)
      (sends_go_on library before sends old new added are makes (none_logged new.outbound (state_of old.entries) added none))

  abbrev with_one : ℕ → List ℕ → Book → Book
  with_one at body book = record book { entries = entries_after_send book.entries; outbound = with_entry book.outbound (sent_entry at body) }

  abbrev with_all : ℕ → List (List ℕ) → Book → Book
  with_all at bodies book = record book { entries = entries_after_sends (length bodies) book.entries; outbound = with_sends at bodies book.outbound }

  -- one send
  one_send : (library : ℕ) (before : List Entry) (sends : List OutEntry) (at : ℕ) (body : List ℕ) (book : Book) → LogsAgree book → AreSendsOf library before sends book
      → AreSendsOf library before (sends ++ (if owner_in book.entries == library then sent_entry at body ∷ [] else [])) (with_one at body book)
  one_send library before sends at body book is are =
      let s = state_of book.entries in
      let log = book.outbound in
      let entry = sent_entry at body in
      let next = with_one at body book in
      let found : entry_at (with_entry log entry) (series_of s) (sent_in_series s + 1) ≡ Some entry =
      ap (λ k. entry_at (with_entry log entry) k (sent_in_series s + 1)) (series_are book is) ∙ ap (λ n. entry_at (with_entry log entry) (length log) (n + 1)) (sent_is book is) ∙ named log entry is.begun in
      let makes : Makes r book next (send_entry s ∷ []) = record { entries_are = refl; more = []; inbound = sym (append-nil book.inbound); outbound = r.logs.entry log entry } in
      let logged : IsLoggedSend (with_entry log entry) s (send_entry s) = ap (λ (o : Option OutEntry). is_some o) found in
      let told : flat_map (sent_at library (with_entry log entry)) (placed_from s (send_entry s ∷ [])) ≡ (if owner_in book.entries == library then entry ∷ [] else []) =
      append-nil (sent_by library (with_entry log entry) s (send_entry s))
      ∙ ap (λ (o : Option OutEntry). if owner_in book.entries == library then unwrap_or o no_entry ∷ [] else []) found in
      subst (λ more. AreSendsOf library before (sends ++ more) next) told
      (sends_go_on library before sends book next (send_entry s ∷ []) are makes (All-cons (HasSend (with_entry log entry)) (placed s (send_entry s)) [] logged (All-nil (HasSend (with_entry log entry)))))

  all_sends : (library : ℕ) (before : List Entry) (sends : List OutEntry) (at : ℕ) (bodies : List (List ℕ)) (book : Book) → LogsAgree book → AreSendsOf library before sends book
      → AreSendsOf library before (sends ++ new_sends library book at bodies) (with_all at bodies book)
  all_sends library before sends at [] book is are = subst (λ found. AreSendsOf library before found book) (sym (nothing_sent (owner_in book.entries == library) sends)) are
  all_sends library before sends at (body ∷ bodies) book is are =
      let next = with_one at body book in
      let b = owner_in book.entries == library in
      let one = if b then sent_entry at body ∷ [] else [] in
      let rest = all_sends library before (sends ++ one) at bodies next (agree_sent r.logs at body book is) (one_send library before sends at body book is are) in
      let owner : owner_in next.entries ≡ owner_in book.entries = ap (λ t. (last_lease t.leases).library) (r.logs.decide book.entries _) ∙ library_sends no_lease (state_of book.entries).leases in
      let joined : (sends ++ one) ++ new_sends library next at bodies ≡ sends ++ new_sends library book at (body ∷ bodies) =
      ap (λ o. (sends ++ one) ++ (if o == library then map (sent_entry at) bodies else [])) owner ∙ both_sent b sends (map (sent_entry at) bodies) (sent_entry at body) in
      subst (λ found. AreSendsOf library before found (with_all at (body ∷ bodies) book)) joined
      (subst (λ es. AreSendsOf library before ((sends ++ one) ++ new_sends library next at bodies) (record book { entries = es; outbound = with_sends at bodies next.outbound })) (sends_from_first r.logs (length bodies) book.entries) rest)

  abbrev with_entries : List Entry → Book → Book
  with_entries entries book = record book { entries = entries }

  one_aside : (library : ℕ) (before : List Entry) (sends : List OutEntry) (book : Book) (e : Entry) → AreSendsOf library before sends book → NoSend e → AreSendsOf library before sends (with_entries (book.entries ++ e ∷ []) book)
  one_aside library before sends book e are none =
      aside_sends library before sends book (with_entries (book.entries ++ e ∷ []) book) (e ∷ []) are
      (record { entries_are = refl; more = []; inbound = sym (append-nil book.inbound); outbound = r.logs.itself book.outbound })
      (All-cons NoSend e [] none (All-nil NoSend))

  stood_sends : (library : ℕ) (before : List Entry) (sends : List OutEntry) (standing : Standing) (owner : ℕ) (book : Book) → AreSendsOf library before sends book
      → AreSendsOf library before sends (with_entries (entries_after_standing standing owner book.entries) book)
  stood_sends library before sends Active owner book are = are
  stood_sends library before sends Released owner book are = one_aside library before sends book _ are refl
  stood_sends library before sends Revoked owner book are = are

  held_if : (library : ℕ) (before : List Entry) (sends : List OutEntry) (b : Bool) (until : ℕ) (book : Book) → AreSendsOf library before sends book
      → AreSendsOf library before sends (with_entries (if b then book.entries ++ hold_entry (state_of book.entries) until ∷ [] else book.entries) book)
  held_if library before sends true until book are = one_aside library before sends book _ are refl
  held_if library before sends false until book are = are

  timed_sends : (library : ℕ) (before : List Entry) (sends : List OutEntry) (standing : Standing) (book : Book) → AreSendsOf library before sends book
      → AreSendsOf library before sends (with_entries (entries_after_timeout standing book.entries) book)
  timed_sends library before sends Active book are = one_aside library before sends book _ are refl
  timed_sends library before sends Released book are = are
  timed_sends library before sends Revoked book are = are

  word_if : (library : ℕ) (before : List Entry) (sends : List OutEntry) (at : ℕ) (b : Bool) (w : Word) (bodies : List (List ℕ)) (book : Book) → LogsAgree book → AreSendsOf library before sends book
      → length bodies ≡ (if b then news_count book.entries w else 0)
      → AreSendsOf library before (sends ++ new_sends library book at bodies)
      (record book { entries = if b then entries_after_standing w.standing w.owner (entries_after_sends (news_count book.entries w) book.entries) else book.entries; outbound = with_sends at bodies book.outbound })
  word_if library before sends at true w bodies book is are count =
      subst (λ n. AreSendsOf library before (sends ++ new_sends library book at bodies) (record book { entries = entries_after_standing w.standing w.owner (entries_after_sends n book.entries); outbound = with_sends at bodies book.outbound })) count
      (stood_sends library before (sends ++ new_sends library book at bodies) w.standing w.owner (with_all at bodies book) (all_sends library before sends at bodies book is are))
  word_if library before sends at false w [] book is are count = all_sends library before sends at [] book is are
  word_if library before sends at false w (body ∷ bodies) book is are count = absurd (omega arith)

  pub shown_book : (library : ℕ) (before : List Entry) (sends : List OutEntry) (at until : ℕ) (w : Word) (bodies : List (List ℕ)) (book : Book) → LogsAgree book → AreSendsOf library before sends book
      → length bodies ≡ shown_sends book.entries w
      → AreSendsOf library before (sends ++ new_sends library book at bodies) (record book { entries = entries_after_hold until (entries_after_word book.entries w); outbound = with_sends at bodies book.outbound })
  unfolding entries_after_word
  shown_book library before sends at until w bodies book is are count =
      let b = is_news book.entries w in
      let shown = if b then entries_after_standing w.standing w.owner (entries_after_sends (news_count book.entries w) book.entries) else book.entries in
      held_if library before (sends ++ new_sends library book at bodies) (owes_hold (state_of shown).latest) until (record book { entries = shown; outbound = with_sends at bodies book.outbound })
      (word_if library before sends at b w bodies book is are (count ∙ sym (news_is r.logs book.entries w)))

  pub timed_book : (library : ℕ) (before : List Entry) (sends : List OutEntry) (at until : ℕ) (w : Word) (bodies : List (List ℕ)) (book : Book) → LogsAgree book → AreSendsOf library before sends book
      → length bodies ≡ shown_sends book.entries w
      → AreSendsOf library before (sends ++ new_sends library book at bodies)
      (record book { entries = entries_after_timeout w.standing (entries_after_hold until (entries_after_word book.entries w)); outbound = with_sends at bodies book.outbound })
  timed_book library before sends at until w bodies book is are count =
      timed_sends library before (sends ++ new_sends library book at bodies) w.standing
      (record book { entries = entries_after_hold until (entries_after_word book.entries w); outbound = with_sends at bodies book.outbound })
      (shown_book library before sends at until w bodies book is are count)

-- it speaks of the journal and the outbound log alone
pub same_sends : (library : ℕ) (before : List Entry) (sends : List OutEntry) (old new : Book) → new.entries ≡ old.entries → new.outbound ≡ old.outbound → AreSendsOf library before sends old → AreSendsOf library before sends new
same_sends library before sends old new entries outbound are = record {
  added = are.added;
  entries_are = entries ∙ are.entries_are;
  logged = subst (λ log. All (HasSend log) (placed_from (state_of before) are.added)) (sym outbound) are.logged;
  sends_are = ap (λ log. flat_map (sent_at library log) (placed_from (state_of before) are.added)) outbound ∙ are.sends_are;
}
