-- What a word adds to a journal and to the outbound log goes together.
use Rattle.std.proofs.Common.{◌≡◌, ℕ, zero, suc, ◌+◌, ◌-◌, ◌≤◌, ◌<◌, Bool, true, false, if◌then◌else◌, List, [], ◌∷◌, ◌++◌, length, get_or, None, Some, refl, sym, ap, subst, ◌∙◌, arith, append_assoc}
use Rattle.std.specs.Prelude.{◌==◌}
use Rattle.std.specs.List.{All, slice_get}
use Rattle.std.proofs.lemmas.Bool.{cond-false, ne_eqb}
use Rattle.std.proofs.lemmas.List.{length-map}
use Rattle.std.proofs.lemmas.List.Elements.{All-head, All-tail}
use Rattle.connection_core.specs.Outgoing.{Outgoing, with_items}
use Rattle.lease_core.specs.Laws.{EntriesDecide}
use Rattle.lease_core.specs.Lines.{entries_after_hold, entries_after_sends, entries_after_standing, entries_after_timeout, entries_after_word, is_news, news_count}
use Rattle.lease_core.specs.Runs.{owes_hold}
use Rattle.lease_core.specs.State.{SentMore, last_or, one_more, sent_in_series, state_of, with_last}
use Rattle.lease_core.specs.declared.entry.Entry.{Entry}
use Rattle.lease_core.specs.declared.word.Standing.{Standing}
use Rattle.lease_core.specs.declared.word.Standing.TheVariants.{Active, Released, Revoked}
use Rattle.lease_core.specs.declared.word.Word.{Word}
use Rattle.message_log.specs.Series.{entry_at, entry_in, series_at, with_entry}
use Rattle.message_log.specs.declared.entry.OutEntry.{OutEntry}
use Rattle.resend_plan.specs.Fit.{HasFitBodies, IsFit}
use Rattle.fix_fields.specs.declared.limits.TheConstants.{LONGEST_NAME}
use Rattle.resend_plan.specs.declared.item.WireItem.{WireItem}
use Rattle.resend_plan.specs.declared.item.WireItem.TheVariants.{New}
use Rattle.session_core.specs.State.{State}
use Rattle.session_book.specs.Book.{Book, next_number}
use Rattle.session_book.specs.Kept.{IsBook}
use Rattle.session_book.specs.Words.{new_items, sent_entry, with_sends}
use Rattle.session_book.proofs.Books.{lengths, lengths_pushed, series_pushed}

-- so many more in the last series
abbrev pub pushes : ℕ → List ℕ → List ℕ
pushes zero ns = ns
pushes (suc m) ns = with_last one_more (pushes m ns)

pushes_first : (m : ℕ) (ns : List ℕ) → pushes m (with_last one_more ns) ≡ with_last one_more (pushes m ns)
pushes_first zero ns = refl
pushes_first (suc m) ns = ap (λ xs. with_last one_more xs) (pushes_first m ns)

pub lengths_sent : (at : ℕ) (bodies : List (List ℕ)) (log : List (List OutEntry)) → 1 ≤ length log → lengths (with_sends at bodies log) ≡ pushes (length bodies) (lengths log)
lengths_sent at [] log h = refl
lengths_sent at (body ∷ bodies) log h =
    lengths_sent at bodies (with_entry log (sent_entry at body)) (series_pushed log (sent_entry at body))
    ∙ ap (λ ns. pushes (length bodies) ns) (lengths_pushed log (sent_entry at body) h)
    ∙ pushes_first (length bodies) (lengths log)

pub begun_sent : (at : ℕ) (bodies : List (List ℕ)) (log : List (List OutEntry)) → 1 ≤ length log → 1 ≤ length (with_sends at bodies log)
begun_sent at [] log h = h
begun_sent at (body ∷ bodies) log h = begun_sent at bodies (with_entry log (sent_entry at body)) (series_pushed log (sent_entry at body))

pub last_changed : (d : ℕ) (ns : List ℕ) → 1 ≤ length ns → last_or d (with_last one_more ns) ≡ last_or d ns + 1
last_changed d [] h = absurd (omega arith)
last_changed d (n ∷ []) h = refl
last_changed d (n ∷ (m ∷ ns)) h = last_changed n (m ∷ ns) (omega arith)

pub length_changed : (ns : List ℕ) → length (with_last one_more ns) ≡ length ns
length_changed [] = refl
length_changed (n ∷ []) = refl
length_changed (n ∷ (m ∷ ns)) = ap (λ k. suc k) (length_changed (m ∷ ns))

length_pushes : (m : ℕ) (ns : List ℕ) → length (pushes m ns) ≡ length ns
length_pushes zero ns = refl
length_pushes (suc m) ns = length_changed (pushes m ns) ∙ length_pushes m ns

last_pushed : (m : ℕ) (ns : List ℕ) → 1 ≤ length ns → last_or 0 (pushes m ns) ≡ last_or 0 ns + m
last_pushed zero ns h = omega arith
last_pushed (suc m) ns h =
    let more = last_changed 0 (pushes m ns) (subst (λ k. 1 ≤ k) (sym (length_pushes m ns)) h) in
    let before = last_pushed m ns h in omega arith

pub series_is : (log : List (List OutEntry)) (k : ℕ) → 0 < k → series_at log k ≡ get_or log (k - 1) []
series_is log k h = cond-false (k == 0) [] (get_or log (k - 1) []) (ne_eqb k 0 (λ e. omega arith))

last_got : (entries : List OutEntry) (later : List (List OutEntry)) → last_or 0 (lengths (entries ∷ later)) ≡ length (get_or (entries ∷ later) (length later) [])
last_got entries [] = refl
last_got entries (next ∷ later) = last_got next later

-- the length of the present series
pub last_length : (log : List (List OutEntry)) → 1 ≤ length log → last_or 0 (lengths log) ≡ length (series_at log (length log))
last_length [] h = absurd (omega arith)
last_length (entries ∷ later) h =
    let log = entries ∷ later in
    let one_less : length log - 1 ≡ length later = omega arith in
    last_got entries later ∙ sym (ap length (series_is log (length log) (omega arith) ∙ ap (λ k. get_or log k []) one_less))

pub fit_sent : ((log : List (List OutEntry)) (entry : OutEntry) → HasFitBodies log → IsFit entry.body → HasFitBodies (with_entry log entry))
    → (at : ℕ) (bodies : List (List ℕ)) (log : List (List OutEntry)) → All IsFit bodies → HasFitBodies log → HasFitBodies (with_sends at bodies log)
fit_sent law at [] log are fit = fit
fit_sent law at (body ∷ bodies) log are fit =
    fit_sent law at bodies (with_entry log (sent_entry at body)) (All-tail IsFit body bodies are) (law log (sent_entry at body) fit (All-head IsFit body bodies are))

-- the items that are still to come
pub items_to_come : (series first k n : ℕ) → k < n → new_items series (first + k) (n - k) ≡ New series (first + k) ∷ new_items series (first + (k + 1)) (n - (k + 1))
items_to_come series first k n h =
    let more : n - k ≡ suc (n - (k + 1)) = omega arith in
    let next : first + k + 1 ≡ first + (k + 1) = omega arith in
    ap (λ m. new_items series (first + k) m) more ∙ ap (λ f. New series (first + k) ∷ new_items series f (n - (k + 1))) next

-- one that was queued stands before those that are still to come
pub queued_before : (out : Outgoing) (item : WireItem) (items : List WireItem) → with_items items (with_items (item ∷ []) out) ≡ with_items (item ∷ items) out
queued_before out item items = ap (λ (unmade : List WireItem). record out { unmade = unmade }) (append_assoc out.unmade (item ∷ []) items)

-- these entries have some more sends than those, in the present series
abbrev pub HasMore : List Entry → List Entry → Type 0
HasMore entries after = (m : ℕ) × ((state_of after).series ≡ pushes m (state_of entries).series)

module _ (decide : EntriesDecide) where
  pub series_sent : (m : ℕ) (entries : List Entry) → (state_of (entries_after_sends m entries)).series ≡ pushes m (state_of entries).series
  series_sent zero entries = refl
  series_sent (suc m) entries = ap (λ s. s.series) (decide (entries_after_sends m entries) _) ∙ ap (λ ns. with_last one_more ns) (series_sent m entries)

  pub series_stood : (standing : Standing) (owner : ℕ) (entries : List Entry) → (state_of (entries_after_standing standing owner entries)).series ≡ (state_of entries).series
  series_stood Active owner entries = refl
  series_stood Released owner entries = ap (λ s. s.series) (decide entries _)
  series_stood Revoked owner entries = refl

  more_if : (b : Bool) (entries after : List Entry) → HasMore entries after → HasMore entries (if b then after else entries)
  more_if true entries after more = more
  more_if false entries after more = (0, refl)

  more_by_word : (entries : List Entry) (w : Word) → HasMore entries (entries_after_word entries w)
  unfolding entries_after_word
  more_by_word entries w =
      more_if (is_news entries w) entries _ (news_count entries w, series_stood w.standing w.owner (entries_after_sends (news_count entries w) entries) ∙ series_sent (news_count entries w) entries)

  series_if : (b : Bool) (entries after : List Entry) → (state_of after).series ≡ (state_of entries).series → (state_of (if b then after else entries)).series ≡ (state_of entries).series
  series_if true entries after same = same
  series_if false entries after same = refl

  pub series_held : (until : ℕ) (entries : List Entry) → (state_of (entries_after_hold until entries)).series ≡ (state_of entries).series
  series_held until entries = series_if (owes_hold (state_of entries).latest) entries _ (ap (λ s. s.series) (decide entries _))

  pub series_timed : (standing : Standing) (entries : List Entry) → (state_of (entries_after_timeout standing entries)).series ≡ (state_of entries).series
  series_timed Active entries = ap (λ s. s.series) (decide entries _)
  series_timed Released entries = refl
  series_timed Revoked entries = refl

  pub more_shown : (until : ℕ) (entries : List Entry) (w : Word) → HasMore entries (entries_after_hold until (entries_after_word entries w))
  more_shown until entries w = let more = more_by_word entries w in (more.0, series_held until (entries_after_word entries w) ∙ more.1)

  pub more_timed : (standing : Standing) (until : ℕ) (entries : List Entry) (w : Word) → HasMore entries (entries_after_timeout standing (entries_after_hold until (entries_after_word entries w)))
  more_timed standing until entries w = let more = more_shown until entries w in (more.0, series_timed standing _ ∙ more.1)

-- what holds of a session is kept
pub news_is_book :
    (book : Book) (machine : State) (leases : ℕ) (entries : List Entry) (n at : ℕ) (bodies : List (List ℕ)) (outbound : List (List OutEntry))
    → IsBook book
    → machine.phase ≡ book.machine.phase
    → machine.names ≡ book.machine.names
    → HasMore book.entries entries
    → SentMore n (state_of book.entries) (state_of entries)
    → n ≡ length bodies
    → outbound ≡ with_sends at bodies book.outbound
    → HasFitBodies (with_sends at bodies book.outbound)
    → IsBook (record { machine = machine; leases = leases; entries = entries; inbound = book.inbound; outbound = outbound })
news_is_book book machine leases entries n at bodies outbound is phase_is names_are more sent count outbound_is fit =
    let some : 1 ≤ length (state_of book.entries).series = subst (λ (ns : List ℕ). 1 ≤ length ns) is.outbound (let same = length-map book.outbound (λ es. length es) in let begun = is.begun in omega arith) in
    let same_count : more.0 ≡ length bodies = (let found = ap (λ ns. last_or 0 ns) more.1 ∙ last_pushed more.0 (state_of book.entries).series some in let told = sent.number in omega arith) in
    record {
      inbound = is.inbound ∙ sym sent.inbound;
      outbound = ap lengths outbound_is ∙ lengths_sent at bodies book.outbound is.begun ∙ ap (λ ns. pushes (length bodies) ns) is.outbound ∙ ap (λ m. pushes m (state_of book.entries).series) (sym same_count) ∙ sym more.1;
      begun = subst (λ log. 1 ≤ length log) (sym outbound_is) (begun_sent at bodies book.outbound is.begun);
      off = λ none. phase_is ∙ is.off (sym sent.bound ∙ none);
      fit = subst HasFitBodies (sym outbound_is) fit;
      us = subst (λ names. length names.us ≤ LONGEST_NAME) (sym names_are) is.us;
      them = subst (λ names. length names.them ≤ LONGEST_NAME) (sym names_are) is.them;
    }

-- the journal's count of the present series is the log's
pub next_is : (book : Book) → IsBook book → sent_in_series (state_of book.entries) + 1 ≡ next_number book
next_is book is = ap (λ n. n + 1) (ap (λ ns. last_or 0 ns) (sym is.outbound) ∙ last_length book.outbound is.begun)

-- the entry that was pushed is the one of the next number
pub got_last : {T : Type 0} (xs : List T) (x : T) → slice_get (xs ++ x ∷ []) (length xs) ≡ Some x
got_last [] x = refl
got_last (y ∷ xs) x = got_last xs x

pushed_last : (entries : List OutEntry) (later : List (List OutEntry)) (e : OutEntry) → get_or (with_entry (entries ∷ later) e) (length later) [] ≡ get_or (entries ∷ later) (length later) [] ++ e ∷ []
pushed_last entries [] e = refl
pushed_last entries (next ∷ later) e = pushed_last next later e

-- the present series has the entry behind those that it had
pub present : (log : List (List OutEntry)) (e : OutEntry) → 1 ≤ length log → series_at (with_entry log e) (length log) ≡ series_at log (length log) ++ e ∷ []
present [] e h = absurd (omega arith)
present (entries ∷ later) e h =
    let log = entries ∷ later in
    let one_less : length log - 1 ≡ length later = omega arith in
    series_is (with_entry log e) (length log) (omega arith)
    ∙ ap (λ k. get_or (with_entry log e) k []) one_less
    ∙ pushed_last entries later e
    ∙ ap (λ es. es ++ e ∷ []) (sym (series_is log (length log) (omega arith) ∙ ap (λ k. get_or log k []) one_less))

entry_behind : (entries : List OutEntry) (e : OutEntry) → entry_in (entries ++ e ∷ []) (length entries + 1) ≡ Some e
entry_behind entries e =
    let one_less : length entries + 1 - 1 ≡ length entries = omega arith in
    cond-false (length entries + 1 == 0) None (slice_get (entries ++ e ∷ []) (length entries + 1 - 1)) (ne_eqb (length entries + 1) 0 (λ z. omega arith))
    ∙ ap (λ k. slice_get (entries ++ e ∷ []) k) one_less
    ∙ got_last entries e

pub named : (log : List (List OutEntry)) (e : OutEntry) → 1 ≤ length log → entry_at (with_entry log e) (length log) (length (series_at log (length log)) + 1) ≡ Some e
named log e h = ap (λ entries. entry_in entries (length (series_at log (length log)) + 1)) (present log e h) ∙ entry_behind (series_at log (length log)) e
