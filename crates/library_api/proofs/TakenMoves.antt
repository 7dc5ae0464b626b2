-- What a poll does to a lease of a session.
use Rattle.std.proofs.Common.{◌≡◌, ◌≢◌, ℕ, ◌+◌, ◌<◌, ◌==◌, List, [], ◌∷◌, ◌++◌, length, Bool, true, false, ◌&&◌, nat_le, nat_lt, if◌then◌else◌, refl, sym, ap, ◌∙◌, subst, inl, inr, arith}
use Rattle.std.specs.Prelude.{Option, Some, None, option_to_list}
use Rattle.std.proofs.lemmas.Bool.{eqb-true, eqb-false}
use Rattle.lease_core.specs.declared.messages.Notice.{Notice}
use Rattle.lease_core.specs.declared.messages.Notice.TheVariants as notices
use Rattle.lease_core.specs.declared.word.Word.{Word}
use Rattle.library_api.specs.declared.event.Event.{Event}
use Rattle.library_api.specs.declared.event.Event.TheVariants as events
use Rattle.library_api.specs.declared.reading.Message.{Message}
use Rattle.library_api.specs.declared.reading.Reading.{Reading}
use Rattle.library_api.specs.Known.{Known, no_reading, reading_at, held, holds}
use Rattle.library_api.specs.Polls.{Found, Polled, shows, saw_word, saw_published, with_request_closed, after_taking_up, after_grant, after_published, after_message, after_notice, after_poll, taken_up, notice_of, message_event, notice_event, event_of}
use Rattle.library_api.specs.Calls.{Call, polls, popped_beside, popped_of, reading_by}
use Rattle.library_api.specs.Reads.{is_of, read_by, kept_notice, notices_of, IsSeated}
use Rattle.library_api.proofs.EventCauses.{held_event}
use Rattle.library_api.proofs.TakenUp.{event_at}
use Rattle.library_api.proofs.Readings.{follow}
use Rattle.library_api.proofs.Moves.{Move, stays, passes, grants, goes_on, skips}

-- the three answers to whether a lease is the one that is spoken of
of_is : (s lease t other : ℕ) (here this : Bool) → (t == s) ≡ here → (other == lease) ≡ this → is_of s lease t other ≡ (here && this)
of_is s lease t other here this at is = ap (λ (b : Bool). b && (other == lease)) at ∙ ap (λ (b : Bool). here && b) is

-- a reading that became that of another lease, and one that was lost
became : (s lease other next : ℕ) (r' : Reading) → (other == lease) ≡ false → r' ≡ record { lease = other; next = next } → r'.lease ≢ lease
became s lease other next r' apart is = λ e. eqb-false other lease apart (sym (ap (λ (x : Reading). x.lease) is) ∙ e)

pub was_lost : (lease : ℕ) (r' : Reading) → 0 < lease → r' ≡ no_reading → r'.lease ≢ lease
was_lost lease r' some is = λ e. let none : 0 ≡ lease = sym (ap (λ (x : Reading). x.lease) is) ∙ e in omega arith

granted_move : (s lease nr t other from start : ℕ) (r r' : Reading) (ns ns' : List Notice) (here this : Bool) → (t == s) ≡ here → (other == lease) ≡ this
    → r' ≡ (if here then record { lease = other; next = from } else r) → ns ≡ notices.Granted nr t other from start ∷ ns' → Move s lease r r' [] ns ns'
granted_move s lease nr t other from start r r' ns ns' true true at is goes split =
    grants nr t other from start (of_is s lease t other true true at is) (inl (goes ∙ ap (λ (l : ℕ). record { lease = l; next = from }) (eqb-true other lease is))) refl split
granted_move s lease nr t other from start r r' ns ns' true false at is goes split =
    passes (notices.Granted nr t other from start) (of_is s lease t other true false at is) (inr (became s lease other from r' is goes)) refl split
granted_move s lease nr t other from start r r' ns ns' false this at is goes split =
    passes (notices.Granted nr t other from start) (of_is s lease t other false this at is) (inl goes) refl split

lost_grant_move : (s lease nr t other from start : ℕ) (r r' : Reading) (ns ns' : List Notice) (here this : Bool) → 0 < lease → (t == s) ≡ here → (other == lease) ≡ this
    → r' ≡ (if here then no_reading else r) → ns ≡ notices.Granted nr t other from start ∷ ns' → Move s lease r r' [] ns ns'
lost_grant_move s lease nr t other from start r r' ns ns' true true some at is goes split =
    grants nr t other from start (of_is s lease t other true true at is) (inr (was_lost lease r' some goes)) refl split
lost_grant_move s lease nr t other from start r r' ns ns' true false some at is goes split =
    passes (notices.Granted nr t other from start) (of_is s lease t other true false at is) (inr (was_lost lease r' some goes)) refl split
lost_grant_move s lease nr t other from start r r' ns ns' false this some at is goes split =
    passes (notices.Granted nr t other from start) (of_is s lease t other false this at is) (inl goes) refl split

lost_message_move : (s lease t other pos : ℕ) (bytes : List ℕ) (r r' : Reading) (ns ns' : List Notice) (here this : Bool) → 0 < lease → (t == s) ≡ here → (other == lease) ≡ this
    → r' ≡ (if here then no_reading else r) → ns ≡ notices.Message t other pos bytes ∷ ns' → Move s lease r r' [] ns ns'
lost_message_move s lease t other pos bytes r r' ns ns' true true some at is goes split =
    skips t other pos bytes (of_is s lease t other true true at is) (was_lost lease r' some goes) refl split
lost_message_move s lease t other pos bytes r r' ns ns' true false some at is goes split =
    passes (notices.Message t other pos bytes) (of_is s lease t other true false at is) (inr (was_lost lease r' some goes)) refl split
lost_message_move s lease t other pos bytes r r' ns ns' false this some at is goes split =
    passes (notices.Message t other pos bytes) (of_is s lease t other false this at is) (inl goes) refl split

-- a message of a lease that isn't held
stale_move : (s lease t other pos : ℕ) (bytes : List ℕ) (r r' : Reading) (ns ns' : List Notice) (here this : Bool) → (t == s) ≡ here → (other == lease) ≡ this
    → (t ≡ s → other ≡ lease → r.lease ≢ lease) → r' ≡ r → ns ≡ notices.Message t other pos bytes ∷ ns' → Move s lease r r' [] ns ns'
stale_move s lease t other pos bytes r r' ns ns' true true at is un same split =
    skips t other pos bytes (of_is s lease t other true true at is)
    (subst (λ (x : Reading). x.lease ≢ lease) (sym same) (un (eqb-true t s at) (eqb-true other lease is))) refl split
stale_move s lease t other pos bytes r r' ns ns' true false at is un same split =
    passes (notices.Message t other pos bytes) (of_is s lease t other true false at is) (inl same) refl split
stale_move s lease t other pos bytes r r' ns ns' false this at is un same split =
    passes (notices.Message t other pos bytes) (of_is s lease t other false this at is) (inl same) refl split

-- and one that is handed on
handed_move : (s lease t other pos : ℕ) (bytes : List ℕ) (r r' : Reading) (reads : List ℕ) (ns ns' : List Notice) (here this : Bool) → (t == s) ≡ here → (other == lease) ≡ this
    → (t ≡ s → other ≡ lease → r.lease ≡ lease) → r' ≡ (if here then record { lease = other; next = pos + 1 } else r) → reads ≡ (if here && this then pos ∷ [] else [])
    → ns ≡ notices.Message t other pos bytes ∷ ns' → Move s lease r r' reads ns ns'
handed_move s lease t other pos bytes r r' reads ns ns' true true at is has goes one split =
    goes_on t other pos bytes (of_is s lease t other true true at is) (has (eqb-true t s at) (eqb-true other lease is))
    (goes ∙ ap (λ (l : ℕ). record { lease = l; next = pos + 1 }) (eqb-true other lease is)) one split
handed_move s lease t other pos bytes r r' reads ns ns' true false at is has goes none split =
    passes (notices.Message t other pos bytes) (of_is s lease t other true false at is) (inr (became s lease other (pos + 1) r' is goes)) none split
handed_move s lease t other pos bytes r r' reads ns ns' false this at is has goes none split =
    passes (notices.Message t other pos bytes) (of_is s lease t other false this at is) (inl goes) none split

-- what is kept after an event
abbrev kept_by : Event → Option Notice → List Notice
kept_by events.Nothing n = []
kept_by (events.NotYet t pos published) n = option_to_list n
kept_by (events.Granted nr t lease from start) n = []
kept_by (events.Refused nr t why) n = []
kept_by (events.Message t lease pos bytes) n = []
kept_by (events.Stale t lease pos) n = []
kept_by (events.LeaseLost t lease seen) n = []

held_at : (lease h : ℕ) → 0 < lease → (nat_lt 0 lease && (h == lease)) ≡ false → h ≢ lease
held_at lease h some un = λ same. grind (arith, un, some, same)

has_at : (lease h : ℕ) → (nat_lt 0 lease && (h == lease)) ≡ true → h ≡ lease
has_at lease h has = grind (arith, has)

un_held : (s lease t other : ℕ) (k : Known) (r : Reading) → 0 < lease → held k s ≡ r.lease → holds k t other ≡ false → t ≡ s → other ≡ lease → r.lease ≢ lease
un_held s lease t other k r some seated un at is =
    subst (λ (h : ℕ). h ≢ lease) seated (held_at lease (held k s) some
    (subst (λ (l : ℕ). holds k s l ≡ false) is (subst (λ (j : ℕ). holds k j other ≡ false) at un)))

has_held : (s lease t other : ℕ) (k : Known) (r : Reading) → held k s ≡ r.lease → holds k t other ≡ true → t ≡ s → other ≡ lease → r.lease ≡ lease
has_held s lease t other k r seated has at is =
    sym seated ∙ has_at lease (held k s) (subst (λ (l : ℕ). holds k s l ≡ true) is (subst (λ (j : ℕ). holds k j other ≡ true) at has))

held_moves : (s lease : ℕ) (k : Known) (m : Message) (early shown : Bool) (found : Found) (r r' : Reading) (ns ns' rest : List Notice) → 0 < lease → held k s ≡ r.lease
    → holds k m.s m.lease ≡ true → r' ≡ reading_by s (held_event m early shown found) r → ns ≡ notice_of m ∷ rest
    → ns' ≡ kept_by (held_event m early shown found) (Some (notice_of m)) ++ rest
    → Move s lease r r' (read_by s lease (held_event m early shown found)) ns ns'
held_moves s lease k m true shown found r r' ns ns' rest some seated is goes split after = stays goes refl (split ∙ sym after)
held_moves s lease k m false true found r r' ns ns' rest some seated is goes split after =
    handed_move s lease m.s m.lease m.pos m.bytes r r' (if is_of s lease m.s m.lease then m.pos ∷ [] else []) ns ns' (m.s == s) (m.lease == lease) refl refl
    (has_held s lease m.s m.lease k r seated is) goes refl (split ∙ ap (λ (xs : List Notice). notice_of m ∷ xs) (sym after))
held_moves s lease k m false false found r r' ns ns' rest some seated is goes split after =
    lost_message_move s lease m.s m.lease m.pos m.bytes r r' ns ns' (m.s == s) (m.lease == lease) some refl refl goes (split ∙ ap (λ (xs : List Notice). notice_of m ∷ xs) (sym after))

message_moves : (s lease : ℕ) (k : Known) (m : Message) (h shown : Bool) (found : Found) (r r' : Reading) (ns ns' rest : List Notice) → 0 < lease → held k s ≡ r.lease
    → holds k m.s m.lease ≡ h → r' ≡ reading_by s (message_event m h shown found) r → ns ≡ notice_of m ∷ rest
    → ns' ≡ kept_by (message_event m h shown found) (Some (notice_of m)) ++ rest
    → Move s lease r r' (read_by s lease (message_event m h shown found)) ns ns'
message_moves s lease k m false shown found r r' ns ns' rest some seated is goes split after =
    stale_move s lease m.s m.lease m.pos m.bytes r r' ns ns' (m.s == s) (m.lease == lease) refl refl (un_held s lease m.s m.lease k r some seated is) goes
    (split ∙ ap (λ (xs : List Notice). notice_of m ∷ xs) (sym after))
message_moves s lease k m true shown found r r' ns ns' rest some seated is goes split after =
    held_moves s lease k m (nat_le found.published m.pos) shown found r r' ns ns' rest some seated is goes split after

grant_moves : (s lease nr t other from start : ℕ) (shown : Bool) (seen : Word) (r r' : Reading) (ns ns' rest : List Notice) → 0 < lease
    → r' ≡ reading_by s (if shown then events.Granted nr t other from start else events.LeaseLost t other seen) r → ns ≡ notices.Granted nr t other from start ∷ rest
    → ns' ≡ kept_by (if shown then events.Granted nr t other from start else events.LeaseLost t other seen) (Some (notices.Granted nr t other from start)) ++ rest
    → Move s lease r r' (read_by s lease (if shown then events.Granted nr t other from start else events.LeaseLost t other seen)) ns ns'
grant_moves s lease nr t other from start true seen r r' ns ns' rest some goes split after =
    granted_move s lease nr t other from start r r' ns ns' (t == s) (other == lease) refl refl goes (split ∙ ap (λ (xs : List Notice). notices.Granted nr t other from start ∷ xs) (sym after))
grant_moves s lease nr t other from start false seen r r' ns ns' rest some goes split after =
    lost_grant_move s lease nr t other from start r r' ns ns' (t == s) (other == lease) some refl refl goes (split ∙ ap (λ (xs : List Notice). notices.Granted nr t other from start ∷ xs) (sym after))

notice_moves : (s lease : ℕ) (k : Known) (found : Found) (n : Option Notice) (r r' : Reading) (ns ns' rest : List Notice) → 0 < lease → held k s ≡ r.lease
    → r' ≡ reading_by s (notice_event k found n) r → ns ≡ option_to_list n ++ rest → ns' ≡ kept_by (notice_event k found n) n ++ rest
    → Move s lease r r' (read_by s lease (notice_event k found n)) ns ns'
notice_moves s lease k found None r r' ns ns' rest some seated goes split after = stays goes refl (split ∙ sym after)
notice_moves s lease k found (Some (notices.Granted nr t other from start)) r r' ns ns' rest some seated goes split after =
    grant_moves s lease nr t other from start (shows k.ends.seat.knows.number other found.word) found.word r r' ns ns' rest some goes split after
notice_moves s lease k found (Some (notices.Refused nr t why)) r r' ns ns' rest some seated goes split after =
    passes (notices.Refused nr t why) refl (inl goes) refl (split ∙ ap (λ (xs : List Notice). notices.Refused nr t why ∷ xs) (sym after))
notice_moves s lease k found (Some (notices.Message t other pos bytes)) r r' ns ns' rest some seated goes split after =
    message_moves s lease k (record { s = t; lease = other; pos = pos; bytes = bytes }) (holds k t other) (shows k.ends.seat.knows.number other found.word) found r r' ns ns' rest some seated refl goes split after

-- the notice that is taken up stands first among those that are kept or popped
taken_first : (kept : Option Message) (popped : Option Notice) (rest : List Notice)
    → kept_notice kept ++ (popped_beside kept popped ++ rest) ≡ option_to_list (taken_up kept popped) ++ rest
taken_first None popped rest = refl
taken_first (Some m) popped rest = refl

-- and what is kept then
kept_grant : (k : Known) (s lease from : ℕ) (b : Bool) → (after_grant k s lease from b).kept ≡ k.kept
kept_grant k s lease from true = refl
kept_grant k s lease from false = refl

kept_published : (k : Known) (m : Message) (b : Bool) → (after_published k m b).kept ≡ k.kept
kept_published k m true = refl
kept_published k m false = refl

no_kept : (k k' : Known) → k'.kept ≡ k.kept → k.kept ≡ None → kept_notice k'.kept ≡ []
no_kept k k' same none = ap (λ (o : Option Message). kept_notice o) (same ∙ none)

by_grant : (nr t lease from start : ℕ) (seen : Word) (n : Option Notice) (b : Bool) → kept_by (if b then events.Granted nr t lease from start else events.LeaseLost t lease seen) n ≡ []
by_grant nr t lease from start seen n true = refl
by_grant nr t lease from start seen n false = refl

by_published : (m : Message) (found : Found) (n : Option Notice) (b : Bool) → kept_by (held_event m false b found) n ≡ []
by_published m found n true = refl
by_published m found n false = refl

kept_held : (k : Known) (m : Message) (e shown : Bool) (found : Found) → k.kept ≡ None
    → kept_notice (if e then record (saw_published k m.s found.published) { kept = Some m } else after_published (saw_word (saw_published k m.s found.published) m.s found.word) m shown).kept
    ≡ kept_by (held_event m e shown found) (Some (notice_of m))
kept_held k m true shown found none = refl
kept_held k m false shown found none =
    let k2 = saw_word (saw_published k m.s found.published) m.s found.word in
    no_kept k (after_published k2 m shown) (kept_published k2 m shown) none ∙ sym (by_published m found (Some (notice_of m)) shown)

kept_message : (k : Known) (m : Message) (h shown : Bool) (found : Found) → k.kept ≡ None
    → kept_notice (after_message k m h shown found).kept ≡ kept_by (message_event m h shown found) (Some (notice_of m))
kept_message k m false shown found none = no_kept k k refl none
kept_message k m true shown found none = kept_held k m (nat_le found.published m.pos) shown found none

kept_then : (k : Known) (found : Found) (n : Option Notice) → k.kept ≡ None → kept_notice (after_notice k found n).kept ≡ kept_by (notice_event k found n) n
kept_then k found None none = no_kept k k refl none
kept_then k found (Some (notices.Granted nr t lease from start)) none =
    let shown = shows k.ends.seat.knows.number lease found.word in
    let k2 = saw_word (with_request_closed k) t found.word in
    no_kept k (after_grant k2 t lease from shown) (kept_grant k2 t lease from shown) none
    ∙ sym (by_grant nr t lease from start found.word (Some (notices.Granted nr t lease from start)) shown)
kept_then k found (Some (notices.Refused nr t why)) none = no_kept k k refl none
kept_then k found (Some (notices.Message t lease pos bytes)) none =
    kept_message k (record { s = t; lease = lease; pos = pos; bytes = bytes }) (holds k t lease) (shows k.ends.seat.knows.number lease found.word) found none

kept_poll : (k : Known) (o : Polled) → kept_notice (after_poll k o).kept ≡ kept_by (event_of k o) (taken_up k.kept o.popped)
kept_poll k o =
    let k1 = after_taking_up k o.pushed o.popped in
    let n = taken_up k.kept o.popped in
    kept_then k1 o.found n refl ∙ ap (λ (e : Event). kept_by e n) (event_at k k.kept o.pushed o.popped o.found n)

pub poll_moves : (s lease : ℕ) (k : Known) (o : Polled) (cs : List Call) → 0 < lease → s < length k.readings → IsSeated s k
    → Move s lease (reading_at k s) (reading_at (after_poll k o) s) (read_by s lease (event_of k o)) (notices_of k (polls o ∷ cs)) (notices_of (after_poll k o) cs)
poll_moves s lease k o cs some within seated =
    let rest = popped_of (after_poll k o) cs in
    notice_moves s lease k o.found (taken_up k.kept o.popped) (reading_at k s) (reading_at (after_poll k o) s) (notices_of k (polls o ∷ cs)) (notices_of (after_poll k o) cs) rest
    some seated (follow s k o within) (taken_first k.kept o.popped rest) (ap (λ (xs : List Notice). xs ++ rest) (kept_poll k o))
