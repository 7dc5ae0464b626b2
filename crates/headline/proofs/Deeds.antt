-- What a journal tells that a library did is what its calls were answered.
use Rattle.std.proofs.Common.{◌≡◌, ℕ, Bool, true, false, List, [], ◌∷◌, ◌++◌, map, Ok, Err, refl, ap, sym, ◌∙◌}
use Rattle.std.proofs.lemmas.Grind.{flat_map-append}
use Rattle.std.proofs.lemmas.List.{map-append}
use Rattle.std.proofs.lemmas.List.Elements.{filter-append}
use Rattle.std.specs.List.{flat_map}
use Rattle.std.specs.Prelude.{◌==◌, if◌then◌else◌}
use Rattle.engine_end.specs.Records.{SessionLeft}
use Rattle.headline.specs.Deeds.{Deed, deed_at, deed_called, deed_of, deeds_called, deeds_told, gave_back, sent}
use Rattle.headline.specs.Headline.{sends_of}
use Rattle.lease_core.specs.Deeds.{deeds_in, deeds_of, deeds_of_library, library_of}
use Rattle.lease_core.specs.Laws.{LibraryDeedsAreTold}
use Rattle.lease_core.specs.Lines.{lines_of}
use Rattle.lease_core.specs.Runs.{IsRun}
use Rattle.lease_core.specs.State.{State as Totals, series_of, state_after, state_of}
use Rattle.lease_core.specs.declared.entry.Entry.{Entry}
use Rattle.lease_core.specs.declared.entry.Entry.TheVariants.{Admin, Arrive, Bind, Granted, Hold, Lapse, Leave, Plan, Refused, Release, Reset, Send, Timeout}
use Rattle.lease_core.specs.declared.lease.Deed.TheVariants.{GaveBack, Sent, TookBack}
use Rattle.library_api.specs.Calls.{Deed as Done, did_give, did_send}
use Rattle.library_api.specs.Posts.{Post}
use Rattle.engine_laws.specs.libraries.Sends.{logged_bodies}
use Rattle.message_log.specs.declared.entry.OutEntry.{OutEntry}
use Rattle.resend_plan.specs.Wire.{entry_of}
use Rattle.headline.specs.runs.Deeds.{deed_kept, deeds_in_lines, deeds_kept, own_deed, own_deeds}
use Rattle.headline.specs.runs.Reports.{post_kept, posts_kept}
use Rattle.run_report.specs.declared.calls.Call.{Call as Kept}
use Rattle.run_report.specs.declared.calls.Call.TheVariants as calls
use Rattle.session_book.specs.Sends.{sent_at, sent_by}
use Rattle.session_book.specs.Spells.{logged_body, placed_from}

-- a deed without its body, and the bodies
abbrev done : Deed → Done
done (sent lease ordinal body) = did_send lease ordinal
done (gave_back lease count heir) = did_give lease count heir

abbrev body_of : Deed → List (List ℕ)
body_of (sent lease ordinal body) = body ∷ []
body_of (gave_back lease count heir) = []

abbrev bodies_of : List Deed → List (List ℕ)
bodies_of deeds = flat_map body_of deeds

-- both tell the deeds
heads : {A : Type 0} (x y : A) (xs ys : List A) → x ∷ xs ≡ y ∷ ys → x ≡ y
heads x y xs ys same = cc

tails : {A : Type 0} (x y : A) (xs ys : List A) → x ∷ xs ≡ y ∷ ys → xs ≡ ys
tails x y xs ys same = cc

none_some : {A : Type 0} (y : A) (ys : List A) → [] ≡ y ∷ ys → ⊥
none_some y ys same = (cc)

some_none : {A : Type 0} (x : A) (xs : List A) → x ∷ xs ≡ [] → ⊥
some_none x xs same = (cc)

same_deeds : (xs ys : List Deed) → map done xs ≡ map done ys → bodies_of xs ≡ bodies_of ys → xs ≡ ys
same_deeds [] [] deeds bodies = refl
same_deeds [] (y ∷ ys) deeds bodies = absurd (none_some (done y) (map done ys) deeds)
same_deeds (x ∷ xs) [] deeds bodies = absurd (some_none (done x) (map done xs) deeds)
same_deeds (sent lease ordinal body ∷ xs) (sent other_lease other_ordinal other_body ∷ ys) deeds bodies =
    let deed : did_send lease ordinal ≡ did_send other_lease other_ordinal = heads (did_send lease ordinal) (did_send other_lease other_ordinal) (map done xs) (map done ys) deeds in
    let lease_is : lease ≡ other_lease = cc in
    let ordinal_is : ordinal ≡ other_ordinal = cc in
    let body_is : body ≡ other_body = heads body other_body (bodies_of xs) (bodies_of ys) bodies in
    let rest = same_deeds xs ys (tails (did_send lease ordinal) (did_send other_lease other_ordinal) (map done xs) (map done ys) deeds) (tails body other_body (bodies_of xs) (bodies_of ys) bodies) in
    (λ i. sent (lease_is i) (ordinal_is i) (body_is i) ∷ rest i)
same_deeds (sent lease ordinal body ∷ xs) (gave_back other_lease count heir ∷ ys) deeds bodies =
    (let deed : did_send lease ordinal ≡ did_give other_lease count heir = heads (did_send lease ordinal) (did_give other_lease count heir) (map done xs) (map done ys) deeds in absurd (cc))
same_deeds (gave_back lease count heir ∷ xs) (sent other_lease ordinal body ∷ ys) deeds bodies =
    (let deed : did_give lease count heir ≡ did_send other_lease ordinal = heads (did_give lease count heir) (did_send other_lease ordinal) (map done xs) (map done ys) deeds in absurd (cc))
same_deeds (gave_back lease count heir ∷ xs) (gave_back other_lease other_count other_heir ∷ ys) deeds bodies =
    let deed : did_give lease count heir ≡ did_give other_lease other_count other_heir = heads (did_give lease count heir) (did_give other_lease other_count other_heir) (map done xs) (map done ys) deeds in
    let lease_is : lease ≡ other_lease = cc in
    let count_is : count ≡ other_count = cc in
    let heir_is : heir ≡ other_heir = cc in
    let rest = same_deeds xs ys (tails (did_give lease count heir) (did_give other_lease other_count other_heir) (map done xs) (map done ys) deeds) bodies in
    (λ i. gave_back (lease_is i) (count_is i) (heir_is i) ∷ rest i)

-- the journal, without the bodies
send_done : (is : Bool) (lease owner ordinal : ℕ) (body : List ℕ) → map done (if is then sent lease ordinal body ∷ [] else []) ≡ own_deeds (if is then Sent lease owner ordinal ∷ [] else [])
send_done true lease owner ordinal body = refl
send_done false lease owner ordinal body = refl

give_done : (is : Bool) (lease owner count heir : ℕ) → map done (if is then gave_back lease count heir ∷ [] else []) ≡ own_deeds (if is then GaveBack lease owner count heir ∷ [] else [])
give_done true lease owner count heir = refl
give_done false lease owner count heir = refl

none_done : (is : Bool) (lease owner count : ℕ) → [] ≡ own_deeds (if is then TookBack lease owner count ∷ [] else [])
none_done true lease owner count = refl
none_done false lease owner count = refl

entry_done : (library : ℕ) (log : List (List OutEntry)) (s : Totals) (e : Entry) → map done (deed_of library log s e) ≡ own_deeds (deeds_of_library library (deeds_in e))
entry_done library log s (Send lease owner ordinal number) = send_done (owner == library) lease owner ordinal (logged_body log (series_of s) number)
entry_done library log s (Release lease owner count heir) = give_done (owner == library) lease owner count heir
entry_done library log s (Timeout lease owner count) = none_done (owner == library) lease owner count
entry_done library log s (Arrive pos) = refl
entry_done library log s (Admin number) = refl
entry_done library log s (Bind c) = refl
entry_done library log s (Plan begin last at) = refl
entry_done library log s (Leave c) = refl
entry_done library log s (Reset series) = refl
entry_done library log s (Granted owner nr lease from start) = refl
entry_done library log s (Refused owner nr why) = refl
entry_done library log s (Hold lease until) = refl
entry_done library log s (Lapse lease) = refl

journal_done : (library : ℕ) (log : List (List OutEntry)) (s : Totals) (entries : List Entry)
    → map done (flat_map (deed_at library log) (placed_from s entries)) ≡ own_deeds (deeds_of_library library (deeds_of entries))
journal_done library log s [] = refl
journal_done library log s (e ∷ es) =
    let first = deeds_of_library library (deeds_in e) in
    let rest = deeds_of_library library (deeds_of es) in
    map-append done (deed_of library log s e) (flat_map (deed_at library log) (placed_from (state_after s e) es))
    ∙ (λ i. entry_done library log s e i ++ journal_done library log (state_after s e) es i)
    ∙ sym (flat_map-append own_deed first rest)
    ∙ ap own_deeds (sym (filter-append (λ d. library_of d == library) (deeds_in e) (deeds_of es)))

-- and its bodies
send_bodies : (is : Bool) (lease ordinal : ℕ) (entry : OutEntry) → bodies_of (if is then sent lease ordinal entry.body ∷ [] else []) ≡ logged_bodies (if is then entry ∷ [] else [])
send_bodies true lease ordinal entry = refl
send_bodies false lease ordinal entry = refl

give_bodies : (is : Bool) (lease count heir : ℕ) → bodies_of (if is then gave_back lease count heir ∷ [] else []) ≡ []
give_bodies true lease count heir = refl
give_bodies false lease count heir = refl

entry_bodies : (library : ℕ) (log : List (List OutEntry)) (s : Totals) (e : Entry) → bodies_of (deed_of library log s e) ≡ logged_bodies (sent_by library log s e)
entry_bodies library log s (Send lease owner ordinal number) = send_bodies (owner == library) lease ordinal (entry_of log (series_of s) number)
entry_bodies library log s (Release lease owner count heir) = give_bodies (owner == library) lease count heir
entry_bodies library log s (Timeout lease owner count) = refl
entry_bodies library log s (Arrive pos) = refl
entry_bodies library log s (Admin number) = refl
entry_bodies library log s (Bind c) = refl
entry_bodies library log s (Plan begin last at) = refl
entry_bodies library log s (Leave c) = refl
entry_bodies library log s (Reset series) = refl
entry_bodies library log s (Granted owner nr lease from start) = refl
entry_bodies library log s (Refused owner nr why) = refl
entry_bodies library log s (Hold lease until) = refl
entry_bodies library log s (Lapse lease) = refl

journal_bodies : (library : ℕ) (log : List (List OutEntry)) (s : Totals) (entries : List Entry)
    → bodies_of (flat_map (deed_at library log) (placed_from s entries)) ≡ logged_bodies (flat_map (sent_at library log) (placed_from s entries))
journal_bodies library log s [] = refl
journal_bodies library log s (e ∷ es) =
    flat_map-append body_of (deed_of library log s e) (flat_map (deed_at library log) (placed_from (state_after s e) es))
    ∙ (λ i. entry_bodies library log s e i ++ journal_bodies library log (state_after s e) es i)
    ∙ sym (map-append (λ (entry : OutEntry). entry.body) (sent_by library log s e) (flat_map (sent_at library log) (placed_from (state_after s e) es)))

-- the calls, without the bodies
sent_done : (is : Bool) (lease ordinal : ℕ) (body : List ℕ) → map done (if is then sent lease ordinal body ∷ [] else []) ≡ (if is then did_send lease ordinal ∷ [] else [])
sent_done true lease ordinal body = refl
sent_done false lease ordinal body = refl

given_done : (is : Bool) (lease count heir : ℕ) → map done (if is then gave_back lease count heir ∷ [] else []) ≡ (if is then did_give lease count heir ∷ [] else [])
given_done true lease count heir = refl
given_done false lease count heir = refl

call_done : (s : ℕ) (call : Kept) → map done (deed_called s call) ≡ deed_kept s call
call_done s (calls.Send t body (Ok answer)) = sent_done (t == s) answer.lease answer.ordinal body
call_done s (calls.Send t body (Err why)) = refl
call_done s (calls.Release t (Ok released)) = given_done (t == s) released.lease released.count 0
call_done s (calls.Release t (Err why)) = refl
call_done s (calls.Hand t heir (Ok released)) = given_done (t == s) released.lease released.count heir
call_done s (calls.Hand t heir (Err why)) = refl
call_done s (calls.Request t from answer) = refl
call_done s (calls.Poll event) = refl
call_done s calls.Beat = refl

calls_done : (s : ℕ) (called : List Kept) → map done (deeds_called s called) ≡ deeds_kept s called
calls_done s [] = refl
calls_done s (call ∷ called) = map-append done (deed_called s call) (deeds_called s called) ∙ (λ i. call_done s call i ++ calls_done s called i)

-- and their bodies
sent_bodies : (is : Bool) (lease ordinal : ℕ) (body : List ℕ)
    → bodies_of (if is then sent lease ordinal body ∷ [] else []) ≡ map (λ (post : Post). post.body) (if is then record { lease = lease; body = body } ∷ [] else [])
sent_bodies true lease ordinal body = refl
sent_bodies false lease ordinal body = refl

call_bodies : (s : ℕ) (call : Kept) → bodies_of (deed_called s call) ≡ map (λ (post : Post). post.body) (post_kept s call)
call_bodies s (calls.Send t body (Ok answer)) = sent_bodies (t == s) answer.lease answer.ordinal body
call_bodies s (calls.Send t body (Err why)) = refl
call_bodies s (calls.Release t (Ok released)) = give_bodies (t == s) released.lease released.count 0
call_bodies s (calls.Release t (Err why)) = refl
call_bodies s (calls.Hand t heir (Ok released)) = give_bodies (t == s) released.lease released.count heir
call_bodies s (calls.Hand t heir (Err why)) = refl
call_bodies s (calls.Request t from answer) = refl
call_bodies s (calls.Poll event) = refl
call_bodies s calls.Beat = refl

calls_bodies : (s : ℕ) (called : List Kept) → bodies_of (deeds_called s called) ≡ map (λ (post : Post). post.body) (posts_kept s called)
calls_bodies s [] = refl
calls_bodies s (call ∷ called) =
    flat_map-append body_of (deed_called s call) (deeds_called s called) ∙ (λ i. call_bodies s call i ++ calls_bodies s called i)
    ∙ sym (map-append (λ (post : Post). post.body) (post_kept s call) (posts_kept s called))

-- Where the lines of a lawful journal tell what the calls did, and the log has their bodies, the journal tells it with the bodies.
pub told_as_called : LibraryDeedsAreTold → (library s : ℕ) (session : SessionLeft) (called : List Kept) → IsRun session.leases session.entries → deeds_in_lines library (lines_of session.entries) ≡ deeds_kept s called
    → logged_bodies (sends_of library session) ≡ map (λ post. post.body) (posts_kept s called) → deeds_told library session ≡ deeds_called s called
told_as_called told library s session called run deeds bodies =
    same_deeds (deeds_told library session) (deeds_called s called)
    (journal_done library session.outbound (state_of []) session.entries ∙ ap own_deeds (told session.leases session.entries library run) ∙ deeds ∙ sym (calls_done s called))
    (journal_bodies library session.outbound (state_of []) session.entries ∙ bodies ∙ sym (calls_bodies s called))
