-- Each of the wrong records is refuted by one sentence of the headline.
use Rattle.std.proofs.Common.{◌≡◌, ◌≢◌, ◌⊎◌, inl, inr, ℕ, zero, suc, ◌<◌, ◌≤◌, List, [], ◌∷◌, ◌++◌, codes, get_or, length, map, Option, Some, refl, sym, ap, subst, ◌∙◌, arith}
use Rattle.std.proofs.lemmas.List.{length-append}
use Rattle.std.proofs.lemmas.Option.{none-some, same_Some, slice_get_within}
use Rattle.std.specs.List.{All, Contains, flat_map, slice_get}
use Rattle.std.specs.Prelude.{sum_by}
use Rattle.connection_core.specs.declared.records.ConnRecord.{ConnRecord}
use Rattle.engine_end.specs.Records.{SessionLeft}
use Rattle.fix_frame.specs.Cut.{CutPiece}
use Rattle.headline.specs.Headline.{GivesBack, IsStray, TookText, sends_of, sessions_of, text_in}
use Rattle.headline.specs.Within.{IsWithinHolding}
use Rattle.headline.specs.Wrong.{AnswersUnbound, BindsNone, BindsOneTwice, BindsTwoAtOnce, CountsWhatNeverCame, GivesBackWhatRuns, HasTwoOwners, IsRefuted, IsRepliedToTwice, LogsNoArrival, LogsNoNumber, ReadsElsewhere, ReadsPastEnd, SendsForAnother, ShareOneConnection, SkipsNumbers, StandsWhereItWasLeft, StraysAtHome, TakesBackFromNobody, WritesWhatIsNotTold, connection_with, no_message, one_message, session_with}
use Rattle.lease_core.specs.Runs.{IsRun}
use Rattle.lease_core.specs.State.{state_of}
use Rattle.lease_core.specs.declared.entry.Entry.TheVariants.{Admin, Bind, Granted, Leave, Send}
use Rattle.lease_core.specs.declared.entry.Holding.{Holding}
use Rattle.lease_core.specs.declared.entry.Why.TheVariants.{LeasesSpent}
use Rattle.lease_core.specs.declared.messages.Notice.{Notice}
use Rattle.lease_core.specs.declared.messages.Notice.TheVariants as notices
use Rattle.engine_laws.specs.libraries.Replies.{Ask, answered_by, replies_told}
use Rattle.run_report.specs.declared.calls.Call.TheVariants as calls
use Rattle.session_book.specs.Runs.{Handled, TellRuns}
use Rattle.session_book.specs.Spells.{Spell, placed}
use Rattle.message_log.specs.declared.entry.OutEntry.{OutEntry}
use Rattle.session_core.specs.State.{State}
use Rattle.connection_core.specs.Connection.{garbled_in}
use Rattle.headline.specs.runs.Reports.{HandsOn, asks_kept, positions_kept, posts_kept}
use Rattle.library_api.specs.Calls.{numbers_to}
use Rattle.engine_laws.specs.libraries.Sends.{logged_bodies}
use Rattle.library_api.specs.Posts.{Post}
use Rattle.library_api.specs.Reads.{numbers_from}
use Rattle.lease_core.specs.declared.lease.Line.{Line}

none_one : {A : Type 0} (x : A) (xs : List A) → [] ≡ x ∷ xs → ⊥
none_one x xs same = (cc)

pub no_arrival : IsRefuted LogsNoArrival
unfolding state_of
no_arrival config links left has h = (let logged : ◌≡◌ {A = ℕ} 1 0 = (h.logs_told 0 _ has).inbound in omega (arith, logged))

pub no_number : IsRefuted LogsNoNumber
unfolding state_of
no_number config links left has h = (let logged : ◌≡◌ {A = List ℕ} (1 ∷ []) (0 ∷ []) = (h.logs_told 0 _ has).outbound in absurd (cc))

pub two_owners : IsRefuted HasTwoOwners
unfolding state_of
two_owners config links left has h = elim (h.one_owner 0 _ has).one.0 [
  | inl none ↦ absurd (cc)
  | inr ended ↦ ended refl
]

pub back_from_nobody : IsRefuted TakesBackFromNobody
unfolding state_of
back_from_nobody config links left has h = (let turn = (h.adjoining_holdings 0 _ has).1.0.turn in omega arith)

pub answers_unbound : IsRefuted AnswersUnbound
unfolding state_of
answers_unbound config links left has h = (let bound = (h.acts 0 _ has).inside 0 (placed (state_of []) (Admin 1)) (omega arith) refl in absurd (cc))

pub two_at_once : IsRefuted BindsTwoAtOnce
unfolding IsRun
two_at_once config links left has h = (let free = (h.lawful_run 0 _ has).run.1.0.connection in absurd (cc))

pub not_there : IsRefuted BindsNone
unfolding state_of
not_there config links left wrong h =
    let one = h.bound 0 _ wrong.session 0 refl in
    none-some one.0.c (ap (λ all. slice_get all one.0.place) (sym wrong.none) ∙ one.0.at)

pub one_shared : IsRefuted ShareOneConnection
unfolding state_of
one_shared config links left wrong h =
    let first = (h.bound 0 _ wrong.first 0 refl).0 in
    let second = (h.bound 1 _ wrong.second 0 refl).0 in
    let within_first = slice_get_within left.engine.connections first.place first.c first.at in
    let within_second = slice_get_within left.engine.connections second.place second.c second.at in
    let place = h.numbered.apart first.place second.place within_first within_second (first.number_is ∙ sym second.number_is) in
    let same : first.c ≡ second.c = same_Some first.c second.c (sym first.at ∙ ap (slice_get left.engine.connections) place ∙ second.at) in
    let names : ◌≡◌ {A = Option ℕ} (Some 0) (Some 1) = sym first.names ∙ ap (λ (c : ConnRecord). c.session) same ∙ second.names in
    (let clash : ◌≡◌ {A = ℕ} 0 1 = same_Some 0 1 names in omega (arith, clash))

-- of one connection two spells are told
two_spells : (inbound : List (List ℕ)) (log : List (List OutEntry)) (machine : State) (handled : List Handled) (one two : Spell)
    → TellRuns inbound log machine handled (one ∷ two ∷ []) → one.connection ≡ two.connection → ((i j : ℕ) (d : Handled) → i < j → j < length handled → (get_or handled i d).connection ≢ (get_or handled j d).connection) → ⊥
two_spells inbound log machine [] one two told same apart = absurd told
two_spells inbound log machine (h ∷ []) one two told same apart = absurd told.2
two_spells inbound log machine (h ∷ (g ∷ hs)) one two told same apart = apart 0 1 h (omega arith) (omega arith) (sym told.0 ∙ same ∙ told.2.0)

pub one_twice : IsRefuted BindsOneTwice
unfolding state_of
one_twice config links left has h =
    let acts = h.acts 0 _ has in
    two_spells [] no_message _ acts.handled _ _ acts.told refl acts.once

-- nothing is written where nothing is told
begins_none : (first : List ℕ) (rest : List ℕ) → first ++ rest ≡ [] → first ≡ []
begins_none [] rest is = refl
begins_none (x ∷ xs) rest is = absurd (cc)

pub only_one : (one spell : Spell) → Contains (one ∷ []) spell → spell ≡ one
only_one one spell (zero, within, is) = sym is
only_one one spell (suc i, within, is) = absurd (omega arith)

pub not_told : IsRefuted WritesWhatIsNotTold
unfolding state_of
not_told config links left wrong h =
    let text = (h.outbound_text 0 _ wrong.connection).named 0 refl in
    let session : text.0 ≡ session_with (Bind 0 ∷ []) [] no_message = same_Some _ _ (sym text.1.0 ∙ wrong.session) in
    let took = subst (λ (x : SessionLeft). TookText left links 0 (connection_with (codes "8=FIX.4.4")) x) session text.1.1 in
    let spell = only_one _ took.spell took.told in
    let none = begins_none (codes "8=FIX.4.4") took.begins.rest (took.begins.is ∙ ap (λ (x : Spell). text_in (session_with (Bind 0 ∷ []) [] no_message) x) spell) in
    absurd (cc)

pub left_standing : IsRefuted StandsWhereItWasLeft
unfolding state_of
left_standing config links left wrong h =
    let bound = h.standing 0 _ wrong.connection 0 refl refl in
    let session : bound.session ≡ session_with (Bind 0 ∷ Leave 0 ∷ []) [] no_message = same_Some _ _ (sym bound.has ∙ wrong.session) in
    none-some _ (sym (ap (λ (x : SessionLeft). (state_of x.entries).bound) session) ∙ bound.bound)

pub no_pieces : (pieces rest : List CutPiece) → pieces ++ rest ≡ [] → pieces ≡ []
no_pieces [] rest is = refl
no_pieces (x ∷ xs) rest is = absurd (cc)

pub never_came : IsRefuted CountsWhatNeverCame
never_came config links left at h =
    let cut = h.garbled 0 _ at in
    let none = no_pieces cut.pieces cut.handed_out.begin.rest cut.handed_out.begin.is in
    let count : ◌≡◌ {A = ℕ} 1 0 = cut.handed_out.garbled ∙ ap (λ (pieces : List CutPiece). sum_by garbled_in pieces) none in
    omega (arith, count)

-- two notices that answer, one behind the other, answer two requests
answers_one : (n : Notice) (ns : List Notice) → length (answered_by n) ≡ 1 → Contains ns n → 1 ≤ length (flat_map answered_by ns)
answers_one n [] one has = absurd (let none = has.1 in omega arith)
answers_one n (x ∷ xs) one (zero, within, is) =
    let here = ap (λ y. length (answered_by y)) is in
    let all = length-append (answered_by x) (flat_map answered_by xs) in
    omega arith
answers_one n (x ∷ xs) one (suc i, within, is) =
    let rest = answers_one n xs one (i, omega arith, is) in
    let all = length-append (answered_by x) (flat_map answered_by xs) in
    omega arith

answers_two : (m n : Notice) (ns : List Notice) → m ≢ n → length (answered_by m) ≡ 1 → length (answered_by n) ≡ 1 → Contains ns m → Contains ns n → 2 ≤ length (flat_map answered_by ns)
answers_two m n [] apart one two has_m has_n = absurd (let none = has_m.1 in omega arith)
answers_two m n (x ∷ xs) apart one two (zero, within_m, is_m) (zero, within_n, is_n) = absurd (apart (sym is_m ∙ is_n))
answers_two m n (x ∷ xs) apart one two (zero, within_m, is_m) (suc j, within_n, is_n) =
    let here = ap (λ y. length (answered_by y)) is_m in
    let rest = answers_one n xs two (j, omega arith, is_n) in
    let all = length-append (answered_by x) (flat_map answered_by xs) in
    omega arith
answers_two m n (x ∷ xs) apart one two (suc i, within_m, is_m) (zero, within_n, is_n) =
    let here = ap (λ y. length (answered_by y)) is_n in
    let rest = answers_one m xs one (i, omega arith, is_m) in
    let all = length-append (answered_by x) (flat_map answered_by xs) in
    omega arith
answers_two m n (x ∷ xs) apart one two (suc i, within_m, is_m) (suc j, within_n, is_n) =
    let rest = answers_two m n xs apart one two (i, omega arith, is_m) (j, omega arith, is_n) in
    let all = length-append (answered_by x) (flat_map answered_by xs) in
    omega arith

pub twice : IsRefuted IsRepliedToTwice
twice config links left wrong h =
    let calls_are = wrong.called_is in
    let reply = (h.every_reply 0 wrong.report wrong.at).1 in
    let handed = subst (All (HandsOn (Contains reply.heard))) calls_are reply.handed_on in
    let grant : Contains reply.heard (notices.Granted 1 0 1 0 0) = handed 1 calls.Beat (omega arith) in
    let refusal : Contains reply.heard (notices.Refused 1 0 (LeasesSpent 1)) = handed 2 calls.Beat (omega arith) in
    let many = answers_two (notices.Granted 1 0 1 0 0) (notices.Refused 1 0 (LeasesSpent 1)) reply.heard (λ same. absurd (cc)) refl refl grant refusal in
    let asks : length (asks_kept wrong.report.calls) ≡ 1 = ap (λ kept. length (asks_kept kept)) calls_are in
    let all = sym (length-append (flat_map answered_by reply.heard) reply.answers.rest) ∙ ap length reply.answers.is in
    omega arith

pub skipped : IsRefuted SkipsNumbers
skipped config links left wrong h =
    let calls_are = wrong.called_is in
    let reply = (h.every_reply 0 wrong.report wrong.at).1 in
    let numbers : ◌≡◌ {A = List ℕ} (2 ∷ []) (1 ∷ []) = subst (λ kept. map (λ (ask : Ask). ask.nr) (asks_kept kept) ≡ numbers_to (length (asks_kept kept))) calls_are reply.numbers in
    absurd (cc)

pub for_another : IsRefuted SendsForAnother
unfolding state_of
for_another config links left wrong h =
    let one = h.every_send 0 wrong.reports.report wrong.reports.at in
    let number : wrong.reports.report.number ≡ 1 = one.0 in
    let bodies = one.1.bodies 0 _ wrong.session in
    let none : [] ≡ (codes "35=0" ∷ []) =
    subst (λ kept. logged_bodies (sends_of 1 (session_with (Granted 2 1 1 0 0 ∷ Send 1 2 1 1 ∷ []) [] one_message)) ≡ map (λ (post : Post). post.body) (posts_kept 0 kept))
    wrong.reports.called_is
    (subst (λ n. logged_bodies (sends_of n (session_with (Granted 2 1 1 0 0 ∷ Send 1 2 1 1 ∷ []) [] one_message)) ≡ map (λ (post : Post). post.body) (posts_kept 0 wrong.reports.report.calls)) number bodies) in
    none_one _ _ none

one_notice : (n m : Notice) → Contains (n ∷ []) m → n ≡ m
one_notice n m (zero, within, is) = is
one_notice n m (suc i, within, is) = absurd (omega arith)

pub elsewhere : IsRefuted ReadsElsewhere
unfolding state_of
elsewhere config links left wrong h =
    let one = h.prefix_reads 0 wrong.reports.report wrong.reports.at in
    let number : wrong.reports.report.number ≡ 1 = one.0 in
    let positions : positions_kept 0 1 wrong.reports.report.calls ≡ 5 ∷ [] = ap (positions_kept 0 1) wrong.reports.called_is in
    elim (one.1.reads 0 _ wrong.session 1 (omega arith)) [
      | inl none ↦ none_one _ _ (sym none ∙ positions)
      | inr grant ↦ (
          let told : Contains (notices.Granted 1 0 1 0 0 ∷ []) (notices.Granted grant.nr 0 1 grant.from grant.start) =
          subst (λ n. Contains (replies_told n 0 (Granted 1 1 1 0 0 ∷ [])) (notices.Granted grant.nr 0 1 grant.from grant.start)) number grant.told in
          let same = one_notice _ _ told in
          let from : 0 ≡ grant.from = cc in
          let are : (5 ∷ []) ≡ numbers_from grant.from 1 = sym positions ∙ grant.are ∙ ap (λ (xs : List ℕ). numbers_from grant.from (length xs)) positions in
          let first : 5 ≡ grant.from = cc in
          omega arith)
    ]

one_of_three : (a b c h : Holding) → Contains (a ∷ b ∷ c ∷ []) h → (a ≡ h) ⊎ ((b ≡ h) ⊎ (c ≡ h))
one_of_three a b c h (zero, within, is) = inl is
one_of_three a b c h (suc zero, within, is) = inr (inl is)
one_of_three a b c h (suc (suc zero), within, is) = inr (inr is)
one_of_three a b c h (suc (suc (suc i)), within, is) = absurd (omega arith)

pub past_end : IsRefuted ReadsPastEnd
unfolding state_of
past_end config links left wrong h =
    let one = h.prefix_reads 0 wrong.reports.report wrong.reports.at in
    let all = subst (All (HandsOn (IsWithinHolding (sessions_of left) wrong.reports.report.number))) wrong.reports.called_is one.1.within in
    let below = all 0 calls.Beat (omega arith) _ wrong.session in
    let small = below.below in
    let by = below.lease_is in
    elim (one_of_three _ _ _ below.holding below.held) [
      | inl first ↦ (let lease = ap (λ (x : Holding). x.lease) first in omega arith)
      | inr later ↦ elim later [
        | inl second ↦ (let end = ap (λ (x : Holding). x.end) second in omega arith)
        | inr third ↦ (let lease = ap (λ (x : Holding). x.lease) third in omega arith)
      ]
    ]

pub runs_on : IsRefuted GivesBackWhatRuns
unfolding state_of
runs_on config links left wrong h =
    let one = h.every_send 0 wrong.reports.report wrong.reports.at in
    let all = subst (All (GivesBack left wrong.reports.report.number)) wrong.reports.called_is one.1.given_back in
    let given = all 0 calls.Beat (omega arith) _ wrong.session in
    let line = same_Some _ _ given.at in
    let running = ap (λ (l : Line). l.ending) line ∙ given.ended in
    absurd (cc)

pub at_home : IsRefuted StraysAtHome
at_home config links left wrong h =
    let all = subst (All (IsStray left)) wrong.strays h.strays in
    let stray = all 0 (record { library = 1; nr = 1; s = 0 }) (omega arith) in
    let most = wrong.libraries in
    let some = wrong.sessions in
    let unknown = stray.unknown (omega arith) (omega arith) in
    omega arith
