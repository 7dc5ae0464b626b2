-- The sessions and connections of a record are those of the board that left it, and a connection has the number that its place in the record tells.
use Rattle.std.proofs.Common.{◌≡◌, ◌⊎◌, inl, inr, ℕ, zero, suc, ◌+◌, ◌-◌, ◌<◌, ◌≤◌, Bool, true, false, List, get_or, length, map, Some, refl, sym, ap, subst, ◌∙◌, arith}
use Rattle.std.proofs.lemmas.Bool.{cases_lt, le-ltb, lt-ltb}
use Rattle.std.proofs.lemmas.List.{get_or-map, length-append, length-map}
use Rattle.std.proofs.lemmas.Option.{slice_get-get_or}
use Rattle.std.specs.List.{slice_get}
use Rattle.std.specs.Prelude.{if◌then◌else◌, not}
use Rattle.connection_core.specs.Connection.{ConnectionState}
use Rattle.connection_core.specs.Record.{record_of}
use Rattle.connection_core.specs.declared.records.ConnRecord.{ConnRecord}
use Rattle.engine_end.specs.Records.{IsLeftBy, SessionLeft, accepted_of, connection_records, dialled_of, left_in, left_of}
use Rattle.gate_io.specs.declared.wires.TheConstants.{FIRST_DIALLED}
use Rattle.headline.proofs.Lists.{joined_first, joined_found, joined_second, kept_found, kept_there, mapped_found, mapped_there}
use Rattle.headline.specs.Headline.{AreNumbered, HasSession, number_at}
use Rattle.headline.specs.InPart.{number_among}
use Rattle.headline.specs.Numbering.{AreInOrder, numbers_of}
use Rattle.lease_core.specs.declared.entry.Entry.{Entry}
use Rattle.lease_core.specs.declared.record.Record.{Record}
use Rattle.library_api.specs.Reads.{numbers_from}
use Rattle.library_desk.specs.declared.desk.Stray.{Stray}
use Rattle.run_report.specs.declared.records.RunRecord.{RunRecord}
use Rattle.switchboard.specs.Board.{Board, connection_at, no_connection, no_session, session_at}
use Rattle.switchboard.specs.Ready.{IsReady}

abbrev is_accepted : ConnectionState → Bool
is_accepted c = not c.dialled

abbrev is_dialled : ConnectionState → Bool
is_dialled c = c.dialled

not_true : (b : Bool) → not b ≡ true → b ≡ false
not_true true is = absurd (cc)
not_true false is = refl

either : (b : Bool) → (not b ≡ true) ⊎ (b ≡ true)
either true = inr refl
either false = inl refl

numbers_count : (first count : ℕ) → length (numbers_from first count) ≡ count
numbers_count first zero = refl
numbers_count first (suc count) = ap suc (numbers_count (first + 1) count)

number_is : (first count i d : ℕ) → i < count → get_or (numbers_from first count) i d ≡ first + i
number_is first zero i d within = absurd (omega arith)
number_is first (suc count) zero d within = omega arith
number_is first (suc count) (suc i) d within = number_is (first + 1) count i d (omega arith) ∙ omega arith

-- as many as have numbers, each with its own
pub as_many : (first count : ℕ) (cs : List ConnectionState) → numbers_of cs ≡ numbers_from first count → length cs ≡ count
as_many first count cs are = sym (length-map cs (λ (c : ConnectionState). c.number)) ∙ ap length are ∙ numbers_count first count

number_of : (first count : ℕ) (cs : List ConnectionState) (i : ℕ) → numbers_of cs ≡ numbers_from first count → i < length cs → (get_or cs i no_connection).number ≡ first + i
number_of first count cs i are within =
    sym (get_or-map (λ (c : ConnectionState). c.number) cs i no_connection 0 within) ∙ ap (λ ns. get_or ns i 0) are
    ∙ number_is first count i 0 (let many = as_many first count cs are in omega arith)

number_below : (accepted place : ℕ) → place < accepted → number_among accepted place ≡ place
number_below accepted place below = ap (λ b. if b then place else FIRST_DIALLED + (place - accepted)) (lt-ltb place accepted below)

number_above : (accepted place : ℕ) → accepted ≤ place → number_among accepted place ≡ FIRST_DIALLED + (place - accepted)
number_above accepted place above = ap (λ b. if b then place else FIRST_DIALLED + (place - accepted)) (le-ltb place accepted above)

-- a record that has these connections, where so many were accepted and dialled, and are numbered in order
module _ (connections : List ConnectionState) (left : RunRecord) (accepted dialled : ℕ) (are : left.engine.connections ≡ connection_records connections)
    (accepted_are : numbers_of (accepted_of connections) ≡ numbers_from 0 accepted) (dialled_are : numbers_of (dialled_of connections) ≡ numbers_from FIRST_DIALLED dialled) where
  abbrev accepted_ones : List ConnectionState
  accepted_ones = accepted_of connections

  abbrev dialled_ones : List ConnectionState
  dialled_ones = dialled_of connections

  -- where the record has a connection
  pub record HasPlace (k : ℕ) : Type 0 where
    pub place : ℕ
    pub at : slice_get left.engine.connections place ≡ Some (record_of (get_or connections k no_connection))
    pub number : number_among accepted place ≡ (get_or connections k no_connection).number

  accepted_there : (k : ℕ) → k < length connections → is_accepted (get_or connections k no_connection) ≡ true → HasPlace k
  accepted_there k within is =
      let kept = kept_there is_accepted connections no_connection k within is in
      let small = kept.within in
      let count = as_many 0 accepted accepted_ones accepted_are in
      let many = length-map accepted_ones record_of in
      let plain : 0 + kept.place ≡ kept.place = omega arith in
      let at = joined_first (map record_of accepted_ones) (map record_of dialled_ones) kept.place (omega arith) ∙ mapped_there record_of accepted_ones no_connection kept.place kept.within ∙ ap (λ x. Some (record_of x)) kept.same in
      record {
        place = kept.place;
        at = ap (λ all. slice_get all kept.place) are ∙ at;
        number = number_below accepted kept.place (omega arith) ∙ sym (number_of 0 accepted accepted_ones kept.place accepted_are kept.within ∙ plain) ∙ ap (λ (x : ConnectionState). x.number) kept.same;
      }

  dialled_there : (k : ℕ) → k < length connections → is_dialled (get_or connections k no_connection) ≡ true → HasPlace k
  dialled_there k within is =
      let kept = kept_there is_dialled connections no_connection k within is in
      let count = as_many 0 accepted accepted_ones accepted_are in
      let many = length-map accepted_ones record_of in
      let place = length (map record_of accepted_ones) + kept.place in
      let at = joined_second (map record_of accepted_ones) (map record_of dialled_ones) kept.place ∙ mapped_there record_of dialled_ones no_connection kept.place kept.within ∙ ap (λ x. Some (record_of x)) kept.same in
      let behind : FIRST_DIALLED + (place - accepted) ≡ FIRST_DIALLED + kept.place = omega arith in
      record {
        place = place;
        at = ap (λ all. slice_get all place) are ∙ at;
        number = number_above accepted place (omega arith) ∙ behind ∙ sym (number_of FIRST_DIALLED dialled dialled_ones kept.place dialled_are kept.within) ∙ ap (λ (x : ConnectionState). x.number) kept.same;
      }

  pub place_of : (k : ℕ) → k < length connections → HasPlace k
  place_of k within = elim (either (get_or connections k no_connection).dialled) [
    | inl is ↦ accepted_there k within is
    | inr is ↦ dialled_there k within is
  ]

  pub few_accepted : accepted ≤ length left.engine.connections
  few_accepted =
      let count = as_many 0 accepted accepted_ones accepted_are in
      let all = ap length are ∙ length-append (map record_of accepted_ones) (map record_of dialled_ones) in
      let many = length-map accepted_ones record_of in
      omega arith

module _ (board : Board) (strays : List Stray) (accepted : ℕ) (added : List Record) (left : RunRecord) (is_left : IsLeftBy board strays accepted added left.engine) where
  -- a session of the record
  pub record IsSessionAt (s : ℕ) (session : SessionLeft) : Type 0 where
    pub within : s < length board.sessions
    pub is : session ≡ left_of (session_at board s)

  pub session_found : (s : ℕ) (session : SessionLeft) → HasSession left s session → IsSessionAt s session
  session_found s session has =
      let one = mapped_found left_of board.sessions no_session s session (subst (λ all. slice_get all s ≡ Some session) is_left.sessions has) in
      record { within = one.within; is = one.is }

  pub session_there : (s : ℕ) → s < length board.sessions → HasSession left s (left_of (session_at board s))
  session_there s within = subst (λ all. slice_get all s ≡ Some (left_of (session_at board s))) (sym is_left.sessions) (mapped_there left_of board.sessions no_session s within)

  pub session_count : length left.engine.sessions ≡ length board.sessions
  session_count = sym (length-map left.engine.sessions left_in) ∙ ap length is_left.sessions ∙ length-map board.sessions left_of

module _ (board : Board) (strays : List Stray) (accepted dialled : ℕ) (added : List Record) (left : RunRecord) (is_left : IsLeftBy board strays accepted added left.engine) (order : AreInOrder accepted dialled board.connections) where
  -- a connection of the record
  pub record IsConnectionAt (place : ℕ) (c : ConnRecord) : Type 0 where
    pub k : ℕ
    pub within : k < length board.connections
    pub is : c ≡ record_of (connection_at board k)
    pub number : (connection_at board k).number ≡ number_at left place
    pub accepted_one : place < left.engine.accepted → (connection_at board k).dialled ≡ false
    pub dialled_one : left.engine.accepted ≤ place → (connection_at board k).dialled ≡ true

  abbrev firsts : List ConnectionState
  firsts = accepted_of board.connections

  abbrev seconds : List ConnectionState
  seconds = dialled_of board.connections

  pub counted : numbers_of firsts ≡ numbers_from 0 left.engine.accepted
  counted = order.accepted_are ∙ ap (numbers_from 0) (sym is_left.accepted_is)

  first_count : length firsts ≡ left.engine.accepted
  first_count = as_many 0 left.engine.accepted firsts counted

  accepted_found : (place : ℕ) (c : ConnRecord) → slice_get (map record_of firsts) place ≡ Some c → IsConnectionAt place c
  accepted_found place c found =
      let one = mapped_found record_of firsts no_connection place c found in
      let kept = kept_found is_accepted board.connections no_connection place one.within in
      let small = one.within in
      let below : place < left.engine.accepted = (let count = first_count in omega arith) in
      let plain : 0 + place ≡ place = omega arith in
      record {
        k = kept.place;
        within = kept.within;
        is = one.is ∙ ap record_of kept.same;
        number = sym (ap (λ (x : ConnectionState). x.number) kept.same) ∙ number_of 0 accepted firsts place order.accepted_are one.within ∙ plain ∙ sym (number_below left.engine.accepted place below);
        accepted_one = λ here. not_true (connection_at board kept.place).dialled kept.passes;
        dialled_one = λ here. absurd (omega arith);
      }

  dialled_found : (i place : ℕ) (c : ConnRecord) → place ≡ left.engine.accepted + i → slice_get (map record_of seconds) i ≡ Some c → IsConnectionAt place c
  dialled_found i place c at found =
      let one = mapped_found record_of seconds no_connection i c found in
      let kept = kept_found is_dialled board.connections no_connection i one.within in
      let number : (get_or seconds i no_connection).number ≡ FIRST_DIALLED + i = number_of FIRST_DIALLED dialled seconds i order.dialled_are one.within in
      let behind : FIRST_DIALLED + i ≡ FIRST_DIALLED + (place - left.engine.accepted) = omega arith in
      record {
        k = kept.place;
        within = kept.within;
        is = one.is ∙ ap record_of kept.same;
        number = sym (ap (λ (x : ConnectionState). x.number) kept.same) ∙ number ∙ behind ∙ sym (number_above left.engine.accepted place (omega arith));
        accepted_one = λ here. absurd (omega arith);
        dialled_one = λ here. kept.passes;
      }

  pub connection_found : (place : ℕ) (c : ConnRecord) → slice_get left.engine.connections place ≡ Some c → IsConnectionAt place c
  connection_found place c found =
      let many : length (map record_of firsts) ≡ left.engine.accepted = length-map firsts record_of ∙ first_count in
      elim (joined_found (map record_of firsts) (map record_of seconds) place c (subst (λ all. slice_get all place ≡ Some c) is_left.connections found)) [
        | inl first ↦ accepted_found place c first.1
        | inr second ↦ dialled_found (place - length (map record_of firsts)) place c (omega (arith, second.0, many)) second.1
      ]

  pub connection_there : (k : ℕ) → k < length board.connections → HasPlace board.connections left left.engine.accepted dialled is_left.connections counted order.dialled_are k
  connection_there = place_of board.connections left left.engine.accepted dialled is_left.connections counted order.dialled_are

  -- an accepted one counts as answered
  pub answered_one : (place : ℕ) (c : ConnRecord) (at : IsConnectionAt place c) → place < left.engine.accepted → (connection_at board at.k).answered ≡ true
  answered_one place c at below = order.answered at.k no_connection at.within (at.accepted_one below)

  pub numbered : (before : ℕ → List Entry) → IsReady before board → AreNumbered left
  numbered before ready = record { accepted = few_accepted board.connections left left.engine.accepted dialled is_left.connections counted order.dialled_are; apart = no_two } where
    some_at : (j : ℕ) → j < length left.engine.connections → IsConnectionAt j (get_or left.engine.connections j (record_of no_connection))
    some_at j within = connection_found j _ (slice_get-get_or left.engine.connections j (record_of no_connection) within)

    kinds : (j k : ℕ) → j < length left.engine.connections → k < length left.engine.connections → j < left.engine.accepted → left.engine.accepted ≤ k → number_at left j ≡ number_at left k → ⊥
    kinds j k within_j within_k below above same =
        let one = some_at j within_j in
        let two = some_at k within_k in
        let together : one.k ≡ two.k = ready.numbers one.k two.k one.within two.within (one.number ∙ same ∙ sym two.number) in
        let first : (connection_at board one.k).dialled ≡ false = one.accepted_one below in
        let second : (connection_at board two.k).dialled ≡ true = two.dialled_one above in
        let clash : false ≡ true = sym first ∙ ap (λ n. (connection_at board n).dialled) together ∙ second in
        absurd (cc)

    no_two : (j k : ℕ) → j < length left.engine.connections → k < length left.engine.connections → number_at left j ≡ number_at left k → j ≡ k
    no_two j k within_j within_k same = elim (cases_lt j left.engine.accepted) [
      | inl below_j ↦ elim (cases_lt k left.engine.accepted) [
        | inl below_k ↦ sym (number_below left.engine.accepted j below_j) ∙ same ∙ number_below left.engine.accepted k below_k
        | inr above_k ↦ absurd (kinds j k within_j within_k below_j above_k same)
      ]
      | inr above_j ↦ elim (cases_lt k left.engine.accepted) [
        | inl below_k ↦ absurd (kinds k j within_k within_j below_k above_j (sym same))
        | inr above_k ↦ (let e = sym (number_above left.engine.accepted j above_j) ∙ same ∙ number_above left.engine.accepted k above_k in omega arith)
      ]
    ]
