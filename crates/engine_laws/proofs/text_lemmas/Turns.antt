-- The second half of a turn, and a whole one: each connection that has ended took its text, or its writing was cut short.
use Rattle.std.proofs.Common.{◌≡◌, inl, inr, ℕ, zero, suc, ◌<◌, ◌≤◌, true, List, get_or, length, Option, None, Some, refl, sym, ap, subst, ◌∙◌, arith}
use Rattle.std.proofs.lemmas.Bool.{cases_eq as same_or_other, and_parts}
use Rattle.std.proofs.lemmas.Grind.{get_or_default_zero}
use Rattle.std.proofs.lemmas.List.{get_or-set_other, get_or-set_same, length-set}
use Rattle.std.proofs.lemmas.List.Elements.{All-contains, Contains-append_cases, Contains-get_or, filter_passes}
use Rattle.std.specs.List.{Contains}
use Rattle.std.specs.Prelude.{◌⊎◌, is_none, nat_lt, slice_index_or}
use Rattle.connection_core.specs.Connection.{ConnectionState}
use Rattle.engine_end.specs.Finishing.{GathersAll}
use Rattle.engine_loop.specs.Engines.{IsAtWork, IsOnline}
use Rattle.engine_loop.specs.Turns.{AtWire, GivesTurn, HandsOut, MakesTurn, NotesSession, PublishesSession, TakesTurn, WritesAll}
use Rattle.engine_loop.specs.declared.engine.Engine.{Engine}
use Rattle.engine_loop.specs.declared.records.Taken.{Taken}
use Rattle.engine_loop.specs.declared.records.Turn.{Turn}
use Rattle.gate_io.specs.Counts.{HasRisen}
use Rattle.gate_io.specs.Wire.{Link, LinkGoesOn}
use Rattle.lease_core.specs.declared.entry.Entry.{Entry}
use Rattle.lease_core.specs.declared.record.Record.{Record}
use Rattle.lease_desk.specs.Desk.{Gathers}
use Rattle.lease_desk.specs.declared.desk.LeaseDesk.{LeaseDesk}
use Rattle.library_desk.specs.Happening.{RunsFor}
use Rattle.library_desk.specs.Serving.{Serves}
use Rattle.library_desk.specs.declared.desk.LibraryDesk.{LibraryDesk}
use Rattle.library_desk.specs.declared.serving.LibTurn.{LibTurn}
use Rattle.library_desk.specs.declared.shared.Shared.{Shared}
use Rattle.session_core.specs.declared.causes.Cause.{Cause}
use Rattle.switchboard.specs.Board.{Board, OutboxChanges, connection_at, no_connection, place_at}
use Rattle.switchboard.specs.Ready.{IsReady}
use Rattle.engine_laws.specs.texts.Taken.{FirstsComeAlone, IsCutShort, IsCutShortIn, IsWrittenIn, RestsIn, TookItsText, TookOrCutShort, TookTheirTexts, TookTheirTextsSoFar}
use Rattle.engine_laws.proofs.text_lemmas.Standing.{HasEnded, Laws}
use Rattle.engine_laws.proofs.Walking.{each_in_turn}
use Rattle.engine_laws.proofs.text_lemmas.Steps.{all_gathered}
use Rattle.engine_laws.proofs.text_lemmas.Taking.{Goes, board_of, contains_or_not, counted_online, places_of, turn_taken}
use Rattle.engine_laws.proofs.text_lemmas.Writing.{WroteAll, written_in_turn}
use Rattle.wire_desk.specs.Lines.{standing, stands_at}
use Rattle.wire_desk.specs.Places.{open_places}
use Rattle.wire_desk.specs.Steps.{written_so_far}
use Rattle.wire_desk.specs.declared.desk.WireDesk.{WireDesk}

-- what is listed where those alone are kept that stand
stands_where_listed : (board : Board) (places : List ℕ) (k : ℕ) → Contains (standing board places) k → (connection_at board k).cause ≡ None
stands_where_listed board places k has =
    let passes : stands_at board k ≡ true = All-contains (λ j. stands_at board j ≡ true) (standing board places) k (filter_passes (stands_at board) places) has in
    none_told (connection_at board k).cause (and_parts (nat_lt k (length board.connections)) (is_none (connection_at board k).cause) passes).1 where
      none_told : (cause : Option Cause) → is_none cause ≡ true → cause ≡ None
      none_told None is = refl
      none_told (Some cause) is = absurd (cc is)

-- the same desk of connections, and the same board
record SamePlaces (old new : Engine) : Type 0 where
  board : board_of new ≡ board_of old
  lines : new.lines ≡ old.lines

session_published : (s : ℕ) (old new : Engine) → PublishesSession s old new → SamePlaces old new
session_published s old new is = record { board = is.board; lines = ap (λ (e : Engine). e.lines) is.rest }

same_further : (first second third : Engine) → SamePlaces first second → SamePlaces second third → SamePlaces first third
same_further first second third one two = record { board = two.board ∙ one.board; lines = two.lines ∙ one.lines }

-- a count that has risen is above zero
above_zero : (old new : ℕ) → HasRisen old new → 0 < new
above_zero old zero risen = absurd (let none = risen (omega arith) in omega arith)
above_zero old (suc new) risen = omega arith

-- a cut in one turn is one
cut_once : (link_old link_new : Link) (old new : ConnectionState) → IsCutShortIn link_old link_new old new → IsCutShort link_new new
cut_once link_old link_new old new (inl fault) = inl (above_zero _ _ fault)
cut_once link_old link_new old new (inr (inl block)) = inr (inl (above_zero _ _ block))
cut_once link_old link_new old new (inr (inr most)) = (let enough = most.0 in inr (inr (omega arith, most.1)))

-- it stays as it was, in the engine and at the wire
took_as_before : (old new : ConnectionState) (links_old links_new : ℕ → Link) → new ≡ old → links_new old.number ≡ links_old old.number → TookOrCutShort links_old old → TookOrCutShort links_new new
took_as_before old new links_old links_new same link took =
    subst (λ c. TookOrCutShort links_new c) (sym same) (subst (λ l. TookItsText old ⊎ IsCutShort l old) (sym link) took)

module _ (before : ℕ → List Entry) (g : Laws before) where
  -- Each connection that was listed was written to, and the others rest; those that are listed now stand.
  record Gives (old_board : Board) (old_places : List ℕ) (links_old : ℕ → Link) (new_board : Board) (new_places : List ℕ) (links_new : ℕ → Link) : Type 0 where
    ready : IsReady before new_board
    count : length new_board.connections ≡ length old_board.connections
    firsts : FirstsComeAlone new_board
    numbers : (k : ℕ) → k < length old_board.connections → (connection_at new_board k).number ≡ (connection_at old_board k).number
    took : (k : ℕ) → Contains old_places k
        → TookItsText (connection_at new_board k) ⊎ IsCutShortIn (links_old (connection_at old_board k).number) (links_new (connection_at old_board k).number) (connection_at old_board k) (connection_at new_board k)
    rest : (k : ℕ) → k < length old_board.connections → (Contains old_places k → ⊥)
        → (connection_at new_board k ≡ connection_at old_board k) × (links_new (connection_at old_board k).number ≡ links_old (connection_at old_board k).number)
    stand : (k : ℕ) → Contains new_places k → (connection_at new_board k).cause ≡ None

  all_written : (links_old links_new : ℕ → Link) (old new : Engine) (bytes : ℕ) → WritesAll links_old links_new old new bytes → IsReady before (board_of old) → FirstsComeAlone (board_of old)
      → ((k : ℕ) → Contains (places_of old) k → k < length (board_of old).connections) → Gives (board_of old) (places_of old) links_old (board_of new) (places_of new) links_new
  all_written links_old links_new old new bytes is ready firsts within =
      let places = places_of old in
      let wrote : WroteAll before g places (length places) (written_so_far old.sessions.desk old.lines.unkept.items links_old 0) (written_so_far new.sessions.desk old.lines.unkept.items links_new bytes) =
      written_in_turn before g places (length places) (written_so_far old.sessions.desk old.lines.unkept.items links_old 0) (written_so_far new.sessions.desk old.lines.unkept.items links_new bytes)
      (λ i small. within (slice_index_or places i 0) (Contains-get_or places i 0 small)) is.writes ready firsts in
      record {
        ready = wrote.wrote.ready;
        count = wrote.wrote.count;
        firsts = wrote.wrote.firsts;
        numbers = λ k small. (wrote.wrote.each k small).number;
        took = λ k has. wrote.took has.0 k has.1 (sym (get_or_default_zero places has.0 k has.1) ∙ has.2);
        rest = λ k small none. wrote.rest k small (λ i below at. none (i, below, get_or_default_zero places i k below ∙ at));
        stand = λ k has. elim (Contains-append_cases new.lines.accepted.items new.lines.dialled.items k has) [
          | inl one ↦ stands_where_listed (board_of new) old.lines.accepted.items k (subst (λ xs. Contains xs k) is.accepted one)
          | inr two ↦ stands_where_listed (board_of new) old.lines.dialled.items k (subst (λ xs. Contains xs k) is.dialled two)
        ];
      }

  abbrev GivesAt : AtWire → AtWire → Type 0
  GivesAt old new = Gives (board_of old.engine) (places_of old.engine) old.links (board_of new.engine) (places_of new.engine) new.links

  turn_given : (old new : AtWire) (taken : Taken) (turn : Turn) → GivesTurn old new taken turn → IsReady before (board_of old.engine) → FirstsComeAlone (board_of old.engine)
      → ((k : ℕ) → Contains (places_of old.engine) k → k < length (board_of old.engine).connections) → GivesAt old new
  turn_given old new taken turn is ready firsts within =
      let gives = is.gives in
      let published = gives.published in
      let same : SamePlaces old.engine published =
      each_in_turn PublishesSession SamePlaces (λ e. record { board = refl; lines = refl }) same_further session_published (length (board_of old.engine).sessions) old.engine published gives.publishes in
      let places : places_of published ≡ places_of old.engine = ap (λ (w : WireDesk). open_places w) same.lines in
      let behind = all_written old.links new.links published new.engine turn.written gives.writes (subst (IsReady before) (sym same.board) ready) (subst FirstsComeAlone (sym same.board) firsts)
      (λ k has. subst (λ (b : Board). k < length b.connections) (sym same.board) (within k (subst (λ ps. Contains ps k) places has))) in
      subst (λ b. Gives b (places_of old.engine) old.links (board_of new.engine) (places_of new.engine) new.links) same.board
      (subst (λ ps. Gives (board_of published) ps old.links (board_of new.engine) (places_of new.engine) new.links) places behind)

  -- each that was listed is written to
  given_took : (old new : AtWire) → GivesAt old new → TookTheirTextsSoFar (board_of old.engine) (places_of old.engine) old.links → TookTheirTexts (board_of new.engine) new.links
  given_took old new gives was = record {
    firsts = gives.firsts;
    ended = λ k within ended.
        let small : k < length (board_of old.engine).connections = subst (λ n. k < n) gives.count within in
        let c = connection_at (board_of old.engine) k in
        elim (contains_or_not (places_of old.engine) k) [
          | inl has ↦ subst (λ n. TookItsText (connection_at (board_of new.engine) k) ⊎ IsCutShort (new.links n) (connection_at (board_of new.engine) k)) (sym (gives.numbers k small))
              (cut_or_took c (connection_at (board_of new.engine) k) (old.links c.number) (new.links c.number) (gives.took k has))
          | inr none ↦ (
              let rests = gives.rest k small none in
              elim (was.ended k small (subst HasEnded rests.0 ended)) [
                | inl has ↦ absurd (none has)
                | inr took ↦ took_as_before _ _ old.links new.links rests.0 rests.1 took
              ])
        ];
  } where
    cut_or_took : (a b : ConnectionState) (link_old link_new : Link) → TookItsText b ⊎ IsCutShortIn link_old link_new a b → TookItsText b ⊎ IsCutShort link_new b
    cut_or_took a b link_old link_new (inl took) = inl took
    cut_or_took a b link_old link_new (inr cut) = inr (cut_once link_old link_new a b cut)

  -- before the second half of a turn those that have ended in the first are listed still
  taken_took : (shared : Shared) (old new : AtWire) → Goes before g old new → IsOnline old.engine old.door old.links → TookTheirTexts (board_of old.engine) old.links → TookTheirTextsSoFar (board_of new.engine) (places_of new.engine) new.links
  taken_took shared old new goes online was = record {
    firsts = goes.board.firsts was.firsts;
    ended = λ k within ended. elim (goes.listed k within) [
      | inl has ↦ inl has
      | inr never ↦ (
          let had_ended : HasEnded (connection_at (board_of old.engine) k) = λ none. never.1 (online.wired.all k never.0 none) in
          inr (took_as_before _ _ old.links new.links (goes.board.ended k never.0 had_ended) (goes.links k never.0 had_ended) (was.ended k never.0 had_ended)))
    ];
  }

  -- what a half turn writes of each connection that was listed
  pub half_written : (shared : Shared) (old new : AtWire) (taken : Taken) (turn : Turn) → GivesTurn old new taken turn → IsAtWork shared old.engine → IsOnline old.engine old.door old.links → IsReady before (board_of old.engine)
      → FirstsComeAlone (board_of old.engine) → (k : ℕ) → Contains (places_of old.engine) k
      → TookItsText (connection_at (board_of new.engine) k)
      ⊎ IsCutShortIn (old.links (connection_at (board_of old.engine) k).number) (new.links (connection_at (board_of old.engine) k).number) (connection_at (board_of old.engine) k) (connection_at (board_of new.engine) k)
  half_written shared old new taken turn is work online ready firsts =
      (turn_given old new taken turn is ready firsts (counted_online shared old.engine old.door old.links work online).within).took

  pub half_given : (shared : Shared) (old new : AtWire) (taken : Taken) (turn : Turn) → GivesTurn old new taken turn → IsAtWork shared old.engine → IsOnline old.engine old.door old.links → IsReady before (board_of old.engine)
      → TookTheirTextsSoFar (board_of old.engine) (places_of old.engine) old.links → TookTheirTexts (board_of new.engine) new.links
  half_given shared old new taken turn is work online ready was =
      given_took old new (turn_given old new taken turn is ready was.firsts (counted_online shared old.engine old.door old.links work online).within) was

  module _ (serves : (library at until : ℕ) (old new : LibraryDesk) (turn : LibTurn) → Serves library at until old new turn → RunsFor at old.desk.board new.desk.board) where
    goes : (shared : Shared) (reading : ℕ) (old new : AtWire) (taken : Taken) → TakesTurn reading old new taken → IsAtWork shared old.engine → IsOnline old.engine old.door old.links → IsReady before (board_of old.engine) → Goes before g old new
    goes shared reading old new taken is work online ready = turn_taken before g serves reading old new taken is ready (counted_online shared old.engine old.door old.links work online)

    pub half_taken : (shared : Shared) (reading : ℕ) (old new : AtWire) (taken : Taken) → TakesTurn reading old new taken → IsAtWork shared old.engine → IsOnline old.engine old.door old.links → IsReady before (board_of old.engine)
        → TookTheirTexts (board_of old.engine) old.links → TookTheirTextsSoFar (board_of new.engine) (places_of new.engine) new.links
    half_taken shared reading old new taken is work online ready was = taken_took shared old new (goes shared reading old new taken is work online ready) online was

    middle_gives : (shared : Shared) (reading : ℕ) (old new : AtWire) (turn : Turn) (is : MakesTurn reading old new turn) → IsAtWork shared old.engine → IsOnline old.engine old.door old.links → IsReady before (board_of old.engine)
        → FirstsComeAlone (board_of old.engine) → GivesAt is.middle new
    middle_gives shared reading old new turn is work online ready firsts =
        let behind = goes shared reading old is.middle is.taken is.takes work online ready in
        turn_given is.middle new is.taken turn is.gives behind.board.ready (behind.board.firsts firsts) behind.counted.within

    pub turn_made : (shared : Shared) (reading : ℕ) (old new : AtWire) (turn : Turn) → MakesTurn reading old new turn → IsAtWork shared old.engine → IsOnline old.engine old.door old.links → IsReady before (board_of old.engine)
        → TookTheirTexts (board_of old.engine) old.links → TookTheirTexts (board_of new.engine) new.links
    turn_made shared reading old new turn is work online ready was =
        given_took is.middle new (middle_gives shared reading old new turn is work online ready was.firsts) (half_taken shared reading old is.middle is.taken is.takes work online ready was)

    -- A connection that ended in the turn took its text, or its writing was cut short in the turn; one that had ended before rests.
    pub turn_written : (shared : Shared) (reading : ℕ) (old new : AtWire) (turn : Turn) (is : MakesTurn reading old new turn) → IsAtWork shared old.engine → IsOnline old.engine old.door old.links → IsReady before (board_of old.engine)
        → FirstsComeAlone (board_of old.engine) → (k : ℕ) → k < length (board_of new.engine).connections
        → IsWrittenIn is.middle new k ⊎ RestsIn old new k
    turn_written shared reading old new turn is work online ready firsts k within =
        let behind = goes shared reading old is.middle is.taken is.takes work online ready in
        let gives = middle_gives shared reading old new turn is work online ready firsts in
        let small : k < length (board_of is.middle.engine).connections = subst (λ n. k < n) gives.count within in
        elim (contains_or_not (places_of is.middle.engine) k) [
          | inl has ↦ inl (gives.took k has)
          | inr none ↦ (elim (behind.listed k small) [
            | inl has ↦ absurd (none has)
            | inr never ↦ (
                let had_ended : HasEnded (connection_at (board_of old.engine) k) = λ stands. never.1 (online.wired.all k never.0 stands) in
                let same = behind.board.ended k never.0 had_ended in
                let rests = gives.rest k small none in
                inr (record {
                  within = never.0;
                  ended = had_ended;
                  stays = rests.0 ∙ same;
                  link = subst (λ n. new.links n ≡ is.middle.links n) (ap (λ (c : ConnectionState). c.number) same) rests.1 ∙ behind.links k never.0 had_ended;
                }))
          ])
        ]

-- what waits changes on one connection, and none ends
outbox_causes : (place : Option ℕ) (old new : Board) → OutboxChanges place old new → (j : ℕ) → j < length old.connections → (connection_at new j).cause ≡ (connection_at old j).cause
outbox_causes None old new changes j within = ap (λ cs. (get_or cs j no_connection).cause) changes
outbox_causes (Some k) old new changes j within = elim (same_or_other j k) [
  | inl here ↦ subst (λ n. (connection_at new n).cause ≡ (connection_at old n).cause) (sym here)
      (ap (λ cs. (get_or cs k no_connection).cause) changes.0 ∙ ap (λ (c : ConnectionState). c.cause) (get_or-set_same old.connections k _ no_connection (subst (λ n. n < length old.connections) here within)))
  | inr other ↦ ap (λ cs. (get_or cs j no_connection).cause) changes.0 ∙ ap (λ (c : ConnectionState). c.cause) (get_or-set_other old.connections k j _ no_connection other)
]

module _ (before : ℕ → List Entry) (g : Laws before) where
  -- as many connections, and none ends
  record KeepCauses (old new : Board) : Type 0 where
    more : length old.connections ≤ length new.connections
    each : (j : ℕ) → j < length old.connections → (connection_at new j).cause ≡ (connection_at old j).cause

  causes_itself : (board : Board) → KeepCauses board board
  causes_itself board = record { more = omega arith; each = λ j within. refl }

  causes_further : (first second third : Board) → KeepCauses first second → KeepCauses second third → KeepCauses first third
  causes_further first second third one two = record {
    more = (let more = one.more in let then_more = two.more in omega arith);
    each = λ j within. two.each j (let more = one.more in omega arith) ∙ one.each j within;
  }

  gathered_causes : (s at until : ℕ) (old new : LeaseDesk) → Gathers s at until old new → KeepCauses old.board new.board
  gathered_causes s at until old new is = record {
    more = more_at (place_at old.board s) old.board new.board is.others.connections;
    each = outbox_causes (place_at old.board s) old.board new.board is.others.connections;
  } where
    more_at : (place : Option ℕ) (old new : Board) → OutboxChanges place old new → length old.connections ≤ length new.connections
    more_at None old new changes = (let same : length new.connections ≡ length old.connections = ap length changes in omega arith)
    more_at (Some k) old new changes = (let same : length new.connections ≡ length old.connections = ap length changes.0 ∙ length-set old.connections k _ in omega arith)

  pub gathered_took : (links : ℕ → Link) (at until : ℕ) (old new : LeaseDesk) → GathersAll at until old new → IsReady before old.board → TookTheirTexts old.board links → TookTheirTexts new.board links
  gathered_took links at until old new is ready was =
      let rests = all_gathered before g at until old new is ready in
      let causes = each_in_turn (λ s. Gathers s at until) (λ (a b : LeaseDesk). KeepCauses a.board b.board) (λ d. causes_itself d.board) (λ a b c. causes_further a.board b.board c.board)
      (λ s a b. gathered_causes s at until a b) (length old.board.sessions) old new is in
      record {
        firsts = rests.stays.firsts was.firsts;
        ended = λ k within ended.
            let small : k < length old.board.connections = subst (λ n. k < n) rests.count within in
            let had_ended : HasEnded (connection_at old.board k) = λ none. ended (causes.each k small ∙ none) in
            took_as_before _ _ links links (rests.stays.ended k small had_ended) refl (was.ended k small had_ended);
      }

session_noted : (s : ℕ) (old new : Engine) → NotesSession s old new → board_of new ≡ board_of old
session_noted s old new is = ap board_of is.1

pub records_handed_out : (links : ℕ → Link) (old new : Engine) (records : List Record) → HandsOut old new records → TookTheirTexts (board_of old) links → TookTheirTexts (board_of new) links
records_handed_out links old new records is was =
    let noted = is.noted in
    let same = each_in_turn NotesSession (λ (a b : Engine). board_of b ≡ board_of a) (λ e. refl) (λ a b c one two. two ∙ one) session_noted (length (board_of old).sessions) old noted is.notes in
    let board : board_of new ≡ board_of old = ap board_of is.rest ∙ same in
    subst (λ b. TookTheirTexts b links) (sym board) was

-- no count of the wire falls
pub links_go_on : (board : Board) (old new : ℕ → Link) → ((c : ℕ) → LinkGoesOn (old c) (new c)) → TookTheirTexts board old → TookTheirTexts board new
links_go_on board old new goes was = record { firsts = was.firsts; ended = λ k within ended. later (connection_at board k) (was.ended k within ended) } where
  later : (c : ConnectionState) → TookOrCutShort old c → TookOrCutShort new c
  later c (inl took) = inl took
  later c (inr (inl fault)) = inr (inl (let more = (goes c.number).write_faults in omega arith))
  later c (inr (inr (inl block))) = inr (inr (inl (let more = (goes c.number).write_blocks in omega arith)))
  later c (inr (inr (inr most))) = inr (inr (inr most))
