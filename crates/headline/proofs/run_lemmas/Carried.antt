-- A run stays accounted for over each step of its script, and over the last gathering.
use Rattle.std.proofs.Common.{◌≡◌, inl, inr, ℕ, suc, ◌+◌, ◌≤◌, List, [], ◌∷◌, length, Some, refl, ap, subst, sym, ◌∙◌, arith}
use Rattle.std.proofs.lemmas.List.{length-set}
use Rattle.std.proofs.lemmas.List.Elements.{All-cons, All-nil}
use Rattle.std.specs.List.{All}
use Rattle.std.specs.Prelude.{map, slice_get}
use Rattle.engine_loop.specs.declared.engine.Engine.{Engine}
use Rattle.gate_io.specs.MemWire.{WireState, link_at}
use Rattle.gate_io.specs.Wire.{LinkGoesOn}
use Rattle.lease_core.specs.declared.entry.Entry.{Entry}
use Rattle.lease_words.specs.Views.{EngineView, LibraryView}
use Rattle.headline.specs.runs.Accounted.{AreNumbered, FitsTable, IsAccountedAt, IsAccountedRun, IsNumbered, RunLeavesAccounted}
use Rattle.script_run.specs.declared.callers.Caller.{Caller}
use Rattle.script_run.specs.declared.run.Run.{Run}
use Rattle.headline.proofs.run_lemmas.Calls.{call_made}
use Rattle.headline.proofs.run_lemmas.Wires.{comes_on, room_on, same_on}
use Rattle.headline.proofs.run_lemmas.Places.{each_behind}
use Rattle.headline.proofs.run_lemmas.GoingOn.{made_turn}
use Rattle.headline.proofs.Carrying.{StaysAside, each_step}
use Rattle.headline.proofs.Walking.{each_in_turn}
use Rattle.headline.specs.Needed.{RunLaws}
use Rattle.run_report.specs.declared.records.RunRecord.{RunRecord}
use Rattle.script_run.specs.Calls.{CallsAs}
use Rattle.script_run.specs.Means.{Leaves, report_of, seat_of}
use Rattle.script_run.specs.Runs.{CallsAt, CallsBetween, Carries, CarriesAt, CarriesOut, ChangesCaller, Meets, MeetsCaller, TurnsOver, with_room}
use Rattle.script_text.specs.declared.steps.LibStep.{LibStep}
use Rattle.script_text.specs.declared.steps.Step.{Step}
use Rattle.session_core.specs.State.{State}
use Rattle.switchboard.specs.Board.{Board}
use Rattle.engine_laws.specs.texts.Taken.{TookTheirTexts}

-- the library at a place changes, and stays numbered
numbered_at : (Changes : Caller → Caller → Type 0) (place : ℕ) (old new : Run) (is : ChangesCaller Changes place old new)
    → (IsNumbered place is.before → IsNumbered place is.after)
    → new.engine.sessions.desk.seat.table ≡ old.engine.sessions.desk.seat.table → AreNumbered old → AreNumbered new
numbered_at Changes place old new is stays table was = record {
  count = ap length is.callers ∙ (length-set old.callers.items place is.after ∙ (was.count ∙ sym (ap (λ t. t.shape.libraries) table)));
  each = each_behind IsNumbered IsNumbered Changes place old new is (λ j caller other numbers. numbers) stays was.each;
}

seats_fit : (libraries : ℕ) (callers : List Caller) (from : ℕ) → from + length callers ≤ libraries → ((place : ℕ) (caller : Caller) → slice_get callers place ≡ Some caller → caller.library.ends.seat.knows.number ≡ from + place + 1)
    → All (FitsTable libraries) (map seat_of callers)
seats_fit libraries [] from few each = All-nil (FitsTable libraries)
seats_fit libraries (caller ∷ callers) from few each =
    let here = each 0 caller refl in
    All-cons (FitsTable libraries) (seat_of caller) (map seat_of callers) (omega arith, omega arith)
    (seats_fit libraries callers (from + 1) (omega arith) (λ place one found. each (suc place) one found ∙ omega arith))

module _ (before : ℕ → List Entry) (start : ℕ → State) (laws : RunLaws before start) where
  abbrev Stays : Run → Run → Type 0
  Stays old new = IsAccountedRun before start old → IsAccountedRun before start new

  -- the engine and the libraries stay, and no count of the wire falls
  untouched : (old new : Run) → new.engine ≡ old.engine → new.callers ≡ old.callers → ((c : ℕ) → LinkGoesOn (link_at old.wire c) (link_at new.wire c)) → Stays old new
  untouched old new engine callers links was = record {
    texts = subst (λ (e : Engine). TookTheirTexts e.sessions.desk.board (link_at new.wire)) (sym engine) (laws.text_known old.engine.sessions.desk.board (link_at old.wire) (link_at new.wire) links was.texts);
    engine = subst (λ e. IsAccountedAt before start e.moment e.sessions) (sym engine) was.engine;
    libraries = record {
      count = ap (λ vec. length vec.items) callers ∙ (was.libraries.count ∙ sym (ap (λ e. e.sessions.desk.seat.table.shape.libraries) engine));
      each = λ place caller found. was.libraries.each place caller (subst (λ vec. slice_get vec.items place ≡ Some caller) callers found);
    };
  }

  same_texts : (old new : Run) → new.engine.sessions.desk.board ≡ old.engine.sessions.desk.board → new.wire ≡ old.wire → TookTheirTexts old.engine.sessions.desk.board (link_at old.wire)
      → TookTheirTexts new.engine.sessions.desk.board (link_at new.wire)
  same_texts old new board wire was =
      subst (λ (b : Board). TookTheirTexts b (link_at new.wire)) (sym board) (subst (λ (w : WireState). TookTheirTexts old.engine.sessions.desk.board (link_at w)) (sym wire) was)

  turned : (old new : Run) → TurnsOver old new → Stays old new
  turned old new is was =
      let sides = (made_turn laws.going old.clock.moment _ _ is.turn is.turns).sides in
      record {
        texts = laws.text_turn is.shared old.clock.moment _ _ is.turn is.turns is.work is.online was.engine.ready was.texts;
        engine = laws.turn old.clock.moment _ _ is.turn is.turns was.engine;
        libraries = record {
          count = ap (λ run. length run.callers.items) is.rest ∙ (was.libraries.count ∙ sym (ap (λ t. t.shape.libraries) sides.table));
          each = λ place caller found. was.libraries.each place caller (subst (λ (run : Run). slice_get run.callers.items place ≡ Some caller) is.rest found);
        };
      }

  pub met : (place : ℕ) (old new : Run) → Meets place old new → Stays old new
  met place old new is was =
      let one = is.caller in
      let meets = one.changes in
      let number : one.before.number ≡ place + 1 = (was.libraries.each place one.before one.found).number in
      let board : new.engine.sessions.desk.board ≡ old.engine.sessions.desk.board = ap (λ (e : Engine). e.sessions.desk.board) meets.engine in
      record {
        texts = same_texts old new board (ap (λ (run : Run). run.wire) is.rest) was.texts;
        engine = subst (λ n. IsAccountedAt before start n new.engine.sessions) (sym (ap (λ (e : Engine). e.moment) meets.engine))
            (laws.meets old.engine.moment one.before.number old.engine.sessions new.engine.sessions one.before.library.ends one.after.library.ends
            (record { from_one = omega arith; seats = meets.seats; rings = meets.rings; rest = ap (λ (e : Engine). e.sessions) meets.engine }) was.engine);
        libraries = numbered_at (MeetsCaller old.engine new.engine) place old new one
            (λ numbers. record {
              number = ap (λ (c : Caller). c.number) meets.caller ∙ numbers.number;
              seat = ap (λ (v : LibraryView). v.knows.number) meets.seats.library ∙ numbers.seat;
            })
            (ap (λ (v : EngineView). v.table) meets.seats.engine) was.libraries;
      }

  called : (what : LibStep) (place : ℕ) (old new : Run) → CallsAt what place old new → Stays old new
  called what place old new is was =
      let engine : new.engine ≡ old.engine = ap (λ (run : Run). run.engine) is.rest in
      let one = is.caller in
      record {
        texts = same_texts old new (ap (λ (e : Engine). e.sessions.desk.board) engine) (ap (λ (run : Run). run.wire) is.rest) was.texts;
        engine = subst (λ (e : Engine). IsAccountedAt before start e.moment e.sessions) (sym engine) was.engine;
        libraries = numbered_at (CallsAs what) place old new one
            (λ numbers. record {
              number = ap (λ (c : Caller). c.number) one.changes.rest ∙ numbers.number;
              seat = (call_made what one.changes.call one.before.library one.after.library one.changes.makes).stays.number ∙ numbers.seat;
            })
            (ap (λ (e : Engine). e.sessions.desk.seat.table) engine) was.libraries;
      }

  pub called_between : (what : LibStep) (place : ℕ) (old new : Run) → CallsBetween what place old new → Stays old new
  called_between what place old new is was =
      met place is.called new is.meets_again (called what place is.met is.called is.calls (met place old is.met is.meets was))

  links_on : (old new : Run) → StaysAside old new → (c : ℕ) → LinkGoesOn (link_at old.wire c) (link_at new.wire c)
  links_on old new is = elim is.wire [
    | inl same ↦ same_on old.wire new.wire same
    | inr comes ↦ comes_on comes.0 old.wire new.wire comes.1
  ]

  pub carried : (what : Step) (old new : Run) → Carries what old new → Stays old new
  carried = each_step Stays (λ old new is. untouched old new is.engine is.callers (links_on old new is))
      (λ old new is was. turned (with_room old) new is (untouched old (with_room old) refl refl (room_on _ old.wire) was)) called_between

  pub carried_out : (steps : List Step) (count : ℕ) (old new : Run) → CarriesOut steps count old new → Stays old new
  carried_out steps count old new is =
      each_in_turn (CarriesAt steps) Stays (λ run was. was) (λ a b c one two was. two (one was)) (λ i a b at. carried at.what a b at.carries) count old new is

  pub left_behind : (run : Run) (left : RunRecord) → Leaves run left → IsAccountedRun before start run → RunLeavesAccounted before start run left
  left_behind run left is was =
      let seats = map seat_of run.callers.items in
      let libraries = run.engine.sessions.desk.seat.table.shape.libraries in
      laws.leaves run.engine (link_at run.wire) seats (map report_of run.callers.items) left is.engine is.libraries was.engine was.texts
      (seats_fit libraries run.callers.items 0 (omega (arith, was.libraries.count)) (λ place caller found. (was.libraries.each place caller found).seat ∙ omega arith))
