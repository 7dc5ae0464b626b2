-- What an account in part says in the words of a record.
use Rattle.std.proofs.Common.{◌≡◌, inl, inr, ℕ, ◌<◌, ◌≤◌, List, get_or, length, sym, ap, subst, ◌∙◌}
use Rattle.std.specs.List.{All}
use Rattle.connection_core.specs.Record.{record_of}
use Rattle.engine_config.specs.Config.{names_of}
use Rattle.engine_config.specs.declared.config.Config.{Config}
use Rattle.engine_end.specs.Records.{IsLeftBy, SessionLeft, left_of}
use Rattle.engine_laws.specs.Stopped.{IsAccountedInPart}
use Rattle.fix_frame.specs.Cut.{Cut, cut}
use Rattle.fix_frame.specs.declared.layout.TheConstants.{LONGEST_FRAME}
use Rattle.headline.proofs.Found.{few_accepted, place_of, session_count, session_found}
use Rattle.headline.proofs.InPartKinds.{AreNumberedSo}
use Rattle.headline.specs.InPart.{HeadlineInPart, IsHandledSoFar, TellsActsSoFar, TellsAll}
use Rattle.lease_core.specs.State.{state_of}
use Rattle.lease_core.specs.declared.entry.Entry.{Entry}
use Rattle.lease_core.specs.declared.record.Record.{Record}
use Rattle.library_desk.specs.declared.desk.Stray.{Stray}
use Rattle.headline.specs.runs.Accounted.{first_machines, no_entries}
use Rattle.run_report.specs.declared.records.RunRecord.{RunRecord}
use Rattle.session_book.specs.Runs.{Handled, IsInside, IsRunOver, TellRuns}
use Rattle.session_book.specs.Spells.{placed_from, spells_behind}
use Rattle.switchboard.specs.Board.{Board, book_at, connection_at, session_at}

-- the sessions are the configured ones
pub record AreTheSessions (config : Config) (board : Board) : Type 0 where
  pub count : length board.sessions ≡ length config.names
  pub names : (s : ℕ) → s < length board.sessions → (book_at board s).machine.names ≡ names_of config s
  pub leases : (s : ℕ) → s < length board.sessions → (book_at board s).leases ≡ config.leases

module _ (config : Config) (board : Board) (strays : List Stray) (accepted : ℕ) (added : List Record) (left : RunRecord) (is_left : IsLeftBy board strays accepted added left.engine)
    (so : AreNumberedSo board) (account : IsAccountedInPart no_entries (first_machines config) board) where
  one_handled : (s : ℕ) → s < length board.sessions → (i : ℕ) (d : Handled) → i < length (account.handled s) → IsHandledSoFar left so.accepted s (get_or (account.handled s) i d)
  one_handled s small i d within =
      let of = account.each s small i d within in
      let there = place_of board.connections left so.accepted so.dialled is_left.connections so.numbers.accepted_are so.numbers.dialled_are of.place of.within in
      record {
        place = there.place;
        c = record_of (connection_at board of.place);
        at = there.at;
        number_is = there.number ∙ of.number_is;
        names = of.names;
        pieces = of.pieces;
        begin = record { rest = (cut LONGEST_FRAME (connection_at board of.place).held).pieces; is = sym (ap (λ (c : Cut). c.pieces) of.given.so_far.so_far) };
        good = record { rest = of.rest; is = sym of.good };
        few = of.few;
      }

  tells_all : (s : ℕ) → IsRunOver (no_entries s) (first_machines config s) (account.handled s) (book_at board s) → TellsAll config s (left_of (session_at board s)) (account.handled s)
  tells_all s over =
      let book = book_at board s in
      let entries = sym over.entries_are in
      record {
        told = subst (λ (es : List Entry). TellRuns book.inbound book.outbound (first_machines config s) (account.handled s) (spells_behind (no_entries s) es)) entries over.told;
        inside = subst (λ (es : List Entry). All IsInside (placed_from (state_of (no_entries s)) es)) entries over.inside;
      }

  session_tells : (s : ℕ) → s < length board.sessions → TellsActsSoFar config left so.accepted s (left_of (session_at board s)) (account.handled s)
  session_tells s small =
      record {
        each = one_handled s small;
        once = account.once s small;
        told = elim (account.runs s small) [
          | inl over ↦ inl (tells_all s over)
          | inr begun ↦ inr (record {
            past = begun.past;
            last = begun.last;
            handled_are = begun.handled_are;
            front = begun.front;
            spell = begun.spell;
            spells = ap (λ (es : List Entry). spells_behind (no_entries s) es) begun.entries_are ∙ begun.spells;
            told = begun.told;
            connection = begun.connection;
            done = begun.done;
            left = begun.left;
            acts_are = begun.acts_are;
            begun = begun.begun;
          })
        ];
      }

  pub headline_in_part : AreTheSessions config board → length left.libraries ≤ config.libraries → HeadlineInPart config left
  headline_in_part sessions libraries = record {
    count = session_count board strays accepted added left is_left ∙ sessions.count;
    names = λ s session has.
        let one = session_found board strays accepted added left is_left s session has in
        ap (λ (x : SessionLeft). x.names) one.is ∙ sessions.names s one.within;
    leases = λ s session has.
        let one = session_found board strays accepted added left is_left s session has in
        ap (λ (x : SessionLeft). x.leases) one.is ∙ sessions.leases s one.within;
    libraries = libraries;
    accepted = so.accepted;
    few = few_accepted board.connections left so.accepted so.dialled is_left.connections so.numbers.accepted_are so.numbers.dialled_are;
    acts = λ s session has.
        let one = session_found board strays accepted added left is_left s session has in
        subst (λ (x : SessionLeft). TellsActsSoFar config left so.accepted s x (account.handled s)) (sym one.is) (session_tells s one.within);
    handled = account.handled;
    one = λ s t session other has has_other apart.
        let here = session_found board strays accepted added left is_left s session has in
        let there = session_found board strays accepted added left is_left t other has_other in
        elim (account.one s t apart here.within there.within) [
          | inl over ↦ inl (subst (λ (x : SessionLeft). TellsAll config s x (account.handled s)) (sym here.is) (tells_all s over))
          | inr over ↦ inr (subst (λ (x : SessionLeft). TellsAll config t x (account.handled t)) (sym there.is) (tells_all t over))
        ];
  }
