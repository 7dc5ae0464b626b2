-- How the sessions begin, one after another.
use Rattle.std.proofs.Common.{◌≡◌, ℕ, ◌+◌, ◌<◌, List, [], ◌∷◌, ◌++◌, Bool, true, false, cond, length, get_or, Option, None, refl, sym, ap, subst, ◌∙◌, arith}
use borrow.Author.Count.{below_more}
use Rattle.std.proofs.Math.ListN.{get_or-append}
use Rattle.std.proofs.Math.Seq.{get_or-append_seam}
use Rattle.std.proofs.lemmas.Cmp.{nat_cmp_total}
use Rattle.std.proofs.lemmas.List.{length-append}
use Rattle.std.specs.FinMap.{FinMap, empty, get-empty, get-retain_keys, nat_cmp-IsAntisymmetric, retain_keys, same_map}
use Rattle.std.specs.Ordering.{nat_cmp}
use Rattle.std.specs.Prelude.{nat_le}
use Rattle.connection_core.specs.Outgoing.{no_outgoing}
use Rattle.engine_config.specs.Config.{dial_of, names_of}
use Rattle.engine_config.specs.declared.config.Config.{Config}
use Rattle.engine_start.specs.Starts.{fresh_book, configured_book}
use Rattle.lease_core.specs.State.{state_of}
use Rattle.seq_gaps.specs.Line.{Line, after_fill, fresh_line}
use Rattle.session_book.specs.Book.{Book}
use Rattle.session_book.specs.Kept.{Kept}
use Rattle.session_book.specs.Reviving.{ReadBack, after_resume, nothing_read}
use Rattle.session_core.specs.State.{new_state}
use Rattle.session_core.specs.declared.tasks.Task.{Task}
use Rattle.switchboard.specs.Board.{Board, book_at, no_session, with_session_more}
use Rattle.switchboard.specs.Ready.{IsFirst, entries_of}
use Rattle.switchboard.specs.Sound.{IsLawful, bound_of}

none_either : {X : Type 0} (b : Bool) (o : Option X) → o ≡ None → cond b o None ≡ None
none_either true o none = none
none_either false o none = refl

none_kept : (to : ℕ) → retain_keys (empty {X = Task} {R = nat_cmp}) (nat_le to) ≡ empty
none_kept to = same_map nat_cmp_total nat_cmp-IsAntisymmetric _ _ (λ n.
    let none = get-empty {X = Task} nat_cmp n in
    get-retain_keys empty (nat_le to) n (λ k tied. ap (nat_le to) (sym (nat_cmp-IsAntisymmetric n k tied))) ∙ none_either (nat_le to n) _ none ∙ sym none)

-- a line that was filled up to a number from its beginning holds nothing, and expects that number
pub line_from : (n : ℕ) → after_fill fresh_line n ≡ record (fresh_line {T = Task}) { expected = n }
line_from n = ap (λ (held : FinMap nat_cmp Task). record (fresh_line {T = Task}) { expected = n; held = held }) (none_kept n)

-- nothing is held below the first number
first_line : after_fill fresh_line 1 ≡ fresh_line {T = Task}
first_line = line_from 1

-- a session that goes on behind nothing is a new one
behind_nothing : (us them : List ℕ) (dials : Option ℕ) (leases : ℕ) → after_resume us them dials 1 0 (nothing_read leases) ≡ fresh_book us them dials leases
unfolding state_of
behind_nothing us them dials leases = ap (λ (line : Line Task). record (fresh_book us them dials leases) { machine = new_state us them dials line }) first_line

pub begun : (us them : List ℕ) (dials : Option ℕ) (leases : ℕ) (read : ReadBack) (book : Book) → read ≡ nothing_read leases → book ≡ after_resume us them dials 1 0 read → book ≡ fresh_book us them dials leases
begun us them dials leases read book nothing is = is ∙ ap (after_resume us them dials 1 0) nothing ∙ behind_nothing us them dials leases

-- the first sessions of a configuration
pub record BeginSessions (config : Config) (count : ℕ) (board : Board) : Type 0 where
  pub count_is : length board.sessions ≡ count
  pub books : (s : ℕ) → s < count → book_at board s ≡ configured_book config.leases (names_of config s) (dial_of config s)
  pub first : IsFirst (entries_of board) board
  pub nowhere : board.nowhere.outgoing ≡ no_outgoing

-- what the laws of boards say of one session more
abbrev pub GoesOnFirst : Type 0
GoesOnFirst = (board : Board) (kept : Kept) → bound_of kept.book ≡ None → IsLawful kept.book → IsFirst (entries_of board) board → IsFirst (entries_of (with_session_more kept board)) (with_session_more kept board)

pub one_more : GoesOnFirst → (config : Config) (count : ℕ) (old new : Board) (kept : Kept) → bound_of kept.book ≡ None → IsLawful kept.book
    → kept.book ≡ configured_book config.leases (names_of config count) (dial_of config count) → new ≡ with_session_more kept old → BeginSessions config count old → BeginSessions config (count + 1) new
one_more law config count old new kept unbound lawful book is begin =
    let sessions : new.sessions ≡ old.sessions ++ kept ∷ [] = ap (λ (b : Board). b.sessions) is in
    record {
      count_is = ap (λ (ks : List Kept). length ks) sessions ∙ length-append old.sessions (kept ∷ []) ∙ ap (λ n. n + 1) begin.count_is;
      books = below_more (λ s. book_at new s ≡ configured_book config.leases (names_of config s) (dial_of config s)) count
          (λ s small. ap (λ (ks : List Kept). (get_or ks s no_session).book) sessions
          ∙ ap (λ (k : Kept). k.book) (get_or-append old.sessions (kept ∷ []) no_session s (let same = begin.count_is in omega arith))
          ∙ begin.books s small)
          (ap (λ (ks : List Kept). (get_or ks count no_session).book) sessions
          ∙ ap (λ n. (get_or (old.sessions ++ kept ∷ []) n no_session).book) (sym begin.count_is)
          ∙ ap (λ (k : Kept). k.book) (get_or-append_seam old.sessions kept [] no_session)
          ∙ book);
      first = subst (λ b. IsFirst (entries_of b) b) (sym is) (law old kept unbound lawful begin.first);
      nowhere = ap (λ (b : Board). b.nowhere.outgoing) is ∙ begin.nowhere;
    }
