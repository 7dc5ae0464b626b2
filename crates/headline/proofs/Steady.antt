-- Whatever happens by which no connection comes, each keeps its number and stays accepted or dialled, and an answer isn't taken back.
use Rattle.std.proofs.Common.{◌≡◌, ℕ, zero, suc, Bool, true, false, List, [], ◌∷◌, get_or, set, Option, None, Some, refl, sym, ap, subst, ◌∙◌}
use Rattle.std.proofs.lemmas.List.Elements.{All-cons, All-head, All-tail}
use Rattle.std.specs.List.{All, filter}
use Rattle.std.specs.Prelude.{cond, not}
use Rattle.connection_core.specs.Connection.{ConnectionState}
use Rattle.headline.proofs.Walk.{IsKept}
use Rattle.headline.specs.Numbering.{AreInOrder, CountsAsAnswered, numbers_of}
use Rattle.switchboard.specs.Board.{Board, OutboxChanges, connection_at, no_connection}
use Rattle.switchboard.specs.Going.{is_coming}
use Rattle.switchboard.specs.Happenings.{BindsTo, BookChanges, ConnectionChanges, EndsBound, Happening, Happens, SessionGoesOn, accepts, answers, binds, binds_and_ends, dials, ends_bound, ends_unbound, gives, lapses, prepares, receives, requests, reserves, shows, takes, ticks, times_out, writes}
use Rattle.session_book.specs.Book.{Book}
use Rattle.session_core.specs.declared.causes.Cause.{Cause}

-- one connection
pub record SameKind (old new : ConnectionState) : Type 0 where
  pub number : new.number ≡ old.number
  pub dialled : new.dialled ≡ old.dialled
  pub answered : old.answered ≡ true → new.answered ≡ true

-- as many, each of the same kind
abbrev pub AreSame : List ConnectionState → List ConnectionState → Type 0
AreSame [] [] = Unit {0}
AreSame (c ∷ cs) (d ∷ ds) = SameKind c d × AreSame cs ds
AreSame [] (d ∷ ds) = ⊥
AreSame (c ∷ cs) [] = ⊥

abbrev pub Steady : Board → Board → Type 0
Steady old new = AreSame old.connections new.connections

kind_itself : (c : ConnectionState) → SameKind c c
kind_itself c = record { number = refl; dialled = refl; answered = λ a. a }

same_itself : (cs : List ConnectionState) → AreSame cs cs
same_itself [] = tt
same_itself (c ∷ cs) = (kind_itself c, same_itself cs)

same_further : (cs ds es : List ConnectionState) → AreSame cs ds → AreSame ds es → AreSame cs es
same_further [] [] es one two = two
same_further [] (d ∷ ds) es one two = absurd one
same_further (c ∷ cs) [] es one two = absurd one
same_further (c ∷ cs) (d ∷ ds) [] one two = absurd two
same_further (c ∷ cs) (d ∷ ds) (e ∷ es) one two = (
  record {
    number = two.0.number ∙ one.0.number;
    dialled = two.0.dialled ∙ one.0.dialled;
    answered = λ a. two.0.answered (one.0.answered a);
  },
  same_further cs ds es one.1 two.1,
)

set_same : (cs : List ConnectionState) (k : ℕ) (c : ConnectionState) → SameKind (get_or cs k no_connection) c → AreSame cs (set cs k c)
set_same [] k c same = tt
set_same (x ∷ xs) zero c same = (same, same_itself xs)
set_same (x ∷ xs) (suc k) c same = (kind_itself x, set_same xs k c same)

same_lines : (old new : Board) → new.connections ≡ old.connections → Steady old new
same_lines old new same = subst (AreSame old.connections) (sym same) (same_itself old.connections)

one_line : (k : ℕ) (c : ConnectionState) (old new : Board) → new.connections ≡ set old.connections k c → SameKind (connection_at old k) c → Steady old new
one_line k c old new changes same = subst (AreSame old.connections) (sym changes) (set_same old.connections k c same)

changing : (k : ℕ) (c : ConnectionState) (old new : Board) → ConnectionChanges k c old new → SameKind (connection_at old k) c → Steady old new
changing k c old new changes same = one_line k c old new (ap (λ (b : Board). b.connections) changes.others) same

outboxes : (place : Option ℕ) (old new : Board) → OutboxChanges place old new → Steady old new
outboxes None old new changes = same_lines old new changes
outboxes (Some k) old new changes = one_line k (record (connection_at old k) { out = (connection_at new k).out }) old new changes.0 (record { number = refl; dialled = refl; answered = λ a. a })

going : (s : ℕ) (old new : Board) → SessionGoesOn s old new → Steady old new
going s old new goes = outboxes _ old new goes.others.connections

same_by : (old new : ConnectionState) → new.number ≡ old.number → new.dialled ≡ old.dialled → new.answered ≡ old.answered → SameKind old new
same_by old new number dialled answered = record { number = number; dialled = dialled; answered = λ a. answered ∙ a }

binding : (s k : ℕ) (body : List ℕ) (at : ℕ) (old new : Board) → BindsTo s k body at old new → Steady old new
binding s k body at old new is = one_line k (connection_at new k) old new is.plugged.connections (same_by (connection_at old k) (connection_at new k)
    (ap (λ (c : ConnectionState). c.number) is.connection) (ap (λ (c : ConnectionState). c.dialled) is.connection) (ap (λ (c : ConnectionState). c.answered) is.connection))

leaving : (s k : ℕ) (cause : Cause) (old new : Board) → EndsBound s k cause old new → Steady old new
leaving s k cause old new is = one_line k (connection_at new k) old new is.unplugged.connections (same_by (connection_at old k) (connection_at new k)
    (ap (λ (c : ConnectionState). c.number) is.connection) (ap (λ (c : ConnectionState). c.dialled) is.connection) (ap (λ (c : ConnectionState). c.answered) is.connection))

alone : (s : ℕ) (book : Book) (old new : Board) → BookChanges s book old new → Steady old new
alone s book old new changes = same_lines old new (ap (λ (b : Board). b.connections) changes.others)

happened : (happening : Happening) (old new : Board) → is_coming happening ≡ false → Happens happening old new → Steady old new
happened (accepts number at) old new quiet is = absurd (cc)
happened (dials s number at) old new quiet is = absurd (cc)
happened (takes k bytes) old new quiet is = changing k _ old new is.changes (record { number = refl; dialled = refl; answered = λ a. a })
happened (gives k) old new quiet is = changing k _ old new is.changes (record { number = refl; dialled = refl; answered = λ a. a })
happened (binds s k body at) old new quiet is = binding s k body at old new is.binding
happened (binds_and_ends s k body at cause) old new quiet is =
    same_further old.connections is.between.connections new.connections (binding s k body at old is.between is.binding) (leaving s k cause is.between new is.leaves)
happened (receives s k body at) old new quiet is = going s old new is.goes_on
happened (answers k) old new quiet is = changing k _ old new is (record { number = refl; dialled = refl; answered = λ a. refl })
happened (ticks s at) old new quiet is = going s old new is.goes_on
happened (shows s w bodies at until) old new quiet is = going s old new is.goes_on
happened (times_out s w bodies at until) old new quiet is = going s old new is.goes_on
happened (requests s library nr from) old new quiet is = alone s _ old new is
happened (lapses s) old new quiet is = alone s _ old new is
happened (ends_unbound k cause) old new quiet is = changing k _ old new is.changes (record { number = refl; dialled = refl; answered = λ a. a })
happened (ends_bound s k cause) old new quiet is = leaving s k cause old new is
happened (prepares s k) old new quiet is = changing k _ old new is.changes (record { number = refl; dialled = refl; answered = λ a. a })
happened (writes k n) old new quiet is = changing k _ old new is.changes (record { number = refl; dialled = refl; answered = λ a. a })
happened (reserves s) old new quiet is = going s old new is.goes_on

pub steady_kept : IsKept Steady
steady_kept = record {
  itself = λ board. same_itself board.connections;
  further = λ first second third one two. same_further first.connections second.connections third.connections one two;
  happens = happened;
}

-- connections of the same kinds have the same numbers
picked : (b : Bool) (c d : ConnectionState) (cs ds : List ConnectionState) → d.number ≡ c.number → numbers_of ds ≡ numbers_of cs → numbers_of (cond b (d ∷ ds) ds) ≡ numbers_of (cond b (c ∷ cs) cs)
picked true c d cs ds number rest = ap (λ n. n ∷ numbers_of ds) number ∙ ap (λ ns. c.number ∷ ns) rest
picked false c d cs ds number rest = rest

same_numbers : (test : Bool → Bool) (cs ds : List ConnectionState) → AreSame cs ds → numbers_of (filter (λ c. test c.dialled) ds) ≡ numbers_of (filter (λ c. test c.dialled) cs)
same_numbers test [] [] same = refl
same_numbers test [] (d ∷ ds) same = absurd same
same_numbers test (c ∷ cs) [] same = absurd same
same_numbers test (c ∷ cs) (d ∷ ds) same =
    let rest_d = filter (λ (x : ConnectionState). test x.dialled) ds in
    let rest_c = filter (λ (x : ConnectionState). test x.dialled) cs in
    ap (λ (b : Bool). numbers_of (cond (test b) (d ∷ rest_d) rest_d)) same.0.dialled ∙ picked (test c.dialled) c d rest_c rest_d same.0.number (same_numbers test cs ds same.1)

same_answered : (cs ds : List ConnectionState) → AreSame cs ds → All CountsAsAnswered cs → All CountsAsAnswered ds
same_answered [] [] same all = all
same_answered [] (d ∷ ds) same all = absurd same
same_answered (c ∷ cs) [] same all = absurd same
same_answered (c ∷ cs) (d ∷ ds) same all =
    All-cons CountsAsAnswered d ds (λ accepted. same.0.answered (All-head CountsAsAnswered c cs all (sym same.0.dialled ∙ accepted)))
    (same_answered cs ds same.1 (All-tail CountsAsAnswered c cs all))

pub steady_order : (accepted dialled : ℕ) (old new : Board) → Steady old new → AreInOrder accepted dialled old.connections → AreInOrder accepted dialled new.connections
steady_order accepted dialled old new same are = record {
  accepted_are = same_numbers not old.connections new.connections same ∙ are.accepted_are;
  dialled_are = same_numbers (λ b. b) old.connections new.connections same ∙ are.dialled_are;
  answered = same_answered old.connections new.connections same are.answered;
}
