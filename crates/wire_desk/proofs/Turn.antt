-- Each connection that isn't closed was written to, and those that have ended are listed no longer.
use Rattle.std.proofs.Common.{◌≡◌, ◌≢◌, inl, inr, ℕ, zero, suc, ◌+◌, ◌<◌, ◌≤◌, Bool, true, false, cond, List, [], ◌∷◌, ◌++◌, length, get_or, Option, None, Some, refl, sym, ap, subst, ◌∙◌, append_assoc, arith, length-append}
use Rattle.std.proofs.lemmas.Bool.{lt-ltb, ltb-true}
use Rattle.std.proofs.lemmas.List.{append-nil, get_or_append_left}
use Rattle.std.proofs.lemmas.List.Elements.{All-cons, All-head, All-tail, All-weaker, Contains-append_right, filter_passes}
use Rattle.std.proofs.lemmas.List.Kept.{AllPairs-cons, AllPairs-filter}
use Rattle.std.proofs.lemmas.List.Quantifiers.{all_pairs_push}
use Rattle.std.specs.List.{All, Contains, filter}
use Rattle.std.specs.Prelude.{◌&&◌, is_none, nat_lt}
use Rattle.gate_io.specs.Wire.{Door, Link, OthersStay}
use Rattle.gate_io.specs.declared.dials.Dialled.{Dialled}
use Rattle.gate_io.specs.declared.dials.Dialled.TheVariants as dial
use Rattle.gate_io.specs.declared.wires.Accepted.{Accepted}
use Rattle.gate_io.specs.declared.wires.Accepted.TheVariants as accept
use Rattle.session_core.specs.declared.causes.Cause.{Cause}
use Rattle.switchboard.specs.Board.{Board, connection_at}
use Rattle.switchboard.specs.Going.{GoesOnTo}
use Rattle.wire_desk.proofs.OnWire.{leases_further, stands_since}
use Rattle.wire_desk.proofs.Progress.{same_or_other}
use Rattle.wire_desk.specs.Lines.{IsOpenPlace, IsWired, standing, stands_at}
use Rattle.wire_desk.specs.Places.{AreRising, dialled_behind, listed_behind}
use Rattle.wire_desk.specs.Steps.{AreApart, AreOnWire, AreOpenFrom, KeepsWhatCame, Progresses, ProgressesUnread, ProgressesWriting}

came_further : (old mid new : Board) (k : ℕ) → KeepsWhatCame (connection_at old k) (connection_at mid k) → KeepsWhatCame (connection_at mid k) (connection_at new k) → KeepsWhatCame (connection_at old k) (connection_at new k)
came_further old mid new k one two = record { taken = two.taken ∙ one.taken; held = two.held ∙ one.held; garbled = two.garbled ∙ one.garbled }

pub unread_itself : (board : Board) → Progresses 0 board board → ProgressesUnread board board
unread_itself board is = record { goes_on = is.goes_on; leases = is.leases; count = refl; came = λ k within. record { taken = refl; held = refl; garbled = refl } }

-- one more is written to
pub unread_further : ((first second third : Board) → GoesOnTo first second → GoesOnTo second third → GoesOnTo first third) → (k : ℕ) (old mid new : Board) → ProgressesUnread old mid → ProgressesWriting k mid new → ProgressesUnread old new
unread_further law k old mid new one two = record {
  goes_on = law old mid new one.goes_on two.goes_on;
  leases = λ s. leases_further old mid new s (one.leases s) (two.leases s);
  count = two.count ∙ one.count;
  came = λ j within. came_further old mid new j (one.came j within) (elim (same_or_other j k) [
    | inl e ↦ subst (λ n. KeepsWhatCame (connection_at mid n) (connection_at new n)) (sym e) two.came
    | inr other ↦ (let bytes = two.others j other (subst (λ n. j < n) (sym one.count) within) in record { taken = bytes.taken; held = bytes.held; garbled = bytes.garbled })
  ]);
}

-- the places behind the i-th are as open as before
pub open_further : (i k : ℕ) (old new : Board) (before after : ℕ → Link) (places : List ℕ) → k ≡ get_or places i 0 → AreApart places
    → ((j : ℕ) → j < length old.connections → (connection_at old j).number ≡ (connection_at old k).number → j ≡ k) → ProgressesWriting k old new → OthersStay before after (connection_at old k).number
    → AreOpenFrom i old before places → AreOpenFrom (i + 1) new after places
open_further i k old new before after places at apart numbers goes others was = λ j behind within.
    let place = was j (omega arith) within in
    let p = get_or places j 0 in
    let differs : p ≢ k = λ e. apart i j 0 (omega arith) within (e ∙ at) in
    let number = (goes.goes_on.each p place.within).number in
    record {
      within = subst (λ n. p < n) (sym goes.count) place.within;
      open_still = subst (λ n. (after n).closed ≡ false) (sym number)
          (ap (λ (l : Link). l.closed) (others (connection_at old p).number (λ e. differs (numbers p place.within e))) ∙ place.open_still);
    }

pub open_at_first : (board : Board) (links : ℕ → Link) (places : List ℕ) → All (IsOpenPlace board links) places → AreOpenFrom 0 board links places
open_at_first board links places is = λ j behind within. is j 0 within

none_is : (cause : Option Cause) → is_none cause ≡ true → cause ≡ None
none_is None is = refl
none_is (Some cause) is = absurd (cc is)

both_left : (a b : Bool) → (a && b) ≡ true → a ≡ true
both_left true b is = refl
both_left false b is = absurd (cc is)

both_right : (a b : Bool) → (a && b) ≡ true → b ≡ true
both_right true b is = is
both_right false b is = absurd (cc is)

both : (a b : Bool) → a ≡ true → b ≡ true → (a && b) ≡ true
both a b one two = ap (λ x. x && b) one ∙ two

kept_before : (b : Bool) (y : ℕ) (xs : List ℕ) (x : ℕ) → Contains xs x → Contains (cond b (y ∷ xs) xs) x
kept_before true y xs x is = Contains-append_right (y ∷ []) xs x is
kept_before false y xs x is = is

-- what passes the test is kept
kept : (p : ℕ → Bool) (xs : List ℕ) (x : ℕ) → p x ≡ true → Contains xs x → Contains (filter p xs) x
kept p [] x is (k, within, at) = absurd (omega arith)
kept p (y ∷ xs) x is (zero, within, at) = subst (λ b. Contains (cond b (y ∷ filter p xs) (filter p xs)) x) (sym (ap p at ∙ is)) (0, omega arith, at)
kept p (y ∷ xs) x is (suc k, within, at) = kept_before (p y) y (filter p xs) x (kept p xs x is (k, omega arith, at))

pub wired_behind : (old new : Board) (places : List ℕ) (door after_door : Door) (before after : ℕ → Link) → ProgressesUnread old new → AreOnWire new after_door after → IsWired old places door before → IsWired new (standing new places) after_door after
wired_behind old new places door after_door before after goes on was = record {
  each = on;
  listed = All-weaker (λ k. stands_at new k ≡ true) (IsOpenPlace new after) (λ k is.
      let within : k < length new.connections = ltb-true k (length new.connections) (both_left (nat_lt k (length new.connections)) (is_none (connection_at new k).cause) is) in
      let none = none_is (connection_at new k).cause (both_right (nat_lt k (length new.connections)) (is_none (connection_at new k).cause) is) in
      record { within = within; open_still = (on k within).stands none }) (standing new places) (filter_passes (stands_at new) places);
  all = λ k within none.
      let small : k < length old.connections = subst (λ n. k < n) goes.count within in
      let stood = stands_since (connection_at old k).cause (connection_at new k).cause (goes.goes_on.each k small).ended none in
      kept (stands_at new) places k (both (nat_lt k (length new.connections)) (is_none (connection_at new k).cause) (lt-ltb k (length new.connections) within) (ap is_none none)) (was.all k small stood);
}

pub apart_behind : (board : Board) (places : List ℕ) → AreApart places → AreApart (standing board places)
apart_behind board places apart = AllPairs-filter (λ j k. k ≢ j) (stands_at board) places apart

-- the places are below the next one
pub within_places : (board : Board) (places : List ℕ) (links : ℕ → Link) → All (IsOpenPlace board links) places → All (λ k. k < length board.connections) places
within_places board places links is = All-weaker (IsOpenPlace board links) (λ k. k < length board.connections) (λ k place. place.within) places is

first_apart : (x : ℕ) (xs : List ℕ) → AreApart (x ∷ xs) → All (λ k. k ≢ x) xs
first_apart x xs apart = λ k d within. apart 0 (suc k) d (omega arith) (omega arith)

rest_apart : (x : ℕ) (xs : List ℕ) → AreApart (x ∷ xs) → AreApart xs
rest_apart x xs apart = λ i j d order within. apart (suc i) (suc j) d (omega arith) (omega arith)

-- all in two lists, with one more between them
all_more : (P : ℕ → Type 0) (first last : List ℕ) (n : ℕ) → P n → All P (first ++ last) → All P ((first ++ n ∷ []) ++ last)
all_more P [] last n is all = All-cons P n last is all
all_more P (x ∷ first) last n is all = All-cons P x ((first ++ n ∷ []) ++ last) (All-head P x (first ++ last) all) (all_more P first last n is (All-tail P x (first ++ last) all))

pub apart_more : (first last : List ℕ) (n : ℕ) → All (λ k. k < n) (first ++ last) → AreApart (first ++ last) → AreApart ((first ++ n ∷ []) ++ last)
apart_more [] last n below apart = AllPairs-cons (λ j k. k ≢ j) n last (All-weaker (λ k. k < n) (λ k. k ≢ n) (λ k small e. absurd (omega arith)) last below) apart
apart_more (x ∷ first) last n below apart =
    let small : x < n = All-head (λ k. k < n) x (first ++ last) below in
    AllPairs-cons (λ j k. k ≢ j) x ((first ++ n ∷ []) ++ last) (all_more (λ k. k ≢ x) first last n (λ e. absurd (omega arith)) (first_apart x (first ++ last) apart))
    (apart_more first last n (All-tail (λ k. k < n) x (first ++ last) below) (rest_apart x (first ++ last) apart))

pub apart_dialled : (first last : List ℕ) (n : ℕ) → All (λ k. k < n) (first ++ last) → AreApart (first ++ last) → AreApart (first ++ (last ++ n ∷ []))
apart_dialled first last n below apart =
    let more = apart_more (first ++ last) [] n (subst (All (λ k. k < n)) (sym (append-nil (first ++ last))) below) (subst AreApart (sym (append-nil (first ++ last))) apart) in
    subst AreApart (append-nil ((first ++ last) ++ n ∷ []) ∙ append_assoc first last (n ∷ [])) more

-- the place of a connection that came is listed behind those of its kind
pub apart_accepted : (answer : Accepted) (board : Board) (first last : List ℕ) (door : Door) (links : ℕ → Link) → IsWired board (first ++ last) door links → AreApart (first ++ last)
    → AreApart (listed_behind answer (length board.connections) first ++ last)
apart_accepted (accept.New number) board first last door links was apart = apart_more first last (length board.connections) (within_places board (first ++ last) links was.listed) apart
apart_accepted accept.Nothing board first last door links was apart = apart
apart_accepted accept.Failed board first last door links was apart = apart

pub apart_answered : (answer : Option Dialled) (board : Board) (first last : List ℕ) (door : Door) (links : ℕ → Link) → IsWired board (first ++ last) door links → AreApart (first ++ last)
    → AreApart (first ++ dialled_behind answer (length board.connections) last)
apart_answered None board first last door links was apart = apart
apart_answered (Some dial.Failed) board first last door links was apart = apart
apart_answered (Some (dial.New number)) board first last door links was apart = apart_dialled first last (length board.connections) (within_places board (first ++ last) links was.listed) apart

one_more : (b : Bool) (x : ℕ) (first last all : List ℕ) → first ++ last ≡ all → cond b (x ∷ first) first ++ last ≡ cond b (x ∷ all) all
one_more true x first last all same = ap (λ (xs : List ℕ). x ∷ xs) same
one_more false x first last all same = same

-- not more are kept than there are
kept_or_not : (b : Bool) (x : ℕ) (rest all : List ℕ) → length rest ≤ length all → length (cond b (x ∷ rest) rest) ≤ length all + 1
kept_or_not true x rest all few = omega arith
kept_or_not false x rest all few = omega arith

fewer_kept : (p : ℕ → Bool) (xs : List ℕ) → length (filter p xs) ≤ length xs
fewer_kept p [] = omega arith
fewer_kept p (x ∷ xs) = (let more = kept_or_not (p x) x (filter p xs) xs (fewer_kept p xs) in omega arith)

pub fewer_standing : (board : Board) (places : List ℕ) → length (standing board places) ≤ length places
fewer_standing board places = fewer_kept (stands_at board) places

-- Connections are listed in the order in which they came.

pub rising_first : AreRising []
rising_first = λ i j d order within. absurd (omega arith)

-- the next place is above all before it
rising_more : (places : List ℕ) (n : ℕ) → All (λ k. k < n) places → AreRising places → AreRising (places ++ n ∷ [])
rising_more places n below rising = all_pairs_push (λ j k. j < k) places n rising below

-- of two lists, those of the one and those of the other
all_last : (P : ℕ → Type 0) (first last : List ℕ) → All P (first ++ last) → All P last
all_last P [] last all = all
all_last P (x ∷ first) last all = all_last P first last (All-tail P x (first ++ last) all)

all_first : (P : ℕ → Type 0) (first last : List ℕ) → All P (first ++ last) → All P first
all_first P first last all = λ k d within. subst P (get_or_append_left first last d k within) (all k d (omega (arith, length-append first last)))

pub rising_accepted : (answer : Accepted) (board : Board) (first last : List ℕ) (door : Door) (links : ℕ → Link) → IsWired board (first ++ last) door links → AreRising first
    → AreRising (listed_behind answer (length board.connections) first)
rising_accepted (accept.New number) board first last door links was rising =
    rising_more first (length board.connections) (all_first (λ k. k < length board.connections) first last (within_places board (first ++ last) links was.listed)) rising
rising_accepted accept.Nothing board first last door links was rising = rising
rising_accepted accept.Failed board first last door links was rising = rising

pub rising_dialled : (answer : Option Dialled) (board : Board) (first last : List ℕ) (door : Door) (links : ℕ → Link) → IsWired board (first ++ last) door links → AreRising last
    → AreRising (dialled_behind answer (length board.connections) last)
rising_dialled None board first last door links was rising = rising
rising_dialled (Some dial.Failed) board first last door links was rising = rising
rising_dialled (Some (dial.New number)) board first last door links was rising =
    rising_more last (length board.connections) (all_last (λ k. k < length board.connections) first last (within_places board (first ++ last) links was.listed)) rising

pub rising_standing : (board : Board) (places : List ℕ) → AreRising places → AreRising (standing board places)
rising_standing board places rising = AllPairs-filter (λ j k. j < k) (stands_at board) places rising

-- those of two lists are those of the one, and behind them those of the other
pub standing_both : (board : Board) (first last : List ℕ) → standing board first ++ standing board last ≡ standing board (first ++ last)
standing_both board [] last = refl
standing_both board (x ∷ first) last = one_more (stands_at board x) x (standing board first) (standing board last) (standing board (first ++ last)) (standing_both board first last)

-- the places of the one list are below the next one
pub last_within : (old new : Board) (links : ℕ → Link) (first last : List ℕ) → length new.connections ≡ length old.connections → All (IsOpenPlace old links) (first ++ last) → All (λ k. k < length new.connections) last
last_within old new links first last count is =
    All-weaker (IsOpenPlace old links) (λ k. k < length new.connections) (λ k place. subst (λ n. k < n) (sym count) place.within) last (all_last (IsOpenPlace old links) first last is)
