-- The first half of a turn: of connections that have ended nothing changes, neither in the engine nor at the wire, and each one is listed that came or was.
use Rattle.std.proofs.Common.{◌≡◌, ◌≢◌, inl, inr, ℕ, zero, suc, ◌+◌, ◌<◌, ◌≤◌, List, [], ◌∷◌, ◌++◌, length, Option, None, Some, refl, sym, ap, subst, ◌∙◌, arith}
use Rattle.std.proofs.lemmas.Bool.{cases_eq as same_or_other}
use Rattle.std.proofs.lemmas.List.{length_push}
use Rattle.std.proofs.lemmas.List.Elements.{All-contains, Contains-append_cases, Contains-append_left, Contains-append_right, Contains-get_or, Contains-push, Contains-push_cases}
use Rattle.std.specs.List.{Contains}
use Rattle.std.specs.Prelude.{◌⊎◌, IfNone, IfSome, slice_index_or}
use Rattle.connection_core.specs.Connection.{ConnectionState}
use Rattle.engine_loop.specs.Engines.{IsAtWork, IsOnline, until_of}
use Rattle.engine_loop.specs.Turns.{AcceptsNext, AsksForConnection, AtWire, DialsSession, NotesSession, Reading, ReadsIfStands, ServesOne, Serving, TakesTurn, TicksSession, at_wire, reading_of, serving_of, with_moment}
use Rattle.engine_loop.specs.declared.engine.Engine.{Engine}
use Rattle.engine_loop.specs.declared.records.Taken.{Taken}
use Rattle.gate_io.specs.Wire.{Dials as TheWireDials, Door, Link, OthersStay}
use Rattle.gate_io.specs.declared.dials.Dialled.{Dialled}
use Rattle.gate_io.specs.declared.dials.Dialled.TheVariants as dial
use Rattle.gate_io.specs.declared.wires.Accepted.{Accepted}
use Rattle.gate_io.specs.declared.wires.Accepted.TheVariants as accept
use Rattle.gate_io.specs.declared.wires.TheConstants.{FIRST_DIALLED, MOST_CONNECTIONS}
use Rattle.lease_core.specs.declared.entry.Entry.{Entry}
use Rattle.lease_desk.specs.Desk.{InTurn}
use Rattle.lease_desk.specs.declared.desk.LeaseDesk.{LeaseDesk}
use Rattle.library_desk.specs.Happening.{RunsFor}
use Rattle.library_desk.specs.Serving.{Serves}
use Rattle.library_desk.specs.declared.desk.LibraryDesk.{LibraryDesk}
use Rattle.library_desk.specs.declared.serving.LibTurn.{LibTurn}
use Rattle.library_desk.specs.declared.shared.Shared.{Shared}
use Rattle.switchboard.specs.Board.{Board, connection_at}
use Rattle.switchboard.specs.Happenings.{Happens, accepts, dials}
use Rattle.switchboard.specs.Ready.{IsReady}
use Rattle.engine_laws.proofs.text_lemmas.Standing.{HasEnded, Laws, Rests, Stays, below_or_not, happened, last_at, stays_further, stays_itself}
use Rattle.engine_laws.proofs.Walking.{each_in_turn}
use Rattle.engine_laws.proofs.text_lemmas.Steps.{Kept, gathered, ran_for, read, ticked, unchanged}
use Rattle.wire_desk.specs.Dials.{DialsAs}
use Rattle.wire_desk.specs.Lines.{IsNumbered, IsOpenPlace}
use Rattle.wire_desk.specs.Places.{dialled_behind, open_places}
use Rattle.wire_desk.specs.declared.desk.WireDesk.{WireDesk}

-- a number is in a list, or it isn't
not_later : (y : ℕ) (xs : List ℕ) (x : ℕ) → y ≢ x → (Contains xs x → ⊥) → Contains (y ∷ xs) x → ⊥
not_later y xs x other none (zero, within, at) = other at
not_later y xs x other none (suc k, within, at) = none (k, omega arith, at)

pub contains_or_not : (xs : List ℕ) (x : ℕ) → Contains xs x ⊎ (Contains xs x → ⊥)
contains_or_not [] x = inr (λ is. let within = is.1 in absurd (omega arith))
contains_or_not (y ∷ xs) x = elim (same_or_other y x) [
  | inl here ↦ inl (0, omega arith, here)
  | inr other ↦ (elim (contains_or_not xs x) [
    | inl is ↦ inl (Contains-append_right (y ∷ []) xs x is)
    | inr none ↦ inr (not_later y xs x other none)
  ])
]

abbrev pub board_of : Engine → Board
board_of e = e.sessions.desk.board

abbrev pub places_of : Engine → List ℕ
places_of e = open_places e.lines

-- The numbers of an engine's connections are those that the wire gave, and each that is listed is there.
pub record IsCounted (e : Engine) (door : Door) : Type 0 where
  pub most : e.connections ≤ MOST_CONNECTIONS
  pub counted : e.accepted ≡ door.accepted
  pub each : (k : ℕ) → k < length (board_of e).connections → IsNumbered door (connection_at (board_of e) k).number
  pub within : (k : ℕ) → Contains (places_of e) k → k < length (board_of e).connections

pub counted_online : (shared : Shared) (e : Engine) (door : Door) (links : ℕ → Link) → IsAtWork shared e → IsOnline e door links → IsCounted e door
counted_online shared e door links work online = record {
  most = work.most;
  counted = online.accepted;
  each = λ k within. (online.wired.each k within).numbered;
  within = λ k has. (All-contains (IsOpenPlace (board_of e) links) (places_of e) k online.wired.listed has).within;
}

-- none has the number that is next to be accepted, or dialled
not_accepted : (door : Door) (number : ℕ) → door.accepted < FIRST_DIALLED → IsNumbered door number → number ≢ door.accepted
not_accepted door number few is = λ same. absurd (let small = is.accepted (omega arith) in omega arith)

not_dialled : (door : Door) (number : ℕ) → IsNumbered door number → number ≢ FIRST_DIALLED + door.dialled
not_dialled door number is = λ same. absurd (let small = is.dialled (omega arith) in omega arith)

numbered_on : (old new : Door) (number : ℕ) → old.accepted ≤ new.accepted → old.dialled ≤ new.dialled → IsNumbered old number → IsNumbered new number
numbered_on old new number accepted dialled was = record {
  accepted = λ less. (let small = was.accepted less in omega arith);
  dialled = λ least. (let small = was.dialled least in omega arith);
}

module _ (before : ℕ → List Entry) (g : Laws before) where
  -- Of connections that have ended nothing changes, and each one is listed that came or was.
  pub record Goes (old new : AtWire) : Type 0 where
    pub board : Stays before (board_of old.engine) (board_of new.engine)
    pub counted : IsCounted new.engine new.door
    pub links : (k : ℕ) → k < length (board_of old.engine).connections → HasEnded (connection_at (board_of old.engine) k)
        → new.links (connection_at (board_of old.engine) k).number ≡ old.links (connection_at (board_of old.engine) k).number
    pub listed : (k : ℕ) → k < length (board_of new.engine).connections
        → Contains (places_of new.engine) k ⊎ ((k < length (board_of old.engine).connections) × (Contains (places_of old.engine) k → ⊥))

  abbrev pub Follows : AtWire → AtWire → Type 0
  Follows old new = IsReady before (board_of old.engine) → IsCounted old.engine old.door → Goes old new

  -- one that was there before is listed, or wasn't
  listed_or_not : (e : Engine) (k : ℕ) (places : List ℕ) → (Contains (places_of e) k → Contains places k) → k < length (board_of e).connections
      → Contains places k ⊎ ((k < length (board_of e).connections) × (Contains (places_of e) k → ⊥))
  listed_or_not e k places stays within = elim (contains_or_not (places_of e) k) [
    | inl has ↦ inl (stays has)
    | inr none ↦ inr (within, none)
  ]

  itself_follows : (a : AtWire) → Follows a a
  itself_follows a ready counted = record {
    board = stays_itself before (board_of a.engine) ready;
    counted = counted;
    links = λ k within ended. refl;
    listed = λ k within. listed_or_not a.engine k (places_of a.engine) (λ has. has) within;
  }

  follows_further : (first second third : AtWire) → Follows first second → Follows second third → Follows first third
  follows_further first second third one two ready counted =
      let a = one ready counted in
      let b = two a.board.ready a.counted in
      record {
        board = stays_further before (board_of first.engine) (board_of second.engine) (board_of third.engine) a.board b.board;
        counted = b.counted;
        links = λ k within ended.
            let same = a.board.ended k within ended in
            let more = a.board.more in
            let then_links = b.links k (omega arith) (subst HasEnded (sym same) ended) in
            subst (λ n. third.links n ≡ second.links n) (ap (λ (c : ConnectionState). c.number) same) then_links ∙ a.links k within ended;
        listed = λ k within. elim (b.listed k within) [
          | inl has ↦ inl has
          | inr none ↦ (elim (a.listed k none.0) [
            | inl had ↦ absurd (none.1 had)
            | inr never ↦ inr never
          ])
        ];
      }

  -- No connection comes, and the same are listed.
  quiet : (old new : AtWire) → Kept before g (board_of old.engine) (board_of new.engine) → places_of new.engine ≡ places_of old.engine → new.engine.accepted ≡ old.engine.accepted → new.engine.connections ≡ old.engine.connections
      → new.door.accepted ≡ old.door.accepted → new.door.dialled ≡ old.door.dialled
      → (IsReady before (board_of old.engine) → IsCounted old.engine old.door → (k : ℕ) → k < length (board_of old.engine).connections → HasEnded (connection_at (board_of old.engine) k)
      → new.links (connection_at (board_of old.engine) k).number ≡ old.links (connection_at (board_of old.engine) k).number)
      → Follows old new
  quiet old new kept places accepted connections door_accepted door_dialled links ready counted =
      let rests = kept ready in
      let count = rests.count in
      record {
        board = rests.stays;
        counted = record {
          most = (let most = counted.most in omega arith);
          counted = accepted ∙ counted.counted ∙ sym door_accepted;
          each = λ k within.
              let small : k < length (board_of old.engine).connections = subst (λ n. k < n) count within in
              subst (IsNumbered new.door) (sym (rests.stays.numbers k small)) (numbered_on old.door new.door _ (omega arith) (omega arith) (counted.each k small));
          within = λ k has. subst (λ n. k < n) (sym count) (counted.within k (subst (λ ps. Contains ps k) places has));
        };
        links = links ready counted;
        listed = λ k within. listed_or_not old.engine k (places_of new.engine) (λ has. subst (λ ps. Contains ps k) (sym places) has) (subst (λ n. k < n) count within);
      }

  -- One connection comes, and is listed.
  record Comes (number : ℕ) (old new : AtWire) : Type 0 where
    board : Stays before (board_of old.engine) (board_of new.engine)
    count : length (board_of new.engine).connections ≡ length (board_of old.engine).connections + 1
    number_is : (connection_at (board_of new.engine) (length (board_of old.engine).connections)).number ≡ number
    numbered : IsNumbered new.door number
    apart : (k : ℕ) → k < length (board_of old.engine).connections → (connection_at (board_of old.engine) k).number ≢ number
    links : OthersStay old.links new.links number
    more_accepted : old.door.accepted ≤ new.door.accepted
    more_dialled : old.door.dialled ≤ new.door.dialled
    most : new.engine.connections ≡ old.engine.connections
    counted : new.engine.accepted ≡ new.door.accepted
    listed : (k : ℕ) → Contains (places_of old.engine) k → Contains (places_of new.engine) k
    last : Contains (places_of new.engine) (length (board_of old.engine).connections)
    no_others : (k : ℕ) → Contains (places_of new.engine) k → Contains (places_of old.engine) k ⊎ (k ≡ length (board_of old.engine).connections)

  last_or_before : (k n m : ℕ) → m ≡ n + 1 → k < m → (k < n) ⊎ (k ≡ n)
  last_or_before k n m count within = elim (below_or_not k n) [ inl small ↦ inl small | inr least ↦ inr (omega arith) ]

  one_came : (number : ℕ) (old new : AtWire) → IsCounted old.engine old.door → Comes number old new → Goes old new
  one_came number old new was is = record {
    board = is.board;
    counted = record {
      most = (let most = was.most in let same = is.most in omega arith);
      counted = is.counted;
      each = λ k within. elim (last_or_before k (length (board_of old.engine).connections) (length (board_of new.engine).connections) is.count within) [
        | inl small ↦ subst (IsNumbered new.door) (sym (is.board.numbers k small)) (numbered_on old.door new.door _ is.more_accepted is.more_dialled (was.each k small))
        | inr last ↦ subst (λ n. IsNumbered new.door (connection_at (board_of new.engine) n).number) (sym last) (subst (IsNumbered new.door) (sym is.number_is) is.numbered)
      ];
      within = λ k has. elim (is.no_others k has) [
        | inl had ↦ (let small = was.within k had in let count = is.count in omega arith)
        | inr last ↦ (let count = is.count in omega arith)
      ];
    };
    links = λ k within ended. is.links (connection_at (board_of old.engine) k).number (is.apart k within);
    listed = λ k within. elim (last_or_before k (length (board_of old.engine).connections) (length (board_of new.engine).connections) is.count within) [
      | inl small ↦ listed_or_not old.engine k (places_of new.engine) (is.listed k) small
      | inr last ↦ inl (subst (Contains (places_of new.engine)) (sym last) is.last)
    ];
  }

  -- the desk is as it was
  same_board : (old new : LeaseDesk) → new ≡ old → Kept before g old.board new.board
  same_board old new same = unchanged before g old.board new.board (ap (λ (d : LeaseDesk). d.board) same)

  -- none was accepted
  not_asked : (old new : AtWire) → new.engine.sessions.desk ≡ old.engine.sessions.desk → new.engine.lines.accepted.items ≡ old.engine.lines.accepted.items → new.engine.lines ≡ record (old.engine.lines) { accepted = new.engine.lines.accepted }
      → new.engine.accepted ≡ old.engine.accepted → new.engine.connections ≡ old.engine.connections → old.engine.accepted < old.engine.connections → new.door.accepted ≡ old.door.accepted → new.door.dialled ≡ old.door.dialled
      → OthersStay old.links new.links old.door.accepted → Follows old new
  not_asked old new desk listed lines accepted connections due door_accepted door_dialled others =
      let dialled : new.engine.lines.dialled.items ≡ old.engine.lines.dialled.items = ap (λ (w : WireDesk). w.dialled.items) lines in
      quiet old new (same_board old.engine.sessions.desk new.engine.sessions.desk desk) (ap (λ xs. xs ++ new.engine.lines.dialled.items) listed ∙ ap (λ ys. old.engine.lines.accepted.items ++ ys) dialled) accepted connections door_accepted door_dialled
      (λ ready counted k within ended. others (connection_at (board_of old.engine) k).number
      (not_accepted old.door _ (let most = counted.most in let same = counted.counted in omega arith) (counted.each k within)))

  accepts_one : (number : ℕ) (old new : AtWire) → AsksForConnection (accept.New number) old new → Follows old new
  accepts_one number old new is ready counted =
      let first = board_of old.engine in
      let k = length first.connections in
      let happens : Happens (accepts number old.engine.moment) first (board_of new.engine) = is.accepts.0 in
      let more = ap (λ (b : Board). b.connections) happens.connection in
      let few : old.door.accepted < FIRST_DIALLED = (let most = counted.most in let same = counted.counted in let due = is.due in omega arith) in
      let at : number ≡ old.door.accepted = is.answers.0 in
      let door_accepted : new.door.accepted ≡ old.door.accepted + 1 = ap (λ (d : Door). d.accepted) is.answers.1 in
      let door_dialled : new.door.dialled ≡ old.door.dialled = ap (λ (d : Door). d.dialled) is.answers.1 in
      let dialled : new.engine.lines.dialled.items ≡ old.engine.lines.dialled.items = ap (λ (w : WireDesk). w.dialled.items) is.lines in
      let listed : new.engine.lines.accepted.items ≡ old.engine.lines.accepted.items ++ k ∷ [] = is.listed in
      let places : places_of new.engine ≡ (old.engine.lines.accepted.items ++ k ∷ []) ++ old.engine.lines.dialled.items =
      ap (λ xs. xs ++ new.engine.lines.dialled.items) listed ∙ ap (λ ys. (old.engine.lines.accepted.items ++ k ∷ []) ++ ys) dialled in
      one_came number old new counted (record {
        board = happened before g (accepts number old.engine.moment) first (board_of new.engine) tt happens ready;
        count = ap length more ∙ length_push first.connections _;
        number_is = ap (λ (c : ConnectionState). c.number) (last_at before _ first (board_of new.engine) more);
        numbered = record { accepted = λ small. (omega arith); dialled = λ least. absurd (omega arith) };
        apart = λ j within. λ same. not_accepted old.door _ few (counted.each j within) (same ∙ at);
        links = subst (OthersStay old.links new.links) (sym at) is.others;
        more_accepted = omega arith;
        more_dialled = omega arith;
        most = ap (λ (e : Engine). e.connections) is.rest;
        counted = (let same = counted.counted in let count = is.counted in omega arith);
        listed = λ j has. subst (λ ps. Contains ps j) (sym places) (elim (Contains-append_cases old.engine.lines.accepted.items old.engine.lines.dialled.items j has) [
          | inl one ↦ Contains-append_left (old.engine.lines.accepted.items ++ k ∷ []) old.engine.lines.dialled.items j (Contains-append_left old.engine.lines.accepted.items (k ∷ []) j one)
          | inr two ↦ Contains-append_right (old.engine.lines.accepted.items ++ k ∷ []) old.engine.lines.dialled.items j two
        ]);
        last = subst (λ ps. Contains ps k) (sym places) (Contains-append_left (old.engine.lines.accepted.items ++ k ∷ []) old.engine.lines.dialled.items k (Contains-push old.engine.lines.accepted.items k));
        no_others = λ j has. elim (Contains-append_cases (old.engine.lines.accepted.items ++ k ∷ []) old.engine.lines.dialled.items j (subst (λ ps. Contains ps j) places has)) [
          | inl one ↦ (elim (Contains-push_cases old.engine.lines.accepted.items k j one) [
            | inl had ↦ inl (Contains-append_left old.engine.lines.accepted.items old.engine.lines.dialled.items j had)
            | inr last ↦ inr (sym last)
          ])
          | inr two ↦ inl (Contains-append_right old.engine.lines.accepted.items old.engine.lines.dialled.items j two)
        ];
      })

  asked : (answer : Accepted) (old new : AtWire) → AsksForConnection answer old new → Follows old new
  asked (accept.New number) old new is = accepts_one number old new is
  asked accept.Nothing old new is =
      not_asked old new is.accepts is.listed is.lines is.counted (ap (λ (e : Engine). e.connections) is.rest) is.due (ap (λ (d : Door). d.accepted) is.answers.0) (ap (λ (d : Door). d.dialled) is.answers.0) is.others
  asked accept.Failed old new is =
      not_asked old new is.accepts is.listed is.lines is.counted (ap (λ (e : Engine). e.connections) is.rest) is.due (ap (λ (d : Door). d.accepted) is.answers.0) (ap (λ (d : Door). d.dialled) is.answers.0) is.others

  next_accepted : (answer : Accepted) (old new : AtWire) → AcceptsNext answer old new → Follows old new
  next_accepted answer old new is = elim is [
    | inl asks ↦ asked answer old new asks
    | inr none ↦ subst (λ a. Follows old a) (sym none.1.1) (itself_follows old)
  ]

  -- no dial was made
  not_dialled_now : (old new : AtWire) → new.engine.sessions.desk ≡ old.engine.sessions.desk → new.engine.lines.dialled.items ≡ old.engine.lines.dialled.items → new.engine.lines ≡ record (old.engine.lines) { dialled = new.engine.lines.dialled }
      → new.engine.accepted ≡ old.engine.accepted → new.engine.connections ≡ old.engine.connections → new.door.accepted ≡ old.door.accepted → new.door.dialled ≡ old.door.dialled
      → OthersStay old.links new.links (FIRST_DIALLED + old.door.dialled) → Follows old new
  not_dialled_now old new desk listed lines accepted connections door_accepted door_dialled others =
      let same : new.engine.lines.accepted.items ≡ old.engine.lines.accepted.items = ap (λ (w : WireDesk). w.accepted.items) lines in
      quiet old new (same_board old.engine.sessions.desk new.engine.sessions.desk desk) (ap (λ xs. xs ++ new.engine.lines.dialled.items) same ∙ ap (λ ys. old.engine.lines.accepted.items ++ ys) listed) accepted connections door_accepted door_dialled
      (λ ready counted k within ended. others (connection_at (board_of old.engine) k).number (not_dialled old.door _ (counted.each k within)))

  dials_one : (number s : ℕ) (old new : AtWire) → TheWireDials old.door new.door new.links (dial.New number) → OthersStay old.links new.links (FIRST_DIALLED + old.door.dialled)
      → DialsAs (Some (dial.New number)) s old.engine.moment (until_of old.engine) old.engine.sessions.desk new.engine.sessions.desk old.engine.dialler new.engine.dialler
      → new.engine.lines ≡ record (old.engine.lines) { dialled = new.engine.lines.dialled } → new.engine.lines.dialled.items ≡ old.engine.lines.dialled.items ++ length (board_of old.engine).connections ∷ []
      → new.engine.accepted ≡ old.engine.accepted → new.engine.connections ≡ old.engine.connections → Follows old new
  dials_one number s old new answers others dials_as lines listed accepted connections ready counted =
      let first = board_of old.engine in
      let k = length first.connections in
      let dials_to = dials_as.1.0 in
      let middle = dials_to.gathered.board in
      let happens : Happens (dials s number old.engine.moment) middle (board_of new.engine) = dials_to.dials in
      let rests : Rests before g first middle = gathered before g s old.engine.moment (until_of old.engine) old.engine.sessions.desk dials_to.gathered dials_to.gathers ready in
      let more = happens.connection in
      let count = rests.count in
      let at : number ≡ FIRST_DIALLED + old.door.dialled = answers.0 in
      let door_accepted : new.door.accepted ≡ old.door.accepted = ap (λ (d : Door). d.accepted) answers.1 in
      let door_dialled : new.door.dialled ≡ old.door.dialled + 1 = ap (λ (d : Door). d.dialled) answers.1 in
      let same : new.engine.lines.accepted.items ≡ old.engine.lines.accepted.items = ap (λ (w : WireDesk). w.accepted.items) lines in
      let xs = old.engine.lines.accepted.items in
      let ys = old.engine.lines.dialled.items in
      let places : places_of new.engine ≡ xs ++ (ys ++ k ∷ []) = ap (λ zs. zs ++ new.engine.lines.dialled.items) same ∙ ap (λ zs. xs ++ zs) listed in
      one_came number old new counted (record {
        board = stays_further before first middle (board_of new.engine) rests.stays (happened before g (dials s number old.engine.moment) middle (board_of new.engine) tt happens rests.stays.ready);
        count = ap length more ∙ length_push middle.connections _ ∙ ap (λ n. n + 1) count;
        number_is = subst (λ n. (connection_at (board_of new.engine) n).number ≡ number) count (ap (λ (c : ConnectionState). c.number) (last_at before _ middle (board_of new.engine) more));
        numbered = record { accepted = λ small. absurd (omega arith); dialled = λ least. (omega arith) };
        apart = λ j within. λ is. not_dialled old.door _ (counted.each j within) (is ∙ at);
        links = subst (OthersStay old.links new.links) (sym at) others;
        more_accepted = omega arith;
        more_dialled = omega arith;
        most = connections;
        counted = (let was = counted.counted in omega arith);
        listed = λ j has. subst (λ ps. Contains ps j) (sym places) (elim (Contains-append_cases xs ys j has) [
          | inl one ↦ Contains-append_left xs (ys ++ k ∷ []) j one
          | inr two ↦ Contains-append_right xs (ys ++ k ∷ []) j (Contains-append_left ys (k ∷ []) j two)
        ]);
        last = subst (λ ps. Contains ps k) (sym places) (Contains-append_right xs (ys ++ k ∷ []) k (Contains-push ys k));
        no_others = λ j has. elim (Contains-append_cases xs (ys ++ k ∷ []) j (subst (λ ps. Contains ps j) places has)) [
          | inl one ↦ inl (Contains-append_left xs ys j one)
          | inr two ↦ (elim (Contains-push_cases ys k j two) [
            | inl had ↦ inl (Contains-append_right xs ys j had)
            | inr last ↦ inr (sym last)
          ])
        ];
      })

  dialled : (answer : Option Dialled) (s : ℕ) (old new : AtWire) → IfSome answer (λ d. TheWireDials old.door new.door new.links d) → IfNone answer ((new.door ≡ old.door) × (new.links ≡ old.links))
      → OthersStay old.links new.links (FIRST_DIALLED + old.door.dialled) → DialsAs answer s old.engine.moment (until_of old.engine) old.engine.sessions.desk new.engine.sessions.desk old.engine.dialler new.engine.dialler
      → new.engine.lines ≡ record (old.engine.lines) { dialled = new.engine.lines.dialled } → new.engine.lines.dialled.items ≡ dialled_behind answer (length (board_of old.engine).connections) old.engine.lines.dialled.items
      → new.engine.accepted ≡ old.engine.accepted → new.engine.connections ≡ old.engine.connections → Follows old new
  dialled None s old new answers unasked others dials_as lines listed accepted connections =
      not_dialled_now old new dials_as.1.0 listed lines accepted connections (ap (λ (d : Door). d.accepted) unasked.0) (ap (λ (d : Door). d.dialled) unasked.0) others
  dialled (Some dial.Failed) s old new answers unasked others dials_as lines listed accepted connections =
      not_dialled_now old new dials_as.1.0 listed lines accepted connections (ap (λ (d : Door). d.accepted) answers.0) (ap (λ (d : Door). d.dialled) answers.0) others
  dialled (Some (dial.New number)) s old new answers unasked others dials_as lines listed accepted connections =
      dials_one number s old new answers others dials_as lines listed accepted connections

  session_dialled : (s : ℕ) (old new : AtWire) → DialsSession s old new → Follows old new
  session_dialled s old new is =
      dialled is.answer s old new is.answers is.unasked is.others is.dials is.lines is.listed (ap (λ (e : Engine). e.accepted) is.rest) (ap (λ (e : Engine). e.connections) is.rest)

  -- the engine alone goes on
  abbrev EngineFollows : Door → (ℕ → Link) → Engine → Engine → Type 0
  EngineFollows door links old new = Follows (at_wire old door links) (at_wire new door links)

  engine_itself : (door : Door) (links : ℕ → Link) (e : Engine) → EngineFollows door links e e
  engine_itself door links e = itself_follows (at_wire e door links)

  engine_further : (door : Door) (links : ℕ → Link) (first second third : Engine) → EngineFollows door links first second → EngineFollows door links second third → EngineFollows door links first third
  engine_further door links first second third = follows_further (at_wire first door links) (at_wire second door links) (at_wire third door links)

  engine_quiet : (door : Door) (links : ℕ → Link) (old new : Engine) → Kept before g (board_of old) (board_of new) → places_of new ≡ places_of old → new.accepted ≡ old.accepted → new.connections ≡ old.connections → EngineFollows door links old new
  engine_quiet door links old new kept places accepted connections =
      quiet (at_wire old door links) (at_wire new door links) kept places accepted connections refl refl (λ ready counted k within ended. refl)

  session_ticked : (door : Door) (links : ℕ → Link) (s : ℕ) (old new : Engine) → TicksSession s old new → EngineFollows door links old new
  session_ticked door links s old new is =
      engine_quiet door links old new (ticked before g s old.moment (until_of old) old.sessions.desk new.sessions.desk is.end is.ticks) (ap places_of is.rest) (ap (λ (e : Engine). e.accepted) is.rest) (ap (λ (e : Engine). e.connections) is.rest)

  session_noted : (door : Door) (links : ℕ → Link) (s : ℕ) (old new : Engine) → NotesSession s old new → EngineFollows door links old new
  session_noted door links s old new is =
      engine_quiet door links old new (unchanged before g (board_of old) (board_of new) (ap board_of is.1)) (ap places_of is.1) (ap (λ (e : Engine). e.accepted) is.1) (ap (λ (e : Engine). e.connections) is.1)

  -- One connection is read, and no other place is listed.
  record ReadFollows (door : Door) (old new : Reading) : Type 0 where
    places : places_of new.engine ≡ places_of old.engine
    follows : Follows (at_wire old.engine door old.links) (at_wire new.engine door new.links)

  one_read : (door : Door) (k : ℕ) (old new : Reading) → Contains (places_of old.engine) k → ReadsIfStands k old new → ReadFollows door old new
  one_read door k old new has is = elim is [
    | inl reads ↦ (
        let places : places_of new.engine ≡ places_of old.engine = ap (λ (w : WireDesk). open_places w) reads.lines in
        record {
          places = places;
          follows = quiet (at_wire old.engine door old.links) (at_wire new.engine door new.links) (read before g reads.answer _ k _ old.engine.moment (until_of old.engine) _ _ reads.reads) places
              (ap (λ (e : Engine). e.accepted) reads.rest) (ap (λ (e : Engine). e.connections) reads.rest) refl refl
              (λ ready counted j within ended. reads.answers.others (connection_at (board_of old.engine) j).number
              (λ same. ended (subst (λ n. (connection_at (board_of old.engine) n).cause ≡ None) (sym (ready.numbers j k within (counted.within k has) same)) reads.stands)));
        })
    | inr none ↦ subst (λ r. ReadFollows door old r) (sym none.1) (record { places = refl; follows = itself_follows (at_wire old.engine door old.links) })
  ]

  read_in_turn : (door : Door) (places : List ℕ) (count : ℕ) (old new : Reading) → count ≤ length places → places ≡ places_of old.engine → InTurn (λ i. ReadsIfStands (slice_index_or places i 0)) count old new → ReadFollows door old new
  read_in_turn door places zero old new within are same = subst (λ r. ReadFollows door old r) (sym same) (record { places = refl; follows = itself_follows (at_wire old.engine door old.links) })
  read_in_turn door places (suc count) old new within are steps =
      let mid = steps.0 in
      let so_far = read_in_turn door places count old mid (omega arith) are steps.1 in
      let k = slice_index_or places count 0 in
      let has : Contains (places_of mid.engine) k = subst (λ ps. Contains ps k) (are ∙ sym so_far.places) (Contains-get_or places count 0 (omega arith)) in
      let now = one_read door k mid new has steps.2 in
      record {
        places = now.places ∙ so_far.places;
        follows = follows_further (at_wire old.engine door old.links) (at_wire mid.engine door mid.links) (at_wire new.engine door new.links) so_far.follows now.follows;
      }

  module _ (serves : (library at until : ℕ) (old new : LibraryDesk) (turn : LibTurn) → Serves library at until old new turn → RunsFor at old.desk.board new.desk.board) where
    one_served : (door : Door) (links : ℕ → Link) (library : ℕ) (old new : Serving) → ServesOne library old new → EngineFollows door links old.engine new.engine
    one_served door links library old new is =
        engine_quiet door links old.engine new.engine (ran_for before g old.engine.moment (board_of old.engine) (board_of new.engine) (serves library old.engine.moment (until_of old.engine) old.engine.sessions new.engine.sessions is.turn is.serves))
        (ap places_of is.rest) (ap (λ (e : Engine). e.accepted) is.rest) (ap (λ (e : Engine). e.connections) is.rest)

    -- the first half of a turn, from its moment on
    steps_taken : (reading : ℕ) (old new : AtWire) (taken : Taken) → TakesTurn reading old new taken → Follows (at_wire (with_moment reading old.engine) old.door old.links) new
    steps_taken reading old new taken is =
        let begun = at_wire (with_moment reading old.engine) old.door old.links in
        let accepted = is.accepted in
        let dialled = is.dialled in
        let door = dialled.door in
        let places = places_of dialled.engine in
        let read_at = at_wire is.read door new.links in
        let behind : EngineFollows door new.links is.read new.engine =
        engine_further door new.links is.read is.ticked new.engine
        (each_in_turn TicksSession (EngineFollows door new.links) (engine_itself door new.links) (engine_further door new.links) (session_ticked door new.links) (length (board_of is.read).sessions) is.read is.ticked is.ticks)
        (engine_further door new.links is.ticked is.served new.engine
        (each_in_turn (λ i. ServesOne (i + 1)) (λ (a b : Serving). EngineFollows door new.links a.engine b.engine) (λ a. engine_itself door new.links a.engine) (λ a b c. engine_further door new.links a.engine b.engine c.engine)
        (λ i a b. one_served door new.links (i + 1) a b) (length is.ticked.sessions.ends.items) (serving_of is.ticked []) (serving_of is.served taken.libs) is.serves)
        (each_in_turn NotesSession (EngineFollows door new.links) (engine_itself door new.links) (engine_further door new.links) (session_noted door new.links) (length (board_of is.served).sessions) is.served new.engine is.notes)) in
        subst (λ d. Follows begun (at_wire new.engine d new.links)) (sym is.door)
        (follows_further begun accepted (at_wire new.engine door new.links) (next_accepted taken.accepted begun accepted is.accepts)
        (follows_further accepted dialled (at_wire new.engine door new.links)
        (each_in_turn DialsSession Follows itself_follows follows_further session_dialled (length (board_of accepted.engine).sessions) accepted dialled is.dials)
        (follows_further dialled read_at (at_wire new.engine door new.links)
        (read_in_turn door places (length places) (reading_of dialled.engine dialled.links []) (reading_of is.read new.links taken.reads) (omega arith) refl is.reads).follows
        behind)))

    pub turn_taken : (reading : ℕ) (old new : AtWire) (taken : Taken) → TakesTurn reading old new taken → Follows old new
    turn_taken reading old new taken is ready counted =
        let goes = steps_taken reading old new taken is ready (record { most = counted.most; counted = counted.counted; each = counted.each; within = counted.within }) in
        record { board = goes.board; counted = goes.counted; links = goes.links; listed = goes.listed }
