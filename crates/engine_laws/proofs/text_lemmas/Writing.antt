-- A connection is written to: it takes its text, or its writing is cut short. Other connections stay as they are.
use Rattle.std.proofs.Common.{◌≡◌, ◌≢◌, inl, inr, ℕ, zero, suc, ◌+◌, ◌<◌, ◌≤◌, Bool, true, false, List, [], ◌∷◌, ◌++◌, get_or, length, set, Option, None, Some, refl, sym, ap, subst, ◌∙◌, arith}
use Rattle.std.proofs.lemmas.Bool.{cases_eq as same_or_other, leb-true}
use Rattle.std.proofs.lemmas.List.{get_or-set_other, get_or-set_same, length-drop, length-set}
use Rattle.std.proofs.lemmas.List.Elements.{All-head}
use Rattle.std.specs.List.{All}
use Rattle.std.specs.Prelude.{◌⊎◌, ◌^◌, if◌then◌else◌, nat_le, slice_index_or}
use Rattle.connection_core.specs.Connection.{ConnectionState}
use Rattle.connection_core.specs.Outgoing.{Outgoing, Outlet, after_preparing, after_preparing_first, first_alone, item_text, no_outgoing, waiting_text, with_first_text, with_text, with_texts}
use Rattle.connection_core.specs.declared.limits.TheConstants.{MOST_WRITTEN}
use Rattle.gate_io.specs.Counts.{HasRisen}
use Rattle.gate_io.specs.Wire.{Link, LinkGoesOn}
use Rattle.lease_core.specs.declared.entry.Entry.{Entry}
use Rattle.message_log.specs.declared.entry.OutEntry.{OutEntry}
use Rattle.resend_plan.specs.Fit.{AreShort, HasFitBodies}
use Rattle.resend_plan.specs.Wire.{NamesEntry, body_of}
use Rattle.resend_plan.specs.declared.item.Names2.{Names2}
use Rattle.resend_plan.specs.declared.item.WireItem.{WireItem}
use Rattle.session_core.specs.declared.causes.Cause.{Cause}
use Rattle.session_desk.specs.Steps.{parting}
use Rattle.switchboard.specs.Board.{Board, book_at, connection_at, names_at, no_connection}
use Rattle.switchboard.specs.Happenings.{ConnectionChanges, Happens, ends_bound, ends_unbound, prepares, writes}
use Rattle.switchboard.specs.Ready.{IsReady}
use Rattle.engine_laws.specs.texts.Taken.{FirstsComeAlone, HasOneTextAtMost, IsCutShortIn, IsOneFrame, TookItsText}
use Rattle.engine_laws.proofs.text_lemmas.Frames.{body_short}
use Rattle.engine_laws.proofs.text_lemmas.Standing.{Laws}
use Rattle.wire_desk.specs.Steps.{HasStopped, PartsIfNeeded, PreparesTo, WritesAt, WritesInTurn, WritesSome, WrittenSoFar, cause_behind}
use Rattle.wire_desk.specs.declared.written.Stop.{Stop}
use Rattle.wire_desk.specs.declared.written.Stop.TheVariants.{AllTaken, Blocked, Failed, MostWritten}

-- what is so of both is so of what is chosen
choose : (b : Bool) (P : Outgoing → Type 0) (x y : Outgoing) → (b ≡ true → P x) → (b ≡ false → P y) → P (if b then x else y)
choose true P x y first second = first refl
choose false P x y first second = second refl

-- texts are made until enough bytes wait, or each item has one
module _ (names : Names2) (log : List (List OutEntry)) where
  abbrev IsMade : ℕ → Outgoing → Type 0
  IsMade limit out = (out.unmade ≡ []) ⊎ (limit ≤ length (waiting_text out))

  all_made : (limit : ℕ) (items : List WireItem) (out : Outgoing) → out.unmade ≡ items → IsMade limit (with_texts names log limit items out)
  all_made limit [] out are = inl are
  all_made limit (item ∷ items) out are =
      choose (nat_le limit (length (waiting_text out))) (IsMade limit) out (with_texts names log limit items (with_text (item_text names log item) items out))
      (λ is. inr (leb-true limit _ is)) (λ is. all_made limit items (with_text (item_text names log item) items out) refl)

  made_written : (limit : ℕ) (items : List WireItem) (out : Outgoing) (w : ℕ) → out.written ≡ w → (with_texts names log limit items out).written ≡ w
  made_written limit [] out w is = is
  made_written limit (item ∷ items) out w is =
      choose (nat_le limit (length (waiting_text out))) (λ o. o.written ≡ w) out (with_texts names log limit items (with_text (item_text names log item) items out))
      (λ enough. is) (λ more. made_written limit items (with_text (item_text names log item) items out) w is)

  -- the first item alone has text, or there is none
  abbrev IsFirstMade : Outgoing → Type 0
  IsFirstMade out = IsOneFrame out.text ⊎ ((out.unmade ≡ []) × (out.text ≡ []))

  -- the first of these items has a body whose bytes can be counted
  abbrev IsShortFirst : List WireItem → Type 0
  IsShortFirst [] = Unit {0}
  IsShortFirst (item ∷ items) = length (body_of names log item) < 2 ^ 64

  first_short : (items : List WireItem) → AreShort names → HasFitBodies log → All (NamesEntry log) items → IsShortFirst items
  first_short [] short fit named = tt
  first_short (item ∷ items) short fit named = body_short names log item short fit (All-head (NamesEntry log) item items named)

  first_text : (items : List WireItem) (out : Outgoing) → IsShortFirst items → out.unmade ≡ items → out.text ≡ [] → IsFirstMade (with_first_text names log items out)
  first_text [] out short are none = inr (are, none)
  first_text (item ∷ items) out short are none = inl (record { body = body_of names log item; short = short; are = ap (λ t. t ++ item_text names log item) none })

  first_made : (text : List ℕ) (out : Outgoing) → IsShortFirst out.unmade → out.text ≡ text → HasOneTextAtMost out → IsFirstMade (first_alone names log text out)
  first_made [] out short is one = first_text out.unmade out short refl is
  first_made (b ∷ bytes) out short is (inl none) = absurd (cc)
  first_made (b ∷ bytes) out short is (inr one) = inl one

  first_text_written : (items : List WireItem) (out : Outgoing) → (with_first_text names log items out).written ≡ out.written
  first_text_written [] out = refl
  first_text_written (item ∷ items) out = refl

  first_written : (text : List ℕ) (out : Outgoing) → (first_alone names log text out).written ≡ out.written
  first_written [] out = first_text_written out.unmade out
  first_written (b ∷ bytes) out = refl

-- Texts were prepared: each item has one, or enough bytes wait, or the first item alone has text where no more may.
record Prepared (answered : Bool) (old new : Outgoing) : Type 0 where
  written : new.written ≡ old.written
  made : (new.unmade ≡ []) ⊎ ((MOST_WRITTEN ≤ length (waiting_text new)) ⊎ ((answered ≡ false) × IsOneFrame new.text))
  firsts : answered ≡ false → HasOneTextAtMost new

all_prepared : (answered : Bool) (old new : Outgoing) (names : Names2) (log : List (List OutEntry)) → answered ≡ true → new ≡ after_preparing names log MOST_WRITTEN old → Prepared answered old new
all_prepared answered old new names log told is = record {
  written = ap (λ (o : Outgoing). o.written) is ∙ made_written names log MOST_WRITTEN old.unmade old old.written refl;
  made = elim (subst (IsMade names log MOST_WRITTEN) (sym is) (all_made names log MOST_WRITTEN old.unmade old refl)) [ inl all ↦ inl all | inr most ↦ inr (inl most) ];
  firsts = λ unanswered. absurd (cc);
}

first_prepared : (answered : Bool) (old new : Outgoing) (names : Names2) (log : List (List OutEntry)) → answered ≡ false → IsShortFirst names log old.unmade → HasOneTextAtMost old → new ≡ after_preparing_first names log old
    → Prepared answered old new
first_prepared answered old new names log untold short one is =
    let made : IsFirstMade names log new = subst (IsFirstMade names log) (sym is) (first_made names log old.text old short refl one) in
    record {
      written = ap (λ (o : Outgoing). o.written) is ∙ first_written names log old.text old;
      made = elim made [ inl first ↦ inr (inr (untold, first)) | inr none ↦ inl none.0 ];
      firsts = λ unanswered. elim made [ inl first ↦ inr first | inr none ↦ inl none.1 ];
    }

none_prepared : (answered : Bool) (old new : Outgoing) → old ≡ no_outgoing → new ≡ old → Prepared answered old new
none_prepared answered old new none is = record {
  written = ap (λ (o : Outgoing). o.written) is;
  made = inl (ap (λ (o : Outgoing). o.unmade) (is ∙ none));
  firsts = λ unanswered. inl (ap (λ (o : Outgoing). o.text) (is ∙ none));
}

prepared_by : (answered : Bool) (old new : Outgoing) (names : Names2) (log : List (List OutEntry)) → IsShortFirst names log old.unmade → (answered ≡ false → HasOneTextAtMost old)
    → new ≡ (if answered then after_preparing names log MOST_WRITTEN old else after_preparing_first names log old) → Prepared answered old new
prepared_by true old new names log short one is = all_prepared true old new names log refl is
prepared_by false old new names log short one is = first_prepared false old new names log refl short (one refl) is

-- so many bytes more are written
record IsLater (n : ℕ) (old new : Outgoing) : Type 0 where
  text : new.text ≡ old.text
  unmade : new.unmade ≡ old.unmade
  written : new.written ≡ old.written + n

-- items without text are left, or there are none
left_unmade : (waiting : List ℕ) (unmade : List WireItem) → (unmade ≡ []) ⊎ (0 < length waiting + length unmade)
left_unmade waiting [] = inl refl
left_unmade waiting (item ∷ items) = inr (omega arith)

-- what became of a connection on which texts were prepared and bytes were written: where nothing waits
none_left : (n : ℕ) (old new : ConnectionState) (out : Outgoing) (link_old link_new : Link) → Prepared old.answered old.out.outgoing out → IsLater n out new.out.outgoing → new.answered ≡ old.answered
    → waiting_text new.out.outgoing ≡ [] → TookItsText new ⊎ IsCutShortIn link_old link_new old new
none_left n old new out link_old link_new prepared later answered none_waits = elim prepared.made [
  | inl all ↦ inl (inl (record { none_waits = none_waits; none_unmade = later.unmade ∙ all }))
  | inr (inl most) ↦ (elim (left_unmade (waiting_text new.out.outgoing) new.out.outgoing.unmade) [
    | inl all ↦ inl (inl (record { none_waits = none_waits; none_unmade = all }))
    | inr left ↦ (
        let none : length (waiting_text new.out.outgoing) ≡ 0 = ap length none_waits in
        let behind = length-drop new.out.outgoing.written new.out.outgoing.text in
        let waited = length-drop out.written out.text in
        let text : length new.out.outgoing.text ≡ length out.text = ap length later.text in
        let then_written = later.written in
        let was_written = prepared.written in
        let enough : old.out.outgoing.written + MOST_WRITTEN ≤ new.out.outgoing.written = omega arith in
        inr (inr (inr (enough, left))))
  ])
  | inr (inr first) ↦ inl (inr (answered ∙ first.0, record { none_waits = none_waits; first = record { body = first.1.body; short = first.1.short; are = later.text ∙ first.1.are } }))
]

-- bytes are left, or none waits
left_waiting : (waiting : List ℕ) (unmade : List WireItem) → (waiting ≡ []) ⊎ (0 < length waiting + length unmade)
left_waiting [] unmade = inl refl
left_waiting (b ∷ bytes) unmade = inr (omega arith)

-- and in the end
took : (stop : Stop) (n : ℕ) (old new : ConnectionState) (out : Outgoing) (link_old link_new : Link) → Prepared old.answered old.out.outgoing out → IsLater n out new.out.outgoing → new.answered ≡ old.answered
    → HasStopped stop n new link_old link_new → TookItsText new ⊎ IsCutShortIn link_old link_new old new
took AllTaken n old new out link_old link_new prepared later answered stopped = none_left n old new out link_old link_new prepared later answered stopped
took MostWritten n old new out link_old link_new prepared later answered stopped = elim (left_waiting (waiting_text new.out.outgoing) new.out.outgoing.unmade) [
  | inl none ↦ none_left n old new out link_old link_new prepared later answered none
  | inr left ↦ (
      let then_written = later.written in
      let was_written = prepared.written in
      let enough : old.out.outgoing.written + MOST_WRITTEN ≤ new.out.outgoing.written = omega arith in
      inr (inr (inr (enough, left))))
]
took Blocked n old new out link_old link_new prepared later answered stopped = inr (inr (inl stopped))
took Failed n old new out link_old link_new prepared later answered stopped = inr (inl stopped)

-- One connection changes, and keeps its number and whether it is answered.
record OnlyAt (k : ℕ) (old new : Board) : Type 0 where
  count : length new.connections ≡ length old.connections
  others : (j : ℕ) → j ≢ k → connection_at new j ≡ connection_at old j
  number : (connection_at new k).number ≡ (connection_at old k).number
  answered : (connection_at new k).answered ≡ (connection_at old k).answered

only_itself : (k : ℕ) (old new : Board) → new ≡ old → OnlyAt k old new
only_itself k old new same = subst (λ board. OnlyAt k old board) (sym same) (record { count = refl; others = λ j other. refl; number = refl; answered = refl })

only_further : (k : ℕ) (first second third : Board) → OnlyAt k first second → OnlyAt k second third → OnlyAt k first third
only_further k first second third one two = record {
  count = two.count ∙ one.count;
  others = λ j other. two.others j other ∙ one.others j other;
  number = two.number ∙ one.number;
  answered = two.answered ∙ one.answered;
}

only_set : (k : ℕ) (c : ConnectionState) (old new : Board) → new.connections ≡ set old.connections k c → (connection_at new k).number ≡ (connection_at old k).number → (connection_at new k).answered ≡ (connection_at old k).answered → OnlyAt k old new
only_set k c old new changes number answered = record {
  count = ap length changes ∙ length-set old.connections k c;
  others = λ j other. ap (λ cs. get_or cs j no_connection) changes ∙ get_or-set_other old.connections k j c no_connection other;
  number = number;
  answered = answered;
}

becomes : (k : ℕ) (c : ConnectionState) (old new : Board) → ConnectionChanges k c old new → connection_at new k ≡ c
becomes k c old new changes = ap (λ (b : Board). get_or b.connections k no_connection) changes.others ∙ get_or-set_same old.connections k c no_connection changes.within

only_changing : (k : ℕ) (c : ConnectionState) (old new : Board) → ConnectionChanges k c old new → c.number ≡ (connection_at old k).number → c.answered ≡ (connection_at old k).answered → OnlyAt k old new
only_changing k c old new changes number answered =
    let is = becomes k c old new changes in
    only_set k c old new (ap (λ (b : Board). b.connections) changes.others) (ap (λ (x : ConnectionState). x.number) is ∙ number) (ap (λ (x : ConnectionState). x.answered) is ∙ answered)

-- no text is made of what is written
first_later : (n : ℕ) (old new : Outgoing) → IsLater n old new → HasOneTextAtMost old → HasOneTextAtMost new
first_later n old new later (inl none) = inl (later.text ∙ none)
first_later n old new later (inr one) = inr (record { body = one.body; short = one.short; are = later.text ∙ one.are })

-- why writing stopped, said of a connection with the same outbox
stopped_on : (stop : Stop) (n : ℕ) (c d : ConnectionState) (link_old link_new : Link) → d.out.outgoing ≡ c.out.outgoing → HasStopped stop n c link_old link_new → HasStopped stop n d link_old link_new
stopped_on AllTaken n c d link_old link_new same is = ap waiting_text same ∙ is
stopped_on MostWritten n c d link_old link_new same is = is
stopped_on Blocked n c d link_old link_new same is = is
stopped_on Failed n c d link_old link_new same is = is

link_further : (first second third : Link) → LinkGoesOn first second → LinkGoesOn second third → LinkGoesOn first third
link_further first second third one two = record {
  read_faults = (let a = one.read_faults in let b = two.read_faults in omega arith);
  read_blocks = (let a = one.read_blocks in let b = two.read_blocks in omega arith);
  ends = (let a = one.ends in let b = two.ends in omega arith);
  write_faults = (let a = one.write_faults in let b = two.write_faults in omega arith);
  write_blocks = (let a = one.write_blocks in let b = two.write_blocks in omega arith);
}

below_last : (i n : ℕ) → i < suc n → i ≢ n → i < n
below_last i n below other = omega arith

-- the link of no connection counts less than before
link_itself : (link : Link) → LinkGoesOn link link
link_itself link = record { read_faults = omega arith; read_blocks = omega arith; ends = omega arith; write_faults = omega arith; write_blocks = omega arith }

module _ (before : ℕ → List Entry) (g : Laws before) where
  -- one step at a connection
  record Step (k : ℕ) (old new : Board) : Type 0 where
    ready : IsReady before new
    only : OnlyAt k old new

  prepared_step : (session : Option ℕ) (k : ℕ) (old new : Board) → PreparesTo session k old new → IsReady before old → Step k old new
  prepared_step None k old new is ready = record { ready = subst (IsReady before) (sym is) ready; only = only_itself k old new is }
  prepared_step (Some s) k old new is ready = record { ready = g.ready (prepares s k) old new is.0 ready; only = only_changing k _ old new is.0.changes refl refl }

  prepared : (session : Option ℕ) (k : ℕ) (old new : Board) → (connection_at old k).session ≡ session → PreparesTo session k old new → IsReady before old → k < length old.connections
      → ((connection_at old k).answered ≡ false → HasOneTextAtMost (connection_at old k).out.outgoing) → Prepared (connection_at old k).answered (connection_at old k).out.outgoing (connection_at new k).out.outgoing
  prepared None k old new names is ready within one =
      none_prepared (connection_at old k).answered (connection_at old k).out.outgoing (connection_at new k).out.outgoing (ready.silent k within names) (ap (λ (b : Board). (connection_at b k).out.outgoing) is)
  prepared (Some s) k old new names is ready within one =
      let book = (ready.books s (ready.named s k within names)).is_book in
      prepared_by (connection_at old k).answered (connection_at old k).out.outgoing (connection_at new k).out.outgoing (names_at old s) (book_at old s).outbound
      (first_short (names_at old s) (book_at old s).outbound (connection_at old k).out.outgoing.unmade (record { us = book.us; them = book.them }) book.fit (g.named old s k ready within names)) one is.1

  written_step : (k n : ℕ) (old new : Board) → WritesSome k n old new → IsReady before old → Step k old new
  written_step k n old new (inl none) ready = record { ready = subst (IsReady before) (sym none.1) ready; only = only_itself k old new none.1 }
  written_step k n old new (inr is) ready = record { ready = g.ready (writes k n) old new is ready; only = only_changing k _ old new is.changes refl refl }

  written_later : (k n : ℕ) (old new : Board) → WritesSome k n old new → IsLater n (connection_at old k).out.outgoing (connection_at new k).out.outgoing
  written_later k n old new (inl none) =
      let same : (connection_at new k).out.outgoing ≡ (connection_at old k).out.outgoing = ap (λ (b : Board). (connection_at b k).out.outgoing) none.1 in
      record {
        text = ap (λ (o : Outgoing). o.text) same;
        unmade = ap (λ (o : Outgoing). o.unmade) same;
        written = (let was = ap (λ (o : Outgoing). o.written) same in let nothing = none.0 in omega arith);
      }
  written_later k n old new (inr is) = record {
    text = ap (λ (o : Outgoing). o.text) is.outgoing;
    unmade = ap (λ (o : Outgoing). o.unmade) is.outgoing;
    written = ap (λ (o : Outgoing). o.written) is.outgoing;
  }

  -- what is to be written of a connection that parts stays
  record Parted (k : ℕ) (old new : Board) : Type 0 where
    step : Step k old new
    out : (connection_at new k).out ≡ (connection_at old k).out

  parted_by : (session : Option ℕ) (k : ℕ) (cause : Cause) (old new : Board) → Happens (parting session k cause) old new → IsReady before old → Parted k old new
  parted_by None k cause old new is ready = record {
    step = record { ready = g.ready (ends_unbound k cause) old new is ready; only = only_changing k _ old new is.changes refl refl };
    out = ap (λ (x : ConnectionState). x.out) (becomes k _ old new is.changes);
  }
  parted_by (Some s) k cause old new is ready = record {
    step = record {
      ready = g.ready (ends_bound s k cause) old new is ready;
      only = only_set k (connection_at new k) old new is.unplugged.connections (ap (λ (x : ConnectionState). x.number) is.connection) (ap (λ (x : ConnectionState). x.answered) is.connection);
    };
    out = ap (λ (x : ConnectionState). x.out) is.connection;
  }

  parted : (cause : Option Cause) (k : ℕ) (old new : Board) → PartsIfNeeded cause k old new → IsReady before old → Parted k old new
  parted None k old new is ready = record { step = record { ready = subst (IsReady before) (sym is) ready; only = only_itself k old new is }; out = ap (λ (b : Board). (connection_at b k).out) is }
  parted (Some cause) k old new is ready = parted_by (connection_at old k).session k cause old new is ready

  abbrev pub board_at : WrittenSoFar → Board
  board_at w = w.sessions.desk.board

  -- what the wire tells of the connection at a place of a board
  abbrev pub link_on : WrittenSoFar → Board → ℕ → Link
  link_on w board j = w.links (connection_at board j).number

  abbrev pub written_on : WrittenSoFar → ℕ → ℕ
  written_on w j = (connection_at (board_at w) j).out.outgoing.written

  -- a connection keeps its number, no count of it falls, and what is written stays so
  pub record GoesOnAt (old new : WrittenSoFar) (j : ℕ) : Type 0 where
    pub number : (connection_at (board_at new) j).number ≡ (connection_at (board_at old) j).number
    pub link : LinkGoesOn (link_on old (board_at old) j) (link_on new (board_at old) j)
    pub more : written_on old j ≤ written_on new j

  -- it rests
  abbrev pub RestsAt : WrittenSoFar → WrittenSoFar → ℕ → Type 0
  RestsAt old new j = (connection_at (board_at new) j ≡ connection_at (board_at old) j) × (link_on new (board_at old) j ≡ link_on old (board_at old) j)

  -- it took its text, or its writing was cut short
  abbrev pub TookAt : WrittenSoFar → WrittenSoFar → ℕ → Type 0
  TookAt old new j = TookItsText (connection_at (board_at new) j) ⊎ IsCutShortIn (link_on old (board_at old) j) (link_on new (board_at old) j) (connection_at (board_at old) j) (connection_at (board_at new) j)

  rest_goes : (old new : WrittenSoFar) (j : ℕ) → RestsAt old new j → GoesOnAt old new j
  rest_goes old new j rests = record {
    number = ap (λ (c : ConnectionState). c.number) rests.0;
    link = subst (LinkGoesOn (link_on old (board_at old) j)) (sym rests.1) (link_itself (link_on old (board_at old) j));
    more = (let same = ap (λ (c : ConnectionState). c.out.outgoing.written) rests.0 in omega arith);
  }

  -- Connections were written to.
  pub record Wrote (old new : WrittenSoFar) : Type 0 where
    pub ready : IsReady before (board_at new)
    pub count : length (board_at new).connections ≡ length (board_at old).connections
    pub firsts : FirstsComeAlone (board_at new)
    pub each : (j : ℕ) → j < length (board_at old).connections → GoesOnAt old new j

  -- and this one is the last of them
  record WroteAt (k : ℕ) (old new : WrittenSoFar) : Type 0 where
    wrote : Wrote old new
    here : TookAt old new k
    there : (j : ℕ) → j < length (board_at old).connections → j ≢ k → RestsAt old new j

  -- One of the connections is written to.
  written_at : (k : ℕ) (old new : WrittenSoFar) → WritesAt k old new → IsReady before (board_at old) → FirstsComeAlone (board_at old) → k < length (board_at old).connections → WroteAt k old new
  written_at k old new is ready firsts within =
      let first = board_at old in
      let last = board_at new in
      let steps = is.writes in
      let middle = steps.prepared in
      let behind = steps.wrote.board in
      let c = connection_at first k in
      let one : Step k first middle = prepared_step c.session k first middle steps.prepares ready in
      let two : Step k middle behind = written_step k is.written.bytes middle behind steps.writes one.ready in
      let parts : Parted k behind last = parted (cause_behind is.written.stop (connection_at behind k)) k behind last steps.ends two.ready in
      let only = only_further k first behind last (only_further k first middle behind one.only two.only) parts.step.only in
      let texts : Prepared c.answered c.out.outgoing (connection_at middle k).out.outgoing = prepared c.session k first middle refl steps.prepares ready within (firsts k within) in
      let out : (connection_at last k).out.outgoing ≡ (connection_at behind k).out.outgoing = ap (λ (o : Outlet). o.outgoing) parts.out in
      let later : IsLater is.written.bytes (connection_at middle k).out.outgoing (connection_at last k).out.outgoing =
      subst (λ o. IsLater is.written.bytes (connection_at middle k).out.outgoing o) (sym out) (written_later k is.written.bytes middle behind steps.writes) in
      let apart : (j : ℕ) → j < length first.connections → j ≢ k → RestsAt old new j =
      λ j small other. (only.others j other, is.others (connection_at first j).number (λ same. other (ready.numbers j k small within same))) in
      record {
        wrote = record {
          ready = parts.step.ready;
          count = only.count;
          firsts = λ j small unanswered. elim (same_or_other j k) [
            | inl here ↦ subst (λ n. HasOneTextAtMost (connection_at last n).out.outgoing) (sym here)
                (first_later is.written.bytes (connection_at middle k).out.outgoing (connection_at last k).out.outgoing later
                (texts.firsts (sym only.answered ∙ subst (λ n. (connection_at last n).answered ≡ false) here unanswered)))
            | inr there ↦ (
                let same = only.others j there in
                subst (λ (x : ConnectionState). HasOneTextAtMost x.out.outgoing) (sym same)
                (firsts j (subst (λ n. j < n) only.count small) (sym (ap (λ (x : ConnectionState). x.answered) same) ∙ unanswered)))
          ];
          each = λ j small. elim (same_or_other j k) [
            | inl here ↦ subst (λ n. GoesOnAt old new n) (sym here)
                (record { number = only.number; link = is.goes_on; more = (let was = texts.written in let then_was = later.written in omega arith) })
            | inr there ↦ rest_goes old new j (apart j small there)
          ];
        };
        here = took is.written.stop is.written.bytes c (connection_at last k) (connection_at middle k).out.outgoing (link_on old first k) (link_on new first k) texts later only.answered
            (stopped_on is.written.stop is.written.bytes (connection_at behind k) (connection_at last k) _ _ out steps.stopped);
        there = apart;
      }

  -- a count that has risen since has risen over all, and so it has where it goes on
  risen_since : (first second third : ℕ) → first ≤ second → HasRisen second third → HasRisen first third
  risen_since first second third more risen = λ small. let above = risen small in omega arith

  -- what became of a connection since
  took_since : (old mid new : WrittenSoFar) (j : ℕ) → GoesOnAt old mid j → TookAt mid new j → TookAt old new j
  took_since old mid new j goes (inl whole) = inl whole
  took_since old mid new j goes (inr (inl fault)) =
      inr (inl (risen_since _ _ _ goes.link.write_faults (subst (λ n. HasRisen (mid.links n).write_faults (new.links n).write_faults) goes.number fault)))
  took_since old mid new j goes (inr (inr (inl block))) =
      inr (inr (inl (risen_since _ _ _ goes.link.write_blocks (subst (λ n. HasRisen (mid.links n).write_blocks (new.links n).write_blocks) goes.number block))))
  took_since old mid new j goes (inr (inr (inr most))) =
      let more = goes.more in
      let enough = most.0 in
      inr (inr (inr (omega arith, most.1)))

  -- it rests since
  took_before : (old mid new : WrittenSoFar) (j : ℕ) → GoesOnAt old mid j → TookAt old mid j → RestsAt mid new j → TookAt old new j
  took_before old mid new j goes is rests =
      let link : link_on new (board_at old) j ≡ link_on mid (board_at old) j = subst (λ n. new.links n ≡ mid.links n) goes.number rests.1 in
      subst (λ c. TookItsText c ⊎ IsCutShortIn (link_on old (board_at old) j) (link_on new (board_at old) j) (connection_at (board_at old) j) c) (sym rests.0)
      (subst (λ l. TookItsText (connection_at (board_at mid) j) ⊎ IsCutShortIn (link_on old (board_at old) j) l (connection_at (board_at old) j) (connection_at (board_at mid) j)) (sym link) is)

  goes_further : (old mid new : WrittenSoFar) (j : ℕ) → GoesOnAt old mid j → GoesOnAt mid new j → GoesOnAt old new j
  goes_further old mid new j one two =
      let link = subst (λ n. LinkGoesOn (mid.links n) (new.links n)) one.number two.link in
      record {
        number = two.number ∙ one.number;
        link = link_further _ _ _ one.link link;
        more = (let first = one.more in let second = two.more in omega arith);
      }

  rests_further : (old mid new : WrittenSoFar) (j : ℕ) → RestsAt old mid j → RestsAt mid new j → RestsAt old new j
  rests_further old mid new j one two =
      let number : (connection_at (board_at mid) j).number ≡ (connection_at (board_at old) j).number = ap (λ (c : ConnectionState). c.number) one.0 in
      (two.0 ∙ one.0, subst (λ n. new.links n ≡ mid.links n) number two.1 ∙ one.1)

  -- The connections at the first of these places were written to.
  pub record WroteAll (places : List ℕ) (count : ℕ) (old new : WrittenSoFar) : Type 0 where
    pub wrote : Wrote old new
    pub took : (i j : ℕ) → i < count → slice_index_or places i 0 ≡ j → TookAt old new j
    pub rest : (j : ℕ) → j < length (board_at old).connections → ((i : ℕ) → i < count → slice_index_or places i 0 ≢ j) → RestsAt old new j

  none_written : (places : List ℕ) (w : WrittenSoFar) → IsReady before (board_at w) → FirstsComeAlone (board_at w) → WroteAll places 0 w w
  none_written places w ready firsts = record {
    wrote = record { ready = ready; count = refl; firsts = firsts; each = λ j within. rest_goes w w j (refl, refl) };
    took = λ i j small. absurd (omega arith);
    rest = λ j within other. (refl, refl);
  }

  one_more_written : (places : List ℕ) (count : ℕ) (old mid new : WrittenSoFar) → ((i : ℕ) → i < suc count → slice_index_or places i 0 < length (board_at old).connections) → WroteAll places count old mid → WroteAt (slice_index_or places count 0) mid new → WroteAll places (suc count) old new
  one_more_written places count old mid new each_within were is =
      let k = slice_index_or places count 0 in
      let within : k < length (board_at old).connections = each_within count (omega arith) in
      let less_at : (i j : ℕ) → i < suc count → slice_index_or places i 0 ≡ j → j < length (board_at old).connections = λ i j below at. subst (λ n. n < length (board_at old).connections) at (each_within i below) in
      let before_last : (i j : ℕ) → i < suc count → slice_index_or places i 0 ≡ j → j ≢ k → i < count =
      λ i j below at there. elim (same_or_other i count) [
        | inl last ↦ absurd (there (sym at ∙ ap (λ n. slice_index_or places n 0) last))
        | inr earlier ↦ below_last i count below earlier
      ] in
      let so_far = were.wrote in
      let now = is.wrote in
      let small : (j : ℕ) → j < length (board_at old).connections → j < length (board_at mid).connections = λ j less. subst (λ n. j < n) (sym so_far.count) less in
      record {
        wrote = record {
          ready = now.ready;
          count = now.count ∙ so_far.count;
          firsts = now.firsts;
          each = λ j less. goes_further old mid new j (so_far.each j less) (now.each j (small j less));
        };
        took = λ i j below at. elim (same_or_other j k) [
          | inl here ↦ subst (λ n. TookAt old new n) (sym here) (took_since old mid new k (so_far.each k within) is.here)
          | inr there ↦ took_before old mid new j (so_far.each j (less_at i j below at)) (were.took i j (before_last i j below at there) at) (is.there j (small j (less_at i j below at)) there)
        ];
        rest = λ j less other. rests_further old mid new j (were.rest j less (λ i below. other i (omega arith))) (is.there j (small j less) (λ same. other count (omega arith) (sym same)));
      }

  pub written_in_turn : (places : List ℕ) (count : ℕ) (old new : WrittenSoFar) → ((i : ℕ) → i < count → slice_index_or places i 0 < length (board_at old).connections) → WritesInTurn places count old new
      → IsReady before (board_at old) → FirstsComeAlone (board_at old) → WroteAll places count old new
  written_in_turn places zero old new within same ready firsts = subst (λ w. WroteAll places 0 old w) (sym same) (none_written places old ready firsts)
  written_in_turn places (suc count) old new within steps ready firsts =
      let mid = steps.0 in
      let were = written_in_turn places count old mid (λ i small. within i (omega arith)) steps.1 ready firsts in
      let k = slice_index_or places count 0 in
      one_more_written places count old mid new within were
      (written_at k mid new steps.2 were.wrote.ready were.wrote.firsts (subst (λ n. k < n) (sym were.wrote.count) (within count (omega arith))))
