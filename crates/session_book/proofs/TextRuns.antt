-- What is queued on a connection is what its spell tells, whatever comes.
use Rattle.std.proofs.Common.{◌≡◌, ◌≢◌, ℕ, ◌≤◌, Bool, true, false, if◌then◌else◌, List, [], ◌∷◌, ◌++◌, length, Option, None, Some, refl, sym, ap, subst, ◌∙◌, append_assoc, arith}
use Rattle.std.specs.Prelude.{◌==◌}
use Rattle.std.specs.List.{All, flat_map}
use Rattle.std.proofs.lemmas.Bool.{cond-true, eq-eqb}
use Rattle.std.proofs.lemmas.Grind.{flat_map-append}
use Rattle.std.proofs.lemmas.List.{append_cancel_left, length_push}
use Rattle.std.proofs.lemmas.List.Elements.{All-append, All-cons, All-head, All-nil, All-tail}
use Rattle.connection_core.specs.Items.{AreItemsOf}
use Rattle.connection_core.specs.Outgoing.{Outgoing, with_items}
use Rattle.lease_core.specs.State.{State as Totals, series_of, state_after, state_of}
use Rattle.lease_core.specs.declared.entry.Entry.{Entry}
use Rattle.lease_core.specs.declared.entry.Entry.TheVariants.{Bind, Leave}
use Rattle.message_log.specs.Growth.{GoesOn}
use Rattle.message_log.specs.declared.entry.OutEntry.{OutEntry}
use Rattle.resend_plan.specs.Wire.{NamesEntry}
use Rattle.resend_plan.specs.declared.item.Names2.{Names2}
use Rattle.resend_plan.specs.declared.item.WireItem.{WireItem}
use Rattle.session_book.specs.Book.{Book, Desk}
use Rattle.session_book.specs.Items.{HasWhatWasSent, QueuesWhatIsTold, is_connection, items_behind_entries, items_from, items_of_entry}
use Rattle.session_book.specs.Spells.{Placed, Spell, items_at, new_spell, placed, placed_from, spell_items, spell_with, spells_behind, spells_from}
use Rattle.session_book.specs.Texts.{IsTextOf, WasSent}
use Rattle.session_book.specs.Grounds.{RunGrounds}
use Rattle.session_book.proofs.Runs.{Makes, bound_new, entries_behind, spells_on}
use Rattle.session_book.proofs.Spells.{Keeps, bound_kept, bound_stays, spells_within, spells_without}
use Rattle.session_book.proofs.Telling.{longer, same_entry}

abbrev pub ItemsGrow : Type 0
ItemsGrow = (names : Names2) (earlier later : List (List OutEntry)) (items : List WireItem) (out : Outgoing) → AreItemsOf names earlier items out → GoesOn earlier later → AreItemsOf names later items out

abbrev pub ItemsQueue : Type 0
ItemsQueue = (names : Names2) (log : List (List OutEntry)) (items more : List WireItem) (out : Outgoing) → AreItemsOf names log items out → All (NamesEntry log) more → AreItemsOf names log (items ++ more) (with_items more out)

-- what entries tell that were made while the session was bound to the connection
pub items_placed : (c : ℕ) (log : List (List OutEntry)) (s : Totals) (es : List Entry) → s.bound ≡ Some c → All Keeps es → items_from c log s es ≡ flat_map (items_at log) (placed_from s es)
items_placed c log s [] bound keep = refl
items_placed c log s (e ∷ es) bound keep =
    ap (λ (b : Option ℕ). (if is_connection b c then items_of_entry log s e else []) ++ items_from c log (state_after s e) es) bound
    ∙ ap (λ items. items ++ items_from c log (state_after s e) es) (cond-true (c == c) (items_of_entry log s e) [] (eq-eqb c c refl))
    ∙ ap (λ items. items_of_entry log s e ++ items) (items_placed c log (state_after s e) es (bound_kept s e (All-head Keeps e es keep) ∙ bound) (All-tail Keeps e es keep))

pub sent_placed : (log : List (List OutEntry)) (s : Totals) (es : List Entry) → HasWhatWasSent log s es → All (WasSent log) (placed_from s es)
sent_placed log s [] has = All-nil (WasSent log)
sent_placed log s (e ∷ es) has = All-cons (WasSent log) (placed s e) (placed_from (state_after s e) es) has.0 (sent_placed log (state_after s e) es has.1)

-- the last of some, and those before it
record Snoc (spells : List Spell) : Type 0 where
  front : List Spell
  last : Spell
  are : spells ≡ front ++ last ∷ []

snoc_of : (spells : List Spell) → 1 ≤ length spells → Snoc spells
snoc_of [] some = absurd (omega arith)
snoc_of (spell ∷ []) some = record { front = []; last = spell; are = refl }
snoc_of (spell ∷ (next ∷ more)) some = let rest = snoc_of (next ∷ more) (omega arith) in record { front = spell ∷ rest.front; last = rest.last; are = ap (λ l. spell ∷ l) rest.are }

some_last : (front : List Spell) (last : Spell) → 1 ≤ length (front ++ last ∷ [])
some_last front last = let more = length_push front last in omega arith

some_same : (d c : ℕ) → Some d ≡ Some c → d ≡ c
some_same d c e = (cc)

not_bound : (c : ℕ) → None ≡ Some c → ⊥
not_bound c e = (cc)

nothing_if : (b : Bool) → ◌≡◌ {A = List WireItem} (if b then [] else []) []
nothing_if true = refl
nothing_if false = refl

module _ (r : RunGrounds) where
  pub items_stand : (earlier later : List (List OutEntry)) (ps : List Placed) → GoesOn earlier later → All (WasSent earlier) ps → flat_map (items_at later) ps ≡ flat_map (items_at earlier) ps
  items_stand earlier later [] on sent = refl
  items_stand earlier later (p ∷ ps) on sent =
      ap (λ items. items ++ flat_map (items_at later) ps) (same_entry r.logs.begins earlier later p.before p.entry on (All-head (WasSent earlier) p ps sent))
      ∙ ap (λ items. items_at earlier p ++ items) (items_stand earlier later ps on (All-tail (WasSent earlier) p ps sent))

  sent_more : (earlier later : List (List OutEntry)) (p : Placed) → GoesOn earlier later → WasSent earlier p → WasSent later p
  sent_more earlier later p on is = let more = longer r.logs.begins earlier later (series_of p.before) on in omega arith

  pub sent_stands : (earlier later : List (List OutEntry)) (ps : List Placed) → GoesOn earlier later → All (WasSent earlier) ps → All (WasSent later) ps
  sent_stands earlier later [] on sent = All-nil (WasSent later)
  sent_stands earlier later (p ∷ ps) on sent =
      All-cons (WasSent later) p ps (sent_more earlier later p on (All-head (WasSent earlier) p ps sent)) (sent_stands earlier later ps on (All-tail (WasSent earlier) p ps sent))

  module _ (grow : ItemsGrow) (queue : ItemsQueue) (names : Names2) where
    -- the items of a spell stay as the log grows
    items_kept : (old new : List (List OutEntry)) (spell : Spell) (out : Outgoing) → GoesOn old new → All (WasSent old) spell.entries → AreItemsOf names old (spell_items old spell) out
        → AreItemsOf names new (spell_items new spell) out
    items_kept old new spell out on sent items =
        subst (λ found. AreItemsOf names new found out) (sym (items_stand old new spell.entries on sent)) (grow names old new (spell_items old spell) out items on)

    -- the spell has more entries, and their items are queued
    items_more : (old new : List (List OutEntry)) (spell : Spell) (more : List Placed) (out : Outgoing) → GoesOn old new → All (WasSent old) spell.entries → AreItemsOf names old (spell_items old spell) out
        → All (NamesEntry new) (flat_map (items_at new) more)
        → AreItemsOf names new (spell_items new (spell_with more spell)) (with_items (flat_map (items_at new) more) out)
    items_more old new spell more out on sent items named =
        let queued = flat_map (items_at new) more in
        subst (λ found. AreItemsOf names new found (with_items queued out)) (sym (flat_map-append (items_at new) spell.entries more))
        (queue names new (spell_items new spell) queued out (items_kept old new spell out on sent items) named)

    -- an event on the session that is bound to the connection
    pub open_text : (before : List Entry) (c : ℕ) (old new : Desk) (added : List Entry) → QueuesWhatIsTold c old new → Makes r old.book new.book added → All Keeps added
        → (state_of old.book.entries).bound ≡ Some c → IsTextOf names before c old.book old.outgoing → IsTextOf names before c new.book new.outgoing
    open_text before c old new added q makes keep bound is =
        let s = state_of old.book.entries in
        let log = new.book.outbound in
        let more = placed_from s added in
        let same : q.added ≡ added = append_cancel_left old.book.entries q.added added (sym q.entries_are ∙ makes.entries_are) in
        let told : items_behind_entries c log old.book.entries q.added ≡ flat_map (items_at log) more = ap (λ es. items_from c log s es) same ∙ items_placed c log s added bound keep in
        let was : spells_behind before is.added ≡ is.past ++ is.spell ∷ [] = is.spells ∙ ap (λ l. is.past ++ (is.spell ∷ l)) (is.stands bound) in
        let spells : spells_behind before (is.added ++ added) ≡ is.past ++ spell_with more is.spell ∷ [] =
        spells_on r before is.added old.book added is.entries_are ∙ ap (λ found. spells_from found s added) was ∙ spells_within is.past is.spell s c added bound keep in
        let bound_is : (state_of new.book.entries).bound ≡ Some c = bound_new r old.book new.book added makes keep ∙ bound in
        let sent = subst (λ es. HasWhatWasSent log s es) same q.sent in
        record {
          added = is.added ++ added;
          entries_are = entries_behind r before is.added old.book new.book added is.entries_are makes;
          past = is.past;
          spell = spell_with more is.spell;
          later = [];
          spells = spells;
          connection = is.connection;
          sent = All-append (WasSent log) is.spell.entries more (sent_stands old.book.outbound log is.spell.entries makes.outbound is.sent) (sent_placed log s added sent);
          items = subst (λ out. AreItemsOf names log (spell_items log (spell_with more is.spell)) out) (sym (q.queued ∙ ap (λ items. with_items items old.outgoing) told))
              (items_more old.book.outbound log is.spell more old.outgoing makes.outbound is.sent is.items (subst (All (NamesEntry log)) told q.named));
          stands = λ b. refl;
          other = λ d b fails. absurd (fails (some_same d c (sym b ∙ bound_is)));
        }

    -- an event while the session is bound to another connection, or to none
    other_by : (before : List Entry) (c : ℕ) (old new : Book) (out : Outgoing) (added : List Entry) (b : Option ℕ) → (state_of old.entries).bound ≡ b → Makes r old new added → All Keeps added
        → b ≢ Some c → IsTextOf names before c old out → IsTextOf names before c new out
    other_by before c old new out added None bound makes keep differs is =
        let spells : spells_behind before (is.added ++ added) ≡ is.past ++ (is.spell ∷ is.later) =
        spells_on r before is.added old added is.entries_are ∙ spells_without (spells_behind before is.added) (state_of old.entries) added bound keep ∙ is.spells in
        let none : (state_of new.entries).bound ≡ None = bound_new r old new added makes keep ∙ bound in
        record {
          added = is.added ++ added;
          entries_are = entries_behind r before is.added old new added is.entries_are makes;
          past = is.past;
          spell = is.spell;
          later = is.later;
          spells = spells;
          connection = is.connection;
          sent = sent_stands old.outbound new.outbound is.spell.entries makes.outbound is.sent;
          items = items_kept old.outbound new.outbound is.spell out makes.outbound is.sent is.items;
          stands = λ b. absurd (not_bound c (sym none ∙ b));
          other = λ d b fails. absurd (not_bound d (sym none ∙ b));
        }
    other_by before c old new out added (Some d) bound makes keep differs is =
        let s = state_of old.entries in
        let apart : d ≢ c = λ e. differs (ap (λ n. Some n) e) in
        let rest = snoc_of is.later (is.other d bound apart) in
        let front = is.past ++ (is.spell ∷ rest.front) in
        let last = spell_with (placed_from s added) rest.last in
        let was : spells_behind before is.added ≡ front ++ rest.last ∷ [] =
        is.spells ∙ ap (λ l. is.past ++ (is.spell ∷ l)) rest.are ∙ sym (append_assoc is.past (is.spell ∷ rest.front) (rest.last ∷ [])) in
        let spells : spells_behind before (is.added ++ added) ≡ is.past ++ (is.spell ∷ (rest.front ++ last ∷ [])) =
        spells_on r before is.added old added is.entries_are ∙ ap (λ found. spells_from found s added) was ∙ spells_within front rest.last s d added bound keep
        ∙ append_assoc is.past (is.spell ∷ rest.front) (last ∷ []) in
        let still : (state_of new.entries).bound ≡ Some d = bound_new r old new added makes keep ∙ bound in
        record {
          added = is.added ++ added;
          entries_are = entries_behind r before is.added old new added is.entries_are makes;
          past = is.past;
          spell = is.spell;
          later = rest.front ++ last ∷ [];
          spells = spells;
          connection = is.connection;
          sent = sent_stands old.outbound new.outbound is.spell.entries makes.outbound is.sent;
          items = items_kept old.outbound new.outbound is.spell out makes.outbound is.sent is.items;
          stands = λ b. absurd (apart (some_same d c (sym still ∙ b)));
          other = λ k b fails. some_last rest.front last;
        }

    pub other_text : (before : List Entry) (c : ℕ) (old new : Book) (out : Outgoing) (added : List Entry) → Makes r old new added → All Keeps added
        → (state_of old.entries).bound ≢ Some c → IsTextOf names before c old out → IsTextOf names before c new out
    other_text before c old new out added makes keep differs is = other_by before c old new out added (state_of old.entries).bound refl makes keep differs is

    -- the connection is bound
    pub opened_text : (before first : List Entry) (c : ℕ) (old new : Desk) (added : List Entry) → old.book.entries ≡ before ++ first → QueuesWhatIsTold c old new → Makes r old.book new.book (Bind c ∷ added) → All Keeps added
        → AreItemsOf names old.book.outbound [] old.outgoing → IsTextOf names before c new.book new.outgoing
    opened_text before first c old new added are q makes keep none =
        let s = state_of old.book.entries in
        let t = state_after s (Bind c) in
        let log = new.book.outbound in
        let more = placed_from t added in
        let past = spells_behind before first in
        let same : q.added ≡ Bind c ∷ added = append_cancel_left old.book.entries q.added (Bind c ∷ added) (sym q.entries_are ∙ makes.entries_are) in
        let nothing : (if is_connection s.bound c then items_of_entry log s (Bind c) else []) ≡ [] = nothing_if (is_connection s.bound c) in
        let told : items_behind_entries c log old.book.entries q.added ≡ flat_map (items_at log) more =
        ap (λ es. items_from c log s es) same ∙ ap (λ items. items ++ items_from c log t added) nothing ∙ items_placed c log t added refl keep in
        let spells : spells_behind before (first ++ (Bind c ∷ added)) ≡ past ++ spell_with more (new_spell c) ∷ [] =
        spells_on r before first old.book (Bind c ∷ added) are ∙ spells_within past (new_spell c) t c added refl keep in
        let bound : (state_of new.book.entries).bound ≡ Some c =
        ap (λ es. (state_of es).bound) makes.entries_are ∙ ap (λ found. found.bound) (r.logs.decide_over old.book.entries (Bind c ∷ added)) ∙ bound_stays t added keep in
        let sent : HasWhatWasSent log s (Bind c ∷ added) = subst (λ es. HasWhatWasSent log s es) same q.sent in
        record {
          added = first ++ (Bind c ∷ added);
          entries_are = entries_behind r before first old.book new.book (Bind c ∷ added) are makes;
          past = past;
          spell = spell_with more (new_spell c);
          later = [];
          spells = spells;
          connection = refl;
          sent = sent_placed log t added sent.1;
          items = subst (λ out. AreItemsOf names log (spell_items log (spell_with more (new_spell c))) out) (sym (q.queued ∙ ap (λ items. with_items items old.outgoing) told))
              (items_more old.book.outbound log (new_spell c) more old.outgoing makes.outbound (All-nil (WasSent old.book.outbound)) none (subst (All (NamesEntry log)) told q.named));
          stands = λ b. refl;
          other = λ d b fails. absurd (fails (some_same d c (sym b ∙ bound)));
        }

    -- another connection is bound
    pub passed_text : (before : List Entry) (c d : ℕ) (old new : Book) (out : Outgoing) (added : List Entry) → d ≢ c → Makes r old new (Bind d ∷ added) → All Keeps added
        → IsTextOf names before c old out → IsTextOf names before c new out
    passed_text before c d old new out added differs makes keep is =
        let s = state_of old.entries in
        let t = state_after s (Bind d) in
        let last = spell_with (placed_from t added) (new_spell d) in
        let spells : spells_behind before (is.added ++ (Bind d ∷ added)) ≡ is.past ++ (is.spell ∷ (is.later ++ last ∷ [])) =
        spells_on r before is.added old (Bind d ∷ added) is.entries_are
        ∙ spells_within (spells_behind before is.added) (new_spell d) t d added refl keep
        ∙ ap (λ found. found ++ last ∷ []) is.spells
        ∙ append_assoc is.past (is.spell ∷ is.later) (last ∷ []) in
        let bound : (state_of new.entries).bound ≡ Some d =
        ap (λ es. (state_of es).bound) makes.entries_are ∙ ap (λ found. found.bound) (r.logs.decide_over old.entries (Bind d ∷ added)) ∙ bound_stays t added keep in
        record {
          added = is.added ++ (Bind d ∷ added);
          entries_are = entries_behind r before is.added old new (Bind d ∷ added) is.entries_are makes;
          past = is.past;
          spell = is.spell;
          later = is.later ++ last ∷ [];
          spells = spells;
          connection = is.connection;
          sent = sent_stands old.outbound new.outbound is.spell.entries makes.outbound is.sent;
          items = items_kept old.outbound new.outbound is.spell out makes.outbound is.sent is.items;
          stands = λ b. absurd (differs (some_same d c (sym bound ∙ b)));
          other = λ k b fails. some_last is.later last;
        }

    -- a connection ended, this one or another
    pub closed_text : (before : List Entry) (c d : ℕ) (old new : Book) (out : Outgoing) → Makes r old new (Leave d ∷ []) → IsTextOf names before c old out → IsTextOf names before c new out
    closed_text before c d old new out makes is =
        let none : (state_of new.entries).bound ≡ None = ap (λ es. (state_of es).bound) makes.entries_are ∙ ap (λ found. found.bound) (r.logs.decide old.entries (Leave d)) in
        record {
          added = is.added ++ Leave d ∷ [];
          entries_are = entries_behind r before is.added old new (Leave d ∷ []) is.entries_are makes;
          past = is.past;
          spell = is.spell;
          later = is.later;
          spells = spells_on r before is.added old (Leave d ∷ []) is.entries_are ∙ is.spells;
          connection = is.connection;
          sent = sent_stands old.outbound new.outbound is.spell.entries makes.outbound is.sent;
          items = items_kept old.outbound new.outbound is.spell out makes.outbound is.sent is.items;
          stands = λ b. absurd (not_bound c (sym none ∙ b));
          other = λ k b fails. absurd (not_bound k (sym none ∙ b));
        }

    -- texts are made and written
    pub kept_text : (before : List Entry) (c : ℕ) (book : Book) (out later : Outgoing) → ((items : List WireItem) → AreItemsOf names book.outbound items out → AreItemsOf names book.outbound items later)
        → IsTextOf names before c book out → IsTextOf names before c book later
    kept_text before c book out later keeps is = record {
      added = is.added;
      entries_are = is.entries_are;
      past = is.past;
      spell = is.spell;
      later = is.later;
      spells = is.spells;
      connection = is.connection;
      sent = is.sent;
      items = keeps (spell_items book.outbound is.spell) is.items;
      stands = is.stands;
      other = is.other;
    }
