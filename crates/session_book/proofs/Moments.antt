-- When items were made, as the logs and the journal grow.
use Rattle.std.proofs.Common.{◌≡◌, ℕ, ◌+◌, ◌≤◌, false, List, [], ◌∷◌, ◌++◌, Option, unwrap_or, refl, sym, ap, subst, ◌∙◌, append_assoc, arith}
use Rattle.std.specs.Prelude.{codes, nat_eq}
use Rattle.std.specs.Cmp.Lexicographic.{pointwise}
use Rattle.std.specs.List.{All, flat_map}
use Rattle.std.proofs.lemmas.Bool.{false≢true}
use Rattle.std.proofs.lemmas.Grind.{flat_map-append}
use Rattle.std.proofs.lemmas.List.{append-nil}
use Rattle.std.proofs.lemmas.List.Elements.{All-append, All-cons, All-head, All-nil, All-tail}
use Rattle.lease_core.specs.State.{State as Totals, last_or, series_of}
use Rattle.lease_core.specs.declared.entry.Entry.{Entry}
use Rattle.lease_core.specs.declared.entry.Entry.TheVariants.{Arrive, Admin, Bind, Plan, Leave, Reset, Granted, Refused, Send, Release, Timeout, Hold, Lapse}
use Rattle.message_log.specs.Growth.{GoesOn}
use Rattle.message_log.specs.declared.entry.OutEntry.{OutEntry}
use Rattle.resend_plan.specs.Wire.{NamesEntry, no_entry}
use Rattle.resend_plan.specs.declared.item.WireItem.{WireItem}
use Rattle.resend_plan.specs.declared.item.WireItem.TheVariants.{Again, GapFill, New}
use Rattle.fix_fields.specs.Field.{tagged_text}
use Rattle.session_core.specs.Runs.{after_connection, after_connections}
use Rattle.session_core.specs.State.{State}
use Rattle.session_book.specs.Items.{items_of_entry}
use Rattle.session_book.specs.Moments.{AreEarlier, BeatsBehind, IsTimed, TimedRuns, is_beat, is_beat_by, item_moment, wait_of}
use Rattle.session_book.specs.Runs.{Handled, bodies_of}
use Rattle.session_book.specs.Spells.{Placed, Spell, items_at}
use Rattle.session_book.specs.Texts.{WasSent}
use Rattle.session_book.specs.Grounds.{RunGrounds}
use Rattle.session_book.proofs.Telling.{same_entry}
use Rattle.session_book.proofs.TextRuns.{items_stand, sent_stands}

pub beats_join : (log : List (List OutEntry)) (wait : ℕ) (earlier : List WireItem) (ps qs : List Placed) → BeatsBehind log wait earlier ps
    → BeatsBehind log wait (earlier ++ flat_map (items_at log) ps) qs → BeatsBehind log wait earlier (ps ++ qs)
beats_join log wait earlier [] qs is more = subst (λ items. BeatsBehind log wait items qs) (append-nil earlier) more
beats_join log wait earlier (p ∷ ps) qs is more =
    (is.0, beats_join log wait (earlier ++ items_at log p) ps qs is.1 (subst (λ items. BeatsBehind log wait items qs) (sym (append_assoc earlier (items_at log p) (flat_map (items_at log) ps))) more))

-- an entry that is no such Heartbeat
abbrev pub NoBeat : List (List OutEntry) → Placed → Type 0
NoBeat log p = is_beat log p ≡ false

pub beatless : (log : List (List OutEntry)) (wait : ℕ) (earlier : List WireItem) (ps : List Placed) → All (NoBeat log) ps → BeatsBehind log wait earlier ps
beatless log wait earlier [] none = tt
beatless log wait earlier (p ∷ ps) none =
    (λ beat. absurd (false≢true (sym (All-head (NoBeat log) p ps none) ∙ beat)), beatless log wait (earlier ++ items_at log p) ps (All-tail (NoBeat log) p ps none))

-- later moments
pub earlier_yet : (log : List (List OutEntry)) (at later : ℕ) (items : List WireItem) → at ≤ later → AreEarlier log 0 at items → AreEarlier log 0 later items
earlier_yet log at later [] more are = All-nil _
earlier_yet log at later (item ∷ items) more are =
    All-cons (λ i. item_moment log i + 0 ≤ later) item items (let first = All-head (λ i. item_moment log i + 0 ≤ at) item items are in omega arith)
    (earlier_yet log at later items more (All-tail (λ i. item_moment log i + 0 ≤ at) item items are))

-- what was made up to a moment lies so long before a later one
pub earlier_by : (log : List (List OutEntry)) (sent wait at : ℕ) (items : List WireItem) → sent + wait ≤ at → AreEarlier log 0 sent items → AreEarlier log wait at items
earlier_by log sent wait at [] more are = All-nil _
earlier_by log sent wait at (item ∷ items) more are =
    All-cons (λ i. item_moment log i + wait ≤ at) item items (let first = All-head (λ i. item_moment log i + 0 ≤ sent) item items are in omega arith)
    (earlier_by log sent wait at items more (All-tail (λ i. item_moment log i + 0 ≤ sent) item items are))

-- what was made at a moment
pub made_at : (log : List (List OutEntry)) (at sent : ℕ) (items : List WireItem) → at ≤ sent → All (λ item. item_moment log item ≡ at) items → AreEarlier log 0 sent items
made_at log at sent [] more are = All-nil _
made_at log at sent (item ∷ items) more are =
    All-cons (λ i. item_moment log i + 0 ≤ sent) item items (let first = All-head (λ i. item_moment log i ≡ at) item items are in omega arith)
    (made_at log at sent items more (All-tail (λ i. item_moment log i ≡ at) item items are))

-- the last of some
last_is : {T : Type 0} (d : T) (xs : List T) (x : T) → last_or d (xs ++ x ∷ []) ≡ x
last_is d [] x = refl
last_is d (y ∷ xs) x = last_is y xs x

pub same_last : {T : Type 0} (xs ys : List T) (x y : T) → xs ++ x ∷ [] ≡ ys ++ y ∷ [] → x ≡ y
same_last xs ys x y e = sym (last_is x xs x) ∙ ap (λ l. last_or x l) e ∙ last_is x ys y

-- the last of the connections, with those before it
pub record LastTimed (log : List (List OutEntry)) (machine : State) (past : List Handled) (h : Handled) (front : List Spell) (last : Spell) : Type 0 where
  pub past_timed : TimedRuns log machine past front
  pub timed : IsTimed log (wait_of (after_connections machine (bodies_of past)) h) last.entries

pub last_timed : (log : List (List OutEntry)) (machine : State) (past : List Handled) (h : Handled) (front : List Spell) (last : Spell) → TimedRuns log machine (past ++ h ∷ []) (front ++ last ∷ [])
    → LastTimed log machine past h front last
last_timed log machine [] h [] last is = record { past_timed = tt; timed = is.0 }
last_timed log machine [] h (spell ∷ []) last is = absurd is.1
last_timed log machine [] h (spell ∷ (next ∷ front)) last is = absurd is.1
last_timed log machine (g ∷ []) h [] last is = absurd is.1
last_timed log machine (g ∷ (next ∷ past)) h [] last is = absurd is.1
last_timed log machine (g ∷ past) h (spell ∷ front) last is =
    let rest = last_timed log (after_connection machine g.bodies) past h front last is.1 in
    record { past_timed = (is.0, rest.past_timed); timed = rest.timed }

pub join_timed : (log : List (List OutEntry)) (machine : State) (past : List Handled) (h : Handled) (front : List Spell) (last : Spell) → TimedRuns log machine past front
    → IsTimed log (wait_of (after_connections machine (bodies_of past)) h) last.entries → TimedRuns log machine (past ++ h ∷ []) (front ++ last ∷ [])
join_timed log machine [] h [] last is timed = (timed, tt)
join_timed log machine [] h (spell ∷ front) last is timed = absurd is
join_timed log machine (g ∷ past) h [] last is timed = absurd is
join_timed log machine (g ∷ past) h (spell ∷ front) last is timed = (is.0, join_timed log (after_connection machine g.bodies) past h front last is.1 timed)

module _ (r : RunGrounds) (earlier later : List (List OutEntry)) (on : GoesOn earlier later) where
  moment_stays : (item : WireItem) → NamesEntry earlier item → item_moment later item ≡ item_moment earlier item
  moment_stays (New series number) is = ap (λ (o : Option OutEntry). (unwrap_or o no_entry).at) (r.stay earlier later series number on is)
  moment_stays (Again series number at) is = refl
  moment_stays (GapFill series number to at) is = refl

  beat_stays : (s : Totals) (e : Entry) → All (NamesEntry earlier) (items_of_entry earlier s e) → is_beat_by later s e ≡ is_beat_by earlier s e
  beat_stays s (Arrive pos) named = refl
  beat_stays s (Admin number) named =
      ap (λ (o : Option OutEntry). pointwise nat_eq (unwrap_or o no_entry).body (tagged_text (codes "35") (codes "0")))
      (r.stay earlier later (series_of s) number on (All-head (NamesEntry earlier) (New (series_of s) number) [] named))
  beat_stays s (Bind c) named = refl
  beat_stays s (Plan begin last at) named = refl
  beat_stays s (Leave c) named = refl
  beat_stays s (Reset series) named = refl
  beat_stays s (Granted library nr lease from start) named = refl
  beat_stays s (Refused library nr why) named = refl
  beat_stays s (Send lease library ordinal number) named = refl
  beat_stays s (Release lease library count heir) named = refl
  beat_stays s (Timeout lease library count) named = refl
  beat_stays s (Hold lease until) named = refl
  beat_stays s (Lapse lease) named = refl

  pub earlier_stay : (wait at : ℕ) (items : List WireItem) → All (NamesEntry earlier) items → AreEarlier earlier wait at items → AreEarlier later wait at items
  earlier_stay wait at [] named are = All-nil _
  earlier_stay wait at (item ∷ items) named are =
      All-cons (λ i. item_moment later i + wait ≤ at) item items
      (subst (λ moment. moment + wait ≤ at) (sym (moment_stays item (All-head (NamesEntry earlier) item items named))) (All-head (λ i. item_moment earlier i + wait ≤ at) item items are))
      (earlier_stay wait at items (All-tail (NamesEntry earlier) item items named) (All-tail (λ i. item_moment earlier i + wait ≤ at) item items are))

  each_stays : (wait : ℕ) (before items : List WireItem) → All (NamesEntry earlier) before → All (NamesEntry earlier) items → All (λ item. AreEarlier earlier wait (item_moment earlier item) before) items
      → All (λ item. AreEarlier later wait (item_moment later item) before) items
  each_stays wait before [] named_before named are = All-nil _
  each_stays wait before (item ∷ items) named_before named are =
      All-cons (λ i. AreEarlier later wait (item_moment later i) before) item items
      (subst (λ moment. AreEarlier later wait moment before) (sym (moment_stays item (All-head (NamesEntry earlier) item items named)))
      (earlier_stay wait (item_moment earlier item) before named_before (All-head (λ i. AreEarlier earlier wait (item_moment earlier i) before) item items are)))
      (each_stays wait before items named_before (All-tail (NamesEntry earlier) item items named) (All-tail (λ i. AreEarlier earlier wait (item_moment earlier i) before) item items are))

  all_first : (xs ys : List WireItem) → All (NamesEntry earlier) (xs ++ ys) → All (NamesEntry earlier) xs
  all_first [] ys are = All-nil _
  all_first (x ∷ xs) ys are = All-cons (NamesEntry earlier) x xs (All-head (NamesEntry earlier) x (xs ++ ys) are) (all_first xs ys (All-tail (NamesEntry earlier) x (xs ++ ys) are))

  all_second : (xs ys : List WireItem) → All (NamesEntry earlier) (xs ++ ys) → All (NamesEntry earlier) ys
  all_second [] ys are = are
  all_second (x ∷ xs) ys are = all_second xs ys (All-tail (NamesEntry earlier) x (xs ++ ys) are)

  beats_stay : (wait : ℕ) (before : List WireItem) (ps : List Placed) → All (NamesEntry earlier) before → All (WasSent earlier) ps → All (NamesEntry earlier) (flat_map (items_at earlier) ps)
      → BeatsBehind earlier wait before ps → BeatsBehind later wait before ps
  beats_stay wait before [] named_before sent named is = tt
  beats_stay wait before (p ∷ ps) named_before sent named is =
      let items = items_at earlier p in
      let these = all_first items (flat_map (items_at earlier) ps) named in
      let same : items_at later p ≡ items = same_entry r.logs.begins earlier later p.before p.entry on (All-head (WasSent earlier) p ps sent) in
      let rest = beats_stay wait (before ++ items) ps (All-append (NamesEntry earlier) before items named_before these) (All-tail (WasSent earlier) p ps sent)
      (all_second items (flat_map (items_at earlier) ps) named) is.1 in (
        λ beat. subst (λ found. All (λ item. AreEarlier later wait (item_moment later item) before) found) (sym same)
            (each_stays wait before items named_before these (is.0 (sym (beat_stays p.before p.entry these) ∙ beat))),
        subst (λ found. BeatsBehind later wait (before ++ found) ps) (sym same) rest,
      )

  pub timed_stays : (wait : ℕ) (entries : List Placed) → IsTimed earlier wait entries → IsTimed later wait entries
  timed_stays wait entries is = record {
    sent = sent_stands r earlier later entries on is.sent;
    named = subst (All (NamesEntry later)) (sym (items_stand r earlier later entries on is.sent)) (r.logs.names earlier later (flat_map (items_at earlier) entries) on is.named);
    beats = beats_stay wait [] entries (All-nil _) is.sent is.named is.beats;
  }

  pub timed_runs_stay : (machine : State) (handled : List Handled) (spells : List Spell) → TimedRuns earlier machine handled spells → TimedRuns later machine handled spells
  timed_runs_stay machine [] [] is = tt
  timed_runs_stay machine [] (spell ∷ spells) is = absurd is
  timed_runs_stay machine (h ∷ hs) [] is = absurd is
  timed_runs_stay machine (h ∷ hs) (spell ∷ spells) is = (timed_stays (wait_of machine h) spell.entries is.0, timed_runs_stay (after_connection machine h.bodies) hs spells is.1)

  -- the spell has more entries
  pub timed_more : (wait : ℕ) (entries more : List Placed) → IsTimed earlier wait entries → All (WasSent later) more → All (NamesEntry later) (flat_map (items_at later) more)
      → BeatsBehind later wait (flat_map (items_at later) entries) more → IsTimed later wait (entries ++ more)
  timed_more wait entries more is sent named beats =
      let stays = timed_stays wait entries is in
      record {
        sent = All-append (WasSent later) entries more stays.sent sent;
        named = subst (All (NamesEntry later)) (sym (flat_map-append (items_at later) entries more))
            (All-append (NamesEntry later) (flat_map (items_at later) entries) (flat_map (items_at later) more) stays.named named);
        beats = beats_join later wait [] entries more stays.beats beats;
      }
