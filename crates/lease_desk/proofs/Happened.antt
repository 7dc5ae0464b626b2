-- What happens on connections and by the clock leaves the leases of each session as they are.
use Rattle.std.proofs.Common.{◌≡◌, inl, inr, ℕ, ◌<◌, ◌≤◌, List, [], ◌∷◌, ◌++◌, length, get_or, set, Some, false, refl, sym, ap, subst, ◌∙◌, arith}
use Rattle.std.proofs.lemmas.List.{get_or-set_other, length-set}
use Rattle.switchboard.specs.Outgoing.{no_outgoing}
use Rattle.lease_core.specs.declared.entry.Entry.{Entry}
use Rattle.lease_core.specs.declared.entry.Entry.TheVariants.{Lapse}
use Rattle.lease_core.specs.declared.lease.Line.{Line}
use Rattle.lease_core.specs.declared.limits.TheConstants.{MOST_LEASES}
use Rattle.lease_core.specs.Lines.{lines_after, lines_of}
use Rattle.lease_core.specs.Showable.{owner_by}
use Rattle.lease_core.specs.State.{lease_of, owner_of, state_of}
use Rattle.lease_words.specs.Views.{EngineView}
use Rattle.switchboard.specs.Acts.{after_binding, after_dial, after_end, after_lapse, after_message, after_ticking}
use Rattle.switchboard.specs.Book.{Book, Desk, with_outbox}
use Rattle.switchboard.specs.Kept.{Kept}
use Rattle.switchboard.specs.Leases.{HasSameLeases}
use Rattle.switchboard.specs.Rereading.{WentOn}
use Rattle.switchboard.specs.Board.{Board, book_at, connection_at, desk_at, desk_with, no_session, session_at}
use Rattle.switchboard.specs.Happenings.{BindsTo, EndsBound, Happening, Happens, accepts, answers, binds, binds_and_ends, dials, ends_bound, ends_unbound, gives, lapses, prepares, receives, requests, reserves, shows, takes, ticks, times_out, writes}
use Rattle.switchboard.specs.Sound.{IsSound}
use Rattle.lease_desk.specs.Desk.{GoesOn, IsInStep, is_of_leases}
use Rattle.lease_desk.proofs.InStep.{same_or_other}

-- what an event leaves of the leases of a session
pub record Keeps (old new : Book) : Type 0 where
  pub leases : new.leases ≡ old.leases
  pub lines : lines_of new.entries ≡ lines_of old.entries
  pub inbound : length old.inbound ≤ length new.inbound

-- and of those of all
pub record KeepsAll (old new : Board) : Type 0 where
  pub count : length new.sessions ≡ length old.sessions
  pub each : (s : ℕ) → Keeps (book_at old s) (book_at new s)

same_keeps : (old new : Book) → new ≡ old → Keeps old new
same_keeps old new same = subst (Keeps old) (sym same) (record { leases = refl; lines = refl; inbound = omega arith })

further_keeps : (first second third : Book) → Keeps first second → Keeps second third → Keeps first third
further_keeps first second third one two = record {
  leases = two.leases ∙ one.leases;
  lines = two.lines ∙ one.lines;
  inbound = (let a = one.inbound in let b = two.inbound in omega arith);
}

all_further : (first second third : Board) → KeepsAll first second → KeepsAll second third → KeepsAll first third
all_further first second third one two = record {
  count = two.count ∙ one.count;
  each = λ s. further_keeps (book_at first s) (book_at second s) (book_at third s) (one.each s) (two.each s);
}

same_sessions : (old new : Board) → new.sessions ≡ old.sessions → KeepsAll old new
same_sessions old new same = record {
  count = ap (λ (xs : List Kept). length xs) same;
  each = λ s. same_keeps (book_at old s) (book_at new s) (ap (λ (xs : List Kept). (get_or xs s no_session).book) same);
}

one_session : (s : ℕ) (old new : Board) → new.sessions ≡ set old.sessions s (session_at new s) → Keeps (book_at old s) (book_at new s) → KeepsAll old new
one_session s old new changes keeps = record {
  count = ap (λ (xs : List Kept). length xs) changes ∙ length-set old.sessions s (session_at new s);
  each = λ j. elim (same_or_other j s) [
    | inl e ↦ subst (λ n. Keeps (book_at old n) (book_at new n)) (sym e) keeps
    | inr other ↦ same_keeps (book_at old j) (book_at new j)
        (ap (λ (xs : List Kept). (get_or xs j no_session).book) changes ∙ ap (λ (k : Kept). k.book) (get_or-set_other old.sessions s j (session_at new s) no_session other))
  ];
}

-- what the crates below say
pub record Laws : Type 0 where
  pub message : (at : ℕ) (body : List ℕ) (desk : Desk) → HasSameLeases desk.book (after_message at body desk).book
  pub bind : (c at : ℕ) (body : List ℕ) (desk : Desk) → HasSameLeases desk.book (after_binding at c body desk).book
  pub dial : (c at : ℕ) (desk : Desk) → HasSameLeases desk.book (after_dial at c desk).book
  pub tick : (at : ℕ) (desk : Desk) → HasSameLeases desk.book (after_ticking at desk).book
  pub leave : (c : ℕ) (book : Book) → HasSameLeases book (after_end c book)
  pub lapse : (book : Book) → (after_lapse book).leases ≡ book.leases
  pub message_on : (at : ℕ) (body : List ℕ) (desk : Desk) → WentOn desk.book (after_message at body desk).book
  pub bind_on : (c at : ℕ) (body : List ℕ) (desk : Desk) → WentOn desk.book (after_binding at c body desk).book
  pub dial_on : (c at : ℕ) (desk : Desk) → WentOn desk.book (after_dial at c desk).book
  pub tick_on : (at : ℕ) (desk : Desk) → WentOn desk.book (after_ticking at desk).book
  pub leave_on : (c : ℕ) (book : Book) → WentOn book (after_end c book)
  pub lapse_on : (book : Book) → WentOn book (after_lapse book)
  pub lines : (entries : List Entry) (e : Entry) → lines_of (entries ++ e ∷ []) ≡ lines_after (lines_of entries) e

longer : (old more new : List (List ℕ)) → new ≡ old ++ more → length old ≤ length new
longer [] more new is = omega arith
longer (x ∷ old) more [] is = absurd (cc)
longer (x ∷ old) more (y ∷ new) is = let rest = longer old more new (cc) in omega arith

both_keep : (old new : Book) → HasSameLeases old new → WentOn old new → Keeps old new
both_keep old new same on = record { leases = same.leases; lines = same.lines; inbound = longer old.inbound on.more new.inbound on.inbound }

-- a session becomes what an event makes of it
becomes : (old new made : Book) → new ≡ made → Keeps old made → Keeps old new
becomes old new made is keeps = subst (Keeps old) (sym is) keeps

module _ (l : Laws) where
  binding : (s k : ℕ) (body : List ℕ) (at : ℕ) (old new : Board) → BindsTo s k body at old new → KeepsAll old new
  binding s k body at old new is =
      let desk = desk_with old s (Some k) in
      let c = (connection_at old k).number in
      one_session s old new is.plugged.sessions
      (becomes (book_at old s) (book_at new s) (after_binding at c body desk).book (ap (λ (d : Desk). d.book) is.desk) (both_keep (book_at old s) (after_binding at c body desk).book (l.bind c at body desk) (l.bind_on c at body desk)))

  leaving : (s k : ℕ) (old new : Board) (cause : _) → EndsBound s k cause old new → KeepsAll old new
  leaving s k old new cause is =
      let c = (connection_at old k).number in
      one_session s old new is.unplugged.sessions (becomes (book_at old s) (book_at new s) (after_end c (book_at old s)) is.book (both_keep (book_at old s) (after_end c (book_at old s)) (l.leave c (book_at old s)) (l.leave_on c (book_at old s))))

  pub happened : (happening : Happening) (old new : Board) → is_of_leases happening ≡ false → Happens happening old new → KeepsAll old new
  happened (accepts number at) old new apart is = same_sessions old new (ap (λ (b : Board). b.sessions) is.connection)
  happened (dials s number at) old new apart is =
      let desk = with_outbox (book_at old s) no_outgoing in
      one_session s old new is.sessions
      (becomes (book_at old s) (book_at new s) (after_dial at number desk).book (ap (λ (d : Desk). d.book) is.desk) (both_keep (book_at old s) (after_dial at number desk).book (l.dial number at desk) (l.dial_on number at desk)))
  happened (takes k bytes) old new apart is = same_sessions old new (ap (λ (b : Board). b.sessions) is.changes.others)
  happened (gives k) old new apart is = same_sessions old new (ap (λ (b : Board). b.sessions) is.changes.others)
  happened (binds s k body at) old new apart is = binding s k body at old new is.binding
  happened (binds_and_ends s k body at cause) old new apart is = all_further old is.between new (binding s k body at old is.between is.binding) (leaving s k is.between new cause is.leaves)
  happened (receives s k body at) old new apart is =
      let desk = desk_at old s in
      one_session s old new is.goes_on.others.sessions
      (becomes (book_at old s) (book_at new s) (after_message at body desk).book (ap (λ (d : Desk). d.book) is.desk) (both_keep (book_at old s) (after_message at body desk).book (l.message at body desk) (l.message_on at body desk)))
  happened (answers k) old new apart is = same_sessions old new (ap (λ (b : Board). b.sessions) is.others)
  happened (ticks s at) old new apart is =
      let desk = desk_at old s in
      one_session s old new is.goes_on.others.sessions
      (becomes (book_at old s) (book_at new s) (after_ticking at desk).book (ap (λ (d : Desk). d.book) is.desk) (both_keep (book_at old s) (after_ticking at desk).book (l.tick at desk) (l.tick_on at desk)))
  happened (shows s w bodies at until) old new apart is = absurd (cc)
  happened (times_out s w bodies at until) old new apart is = absurd (cc)
  happened (requests s library nr from) old new apart is = absurd (cc)
  happened (lapses s) old new apart is =
      let book = book_at old s in
      one_session s old new (ap (λ (b : Board). b.sessions) is.others)
      (becomes book (book_at new s) (after_lapse book) is.becomes (record { leases = l.lapse book; lines = l.lines book.entries (Lapse (lease_of (state_of book.entries))); inbound = longer book.inbound (l.lapse_on book).more (after_lapse book).inbound (l.lapse_on book).inbound }))
  happened (ends_unbound k cause) old new apart is = same_sessions old new (ap (λ (b : Board). b.sessions) is.changes.others)
  happened (ends_bound s k cause) old new apart is = leaving s k old new cause is
  happened (prepares s k) old new apart is = same_sessions old new (ap (λ (b : Board). b.sessions) is.changes.others)
  happened (writes k n) old new apart is = same_sessions old new (ap (λ (b : Board). b.sessions) is.changes.others)
  happened (reserves s) old new apart is = one_session s old new is.goes_on.others.sessions (same_keeps (book_at old s) (book_at new s) (ap (λ (d : Desk). d.book) is.desk))

-- so sessions and seat stay in step
pub keeps_step : (old new : Board) (seat : EngineView) → KeepsAll old new → IsSound new → IsInStep old seat → IsInStep new seat
keeps_step old new seat keeps sound was = record {
  sound = sound;
  agree = λ s small.
      let agrees = was.agree s (subst (λ n. s < n) keeps.count small) in
      let kept = keeps.each s in
      record {
        lines = kept.lines ∙ agrees.lines;
        taken = agrees.taken;
        published = (let more = kept.inbound in let less = agrees.published in omega arith);
      };
  few = λ s small. subst (λ n. n ≤ MOST_LEASES) (sym (keeps.each s).leases) (was.few s (subst (λ n. s < n) keeps.count small));
}

pub keeps_on : ((entries : List Entry) → owner_by (lines_of entries) ≡ owner_of (state_of entries)) → (old new : Board) → KeepsAll old new → (s : ℕ) → GoesOn old new s
keeps_on tell old new keeps s =
    let kept = keeps.each s in
    record {
      inbound = kept.inbound;
      lease = λ some. (sym (tell (book_at new s).entries) ∙ ap owner_by kept.lines ∙ tell (book_at old s).entries, ap (λ (lines : List Line). length lines) kept.lines);
    }
