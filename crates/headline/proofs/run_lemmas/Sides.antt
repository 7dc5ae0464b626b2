-- The engine's sides of table and rings go on, step by step.
use Rattle.std.proofs.Common.{◌≡◌, inl, inr, ℕ, ◌-◌, List, [], ◌∷◌, ◌++◌, length, Some, refl, ap, subst, sym, ◌∙◌}
use Rattle.std.proofs.lemmas.Bool.{cases_eq}
use Rattle.std.proofs.lemmas.List.{append-nil, append_assoc, length-set}
use Rattle.std.proofs.lemmas.Option.{same_Some, slice_get_within}
use Rattle.std.specs.Prelude.{slice_get, slice_set}
use Rattle.lease_desk.specs.Desk.{TakesBackFrom, seat_after_reply}
use Rattle.lease_desk.specs.declared.desk.LeaseDesk.{LeaseDesk}
use Rattle.lease_core.specs.declared.messages.Notice.{Notice}
use Rattle.lease_core.specs.declared.messages.Reply.{Reply}
use Rattle.lease_core.specs.declared.messages.Reply.TheVariants as reply
use Rattle.lease_words.specs.Views.{EngineView}
use Rattle.library_clock.specs.Watched.{Watched}
use Rattle.library_desk.specs.Serving.{Answers, Expires, Looks, PumpsTo, RepliesTo, Serves, TellsTo}
use Rattle.library_desk.specs.declared.desk.LibraryDesk.{LibraryDesk}
use Rattle.library_desk.specs.declared.ends.EngineEnds.{EngineEnds}
use Rattle.library_desk.specs.declared.serving.LibTurn.{LibTurn}
use Rattle.library_desk.specs.declared.serving.LibTurn.TheVariants as turns
use Rattle.headline.specs.runs.Sides.{Begins, EndsGoOn, SidesGoOn}
use Rattle.headline.proofs.run_lemmas.Places.{get_set_other, get_set_same}
use Rattle.headline.proofs.Walking.{each_in_turn}

pub begins_itself : {T : Type 0} (xs : List T) → Begins xs xs
begins_itself xs = record { rest = []; is = append-nil xs }

pub begins_further : {T : Type 0} (xs ys zs : List T) → Begins xs ys → Begins ys zs → Begins xs zs
begins_further xs ys zs one two = record {
  rest = one.rest ++ two.rest;
  is = sym (append_assoc xs one.rest two.rest) ∙ (ap (λ front. front ++ two.rest) one.is ∙ two.is);
}

pub begins_same : {T : Type 0} (xs ys : List T) → ys ≡ xs → Begins xs ys
begins_same xs ys same = subst (λ zs. Begins xs zs) (sym same) (begins_itself xs)

begins_more : {T : Type 0} (xs more ys : List T) → ys ≡ xs ++ more → Begins xs ys
begins_more xs more ys are = record { rest = more; is = sym are }

pub goes_itself : (d : LibraryDesk) → SidesGoOn d d
goes_itself d = record {
  table = refl;
  count = refl;
  each = λ place ends found. record { ends = ends; found = found; pushed = begins_itself ends.tail.pushed; popped = begins_itself ends.head.popped };
}

pub goes_further : (first second third : LibraryDesk) → SidesGoOn first second → SidesGoOn second third → SidesGoOn first third
goes_further first second third one two = record {
  table = two.table ∙ one.table;
  count = two.count ∙ one.count;
  each = λ place ends found.
      let here = one.each place ends found in
      let there = two.each place here.ends here.found in
      record {
        ends = there.ends;
        found = there.found;
        pushed = begins_further ends.tail.pushed here.ends.tail.pushed there.ends.tail.pushed here.pushed there.pushed;
        popped = begins_further ends.head.popped here.ends.head.popped there.ends.head.popped here.popped there.popped;
      };
}

abbrev pub SameTable : LeaseDesk → LeaseDesk → Type 0
SameTable old new = new.seat.table ≡ old.seat.table

-- the desk of leases alone changes, whose seat stays at the table
pub desk_alone : (old new : LibraryDesk) → SameTable old.desk new.desk → new.ends ≡ old.ends → SidesGoOn old new
desk_alone old new table same =
    let was = goes_itself old in
    record {
      table = table;
      count = ap (λ ends. length ends.items) same;
      each = λ place ends found. subst (λ vec. EndsGoOn vec.items place ends) (sym same) (was.each place ends found);
    }

same_desk : (old new : LibraryDesk) → new ≡ old → SidesGoOn old new
same_desk old new same = subst (SidesGoOn old) (sym same) (goes_itself old)

-- the ends at one place change, and go on
pub ends_change : (old new : LibraryDesk) (place : ℕ) (before after : EngineEnds) → new.desk.seat.table ≡ old.desk.seat.table → slice_get old.ends.items place ≡ Some before → new.ends.items ≡ slice_set old.ends.items place after
    → Begins before.tail.pushed after.tail.pushed → Begins before.head.popped after.head.popped → SidesGoOn old new
ends_change old new place before after table found are pushed popped = record {
  table = table;
  count = ap length are ∙ length-set old.ends.items place after;
  each = λ j ends has. subst (λ all. EndsGoOn all j ends) (sym are) (elim (cases_eq j place) [
    | inl same ↦ (
        let here : before ≡ ends = same_Some before ends (sym found ∙ subst (λ k. slice_get old.ends.items k ≡ Some ends) same has) in
        record {
          ends = after;
          found = subst (λ k. slice_get (slice_set old.ends.items place after) k ≡ Some after) (sym same) (get_set_same old.ends.items place after (slice_get_within old.ends.items place before found));
          pushed = subst (λ (e : EngineEnds). Begins e.tail.pushed after.tail.pushed) here pushed;
          popped = subst (λ (e : EngineEnds). Begins e.head.popped after.head.popped) here popped;
        })
    | inr other ↦ record {
      ends = ends;
      found = get_set_other old.ends.items place j after other ∙ has;
      pushed = begins_itself ends.tail.pushed;
      popped = begins_itself ends.head.popped;
    }
  ]);
}

-- the engine looked at the ends of a library
looked : (old new : LibraryDesk) (place : ℕ) (before after : EngineEnds) → new ≡ record old { ends = new.ends } → slice_get old.ends.items place ≡ Some before → new.ends.items ≡ slice_set old.ends.items place after
    → Looks before after → Begins before.head.popped after.head.popped → SidesGoOn old new
looked old new place before after rest found are looks popped =
    ends_change old new place before after (ap (λ (d : LibraryDesk). d.desk.seat.table) rest) found are (begins_same before.tail.pushed after.tail.pushed looks.pushed) popped

told : (library : ℕ) (notice : Notice) (old new : LibraryDesk) → TellsTo library notice old new → SidesGoOn old new
told library notice old new is =
    ends_change old new (library - 1) is.before is.after (ap (λ (d : LibraryDesk). d.desk.seat.table) is.rest) is.found is.ends
    (begins_more is.before.tail.pushed (notice ∷ []) is.after.tail.pushed is.tells.pushed) (begins_same is.before.head.popped is.after.head.popped (ap (λ h. h.popped) is.tells.head))

pumped : (library s : ℕ) (old new : LibraryDesk) → PumpsTo library s old new → SidesGoOn old new
pumped library s old new pumps = elim pumps [
  | inl some ↦ (
      let is = some.1.0 in
      ends_change old new (library - 1) is.before is.after (ap (λ (d : LibraryDesk). d.desk.seat.table) is.rest) is.found is.ends
      (begins_more is.before.tail.pushed _ is.after.tail.pushed is.pushed) (begins_same is.before.head.popped is.after.head.popped (ap (λ h. h.popped) is.head)))
  | inr none ↦ same_desk old new none.1
]

-- a reply is no new table
table_after_reply : (s library : ℕ) (answer : Reply) (seat : EngineView) → (seat_after_reply s library answer seat).table ≡ seat.table
table_after_reply s library (reply.Granted lease start) seat = refl
table_after_reply s library (reply.Refused why) seat = refl

replied : (library nr s from : ℕ) (old new : LibraryDesk) (notice : Notice) → RepliesTo library nr s from old new notice → SidesGoOn old new
replied library nr s from old new notice replies = elim replies [
  | inl known ↦ (
      let is = known.1 in
      desk_alone old new (ap (λ (v : EngineView). v.table) is.seat ∙ table_after_reply s library is.reply old.desk.seat) (ap (λ (d : LibraryDesk). d.ends) is.rest))
  | inr stray ↦ desk_alone old new (ap (λ (d : LibraryDesk). d.desk.seat.table) stray.1.rest) (ap (λ (d : LibraryDesk). d.ends) stray.1.rest)
]

answered : (library : ℕ) (old new : LibraryDesk) (turn : LibTurn) → Answers library old new turn → SidesGoOn old new
answered library old new (turns.NoRoom pushed taken) is =
    looked old new (library - 1) is.before is.after is.rest is.found is.ends is.looks (begins_same is.before.head.popped is.after.head.popped (ap (λ h. h.popped) is.finds.3))
answered library old new turns.NoCommand is =
    looked old new (library - 1) is.before is.after is.rest is.found is.ends is.looks (begins_same is.before.head.popped is.after.head.popped is.finds.1)
answered library old new (turns.Answered nr) is =
    let found = is.looks in
    goes_further old is.popped new
    (looked old is.popped (library - 1) found.before found.after found.rest found.found found.ends found.looks (begins_more found.before.head.popped _ found.after.head.popped found.finds.1))
    (goes_further is.popped is.replied new (replied library nr is.s is.from is.popped is.replied is.notice is.replies) (told library is.notice is.replied new is.tells))
answered library old new (turns.Ended finished) is =
    looked old new (library - 1) is.before is.after is.rest is.found is.ends is.looks (begins_more is.before.head.popped _ is.after.head.popped is.finds.1)

one_taken_back : (library at until s : ℕ) (old new : LeaseDesk) → TakesBackFrom library at until s old new → SameTable old new
one_taken_back library at until s old new takes = elim takes [
  | inl has ↦ ap (λ (v : EngineView). v.table) has.1.seat
  | inr other ↦ ap (λ (d : LeaseDesk). d.seat.table) other.1
]

expired : (library at until : ℕ) (watch : Watched) (beat : ℕ) (old new : LibraryDesk) → Expires library at until watch beat old new → SidesGoOn old new
expired library at until watch beat old new expires = elim expires [
  | inl silent ↦ (
      let is = silent.1 in
      desk_alone old new
      (each_in_turn (TakesBackFrom library at until) SameTable (λ d. refl) (λ a b c one two. two ∙ one) (one_taken_back library at until) (length old.desk.board.sessions) old.desk new.desk is.taken_back)
      (ap (λ (d : LibraryDesk). d.ends) is.rest))
  | inr same ↦ same_desk old new same.1
]

pub served : (library at until : ℕ) (old new : LibraryDesk) (turn : LibTurn) → Serves library at until old new turn → SidesGoOn old new
served library at until old new turn is =
    goes_further old is.heard new (desk_alone old is.heard (ap (λ (v : EngineView). v.table) is.hears.seat) (ap (λ (d : LibraryDesk). d.ends) is.hears.rest))
    (goes_further is.heard is.expired new (expired library at until old.watch is.beat is.heard is.expired is.expires)
    (goes_further is.expired is.answered new (answered library is.expired is.answered turn is.answers)
    (each_in_turn (PumpsTo library) SidesGoOn goes_itself goes_further (pumped library) (length is.answered.desk.board.sessions) is.answered new is.pumps)))
