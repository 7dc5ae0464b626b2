-- What is so of each happening is so of those that answer a Logon, end a session's connection or let a reservation lapse, where they come at all.
use Rattle.std.proofs.Common.{ℕ, Bool, true, false, [], ◌∷◌, Option, None, Some}
use Rattle.std.proofs.lemmas.List.Elements.{All-cons, All-nil}
use Rattle.std.specs.List.{All}
use Rattle.std.specs.Prelude.{if◌then◌else◌, nat_lt}
use Rattle.session_core.specs.declared.causes.Cause.{Cause}
use Rattle.session_desk.specs.Steps.{answering, ending, is_answer, lapsing, parting}
use Rattle.switchboard.specs.Happenings.{Happening, answers, ends_bound, ends_unbound, lapses}

module _ (Is : Happening → Type 0) where
  pub one_is : (happening : Happening) → Is happening → All Is (happening ∷ [])
  one_is happening is = All-cons Is happening [] is (All-nil Is)

  answered : (does : Bool) (k : ℕ) → Is (answers k) → All Is (if does then answers k ∷ [] else [])
  answered true k is = one_is (answers k) is
  answered false k is = All-nil Is

  pub answering_is : (k : ℕ) (end : Option Cause) → Is (answers k) → All Is (answering k end)
  answering_is k end is = answered (is_answer end) k is

  pub ending_is : (s : ℕ) (place : Option ℕ) (end : Option Cause) → ((k : ℕ) (cause : Cause) → Is (ends_bound s k cause)) → All Is (ending s place end)
  ending_is s None None is = All-nil Is
  ending_is s None (Some cause) is = All-nil Is
  ending_is s (Some k) None is = All-nil Is
  ending_is s (Some k) (Some cause) is = one_is (ends_bound s k cause) (is k cause)

  lapsed : (stays : Bool) (s : ℕ) → Is (lapses s) → All Is (if stays then [] else lapses s ∷ [])
  lapsed true s is = All-nil Is
  lapsed false s is = one_is (lapses s) is

  pub lapsing_is : (s : ℕ) (reserved : Option (ℕ × ℕ)) (now : ℕ) → Is (lapses s) → All Is (lapsing s reserved now)
  lapsing_is s None now is = All-nil Is
  lapsing_is s (Some reserved) now is = lapsed (nat_lt now reserved.1) s is

  pub parting_is : (session : Option ℕ) (k : ℕ) (cause : Cause) → Is (ends_unbound k cause) → ((s : ℕ) → Is (ends_bound s k cause)) → Is (parting session k cause)
  parting_is None k cause unbound bound = unbound
  parting_is (Some s) k cause unbound bound = bound s
