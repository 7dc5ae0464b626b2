-- What a release, and a release to an heir, come to.
use Rattle.std.specs.Prelude.{◌≡◌, ℕ, ◌<◌, ◌⊎◌}
use Rattle.lease_core.specs.declared.word.Word.{Word}
use Rattle.lease_words.specs.Sees.{after_release, after_loss}
use Rattle.lease_words.specs.Answers.{released_word, IsLoss}
use Rattle.library_api.specs.declared.refusal.ReleaseRefusal.{ReleaseRefusal}
use Rattle.library_api.specs.declared.refusal.ReleaseRefusal.TheVariants as releases
use Rattle.library_api.specs.declared.refusal.HandRefusal.{HandRefusal}
use Rattle.library_api.specs.declared.refusal.HandRefusal.TheVariants as hands
use Rattle.library_api.specs.declared.waited.WaitKind.TheVariants.{Free}
use Rattle.library_api.specs.Known.{Known, held, sends_made, session_at, without_reading, after_waiting}
use Rattle.library_api.specs.Sends.{with_session_known}

-- The session was given back, to an heir or to nobody, which is 0. The word names the owner: the heir, or the library itself.
abbrev pub after_giving_back : Known → ℕ → ℕ → ℕ → Known
after_giving_back k s heir owner =
    after_waiting Free (without_reading (with_session_known k s (after_release (session_at k s) heir (released_word (held k s) owner (sends_made k s)))) s)

-- the lease was lost by this word
abbrev pub after_losing : Known → ℕ → Word → Known
after_losing k s seen = after_waiting Free (without_reading (with_session_known k s (after_loss (session_at k s) seen)) s)

abbrev pub after_release_refused : Known → ℕ → ReleaseRefusal → Known
after_release_refused k s releases.NotHeld = after_waiting Free k
after_release_refused k s (releases.Lost seen) = after_losing k s seen

abbrev pub after_hand_refused : Known → ℕ → HandRefusal → Known
after_hand_refused k s hands.NotHeld = after_waiting Free k
after_hand_refused k s (hands.BadHeir heir) = after_waiting Free k
after_hand_refused k s (hands.Lost seen) = after_losing k s seen

abbrev pub IsReleaseNotHeld : ReleaseRefusal → Type 0
IsReleaseNotHeld releases.NotHeld = Unit {0}
IsReleaseNotHeld (releases.Lost seen) = ⊥

abbrev pub IsHandNotHeld : HandRefusal → Type 0
IsHandNotHeld hands.NotHeld = Unit {0}
IsHandNotHeld (hands.BadHeir heir) = ⊥
IsHandNotHeld (hands.Lost seen) = ⊥

abbrev pub IsBadHeir : HandRefusal → Type 0
IsBadHeir hands.NotHeld = ⊥
IsBadHeir (hands.BadHeir heir) = Unit {0}
IsBadHeir (hands.Lost seen) = ⊥

-- there is no such library beside this one
abbrev pub IsNoHeir : Known → ℕ → Type 0
IsNoHeir k heir = (heir ≡ 0) ⊎ (k.ends.seat.table.shape.libraries < heir) ⊎ (heir ≡ k.ends.seat.knows.number)

-- what a refusal carries
abbrev pub CarriesRelease : Known → ℕ → ReleaseRefusal → Type 0
CarriesRelease k s releases.NotHeld = Unit {0}
CarriesRelease k s (releases.Lost seen) = IsLoss (session_at k s) seen

abbrev pub CarriesHand : Known → ℕ → ℕ → HandRefusal → Type 0
CarriesHand k s heir hands.NotHeld = Unit {0}
CarriesHand k s heir (hands.BadHeir named) = named ≡ heir
CarriesHand k s heir (hands.Lost seen) = IsLoss (session_at k s) seen
