-- The lines of a session's journal: its entries, and the holdings that follow from them.
use Rattle.std.specs.Prelude.{ℕ, ◌==◌, if◌then◌else◌, List, [], ◌∷◌, decimal, codes}
use Rattle.lease_core.specs.declared.entry.Entry.{Entry}
use Rattle.lease_core.specs.declared.entry.Entry.TheVariants.{Arrive, Admin, Bind, Plan, Leave, Reset, Granted, Refused, Send, Release, Timeout, Hold, Lapse}
use Rattle.lease_core.specs.declared.entry.Why.{Why}
use Rattle.lease_core.specs.declared.entry.Why.TheVariants.{UnknownSession, OtherOwner, Reserved, LeasesSpent, MissingMessages}
use Rattle.lease_core.specs.declared.entry.Holding.{Holding}
use Rattle.run_report.specs.Lines.{stamp_word}

-- why a request was refused
unfoldable pub why_words : Why → List (List ℕ)
why_words (UnknownSession s) = codes "unknown-session" ∷ decimal s ∷ []
why_words (OtherOwner owner lease) = codes "other-owner" ∷ decimal owner ∷ decimal lease ∷ []
why_words (Reserved library until) = codes "reserved" ∷ decimal library ∷ stamp_word until ∷ []
why_words (LeasesSpent lease) = codes "leases-spent" ∷ decimal lease ∷ []
why_words (MissingMessages asked logged) = codes "missing-messages" ∷ decimal asked ∷ decimal logged ∷ []

-- A lease that was given, or refused. In a journal the two numbers are the library and its request, at a library the request and
-- the session.
unfoldable pub granted_words : ℕ → ℕ → ℕ → ℕ → ℕ → List (List ℕ)
granted_words first second lease from start =
    codes "granted" ∷ decimal first ∷ decimal second ∷ codes "lease" ∷ decimal lease ∷ codes "from" ∷ decimal from ∷ codes "start" ∷ decimal start ∷ []

unfoldable pub refused_words : ℕ → ℕ → Why → List (List ℕ)
refused_words first second why = codes "refused" ∷ decimal first ∷ decimal second ∷ why_words why

-- how a lease was given back: to the engine, or to an heir, which is named
unfoldable pub release_words : ℕ → ℕ → ℕ → ℕ → List (List ℕ)
release_words lease library count heir =
    if heir == 0 then codes "release" ∷ decimal lease ∷ decimal library ∷ decimal count ∷ []
    else codes "hand" ∷ decimal lease ∷ decimal library ∷ decimal count ∷ decimal heir ∷ []

unfoldable pub entry_words : Entry → List (List ℕ)
entry_words (Arrive pos) = codes "arrive" ∷ decimal pos ∷ []
entry_words (Admin number) = codes "admin" ∷ decimal number ∷ []
entry_words (Bind c) = codes "bind" ∷ decimal c ∷ []
entry_words (Plan begin last at) = codes "plan" ∷ decimal begin ∷ decimal last ∷ stamp_word at ∷ []
entry_words (Leave c) = codes "leave" ∷ decimal c ∷ []
entry_words (Reset series) = codes "reset" ∷ decimal series ∷ []
entry_words (Granted library nr lease from start) = granted_words library nr lease from start
entry_words (Refused library nr why) = refused_words library nr why
entry_words (Send lease library ordinal number) = codes "send" ∷ decimal lease ∷ decimal library ∷ decimal ordinal ∷ decimal number ∷ []
entry_words (Release lease library count heir) = release_words lease library count heir
entry_words (Timeout lease library count) = codes "timeout" ∷ decimal lease ∷ decimal library ∷ decimal count ∷ []
entry_words (Hold lease until) = codes "hold" ∷ decimal lease ∷ stamp_word until ∷ []
entry_words (Lapse lease) = codes "lapse" ∷ decimal lease ∷ []

unfoldable pub holding_words : Holding → List (List ℕ)
holding_words h =
    codes "holding" ∷ decimal h.library ∷ decimal h.lease ∷ codes "from" ∷ decimal h.from ∷ codes "start" ∷ decimal h.start ∷ codes "end" ∷ decimal h.end ∷ codes "sends" ∷ decimal h.sends ∷ []
