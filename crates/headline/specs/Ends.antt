-- Why connections end: by a message that came on them, or from outside.
use Rattle.std.specs.Prelude.{◌≡◌, Bool, true, false, [], Option, None, Some}
use Rattle.std.specs.List.{All}
use Rattle.connection_core.specs.Connection.{ConnectionState}
use Rattle.fix_frame.specs.Cut.{cut}
use Rattle.fix_frame.specs.declared.layout.TheConstants.{LONGEST_FRAME}
use Rattle.session_core.specs.declared.causes.Cause.{Cause}
use Rattle.session_core.specs.declared.causes.Cause.TheVariants.{BadLogon, CompId, Duplicate, End, LoggedOut, LowNumber, NoNumber, NoSuchSession, NotLogon, ReadFault, Silent, SlowConsumer, WriteFault}
use Rattle.switchboard.specs.Board.{Board}

-- the wire ended the connection, or the clock, or that it took too little
abbrev pub is_from_outside : Cause → Bool
is_from_outside End = true
is_from_outside ReadFault = true
is_from_outside WriteFault = true
is_from_outside (Silent since) = true
is_from_outside (SlowConsumer waiting) = true
is_from_outside NotLogon = false
is_from_outside NoSuchSession = false
is_from_outside (Duplicate connection) = false
is_from_outside (BadLogon tag) = false
is_from_outside NoNumber = false
is_from_outside (LowNumber expected got) = false
is_from_outside (CompId tag) = false
is_from_outside LoggedOut = false

-- no message ended a connection: it stands, or ended from outside
abbrev pub StandsOrEndedFromOutside : Option Cause → Type 0
StandsOrEndedFromOutside None = Unit {0}
StandsOrEndedFromOutside (Some cause) = is_from_outside cause ≡ true

-- no whole piece is held of it
abbrev pub HoldsNone : ConnectionState → Type 0
HoldsNone c = (cut LONGEST_FRAME c.held).pieces ≡ []

-- where it ended from outside, none is
abbrev pub EndedWhole : ConnectionState → Type 0
EndedWhole c = (cause : Cause) → c.cause ≡ Some cause → is_from_outside cause ≡ true → HoldsNone c

-- and so it is of each
abbrev pub AllEndedWhole : Board → Type 0
AllEndedWhole board = All EndedWhole board.connections
