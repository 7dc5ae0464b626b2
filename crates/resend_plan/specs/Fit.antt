-- What makes the text of an item the body of a frame, and how long it is at most.
use Rattle.std.specs.Prelude.{ℕ, ◌+◌, ◌^◌, ◌<◌, ◌≤◌, List, length, IsSome}
use Rattle.fix_frame.specs.Frame.{IsBody}
use Rattle.message_log.specs.declared.entry.OutEntry.{OutEntry}
use Rattle.message_log.specs.Series.{entry_at}
use Rattle.fix_fields.specs.declared.limits.TheConstants.{LONGEST_APPLICATION_BODY, LONGEST_NAME}
use Rattle.resend_plan.specs.declared.item.TheConstants.{LONGEST_HEADER, LONGEST_GAP_FILL}
use Rattle.resend_plan.specs.declared.item.Names2.{Names2}
use Rattle.resend_plan.specs.declared.item.WireItem.{WireItem}
use Rattle.resend_plan.specs.declared.item.WireItem.TheVariants.{New, Again, GapFill}
use Rattle.resend_plan.specs.Wire.{entry_of}

-- the item is a gap fill, or its entry's body is the body of a frame
abbrev pub HasFrameBody : List (List OutEntry) → WireItem → Type 0
HasFrameBody log (New series number) = IsBody (entry_of log series number).body
HasFrameBody log (Again series number at) = IsBody (entry_of log series number).body
HasFrameBody log (GapFill series number to at) = Unit {0}

-- the most bytes that an item has beside its header: those of its entry's body, or a gap fill's own
abbrev pub longest_content : List (List OutEntry) → WireItem → ℕ
longest_content log (New series number) = length (entry_of log series number).body
longest_content log (Again series number at) = length (entry_of log series number).body
longest_content log (GapFill series number to at) = LONGEST_GAP_FILL

-- the most bytes of an item's text
abbrev pub longest_text : Names2 → List (List OutEntry) → WireItem → ℕ
longest_text names log item = LONGEST_HEADER + length names.us + length names.them + longest_content log item

-- the numbers are below 2^64, as in every item that the code can hold
abbrev pub HasNumbersInRange : WireItem → Type 0
HasNumbersInRange (New series number) = number < 2 ^ 64
HasNumbersInRange (Again series number at) = number < 2 ^ 64
HasNumbersInRange (GapFill series number to at) = (number < 2 ^ 64) × (to < 2 ^ 64)

-- both names are within the limit
pub record AreShort (names : Names2) : Type 0 where
  pub us : length names.us ≤ LONGEST_NAME
  pub them : length names.them ≤ LONGEST_NAME

-- the body of a frame, within the limit of logged bodies
pub record IsFit (body : List ℕ) : Type 0 where
  pub is_body : IsBody body
  pub short : length body ≤ LONGEST_APPLICATION_BODY

-- each entry of the log has such a body
abbrev pub HasFitBodies : List (List OutEntry) → Type 0
HasFitBodies log = (series number : ℕ) → IsSome (entry_at log series number) → IsFit (entry_of log series number).body
