-- The words of the grammar, and how a line is cut into words.
use Rattle.std.specs.Prelude.{ℕ, ◌^◌, Bool, not, ◌&&◌, ◌||◌, ◌==◌, nat_le, nat_lt, if◌then◌else◌, List, [], ◌∷◌, length, Option, Some, None, codes}
use Rattle.std.specs.List.{list_all}
use Rattle.std.specs.Str.{all_ascii_digits, bytes_eq}
use Rattle.std.specs.Str.Parse.{digits_value}
use Rattle.fix_fields.specs.declared.limits.TheConstants.{LONGEST_NAME}
use Rattle.script_text.specs.declared.lines.Opening.{Opening}
use Rattle.script_text.specs.declared.lines.Opening.TheVariants as opening
use Rattle.script_text.specs.declared.lines.ConfigWord.{ConfigWord}
use Rattle.script_text.specs.declared.lines.ConfigWord.TheVariants as config_word
use Rattle.script_text.specs.declared.lines.LimitWord.{LimitWord}
use Rattle.script_text.specs.declared.lines.LimitWord.TheVariants as limit_word
use Rattle.script_text.specs.declared.lines.EventWord.{EventWord}
use Rattle.script_text.specs.declared.lines.EventWord.TheVariants as event_word
use Rattle.script_text.specs.declared.lines.LibWord.{LibWord}
use Rattle.script_text.specs.declared.lines.LibWord.TheVariants as lib_word

-- the bytes up to the first space
unfoldable pub word_in : List ℕ → List ℕ
word_in [] = []
word_in (b ∷ bytes) = if b == 32 then [] else b ∷ word_in bytes

-- what stands behind the first space, if there is one
unfoldable pub behind_word : List ℕ → Option (List ℕ)
behind_word [] = None
behind_word (b ∷ bytes) = if b == 32 then Some bytes else behind_word bytes

unfoldable pub config_word_of : List ℕ → Option ConfigWord
config_word_of word =
    if bytes_eq word (codes "session") then Some config_word.Session
    else (if bytes_eq word (codes "dial") then Some config_word.Dial
    else (if bytes_eq word (codes "libraries") then Some config_word.Libraries
    else (if bytes_eq word (codes "connections") then Some config_word.Connections
    else (if bytes_eq word (codes "dials") then Some config_word.Dials
    else (if bytes_eq word (codes "option") then Some config_word.Limit else None)))))

unfoldable pub limit_word_of : List ℕ → Option LimitWord
limit_word_of word =
    if bytes_eq word (codes "lane") then Some limit_word.Lane
    else (if bytes_eq word (codes "leases") then Some limit_word.Leases
    else (if bytes_eq word (codes "sends") then Some limit_word.Sends
    else (if bytes_eq word (codes "asks") then Some limit_word.Asks
    else (if bytes_eq word (codes "timeout") then Some limit_word.Timeout
    else (if bytes_eq word (codes "hold") then Some limit_word.Hold else None)))))

unfoldable pub event_word_of : List ℕ → Option EventWord
event_word_of word =
    if bytes_eq word (codes "at") then Some event_word.At
    else (if bytes_eq word (codes "connect") then Some event_word.Connect
    else (if bytes_eq word (codes "take") then Some event_word.Take
    else (if bytes_eq word (codes "bytes") then Some event_word.Bytes
    else (if bytes_eq word (codes "frame") then Some event_word.Frame
    else (if bytes_eq word (codes "finish") then Some event_word.Finish
    else (if bytes_eq word (codes "failread") then Some event_word.FailRead
    else (if bytes_eq word (codes "failwrite") then Some event_word.FailWrite
    else (if bytes_eq word (codes "block") then Some event_word.Block
    else (if bytes_eq word (codes "unblock") then Some event_word.Unblock
    else (if bytes_eq word (codes "turn") then Some event_word.Turn else None))))))))))

unfoldable pub lib_word_of : List ℕ → Option LibWord
lib_word_of word =
    if bytes_eq word (codes "request") then Some lib_word.Request
    else (if bytes_eq word (codes "poll") then Some lib_word.Poll
    else (if bytes_eq word (codes "send") then Some lib_word.Send
    else (if bytes_eq word (codes "release") then Some lib_word.Release
    else (if bytes_eq word (codes "beat") then Some lib_word.Beat
    else (if bytes_eq word (codes "hand") then Some lib_word.Hand
    else (if bytes_eq word (codes "answer") then Some lib_word.Answer
    else (if bytes_eq word (codes "read") then Some lib_word.Read else None)))))))

abbrev opening_among : List ℕ → Option ConfigWord → Option EventWord → Option Opening
opening_among word (Some found) event = Some (opening.Configures found)
opening_among word None (Some found) = Some (opening.Replays found)
opening_among word None None = if bytes_eq word (codes "lib") then Some opening.Library else None

-- what the first word of a line makes it, if it is a word of the grammar
unfoldable pub opening_of : List ℕ → Option Opening
opening_of word = opening_among word (config_word_of word) (event_word_of word)

-- one to twenty digits, with a value that 64 bits hold
unfoldable pub natural_of : List ℕ → Option ℕ
natural_of word =
    if nat_le 1 (length word) && nat_le (length word) 20 && all_ascii_digits word
    && nat_lt (digits_value 10 word) (2 ^ 64)
    then Some (digits_value 10 word) else None

-- printable, and none of `|`, `\`, `=` and the space
abbrev pub is_name_byte : ℕ → Bool
is_name_byte b = nat_le 33 b && nat_le b 126 && not ((b == 124) || (b == 92) || (b == 61))

-- 1 to LONGEST_NAME such bytes
unfoldable pub is_name : List ℕ → Bool
is_name word = nat_le 1 (length word) && nat_le (length word) LONGEST_NAME && list_all is_name_byte word
