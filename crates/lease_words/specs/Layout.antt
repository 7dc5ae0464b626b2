-- Where the words and slots of a table lie.
-- Word 0 stays 0. Each session has a stretch of 32 words, of which its lease word is the first, and from the ninth on come the words that
-- the engine alone writes: the published count and the taken count of each library. Each library has a stretch for its beats.
-- So no two words that different threads write stand within 64 bytes.
use Rattle.std.specs.Prelude.{ℕ, ◌+◌, ◌-◌, ◌*◌, ◌/◌, ◌%◌}
use Rattle.lease_words.specs.declared.layout.TheConstants.{LANE_SLOTS}

abbrev pub lease_word : ℕ → ℕ
lease_word s = 32 * s + 32

abbrev pub published_word : ℕ → ℕ
published_word s = 32 * s + 40

abbrev pub taken_word : ℕ → ℕ → ℕ
taken_word s library = 32 * s + 40 + library

abbrev pub beat_word : ℕ → ℕ → ℕ
beat_word sessions library = 32 * sessions + 32 * library

abbrev pub word_count : ℕ → ℕ → ℕ
word_count sessions libraries = 32 * sessions + 32 * libraries + 32

-- whose word it is
abbrev pub session_at : ℕ → ℕ
session_at word = word / 32 - 1

abbrev pub lane_at : ℕ → ℕ
lane_at word = word % 32 - 8

abbrev pub beating_at : ℕ → ℕ → ℕ
beating_at sessions word = word / 32 - sessions

-- A lane has LANE_SLOTS slots, of which as many are in use as it is deep. Libraries are numbered from 1.
abbrev pub lane_of : ℕ → ℕ → ℕ → ℕ
lane_of libraries s library = s * libraries + (library - 1)

-- where the item that was sent as number k, counted from 0, lies while it isn't taken
abbrev pub slot_of : ℕ → ℕ → ℕ → ℕ → ℕ
slot_of libraries s library k = lane_of libraries s library * LANE_SLOTS + k % LANE_SLOTS

abbrev pub slot_count : ℕ → ℕ → ℕ
slot_count sessions libraries = sessions * libraries * LANE_SLOTS
