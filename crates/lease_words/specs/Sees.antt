-- What a seat knows after each of its steps.
use Rattle.std.specs.Prelude.{ℕ, ◌+◌, List, [], ◌∷◌, ◌++◌}
use Rattle.lease_core.specs.declared.lease.Ending.{Ending}
use Rattle.lease_core.specs.declared.lease.Ending.TheVariants.{GivenBack}
use Rattle.lease_core.specs.declared.word.Word.{Word}
use Rattle.lease_core.specs.Lines.{raised, taken_back, word_of, granted_line}
use Rattle.lease_words.specs.declared.item.Item.{Item}
use Rattle.lease_words.specs.declared.view.EngineSession.{EngineSession}
use Rattle.lease_words.specs.declared.view.EngineKnows.{EngineKnows}
use Rattle.lease_words.specs.declared.view.Heard.{Heard}
use Rattle.lease_words.specs.declared.view.LibrarySession.{LibrarySession}
use Rattle.lease_words.specs.declared.view.LibraryKnows.{LibraryKnows}
use Rattle.lease_words.specs.Leases.{leases_after_see, with_one_send, with_first_ending, loss_ending}
use Rattle.lease_words.specs.Views.{with_taken, taken_of}

-- the engine found this word
abbrev pub after_look : EngineSession → Word → EngineSession
after_look es w = record es { lines = raised es.lines w; words = w ∷ es.words; looks = es.looks + 1 }

-- the engine granted the session to a library
abbrev pub after_grant : EngineSession → ℕ → EngineSession
after_grant es library = let lines = es.lines ++ granted_line library ∷ [] in record es { lines = lines; words = word_of lines ∷ es.words }

-- the engine took the session back, and found this word
abbrev pub after_revoke : EngineSession → Word → EngineSession
after_revoke es w = let lines = taken_back w.standing (raised es.lines w) in record es { lines = lines; words = word_of lines ∷ w ∷ es.words; looks = es.looks + 1 }

abbrev pub after_take : EngineSession → ℕ → List Item → EngineSession
after_take es library items = with_taken es library (taken_of es library ++ items)

abbrev pub after_publish : EngineSession → ℕ → EngineSession
after_publish es count = record es { published = count }

-- the engine loaded the count of a library's beats
abbrev pub after_beats : Heard → ℕ → Heard
after_beats b count = record { count = count; loads = b.loads + 1 }

-- a slot of this lane is out with the engine's seat; lanes are counted from 1 there, and 0 is none
abbrev pub with_taking : EngineKnows → ℕ → EngineKnows
with_taking e lane = record e { taking = lane }

-- the library saw this word
abbrev pub after_see : ℕ → LibrarySession → Word → LibrarySession
after_see library ls w = record ls { leases = leases_after_see library w ls.leases; words = w ∷ ls.words; looks = ls.looks + 1 }

-- the library loaded the taken count of its lane, and the published count
abbrev pub after_taken_load : LibrarySession → ℕ → LibrarySession
after_taken_load ls count = record ls { taken = count; takes = ls.takes + 1 }

abbrev pub after_arrival : LibrarySession → ℕ → LibrarySession
after_arrival ls count = record ls { published = count; arrivals = ls.arrivals + 1 }

-- the library sent an item, and made this word
abbrev pub after_send : LibrarySession → List Item → Word → LibrarySession
after_send ls items w = record ls { leases = with_one_send ls.leases; items = ls.items ++ items; words = w ∷ ls.words }

-- The library found this word in the place of its lease's. That an exchange finds a word is a look too.
abbrev pub after_loss : LibrarySession → Word → LibrarySession
after_loss ls w = record ls { leases = with_first_ending loss_ending ls.leases; words = w ∷ ls.words; looks = ls.looks + 1 }

abbrev pub release_ending : ℕ → Ending → Ending
release_ending heir ending = GivenBack heir

-- the library gave the session back, to nobody where the heir is 0, and made this word
abbrev pub after_release : LibrarySession → ℕ → Word → LibrarySession
after_release ls heir w = record ls { leases = with_first_ending (release_ending heir) ls.leases; words = w ∷ ls.words }

abbrev pub after_beat : LibraryKnows → ℕ → LibraryKnows
after_beat k count = record k { beats = count }

-- a slot of this session's lane is out with the library's seat; sessions are counted from 1 there, and 0 is none
abbrev pub with_sending : LibraryKnows → ℕ → LibraryKnows
with_sending k session = record k { sending = session }
