-- What a library posted: by which lease, and the body.
use Rattle.std.specs.Prelude.{ℕ, ◌==◌, if◌then◌else◌, List, [], ◌∷◌, ◌++◌}
use Rattle.lease_words.specs.declared.item.Item.{Item}
use Rattle.library_api.specs.Known.{Known, held}
use Rattle.library_api.specs.Calls.{Call, after_call, asks, polls, sends, send_refused, gives_back, release_refused, hand_refused, beats, is_done, meets}

pub record Post : Type 0 where
  pub lease : ℕ
  pub body : List ℕ

-- the posts that these items carry
abbrev pub posts_by : List Item → List Post
posts_by [] = []
posts_by (i ∷ is) = record { lease = i.lease; body = i.body } ∷ posts_by is

-- the post of a call that answered Sent, with the body that was handed in
abbrev pub posts_in : ℕ → Known → Call → List Post
posts_in s k (asks t from taken answer) = []
posts_in s k (polls o) = []
posts_in s k (sends t taken body items) = if t == s then record { lease = held k t; body = body } ∷ [] else []
posts_in s k (send_refused t taken why) = []
posts_in s k (gives_back t heir owner) = []
posts_in s k (release_refused t why) = []
posts_in s k (hand_refused t why) = []
posts_in s k beats = []
posts_in s k (is_done finished taken answer) = []
posts_in s k (meets ends) = []

abbrev pub posts_of : ℕ → Known → List Call → List Post
posts_of s k [] = []
posts_of s k (c ∷ cs) = posts_in s k c ++ posts_of s (after_call k c) cs
