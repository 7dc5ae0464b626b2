-- A list on pages of a fixed length.
use Rattle.std.specs.Prelude.{◌≡◌, ℕ, ◌+◌, ◌*◌, ◌<◌, ◌≤◌, List, [], ◌∷◌, ◌++◌, length, All}
use Rattle.message_log.specs.declared.pages.TheConstants.{PAGE, MOST_PAGES}
use Rattle.message_log.specs.Stored.{Stored}

-- what stands on the pages, one after the other
abbrev pub items_on : {T : Type 0} → List (Stored T) → List T
items_on [] = []
items_on (page ∷ pages) = page.items ++ items_on pages

-- every place of the page is taken
abbrev pub IsFull : {T : Type 0} → Stored T → Type 0
IsFull page = length page.items ≡ PAGE

-- nothing stands on the page, and there is memory for all its places
pub record IsReady {T : Type 0} (page : Stored T) : Type 0 where
  pub empty : page.items ≡ []
  pub whole : PAGE ≤ page.spare

-- The full pages, the one that is written on and the ones that are kept ready make room for so many more.
pub record IsPaged {T : Type 0} (full : Stored (Stored T)) (last : Stored T) (ready : List (Stored T)) (spare : ℕ) : Type 0 where
  pub full_pages : All IsFull full.items
  pub ready_pages : All IsReady ready
  pub on_page : length last.items ≤ PAGE
  pub few : length full.items + length ready < MOST_PAGES
  pub places : length ready ≤ full.spare
  pub backed : spare + length last.items ≤ PAGE * (1 + length ready)
  pub page_backed : 0 < spare → PAGE ≤ length last.items + last.spare
