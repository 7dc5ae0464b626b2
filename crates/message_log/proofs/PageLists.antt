-- What stands on pages.
use Rattle.std.proofs.Common.{◌≡◌, ◌≢◌, ℕ, zero, suc, ◌+◌, ◌*◌, ◌/◌, ◌%◌, ◌<◌, ◌≤◌, List, [], ◌∷◌, ◌++◌, length, Option, Some, None, refl, sym, ap, ◌∙◌, arith, append_assoc, append-nil, length-append}
use Rattle.std.specs.List.{slice_get, All}
use Rattle.std.proofs.lemmas.List.Elements.{All-head, All-tail}
use Rattle.std.proofs.lemmas.Option.{slice_get_past}
use Rattle.message_log.specs.Stored.{Stored}
use Rattle.message_log.specs.Pages.{items_on, IsFull}
use Rattle.message_log.proofs.Places.{slice_get-append_left, slice_get-append_right, past_none}

pub items_on-append : {T : Type 0} (pages more : List (Stored T)) → items_on (pages ++ more) ≡ items_on pages ++ items_on more
items_on-append [] more = refl
items_on-append (page ∷ pages) more = ap (λ ts. page.items ++ ts) (items_on-append pages more) ∙ sym (append_assoc page.items (items_on pages) (items_on more))

pub length-items_on : {T : Type 0} (pages : List (Stored T)) → All IsFull pages → length (items_on pages) ≡ 1024 * length pages
length-items_on [] full = refl
length-items_on (page ∷ pages) full =
    let first = All-head IsFull page pages full in
    let rest = length-items_on pages (All-tail IsFull page pages full) in
    omega (arith, first, rest, length-append page.items (items_on pages))

none_some : {X : Type 0} (x : X) → ◌≡◌ {A = Option X} None (Some x) → ⊥
none_some x e = cc

-- a place is on its page
pub on_page : {T : Type 0} (pages : List (Stored T)) (rest : List T) → All IsFull pages → (k r : ℕ) (page : Stored T) → r < 1024 → slice_get pages k ≡ Some page → slice_get (items_on pages ++ rest) (1024 * k + r) ≡ slice_get page.items r
on_page [] rest full k r page h is = absurd (none_some page is)
on_page {T} (first ∷ pages) rest full zero r page h is =
    let same : first ≡ page = cc in
    let size = All-head IsFull first pages full in
    let at : 1024 * zero + r ≡ r = omega arith in
    ap (λ n. slice_get ((first.items ++ items_on pages) ++ rest) n) at
    ∙ ap (λ ts. slice_get ts r) (append_assoc first.items (items_on pages) rest)
    ∙ slice_get-append_left first.items (items_on pages ++ rest) r (omega (arith, size))
    ∙ ap (λ (p : Stored T). slice_get p.items r) same
on_page (first ∷ pages) rest full (suc k) r page h is =
    let size = All-head IsFull first pages full in
    let at : 1024 * suc k + r ≡ length first.items + (1024 * k + r) = omega (arith, size) in
    ap (λ n. slice_get ((first.items ++ items_on pages) ++ rest) n) at
    ∙ ap (λ ts. slice_get ts (length first.items + (1024 * k + r))) (append_assoc first.items (items_on pages) rest)
    ∙ slice_get-append_right first.items (items_on pages ++ rest) (1024 * k + r)
    ∙ on_page pages rest (All-tail IsFull first pages full) k r page h is

module _ {T : Type 0} (pages : List (Stored T)) (last : List T) (full : All IsFull pages) (place : ℕ) where
  split : place ≡ 1024 * (place / 1024) + place % 1024
  split = omega arith

  -- a place on a full page
  pub got_full : (page : Stored T) → slice_get pages (place / 1024) ≡ Some page → slice_get (items_on pages ++ last) place ≡ slice_get page.items (place % 1024)
  got_full page is =
      ap (λ n. slice_get (items_on pages ++ last) n) split
      ∙ on_page pages last full (place / 1024) (place % 1024) page (omega arith) is

  -- a place on the page that is written on
  pub got_open : place / 1024 ≡ length pages → slice_get (items_on pages ++ last) place ≡ slice_get last (place % 1024)
  got_open here =
      let at : place ≡ length (items_on pages) + place % 1024 = omega (arith, length-items_on pages full) in
      ap (λ n. slice_get (items_on pages ++ last) n) at ∙ slice_get-append_right (items_on pages) last (place % 1024)

  -- a place behind all pages
  pub got_none : length last ≤ 1024 → place / 1024 ≢ length pages → slice_get pages (place / 1024) ≡ None → slice_get (items_on pages ++ last) place ≡ None
  got_none few other none =
      let behind : length pages ≤ place / 1024 = past_none pages (place / 1024) none in
      slice_get_past (items_on pages ++ last) place (omega (arith, length-items_on pages full, length-append (items_on pages) last))

-- an item is put on the page that is written on
pub pushed : {T : Type 0} (pages : List (Stored T)) (last more : List T) (item : T) → more ≡ last ++ item ∷ [] → items_on pages ++ more ≡ (items_on pages ++ last) ++ item ∷ []
pushed pages last more item is = ap (λ ts. items_on pages ++ ts) is ∙ sym (append_assoc (items_on pages) last (item ∷ []))

-- a page goes behind the full pages, and an empty one comes in its place
pub turned : {T : Type 0} (pages more : List (Stored T)) (last next : Stored T) → more ≡ pages ++ last ∷ [] → next.items ≡ [] → items_on more ++ next.items ≡ items_on pages ++ last.items
turned pages more last next is empty =
    ap (λ ts. items_on more ++ ts) empty
    ∙ append-nil (items_on more)
    ∙ ap items_on is
    ∙ items_on-append pages (last ∷ [])
    ∙ ap (λ ts. items_on pages ++ ts) (append-nil last.items)
