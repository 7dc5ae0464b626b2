-- The entries that weren't handed out, and in which series each was made.
use Rattle.std.proofs.Common.{◌≡◌, ℕ, zero, suc, ◌+◌, ◌-◌, ◌≤◌, ◌<◌, List, [], ◌∷◌, ◌++◌, drop, get_or, length, length-drop, replicate, set, take, take_all, refl, sym, ap, ◌∙◌, arith}
use Rattle.std.proofs.lemmas.List.{drop_more, length-map, length_push, take-append-drop}
use Rattle.std.specs.Prelude.{fold}
use Rattle.lease_core.specs.Laws.{EntriesDecideOver}
use Rattle.lease_core.specs.State.{State as Totals, series_of, state_after, state_of}
use Rattle.lease_core.specs.declared.entry.Entry.{Entry}
use Rattle.lease_core.specs.declared.entry.Entry.TheVariants.{Arrive, Admin, Bind, Plan, Leave, Reset, Granted, Refused, Send, Release, Timeout, Hold, Lapse}
use Rattle.session_book.specs.Book.{Book}
use Rattle.session_book.specs.Kept.{IsBook}
use Rattle.session_book.specs.Records.{bind_numbers, series_behind, series_over}
use Rattle.session_book.proofs.News.{length_changed}

-- more series before are more behind
behind_more : (more series : ℕ) (e : Entry) → series_behind (more + series) e ≡ more + series_behind series e
behind_more more series (Arrive pos) = refl
behind_more more series (Admin number) = refl
behind_more more series (Bind c) = refl
behind_more more series (Plan begin last at) = refl
behind_more more series (Leave c) = refl
behind_more more series (Reset next) = omega arith
behind_more more series (Granted library nr lease from start) = refl
behind_more more series (Refused library nr why) = refl
behind_more more series (Send lease library ordinal number) = refl
behind_more more series (Release lease library count heir) = refl
behind_more more series (Timeout lease library count) = refl
behind_more more series (Hold lease until) = refl
behind_more more series (Lapse lease) = refl

over_more : (more series : ℕ) (es : List Entry) → series_over (more + series) es ≡ more + series_over series es
over_more more series [] = refl
over_more more series (e ∷ es) = ap (λ n. series_over n es) (behind_more more series e) ∙ over_more more (series_behind series e) es

over_all : (series : ℕ) (es : List Entry) → series_over series es ≡ series + series_over 0 es
over_all series es = let none : series + 0 ≡ series = omega arith in sym (ap (λ n. series_over n es) none) ∙ over_more series 0 es

-- a series is never behind an earlier one
pub over_least : (series : ℕ) (es : List Entry) → series ≤ series_over series es
over_least series es = let same = over_all series es in omega arith

-- the journal's series goes on by its resets
pub series_stepped : (s : Totals) (e : Entry) → series_of (state_after s e) ≡ series_behind (series_of s) e
series_stepped s (Arrive pos) = refl
series_stepped s (Admin number) = length_changed s.series
series_stepped s (Bind c) = refl
series_stepped s (Plan begin last at) = refl
series_stepped s (Leave c) = refl
series_stepped s (Reset next) = length_push s.series 0
series_stepped s (Granted library nr lease from start) = refl
series_stepped s (Refused library nr why) = refl
series_stepped s (Send lease library ordinal number) = length_changed s.series
series_stepped s (Release lease library count heir) = refl
series_stepped s (Timeout lease library count) = refl
series_stepped s (Hold lease until) = refl
series_stepped s (Lapse lease) = refl

pub series_folded : (s : Totals) (es : List Entry) → series_of (fold state_after s es) ≡ series_over (series_of s) es
series_folded s [] = refl
series_folded s (e ∷ es) = series_folded (state_after s e) es ∙ ap (λ n. series_over n es) (series_stepped s e)

-- the log's series are those behind the first entries and the resets of the others
pub series_split :
    EntriesDecideOver
    → (n : ℕ) (book : Book)
    → IsBook book
    → length book.outbound ≡ series_over (series_of (state_of (take n book.entries))) (drop n book.entries)
series_split decide n book is =
    sym (length-map book.outbound (λ es. length es))
    ∙ ap length is.outbound
    ∙ ap (λ (es : List Entry). series_of (state_of es)) (sym (take-append-drop n book.entries))
    ∙ ap series_of (decide (take n book.entries) (drop n book.entries))
    ∙ series_folded (state_of (take n book.entries)) (drop n book.entries)

pub series_sum :
    EntriesDecideOver
    → (n : ℕ) (book : Book)
    → IsBook book
    → length book.outbound ≡ series_of (state_of (take n book.entries)) + series_over 0 (drop n book.entries)
series_sum decide n book is = series_split decide n book is ∙ over_all (series_of (state_of (take n book.entries))) (drop n book.entries)

-- all behind the first ones
pub rest_is : (n : ℕ) (es : List Entry) → take (length es - n) (drop n es) ≡ drop n es
rest_is n es = let left = length-drop n es in take_all (length es - n) (drop n es) (omega arith)

over_step : (series k : ℕ) (es : List Entry) (d : Entry) → k < length es → series_over (series_behind series (get_or es k d)) (drop (k + 1) es) ≡ series_over series (drop k es)
over_step series k es d within = sym (ap (λ (xs : List Entry). series_over series xs) (drop_more es k d within))

pub behind_within : (series k bound : ℕ) (es : List Entry) (d : Entry) → k < length es → series_over series (drop k es) < bound → series_behind series (get_or es k d) < bound
behind_within series k bound es d within below =
    let least = over_least (series_behind series (get_or es k d)) (drop (k + 1) es) in
    let same = over_step series k es d within in omega arith

-- the Bind has the number from before it
bind_set : (xs : List ℕ) (now before count : ℕ) → 0 < count → set (xs ++ replicate count now) (length xs) before ≡ xs ++ bind_numbers before now count
bind_set [] now before zero some = absurd (omega arith)
bind_set [] now before (suc more) some = refl
bind_set (x ∷ xs) now before count some = ap (λ ys. x ∷ ys) (bind_set xs now before count some)

pub bind_noted :
    (xs items : List ℕ) (now before first behind len count : ℕ)
    → items ≡ take behind xs ++ replicate (behind - len) now
    → len ≡ length xs
    → first ≡ length xs
    → first < behind
    → count ≡ behind - length xs
    → set items first before ≡ xs ++ bind_numbers before now count
bind_noted xs items now before first behind len count items_are len_is first_is some count_is =
    let whole : take behind xs ≡ xs = take_all behind xs (omega arith) in
    let left : behind - len ≡ count = omega arith in
    let are : items ≡ xs ++ replicate count now = items_are ∙ ap (λ ys. ys ++ replicate (behind - len) now) whole ∙ ap (λ n. xs ++ replicate n now) left in
    ap (λ ys. set ys first before) are ∙ ap (λ n. set (xs ++ replicate count now) n before) first_is ∙ bind_set xs now before count (omega arith)
