-- Records that no session leaves.
use Rattle.std.proofs.Common.{◌≡◌, ℕ, List, [], ◌∷◌, ◌++◌, length, map, None, refl, sym, ap, subst, ◌∙◌, arith}
use Rattle.std.specs.List.{All}
use Rattle.std.proofs.lemmas.Bool.{false≢true}
use Rattle.std.proofs.lemmas.List.Elements.{All-head}
use Rattle.lease_core.specs.State.{state_after, state_of}
use Rattle.lease_core.specs.declared.entry.Entry.TheVariants.{Admin, Arrive, Bind}
use Rattle.message_log.specs.declared.entry.OutEntry.{OutEntry}
use Rattle.session_core.specs.Ask.{logon_effects}
use Rattle.session_core.specs.Runs.{connection_acts}
use Rattle.session_core.specs.State.{State}
use Rattle.session_core.specs.declared.acts.Act.{Act}
use Rattle.session_book.specs.Book.{Book}
use Rattle.session_book.specs.Kept.{IsBook}
use Rattle.session_book.specs.Runs.{Handled, IsInside, IsRunOver, TellEach, TellRuns, handled_of}
use Rattle.session_book.specs.Spells.{Placed, placed, placed_from, spells_behind}

-- an inbound log of which no entry tells
pub no_inbound : (book : Book) (body : List ℕ) → book.entries ≡ [] → book.inbound ≡ body ∷ [] → IsBook book → ⊥
unfolding state_of
no_inbound book body none one is =
    let told : length book.inbound ≡ 0 = is.inbound ∙ ap (λ es. (state_of es).inbound) none in
    let has : length book.inbound ≡ 1 = ap length one in
    absurd (omega arith)

pub no_outbound : (book : Book) (entry : OutEntry) → book.entries ≡ [] → book.outbound ≡ (entry ∷ []) ∷ [] → IsBook book → ⊥
unfolding state_of
no_outbound book entry none one is =
    let same : ◌≡◌ {A = List ℕ} (1 ∷ []) (0 ∷ []) = sym (ap (λ log. map (λ (entries : List OutEntry). length entries) log) one) ∙ is.outbound ∙ ap (λ es. (state_of es).series) none in
    (cc)

-- an answer before the Bind
pub no_answer : (start : State) (handled : List Handled) (c number : ℕ) (book : Book) → book.entries ≡ Admin number ∷ (Bind c ∷ []) → IsRunOver [] start handled book → ⊥
unfolding state_of
no_answer start handled c number book are run =
    let added : run.added ≡ Admin number ∷ (Bind c ∷ []) = sym run.entries_are ∙ are in
    let inside = subst (λ es. All IsInside (placed_from (state_of []) es)) added run.inside in
    let s = state_of [] in
    false≢true (All-head IsInside (placed s (Admin number)) (placed (state_after s (Admin number)) (Bind c) ∷ []) inside refl)

-- a message that no connection brought
nothing_asked : (inbound : List (List ℕ)) (log : List (List OutEntry)) (acts : List Act) (p : Placed) (ps : List Placed) → acts ≡ [] → TellEach inbound log acts (p ∷ ps) → ⊥
nothing_asked inbound log [] p ps none is = is
nothing_asked inbound log (act ∷ acts) p ps none is = absurd (cc)

pub no_unasked : (start : State) (c pos : ℕ) (book : Book) → book.entries ≡ Bind c ∷ (Arrive pos ∷ []) → IsRunOver [] start (handled_of c [] ∷ []) book → start.dials ≡ None → ⊥
unfolding state_of
no_unasked start c pos book are run dials =
    let added : run.added ≡ Bind c ∷ (Arrive pos ∷ []) = sym run.entries_are ∙ are in
    let told = subst (λ es. TellRuns book.inbound book.outbound start (handled_of c [] ∷ []) (spells_behind [] es)) added run.told in
    let none : connection_acts start [] ≡ [] = ap (λ d. (logon_effects d).acts ++ []) dials in
    nothing_asked book.inbound book.outbound (connection_acts start []) _ [] none told.1

-- the connection that was bound, and no other
pub no_other : (start : State) (c d : ℕ) (bodies : List (List ℕ)) (book : Book) → book.entries ≡ Bind c ∷ [] → IsRunOver [] start (handled_of d bodies ∷ []) book → c ≡ d
unfolding state_of
no_other start c d bodies book are run =
    let added : run.added ≡ Bind c ∷ [] = sym run.entries_are ∙ are in
    let told = subst (λ es. TellRuns book.inbound book.outbound start (handled_of d bodies ∷ []) (spells_behind [] es)) added run.told in
    told.0
