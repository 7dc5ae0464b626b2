-- How the text of a list grows by its next value.
use Rattle.std.proofs.Common.{◌≡◌, ℕ, ◌+◌, ◌-◌, ◌<◌, ◌==◌, true, List, [], ◌∷◌, ◌++◌, None, Some, length, drop, get_or, ne_eqb, sym, ap, ◌∙◌, append_assoc, arith}
use Rattle.std.specs.List.{slice_get}
use Rattle.std.proofs.lemmas.Bool.{cond-false}
use Rattle.std.proofs.lemmas.Grind.{flat_map-append}
use Rattle.std.proofs.lemmas.List.{drop_more}
use Rattle.std.proofs.lemmas.Option.{slice_get-get_or}
use Rattle.message_log.specs.Series.{entry_in, series_at}
use Rattle.message_log.specs.declared.entry.OutEntry.{OutEntry}
use Rattle.run_report.specs.Lines.{indented_line, numbered_texts, spaced_words}
use Rattle.run_report.specs.Sessions.{found_line, outbound_line, series_text}

numbered_texts-more : {X : Type 0} (text : ℕ → X → List ℕ) (n : ℕ) (xs : List X) (i : ℕ) (d : X) (out next whole : List ℕ) → i < length xs → next ≡ out ++ text n (get_or xs i d) → out ++ numbered_texts text n (drop i xs) ≡ whole → next ++ numbered_texts text (n + 1) (drop (i + 1) xs) ≡ whole
numbered_texts-more text n xs i d out next whole within step so_far =
    ap (λ bytes. bytes ++ numbered_texts text (n + 1) (drop (i + 1) xs)) step
    ∙ append_assoc out (text n (get_or xs i d)) (numbered_texts text (n + 1) (drop (i + 1) xs))
    ∙ ap (λ rest. out ++ numbered_texts text n rest) (sym (drop_more xs i d within))
    ∙ so_far

series_at-more : (log : List (List OutEntry)) (i : ℕ) → series_at log (i + 1) ≡ get_or log i []
series_at-more log i =
    let place : i + 1 - 1 ≡ i = omega arith in
    cond-false (i + 1 == 0) [] (get_or log (i + 1 - 1) []) (ne_eqb (i + 1) 0 (λ e. omega arith)) ∙ ap (λ k. get_or log k []) place

entry_in-more : (entries : List OutEntry) (i : ℕ) → entry_in entries (i + 1) ≡ slice_get entries i
entry_in-more entries i =
    let place : i + 1 - 1 ≡ i = omega arith in
    cond-false (i + 1 == 0) None (slice_get entries (i + 1 - 1)) (ne_eqb (i + 1) 0 (λ e. omega arith)) ∙ ap (λ k. slice_get entries k) place

-- one series more
pub series_texts-more : (log : List (List OutEntry)) (i : ℕ) (out next whole : List ℕ) → i < length log → next ≡ out ++ series_text (i + 1) (series_at log (i + 1)) → out ++ numbered_texts series_text (i + 1) (drop i log) ≡ whole → next ++ numbered_texts series_text (i + 1 + 1) (drop (i + 1) log) ≡ whole
series_texts-more log i out next whole within step so_far =
    numbered_texts-more series_text (i + 1) log i [] out next whole within
    (step ∙ ap (λ entries. out ++ series_text (i + 1) entries) (series_at-more log i)) so_far

no_entry : OutEntry
no_entry = record { at = 0; admin = true; body = [] }

-- one message more
pub found_texts-more : (entries : List OutEntry) (i : ℕ) (out next whole : List ℕ) → i < length entries → next ≡ out ++ found_line (i + 1) (entry_in entries (i + 1)) → out ++ numbered_texts outbound_line (i + 1) (drop i entries) ≡ whole → next ++ numbered_texts outbound_line (i + 1 + 1) (drop (i + 1) entries) ≡ whole
found_texts-more entries i out next whole within step so_far =
    let there : entry_in entries (i + 1) ≡ Some (get_or entries i no_entry) = entry_in-more entries i ∙ slice_get-get_or entries i no_entry within in
    numbered_texts-more outbound_line (i + 1) entries i no_entry out next whole within
    (step ∙ ap (λ entry. out ++ found_line (i + 1) entry) there) so_far

-- a line in two parts
pub line_in_parts : (out : List ℕ) (first rest : List (List ℕ)) → out ++ spaced_words first ++ indented_line rest ≡ out ++ indented_line (first ++ rest)
line_in_parts out first rest =
    append_assoc out (spaced_words first) (indented_line rest)
    ∙ ap (λ bytes. out ++ bytes) (sym (append_assoc (spaced_words first) (spaced_words rest) (10 ∷ [])))
    ∙ ap (λ bytes. out ++ (bytes ++ 10 ∷ [])) (sym (flat_map-append (λ word. 32 ∷ word) first rest))
