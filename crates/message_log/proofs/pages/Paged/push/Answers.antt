-- a full page goes behind the full pages, and the item on the next one
use Rattle.std.proofs.Common.{◌≡◌, refl, ◌∙◌, ap, ◌++◌, ◌∷◌, []}
use Rattle.std.proofs.lemmas.Result.{IfOk-at_ok}
use Rattle.message_log.specs.Stored.{Stored}
use Rattle.message_log.specs.Pages.{items_on}
use Rattle.message_log.proofs.PageLists.{pushed, turned}
use Rattle.message_log.proofs.pages.Paged.push.Goals as goal
use Rattle.message_log.proofs.pages.Paged.push.Goals.{then-len-eq-PAGE+in_ok-page, else-len-eq-PAGE}

pub returns-clause-ok : goal.returns-clause-ok
returns-clause-ok g c =
    let now = c.if-len-eq-PAGE.self-inside in
    let before = c.self.inside in
    let same : items_on now.full.items ++ now.last.items ≡ items_on before.full.items ++ before.last.items =
    elim c.if-len-eq-PAGE.branch [
      | then-len-eq-PAGE+in_ok-page w ↦
          let behind : w.push.new.self.items ≡ before.full.items ++ before.last ∷ [] = rw (IfOk-at_ok _ w.unwrap.ensures w.push.ensures.ok, w.next_page.ensures.full, w.replace-full.ensures.value) refl in
          let empty : w.replace-full.new.dest.items ≡ [] = rw w.replace-full.ensures.after w.in_ok-page.ensures.page.empty in
          rw w.self-inside-is (turned before.full.items w.push.new.self.items before.last w.replace-full.new.dest behind empty)
      | else-len-eq-PAGE w ↦ rw w.self-inside-is refl
    ] in
    pushed now.full.items now.last.items _ c.args.item c.in_ok-push.ensures.ok ∙ ap (λ ts. ts ++ c.args.item ∷ []) (same ∙ ap (λ (s : Stored g.row.T.Denot). s.items) c.self.view_is)
