use Rattle.resend_plan.proofs.Staying.{named_stays, text_stays, all_named_stay, one_more_named, all_texts_stay}
use Rattle.resend_plan.proofs.laws.items_stay.Goals as goal

pub returns-clause-named : goal.returns-clause-named
returns-clause-named c = λ earlier later item on. named_stays earlier later (λ series number. c.entries_stay.ensures.entry earlier later series number on) item

pub returns-clause-text : goal.returns-clause-text
returns-clause-text c = λ earlier later names item on. text_stays earlier later (λ series number. c.entries_stay.ensures.entry earlier later series number on) names item

pub returns-clause-all_named : goal.returns-clause-all_named
returns-clause-all_named c = λ earlier later items on. all_named_stay earlier later (λ series number. c.entries_stay.ensures.entry earlier later series number on) items

pub returns-clause-all_texts : goal.returns-clause-all_texts
returns-clause-all_texts c = λ earlier later names items on. all_texts_stay earlier later (λ series number. c.entries_stay.ensures.entry earlier later series number on) names items

pub returns-clause-one_more : goal.returns-clause-one_more
returns-clause-one_more c = λ earlier later items item on. one_more_named earlier later (λ series number. c.entries_stay.ensures.entry earlier later series number on) items item
