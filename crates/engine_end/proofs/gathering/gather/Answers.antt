use Rattle.std.proofs.Common.{◌≡◌, [], ◌∷◌, sym, ap, subst, ◌∙◌}
use Rattle.std.proofs.lemmas.List.{get_or-set_other}
use Rattle.lease_desk.specs.Desk.{after_takes, bodies_of}
use Rattle.lease_words.specs.Facts.{OthersTaken}
use Rattle.lease_words.specs.Leases.{Each}
use Rattle.lease_words.specs.Sees.{after_look}
use Rattle.lease_words.specs.Tells.{IsSettled}
use Rattle.lease_words.specs.Views.{EngineView, TableRef, engine_at, no_engine_session}
use Rattle.lease_words.specs.declared.view.EngineSession.{EngineSession}
use Rattle.switchboard.specs.Happenings.{reserves, shows}
use Rattle.engine_end.proofs.gathering.gather.Goals as goal

pub returns-in_err-gather-clause-steady : goal.returns-in_err-gather-clause-steady
returns-in_err-gather-clause-steady c =
    let run = c.requires.steady.run in
    record {
      run = record { before = run.before; ready = c.boards_stay_ready.ensures.happening run.before (reserves c.args.s) c.args.desk.now.board c.gather.new.self.board c.in_err-gather.ensures.rests.happens run.ready };
      in_step = c.gather.ensures.in_step c.requires.steady.in_step;
    }

pub returns-in_err-gather-clause-goes_on : goal.returns-in_err-gather-clause-goes_on
returns-in_err-gather-clause-goes_on c = c.boards_go_on.ensures.happening (reserves c.args.s) c.args.desk.now.board c.gather.new.self.board c.in_err-gather.ensures.rests.happens

pub returns-clause-steady : goal.returns-clause-steady
returns-clause-steady c =
    let run = c.requires.steady.run in
    let gathers = c.in_ok-gather.ensures.gathers in
    let events = reserves c.args.s ∷ shows c.args.s gathers.word (bodies_of gathers.items) c.args.at c.args.until ∷ [] in
    record {
      run = record { before = run.before; ready = c.boards_stay_ready.ensures.run run.before events c.args.desk.now.board c.gather.new.self.board gathers.reaches run.ready };
      in_step = c.gather.ensures.in_step c.requires.steady.in_step;
    }

pub returns-clause-goes_on : goal.returns-clause-goes_on
returns-clause-goes_on c =
    let gathers = c.in_ok-gather.ensures.gathers in
    let events = reserves c.args.s ∷ shows c.args.s gathers.word (bodies_of gathers.items) c.args.at c.args.until ∷ [] in
    c.boards_go_on.ensures.run events c.args.desk.now.board c.gather.new.self.board gathers.reaches

pub returns-clause-settled : goal.returns-clause-settled
returns-clause-settled c = record {
  settled = c.in_ok-gather.ensures.settled;
  others = subst (λ (t : TableRef). OthersTaken t.shape.libraries (engine_at c.gather.new.self.seat c.args.s)) (sym (c.gather.ensures.table ∙ c.requires.table)) c.in_ok-gather.ensures.others_taken;
}

pub returns-clause-others : goal.returns-clause-others
returns-clause-others c = λ t other was.
    let told = c.in_ok-gather.ensures in
    let old = c.args.desk.now.seat in
    let new = c.gather.new.self.seat in
    let same : engine_at new t ≡ engine_at old t = ap (λ (v : EngineView). engine_at v t) told.gathers.seat ∙ get_or-set_other old.knows.sessions c.args.s t (after_takes told.gathers.items (after_look (engine_at old c.args.s) told.gathers.word)) no_engine_session other in
    record {
      settled = subst (λ (es : EngineSession). Each (IsSettled t es) new.settled) (sym same) (subst (Each (IsSettled t (engine_at old t))) (sym c.gather.ensures.seats) was.settled);
      others = subst (λ (es : EngineSession). OthersTaken new.table.shape.libraries es) (sym same) (subst (λ (r : TableRef). OthersTaken r.shape.libraries (engine_at old t)) (sym c.gather.ensures.table) was.others);
    }
