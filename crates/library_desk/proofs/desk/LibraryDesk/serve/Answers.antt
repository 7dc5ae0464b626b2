use Rattle.std.proofs.Common.{inl, inr, rules, subst, sym, refl}
use Rattle.lease_words.specs.Views.{heard_of}
use Rattle.library_desk.specs.Serving.{Expires}
use Rattle.library_desk.specs.Stops.{StopsBehindAnswer, StopsBehindExpiry, StopsServing}
use Rattle.library_desk.proofs.Stopped.{on_err}
use Rattle.library_desk.proofs.desk.LibraryDesk.serve.Goals as goal
use Rattle.library_desk.proofs.desk.LibraryDesk.serve.Goals.{then-hear+in_ok-take_back_all, else-hear}

pub returns-clause-serves : goal.returns-clause-serves
returns-clause-serves c =
    let beat = (heard_of c.hear.new.self.desk.seat.knows c.args.library).count in
    record {
      beat = beat;
      heard = c.hear.new.self;
      expired = c.if-hear.self;
      answered = c.answer.new.self;
      hears = c.hear.ensures.hears;
      expires = elim c.if-hear.branch [
        | then-hear+in_ok-take_back_all w ↦ subst (Expires c.args.library c.args.at c.args.until c.args.self.now.watch beat c.hear.new.self) (sym w.self-is)
            (inl (c.hear.ensures.silent.0 w.if-hear.true, record { taken_back = w.in_ok-take_back_all.ensures.taken_back; rest = w.take_back_all.ensures.rest }))
        | else-hear w ↦ subst (Expires c.args.library c.args.at c.args.until c.args.self.now.watch beat c.hear.new.self) (sym w.self-is)
            (inr (λ silent. let yes = c.hear.ensures.silent.1 silent in let no = w.if-hear.false in absurd (cc), refl))
      ];
      answers = c.in_ok-turn.ensures.answers;
      pumps = c.in_ok-pump_all.ensures.pumps;
    }

pub returns-in_err-take_back_all-clause-stops : goal.returns-in_err-take_back_all-clause-stops
returns-in_err-take_back_all-clause-stops c =
    let stops : StopsServing c.args.library c.args.at c.args.until c.args.self.now c.take_back_all.new.self = record {
      beat = (heard_of c.hear.new.self.desk.seat.knows c.args.library).count;
      heard = c.hear.new.self;
      hears = c.hear.ensures.hears;
      stops = inl c.in_err-take_back_all.ensures.stops;
    } in
    on_err c.from_residual.result stops

pub returns-in_err-turn-clause-stops : goal.returns-in_err-turn-clause-stops
returns-in_err-turn-clause-stops c =
    let beat = (heard_of c.hear.new.self.desk.seat.knows c.args.library).count in
    let behind : StopsBehindExpiry c.args.library c.args.at c.args.until beat c.args.self.now c.hear.new.self c.answer.new.self = record {
      expired = c.if-hear.self;
      expires = elim c.if-hear.branch [
        | then-hear+in_ok-take_back_all w ↦ subst (Expires c.args.library c.args.at c.args.until c.args.self.now.watch beat c.hear.new.self) (sym w.self-is)
            (inl (c.hear.ensures.silent.0 w.if-hear.true, record { taken_back = w.in_ok-take_back_all.ensures.taken_back; rest = w.take_back_all.ensures.rest }))
        | else-hear w ↦ subst (Expires c.args.library c.args.at c.args.until c.args.self.now.watch beat c.hear.new.self) (sym w.self-is)
            (inr (λ silent. let yes = c.hear.ensures.silent.1 silent in let no = w.if-hear.false in absurd (cc), refl))
      ];
      stops = inl c.in_err-turn.ensures.nothing;
    } in
    let stops : StopsServing c.args.library c.args.at c.args.until c.args.self.now c.answer.new.self = record {
      beat = beat;
      heard = c.hear.new.self;
      hears = c.hear.ensures.hears;
      stops = inr behind;
    } in
    on_err c.from_residual-in_err-turn.result stops

pub returns-in_err-pump_all-clause-stops : goal.returns-in_err-pump_all-clause-stops
returns-in_err-pump_all-clause-stops c =
    let beat = (heard_of c.hear.new.self.desk.seat.knows c.args.library).count in
    let answered : StopsBehindAnswer c.args.library c.if-hear.self c.pump_all.new.self = record {
      answered = c.answer.new.self;
      turn = c.in_ok-turn.turn;
      answers = c.in_ok-turn.ensures.answers;
      stops = rw c.pump_all.ensures.desk (search rules);
    } in
    let behind : StopsBehindExpiry c.args.library c.args.at c.args.until beat c.args.self.now c.hear.new.self c.pump_all.new.self = record {
      expired = c.if-hear.self;
      expires = elim c.if-hear.branch [
        | then-hear+in_ok-take_back_all w ↦ subst (Expires c.args.library c.args.at c.args.until c.args.self.now.watch beat c.hear.new.self) (sym w.self-is)
            (inl (c.hear.ensures.silent.0 w.if-hear.true, record { taken_back = w.in_ok-take_back_all.ensures.taken_back; rest = w.take_back_all.ensures.rest }))
        | else-hear w ↦ subst (Expires c.args.library c.args.at c.args.until c.args.self.now.watch beat c.hear.new.self) (sym w.self-is)
            (inr (λ silent. let yes = c.hear.ensures.silent.1 silent in let no = w.if-hear.false in absurd (cc), refl))
      ];
      stops = inr answered;
    } in
    let stops : StopsServing c.args.library c.args.at c.args.until c.args.self.now c.pump_all.new.self = record {
      beat = beat;
      heard = c.hear.new.self;
      hears = c.hear.ensures.hears;
      stops = inr behind;
    } in
    on_err c.from_residual-in_err-pump_all.result stops
