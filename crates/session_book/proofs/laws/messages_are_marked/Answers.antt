use Rattle.session_core.specs.Ask.{after_ask, ask}
use Rattle.session_core.specs.Receive.{after_receive, receive}
use Rattle.session_core.specs.Tick.{after_tick, tick}
use Rattle.session_book.proofs.Marks.{acts_marks, begun_marks, lapse_marks, leave_marks, open_marks, opening_marks, read_marks, request_marks, resume_marks, timeout_marks, word_marks}
use Rattle.session_book.proofs.laws.messages_are_marked.Goals as goal

pub returns-clause-message : goal.returns-clause-message
returns-clause-message c = λ at body desk. acts_marks c.grounds.ensures.runs c.texts_tell_session_entries.ensures at (receive desk.book.machine body at).acts (after_receive desk.book.machine body at) desk

pub returns-clause-bind : goal.returns-clause-bind
returns-clause-bind c = λ k at body desk. open_marks c.grounds.ensures.runs c.texts_tell_session_entries.ensures k at (receive desk.book.machine body at).acts (after_receive desk.book.machine body at) desk

pub returns-clause-dial : goal.returns-clause-dial
returns-clause-dial c = λ k at desk. open_marks c.grounds.ensures.runs c.texts_tell_session_entries.ensures k at (ask desk.book.machine).acts (after_ask desk.book.machine at) desk

pub returns-clause-tick : goal.returns-clause-tick
returns-clause-tick c = λ at desk. acts_marks c.grounds.ensures.runs c.texts_tell_session_entries.ensures at (tick desk.book.machine at).acts (after_tick desk.book.machine at) desk

pub returns-clause-word : goal.returns-clause-word
returns-clause-word c = word_marks c.grounds.ensures.runs

pub returns-clause-timeout : goal.returns-clause-timeout
returns-clause-timeout c = timeout_marks c.grounds.ensures.runs

pub returns-clause-leave : goal.returns-clause-leave
returns-clause-leave c = leave_marks

pub returns-clause-request : goal.returns-clause-request
returns-clause-request c = request_marks

pub returns-clause-lapse : goal.returns-clause-lapse
returns-clause-lapse c = lapse_marks

pub returns-clause-begun : goal.returns-clause-begun
returns-clause-begun c = begun_marks c.grounds.ensures.runs c.texts_tell_session_entries.ensures

pub returns-clause-opened : goal.returns-clause-opened
returns-clause-opened c = opening_marks c.grounds.ensures.runs c.texts_tell_session_entries.ensures

pub returns-clause-read : goal.returns-clause-read
returns-clause-read c = read_marks c.grounds.ensures.runs

pub returns-clause-resume : goal.returns-clause-resume
returns-clause-resume c = resume_marks
