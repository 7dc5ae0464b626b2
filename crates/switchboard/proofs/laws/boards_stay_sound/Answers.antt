use Rattle.switchboard.proofs.Sounds.{accept_sound, bind_sound, connection_sound, desk_sound, dial_sound, end_sound, more_sound, place_within, session_sound, unbound_sound}
use Rattle.switchboard.proofs.laws.boards_stay_sound.Goals as goal

pub returns-clause-connection : goal.returns-clause-connection
returns-clause-connection c = connection_sound

pub returns-clause-session : goal.returns-clause-session
returns-clause-session c = session_sound

pub returns-clause-desk : goal.returns-clause-desk
returns-clause-desk c = desk_sound

pub returns-clause-place : goal.returns-clause-place
returns-clause-place c = place_within

pub returns-clause-add : goal.returns-clause-add
returns-clause-add c = more_sound

pub returns-clause-accept : goal.returns-clause-accept
returns-clause-accept c = accept_sound

pub returns-clause-bind : goal.returns-clause-bind
returns-clause-bind c = bind_sound

pub returns-clause-dial : goal.returns-clause-dial
returns-clause-dial c = dial_sound

pub returns-clause-end_bound : goal.returns-clause-end_bound
returns-clause-end_bound c = end_sound

pub returns-clause-end_unbound : goal.returns-clause-end_unbound
returns-clause-end_unbound c = unbound_sound
