-- Sessions in turn, and the one talk that they are.
use Rattle.std.specs.Prelude.{ℕ, [], ◌++◌}
use Rattle.ldap_session.specs.directory_api.Talk.{Exchange, ends}
use Rattle.ldap_session.proofs.directory_api.Talks.{talks_join}
use Rattle.ldap_session.specs.session_handler.Session.{ConfigValue}
use Rattle.client_link.specs.Served.{HasServed, none, one_more, HasServedSome, GoesAlong, config_of}

pub none_served : {D T : Type 0} (allows : D → Exchange T → D → Type 0) (c : ConfigValue) (d : D) →
    HasServedSome allows c d d
none_served allows c d = ([], none)

pub one_more_served : {D T : Type 0} (allows : D → Exchange T → D → Type 0) (c : ConfigValue) (d e f : D)
    (session : ℕ) → HasServedSome allows c d e
    → HasServed allows (config_of c session) e f → HasServedSome allows c d f
one_more_served allows c d e f session first second = (_, one_more session first.1 second)

pub goes_along : {D T : Type 0} (allows : D → Exchange T → D → Type 0) → GoesAlong allows
goes_along allows c d e sessions none = ([], ends)
goes_along {D} {T} allows c d f sessions (one_more {e = e} {sessions = earlier} session first second) =
    let talk = goes_along allows c d e earlier first in
    (talk.0 ++ second.talk, talks_join D T allows d e f talk.0 second.talk talk.1 second.along)
