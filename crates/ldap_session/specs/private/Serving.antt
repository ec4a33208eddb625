-- A whole session, octets to octets: what contracts that aren't public say of it.
-- What public contracts say is in specs/Serving.
use Rattle.std.specs.Prelude.{ℕ, List}
use Rattle.session_handler.specs.directory_api.Talk.{Exchange}
use Rattle.session_handler.specs.Session.{ConfigValue}
use Rattle.ldap_session.specs.Octets.{octets_of}
use Rattle.ldap_session.specs.View.{SessionValue}
use Rattle.ldap_session.specs.Progress.{Reached}
use Rattle.ldap_session.specs.declared.serving.Flow.{Flow}
use Rattle.ldap_session.specs.declared.serving.Flow.TheVariants.{Goes, Ends as EndsWith}
use Rattle.ldap_session.specs.Serving.{Ends, IsCaughtUp}

-- What a session comes to once a piece is read: it has answered every message and goes on, or it has ended.
abbrev pub ComesTo : {D T : Type 0} → (D → Exchange T → D → Type 0) → ConfigValue → D → D → SessionValue → List ℕ →
    List ℕ → Flow → Type 0
ComesTo allows c d e s read written Goes = Reached octets_of allows c d e s read written × IsCaughtUp s
ComesTo allows c d e s read written (EndsWith end) = Ends octets_of allows c d e read written end
