-- What clauses alone know owns nothing, so threads may share it.
use denote.Param.Send.{IsSync, owning_send, part_keyless, sendable}
use Rattle.ldap_op.specs.contracts.held.Meaning.{the_row, the_type}

pub sync : IsSync the_row
sync = record {
  shared = λ d b o κ q. part_keyless the_row (owning_send the_type (search sendable, tt) (λ e. tt)
      (λ k x w. tt)) q d b o;
}
