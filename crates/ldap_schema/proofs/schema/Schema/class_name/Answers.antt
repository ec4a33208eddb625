-- What search doesn't prove of `class_name`: the clause `found`, by lemmas of `Called`.
use Rattle.std.proofs.Common.{ap, sym, ◌∙◌}
use Rattle.std.specs.Option.{option_copied}
use Rattle.ldap_schema.proofs.Called.{class_found}
use Rattle.ldap_schema.proofs.schema.Schema.class_name.Goals as goal

pub returns-clause-found : goal.returns-clause-found
returns-clause-found c =
    rw c.first_name.ensures (class_found c.args.self.now c.args.class_id c.in_ok-object_class.field-0.now
    (sym c.object_class.ensures ∙ ap option_copied c.in_ok-object_class.was))
