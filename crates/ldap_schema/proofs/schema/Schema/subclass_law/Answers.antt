-- What search doesn't prove of `subclass_law`: what it returns, by lemmas of `Lineage`.
use Rattle.std.proofs.Common.{◌≡◌, refl, subst}
use Rattle.ldap_schema.specs.Schema.{SchemaModel}
use Rattle.ldap_schema.specs.Superclasses.{AreSuperclassesKnown}
use Rattle.ldap_schema.proofs.Lineage.{as_lineage}
use Rattle.ldap_schema.proofs.schema.Schema.subclass_law.Goals as goal

known : (s t : SchemaModel) → s ≡ t → AreSuperclassesKnown s.classes → AreSuperclassesKnown t.classes
known s t e h = subst (λ (x : SchemaModel). AreSuperclassesKnown x.classes) e h

pub returns : goal.returns
returns c a b = as_lineage c.args.self.now a b _ (known _ _ c.self.view_is c.self.invariant.superclasses_known) refl
