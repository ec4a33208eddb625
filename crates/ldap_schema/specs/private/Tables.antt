-- What a schema keeps beside its types and classes, so that questions to it are look-ups. No contract above names it.
use Rattle.std.specs.Prelude.{ℕ, List, Bool, IsTrue, ◌≡◌}
use Rattle.ldap_schema.specs.Schema.{SchemaModel, find, class_named, IsLoopless}
use Rattle.ldap_schema.specs.private.NameOrder.{IndexModel, find_in}
use Rattle.ldap_schema.specs.Superclasses.{AreSuperclassesKnown}
use Rattle.ldap_schema.specs.private.Lines.{IsRanking}
use Rattle.ldap_schema.specs.ObjectClassType.{IsObjectClassType}

-- the tables of a schema, and what is checked of it once
pub record AreTablesOf (s : SchemaModel) (ranks : List ℕ) (is_ranked : Bool) (object_class : ℕ)
    (type_index class_index : IndexModel) : Type 0 where
  pub loopless : IsLoopless s.types
  pub ranked : IsTrue is_ranked → IsRanking s.classes ranks
  pub superclasses_known : AreSuperclassesKnown s.classes
  pub object_class_is : IsObjectClassType s object_class
  pub types_are_found : (d : List ℕ) → find_in type_index d ≡ find s d
  pub classes_are_found : (d : List ℕ) → find_in class_index d ≡ class_named s d
