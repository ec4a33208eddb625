-- Which node it is: what no event at a node changes.
use Rattle.std.specs.Prelude.{ℕ, List}
use Rattle.std.specs.Arc.{arc_value}
use Rattle.dir_node.specs.dir_store.index_choice.declared.kinds.Kinds.{Kinds}
use Rattle.dir_node.specs.dir_store.ldap_dn.Names.{RdnModel}
use Rattle.dir_node.specs.dir_store.ldap_schema.Schema.{SchemaModel}
use Rattle.dir_node.specs.declared.config.NodeConfig.{NodeConfig}
use Rattle.dir_node.specs.NodeState.{NodeValue}

-- the replica that a node is, which of its starts, counted from 1, and what it executes over: a schema, the name of the
-- root, an index choice
pub record NodeIdentity : Type 0 where
  pub index : ℕ
  pub count : ℕ
  pub cluster : ℕ
  pub restarts : ℕ
  pub schema : SchemaModel
  pub suffix : List RdnModel
  pub indexes : List Kinds

-- the identity of a node
abbrev pub identity_of : {D J : Type 0} → NodeValue D J → NodeIdentity
identity_of n = record {
  index = n.index;
  count = n.count;
  cluster = n.cluster;
  restarts = n.restarts;
  schema = n.executed.schema;
  suffix = n.executed.suffix;
  indexes = n.executed.indexes;
}

-- the identity of a node that is the start of this number of the replica of a configuration
abbrev pub identity_by : NodeConfig → ℕ → NodeIdentity
identity_by config restarts = record {
  index = config.index;
  count = config.count;
  cluster = config.cluster;
  restarts = restarts;
  schema = arc_value config.schema;
  suffix = config.suffix;
  indexes = config.indexes;
}
