-- Which node it is: what contracts that aren't public say of it.
-- What public contracts say is in specs/Identities.
use Rattle.std.specs.Prelude.{◌≡◌}
use Rattle.dir_node.specs.declared.config.NodeConfig.{NodeConfig}
use Rattle.dir_node.specs.NodeState.{NodeValue}

-- A node is the replica of a configuration, at some start.
pub record IsReplicaOf {D J : Type 0} (config : NodeConfig) (n : NodeValue D J) : Type 0 where
  pub index : n.index ≡ config.index
  pub count : n.count ≡ config.count
  pub cluster : n.cluster ≡ config.cluster
