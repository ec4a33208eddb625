-- What search doesn't prove of `update_all`: what `map_vec` requires, by lemmas of `Crossing`.
use denote.Param as Param
use denote.Param.Send.{IsSync, sendable}
use denote.Ref.{NamedLft}
use Rattle.session_pool.proofs.Crossing.{pool_sync}
use Rattle.session_pool.specs.contracts.pool.SessionPool as SessionPool
use Rattle.session_pool.proofs.running.update_all.Goals as goal

pub map_vec-requires-sync-F : goal.map_vec-requires-sync-F
map_vec-requires-sync-F g c κs within =
    let pool : (a : NamedLft) → IsSync (SessionPool.the_row a (Param.param 0 g.row.R) (Param.param 1 g.row.T)) =
    λ a. pool_sync a (Param.param 0 g.row.R) (Param.param 1 g.row.T) c.type_bounds.sync-R c.type_bounds.sync-T in
    search (pool, sendable) depth 20
