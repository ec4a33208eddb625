-- What search doesn't prove of `serve_sessions`: what `join-served` requires, by lemmas of `Crossing`.
use denote.Param as Param
use denote.Param.Send.{IsSync, sendable}
use denote.Ref.{NamedLft}
use Rattle.std.proofs.net.tcp.TcpListener.TheSendSync as tcp
use Rattle.session_pool.proofs.Crossing.{pool_sync}
use Rattle.session_pool.specs.contracts.pool.SessionPool as SessionPool
use Rattle.session_pool.proofs.running.serve_sessions.Goals as goal

pub join-served-requires-send-F : goal.join-served-requires-send-F
join-served-requires-send-F g c κs within =
    let pool : (a : NamedLft) → IsSync (SessionPool.the_row a (Param.param 0 g.row.R) (Param.param 1 g.row.T)) =
    λ a. pool_sync a (Param.param 0 g.row.R) (Param.param 1 g.row.T) c.type_bounds.sync-R c.type_bounds.sync-T in
    search (pool, tcp.the_sync, sendable) depth 20
