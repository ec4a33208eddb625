-- What the threads of a pool share may cross threads.
use denote.RattleType.{RattleType}
use denote.Ref.{NamedLft}
use denote.Struct.Declared
use denote.Param.Send.{IsSync, sendable, struct_sync, recorded_sync}
use Rattle.std.proofs.Crossing.{crosses}
use Rattle.std.proofs.sync.Condvar.TheSendSync as condvar
use Rattle.std.proofs.sync.Mutex.TheSendSync as mutex
use Rattle.std.proofs.sync.atomic.AtomicBool.TheSendSync as flag
use Rattle.std.proofs.time.Instant.TheSendSync as instant
use Rattle.client_link.proofs.Config.TheSendSync as config
use Rattle.client_link.proofs.Door.TheSendSync as door
use Rattle.session_turns.proofs.Budget.TheSendSync as budget
use Rattle.session_pool.proofs.overview.Overview.TheSendSync as overview
use Rattle.session_pool.proofs.pool.Watch.TheSendSync as watch
use Rattle.session_pool.proofs.watching.Watcher.TheSendSync as watcher
use Rattle.session_pool.specs.contracts.pool.SessionPool as SessionPool
use Rattle.session_table.proofs.Crossing.{table_send}

-- A pool is shared by its threads where its runtime and whoever is told of its sessions are.
pub pool_sync : (a : NamedLft) (R T : RattleType) → IsSync R → IsSync T → IsSync (SessionPool.the_row a R T)
pool_sync a R T y z =
    recorded_sync (SessionPool.the_field a R T).row _ _ (SessionPool.the_type a R T).to_one
    (struct_sync (Declared.shape (SessionPool.the_type a R T)) (
      search (y, sendable) depth 10,
      (
        search (crosses, sendable) depth 20,
        (
          search (door.the_sync, crosses, sendable) depth 40,
          (
            search (z, sendable) depth 10,
            (
              search (config.the_field_sync, crosses, sendable) depth 40 fits 20000,
              (
                search (watcher.the_field_sync, crosses, sendable) depth 20,
                (
                  search (watch.the_send, mutex.the_sync, sendable) depth 20,
                  (
                    search (table_send, mutex.the_sync, sendable) depth 20,
                    (
                      condvar.the_field_sync,
                      (
                        condvar.the_field_sync,
                        (
                          search (flag.the_sync, crosses, sendable) depth 20,
                          (
                            search (budget.the_sync, crosses, sendable) depth 20,
                            (
                              search (overview.the_field_sync, crosses, sendable) depth 20,
                              (search (instant.the_field_sync, crosses, sendable) depth 20, tt),
                            ),
                          ),
                        ),
                      ),
                    ),
                  ),
                ),
              ),
            ),
          ),
        ),
      ),
    ))
