use Rattle.dir_node.proofs.Views.{stored_error, unwritten, why_unstored}
use Rattle.dir_node.proofs.restarting.store_start.Goals as goal

-- the pair's device isn't called
pub returns-in-Err-clause-any_moment : goal.returns-in-Err-clause-any_moment
returns-in-Err-clause-any_moment g c = λ placed.
    unwritten g.D.Device.seen g.D.Device.may_leave g.D.Device.moment g.D.Device.left_since c.args.views.now.device
    c.args.views.now.cluster c.args.pair placed c.requires.settled (g.met.D.Device.only_now c.args.views.now.device)

pub returns-in-Err-store-clause-no_pair : goal.returns-in-Err-store-clause-no_pair
returns-in-Err-store-clause-no_pair g c = λ is. why_unstored c.args.views.now _ c.requires.ready
    (c.in-Err-store.ensures.no_pair.0 (stored_error c.in-Err-store.error _ is))
