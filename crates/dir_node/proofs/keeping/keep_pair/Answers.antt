use Rattle.dir_node.proofs.Views.{untouched, why_not_stored}
use Rattle.dir_node.proofs.keeping.keep_pair.Goals as goal

-- no device is called
pub returns-then-pair-former-clause-any_moment : goal.returns-then-pair-former-clause-any_moment
returns-then-pair-former-clause-any_moment g c = λ placed.
    untouched g.D.Device.seen g.D.Device.may_leave g.D.Device.moment g.D.Device.left_since c.args.views.now.device
    c.args.views.now.cluster
    (record c.args.pair { view = c.args.former }) c.args.pair placed c.requires.held.holds c.requires.held.settled
    (g.met.D.Device.only_now c.args.views.now.device)

-- the restarts were stored before
pub returns-clause-no_pair : goal.returns-clause-no_pair
returns-clause-no_pair g c = λ is.
    why_not_stored g.D.Device.seen g.D.Device.may_leave c.args.views.now c.args.former c.args.pair c.requires.held
    (c.store.ensures.no_pair.0 is)
