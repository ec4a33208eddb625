-- What search doesn't prove of `start_again`: the clause `any_moment`, the clause `no_pair` and the clause `placed`, by
-- lemmas of `Views`.
use Rattle.std.proofs.Common.{subst, sym, ap, ◌∙◌, rules}
use Rattle.view_store.specs.Slots.{own, IsWellPlaced}
use Rattle.dir_node.proofs.Views.{started_left, why_no_start}
use Rattle.dir_node.proofs.starting.start_again.Goals as goal

pub returns-in_err-store-clause-any_moment : goal.returns-in_err-store-clause-any_moment
returns-in_err-store-clause-any_moment g c =
    started_left g.D.Device.seen g.D.Device.may_leave g.D.Device.moment g.D.Device.left_since c.args.views.now.device
    c.store.new.self.device c.load.new.self c.args.views.now.cluster c.in_ok-pair.pair
    c.load.ensures.cluster (c.in_ok-held.ensures.found ∙ ap own (sym c.in_ok-pair.ensures.ok.0)) c.load.ensures.seen
    (c.load.ensures.any_moment c.requires.new) (c.store.ensures.any_moment c.in_ok-held.ensures.ready)

pub returns-in_err-store-clause-no_pair : goal.returns-in_err-store-clause-no_pair
returns-in_err-store-clause-no_pair g c = λ is.
    why_no_start g.D.Device.seen c.load.new.self c.args.views.now.cluster (g.D.Device.seen c.args.views.now.device)
    c.in_ok-pair.pair
    (c.in_ok-held.ensures.found ∙ ap own (sym c.in_ok-pair.ensures.ok.0)) c.load.ensures.seen
    c.in_ok-held.ensures.ready (c.in_err-store.ensures.no_pair.0 (search rules))

pub returns-clause-any_moment : goal.returns-clause-any_moment
returns-clause-any_moment g c =
    started_left g.D.Device.seen g.D.Device.may_leave g.D.Device.moment g.D.Device.left_since c.args.views.now.device
    c.store.new.self.device c.load.new.self c.args.views.now.cluster c.in_ok-pair.pair
    c.load.ensures.cluster (c.in_ok-held.ensures.found ∙ ap own (sym c.in_ok-pair.ensures.ok.0)) c.load.ensures.seen
    (c.load.ensures.any_moment c.requires.new) (c.store.ensures.any_moment c.in_ok-held.ensures.ready)

pub returns-clause-placed : goal.returns-clause-placed
returns-clause-placed g c = λ placed. c.in_ok-store.ensures.placed (subst IsWellPlaced (sym c.load.ensures.seen) placed)
