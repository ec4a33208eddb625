-- What search doesn't prove of `start_alone`: what it returns, by lemmas of `Opened`.
use Rattle.std.proofs.Common.{refl}
use Rattle.dir_machine.proofs.Opened.{alone_placed, alone_refused, alone_started}
use Rattle.dir_machine.proofs.starting.start_alone.Goals as goal

pub returns-in-Ok : goal.returns-in-Ok
returns-in-Ok c = alone_started c.args.machine.now c.args.replica c.in_ok-config.config c.in_ok-config.ensures.schema
    c.in_ok-config.ensures.suffix c.in_ok-config.ensures.cluster c.in_ok-config.ensures.index
    c.in_ok-config.ensures.count
    c.args.image c.in_ok-device.device c.in_ok-device.ensures
    c.in-Ok.node c.in-Ok.outputs c.restarts-restarts.result c.args.fates (c.in-Ok.ensures.own refl)
    (c.in-Ok.ensures.made refl) (c.in-Ok.ensures.outputs refl) c.in-Ok.ensures.kept c.in-Ok.ensures.logged
    c.in-Ok.ensures.journaled c.restarts-restarts.ensures
    (alone_placed c.args.machine.now c.args.replica c.in_ok-config.config c.in_ok-config.ensures.schema
    c.in_ok-config.ensures.suffix c.in_ok-config.ensures.cluster c.in_ok-config.ensures.index
    c.in_ok-config.ensures.count
    c.args.image c.in_ok-device.device c.in_ok-device.ensures
    c.in-Ok.node.device c.in-Ok.ensures.placed (c.in-Ok.ensures.any_moment refl))

pub returns-in_ok-image-in-Err : goal.returns-in_ok-image-in-Err
returns-in_ok-image-in-Err c = alone_refused c.args.machine.now c.args.replica c.in_ok-config.config
    c.in_ok-config.ensures.schema c.in_ok-config.ensures.suffix c.in_ok-config.ensures.cluster
    c.in_ok-config.ensures.index c.in_ok-config.ensures.count
    c.args.image c.in_ok-device.device c.in_ok-device.ensures
    c.in_ok-image-in-Err.image c.in-Err.refused.device c.refusal.result (c.in-Err.ensures.refused_moment refl)
    c.in_ok-image-in-Err.ensures c.refusal.ensures
