-- What search doesn't prove of `start_over`: what it returns, by lemmas of `Opened`.
use Rattle.std.proofs.Common.{refl}
use Rattle.journal.specs.Frames.{recorded}
use Rattle.journal.specs.Memory.{seen_after}
use Rattle.dir_machine.proofs.Opened.{over_placed, over_refused, over_started}
use Rattle.dir_machine.proofs.starting.start_over.Goals as goal

pub returns-in-Ok : goal.returns-in-Ok
returns-in-Ok c = over_started c.args.machine.now c.args.replica c.in_ok-config.config c.in_ok-config.ensures.schema
    c.in_ok-config.ensures.suffix c.in_ok-config.ensures.cluster c.in_ok-config.ensures.index
    c.in_ok-config.ensures.count
    c.args.image c.in_ok-device.device c.in_ok-device.ensures
    c.args.octets c.in_ok-journal.journal c.in_ok-journal.ensures c.in-Ok.node c.in-Ok.outputs
    c.restarts-restarts.result c.args.fates (c.in-Ok.ensures.restarted c.in_ok-journal.journal refl)
    c.in-Ok.ensures.kept c.in-Ok.ensures.logged
    c.in-Ok.ensures.journaled c.restarts-restarts.ensures
    (over_placed c.args.machine.now c.args.replica c.in_ok-config.config c.in_ok-config.ensures.schema
    c.in_ok-config.ensures.suffix c.in_ok-config.ensures.cluster c.in_ok-config.ensures.index
    c.in_ok-config.ensures.count
    c.args.image c.in_ok-device.device c.in_ok-device.ensures
    (recorded (seen_after c.in_ok-journal.journal.base c.in_ok-journal.journal.events)) c.in-Ok.node.device
    c.in-Ok.ensures.placed (c.in-Ok.ensures.any_moment_over c.in_ok-journal.journal refl))

pub returns-in_ok-left-in-Err : goal.returns-in_ok-left-in-Err
returns-in_ok-left-in-Err c = over_refused c.args.machine.now c.args.replica c.in_ok-config.config
    c.in_ok-config.ensures.schema c.in_ok-config.ensures.suffix c.in_ok-config.ensures.cluster
    c.in_ok-config.ensures.index c.in_ok-config.ensures.count
    c.args.image c.in_ok-device.device c.in_ok-device.ensures
    c.args.octets c.in_ok-journal.journal c.in_ok-journal.ensures c.in_ok-left-in-Err.left c.in-Err.refused.device
    c.in-Err.refused.journal c.refusal.result (c.in-Err.ensures.refused_moment_over c.in_ok-journal.journal refl)
    (c.in-Err.ensures.refused_log_moment c.in_ok-journal.journal refl) c.in_ok-left-in-Err.ensures.image
    c.in_ok-left-in-Err.ensures.journal c.refusal.ensures
