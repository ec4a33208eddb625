-- What search doesn't prove of `look`: what it returns, step by step.
use Rattle.ldap_op.proofs.op.Op.look.Goals as goal

pub returns-in-Ok : goal.returns-in-Ok
returns-in-Ok c =
    let e = c.in-Ok.ensures.only _ c.as_slice.ensures.read in
    search (e, c.self.view_is, c.in-Written.is, c.deref.ensures) depth 6
