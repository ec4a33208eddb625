-- What search doesn't prove of `ask_role`: what it returns, step by step.
use Rattle.directory_api.specs.Talk.{ends, goes}
use Rattle.session_handler.proofs.taking.ask_role.Goals as goal

pub returns : goal.returns
returns g c = (c.role-role.result.1, goes c.role-role.ensures (goes c.learn.ensures ends))
