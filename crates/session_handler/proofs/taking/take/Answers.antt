-- What search doesn't prove of `take`: what it returns, by lemmas of `Turning`.
use Rattle.std.proofs.Common.{refl}
use Rattle.session_handler.proofs.Turning.{said_is_done, answered, inquired}
use Rattle.session_handler.proofs.taking.take.Goals as goal

pub returns-in-NoRequest : goal.returns-in-NoRequest
returns-in-NoRequest g c = answered _ _ _ _ _ _ _ _ (c.in-NoRequest.ensures c.args.state.now)
    (said_is_done _ _ _ refl c.disconnect.ensures)

pub returns-in-Silence : goal.returns-in-Silence
returns-in-Silence g c = answered _ _ _ _ _ _ _ _ (c.in-Silence.ensures c.args.state.now)
    (said_is_done _ _ _ refl c.silence.ensures)

pub returns-in-Refusal : goal.returns-in-Refusal
returns-in-Refusal g c = answered _ _ _ _ _ _ _ _ (c.in-Refusal.ensures c.args.state.now) c.refuse.ensures

pub returns-in-Question : goal.returns-in-Question
returns-in-Question g c = inquired _ _ _ _ _ _ _ _ _ _ c.in-Question.ensures c.take_request.ensures
