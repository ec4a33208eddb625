-- What is heard of a frame, by its first four octets and those behind them.
use Rattle.std.proofs.Common.{rules, sym, ◌∙◌}
use Rattle.peer_messages.proofs.Heard.{frame_heard, frame_refused, frame_of_none}
use Rattle.peer_messages.proofs.senders.Senders.rest_of.Goals as goal

pub returns : goal.returns
returns c = frame_heard c.args.self.now c.args.first c.in-Some-Some.length.now c.in-Some-Some.behind.now
    c.in_ok-count.count (c.in-Ok._kind, c.in-Ok.sender) c.in-Some-Some.ensures.cases.same
    (search rules) c.in_ok-count.ensures c.in-Ok.ensures
    (sym c.have.ensures ∙ c.if-not-have.false) c.if-count-lt-BEHIND_LENGTH.false

pub returns-in-Err : goal.returns-in-Err
returns-in-Err c = frame_refused c.args.self.now c.args.first c.in-Some-Some.behind.now c.in-Err.error (search rules)
    c.in-Err.ensures

pub returns-then-not-have : goal.returns-then-not-have
returns-then-not-have c = frame_of_none c.args.self.now c.args.first c.in-Some-Some.behind.now
    (c.in-Ok._kind, c.in-Ok.sender) (search rules) c.in-Ok.ensures (sym c.have.ensures ∙ c.if-not-have.true)
