-- What search doesn't prove of `meet`: what it returns, by lemmas of `Passing`.
use Rattle.std.proofs.Common.{rules, ◌≡◌, take, drop}
use Rattle.peer_link.proofs.Passing.{meets, passes_on}
use Rattle.peer_link.proofs.meeting.meet.Goals as goal

pub returns-in-Err : goal.returns-in-Err
returns-in-Err c =
    let same : c.in-Some.first.now ≡ take 13 c.args.frame.now = search rules in
    passes_on c.args.cluster c.args.frame.now c.in-Some.first.now c.args.own.now c.in-Err.error same c.in-Err.ensures

pub returns : goal.returns
returns c =
    let same : c.in-Some.first.now ≡ take 13 c.args.frame.now = search rules in
    let rest : c.in-Some.behind.now ≡ drop 13 c.args.frame.now = search rules in
    meets c.args.cluster c.args.frame.now c.in-Some.first.now c.in-Some.behind.now c.args.own.now c.in-Ok.heading
    c.meet_sender.result same rest c.in-Ok.ensures c.if-behind-heading.false c.meet_sender.ensures
