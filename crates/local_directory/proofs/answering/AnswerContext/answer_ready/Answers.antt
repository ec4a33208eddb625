-- What search doesn't prove of `answer_ready`: the clause `ok`, the clause `err` and `loop-answered-preserved`, by
-- lemmas of `Worked` and `Progressed` (`ldap_session`).
use Rattle.ldap_session.specs.session_handler.View.{config_view}
use Rattle.ldap_session.specs.session_handler.declared.answered.Next.TheVariants.{GoesOn, Unbound, Disconnected}
use Rattle.ldap_session.specs.View.{session_view}
use Rattle.ldap_session.proofs.Progressed.{goes_apart, goes_apart_too}
use Rattle.local_directory.proofs.Worked.{answered_some, put_as, more_answered, last_answered, not_put, not_answered}
use Rattle.local_directory.proofs.answering.AnswerContext.answer_ready.Goals as goal

pub returns-in-Ok-Unbound-clause-ok : goal.returns-in-Ok-Unbound-clause-ok
returns-in-Ok-Unbound-clause-ok g c =
    let put = put_as (g.W.Write.contents c.loop-answered.output) (g.W.Write.contents c.put_answered.new.output)
    c.in-Ok-Some.answered c.put_answered.result c.in-Ok-Unbound.field-0 Unbound c.in-Ok-Unbound.is
    c.in-Ok-Unbound.field-0-is c.put_answered.ensures.ok in
    last_answered g.D.Directory.allows (config_view c.args.self.now.config) c.args.directory.now
    c.loop-answered.directory c.answer.new.directory
    (session_view c.args.session.now) (session_view c.loop-answered.session) (session_view c.answer.new.self)
    (g.W.Write.contents c.args.output.now) (g.W.Write.contents c.loop-answered.output)
    (g.W.Write.contents c.put_answered.new.output) c.in-Ok-Some.answered Unbound c.loop-answered.invariant
    (answered_some g.D.Directory.allows (config_view c.args.self.now.config) (session_view c.loop-answered.session)
    (session_view c.answer.new.self) c.loop-answered.directory c.answer.new.directory
    c.answer.result c.in-Ok-Some.field-0 c.in-Ok-Some.answered c.in-Ok-Some.is c.in-Ok-Some.field-0-is c.answer.ensures)
    put.appended put.goes goes_apart

pub returns-in-Ok-Disconnected-clause-ok : goal.returns-in-Ok-Disconnected-clause-ok
returns-in-Ok-Disconnected-clause-ok g c =
    let put = put_as (g.W.Write.contents c.loop-answered.output) (g.W.Write.contents c.put_answered.new.output)
    c.in-Ok-Some.answered c.put_answered.result c.in-Ok-Disconnected.field-0 Disconnected
    c.in-Ok-Disconnected.is c.in-Ok-Disconnected.field-0-is c.put_answered.ensures.ok in
    last_answered g.D.Directory.allows (config_view c.args.self.now.config) c.args.directory.now
    c.loop-answered.directory c.answer.new.directory
    (session_view c.args.session.now) (session_view c.loop-answered.session) (session_view c.answer.new.self)
    (g.W.Write.contents c.args.output.now) (g.W.Write.contents c.loop-answered.output)
    (g.W.Write.contents c.put_answered.new.output) c.in-Ok-Some.answered Disconnected c.loop-answered.invariant
    (answered_some g.D.Directory.allows (config_view c.args.self.now.config) (session_view c.loop-answered.session)
    (session_view c.answer.new.self) c.loop-answered.directory c.answer.new.directory
    c.answer.result c.in-Ok-Some.field-0 c.in-Ok-Some.answered c.in-Ok-Some.is c.in-Ok-Some.field-0-is c.answer.ensures)
    put.appended put.goes goes_apart_too

pub returns-in-Err-put_answered-clause-err : goal.returns-in-Err-put_answered-clause-err
returns-in-Err-put_answered-clause-err g c =
    not_put g.D.Directory.allows (config_view c.args.self.now.config) c.args.directory.now c.loop-answered.directory
    c.answer.new.directory
    (session_view c.args.session.now) (session_view c.loop-answered.session) (session_view c.answer.new.self)
    (g.W.Write.contents c.args.output.now) (g.W.Write.contents c.loop-answered.output)
    (g.W.Write.contents c.put_answered.new.output) c.in-Ok-Some.answered c.in-Err-put_answered.fault
    c.loop-answered.invariant
    (answered_some g.D.Directory.allows (config_view c.args.self.now.config) (session_view c.loop-answered.session)
    (session_view c.answer.new.self) c.loop-answered.directory c.answer.new.directory
    c.answer.result c.in-Ok-Some.field-0 c.in-Ok-Some.answered c.in-Ok-Some.is c.in-Ok-Some.field-0-is c.answer.ensures)
    c.in-Err-put_answered.ensures.err

pub returns-in-Err-clause-err : goal.returns-in-Err-clause-err
returns-in-Err-clause-err g c =
    not_answered g.D.Directory.allows (config_view c.args.self.now.config) c.args.directory.now
    c.loop-answered.directory c.answer.new.directory
    (session_view c.args.session.now) (session_view c.loop-answered.session) (session_view c.answer.new.self)
    (g.W.Write.contents c.args.output.now) (g.W.Write.contents c.loop-answered.output) c.in-Err.error c.from.result
    c.loop-answered.invariant c.in-Err.ensures c.from.ensures

pub loop-answered-preserved : goal.loop-answered-preserved
loop-answered-preserved g c =
    let put = put_as (g.W.Write.contents c.loop-answered.output) (g.W.Write.contents c.put_answered.new.output)
    c.in-Ok-Some.answered c.put_answered.result c.in-Ok-GoesOn.field-0 GoesOn c.in-Ok-GoesOn.is
    c.in-Ok-GoesOn.field-0-is c.put_answered.ensures.ok in
    more_answered g.D.Directory.allows (config_view c.args.self.now.config) c.args.directory.now
    c.loop-answered.directory c.answer.new.directory
    (session_view c.args.session.now) (session_view c.loop-answered.session) (session_view c.answer.new.self)
    (g.W.Write.contents c.args.output.now) (g.W.Write.contents c.loop-answered.output)
    (g.W.Write.contents c.put_answered.new.output) c.in-Ok-Some.answered c.loop-answered.invariant
    (answered_some g.D.Directory.allows (config_view c.args.self.now.config) (session_view c.loop-answered.session)
    (session_view c.answer.new.self) c.loop-answered.directory c.answer.new.directory
    c.answer.result c.in-Ok-Some.field-0 c.in-Ok-Some.answered c.in-Ok-Some.is c.in-Ok-Some.field-0-is c.answer.ensures)
    put.appended put.goes
