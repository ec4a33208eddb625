-- What search doesn't prove of `answer_ready`: the clause `worked` and `loop-writer-preserved`, by lemmas of `Kept` and
-- `Worked`.
use Rattle.std.proofs.Common.{Bool, sym, subst, ap, ◌∙◌}
use Rattle.session_handler.specs.View.{config_view}
use Rattle.ldap_session.specs.Octets.{HasWritten}
use Rattle.ldap_session.specs.View.{SessionValue, ConversationValue, conversation_view}
use Rattle.ldap_session.specs.private.Steps.{HasWorked}
use Rattle.ldap_session.specs.declared.end.SessionEnd.TheVariants.{WriteFailed}
use Rattle.ldap_session.specs.declared.serving.Flow.TheVariants.{Ends}
use Rattle.ldap_session.proofs.Kept.{on_true}
use Rattle.ldap_session.proofs.Worked.{SoFar, more_answered, put_failed, put_last}
use Rattle.ldap_session.proofs.serving.answer_ready.Goals as goal

pub returns-then-not-put_unsent-clause-worked : goal.returns-then-not-put_unsent-clause-worked
returns-then-not-put_unsent-clause-worked g c =
    let written =
    subst (λ (b : Bool). HasWritten (g.W.Write.contents c.loop-writer.writer)
    (g.W.Write.contents c.put_unsent.new.writer) (conversation_view c.answer.new.self).unsent b)
    c.if-not-put_unsent.true c.put_unsent.ensures.written in
    subst
    (λ (s : SessionValue).
    HasWorked g.D.Directory.allows (config_view c.args.config.now) c.args.directory.now c.answer.new.directory
    (conversation_view c.args.conversation.now).session s
    (g.W.Write.contents c.args.writer.now) (g.W.Write.contents c.put_unsent.new.writer) (Ends WriteFailed))
    (sym c.put_unsent.ensures.session)
    (put_failed g.D.Directory.allows (config_view c.args.config.now) c.args.directory.now c.loop-writer.directory
    c.answer.new.directory
    (conversation_view c.args.conversation.now).session (conversation_view c.loop-writer.conversation)
    (conversation_view c.answer.new.self)
    (g.W.Write.contents c.args.writer.now) (g.W.Write.contents c.loop-writer.writer)
    (g.W.Write.contents c.put_unsent.new.writer)
    c.loop-writer.invariant.0 c.loop-writer.invariant.1.none_unsent
    (c.in-Answered.ensures.step c.loop-writer.invariant.1.goes_on) written)

pub loop-writer-preserved : goal.loop-writer-preserved
loop-writer-preserved g c =
    let turn = c.in-Answered.ensures.step c.loop-writer.invariant.1.goes_on in
    let written =
    subst (λ (b : Bool). HasWritten (g.W.Write.contents c.loop-writer.writer)
    (g.W.Write.contents c.put_unsent.new.writer) (conversation_view c.answer.new.self).unsent b)
    c.if-not-put_unsent.false c.put_unsent.ensures.written in
    let sent = on_true c.put_unsent.result c.if-not-put_unsent.false c.put_unsent.ensures.sent in (
      subst
          (λ (s : SessionValue).
          SoFar g.D.Directory.allows (config_view c.args.config.now) c.args.directory.now c.answer.new.directory
          (conversation_view c.args.conversation.now).session s
          (g.W.Write.contents c.args.writer.now) (g.W.Write.contents c.put_unsent.new.writer))
          (sym c.put_unsent.ensures.session)
          (more_answered g.D.Directory.allows (config_view c.args.config.now) c.args.directory.now
          c.loop-writer.directory c.answer.new.directory
          (conversation_view c.args.conversation.now).session (conversation_view c.loop-writer.conversation)
          (conversation_view c.answer.new.self)
          (g.W.Write.contents c.args.writer.now) (g.W.Write.contents c.loop-writer.writer)
          (g.W.Write.contents c.put_unsent.new.writer)
          c.loop-writer.invariant.0 c.loop-writer.invariant.1.none_unsent turn written),
      record {
        none_unsent = ap (λ (v : ConversationValue). v.unsent) sent;
        goes_on = ap (λ (v : ConversationValue). v.end) sent ∙ turn.end_is;
      },
    )

pub returns-in-Ends-clause-worked : goal.returns-in-Ends-clause-worked
returns-in-Ends-clause-worked g c =
    subst
    (λ (s : SessionValue).
    HasWorked g.D.Directory.allows (config_view c.args.config.now) c.args.directory.now c.answer.new.directory
    (conversation_view c.args.conversation.now).session s
    (g.W.Write.contents c.args.writer.now) (g.W.Write.contents c.put_last.new.writer) (Ends c.put_last.result))
    (sym c.put_last.ensures.session)
    (put_last g.D.Directory.allows (config_view c.args.config.now) c.args.directory.now c.loop-writer.directory
    c.answer.new.directory
    (conversation_view c.args.conversation.now).session (conversation_view c.loop-writer.conversation)
    (conversation_view c.answer.new.self)
    (g.W.Write.contents c.args.writer.now) (g.W.Write.contents c.loop-writer.writer)
    (g.W.Write.contents c.put_last.new.writer) c.in-Ends.end c.put_last.result
    c.loop-writer.invariant.0 c.loop-writer.invariant.1.none_unsent
    (c.in-Ends.ensures.step c.loop-writer.invariant.1.goes_on) c.put_last.ensures.put)
