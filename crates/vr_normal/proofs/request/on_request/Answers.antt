-- What search doesn't prove of `on_request`: the clause `step`, by lemmas of `Asking`.
use Rattle.std.proofs.lemmas.Result.{IfOk-weaker}
use Rattle.std.proofs.Common.{Some, None, sym, ap, ◌∙◌}
use Rattle.vr_state.specs.Views.{state}
use Rattle.vr_normal.proofs.Asking.{another, asked, if_both, latest_again, newer, older, too_early, unled}
use Rattle.vr_normal.proofs.request.on_request.Goals as goal
use Rattle.vr_normal.proofs.request.on_request.Goals.{else-last-entry-2-via-then-last-entry-2+else-last-replica, else-last-entry-2-via-else-last-entry-2}

pub returns-then-not-leads-clause-step : goal.returns-then-not-leads-clause-step
returns-then-not-leads-clause-step g c =
    let r = c.args.replica.now in
    unled r.count r.index (state r) c.args.entry c.sending.result.sends.items c.sending.result.replies.items
    c.if-not-leads.ensures (ap (λ v. v.items) c.sending.ensures.sends ∙ c.new.ensures.items) c.sending.ensures.replies

pub returns-in-None-clause-step : goal.returns-in-None-clause-step
returns-in-None-clause-step g c =
    let r = c.args.replica.now in
    IfOk-weaker c.prepare.result _ _
    (λ _. asked r.count r.index (state r) c.args.entry None c.if-not-leads.ensures (sym c.in-None.is
    ∙ c.latest.ensures ∙ r.tabled c.args.entry.client))
    c.prepare.ensures.step

pub returns-then-last-entry-clause-step : goal.returns-then-last-entry-clause-step
returns-then-last-entry-clause-step g c =
    let r = c.args.replica.now in
    IfOk-weaker c.prepare-then-last-entry.result _ _
    (λ _ prepared. asked r.count r.index (state r) c.args.entry (Some c.in-Some.last) c.if-not-leads.ensures
    (sym c.in-Some.is ∙ c.latest.ensures ∙ r.tabled c.args.entry.client)
    (newer r.count r.index (state r) c.args.entry c.in-Some.last c.if-last-entry.true prepared))
    c.prepare-then-last-entry.ensures.step

pub returns-then-last-replica-clause-step : goal.returns-then-last-replica-clause-step
returns-then-last-replica-clause-step g c =
    let r = c.args.replica.now in
    if_both c.answer_again.result c.answer_again.ensures.sends c.answer_again.ensures.replies
    (λ out hs hr. asked r.count r.index (state r) c.args.entry (Some c.in-Some.last) c.if-not-leads.ensures
    (sym c.in-Some.is ∙ c.latest.ensures ∙ r.tabled c.args.entry.client)
    (latest_again r.count r.index (state r) c.args.entry c.in-Some.last out.sends.items out.replies.items
    c.if-last-entry.false c.if-last-entry-2.true c.if-last-replica.true hs hr))

pub returns-clause-step : goal.returns-clause-step
returns-clause-step g c =
    let r = c.args.replica.now in
    let last = c.in-Some.last in
    asked r.count r.index (state r) c.args.entry (Some last) c.if-not-leads.ensures (sym c.in-Some.is
    ∙ c.latest.ensures ∙ r.tabled c.args.entry.client)
    (older r.count r.index (state r) c.args.entry last c.sending-else-last-entry-2.result.sends.items
    c.sending-else-last-entry-2.result.replies.items c.if-last-entry.false
    (elim c.else-last-entry-2.branch [
      | else-last-entry-2-via-then-last-entry-2+else-last-replica w ↦ too_early last.request_number
          c.args.entry.request_number last.op_number r.commit_number w.if-last-replica.false
      | else-last-entry-2-via-else-last-entry-2 w ↦ another last.request_number c.args.entry.request_number
          last.op_number r.commit_number w.if-last-entry-2.false
    ])
    (ap (λ v. v.items) c.sending-else-last-entry-2.ensures.sends ∙ c.new-else-last-entry-2.ensures.items)
    c.sending-else-last-entry-2.ensures.replies)
