-- What search doesn't prove of `count_alike`: `loop-at-preserved`, step by step.
use Rattle.std.proofs.Common.{◌≡◌, get_or, sym, ap, ◌∙◌, arith, rules}
use Rattle.std.proofs.lemmas.List.{take_more_same}
use Rattle.ldap_op.specs.Values.{OpValue}
use Rattle.vr_state.specs.Words.{LogEntry}
use Rattle.log_journal.proofs.alike.count_alike.Goals as goal

pub loop-at-preserved : goal.loop-at-preserved
loop-at-preserved c =
    let e : c.index-old-at.result ≡ c.index-new-at.result = c.is_same_entry.ensures.same (search rules) in
    take_more_same c.args.old.now c.args.new.now c.loop-at.at c.index-old-at.result (omega arith) (omega arith)
    c.loop-at.invariant
    (sym c.index-old-at.is ∙ e ∙ c.index-new-at.is
    ∙ sym (ap (λ (d : LogEntry OpValue). get_or c.args.new.now c.loop-at.at d) e))
