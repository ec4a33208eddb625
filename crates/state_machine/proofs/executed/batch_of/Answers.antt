use Rattle.std.proofs.Common.{◌≡◌, ◌+◌, List, [], ◌∷◌, ◌++◌, length, take, sym, ap, ◌∙◌, subst, arith}
use Rattle.std.proofs.lemmas.List.{length-take-le, take_more}
use Rattle.dir_store.specs.directory_api.log_entry.declared.words.LogEntry.{LogEntry}
use Rattle.dir_store.specs.ldap_op.Values.{OpValue}
use Rattle.state_machine.specs.private.Executing.{IsRun, replies_view}
use Rattle.state_machine.proofs.Folds.{run_pushed}
use Rattle.state_machine.proofs.executed.batch_of.Goals as goal

-- one more update is made, and its reply kept
pub loop-entry-preserved : goal.loop-entry-preserved
loop-entry-preserved c =
    let i = c.loop-entry.entry-index in
    let es = c.args.entries.now in
    let e = c.entry-item.result in
    let more : take (i + 1) es ≡ take i es ++ e ∷ [] = take_more es i e c.loop-entry-test.true
    ∙ ap (λ (x : LogEntry OpValue). take i es ++ x ∷ []) (sym c.entry-item.is) in
    let so-many : length (take i es) ≡ i = length-take-le i es c.loop-entry.auto.entry-index-end in
    record {
      number = omega (arith, c.loop-entry.invariant.number);
      records =
          c.in_ok-push.ensures.items ∙ ap (λ (l : List (LogEntry OpValue)). l ++ c.in_ok-copy.field-0 ∷ [])
          c.loop-entry.invariant.records
          ∙ ap (λ (x : LogEntry OpValue). take i es ++ x ∷ []) c.in_ok-copy.ensures ∙ sym more;
      run = subst (λ (l : List (LogEntry OpValue)). IsRun c.args.store.directory c.args.number l
          c.in_ok-next.field-0.store.directory (replies_view c.push-in-loop-entry.new.self.items)) (sym more)
          (run_pushed c.args.store.directory c.args.number (take i es) e c.loop-entry.store.directory
          c.in_ok-next.field-0.store.directory c.loop-entry.replies.items c.push-in-loop-entry.new.self.items
          c.in_ok-next.field-0.reply (c.loop-entry.last + 1) c.loop-entry.invariant.run
          (omega (arith, c.loop-entry.invariant.number, so-many)) c.in_ok-next.ensures.directory
          c.in_ok-next.ensures.reply c.in_ok-next.ensures.below c.in_ok-push-2.ensures.items);
      indexes = c.in_ok-next.ensures.indexes ∙ c.loop-entry.invariant.indexes;
    }
