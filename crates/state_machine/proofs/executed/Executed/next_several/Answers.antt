use Rattle.std.proofs.Common.{List, ◌++◌, ap, ◌∙◌, subst, arith}
use Rattle.dir_store.specs.directory_api.log_entry.declared.words.LogEntry.{LogEntry}
use Rattle.dir_store.specs.ldap_op.Values.{OpValue}
use Rattle.dir_store.specs.indexed_tree.Listed.{StoreModel}
use Rattle.state_machine.specs.Executing.{ExecutedValue}
use Rattle.state_machine.specs.private.Executing.{IsRun, replies_view}
use Rattle.state_machine.proofs.Folds.{run_schema, run_suffix, fold_joined}
use Rattle.state_machine.proofs.executed.Executed.next_several.Goals as goal

-- the records, their updates and their replies stand behind those that were there
pub invariant_of-self-2 : goal.invariant_of-self-2
invariant_of-self-2 c =
    let made = c.in_ok-records.field-0 in
    let run = subst (λ (s : StoreModel). IsRun s.directory c.len-number.result c.args.entries.now made.store.directory
    (replies_view made.replies.items)) c.in_ok-store.ensures c.in_ok-records.ensures.run in
    fold_joined c.self.inside.records.items c.args.entries.now c.append.new.self.items c.self.inside.store.directory
    made.store.directory c.self.inside.replies.items made.replies.items c.append-2.new.self.items c.len-number.result
    c.self.invariant run (omega (arith, c.len-number.ensures))
    (c.in_ok-append.ensures.items
    ∙ ap (λ (l : List (LogEntry OpValue)). l ++ made.records.items) c.in_ok-reserve.ensures.items
    ∙ ap (λ (l : List (LogEntry OpValue)). c.self.inside.records.items ++ l) c.in_ok-records.ensures.records)
    (c.in_ok-append-2.ensures.items ∙ ap (λ l. l ++ made.replies.items) c.in_ok-reserve-2.ensures.items)

pub returns-clause-schema : goal.returns-clause-schema
returns-clause-schema c =
    let made = c.in_ok-records.field-0 in
    run_schema c.in_ok-store.store.directory made.store.directory c.len-number.result c.args.entries.now
    (replies_view made.replies.items) c.in_ok-records.ensures.run
    ∙ ap (λ (s : StoreModel). s.directory.schema) c.in_ok-store.ensures
    ∙ ap (λ (e : ExecutedValue). e.schema) c.self.view_is

pub returns-clause-suffix : goal.returns-clause-suffix
returns-clause-suffix c =
    let made = c.in_ok-records.field-0 in
    run_suffix c.in_ok-store.store.directory made.store.directory c.len-number.result c.args.entries.now
    (replies_view made.replies.items) c.in_ok-records.ensures.run
    ∙ ap (λ (s : StoreModel). s.directory.suffix) c.in_ok-store.ensures
    ∙ ap (λ (e : ExecutedValue). e.suffix) c.self.view_is
