-- What a publisher was given stays a beginning of what a node has executed. What an event and a publication make of it
-- is said here; code is not.
use Rattle.std.proofs.Common.{◌≡◌, List, ◌++◌, length, take, drop, Bool, true, false, sym, ap, subst, ◌∙◌, take-append-drop}
use Rattle.std.proofs.Math.Seq.{take-append_seam}
use mathlib.Core.List.{IsPrefix}
use Rattle.dir_node.specs.vr_state.Words.{LogEntry}
use Rattle.dir_node.specs.dir_store.ldap_op.Values.{OpValue}
use Rattle.dir_node.specs.state_machine.Executing.{ExecutedValue}
use Rattle.dir_node.specs.NodeState.{CatchesUp}
use Rattle.dir_seats.specs.Lists.{IsBeginning, with_records}
use Rattle.dir_seats.specs.Showing.{Showing}
use Rattle.dir_seats.proofs.Begins.{begins_self, begins_trans}
use Rattle.node_gate.specs.private.Given.{IsGiven, given_records}

-- what is executed by an event is put at the end
caught : (behind : Bool) (old due new : List (LogEntry OpValue)) → CatchesUp behind old due new → IsPrefix old new
caught false old due new p = (due, sym p)
caught true old due new p = (p.done, sym p.grown)

pub grown : (a b : ExecutedValue) (behind : Bool) (due : List (LogEntry OpValue)) → CatchesUp behind a.records due
    b.records
    → b.schema ≡ a.schema → b.suffix ≡ a.suffix → b.indexes ≡ a.indexes → IsBeginning a b
grown a b behind due p schema suffix indexes = record {
  schema = schema;
  suffix = suffix;
  indexes = indexes;
  records =
      caught behind a.records due b.records p;
}

pub stayed : (a b : ExecutedValue) → b ≡ a → IsBeginning a b
stayed a b e = subst (λ (x : ExecutedValue). IsBeginning a x) (sym e) (begins_self a)

-- what was given begins what was executed
pub given_begins : (executed : ExecutedValue) (shown : Showing) → IsGiven executed shown →
    IsBeginning (with_records shown.published shown.waiting) executed
given_begins executed shown g =
    let given = given_records shown in record {
      schema = g.0;
      suffix = g.1;
      indexes = g.2;
      records = (
        drop (length given) executed.records,
        ap (λ l. l ++ drop (length given) executed.records) (sym g.3) ∙ take-append-drop (length given)
            executed.records,
      );
    }

pub begins_given : (executed : ExecutedValue) (shown : Showing) →
    IsBeginning (with_records shown.published shown.waiting) executed → IsGiven executed shown
begins_given executed shown b =
    let given = given_records shown in
    (b.schema, b.suffix, b.indexes, ap (take (length given)) (sym b.records.1) ∙ take-append_seam given b.records.0)

-- after an event what was given before it still begins what is executed
pub given_on : (old new : ExecutedValue) (shown : Showing) → IsGiven old shown → IsBeginning old new → IsGiven new shown
given_on old new shown g more = begins_given new shown (begins_trans (with_records shown.published shown.waiting) old
    new (given_begins old shown g) more)

-- all that is executed was given
pub given_all : (executed : ExecutedValue) (shown : Showing) → with_records shown.published shown.waiting ≡ executed →
    IsGiven executed shown
given_all executed shown e = begins_given executed shown
    (subst (λ (x : ExecutedValue). IsBeginning (with_records shown.published shown.waiting) x) e (begins_self _))
