-- What a read finds at a node is found in what is committed in the world.
use Rattle.std.proofs.Common.{◌≡◌, ℕ, ◌≤◌, inr, List, [], length, take, refl, sym, ap, ◌∙◌, arith, length-append}
use Rattle.std.specs.Arc.{arc_value}
use Rattle.std.proofs.Math.Seq.{take-append_seam}
use Rattle.dir_search.specs.Answer.{answer}
use Rattle.dir_search.specs.Compared.{compared}
use Rattle.dir_search.specs.directory_api.View.{answer_view, reply_view}
use Rattle.dir_search.specs.indexed_tree.Directory.{Directory}
use Rattle.dir_search.specs.ldap_msg.View.{compare_view, search_view}
use Rattle.dir_search.specs.ldap_msg.ldap_requests.declared.compare.CompareRequest.{CompareRequest}
use Rattle.dir_search.specs.ldap_msg.ldap_requests.declared.search.SearchRequest.{SearchRequest}
use Rattle.state_machine.specs.Executing.{ops_of}
use Rattle.state_machine.specs.dir_store.Updates.{directory_of}
use Rattle.state_machine.specs.dir_store.ldap_dn.Names.{RdnModel}
use Rattle.state_machine.specs.dir_store.ldap_op.Values.{OpValue}
use Rattle.state_machine.specs.dir_store.ldap_schema.Schema.{SchemaModel}
use Rattle.vr_state.proofs.Laws.{prefix_trans}
use Rattle.vr_state.specs.Lists.{IsPrefix}
use Rattle.vr_state.specs.Words.{LogEntry}
use Rattle.vr_world.specs.Committed.{committed}
use Rattle.vr_world.specs.Law.{IsSize}
use Rattle.vr_world.specs.World.{World}
use Rattle.dir_machine.proofs.Gives.{down_not_up, unborn_not_up}
use Rattle.dir_machine.proofs.Processes.{IsQuiet}
use Rattle.dir_machine.proofs.Worlds.{IsReached, begins_committed}
use Rattle.dir_machine.specs.Happening.{IsReadIn, IsTooEarly, MayHappen}
use Rattle.dir_machine.specs.Shown.{stage}
use Rattle.dir_machine.specs.private.Processes.{IsCompared, IsEarlyAt, IsFoundBy, IsSearched, MemoryNode}
use Rattle.dir_machine.specs.private.Running.{IsUp, StandsFor}
use Rattle.dir_machine.specs.declared.events.MachineEvent.TheVariants as event
use Rattle.dir_machine.specs.declared.machine.Machine.{Machine}
use Rattle.dir_machine.specs.declared.process.Process.{Process}
use Rattle.dir_machine.specs.declared.process.Process.TheVariants.{Unborn, Up, Down}
use Rattle.dir_machine.specs.declared.replies.MachineReply.{MachineReply}
use Rattle.dir_machine.specs.declared.replies.MachineReply.TheVariants as reply

-- as many of the first as a list that it begins with
first_of : {A : Type 0} (xs all : List A) → IsPrefix xs all → take (length xs) all ≡ xs
first_of {A} xs all p = ap (λ (l : List A). take (length xs) l) (sym p.is) ∙ take-append_seam xs p.rest

no_longer : {A : Type 0} (xs all : List A) (n : ℕ) → IsPrefix xs all → n ≡ length xs → n ≤ length all
no_longer xs all n p is = omega (arith, is, ap length p.is, length-append xs p.rest)

module _ (m : Machine) (size : IsSize m.count) (w : World OpValue) (i : ℕ) (reached : IsReached m.count w) where
  -- what is committed
  abbrev all : List (LogEntry OpValue)
  all = committed m.count w.messages

  -- what a node has executed begins it
  begins : (n : MemoryNode) → IsUp m w i n → IsPrefix n.executed.records all
  begins n u = prefix_trans u.executed (begins_committed m.count size w i n.replica reached u.replica)

  -- A read at a node that is up.
  found_in : {A : Type 0} (n : MemoryNode) → IsUp m w i n → (named number : ℕ) (read : Directory → A) (found : A) →
      IsFoundBy n named number read found → IsReadIn (arc_value m.schema) m.suffix all named number read found
  found_in n u named number read found by = record {
    enough = by.enough;
    within = no_longer n.executed.records all number (begins n u) by.executed;
    is =
        by.is
        ∙ ap (λ (s : SchemaModel). read (directory_of s n.executed.suffix (ops_of n.executed.records))) u.schema
        ∙ ap (λ (root : List RdnModel). read (directory_of (arc_value m.schema) root (ops_of n.executed.records)))
        u.suffix
        ∙ ap (λ (l : List (LogEntry OpValue)). read (directory_of (arc_value m.schema) m.suffix (ops_of l)))
        (sym (ap (λ (k : ℕ). take k all) by.executed ∙ first_of n.executed.records all (begins n u)));
  }

  too_early : (n : MemoryNode) → IsUp m w i n → (named number : ℕ) → IsEarlyAt n named number →
      IsTooEarly all named number
  too_early n u named number early = record {
    fewer = early.fewer;
    within = no_longer n.executed.records all number
        (begins n u) early.executed;
  }

  -- What is shown of a search at a process.
  pub searched_on : (shown : List MachineReply) (named : ℕ) (q : SearchRequest) (p : Process) (x : MachineReply) →
      StandsFor m w i (stage shown i) p → IsSearched i named (search_view q) p x
      → MayHappen (arc_value m.schema) m.suffix m.cluster m.count m.journaled shown (event.Search i named q) x [] w
      × IsQuiet x
  searched_on shown named q (Up n f) (reply.Found j number a) stands is = (
    (is.0, refl, found_in n stands.1 named number (λ d. answer d (search_view q)) (answer_view a) is.1),
    record {
      stages = λ k s. refl;
      silent = λ part at y h. absurd (cc);
    },
  )
  searched_on shown named q (Up n f) (reply.NotYet j number) stands is = (
    (is.0, refl, too_early n stands.1 named number is.1),
    record {
      stages = λ k s. refl;
      silent = λ part at y h.
          absurd (cc);
    },
  )
  searched_on shown named q (Up n f) (reply.Refused j e) stands is =
      ((is.0, is.1, refl), record { stages = λ k s. refl; silent = λ part at y h. absurd (cc) })
  searched_on shown named q (Down image) reply.Nothing stands is =
      ((refl, inr (down_not_up stands.0)), record { stages = λ k s. refl; silent = λ part at y h. absurd (cc) })
  searched_on shown named q (Unborn image) reply.Nothing stands is =
      ((refl, inr (unborn_not_up stands.0)), record { stages = λ k s. refl; silent = λ part at y h. absurd (cc) })
  searched_on shown named q _ _ stands is = absurd is

  -- What is shown of a compare.
  pub compared_on : (shown : List MachineReply) (named : ℕ) (q : CompareRequest) (p : Process) (x : MachineReply) →
      StandsFor m w i (stage shown i) p → IsCompared i named (compare_view q) p x
      → MayHappen (arc_value m.schema) m.suffix m.cluster m.count m.journaled shown (event.Compare i named q) x [] w
      × IsQuiet x
  compared_on shown named q (Up n f) (reply.Compared j number r) stands is = (
    (is.0, refl, found_in n stands.1 named number (λ d. compared d (compare_view q)) (reply_view r) is.1),
    record {
      stages = λ k s. refl;
      silent = λ part at y h. absurd (cc);
    },
  )
  compared_on shown named q (Up n f) (reply.NotYet j number) stands is = (
    (is.0, refl, too_early n stands.1 named number is.1),
    record {
      stages = λ k s. refl;
      silent = λ part at y h.
          absurd (cc);
    },
  )
  compared_on shown named q (Up n f) (reply.Refused j e) stands is =
      ((is.0, is.1, refl), record { stages = λ k s. refl; silent = λ part at y h. absurd (cc) })
  compared_on shown named q (Down image) reply.Nothing stands is =
      ((refl, inr (down_not_up stands.0)), record { stages = λ k s. refl; silent = λ part at y h. absurd (cc) })
  compared_on shown named q (Unborn image) reply.Nothing stands is =
      ((refl, inr (unborn_not_up stands.0)), record { stages = λ k s. refl; silent = λ part at y h. absurd (cc) })
  compared_on shown named q _ _ stands is = absurd is
