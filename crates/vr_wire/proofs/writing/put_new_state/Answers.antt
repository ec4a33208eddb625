-- What search doesn't prove of `put_new_state`: the clause `spelled`, by lemmas of `PutLaws`.
use Rattle.std.proofs.Common.{ℕ, List, ◌++◌, ap, subst, append_assoc}
use Rattle.ldap_op.specs.Values.{OpValue}
use Rattle.vr_state.specs.Words.{LogEntry}
use Rattle.vr_state.specs.declared.message.PeerMessage.TheVariants.{NewState}
use Rattle.vr_wire.specs.Frames.{number, log_octets, body_octets}
use Rattle.vr_wire.specs.Payloads.{written, written_log}
use Rattle.vr_wire.specs.private.Putting.{most_under, PutsWithin}
use Rattle.vr_wire.proofs.PutLaws.{three_parts}
use Rattle.vr_wire.proofs.writing.put_new_state.Goals as goal

pub returns-clause-spelled : goal.returns-clause-spelled
returns-clause-spelled g c =
    let a = c.args in
    let d = a.tail.now in
    let put = subst (λ (l : List (LogEntry OpValue)). PutsWithin (most_under g.row.LIMIT) c.put_log.result
    c.put_two.new.out.items c.put_log.new.out.items (log_octets (written_log l))) c.as_slice.ensures
    c.put_log.ensures.spelled in
    three_parts (most_under g.row.LIMIT) c.put_log.result a.out.now.items c.put_number.new.out.items
    c.put_two.new.out.items c.put_log.new.out.items
    (number a.view_number) (number d.commit_number ++ number a.base) (log_octets (written_log d.log))
    (body_octets (written (NewState a.view_number a.base d)))
    c.in_ok-put_number.ensures.spelled c.in_ok-put_two.ensures.spelled put
    (ap (λ (l : List ℕ). number a.view_number ++ l) (append_assoc (number d.commit_number) (number a.base)
    (log_octets (written_log d.log))))
