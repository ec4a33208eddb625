-- What search doesn't prove of `put_light`: what `put_reserved` requires, by lemmas of `Lightly`.
use Rattle.std.proofs.Common.{◌≡◌, ◌≤◌, ℕ, List, true, min, length, drop, ap, ap₂, ◌∙◌, arith, rules}
use Rattle.std.proofs.lemmas.List.{drop_min}
use Rattle.ldap_op.specs.Values.{OpValue}
use Rattle.ldap_op.specs.Written.{op_bytes}
use Rattle.vr_state.specs.State.{is_normal}
use Rattle.vr_state.specs.Views.{state}
use Rattle.vr_state.specs.Words.{LogEntry}
use Rattle.log_journal.proofs.Lightly.{first_fits, one_behind}
use Rattle.log_journal.proofs.light.put_light.Goals as goal

pub put_reserved-requires-in-len1-up-clause-room : goal.put_reserved-requires-in-len1-up-clause-room
put_reserved-requires-in-len1-up-clause-room c =
    let log = c.args.replica.now.log in
    let from : c.min-from.result ≡ min c.args.before.length (length log) = omega arith in
    let behind : c.split_at.result.1.now ≡ drop c.args.before.length log = c.split_at.ensures.back
    ∙ ap₂ (λ (k : ℕ) (l : List (LogEntry OpValue)). drop k l) from c.as_slice.ensures
    ∙ drop_min c.args.before.length log in
    let normal : is_normal c.args.replica.now.status ≡ true = search rules in
    let fits = first_fits c.args.room c.split_at.result.1.now (drop c.args.before.length log) c.entry-item.result
    (one_behind c.args.before (state c.args.replica.now) c.args.room c.requires.light normal) behind
    c.in-len1-up.len_at_least c.entry-item.is in
    omega (
      arith,
      fits,
      ap length c.entry_fields.ensures.rest,
      ap length c.in_ok-octets-in-len1-up.ensures.written,
      c.requires.room,
    )

pub put_reserved-requires-in-len1-up-clause-string_room : goal.put_reserved-requires-in-len1-up-clause-string_room
put_reserved-requires-in-len1-up-clause-string_room c =
    let log = c.args.replica.now.log in
    let from : c.min-from.result ≡ min c.args.before.length (length log) = omega arith in
    let behind : c.split_at.result.1.now ≡ drop c.args.before.length log = c.split_at.ensures.back
    ∙ ap₂ (λ (k : ℕ) (l : List (LogEntry OpValue)). drop k l) from c.as_slice.ensures
    ∙ drop_min c.args.before.length log in
    let normal : is_normal c.args.replica.now.status ≡ true = search rules in
    let fits = first_fits c.args.room c.split_at.result.1.now (drop c.args.before.length log) c.entry-item.result
    (one_behind c.args.before (state c.args.replica.now) c.args.room c.requires.light normal) behind
    c.in-len1-up.len_at_least c.entry-item.is in
    omega (
      arith,
      fits,
      ap length c.entry_fields.ensures.rest,
      ap length c.in_ok-octets-in-len1-up.ensures.written,
      c.requires.string_room,
    )
