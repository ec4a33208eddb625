-- What search doesn't prove of `update_in`: the clause `bad`, by lemmas of `NoText`.
use Rattle.std.proofs.Common.{◌≡◌, Err, ap}
use Rattle.ldif.specs.ldap_msg.View.{view}
use Rattle.lab_script.specs.declared.text_fault.TextError.TheVariants.{BadText}
use Rattle.lab_script.proofs.NoText.{no_message, no_update}
use Rattle.lab_script.proofs.messages.update_in.Goals as goal

pub returns-in-Ok-clause-bad : goal.returns-in-Ok-clause-bad
returns-in-Ok-clause-bad c = λ e op. no_update c.args.octets.now (view c.in-Ok.message) op c.in-Ok.ensures.only
    (c.asked.ensures.bad e)

pub returns-in-Err-clause-bad : goal.returns-in-Err-clause-bad
returns-in-Err-clause-bad c = λ e op.
    let same : c.in-Err.error ≡ BadText = cc in
    no_message c.args.octets.now op (c.in-Err.ensures.bad (ap Err same))
