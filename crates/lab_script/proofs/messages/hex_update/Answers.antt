-- What search doesn't prove of `hex_update`: the clause `bad`, by lemmas of `NoText`.
use Rattle.std.proofs.Common.{Ok, ap, sym, ◌∙◌}
use Rattle.lab_script.proofs.NoText.{no_hex}
use Rattle.lab_script.proofs.messages.hex_update.Goals as goal

pub returns-clause-bad : goal.returns-clause-bad
returns-clause-bad c = λ e op. no_hex c.args.digits.now c.deref.result.now op (c.in_ok-octets.ensures.found
    ∙ ap Ok (sym c.deref.ensures.value)) (c.update_in.ensures.bad e op)
