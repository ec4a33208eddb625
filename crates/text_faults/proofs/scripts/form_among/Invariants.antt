use Rattle.std.proofs.Common.{◌≡◌, drop, map}
use Rattle.text_faults.specs.Scripts.{form_of}
use Rattle.text_faults.specs.private.Scripts.{form_model}
use Rattle.text_faults.proofs.scripts.form_among.Given as goal

abbrev pub invariant-loop-form : goal.invariant-loop-form
invariant-loop-form l = form_of (map form_model (drop l.form-index l.forms)) l.word ≡
    form_of (map form_model l.forms) l.word
