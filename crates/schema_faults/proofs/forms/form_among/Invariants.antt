use Rattle.std.proofs.Common.{◌≡◌, drop, map}
use Rattle.schema_faults.specs.Forms.{form_among}
use Rattle.schema_faults.specs.private.Forms.{form_model}
use Rattle.schema_faults.proofs.forms.form_among.Given as goal

abbrev pub invariant-loop-form : goal.invariant-loop-form
invariant-loop-form l = form_among (map form_model (drop l.form-index l.forms)) l.word ≡
    form_among (map form_model l.forms) l.word
