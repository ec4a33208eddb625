use Rattle.std.proofs.Common.{◌≡◌, ◌++◌, drop}
use Rattle.value_parts.proofs.lists.copy_forms.Given as goal

abbrev pub invariant-loop-form : goal.invariant-loop-form
invariant-loop-form l = l.copy.items ++ drop l.form-index l.forms ≡ l.forms
