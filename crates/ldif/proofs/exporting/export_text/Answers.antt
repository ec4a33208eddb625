-- LDIF and messages: the goal of `export_text`.
use Rattle.std.proofs.Common.{sym, ap, ◌∙◌}
use Rattle.ldif.specs.Exports.{first_wrong}
use Rattle.ldif.proofs.Wrongs.{wrong_is_fault}
use Rattle.ldif.proofs.exporting.export_text.Goals as goal

pub returns-in-Some-clause-refused : goal.returns-in-Some-clause-refused
returns-in-Some-clause-refused c =
    wrong_is_fault c.args.text.now c.in_ok-meant.meant.items c.in-Some.error c.in_ok-meant.ensures.found
    (ap first_wrong (sym c.deref.ensures.value) ∙ sym c.in-Some.ensures)
