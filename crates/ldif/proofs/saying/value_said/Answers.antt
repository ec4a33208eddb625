-- LDIF, what a line says: a type is text.
use Rattle.std.proofs.Common.{◌≡◌, true, rules}
use Rattle.ldif.specs.Descriptions.{is_type}
use Rattle.ldif.proofs.Plain.{no_text}
use Rattle.ldif.proofs.saying.value_said.Goals as goal

pub returns-in-None : goal.returns-in-None
returns-in-None c =
    let typed : is_type c.args.word.now ≡ true = search rules in
    absurd (no_text c.args.word.now typed c.in-None.ensures)
