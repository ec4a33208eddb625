-- The keywords of descriptions, each with what is to follow it (RFC 4512 4.1.1, 4.1.2): what contracts that aren't
-- public say of it. What public contracts say is in specs/Forms.
use Rattle.schema_faults.specs.declared.forms.Form.{Form}
use Rattle.schema_faults.specs.Forms.{FormModel}

-- a keyword of the program's table
abbrev pub form_model : Form → FormModel
form_model f = record { word = f.word.now; place = f.place; wanted = f.wanted.now }
