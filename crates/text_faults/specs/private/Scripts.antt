-- The forms of lines of lab scripts, as the program's table has them.
use Rattle.std.specs.Prelude.{ℕ, List}
use Rattle.text_faults.specs.declared.scripts.Form.{Form}

-- a row of the table
abbrev pub form_model : Form → List ℕ × List ℕ
form_model f = (f.word.now, f.line.now)
