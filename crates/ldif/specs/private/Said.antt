-- What a line says, as code has it.
use Rattle.std.specs.Prelude.{string_bytes}
use Rattle.ldif.specs.Says.{Says, blank, comment, named, valued, encoded, wrong}
use Rattle.ldif.specs.declared.saying.Said.{Said}
use Rattle.ldif.specs.declared.saying.Said.TheVariants.{Blank, Comment, Name, Value, Encoded, Wrong}

-- what a line says, as clauses see it
abbrev pub said_of : Said → Says
said_of Blank = blank
said_of Comment = comment
said_of (Name name) = named (string_bytes name)
said_of (Value value) = valued value
said_of (Encoded value) = encoded value
said_of (Wrong cause) = wrong cause
