-- The kind of an update's text, as code has it.
use Rattle.lab_script.specs.Updates as updates
use Rattle.lab_script.specs.declared.kinds.Kind.{Kind}
use Rattle.lab_script.specs.declared.kinds.Kind.TheVariants.{Noop, Add, Delete, Hex, Other}

-- an update's kind as clauses see it, with the rest of its line
abbrev pub kind_view : Kind → updates.Kind
kind_view Noop = updates.noop_kind
kind_view (Add rest) = updates.add_kind rest.now
kind_view (Delete rest) = updates.delete_kind rest.now
kind_view (Hex rest) = updates.hex_kind rest.now
kind_view Other = updates.no_kind
