-- What playing a script writes, and why a script isn't played: an input comes in, and the text that is written or the
-- fault that a run of it ends with.
use Rattle.lab_script.specs.declared.fault.ScriptError.{ScriptError}
use Rattle.lab_script.specs.declared.fault.ScriptError.TheVariants as script_error
use Rattle.dird_commands.specs.declared.fault.Fault.{Fault}
use Rattle.dird_commands.specs.declared.fault.Fault.TheVariants.{BadLine, NoMemory}

-- a fault of a script
abbrev pub script_fault : ScriptError → Fault
script_fault (script_error.BadLine number) = BadLine number
script_fault script_error.NoMemory = NoMemory
