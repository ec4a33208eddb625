-- What a job leaves that ends with a fault, and which fault it is, by an input and an output before and after.
use Rattle.local_directory.specs.declared.line_fault.LineFault.{LineFault}
use Rattle.local_directory.specs.declared.line_fault.LineFault.TheVariants as line_error
use Rattle.local_directory.specs.ldif.declared.refusals.ImportError.{ImportError}
use Rattle.local_directory.specs.ldif.declared.refusals.ImportError.TheVariants as import_error
use Rattle.local_directory.specs.ldif.declared.refusals.ExportError.{ExportError}
use Rattle.local_directory.specs.ldif.declared.refusals.ExportError.TheVariants as export_error
use Rattle.local_directory.specs.declared.fault.SearchError.{SearchError}
use Rattle.local_directory.specs.declared.fault.SearchError.TheVariants as search_error
use Rattle.filter_text.specs.declared.fault.FilterTextError.{FilterTextError}
use Rattle.filter_text.specs.declared.fault.FilterTextError.TheVariants as filter_error
use Rattle.dird_commands.specs.declared.fault.Fault.{Fault}
use Rattle.dird_commands.specs.declared.fault.Fault.TheVariants.{Placed, TooDeep, TooManyItems, BadHexLine, CannotRead, CannotWrite, TooLong, Import, Export, Search, NoMemory}

-- a fault of the text of an import; want of memory is one fault, wherever it comes
abbrev pub import_fault : ImportError → Fault
import_fault (import_error.BadLdif line cause) = Import (import_error.BadLdif line cause)
import_fault import_error.TooLong = Import import_error.TooLong
import_fault import_error.TooManyRecords = Import import_error.TooManyRecords
import_fault import_error.NoMemory = NoMemory

-- the same of an export
abbrev pub export_fault : ExportError → Fault
export_fault (export_error.BadHexLine line) = Export (export_error.BadHexLine line)
export_fault (export_error.Code number) = Export (export_error.Code number)
export_fault export_error.NoDoneMessage = Export export_error.NoDoneMessage
export_fault export_error.BadMessage = Export export_error.BadMessage
export_fault export_error.NoMemory = NoMemory

-- the same of a session over lines
abbrev pub line_fault : LineFault → Fault
line_fault (line_error.BadHexLine number) = BadHexLine number
line_fault line_error.CannotRead = CannotRead
line_fault line_error.CannotWrite = CannotWrite
line_fault line_error.TooLong = TooLong
line_fault line_error.NoMemory = NoMemory

-- the same of a search, or of a check
abbrev pub search_fault : SearchError → Fault
search_fault (search_error.BadLdif line cause) = Search (search_error.BadLdif line cause)
search_fault (search_error.Refused number code) = Search (search_error.Refused number code)
search_fault (search_error.Code number) = Search (search_error.Code number)
search_fault search_error.NoMemory = NoMemory

-- the same of a filter's text: E18 with its place, E9 or E10
abbrev pub filter_fault : FilterTextError → Fault
filter_fault (filter_error.BadFilterText at) = Placed 18 at
filter_fault filter_error.TooDeep = TooDeep
filter_fault filter_error.TooManyItems = TooManyItems
filter_fault filter_error.NoMemory = NoMemory
