-- What a job leaves that ends with a fault, and which fault it is, by an input and an output before and after: what
-- contracts that aren't public say of it. What public contracts say is in specs/Undone.
use Rattle.std.specs.Prelude.{◌≡◌, ◌⊎◌, ℕ, List, Option, IfSome}
use Rattle.local_directory.specs.ldif.Imports.{IsImportFault}
use Rattle.local_directory.specs.ldif.Exports.{IsExportFault}
use Rattle.local_directory.specs.ldif.declared.refusals.ImportError.{ImportError}
use Rattle.local_directory.specs.ldif.declared.refusals.ExportError.{ExportError}
use Rattle.local_directory.specs.ldap_msg.Messages.{SearchRequestValue}
use Rattle.local_directory.specs.ldap_requests.declared.search.Scope.{Scope}
use Rattle.local_directory.specs.indexed_tree.Directory.{Directory}
use Rattle.local_directory.specs.Searched.{IsSearchFault, IsReadFault}
use Rattle.local_directory.specs.declared.fault.SearchError.{SearchError}
use Rattle.filter_text.specs.Refusals.{IsReadFault as IsFilterFault}
use Rattle.filter_text.specs.declared.fault.FilterTextError.{FilterTextError}
use Rattle.dird_commands.specs.declared.fault.Fault.{Fault}
use Rattle.dird_commands.specs.declared.fault.Fault.TheVariants.{CannotRead}
use Rattle.dird_commands.specs.declared.fault.Fault.TheVariants.{CannotWrite, NoMemory}
use Rattle.dird_commands.specs.private.Texts.{IsRequestOf}
use Rattle.dird_commands.specs.Undone.{import_fault, export_fault, search_fault, filter_fault}

-- Why an import isn't made: its text is refused, or it can't be read or kept.
abbrev pub IsImportCause : Fault → List ℕ → Type 0
IsImportCause fault text = (error : ImportError) × (fault ≡ import_fault error) × IsImportFault error text

-- Why an export isn't made: its text is refused, or there is no memory.
abbrev pub IsExportCause : Fault → List ℕ → Type 0
IsExportCause fault text = (error : ExportError) × (fault ≡ export_fault error) × IsExportFault error text

-- why a text has no answer to this request, over the directory that its records make of this one
abbrev pub IsFoundCause : Directory → SearchRequestValue → Fault → List ℕ → Type 0
IsFoundCause d q fault text = (error : SearchError) × (fault ≡ search_fault error) × IsSearchFault error d text q

-- the same of the request of these words
abbrev pub IsSearchCause : Directory → List ℕ → Scope → List ℕ → List (List ℕ) → Fault → List ℕ → Type 0
IsSearchCause d base scope filter attributes fault text =
    (q : SearchRequestValue) × IsRequestOf base scope filter attributes q × IsFoundCause d q fault text

-- why words ask for no search: their filter is refused
abbrev pub IsUnasked : List ℕ → Fault → Type 0
IsUnasked filter fault = (error : FilterTextError) × (fault ≡ filter_fault error) × IsFilterFault error filter

-- why a text isn't checked: it is no LDIF
abbrev pub IsCheckCause : Fault → List ℕ → Type 0
IsCheckCause fault text = (error : SearchError) × (fault ≡ search_fault error) × IsReadFault error text

-- an input can't be read, or memory is wanting for it
abbrev pub IsUnread : Fault → Type 0
IsUnread fault = (fault ≡ CannotRead) ⊎ (fault ≡ NoMemory)

-- Nothing is made of an input: it can't be read, or memory is wanting, or its text is refused for a cause that it has.
abbrev pub IsUnmade : (Fault → List ℕ → Type 0) → Fault → Option (List ℕ) → Type 0
IsUnmade IsCause fault input = IsUnread fault ⊎ IfSome input (λ text. IsCause fault text)

-- Nothing is written, unless the output can't be written.
abbrev pub IsUnwritten : Fault → Option (List ℕ) → Option (List ℕ) → Type 0
IsUnwritten fault output grown = (grown ≡ output) ⊎ (fault ≡ CannotWrite)

-- Nothing is written where nothing is made; or the output can't be written.
abbrev pub IsUndone : (Fault → List ℕ → Type 0) → Fault → Option (List ℕ) → Option (List ℕ) → Option (List ℕ) → Type 0
IsUndone IsCause fault input output grown = ((grown ≡ output) × IsUnmade IsCause fault input) ⊎ (fault ≡ CannotWrite)

-- The same of a search: nothing is read where its filter is refused.
abbrev pub IsUnanswered : Directory → List ℕ → Scope → List ℕ → List (List ℕ) → Fault →
    Option (List ℕ) → Option (List ℕ) → Option (List ℕ) → Type 0
IsUnanswered d base scope filter attributes fault input output grown =
    ((grown ≡ output) × IsUnasked filter fault)
    ⊎ IsUndone (IsSearchCause d base scope filter attributes) fault input output grown

-- Nothing is told of a text that isn't checked; or the output can't be written.
abbrev pub IsUnchecked : Fault → List ℕ → Option (List ℕ) → Option (List ℕ) → Type 0
IsUnchecked fault text output grown = ((grown ≡ output) × IsCheckCause fault text) ⊎ (fault ≡ CannotWrite)
