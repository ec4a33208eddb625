-- What a refusal says of what is asked for. No contract of another layer names how it comes about.
use Rattle.std.specs.Prelude.{◌≡◌, ℕ, Result, Err}
use Rattle.entry_changes.specs.dir_entry.declared.fault.EntryError.{EntryError}
use Rattle.entry_changes.specs.dir_entry.declared.fault.EntryError.TheVariants as entry
use Rattle.entry_updates.specs.declared.fault.UpdateError.{UpdateError}
use Rattle.entry_updates.specs.declared.fault.UpdateError.TheVariants.{Refused, NoMemory}

-- it is refused with this result code; of want of memory nothing
abbrev pub RefusedAs : {A : Type 0} → UpdateError → Result A ℕ → Type 0
RefusedAs (Refused code) asked = asked ≡ Err code
RefusedAs NoMemory asked = Unit {0}

-- the result code of an entry's refusal (RFC 4511 Appendix A.2)
abbrev pub update_error : EntryError → UpdateError
update_error entry.InvalidAttributeSyntax = Refused 21
update_error entry.NoSuchAttribute = Refused 16
update_error entry.AttributeOrValueExists = Refused 20
update_error entry.ConstraintViolation = Refused 19
update_error entry.ObjectClassViolation = Refused 65
update_error entry.NotAllowedOnRdn = Refused 67
update_error entry.ObjectClassModsProhibited = Refused 69
update_error entry.NoMemory = NoMemory
