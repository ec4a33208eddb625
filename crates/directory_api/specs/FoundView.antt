-- What an entry that a search found stands for in memory.
use Rattle.std.specs.Prelude.{List, map, string_bytes}
use Rattle.std.specs.Arc.{arc_value}
use Rattle.dir_tree.specs.dir_entry.Entry.{attributes_of}
use Rattle.ldap_msg.specs.ldap_parts.Values.{PartialAttributeValue}
use Rattle.ldap_msg.specs.ldap_parts.View.{attribute_view}
use Rattle.ldap_msg.specs.Messages.{SearchResultEntryValue}
use Rattle.directory_api.specs.Selection.{shown_of}
use Rattle.directory_api.specs.declared.found.FoundEntry.{FoundEntry}
use Rattle.directory_api.specs.declared.found.AttributeSource.{AttributeSource}
use Rattle.directory_api.specs.declared.found.AttributeSource.TheVariants.{Stored, Made}

-- the attributes that are shown of a stored entry, or that were made
abbrev pub found_attributes : AttributeSource → List PartialAttributeValue
found_attributes (Stored entry shows) = shown_of (arc_value shows) (attributes_of entry)
found_attributes (Made attributes) = map attribute_view attributes.items

-- the value of an entry that a search found
abbrev pub found_view : FoundEntry → SearchResultEntryValue
found_view e = record { object_name = string_bytes e.object_name; attributes = found_attributes e.found }
