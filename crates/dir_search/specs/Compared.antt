-- The reply to a compare: RFC 4511 4.10.
use Rattle.std.specs.Prelude.{ℕ, List, Bool, cond, not, Option, None, Some, Result, Ok, Err}
use Rattle.std.specs.List.{list_any}
use Rattle.indexed_tree.specs.ldap_schema.Schema.{SchemaModel, find, is_under}
use Rattle.indexed_tree.specs.ldap_match.Item.{equal, is_of_syntax}
use Rattle.indexed_tree.specs.ldap_match.declared.truth.Truth.{Truth}
use Rattle.indexed_tree.specs.ldap_match.declared.truth.Truth.TheVariants.{True, False, Undefined}
use Rattle.ldap_eval.specs.Value.{item_on_type}
use Rattle.indexed_tree.specs.directory_api.ldap_msg.ldap_requests.Values.{AssertionValue}
use Rattle.indexed_tree.specs.directory_api.ldap_msg.Messages.{CompareRequestValue}
use Rattle.indexed_tree.specs.dir_entry.Entry.{AttributeModel}
use Rattle.indexed_tree.specs.Directory.{Directory, NamedEntry}
use Rattle.indexed_tree.specs.Replies.{then}
use Rattle.indexed_tree.specs.directory_api.Answers.{ReplyModel, only}
use Rattle.indexed_tree.specs.Replies.{name_asked, entry_asked}

-- compareTrue (6), compareFalse (5), and invalidAttributeSyntax (21) where nobody can tell
abbrev pub code_of_truth : Truth → ℕ
code_of_truth True = 6
code_of_truth False = 5
code_of_truth Undefined = 21

-- whether an attribute of the type or of a subtype is there
abbrev pub has_under : SchemaModel → ℕ → List AttributeModel → Bool
has_under s t e = list_any (λ a. is_under s a.kind t) e

-- 21 where the assertion is not in the type's syntax, noSuchAttribute (16), then what the equality item on the type is
-- (RFC 4511 4.10)
abbrev pub code_on_type : SchemaModel → List ℕ → List AttributeModel → ℕ → ℕ
code_on_type s assertion e t =
    cond (not (is_of_syntax s t assertion)) 21 (cond (not (has_under s t e)) 16
    (code_of_truth (item_on_type s (equal assertion) t e)))

-- undefinedAttributeType (17), then as above
abbrev pub code_on : SchemaModel → List ℕ → List AttributeModel → Option ℕ → ℕ
code_on s assertion e None = 17
code_on s assertion e (Some t) = code_on_type s assertion e t

-- the reply on an entry, or that there is none
abbrev pub reply_on : SchemaModel → AssertionValue → Result NamedEntry ReplyModel → ReplyModel
reply_on s a (Err reply) = reply
reply_on s a (Ok e) = only (code_on s a.assertion_value e.attributes (find s a.attribute_desc))

-- The reply to a compare: 34, 32, 17, 21, 16, then 6, 5 or 21 (RFC 4511 4.10, Appendix A.2).
abbrev pub compared : Directory → CompareRequestValue → ReplyModel
compared d c = reply_on d.schema c.ava (then (name_asked d.schema c.entry) (entry_asked d))
