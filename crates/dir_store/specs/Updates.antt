-- Updates of the directory: RFC 4511 4.6 to 4.9. Each is the list of its checks in order. What is asked of attributes
-- is below; messages are above.
use Rattle.std.specs.Prelude.{ℕ, ◌+◌, List, [], ◌∷◌, ◌++◌, Bool, false, cond, not, ◌||◌, nat_eq, Option, None, Some, is_some, Result, Ok, Err}
use Rattle.indexed_tree.specs.ldap_dn.Names.{TypeAndValue, RdnModel, rdns}
use Rattle.indexed_tree.specs.ldap_dn.Texts.{name_of_text}
use Rattle.indexed_tree.specs.ldap_schema.Schema.{SchemaModel}
use Rattle.indexed_tree.specs.dir_entry.Entry.{AttributeModel}
use Rattle.entry_updates.specs.Finishing.{renamed}
use Rattle.entry_updates.specs.Adding.{attributes_asked}
use Rattle.entry_updates.specs.Modifying.{attributes_changed}
use Rattle.entry_updates.specs.ldap_op.ldap_parts.Values.{PartialAttributeValue}
use Rattle.entry_updates.specs.ldap_parts.UpdateValues.{AddRequestValue, ChangeValue, ModifyRequestValue, ModifyDnRequestValue}
use Rattle.entry_updates.specs.ldap_op.Values.{OpValue, add, delete, modify, modify_dn, noop}
use Rattle.indexed_tree.specs.dir_tree.Directory.{name_eq, begins}
use Rattle.indexed_tree.specs.Directory.{Directory, NamedEntry}
use Rattle.indexed_tree.specs.Places.{entry_named, has_subordinate, parent_of, last_of, own_rdn, without_entry, with_attributes, moved}
pub use Rattle.indexed_tree.specs.Replies.{name_asked, entry_asked}
use Rattle.indexed_tree.specs.Replies.{then, refuse, or_refused, with_reply}
use Rattle.indexed_tree.specs.directory_api.Answers.{ReplyModel, only}

-- a name and attributes that an entry gets
pub record PlacedModel : Type 0 where
  pub name : List RdnModel
  pub attributes : List AttributeModel

-- a name's own relative name as given, behind its superior's name as that is spelled; 32 without a superior
abbrev pub place_under : Directory → List RdnModel → Result (List RdnModel) ReplyModel
place_under d name = then (entry_asked d (parent_of name)) (λ above. Ok (above.name ++ last_of name))

-- the whole name of a new entry: the root's as given, or as above
abbrev pub place_asked : Directory → List RdnModel → Result (List RdnModel) ReplyModel
place_asked d name = cond (name_eq (rdns name) (rdns d.suffix)) (Ok name) (place_under d name)

-- an entry of this name: what its attributes are refused for
abbrev pub addition_of : SchemaModel → List PartialAttributeValue → List TypeAndValue → List RdnModel →
    Result PlacedModel ReplyModel
addition_of s given rdn whole = then (with_reply (attributes_asked s rdn given))
    (λ attributes. Ok (record { name = whole; attributes = attributes }))

-- an add of this name: entryAlreadyExists (68), 32 where it has no superior, then as above
abbrev pub addition_at : Directory → List PartialAttributeValue → List RdnModel → Result PlacedModel ReplyModel
addition_at d given name =
    refuse (is_some (entry_named (rdns name) d.entries)) (only 68)
    (then (place_asked d name) (addition_of d.schema given (own_rdn name)))

-- what an add asks for (RFC 4511 4.7): 34, then as above
abbrev pub addition : Directory → AddRequestValue → Result PlacedModel ReplyModel
addition d a = then (name_asked d.schema a.entry) (addition_at d a.attributes)

-- The entries after an add: one more at the end, under the update's number (RFC 4511 4.7).
abbrev pub added : Directory → ℕ → AddRequestValue → Result (List NamedEntry) ReplyModel
added d number a = then (addition d a)
    (λ p. Ok (d.entries ++ record { number = number; name = p.name; attributes = p.attributes } ∷ []))

-- the number of the entry that a delete takes out (RFC 4511 4.8): 32, notAllowedOnNonLeaf (66)
abbrev pub leaf_asked : Directory → List RdnModel → Result ℕ ReplyModel
leaf_asked d name = then (entry_asked d name) (λ e. refuse (has_subordinate (rdns name) d.entries) (only 66)
    (Ok e.number))

-- The entries after a delete: 34, then as above; one less (RFC 4511 4.8).
abbrev pub deleted : Directory → List ℕ → Result (List NamedEntry) ReplyModel
deleted d text = then (name_asked d.schema text) (λ name. then (leaf_asked d name)
    (λ k. Ok (without_entry k d.entries)))

-- a number, and the attributes that its entry gets
pub record KeptModel : Type 0 where
  pub number : ℕ
  pub attributes : List AttributeModel

-- what changes of an entry ask for: what they are refused for
abbrev pub change_of : SchemaModel → List ChangeValue → NamedEntry → Result KeptModel ReplyModel
change_of s changes e =
    then (with_reply (attributes_changed s (own_rdn e.name) changes e.attributes))
    (λ attributes. Ok (record { number = e.number; attributes = attributes }))

-- what a modify asks for (RFC 4511 4.6): 34, 32, then as above
abbrev pub change_asked : Directory → ModifyRequestValue → Result KeptModel ReplyModel
change_asked d m = then (name_asked d.schema m.object) (λ name. then (entry_asked d name)
    (change_of d.schema m.changes))

-- The entries after a modify: one has other attributes (RFC 4511 4.6).
abbrev pub modified : Directory → ModifyRequestValue → Result (List NamedEntry) ReplyModel
modified d m = then (change_asked d m) (λ k. Ok (with_attributes k.number k.attributes d.entries))

-- the relative name of a name that has just one
abbrev pub one_rdn : Option (List RdnModel) → Option RdnModel
one_rdn (Some (r ∷ [])) = Some r
one_rdn rdns = None

-- the relative name of a text; 34 where it is no name of exactly one relative name
abbrev pub rdn_asked : SchemaModel → List ℕ → Result RdnModel ReplyModel
rdn_asked s text = or_refused (one_rdn (name_of_text s text)) (only 34)

-- the name of the new superior, where one is given; 34
abbrev pub superior_asked : SchemaModel → Option (List ℕ) → Result (Option (List RdnModel)) ReplyModel
superior_asked s None = Ok None
superior_asked s (Some text) = then (name_asked s text) (λ name. Ok (Some name))

-- whether a name is that of the other entry, or below it
abbrev pub is_at_or_below : List RdnModel → Option (List RdnModel) → Bool
is_at_or_below name None = false
is_at_or_below name (Some above) = begins (rdns name) (rdns above)

-- whether an entry can't move there: it is the suffix's, or the new superior is it or below it
abbrev pub is_misplaced : List RdnModel → List RdnModel → Option (List RdnModel) → Bool
is_misplaced suffix name above = is_at_or_below name above || name_eq (rdns name) (rdns suffix)

-- the name of the superior as it is spelled: the new one's, 32 where it is no entry's, or the present one's
abbrev pub superior_of : Directory → List RdnModel → Option (List RdnModel) → Result (List RdnModel) ReplyModel
superior_of d name None = Ok (parent_of name)
superior_of d name (Some superior) = then (entry_asked d superior) (λ above. Ok above.name)

-- whether there is an entry, of another number
abbrev pub is_other_than : ℕ → Option NamedEntry → Bool
is_other_than number None = false
is_other_than number (Some e) = not (nat_eq number e.number)

-- an entry's number and name before, and the name and attributes that it gets
pub record MoveModel : Type 0 where
  pub number : ℕ
  pub before : List RdnModel
  pub after : List RdnModel
  pub attributes : List AttributeModel

-- an entry under this name: what its attributes are refused for
abbrev pub moved_entry : SchemaModel → Bool → NamedEntry → RdnModel → List RdnModel → Result MoveModel ReplyModel
moved_entry s delete_old e rdn whole =
    then (with_reply (renamed s (own_rdn e.name) rdn.spelling delete_old e.attributes)) (λ attributes.
    Ok (record { number = e.number; before = e.name; after = whole; attributes = attributes }))

-- a move of an entry to this name: 68 where another entry has it, then as above
abbrev pub move_to : Directory → Bool → NamedEntry → RdnModel → List RdnModel → Result MoveModel ReplyModel
move_to d delete_old e rdn whole =
    refuse (is_other_than e.number (entry_named (rdns whole) d.entries)) (only 68) (moved_entry d.schema delete_old e
    rdn whole)

-- a move of an entry: unwillingToPerform (53), 32 of the new superior, then as above
abbrev pub move_under : Directory → Bool → NamedEntry → RdnModel → Option (List RdnModel) → Result MoveModel ReplyModel
move_under d delete_old e rdn above =
    refuse (is_misplaced d.suffix e.name above) (only 53)
    (then (superior_of d e.name above) (λ superior. move_to d delete_old e rdn (superior ++ rdn ∷ [])))

-- the three names of a modifyDN
pub record MoveNamesModel : Type 0 where
  pub name : List RdnModel
  pub rdn : RdnModel
  pub above : Option (List RdnModel)

-- the names of a modifyDN: 34 of its three in order (RFC 4511 4.9)
abbrev pub move_names : SchemaModel → ModifyDnRequestValue → Result MoveNamesModel ReplyModel
move_names s r =
    then (name_asked s r.entry) (λ name. then (rdn_asked s r.newrdn) (λ rdn. then (superior_asked s r.new_superior)
    (λ above.
    Ok (record { name = name; rdn = rdn; above = above }))))

-- what a modifyDN asks for (RFC 4511 4.9): 34 as above, 32, then as above
abbrev pub move_asked : Directory → ModifyDnRequestValue → Result MoveModel ReplyModel
move_asked d r = then (move_names d.schema r) (λ n. then (entry_asked d n.name) (λ e. move_under d r.deleteoldrdn e
    n.rdn n.above))

-- The entries after a modifyDN: the names of one entry and of those below it are others (RFC 4511 4.9).
abbrev pub renamed_all : Directory → ModifyDnRequestValue → Result (List NamedEntry) ReplyModel
renamed_all d r = then (move_asked d r) (λ m. Ok (moved (rdns m.before) m.after m.attributes d.entries))

-- The entries after an update, or the reply that refuses it.
abbrev pub updated : Directory → ℕ → OpValue → Result (List NamedEntry) ReplyModel
updated d number (add a) = added d number a
updated d number (delete text) = deleted d text
updated d number (modify m) = modified d m
updated d number (modify_dn r) = renamed_all d r
updated d number noop = Ok d.entries

-- the directory with these entries, or as it was where there is a refusal
abbrev pub with_entries : Directory → Result (List NamedEntry) ReplyModel → Directory
with_entries d (Err reply) = d
with_entries d (Ok entries) = record { schema = d.schema; suffix = d.suffix; entries = entries }

-- code 0, or the refusal
abbrev pub reply_of : Result (List NamedEntry) ReplyModel → ReplyModel
reply_of (Err reply) = reply
reply_of (Ok entries) = only 0

-- The directory after an update; one that is refused changes nothing.
abbrev pub applied : Directory → ℕ → OpValue → Directory
applied d number op = with_entries d (updated d number op)

-- The reply to an update: success (0), or that of the first check that fails.
abbrev pub reply_to : Directory → ℕ → OpValue → ReplyModel
reply_to d number op = reply_of (updated d number op)

-- the directory after updates, one after the other, the first under the number that follows this one
abbrev pub directory_after : Directory → ℕ → List OpValue → Directory
directory_after d number [] = d
directory_after d number (op ∷ ops) = directory_after (applied d (number + 1) op) (number + 1) ops

-- The directory of a list of updates, numbered from 1, under a schema and a suffix.
abbrev pub directory_of : SchemaModel → List RdnModel → List OpValue → Directory
directory_of s suffix ops = directory_after (record { schema = s; suffix = suffix; entries = [] }) 0 ops

-- the replies to updates, one after the other, the first under the number that follows this one
abbrev pub replies_after : Directory → ℕ → List OpValue → List ReplyModel
replies_after d number [] = []
replies_after d number (op ∷ ops) =
    reply_to d (number + 1) op ∷ replies_after (applied d (number + 1) op) (number + 1) ops

-- the directory without entries, under a schema and a suffix
abbrev pub empty_directory : SchemaModel → List RdnModel → Directory
empty_directory s suffix = record { schema = s; suffix = suffix; entries = [] }

-- The replies to a list of updates, numbered from 1, under a schema and a suffix: the reply at a place is that of the
-- update of this number.
abbrev pub replies_of : SchemaModel → List RdnModel → List OpValue → List ReplyModel
replies_of s suffix ops = replies_after (empty_directory s suffix) 0 ops
