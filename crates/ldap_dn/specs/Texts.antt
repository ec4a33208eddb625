-- What a text names, step by step: tokens, relative names, types and values. RFC 4514 3.
use Rattle.std.specs.Prelude.{ℕ, ◌+◌, take, drop, insert, slice_get, position, List, [], ◌∷◌, ◌++◌, map, reverse, Bool, false, not, cond, ◌||◌, Option, None, Some, nat_eq, nat_lt}
use Rattle.std.specs.List.{list_all, slice_split, prefix_len}
use Rattle.std.specs.Option.{option_and_then}
use Rattle.std.specs.Str.{is_utf8}
use Rattle.ldap_syntax.specs.Meaning.{Meaning}
use Rattle.ldap_schema.specs.ldap_words.declared.rule.Family.{Family}
use Rattle.ldap_schema.specs.ldap_words.declared.rule.Family.TheVariants as family
use Rattle.ldap_schema.specs.ldap_words.declared.rule.Rule.{Rule}
use Rattle.ldap_schema.specs.Schema.{SchemaModel, find}
use Rattle.ldap_dn.specs.Meaning.{meaning}
use Rattle.ldap_dn.specs.Keyed.{key_at}
use Rattle.ldap_schema.specs.Rules.{equality_of}
use Rattle.ldap_dn.specs.Names.{TypeAndValue, TypeAndKey, RdnModel}
use Rattle.ldap_dn.specs.Tokens.{is_escapable, hex_octet, octet_of, is_plain, is_unescaped, is_space, trimmed}
use Rattle.ldap_dn.specs.declared.token.Token.{Token}
use Rattle.ldap_dn.specs.declared.token.Token.TheVariants.{Plain, Escaped}
use Rattle.ldap_dn.specs.declared.token.Scan.{Scan}
use Rattle.ldap_dn.specs.declared.token.Scan.TheVariants.{Between, Escape, Half}
use Rattle.ldap_dn.specs.declared.token.Step.{Step}
use Rattle.ldap_dn.specs.declared.token.Step.TheVariants.{Refuses, Reads, Gives}

-- the octet that two digits behind a backslash give; a refusal, where one is no hexadecimal digit (RFC 4514 3, hexpair)
abbrev pub spelled : Option ℕ → Step
spelled None = Refuses
spelled (Some c) = Gives (Escaped c)

-- what an octet does between tokens, behind a backslash, and behind a backslash and a digit
abbrev pub step : Scan → ℕ → Step
step Between c = cond (nat_eq c 92) (Reads Escape) (Gives (Plain c))
step Escape c = cond (is_escapable c) (Gives (Escaped c)) (Reads (Half c))
step (Half h) c = spelled (hex_octet h c)

-- a text ends between tokens
abbrev pub ended : List Token → Scan → Option (List Token)
ended ts Between = Some ts
ended ts s = None

-- on from an octet: with one more token where it gave one; no tokens at all, where it is refused
abbrev pub stepped : List Token → Step → (List Token → Scan → Option (List Token)) → Option (List Token)
stepped ts Refuses f = None
stepped ts (Reads s) f = f ts s
stepped ts (Gives t) f = f (ts ++ t ∷ []) Between

-- the tokens so far, and those of the octets that follow
abbrev pub scanned : List Token → Scan → List ℕ → Option (List Token)
scanned ts s [] = ended ts s
scanned ts s (c ∷ cs) = stepped ts (step s c) (λ us n. scanned us n cs)

-- the tokens of a text
abbrev pub tokens_of : List ℕ → Option (List Token)
tokens_of text = scanned [] Between text

-- the type that a text is a description of (RFC 4514 3, attributeType): its octets are unescaped
abbrev pub type_of : SchemaModel → List Token → Option ℕ
type_of s ts = cond (list_all is_unescaped ts) (find s (map octet_of ts)) None

-- the unescaped tokens that a value may have: all but `"`, `+`, `,`, `;`, `<`, `>` and NUL (RFC 4514 2.4)
abbrev pub is_value_octet : Token → Bool
is_value_octet t =
    not (is_plain 34 t || is_plain 43 t || is_plain 44 t || is_plain 59 t || is_plain 60 t || is_plain 62 t ||
    is_plain 0 t)

-- whether the front is an unescaped `#`
abbrev pub begins_with_hash : List Token → Bool
begins_with_hash [] = false
begins_with_hash (t ∷ ts) = is_plain 35 t

-- octets that are UTF-8
abbrev pub text_of : List ℕ → Option (List ℕ)
text_of octets = cond (is_utf8 octets) (Some octets) None

-- the octets of a value, which are UTF-8 (RFC 4514 2.4)
abbrev pub value_of : List Token → Option (List ℕ)
value_of ts = cond (not (list_all is_value_octet ts) || begins_with_hash ts) None (text_of (map octet_of ts))

-- a type with its value; none, where one of them is missing
abbrev pub paired : Option ℕ → Option (List ℕ) → Option TypeAndValue
paired (Some t) (Some v) = Some (record { kind = t; value = v })
paired t v = None

-- what stands before the first `=` as the type, and what stands behind it as the value; none, where there is no `=`
abbrev pub type_and_value_at : SchemaModel → List Token → Option ℕ → Option TypeAndValue
type_and_value_at s ts None = None
type_and_value_at s ts (Some i) = paired (type_of s (trimmed (take i ts))) (value_of (trimmed (drop (i + 1) ts)))

-- a type and a value: they stand before and behind the first `=`, with spaces around them that don't count
abbrev pub type_and_value_of : SchemaModel → List Token → Option TypeAndValue
type_and_value_of s ts = type_and_value_at s ts (position (is_plain 61) ts)

-- the types and values so far, and those of the texts that follow; none, where a text gave none
abbrev pub written_from : SchemaModel → List TypeAndValue → List (List Token) → Option (List TypeAndValue)
written_from s vs [] = Some vs
written_from s vs (p ∷ ps) = option_and_then (λ v. written_from s (vs ++ v ∷ []) ps) (type_and_value_of s p)

-- the types and values of a relative name, which `+` parts, in the order written
abbrev pub written_of : SchemaModel → List Token → Option (List TypeAndValue)
written_of s ts = written_from s [] (slice_split (is_plain 43) ts)

-- the key of a value that means something
abbrev pub meant : Option Meaning → Option (List ℕ) → Option (List ℕ)
meant None k = None
meant (Some m) k = k

-- the key of a value under a rule under which it means something
abbrev pub meant_key : SchemaModel → Rule → List ℕ → Option (List ℕ)
meant_key s r v = meant (meaning s r v) (key_at s r v)

-- no value of the family of names stands in a name
abbrev pub family_key : SchemaModel → Rule → Family → List ℕ → Option (List ℕ)
family_key s r family.Name v = None
family_key s r f v = meant_key s r v

-- a type with a key; none, where there is no key
abbrev pub keyed : ℕ → Option (List ℕ) → Option TypeAndKey
keyed t None = None
keyed t (Some k) = Some (record { kind = t; key = k })

-- a type with the key of its value: the type has an EQUALITY rule, under which the value means something (RFC 4512
-- 2.5.1)
abbrev pub type_and_key_of : SchemaModel → TypeAndValue → Option TypeAndKey
type_and_key_of s v = keyed v.kind (option_and_then (λ r. family_key s r r.family v.value) (equality_of s v.kind))

-- how many types of a rising list stand below a type
abbrev pub count_below : ℕ → List TypeAndKey → ℕ
count_below t ks = prefix_len (λ k. nat_lt k.kind t) ks

-- whether there is a type with its key, and it is this type
abbrev pub is_of_type : ℕ → Option TypeAndKey → Bool
is_of_type t None = false
is_of_type t (Some k) = nat_eq k.kind t

-- one more type in its place in the rising order, behind those below it; none, where it stands there already
abbrev pub placed : TypeAndKey → List TypeAndKey → Option (List TypeAndKey)
placed k ks =
    let n = count_below k.kind ks in
    cond (is_of_type k.kind (slice_get ks n)) None (Some (insert ks n k))

-- one more type with its key in its place; none, where its value has no key
abbrev pub placed_if : Option TypeAndKey → List TypeAndKey → Option (List TypeAndKey)
placed_if None ks = None
placed_if (Some k) ks = placed k ks

-- the keys so far, and those of the types and values that follow; none, where a key had no place
abbrev pub keys_from : SchemaModel → List TypeAndKey → List TypeAndValue → Option (List TypeAndKey)
keys_from s ks [] = Some ks
keys_from s ks (v ∷ vs) = option_and_then (λ js. keys_from s js vs) (placed_if (type_and_key_of s v) ks)

-- a relative name of these types and values with their keys; none, where the keys can't be set in order
abbrev pub rdn_by : List TypeAndValue → Option (List TypeAndKey) → Option RdnModel
rdn_by vs None = None
rdn_by vs (Some ks) = Some (record { keys = ks; spelling = vs })

-- the relative name of types and values; none, where a text gave none
abbrev pub rdn_spelled : SchemaModel → Option (List TypeAndValue) → Option RdnModel
rdn_spelled s None = None
rdn_spelled s (Some vs) = rdn_by vs (keys_from s [] vs)

-- a relative name: its types and values, and beside them the types with their keys, each type once
abbrev pub rdn_of : SchemaModel → List Token → Option RdnModel
rdn_of s ts = rdn_spelled s (written_of s ts)

-- the relative names so far, and those of the texts that follow; none, where a text gave none
abbrev pub rdns_from : SchemaModel → List RdnModel → List (List Token) → Option (List RdnModel)
rdns_from s rs [] = Some rs
rdns_from s rs (p ∷ ps) = option_and_then (λ r. rdns_from s (rs ++ r ∷ []) ps) (rdn_of s p)

-- relative names in the order of the tree: in the text the root's stands last (RFC 4514 2.1)
abbrev pub root_first : Option (List RdnModel) → Option (List RdnModel)
root_first None = None
root_first (Some rs) = Some (reverse rs)

-- the name of tokens: relative names that `,` parts, the root's last; no token but spaces is the empty name
abbrev pub name_of_tokens : SchemaModel → List Token → Option (List RdnModel)
name_of_tokens s ts = cond (list_all is_space ts) (Some []) (root_first (rdns_from s [] (slice_split (is_plain 44) ts)))

-- the name of tokens; none, where the text has an escape that spells nothing
abbrev pub name_if : SchemaModel → Option (List Token) → Option (List RdnModel)
name_if s None = None
name_if s (Some ts) = name_of_tokens s ts

-- The name of a text, root first; none, where the text is no name's.
abbrev pub name_of_text : SchemaModel → List ℕ → Option (List RdnModel)
name_of_text s text = name_if s (tokens_of text)
