-- The arguments of fields: RFC 4512 1.4 and 4.1.
use Rattle.std.specs.Prelude.{ℕ, ◌-◌, List, [], ◌∷◌, ◌++◌, length, map, take, drop, slice_get, Bool, true, false, cond, ◌&&◌, Option, None, Some, nat_lt, codes}
use Rattle.std.specs.List.{list_all, slice_split, filter, prefix_len, suffix_len}
use Rattle.schema_text.specs.Words.{is_same_word, is_descr, is_oid, bounded_oid}
use Rattle.schema_text.specs.Tokens.{octet_of, is_outer, is_inner, is_quoted, is_open, is_close, is_bare}
use Rattle.schema_text.specs.declared.token.Token.{Token}
use Rattle.schema_text.specs.declared.keyword.Shape.{Shape}
use Rattle.schema_text.specs.declared.keyword.Shape.TheVariants as shape
use Rattle.std.specs.Option.{option_and_then}

-- whether tokens are a piece: there is at least one
abbrev pub is_some_piece : List Token → Bool
is_some_piece ts = nat_lt 0 (length ts)

-- the tokens between runs of bare SPACEs (RFC 4512 1.4, SP and WSP)
abbrev pub pieces : Bool → List Token → List (List Token)
pieces b ts = filter is_some_piece (slice_split (is_bare b 32) ts)

-- whether there is a token, and it passes
abbrev pub is_such : (Token → Bool) → Option Token → Bool
is_such p None = false
is_such p (Some t) = p t

-- whether the last token passes
abbrev pub ends_at : (Token → Bool) → List Token → Bool
ends_at p ts = is_such p (slice_get ts (length ts - 1))

-- the tokens between a first one and a last one
abbrev pub between : (Token → Bool) → (Token → Bool) → List Token → Option (List Token)
between p q [] = None
between p q (t ∷ ts) = cond (p t && ends_at q ts) (Some (take (length ts - 1) ts)) None

-- dstring: the octets of tokens that stand in quotes, one at least (RFC 4512 1.4)
abbrev pub dstring_of : List Token → Option (List ℕ)
dstring_of ts = cond (nat_lt 0 (length ts) && list_all is_quoted ts) (Some (map octet_of ts)) None

-- qdstring: a text in quotes, not empty (RFC 4512 1.4)
abbrev pub quoted_text : Bool → List Token → Option (List ℕ)
quoted_text b ts = option_and_then dstring_of (between (is_bare b 39) (is_bare b 39) ts)

-- the word, where it is a descr: a letter, then letters, digits and hyphens (RFC 4512 1.4)
abbrev pub descr_if : List ℕ → Option (List ℕ)
descr_if w = cond (is_descr w) (Some w) None

-- qdescr: a descr in quotes (RFC 4512 1.4)
abbrev pub quoted_name : Bool → List Token → Option (List ℕ)
quoted_name b ts = option_and_then descr_if (quoted_text b ts)

-- octets outside lists and quoted texts
abbrev pub word_of : List Token → Option (List ℕ)
word_of ts = cond (list_all is_outer ts) (Some (map octet_of ts)) None

-- the word, where it is an oid: a descr or a numericoid (RFC 4512 1.4)
abbrev pub oid_if : List ℕ → Option (List ℕ)
oid_if w = cond (is_oid w) (Some w) None

-- an oid outside lists and quoted texts (RFC 4512 1.4)
abbrev pub oid_of : List Token → Option (List ℕ)
oid_of ts = option_and_then oid_if (word_of ts)

-- without the SPACEs at the front
abbrev pub without_leading : List Token → List Token
without_leading ts = drop (prefix_len (is_bare true 32) ts) ts

-- without the SPACEs at the end
abbrev pub without_trailing : List Token → List Token
without_trailing ts = take (length ts - suffix_len (is_bare true 32) ts) ts

-- an oid inside a list, without SPACEs around it
abbrev pub inner_oid_if : List Token → Option (List ℕ)
inner_oid_if ts = cond (list_all is_inner ts) (oid_if (map octet_of ts)) None

-- an oid inside a list, with SPACEs around it that don't count (RFC 4512 1.4, oidlist)
abbrev pub inner_oid : List Token → Option (List ℕ)
inner_oid ts = inner_oid_if (without_trailing (without_leading ts))

-- one more text behind those so far, and then those that follow; none, where a piece gave no text
abbrev pub next_text : List (List ℕ) → Option (List ℕ) → (List (List ℕ) → Option (List (List ℕ))) →
    Option (List (List ℕ))
next_text xs None f = None
next_text xs (Some x) f = f (xs ++ x ∷ [])

-- the texts so far, and those of the pieces that follow, one for each
abbrev pub all_from : (List Token → Option (List ℕ)) → List (List ℕ) → List (List Token) → Option (List (List ℕ))
all_from f xs [] = Some xs
all_from f xs (p ∷ ps) = next_text xs (f p) (λ ys. all_from f ys ps)

-- a list of the one text
abbrev pub one : Option (List ℕ) → Option (List (List ℕ))
one o = option_and_then (λ x. Some (x ∷ [])) o

-- a list in parentheses; none, where the piece is no such list
abbrev pub listed : List Token → Option (List Token)
listed ts = between is_open is_close ts

-- one of such items, or a list of them
abbrev pub one_or : (List Token → Option (List ℕ)) → (List Token → Option (List (List ℕ))) → List Token →
    Option (List Token) → Option (List (List ℕ))
one_or f g ts None = one (f ts)
one_or f g ts (Some inside) = g inside

-- qdescrs (RFC 4512 1.4)
abbrev pub names_of : List Token → Option (List (List ℕ))
names_of ts = one_or (quoted_name false) (λ inside. all_from (quoted_name true) [] (pieces true inside)) ts (listed ts)

-- qdstrings (RFC 4512 1.4)
abbrev pub texts_of : List Token → Option (List (List ℕ))
texts_of ts = one_or (quoted_text false) (λ inside. all_from (quoted_text true) [] (pieces true inside)) ts (listed ts)

-- oids: one, or a list with `$` between two of them (RFC 4512 1.4)
abbrev pub oids_of : List Token → Option (List (List ℕ))
oids_of ts = one_or oid_of (λ inside. all_from inner_oid [] (slice_split (is_bare true 36) inside)) ts (listed ts)

-- the word, where it is userApplications in any case: descriptions of other usages are refused (RFC 4512 4.1.2)
abbrev pub usage_if : List ℕ → Option (List ℕ)
usage_if w = cond (is_same_word (codes "userApplications") w) (Some w) None

-- The texts of an argument of a shape; none, where the piece is no such argument.
abbrev pub argument_of : Shape → List Token → Option (List (List ℕ))
argument_of shape.Flag ts = None
argument_of shape.Names ts = names_of ts
argument_of shape.Text ts = one (quoted_text false ts)
argument_of shape.Texts ts = texts_of ts
argument_of shape.Oid ts = one (oid_of ts)
argument_of shape.Oids ts = oids_of ts
argument_of shape.BoundedOid ts = one (option_and_then bounded_oid (word_of ts))
argument_of shape.Usage ts = one (option_and_then usage_if (word_of ts))
