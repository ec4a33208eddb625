-- The one written form.
use Rattle.std.specs.Prelude.{ℕ, ◌-◌, List, [], ◌∷◌, ◌++◌, length, map, Bool, true, not, cond, ◌&&◌, ◌||◌, nat_eq, nat_le, slice_index, codes}
use Rattle.std.specs.List.{list_all}
use Rattle.base64.specs.Engines.{standard}
use Rattle.base64.specs.GeneralPurpose.{encode_of}
use Rattle.ldif.specs.Records.{ValueModel, RecordModel}

-- SAFE-CHAR (RFC 2849), less DEL
abbrev pub is_safe_octet : ℕ → Bool
is_safe_octet c = not (nat_eq c 0) && not (nat_eq c 10) && not (nat_eq c 13) && nat_le c 126

-- SAFE-INIT-CHAR (RFC 2849) less what SAFE-CHAR says: neither a space nor `:` nor `<`
abbrev pub is_safe_first : ℕ → Bool
is_safe_first c = not (nat_eq c 32 || nat_eq c 58 || nat_eq c 60)

-- whether the last octet is a space
abbrev pub ends_with_space : List ℕ → Bool
ends_with_space v = nat_eq (slice_index v (length v - 1)) 32

-- SAFE-STRING (RFC 2849), which doesn't end with a space either (its note 8)
abbrev pub is_safe : List ℕ → Bool
is_safe [] = true
is_safe (c ∷ cs) = is_safe_first c && list_all is_safe_octet (c ∷ cs) && not (ends_with_space (c ∷ cs))

-- what stands behind a type's colon: nothing, a safe string, or base64 behind a second colon (RFC 2849, value-spec)
abbrev pub value_part : List ℕ → List ℕ
value_part [] = []
value_part (c ∷ cs) = cond (is_safe (c ∷ cs)) (32 ∷ c ∷ cs) (58 ∷ 32 ∷ encode_of standard (c ∷ cs))

-- a line of a type and a value (RFC 2849, attrval-spec and dn-spec)
abbrev pub pair_line : List ℕ → List ℕ → List ℕ
pair_line word octets = word ++ 58 ∷ value_part octets

-- a value's line
abbrev pub value_line : ValueModel → List ℕ
value_line v = pair_line v.description v.octets

-- a record's lines: an empty one, its name's and its values' (RFC 2849, attrval-record)
abbrev pub record_lines : RecordModel → List (List ℕ)
record_lines r = [] ∷ pair_line (codes "dn") r.name ∷ map value_line r.values

-- the lines of all records, in order
abbrev pub records_lines : List RecordModel → List (List ℕ)
records_lines [] = []
records_lines (r ∷ rs) = record_lines r ++ records_lines rs

-- lines, each ended by LF
abbrev pub lines_text : List (List ℕ) → List ℕ
lines_text [] = []
lines_text (l ∷ ls) = l ++ 10 ∷ lines_text ls

-- The one text that is written of records (RFC 2849, ldif-content).
abbrev pub ldif_text : List RecordModel → List ℕ
ldif_text rs = lines_text (codes "version: 1" ∷ records_lines rs)
