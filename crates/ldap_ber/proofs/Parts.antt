-- The parts of the grammar, each with its value first.
use Rattle.std.proofs.Common.{ℕ, Bool, Option, List}
use Rattle.std.specs.Prelude.{ℤ}
use Rattle.ldap_ber.specs.Fields.{HasField, HasText, HasNumber, HasInteger, HasPart, HasFlagOrFalse, HasTextOrNone, HasOctetsOrNone}
use Rattle.ldap_ber.specs.Rows.{AreTexts, AreValues}
use Rattle.ldap_ber.proofs.Same.{IsUnique}
use Rattle.ldap_ber.proofs.RowLemmas.{part_unique, texts_one, values_one}

abbrev pub number_part : ℕ → ℕ → ℕ → List ℕ → List ℕ → Type 0
number_part first limit n octets rest = HasNumber octets first limit n rest

abbrev pub integer_part : ℕ → ℤ → List ℕ → List ℕ → Type 0
integer_part first z octets rest = HasInteger octets first z rest

abbrev pub tagged_text_part : ℕ → List ℕ → List ℕ → List ℕ → Type 0
tagged_text_part first t octets rest = HasText octets first t rest

abbrev pub octets_part : ℕ → List ℕ → List ℕ → List ℕ → Type 0
octets_part first v octets rest = HasField octets first v rest

abbrev pub flag_or_false_part : ℕ → Bool → List ℕ → List ℕ → Type 0
flag_or_false_part first b octets rest = HasFlagOrFalse octets first b rest

abbrev pub text_or_none_part : ℕ → Option (List ℕ) → List ℕ → List ℕ → Type 0
text_or_none_part first t octets rest = HasTextOrNone octets first t rest

abbrev pub octets_or_none_part : ℕ → Option (List ℕ) → List ℕ → List ℕ → Type 0
octets_or_none_part first v octets rest = HasOctetsOrNone octets first v rest

abbrev pub texts_part : ℕ → List (List ℕ) → List ℕ → List ℕ → Type 0
texts_part first ts octets rest = HasPart (AreTexts ts) octets first rest

abbrev pub values_part : ℕ → List (List ℕ) → List ℕ → List ℕ → Type 0
values_part first vs octets rest = HasPart (AreValues vs) octets first rest

pub texts_part_unique : (f : ℕ) → IsUnique (texts_part f)
texts_part_unique f = part_unique AreTexts texts_one f

pub values_part_unique : (f : ℕ) → IsUnique (values_part f)
values_part_unique f = part_unique AreValues values_one f
