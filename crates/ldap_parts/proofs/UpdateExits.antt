-- What a part lacks, the update lacks: at each exit of a reader, behind the parts that it read.
use Rattle.std.proofs.Common.{◌≡◌, ℕ, Bool, true, eqb, length, List, [], map, sym, ap, ◌∙◌}
use Rattle.std.proofs.lemmas.List.{nil_from_length}
use Rattle.std.proofs.lemmas.Bool.{eqb-true}
use Rattle.ldap_ber.specs.Fields.{HasText, HasPart}
use Rattle.ldap_ber.specs.Rows.{AreRow, AreElements}
use Rattle.ldap_ber.proofs.Same.{step, text_part, text_unique}
use Rattle.ldap_parts.specs.Values.{PartialAttributeValue}
use Rattle.ldap_parts.specs.Grammar.{IsPartialAttribute}
use Rattle.ldap_parts.proofs.Unique.{attribute_one}
use Rattle.ldap_parts.specs.UpdateValues.{AddRequestValue}
use Rattle.ldap_parts.specs.UpdateGrammar.{IsAttribute, HasAttribute, IsAddRequest}
use Rattle.ldap_parts.proofs.UpdatesUnique.{full_part, full_part_unique}

-- ---- adds

pub full_partial : (o : List ℕ) → (a : PartialAttributeValue) × IsAttribute a o → (a : PartialAttributeValue)
    × IsPartialAttribute a o
full_partial o (a, h) = (a, h.0)

pub full_empty : (o : List ℕ) (v : PartialAttributeValue) → IsPartialAttribute v o → v.values ≡ [] →
    (a : PartialAttributeValue) × IsAttribute a o → ⊥
full_empty o v p e (a, h) = h.1 (ap (λ (x : PartialAttributeValue). x.values) (attribute_one a v o h.0 p) ∙ e)

pub none_mapped : {A B : Type 0} (f : A → B) (b : Bool) (xs ys : List A) → b ≡ eqb (length xs) 0 → b ≡ true →
    xs ≡ ys → map f ys ≡ []
none_mapped {A} f b xs ys e t same = ap (map f) (sym same ∙ nil_from_length xs (eqb-true _ _ (sym e ∙ t)))

pub add_attributes : (o x d : List ℕ) → HasText o 4 d x → (v : AddRequestValue) × IsAddRequest v o →
    (row : List PartialAttributeValue) × (r : List ℕ) × HasPart (AreRow HasAttribute row) x 48 r
add_attributes o x d p (v, h) = let s = step text_part (text_unique 4) _ d v.entry o x p h
    in (v.attributes, s.next.rest, s.next.first)

pub add_end : (o x y d : List ℕ) (vs : List PartialAttributeValue) → HasText o 4 d x →
    HasPart (AreRow HasAttribute vs) x 48 y → (v : AddRequestValue) × IsAddRequest v o → AreElements y
add_end o x y d vs p q (v, h) =
    let s = step text_part (text_unique 4) _ d v.entry o x p h in
    (step full_part full_part_unique _ vs v.attributes x y q s.next).next
