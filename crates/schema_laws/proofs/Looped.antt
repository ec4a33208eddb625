-- The types of a text whose chains of SUPs come back.
use Rattle.std.proofs.Common.{ℕ, ◌+◌, ◌<◌, suc, List, Option, None, Some, ◌≡◌, sym, ap, ◌∙◌, length, slice_get, arith}
use Rattle.ldap_match.specs.ldap_schema.Schema.{superior_in, superior_of}
use Rattle.schema_reader.specs.schema_text.Descriptions.{DescriptionModel}
use Rattle.schema_reader.specs.schema_text.Texts.{read_text}
use Rattle.schema_reader.specs.schema_meaning.Naming.{calls, superior_text, found_by}
use Rattle.schema_reader.specs.schema_meaning.Naming as naming
use Rattle.schema_reader.specs.schema_meaning.Inheriting.{effect_of}
use Rattle.schema_reader.specs.Described.{type_with, types_from, schema_of}
use Rattle.schema_laws.specs.Chains.{LoopsOfTypesLeadBack}
use Rattle.ldap_dn.proofs.Spelled.{none_some}
use Rattle.schema_laws.proofs.FirstFound.{type_at, some_at, count_types}
use Rattle.schema_laws.proofs.ReadNames.{found_low}
use Rattle.schema_laws.proofs.Walks.{AreWithin, first_step, goes_back, is_looping, under_from, from_under, low_in}

-- the type of a description
pub type_is : (all : List DescriptionModel) (t : ℕ) (d : DescriptionModel) → slice_get all t ≡ Some d →
    slice_get (types_from all 0 all) t ≡ Some (type_with all d (effect_of all t))
type_is all t d e = let first : 0 + t ≡ t = omega arith in type_at all all 0 t d e
    ∙ ap (λ n. Some (type_with all d (effect_of all n))) first

pub superior_is : (all : List DescriptionModel) (t : ℕ) (d : DescriptionModel) → slice_get all t ≡ Some d →
    superior_of (types_from all 0 all) t ≡ naming.superior_of all d
superior_is all t d e = ap superior_in (type_is all t d e)

found_within : (all : List DescriptionModel) (o : Option (List ℕ)) (u : ℕ) → found_by all o ≡ Some u → u < length all
found_within all None u h = absurd (none_some h)
found_within all (Some w) u h = omega (arith, found_low (calls w) 0 all u h)

pub are_within : (all : List DescriptionModel) → AreWithin (types_from all 0 all)
are_within all t u h =
    let lt : t < length (types_from all 0 all) = low_in (types_from all 0 all) t u h in
    let at = some_at all t (omega (arith, lt, count_types all 0 all)) in
    let f : u < length all = found_within all (superior_text at.0) u (sym (superior_is all t at.0 at.1) ∙ h) in
    omega (arith, f, count_types all 0 all)

pub loops_of_types : LoopsOfTypesLeadBack
loops_of_types text t =
    let all = (read_text text).types in
    let s = schema_of (read_text text) in (
      λ h. let g = goes_back s.types (length s.types) t h in record {
        first = g.first;
        goes = g.goes;
        comes_back =
            under_from s g.k g.first t g.comes;
      },
      λ b. let z = from_under s b.comes_back in is_looping s.types (are_within all) (suc z.0) t
          (record { some = omega arith; back = first_step s.types z.0 t b.first b.goes ∙ z.1 }),
    )
