-- The chain of SUPs, and the rules and the syntax that are in effect for a type: RFC 4512 2.5.1 and 4.1.2.
use Rattle.std.specs.Prelude.{ℕ, List, [], ◌∷◌, ◌++◌, reverse, slice_get, Bool, true, false, not, ◌&&◌, ◌||◌, Option, None, Some, is_some, nat_eq}
use Rattle.schema_text.specs.Descriptions.{DescriptionModel, first_text_at}
use Rattle.schema_text.specs.ldap_words.RulesByName.{equality_family, ordering_family, substrings_family, syntax_of, family_number}
use Rattle.schema_meaning.specs.Naming.{superior_text, find}
use Rattle.schema_meaning.specs.declared.inheriting.Way.{Way}
use Rattle.schema_meaning.specs.declared.inheriting.Way.TheVariants.{Ends, IsLost, GoesTo}
use Rattle.schema_meaning.specs.declared.inheriting.Effect.{Effect}
use Rattle.schema_text.specs.ldap_words.declared.rule.Family.{Family}
use Rattle.schema_text.specs.ldap_words.declared.rule.Syntax.{Syntax}
use Rattle.schema_text.specs.ldap_words.Families.{is_used_on}
use Rattle.schema_meaning.specs.declared.inheriting.Given.{Given}
use Rattle.schema_meaning.specs.declared.inheriting.Given.TheVariants.{Missing, Unknown, Known}

-- to the type of a number; lost, where no type is called so
abbrev pub way_to : Option ℕ → Way
way_to None = IsLost
way_to (Some u) = GoesTo u

-- where a SUP of this word leads; to an end, where there is no SUP
abbrev pub way_by : List DescriptionModel → Option (List ℕ) → Way
way_by types None = Ends
way_by types (Some w) = way_to (find types w)

-- where the SUP of a description leads; lost, where there is no description
abbrev pub way_of : List DescriptionModel → Option DescriptionModel → Way
way_of types None = IsLost
way_of types (Some d) = way_by types (superior_text d)

-- where the SUP of a type leads: nowhere, where it has none; to no type, where none is called so; or to the type of a
-- number
abbrev pub way_from : List DescriptionModel → ℕ → Way
way_from types t = way_of types (slice_get types t)

-- the chain so far where SUP ends, with one type more where it goes on; none, where it leads to no type
abbrev pub gone : List ℕ → Way → (List ℕ → ℕ → Option (List ℕ)) → Option (List ℕ)
gone found Ends f = Some found
gone found IsLost f = None
gone found (GoesTo u) f = f (found ++ u ∷ []) u

-- the types so far, and those that the chain of SUPs leads to, in a step for each of these at most
abbrev pub lineage_from : List DescriptionModel → List ℕ → ℕ → List DescriptionModel → Option (List ℕ)
lineage_from types found t [] = None
lineage_from types found t (x ∷ xs) = gone found (way_from types t) (λ more u. lineage_from types more u xs)

-- The chain of SUPs of a type, itself first; none, where the chain leads to no type or does not end.
abbrev pub lineage : List DescriptionModel → ℕ → Option (List ℕ)
lineage types t = lineage_from types (t ∷ []) t types

-- the family that a rule's name or object identifier stands for; none, where the field is left out
abbrev pub family_by : (List ℕ → Option Family) → Option (List ℕ) → Option Family
family_by f None = None
family_by f (Some w) = f w

-- a known syntax, or an unknown one where no syntax has the object identifier
abbrev pub syntax_if : Option Syntax → Given
syntax_if None = Unknown
syntax_if (Some s) = Known s

-- the syntax of an object identifier; missing, where the field is left out
abbrev pub syntax_by : Option (List ℕ) → Given
syntax_by None = Missing
syntax_by (Some w) = syntax_if (syntax_of w)

-- what a description says of rules and syntax itself
abbrev pub own : DescriptionModel → Effect
own d = record {
  equality = family_by equality_family (first_text_at 5 d.fields);
  ordering = family_by ordering_family (first_text_at 6 d.fields);
  substrings = family_by substrings_family (first_text_at 7 d.fields);
  syntax = syntax_by (first_text_at 8 d.fields);
}

-- the first family that there is
abbrev pub or_family : Option Family → Option Family → Option Family
or_family None g = g
or_family (Some f) g = Some f

-- a type's own syntax, unknown ones too, or else the superior's
abbrev pub or_syntax : Given → Given → Given
or_syntax Missing g = g
or_syntax Unknown g = Unknown
or_syntax (Known s) g = Known s

-- the family of a type: that of its first rule
abbrev pub family_of : Effect → Option Family
family_of e = or_family e.equality (or_family e.ordering e.substrings)

-- no rule, or one of this family
abbrev pub is_of_family : Family → Option Family → Bool
is_of_family f None = true
is_of_family f (Some g) = nat_eq (family_number f) (family_number g)

-- whether a type with this EQUALITY keeps a superior's other rules: it has none of its own, or one of the superior's
-- family
abbrev pub agree : Option Family → Option Family → Bool
agree None o = true
agree (Some f) o = is_of_family f o

-- a rule that is kept, or left out
abbrev pub kept : Bool → Option Family → Option Family
kept true f = f
kept false f = None

-- what is in effect for a type under one with these rules: its own, and else the other's; the ordering and the
-- substrings rule of the other are left out where the type has an EQUALITY of another family (RFC 4512 2.5.1)
abbrev pub inherited : Effect → Effect → Effect
inherited above own =
    let keeps = agree own.equality (family_of above) in
    record {
      equality = or_family own.equality above.equality;
      ordering = or_family own.ordering (kept keeps above.ordering);
      substrings = or_family own.substrings (kept keeps above.substrings);
      syntax = or_syntax own.syntax above.syntax;
    }

-- no rules and no syntax, as above the first type of a chain
abbrev pub nothing : Effect
nothing = record { equality = None; ordering = None; substrings = None; syntax = Missing }

-- what a description says of rules and syntax; nothing, where there is no description
abbrev pub own_in : Option DescriptionModel → Effect
own_in None = nothing
own_in (Some d) = own d

-- what the type of a number says of rules and syntax itself
abbrev pub own_at : List DescriptionModel → ℕ → Effect
own_at types t = own_in (slice_get types t)

-- what is in effect below these rules, down the types of these numbers
abbrev pub effect_down : List DescriptionModel → Effect → List ℕ → Effect
effect_down types above [] = above
effect_down types above (t ∷ ts) = effect_down types (inherited above (own_at types t)) ts

-- what is in effect down a chain of SUPs, from its end to the type; what the type says itself, where there is no chain
abbrev pub effect_along : List DescriptionModel → ℕ → Option (List ℕ) → Effect
effect_along types t None = own_at types t
effect_along types t (Some chain) = effect_down types nothing (reverse chain)

-- The rules and the syntax in effect for a type: down its chain of SUPs, and its own where the chain does not lead to
-- an end.
abbrev pub effect_of : List DescriptionModel → ℕ → Effect
effect_of types t = effect_along types t (lineage types t)

-- whether the chain of SUPs of a type ends
abbrev pub has_lineage : List DescriptionModel → ℕ → Bool
has_lineage types t = is_some (lineage types t)

-- whether one of the rules is of another family than this, where there is a family
abbrev pub differs : Option Family → Effect → Bool
differs None e = false
differs (Some f) e = not (is_of_family f e.equality && is_of_family f e.ordering && is_of_family f e.substrings)

-- rules of more than one family
abbrev pub is_mixed : Effect → Bool
is_mixed e = differs (family_of e) e

-- whether the rules of a family aren't used on a syntax (RFC 4517 4.2)
abbrev pub is_not_used_on : Option Family → Syntax → Bool
is_not_used_on None s = false
is_not_used_on (Some f) s = not (is_used_on f s)

-- whether there is no syntax, or one that the family's rules aren't used on; an unknown one is refused as an unknown
-- name
abbrev pub lacks : Option Family → Given → Bool
lacks f Missing = true
lacks f Unknown = false
lacks f (Known s) = is_not_used_on f s

-- no syntax, or one that the family's rules are not used on
abbrev pub lacks_syntax : Effect → Bool
lacks_syntax e = lacks (family_of e) e.syntax

-- a type is mixed, or its chain of SUPs ends and there is no syntax that its rules are used on
abbrev pub is_unfit : List DescriptionModel → ℕ → Bool
is_unfit types t = is_mixed (effect_of types t) || (has_lineage types t && lacks_syntax (effect_of types t))
