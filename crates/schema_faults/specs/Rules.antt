-- What doesn't fit in the rules and the syntax of a type (RFC 4512 2.5.1): a description and what is in effect for it
-- come in, a sentence goes out.
use Rattle.std.specs.Prelude.{◌++◌, ℕ, List, [], cond, codes, Option, None, Some}
use Rattle.schema_meaning.specs.Inheriting.{is_mixed}
use Rattle.schema_meaning.specs.declared.inheriting.Effect.{Effect}
use Rattle.schema_meaning.specs.declared.inheriting.Given.{Given}
use Rattle.schema_meaning.specs.declared.inheriting.Given.TheVariants.{Missing, Unknown, Known}
use Rattle.schema_meaning.specs.ldap_words.declared.rule.Family.{Family}
use Rattle.schema_meaning.specs.ldap_words.Octets.{is_empty}
use Rattle.schema_meaning.specs.schema_text.Descriptions.{DescriptionModel, first_text_at}
use Rattle.text_faults.specs.Words.{word_shown}

-- a rule or the syntax in effect, behind its keyword: as the line gives it, or that it is inherited
abbrev pub given_as : List ℕ → Option (List ℕ) → List ℕ
given_as keyword None = codes "an inherited " ++ keyword
given_as keyword (Some name) = keyword ++ codes " " ++ word_shown name

-- the rule or the syntax in a place of the grammar's order, behind its keyword
abbrev pub rule : DescriptionModel → ℕ → List ℕ → List ℕ
rule d place keyword = given_as keyword (first_text_at place d.fields)

-- one more rule of a list with commas, where it is in effect
abbrev pub with_rule : List ℕ → Option Family → List ℕ → List ℕ
with_rule list None r = list
with_rule list (Some f) r = cond (is_empty list) r (list ++ codes ", " ++ r)

-- the rules in effect
abbrev pub rules : DescriptionModel → Effect → List ℕ
rules d e =
    with_rule
    (with_rule (with_rule [] e.equality (rule d 5 (codes "EQUALITY"))) e.ordering (rule d 6 (codes "ORDERING")))
    e.substrings (rule d 7 (codes "SUBSTR"))

-- rules of one kind, and the syntax
abbrev pub no_use : DescriptionModel → Effect → Given → List ℕ
no_use d e Missing = codes "no SYNTAX, and no SUP that has one"
no_use d e Unknown = rules d e ++ codes " cannot be used with " ++ rule d 8 (codes "SYNTAX")
no_use d e (Known s) = rules d e ++ codes " cannot be used with " ++ rule d 8 (codes "SYNTAX")

-- rules of several kinds come before the syntax
abbrev pub unfit : DescriptionModel → Effect → List ℕ
unfit d e = cond (is_mixed e) (codes "rules for different kinds of value: " ++ rules d e) (no_use d e e.syntax)
