-- What the plans of a filter are, by the filter's own value.
use Rattle.std.specs.Prelude.{◌≡◌, ℕ, Bool, true, List}
use Rattle.ldap_eval.specs.dir_entry.ldap_schema.Schema.{SchemaModel}
use Rattle.ldap_eval.specs.dir_entry.ldap_dn.Names.{RdnModel}
use Rattle.ldap_eval.specs.ldap_filter.Tree.{Tree, conj, disj, negation, item, Trees, no_trees, tree}
use Rattle.ldap_eval.specs.dir_entry.Entry.{KeyedAttribute, attributes_of, IsKeyedBy}
use Rattle.ldap_eval.specs.Value.{filter_value}
use Rattle.dir_index.specs.index_choice.declared.kinds.Kinds.{Kinds}
use Rattle.dir_index.specs.Postings.{Indexed, has_number, postings_of}
use Rattle.search_plans.specs.Sets.{is_in, AreNumbered, HasEntry}
pub use Rattle.search_plans.specs.Runs.{is_true}
use Rattle.search_plans.specs.declared.plan.Plan.{Plan}
use Rattle.search_plans.specs.Decided.{is_decided}
use Rattle.search_plans.specs.Held.{has_runs}

-- whether a filter is True on an entry of a name (RFC 4511 4.5.1.7)
abbrev pub is_match : SchemaModel → Tree → List RdnModel → List KeyedAttribute → Bool
is_match s t name e = is_true (filter_value s t name (attributes_of e))

-- Over the posting lists of any entries that the schema keys, and any scope: of each entry in scope, of any name, what
-- this says of the plan's set, the name and the entry.
abbrev pub OfEach : SchemaModel → List Kinds → Plan → (Bool → List RdnModel → List KeyedAttribute → Type 0) → Type 0
OfEach s ix p says = (es : List Indexed) (scope : List ℕ) (n : ℕ) (name : List RdnModel) (e : List KeyedAttribute)
    → AreNumbered es → HasEntry es n e → IsKeyedBy s e → has_number n scope ≡ true →
    says (is_in (postings_of ix es) scope p n) name e

-- A plan's set is a filter's true set: it has just the entries that the filter is True on.
abbrev pub IsTrueSet : SchemaModel → List Kinds → Tree → Plan → Type 0
IsTrueSet s ix t p = OfEach s ix p (λ is_there name e. is_there ≡ is_match s t name e)

-- each of the filters that the schema and the index choice decide is True
abbrev pub DecidedMatch : SchemaModel → List Kinds → Trees → List RdnModel → List KeyedAttribute → Type 0
DecidedMatch s ix no_trees name e = Unit {0}
DecidedMatch s ix (tree t ts) name e = (is_decided s ix t ≡ true → is_match s t name e ≡ true)
    × DecidedMatch s ix ts name e

-- of an `and`, each part that they decide is True; of another filter this says nothing
abbrev pub DecidedPartsMatch : SchemaModel → List Kinds → Tree → List RdnModel → List KeyedAttribute → Type 0
DecidedPartsMatch s ix (conj ts) name e = DecidedMatch s ix ts name e
DecidedPartsMatch s ix (disj ts) name e = Unit {0}
DecidedPartsMatch s ix (negation t) name e = Unit {0}
DecidedPartsMatch s ix (item i) name e = Unit {0}

-- Two plans are planned for a filter under a schema and an index choice: what must is True, and what is True may; where
-- the schema and the index choice decide the filter, both are its true set; on what may be True of an `and`, each part
-- that they decide is True; and what may has values that hold each run of three octets that the filter's substrings
-- items ask for.
pub record ArePlansFor (s : SchemaModel) (ix : List Kinds) (t : Tree) (must may : Plan) : Type 0 where
  pub sound : OfEach s ix must (λ is_there name e. is_there ≡ true → is_match s t name e ≡ true)
  pub complete : OfEach s ix may (λ is_there name e. is_match s t name e ≡ true → is_there ≡ true)
  pub decided : is_decided s ix t ≡ true → IsTrueSet s ix t must × IsTrueSet s ix t may
  pub parts : OfEach s ix may (λ is_there name e. is_there ≡ true → DecidedPartsMatch s ix t name e)
  pub runs : OfEach s ix may (λ is_there name e. is_there ≡ true → has_runs s ix (attributes_of e) t ≡ true)
