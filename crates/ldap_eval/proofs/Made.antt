-- What binding makes of a filter, arm by arm.
use Rattle.std.proofs.Common.{ℕ, ◌+◌, ◌<◌, List, [], ◌∷◌, ◌++◌, Bool, true, false, Option, Some, None, Vec, Box, Global, ◌≡◌, refl, ap, sym, subst, ◌∙◌, length, take, get_or}
use Rattle.std.proofs.lemmas.List.{take_more}
use Rattle.ldap_filter.specs.Item.{ExtensibleValue}
use Rattle.ldap_filter.specs.Tree.{Tree, conj, disj, negation}
use Rattle.ldap_filter.specs.View.{view, view_step}
use Rattle.ldap_filter.specs.private.View.{views}
use Rattle.ldap_filter.specs.declared.tree.Filter.{Filter}
use Rattle.ldap_filter.specs.declared.tree.Filter.TheVariants as filter
use Rattle.ldap_filter.specs.declared.tree.Filter.TheVariants.{rolls-And, rolls-Or, rolls-Not}
use Rattle.ldap_filter.specs.declared.tree.Filter.TheOpen.{Filter-F}
use Rattle.ldap_filter.specs.declared.tree.Filter.TheFolds.{fold-roll-Filter}
use Rattle.dir_entry.specs.ldap_schema.Schema.{SchemaModel, find}
use Rattle.dir_entry.specs.ldap_match.Item.{Item, equal, is_answerable}
use Rattle.ldap_eval.specs.declared.naming_rules.How.{How}
use Rattle.ldap_eval.specs.declared.naming_rules.How.TheVariants as how
use Rattle.ldap_eval.specs.Value.{how_of, type_of, is_matched}
use Rattle.ldap_eval.specs.Bound.{leaves_for, matches_with, IsBoundTo}
use Rattle.ldap_eval.specs.Made.{IsMadeOf, AreMadeOf, IsItemFor, IsItemOn, IsMatchOn, IsExtensible, is_equality_item}
use Rattle.ldap_eval.specs.declared.bound.BoundFilter.{BoundFilter}
use Rattle.ldap_eval.specs.declared.bound.BoundFilter.TheVariants as bound

view-And : (v : Vec Filter Global) → view (filter.And v) ≡ conj (views v.items)
view-And v = ap view (sym (rolls-And v)) ∙ fold-roll-Filter Tree view_step (Filter-F.And v)

view-Or : (v : Vec Filter Global) → view (filter.Or v) ≡ disj (views v.items)
view-Or v = ap view (sym (rolls-Or v)) ∙ fold-roll-Filter Tree view_step (Filter-F.Or v)

view-Not : (x : Box Filter Global) → view (filter.Not x) ≡ negation (view x.value)
view-Not x = ap view (sym (rolls-Not x)) ∙ fold-roll-Filter Tree view_step (Filter-F.Not x)

pub and_made : (s : SchemaModel) (f : Filter) (fs : Vec Filter Global) (gs : List Filter)
    (v : Vec BoundFilter Global) → f ≡ filter.And fs → gs ≡ fs.items → AreMadeOf s (views gs) v.items →
    IsMadeOf s (view f) (bound.And v)
and_made s f fs gs v is same h =
    subst (λ (t : Tree). IsMadeOf s t (bound.And v)) (sym (ap view is ∙ view-And fs))
    (record { parts = v; is = refl; hold = subst (λ (xs : List Filter). AreMadeOf s (views xs) v.items) same h })

pub or_made : (s : SchemaModel) (f : Filter) (fs : Vec Filter Global) (gs : List Filter)
    (v : Vec BoundFilter Global) → f ≡ filter.Or fs → gs ≡ fs.items → AreMadeOf s (views gs) v.items →
    IsMadeOf s (view f) (bound.Or v)
or_made s f fs gs v is same h =
    subst (λ (t : Tree). IsMadeOf s t (bound.Or v)) (sym (ap view is ∙ view-Or fs))
    (record { parts = v; is = refl; hold = subst (λ (xs : List Filter). AreMadeOf s (views xs) v.items) same h })

pub not_made : (s : SchemaModel) (f : Filter) (x : Box Filter Global) (g : Filter) (b : BoundFilter)
    (y : Box BoundFilter Global) → f ≡ filter.Not x → g ≡ x.value → y.value ≡ b → IsMadeOf s (view g) b →
    IsMadeOf s (view f) (bound.Not y)
not_made s f x g b y is same boxed h =
    subst (λ (t : Tree). IsMadeOf s t (bound.Not y)) (sym (ap view is ∙ view-Not x))
    (record {
      part = y;
      is = refl;
      hold = subst (λ (z : BoundFilter). IsMadeOf s (view x.value) z) (sym boxed)
          (subst (λ (z : Filter). IsMadeOf s (view z) b) same h);
    })

push_made : (s : SchemaModel) (fs : List Filter) (f : Filter) (bs : List BoundFilter) (b : BoundFilter) →
    AreMadeOf s (views fs) bs → IsBoundTo s (view f) b → IsMadeOf s (view f) b → AreMadeOf s (views (fs ++ f ∷ []))
    (bs ++ b ∷ [])
push_made s [] f [] b h k m = (k, m, tt)
push_made s [] f (c1 ∷ bs) b h k m = absurd h
push_made s (g ∷ fs) f [] b h k m = absurd h
push_made s (g ∷ fs) f (c1 ∷ bs) b h k m = (h.0, h.1, push_made s fs f bs b h.2 k m)

-- one more of a row
pub made_more : (s : SchemaModel) (fs : List Filter) (i : ℕ) (f : Filter) (old new : List BoundFilter)
    (b : BoundFilter) → i < length fs → f ≡ get_or fs i f → new ≡ old ++ b ∷ [] → AreMadeOf s (views (take i fs))
    old → IsBoundTo s (view f) b → IsMadeOf s (view f) b
    → AreMadeOf s (views (take (i + 1) fs)) new
made_more s fs i f old new b lt is pushed h k m =
    subst (λ (xs : List Filter). AreMadeOf s (views xs) new)
    (sym (take_more fs i f lt ∙ ap (λ (x : Filter). take i fs ++ x ∷ []) (sym is)))
    (subst (λ (bs : List BoundFilter). AreMadeOf s (views (take i fs ++ f ∷ [])) bs) (sym pushed)
    (push_made s (take i fs) f old b h k m))

-- an item whose description is recognised
pub item_for : (s : SchemaModel) (d : List ℕ) (asked : Item) (t : ℕ) (b : BoundFilter) → find s d ≡ Some t →
    IsItemOn s asked t b → IsItemFor s asked (find s d) b
item_for s d asked t b some h = subst (λ (o : Option ℕ). IsItemFor s asked o b) (sym some) h

-- one that its type can't answer
pub unanswered_on : (s : SchemaModel) (asked : Item) (t : ℕ) → is_answerable s asked t ≡ false →
    IsItemOn s asked t bound.Undefined
unanswered_on s asked t cant = record {
  answered = λ can. let apart : true ≡ false = sym can
      ∙ cant in absurd (cc apart);
  unanswered = λ h. refl;
}

-- one that it can answer
pub leaves_on : (s : SchemaModel) (asked : Item) (t : ℕ) (v : Vec BoundFilter Global) → is_answerable s asked t ≡
    true → v.items ≡ leaves_for s asked t → IsItemOn s asked t (bound.Or v)
leaves_on s asked t v can is = record {
  answered = λ h. record { parts = v; is = refl; hold = is };
  unanswered =
      λ cant. let apart : true ≡ false = sym can ∙ cant in absurd (cc apart);
}

-- an extensible item that can't be matched
pub unmatched_made : (s : SchemaModel) (h : How) (t : Option ℕ) (a : List ℕ) (dn : Bool) → is_matched s h t a ≡
    false → IsMatchOn s h t a dn bound.Undefined
unmatched_made s h t a dn cant = record {
  matched = λ can. let apart : true ≡ false = sym can
      ∙ cant in absurd (cc apart);
  unmatched = λ h. refl;
}

-- one that can
pub matches_made : (s : SchemaModel) (h : How) (t : Option ℕ) (a : List ℕ) (dn : Bool) (v : Vec BoundFilter Global) →
    is_matched s h t a ≡ true → v.items ≡ matches_with s h t a dn → IsMatchOn s h t a dn (bound.Or v)
matches_made s h t a dn v can is = record {
  matched = λ h. record { parts = v; is = refl; hold = is };
  unmatched =
      λ cant. let apart : true ≡ false = sym can ∙ cant in absurd (cc apart);
}

-- one that is the equality item, and one that is not
pub equality_made : (s : SchemaModel) (x : ExtensibleValue) (h : How) (asked : Option ℕ) (t : ℕ) (b : BoundFilter) →
    asked ≡ Some t → is_equality_item s x (Some h) (Some asked) ≡ true → IsItemOn s (equal x.match_value) t b →
    IsExtensible s x (Some h) (Some asked) b
equality_made s x h asked t b is own m = record {
  equality = λ y. subst (λ (o : Option ℕ). IsItemFor s (equal x.match_value) o b) (sym is) m;
  residual = λ other. let apart : true ≡ false = sym own ∙ other in absurd (cc apart);
}

pub residual_made : (s : SchemaModel) (x : ExtensibleValue) (h : How) (asked : Option ℕ) (b : BoundFilter) →
    is_equality_item s x (Some h) (Some asked) ≡ false → IsMatchOn s h asked x.match_value x.dn_attributes b →
    IsExtensible s x (Some h) (Some asked) b
residual_made s x h asked b other m = record {
  equality = λ own. let apart : true ≡ false = sym own
      ∙ other in absurd (cc apart);
  residual = λ y. m;
}

-- one whose rule or whose description is not recognised
pub no_how_made : (s : SchemaModel) (x : ExtensibleValue) (t : Option (Option ℕ)) → how_of x.matching_rule ≡ None →
    IsExtensible s x (how_of x.matching_rule) t bound.Undefined
no_how_made s x t e = subst (λ (o : Option How). IsExtensible s x o t bound.Undefined) (sym e)
    (record { equality = λ own. absurd (cc own); residual = λ other. refl })

not_equality : (s : SchemaModel) (x : ExtensibleValue) (h : How) → is_equality_item s x (Some h) None ≡ false
not_equality s x how.Own = refl
not_equality s x (how.Named r) = refl

pub no_type_made : (s : SchemaModel) (x : ExtensibleValue) (h : How) → type_of s x.description ≡ None →
    IsExtensible s x (Some h) (type_of s x.description) bound.Undefined
no_type_made s x h f =
    subst (λ (o : Option (Option ℕ)). IsExtensible s x (Some h) o bound.Undefined) (sym f)
    (record {
      equality = λ own. let apart : true ≡ false = sym own ∙ not_equality s x h in absurd (cc apart);
      residual = λ other. refl;
    })

-- one whose rule, and one whose type is known
pub how_made : (s : SchemaModel) (x : ExtensibleValue) (h : How) (t : Option (Option ℕ)) (b : BoundFilter) →
    how_of x.matching_rule ≡ Some h → IsExtensible s x (Some h) t b → IsExtensible s x (how_of x.matching_rule) t b
how_made s x h t b e m = subst (λ (o : Option How). IsExtensible s x o t b) (sym e) m

pub type_made : (s : SchemaModel) (x : ExtensibleValue) (h : Option How) (t : Option ℕ) (b : BoundFilter) →
    type_of s x.description ≡ Some t → IsExtensible s x h (Some t) b → IsExtensible s x h (type_of s x.description) b
type_made s x h t b e m = subst (λ (o : Option (Option ℕ)). IsExtensible s x h o b) (sym e) m
