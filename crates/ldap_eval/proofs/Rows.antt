-- Rows of filters, bound one by one.
use Rattle.std.proofs.Common.{ℕ, ◌+◌, ◌<◌, List, [], ◌∷◌, ◌++◌, Vec, Global, ◌≡◌, refl, ap, ap₂, sym, subst, ◌∙◌, map, length, take, get_or, String, string_bytes}
use Rattle.std.proofs.lemmas.List.{take_more}
use Rattle.ldap_filter.specs.Item as filter_item
use Rattle.ldap_filter.specs.Tree.{Tree, conj, disj, item, Trees, no_trees, tree}
use Rattle.ldap_filter.specs.View.{view, view_step}
use Rattle.ldap_filter.specs.private.View.{views}
use Rattle.ldap_filter.specs.declared.tree.Filter.{Filter}
use Rattle.ldap_filter.specs.declared.tree.Filter.TheVariants as filter
use Rattle.ldap_filter.specs.declared.tree.Filter.TheVariants.{rolls-And, rolls-Or, rolls-Equal, rolls-Approx, rolls-AtLeast, rolls-AtMost, rolls-Present, rolls-Substrings}
use Rattle.ldap_filter.specs.declared.tree.Filter.TheOpen.{Filter-F}
use Rattle.ldap_filter.specs.declared.tree.Filter.TheFolds.{fold-roll-Filter}
use Rattle.ldap_filter.specs.ItemView.{substrings_view}
use Rattle.ldap_filter.specs.declared.item.SubstringFilter.{SubstringFilter}
use Rattle.dir_entry.specs.ldap_schema.Schema.{SchemaModel}
use Rattle.dir_entry.specs.ldap_match.Truth.{disjunction, conjunction, truth_and, truth_or}
use Rattle.dir_entry.specs.ldap_match.declared.truth.Truth.{Truth}
use Rattle.dir_entry.specs.ldap_match.Item.{present, substrings}
use Rattle.dir_entry.specs.ldap_dn.Names.{RdnModel}
use Rattle.dir_entry.specs.Entry.{KeyedAttribute, attributes_of, IsKeyedBy}
use Rattle.ldap_eval.specs.Value.{filter_value, all_value, any_value, wire_item_value, item_value, asked_by, parts_of}
use Rattle.ldap_eval.specs.Bound.{bound_value, value_step, IsBoundTo}
use Rattle.ldap_eval.specs.private.Bound.{IsBoundItem, AreBoundTo}
use Rattle.ldap_eval.specs.declared.bound.BoundFilter.{BoundFilter}
use Rattle.ldap_eval.specs.declared.bound.BoundFilter.TheVariants as bound
use Rattle.ldap_eval.specs.declared.bound.BoundFilter.TheOpen.{BoundFilter-F}
use Rattle.ldap_eval.specs.declared.bound.BoundFilter.TheFolds.{fold-roll-BoundFilter}
use Rattle.ldap_eval.proofs.Leaves.{value-Or}

value-And : (n : List RdnModel) (e : List KeyedAttribute) (v : Vec BoundFilter Global) →
    bound_value n e (bound.And v) ≡ conjunction (map (bound_value n e) v.items)
value-And n e v = ap (bound_value n e) (sym (bound.rolls-And v)) ∙ fold-roll-BoundFilter Truth (value_step n e)
    (BoundFilter-F.And v)

view-And : (v : Vec Filter Global) → view (filter.And v) ≡ conj (views v.items)
view-And v = ap view (sym (rolls-And v)) ∙ fold-roll-Filter Tree view_step (Filter-F.And v)

view-Or : (v : Vec Filter Global) → view (filter.Or v) ≡ disj (views v.items)
view-Or v = ap view (sym (rolls-Or v)) ∙ fold-roll-Filter Tree view_step (Filter-F.Or v)

all_bound : (s : SchemaModel) (ts : Trees) (bs : List BoundFilter) (n : List RdnModel) (e : List KeyedAttribute) →
    IsKeyedBy s e → AreBoundTo s ts bs → conjunction (map (bound_value n e) bs) ≡ all_value s ts n (attributes_of e)
all_bound s no_trees [] n e k h = refl
all_bound s no_trees (b ∷ bs) n e k h = absurd h
all_bound s (tree t ts) [] n e k h = absurd h
all_bound s (tree t ts) (b ∷ bs) n e k h = ap₂ truth_and (h.0 n e k) (all_bound s ts bs n e k h.1)

any_bound : (s : SchemaModel) (ts : Trees) (bs : List BoundFilter) (n : List RdnModel) (e : List KeyedAttribute) →
    IsKeyedBy s e → AreBoundTo s ts bs → disjunction (map (bound_value n e) bs) ≡ any_value s ts n (attributes_of e)
any_bound s no_trees [] n e k h = refl
any_bound s no_trees (b ∷ bs) n e k h = absurd h
any_bound s (tree t ts) [] n e k h = absurd h
any_bound s (tree t ts) (b ∷ bs) n e k h = ap₂ truth_or (h.0 n e k) (any_bound s ts bs n e k h.1)

pub and_bound : (s : SchemaModel) (f : Filter) (fs : Vec Filter Global) (gs : List Filter)
    (v : Vec BoundFilter Global) → f ≡ filter.And fs → gs ≡ fs.items → AreBoundTo s (views gs) v.items →
    IsBoundTo s (view f) (bound.And v)
and_bound s f fs gs v is same h = λ n e k.
    value-And n e v ∙ all_bound s (views gs) v.items n e k h
    ∙ ap (λ (xs : List Filter). all_value s (views xs) n (attributes_of e)) same
    ∙ ap (λ (t : Tree). filter_value s t n (attributes_of e)) (sym (ap view is ∙ view-And fs))

pub or_bound : (s : SchemaModel) (f : Filter) (fs : Vec Filter Global) (gs : List Filter)
    (v : Vec BoundFilter Global) → f ≡ filter.Or fs → gs ≡ fs.items → AreBoundTo s (views gs) v.items →
    IsBoundTo s (view f) (bound.Or v)
or_bound s f fs gs v is same h = λ n e k.
    value-Or n e v ∙ any_bound s (views gs) v.items n e k h
    ∙ ap (λ (xs : List Filter). any_value s (views xs) n (attributes_of e)) same
    ∙ ap (λ (t : Tree). filter_value s t n (attributes_of e)) (sym (ap view is ∙ view-Or fs))

push_bound : (s : SchemaModel) (fs : List Filter) (f : Filter) (bs : List BoundFilter) (b : BoundFilter) →
    AreBoundTo s (views fs) bs → IsBoundTo s (view f) b → AreBoundTo s (views (fs ++ f ∷ [])) (bs ++ b ∷ [])
push_bound s [] f [] b h k = (k, tt)
push_bound s [] f (c1 ∷ bs) b h k = absurd h
push_bound s (g ∷ fs) f [] b h k = absurd h
push_bound s (g ∷ fs) f (c1 ∷ bs) b h k = (h.0, push_bound s fs f bs b h.1 k)

pub bound_more : (s : SchemaModel) (fs : List Filter) (i : ℕ) (f : Filter) (old new : List BoundFilter)
    (b : BoundFilter) → i < length fs → f ≡ get_or fs i f → new ≡ old ++ b ∷ [] → AreBoundTo s (views (take i fs))
    old → IsBoundTo s (view f) b → AreBoundTo s (views (take (i + 1) fs)) new
bound_more s fs i f old new b lt is pushed h k =
    subst (λ (xs : List Filter). AreBoundTo s (views xs) new)
    (sym (take_more fs i f lt ∙ ap (λ (x : Filter). take i fs ++ x ∷ []) (sym is)))
    (subst (λ (bs : List BoundFilter). AreBoundTo s (views (take i fs ++ f ∷ [])) bs) (sym pushed)
    (push_bound s (take i fs) f old b h k))

-- ---- items

-- a filter that is an item, bound as the item
stands : (s : SchemaModel) (f : Filter) (i : filter_item.Item) (b : BoundFilter) → view f ≡ item i
    → ((n : List RdnModel) (e : List KeyedAttribute) → IsKeyedBy s e → bound_value n e b ≡ wire_item_value s i n
    (attributes_of e)) → IsBoundTo s (view f) b
stands s f i b seen h = λ n e k. h n e k ∙ sym (ap (λ (t : Tree). filter_value s t n (attributes_of e)) seen)

compared : (s : SchemaModel) (f : Filter) (kind : filter_item.Comparison) (d w x a : List ℕ) (b : BoundFilter) →
    view f ≡ item (filter_item.comparison kind w a) → d ≡ w → x ≡ a
    → IsBoundItem s d (asked_by kind x) b → IsBoundTo s (view f) b
compared s f kind d w x a b seen is same h =
    stands s f (filter_item.comparison kind w a) b seen
    (λ n e k. h n e k ∙ ap₂ (λ (u v : List ℕ). item_value s u (asked_by kind v) (attributes_of e)) is same)

view-AtLeast : (d : String Global) (a : Vec ℕ Global) → view (filter.AtLeast d a) ≡
    item (filter_item.comparison filter_item.at_least (string_bytes d) a.items)
view-AtLeast d a = ap view (sym (rolls-AtLeast d a)) ∙ fold-roll-Filter Tree view_step (Filter-F.AtLeast d a)

view-AtMost : (d : String Global) (a : Vec ℕ Global) → view (filter.AtMost d a) ≡
    item (filter_item.comparison filter_item.at_most (string_bytes d) a.items)
view-AtMost d a = ap view (sym (rolls-AtMost d a)) ∙ fold-roll-Filter Tree view_step (Filter-F.AtMost d a)

view-Equal : (d : String Global) (a : Vec ℕ Global) → view (filter.Equal d a) ≡
    item (filter_item.comparison filter_item.equal (string_bytes d) a.items)
view-Equal d a = ap view (sym (rolls-Equal d a)) ∙ fold-roll-Filter Tree view_step (Filter-F.Equal d a)

view-Approx : (d : String Global) (a : Vec ℕ Global) → view (filter.Approx d a) ≡
    item (filter_item.comparison filter_item.approximate (string_bytes d) a.items)
view-Approx d a = ap view (sym (rolls-Approx d a)) ∙ fold-roll-Filter Tree view_step (Filter-F.Approx d a)

view-Present : (d : String Global) → view (filter.Present d) ≡ item (filter_item.presence (string_bytes d))
view-Present d = ap view (sym (rolls-Present d)) ∙ fold-roll-Filter Tree view_step (Filter-F.Present d)

view-Substrings : (x : SubstringFilter) → view (filter.Substrings x) ≡ item (filter_item.substrings (substrings_view x))
view-Substrings x = ap view (sym (rolls-Substrings x)) ∙ fold-roll-Filter Tree view_step (Filter-F.Substrings x)

pub at_least_bound : (s : SchemaModel) (f : Filter) (d : String Global) (a : Vec ℕ Global) (w x : List ℕ)
    (b : BoundFilter) → f ≡ filter.AtLeast d a → w ≡ string_bytes d → x ≡ a.items
    → IsBoundItem s w (asked_by filter_item.at_least x) b → IsBoundTo s (view f) b
at_least_bound s f d a w x b f_is is same h = compared s f filter_item.at_least w (string_bytes d) x a.items b
    (ap view f_is ∙ view-AtLeast d a) is same h

pub at_most_bound : (s : SchemaModel) (f : Filter) (d : String Global) (a : Vec ℕ Global) (w x : List ℕ)
    (b : BoundFilter) → f ≡ filter.AtMost d a → w ≡ string_bytes d → x ≡ a.items
    → IsBoundItem s w (asked_by filter_item.at_most x) b → IsBoundTo s (view f) b
at_most_bound s f d a w x b f_is is same h = compared s f filter_item.at_most w (string_bytes d) x a.items b
    (ap view f_is ∙ view-AtMost d a) is same h

pub equal_bound : (s : SchemaModel) (f : Filter) (d : String Global) (a : Vec ℕ Global) (w x : List ℕ)
    (b : BoundFilter) → f ≡ filter.Equal d a → w ≡ string_bytes d → x ≡ a.items
    → IsBoundItem s w (asked_by filter_item.equal x) b → IsBoundTo s (view f) b
equal_bound s f d a w x b f_is is same h = compared s f filter_item.equal w (string_bytes d) x a.items b (ap view f_is
    ∙ view-Equal d a) is same h

pub approx_bound : (s : SchemaModel) (f : Filter) (d : String Global) (a : Vec ℕ Global) (w x : List ℕ)
    (b : BoundFilter) → f ≡ filter.Approx d a → w ≡ string_bytes d → x ≡ a.items
    → IsBoundItem s w (asked_by filter_item.approximate x) b → IsBoundTo s (view f) b
approx_bound s f d a w x b f_is is same h = compared s f filter_item.approximate w (string_bytes d) x a.items b
    (ap view f_is ∙ view-Approx d a) is same h

pub present_bound : (s : SchemaModel) (f : Filter) (d : String Global) (w : List ℕ) (b : BoundFilter) →
    f ≡ filter.Present d → w ≡ string_bytes d → IsBoundItem s w present b → IsBoundTo s (view f) b
present_bound s f d w b f_is is h =
    stands s f (filter_item.presence (string_bytes d)) b (ap view f_is ∙ view-Present d)
    (λ n e k. h n e k ∙ ap (λ (u : List ℕ). item_value s u present (attributes_of e)) is)

pub substrings_bound : (s : SchemaModel) (f : Filter) (x : SubstringFilter) (w : List ℕ) (b : BoundFilter) →
    f ≡ filter.Substrings x → w ≡ string_bytes x.description
    → IsBoundItem s w (substrings (parts_of (substrings_view x))) b → IsBoundTo s (view f) b
substrings_bound s f x w b f_is is h =
    stands s f (filter_item.substrings (substrings_view x)) b (ap view f_is ∙ view-Substrings x)
    (λ n e k. h n e k ∙ ap (λ (u : List ℕ). item_value s u (substrings (parts_of (substrings_view x)))
    (attributes_of e)) is)
