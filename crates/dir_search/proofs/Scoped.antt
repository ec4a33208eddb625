-- The numbers that a tree keeps for a scope are those of the entries in it.
use Rattle.std.proofs.Common.{◌≡◌, ℕ, suc, length, Bool, true, false, cond, List, [], ◌∷◌, Option, Some, None, map, filter, refl, sym, ap, ◌∙◌}
use Rattle.std.specs.Prelude.{is_some}
use Rattle.std.specs.Option.{option_map}
use Rattle.indexed_tree.specs.ldap_schema.Schema.{SchemaModel}
use Rattle.indexed_tree.specs.ldap_dn.Names.{RdnModel, rdns}
use Rattle.indexed_tree.specs.directory_api.ldap_msg.ldap_requests.declared.search.Scope.{Scope}
use Rattle.indexed_tree.specs.directory_api.ldap_msg.Messages.{SearchRequestValue}
use Rattle.indexed_tree.specs.dir_tree.Directory as tree
use Rattle.indexed_tree.specs.dir_tree.Directory.{NameKey, Entered, TreeModel, NumbersRise, name_eq, begins, find, numbers, is_at_or_below}
use Rattle.indexed_tree.specs.Directory.{NamedEntry}
use Rattle.indexed_tree.specs.Places.{entry_named}
use Rattle.indexed_tree.specs.Stored.{named, directory}
use Rattle.dir_search.specs.Answer.{is_empty, is_match, in_scope, limited, stands, found_at}
use Rattle.dir_search.specs.private.Numbered.{found_of}
use Rattle.dir_search.specs.Scopes.{is_right_under, is_in_scope}
use Rattle.dir_search.specs.Selection.{selected}
use Rattle.dir_search.proofs.Numbers.{numbers_are}

kept : (o : Option Entered) (ns fs : List ℕ) → Some ns ≡ option_map (λ (e : Entered). fs) o → ns ≡ fs
kept None ns fs h = absurd (cc h)
kept (Some e) ns fs h = cc h

lost : (o : Option Entered) (ns fs : List ℕ) → ◌≡◌ {A = Option (List ℕ)} None (option_map (λ (e : Entered). fs) o) →
    is_some o ≡ true → ns ≡ fs
lost None ns fs h g = absurd (cc g)
lost (Some e) ns fs h g = absurd (cc h)

gone : (o : Option Entered) (fs : List ℕ) → ◌≡◌ {A = Option (List ℕ)} None (option_map (λ (e : Entered). fs) o) →
    o ≡ None
gone None fs h = refl
gone (Some e) fs h = absurd (cc h)

-- right under a base that is not empty
level_is : (suffix : NameKey) (base : List RdnModel) (d : List Entered) → is_empty base ≡ false →
    numbers (tree.is_right_under (rdns base)) d ≡ numbers (λ e. is_right_under suffix (rdns base) (rdns e.name)) d
level_is suffix [] d h = absurd (cc h)
level_is suffix (r ∷ rs) d h = refl

pub level_kept : (suffix : NameKey) (base : List RdnModel) (d : List Entered) (ns : List ℕ) → is_empty base ≡ false →
    Some ns ≡ option_map (λ e. numbers (tree.is_right_under (rdns base)) d) (find (rdns base) d)
    → ns ≡ numbers (λ e. is_right_under suffix (rdns base) (rdns e.name)) d
level_kept suffix base d ns h g = kept (find (rdns base) d) ns (numbers (tree.is_right_under (rdns base)) d) g
    ∙ level_is suffix base d h

pub level_none : (suffix : NameKey) (base : List RdnModel) (d : List Entered) → is_some (find (rdns base) d) ≡ true →
    None ≡ option_map (λ e. numbers (tree.is_right_under (rdns base)) d) (find (rdns base) d)
    → [] ≡ numbers (λ e. is_right_under suffix (rdns base) (rdns e.name)) d
level_none suffix base d here g = lost (find (rdns base) d) []
    (numbers (λ e. is_right_under suffix (rdns base) (rdns e.name)) d) (none_of (find (rdns base) d) g) here
  where
    none_of : (o : Option Entered) → None ≡ option_map (λ e. numbers (tree.is_right_under (rdns base)) d) o →
        None ≡ option_map (λ e. numbers (λ e. is_right_under suffix (rdns base) (rdns e.name)) d) o
    none_of None h = refl
    none_of (Some e) h = absurd (cc h)

-- at or below the root stand all
pub all_kept : (suffix : List RdnModel) (d : List Entered) (ns : List ℕ) → numbers (is_at_or_below (rdns suffix)) d ≡
    numbers (λ e. true) d → Some ns ≡ option_map (λ e. numbers (is_at_or_below (rdns suffix)) d) (find (rdns suffix) d)
    → ns ≡ numbers (λ e. true) d
all_kept suffix d ns within g = kept (find (rdns suffix) d) ns (numbers (is_at_or_below (rdns suffix)) d) g ∙ within

pub all_none : (suffix : List RdnModel) (d : List Entered) → (find (rdns suffix) d ≡ None → d ≡ []) →
    None ≡ option_map (λ e. numbers (is_at_or_below (rdns suffix)) d) (find (rdns suffix) d) →
    [] ≡ numbers (λ e. true) d
all_none suffix d rooted g = ap (numbers (λ e. true))
    (sym (rooted (gone (find (rdns suffix) d) (numbers (is_at_or_below (rdns suffix)) d) g)))

pub subtree_kept : (base : List RdnModel) (d : List Entered) (ns : List ℕ) →
    Some ns ≡ option_map (λ e. numbers (is_at_or_below (rdns base)) d) (find (rdns base) d) →
    ns ≡ numbers (λ e. begins (rdns base) (rdns e.name)) d
subtree_kept base d ns g = kept (find (rdns base) d) ns (numbers (is_at_or_below (rdns base)) d) g

pub subtree_none : (base : List RdnModel) (d : List Entered) → is_some (find (rdns base) d) ≡ true →
    None ≡ option_map (λ e. numbers (is_at_or_below (rdns base)) d) (find (rdns base) d) →
    [] ≡ numbers (λ e. begins (rdns base) (rdns e.name)) d
subtree_none base d here g = lost (find (rdns base) d) [] (numbers (is_at_or_below (rdns base)) d) g here

-- below the empty base stand all
pub below_all : (base : List RdnModel) (d : List Entered) → base ≡ [] → numbers (λ e. true) d ≡
    numbers (λ e. begins (rdns base) (rdns e.name)) d
below_all base d h = ap (λ (b : List RdnModel). numbers (λ e. begins (rdns b) (rdns e.name)) d) (sym h)

-- right under the empty base stands the root
pub level_root : (suffix : NameKey) (base : List RdnModel) (d : List Entered) → is_empty base ≡ true →
    numbers (λ e. name_eq suffix (rdns e.name)) d ≡ numbers (λ e. is_right_under suffix (rdns base) (rdns e.name)) d
level_root suffix [] d h = refl
level_root suffix (r ∷ rs) d h = absurd (cc h)

there : (q : NameKey) (d : List Entered) → is_some (entry_named q (map named d)) ≡ is_some (find q d)
there q [] = refl
there q (e ∷ es) = by (name_eq q (rdns e.name)) (there q es)
  where
    by : (b : Bool) → is_some (entry_named q (map named es)) ≡ is_some (find q es) →
        is_some (cond b (Some (named e)) (entry_named q (map named es))) ≡ is_some (cond b (Some e) (find q es))
    by true ih = refl
    by false ih = ih

-- a base that stands and is not empty is an entry's name
pub stands_found : (s : SchemaModel) (t : TreeModel) (base : List RdnModel) → stands (directory s t) base ≡ true →
    is_empty base ≡ false → is_some (find (rdns base) t.entries) ≡ true
stands_found s t [] h e = absurd (cc e)
stands_found s t (r ∷ rs) h e = sym (there (rdns (r ∷ rs)) t.entries) ∙ h

-- entries that pass, seen without keys
pub shown_filter : (p : NamedEntry → Bool) (d : List Entered) → map named (filter (λ e. p (named e)) d) ≡
    filter p (map named d)
shown_filter p [] = refl
shown_filter p (e ∷ es) = by (p (named e)) (shown_filter p es)
  where
    by : (b : Bool) → map named (filter (λ e. p (named e)) es) ≡ filter p (map named es) →
        map named (cond b (e ∷ filter (λ e. p (named e)) es) (filter (λ e. p (named e)) es)) ≡
        cond b (named e ∷ filter p (map named es)) (filter p (map named es))
    by true ih = ap (λ (l : List NamedEntry). named e ∷ l) ih
    by false ih = ih

-- What is found of the numbers in scope is what the directory's scope has.
pub found_scope : (s : SchemaModel) (t : TreeModel) (q : SearchRequestValue) (base : List RdnModel) →
    NumbersRise t.entries
    → found_of s q (numbers (λ e. is_in_scope (rdns t.suffix) q.scope (rdns base) (rdns e.name)) t.entries)
    t.entries ≡ found_at (directory s t) q base
found_scope s t q base rise =
    let p : NamedEntry → Bool = λ e. is_in_scope (rdns t.suffix) q.scope (rdns base) (rdns e.name) in
    ap (λ (l : List NamedEntry). limited q.size_limit (map (selected s q.attributes q.types_only)
    (filter (is_match s q.filter) l)))
    (ap (λ (l : List Entered). map named l) (numbers_are (λ e. p (named e)) t.entries rise) ∙ shown_filter p t.entries)

counted : (p : NamedEntry → Bool) (d : List Entered) → length (numbers (λ e. p (named e)) d) ≡
    length (filter p (map named d))
counted p [] = refl
counted p (e ∷ es) = by (p (named e)) (counted p es)
  where
    by : (b : Bool) → length (numbers (λ e. p (named e)) es) ≡ length (filter p (map named es))
        → length (cond b (e.number ∷ numbers (λ e. p (named e)) es) (numbers (λ e. p (named e)) es)) ≡
        length (cond b (named e ∷ filter p (map named es)) (filter p (map named es)))
    by true ih = ap (λ (k : ℕ). suc k) ih
    by false ih = ih

-- there are as many numbers in scope as entries
pub scope_counted : (s : SchemaModel) (t : TreeModel) (scope : Scope) (base : List RdnModel)
    → length (numbers (λ e. is_in_scope (rdns t.suffix) scope (rdns base) (rdns e.name)) t.entries) ≡
    length (in_scope (directory s t) scope base)
scope_counted s t scope base = counted (λ e. is_in_scope (rdns t.suffix) scope (rdns base) (rdns e.name)) t.entries

-- no number is in the scope that is none
pub numbers_nowhere : (d : List Entered) → [] ≡ numbers (λ e. false) d
numbers_nowhere [] = refl
numbers_nowhere (e ∷ es) = numbers_nowhere es
