-- Names read relative name by relative name, from their ends.
use Rattle.std.proofs.Common.{◌≡◌, ◌<◌, ◌-◌, ℕ, List, [], ◌∷◌, ◌++◌, length, reverse, Option, None, Some, refl, sym, ap, ◌∙◌, arith}
use Rattle.std.specs.Prelude.{option_copied, get_or, is_some, map, true}
use Rattle.std.specs.Option.{option_map, option_and_then}
use Rattle.std.specs.List.{slice_get}
use Rattle.std.proofs.lemmas.List.{get_or-reverse, length-reverse, reverse-append, reverse-reverse}
use Rattle.std.proofs.lemmas.Option.{slice_get-get_or}
use denote.Bor.{Bor}
use Rattle.indexed_tree.specs.ldap_dn.Names.{RdnModel}
use Rattle.indexed_tree.specs.ldap_dn.Printed.{printed_behind, printed_name, printed_rdn, separated}
use Rattle.indexed_tree.specs.ldap_schema.Schema.{SchemaModel}
use Rattle.indexed_tree.specs.ldap_match.declared.truth.Truth.TheVariants.{Undefined}
use Rattle.indexed_tree.specs.dir_entry.Entry.{KeyedAttribute}
use Rattle.indexed_tree.specs.dir_tree.Directory.{Entered}
use Rattle.ldap_eval.specs.Bound.{bound_value}
use Rattle.ldap_eval.specs.declared.bound.BoundFilter.{BoundFilter}
use Rattle.dir_search.specs.Numbered.{name_of}
use Rattle.dir_search.specs.Looks.{value_on}

copied_now : {A : Type 0} (o : Option (Bor A)) → option_map (λ (r : Bor A). r.now) o ≡ option_copied o
copied_now None = refl
copied_now (Some r) = refl

-- a place from the front is one from the end
from_end : (l : List RdnModel) (at : ℕ) → at < length l → slice_get (reverse l) (length l - 1 - at) ≡ slice_get l at
from_end [] at h = absurd (omega arith)
from_end (x ∷ l) at h =
    let n : length (reverse (x ∷ l)) ≡ length (x ∷ l) = length-reverse (x ∷ l) in
    let in_end : length (x ∷ l) - 1 - at < length (x ∷ l) = omega arith in
    let in_turned : length (x ∷ l) - 1 - at < length (reverse (x ∷ l)) = omega arith in
    let back : length (x ∷ l) - 1 - (length (x ∷ l) - 1 - at) ≡ at = omega arith in
    slice_get-get_or (reverse (x ∷ l)) (length (x ∷ l) - 1 - at) x in_turned
    ∙ ap (λ (r : RdnModel). Some r) (get_or-reverse (x ∷ l) (length (x ∷ l) - 1 - at) x in_end
    ∙ ap (λ (k : ℕ). get_or (x ∷ l) k x) back)
    ∙ sym (slice_get-get_or (x ∷ l) at x h)

-- the relative name at a place of the name of an entry
pub rdn_read : (o : Option Entered) (r : Option (Bor RdnModel)) (count at : ℕ) → count ≡ length (name_of o) →
    at < count → option_copied r ≡ option_and_then (λ (e : Entered). slice_get (reverse e.name) (count - 1 - at)) o
    → option_map (λ (x : Bor RdnModel). x.now) r ≡ slice_get (name_of o) at
rdn_read None r count at n h e = absurd (omega arith)
rdn_read (Some e) r count at n h f =
    let within : at < length e.name = omega arith in
    copied_now r ∙ f ∙ ap (λ (m : ℕ). slice_get (reverse e.name) (m - 1 - at)) n ∙ from_end e.name at within

pub count_some : (o : Option Entered) (n : ℕ) → Some n ≡ option_map (λ (e : Entered). length e.name) o →
    n ≡ length (name_of o)
count_some None n h = absurd (cc h)
count_some (Some e) n h = cc h

pub count_none : (o : Option Entered) → ◌≡◌ {A = Option ℕ} None (option_map (λ (e : Entered). length e.name) o) →
    0 ≡ length (name_of o)
count_none None h = refl
count_none (Some e) h = absurd (cc h)

-- the value of a bound filter on an entry by its name and its attributes
pub value_some : (b : BoundFilter) (o : Option Entered) (a : List KeyedAttribute) →
    Some a ≡ option_map (λ (e : Entered). e.entry) o → bound_value (name_of o) a b ≡ value_on b o
value_some b None a h = absurd (cc h)
value_some b (Some e) a h = let same : a ≡ e.entry = cc h in ap (λ (x : List KeyedAttribute). bound_value e.name x b)
    same

pub value_none : (b : BoundFilter) (o : Option Entered) → ◌≡◌ {A = Option (List KeyedAttribute)} None
    (option_map (λ (e : Entered). e.entry) o) → Undefined ≡ value_on b o
value_none b None h = refl
value_none b (Some e) h = absurd (cc h)

-- what is printed behind the names right below one, from its relative names, the last first
pub behind_some : (s : SchemaModel) (o : Option Entered) (l : List RdnModel) →
    Some l ≡ option_map (λ (e : Entered). reverse e.name) o → printed_behind s l ≡ printed_behind s
    (reverse (name_of o))
behind_some s None l h = absurd (cc h)
behind_some s (Some e) l h = let same : l ≡ reverse e.name = cc h in ap (printed_behind s) same

pub behind_none : (s : SchemaModel) (o : Option Entered) → ◌≡◌ {A = Option (List RdnModel)} None
    (option_map (λ (e : Entered). reverse e.name) o) → [] ≡ printed_behind s (reverse (name_of o))
behind_none s None h = refl
behind_none s (Some e) h = absurd (cc h)

-- a relative name printed before what stands behind it is the name
pub printed_below : (s : SchemaModel) (o above : Option Entered) (r : RdnModel) → option_map (λ (e : Entered). e.name)
    o ≡ option_map (λ (e : Entered). e.name ++ r ∷ []) above → is_some o ≡ true
    → printed_rdn s r.spelling ++ printed_behind s (reverse (name_of above)) ≡ printed_name s (name_of o)
printed_below s None above r h n = absurd (cc n)
printed_below s (Some e) None r h n = absurd (cc h)
printed_below s (Some e) (Some a) r h n =
    let name : e.name ≡ a.name ++ r ∷ [] = cc h in
    let turned : reverse (a.name ++ r ∷ []) ≡ r ∷ reverse a.name = reverse-append a.name (r ∷ []) in
    sym (ap (λ (l : List RdnModel). separated 44 (map (λ (x : RdnModel). printed_rdn s x.spelling) l)) turned)
    ∙ ap (printed_name s) (sym name)

-- a name printed from its relative names, the last first
pub printed_some : (s : SchemaModel) (o : Option Entered) (l : List RdnModel) →
    Some l ≡ option_map (λ (e : Entered). reverse e.name) o → printed_name s (reverse l) ≡ printed_name s (name_of o)
printed_some s None l h = absurd (cc h)
printed_some s (Some e) l h = let same : l ≡ reverse e.name = cc h in ap (λ (n : List RdnModel). printed_name s
    (reverse n)) same ∙ ap (printed_name s) (reverse-reverse e.name)

pub printed_none : (s : SchemaModel) (o : Option Entered) → ◌≡◌ {A = Option (List RdnModel)} None
    (option_map (λ (e : Entered). reverse e.name) o) → [] ≡ printed_name s (name_of o)
printed_none s None h = refl
printed_none s (Some e) h = absurd (cc h)

-- the name of an entry that stands below another one
pub named_below : (o above : Option Entered) (r : RdnModel) → is_some o ≡ true → option_map (λ (e : Entered). e.name)
    o ≡ option_map (λ (e : Entered). e.name ++ r ∷ []) above
    → name_of o ≡ name_of above ++ r ∷ []
named_below None above r n h = absurd (cc n)
named_below (Some e) None r n h = absurd (cc h)
named_below (Some e) (Some a) r n h = cc h
