-- Why a filter was refused, at each exit.
use Rattle.std.proofs.Common.{◌≡◌, ℕ, suc, ◌-◌, ◌<◌, List, [], ◌++◌, sym, ap, subst, ◌∙◌, ◌⊎◌, inl, arith}
use Rattle.std.proofs.lemmas.List.{append-nil}
use Rattle.ldap_ber.specs.Element.{IsElement}
use Rattle.ldap_filter.specs.Item.{Item}
use Rattle.ldap_filter.specs.Tree.{Tree, conj, disj, negation, item}
use Rattle.ldap_filter.specs.ItemGrammar.{item_octet, IsItem}
use Rattle.ldap_filter.specs.Grammar.{octet_of, IsBody, IsFilter}
use Rattle.ldap_ber.specs.Fields.{HasField}
use Rattle.ldap_ber.specs.Faults.{IsPlainFault}
use Rattle.ldap_filter.specs.Limits.{IsOctet, Opens, under, along, IsFault}
use Rattle.ldap_filter.specs.private.Limits.{IsItemTree, Reads, IsRowFault}
use Rattle.ldap_ber.specs.declared.message_fault.MsgFault.{MsgFault}
use Rattle.ldap_ber.specs.declared.message_fault.MsgFault.TheVariants.{TooLarge, NotAMessage, TooDeep, TooManyItems, NoMemory}
use Rattle.ldap_ber.proofs.Same.{same_field}
use Rattle.ldap_filter.proofs.Items.{item_known}
use Rattle.ldap_filter.proofs.Unique.{filter_field, negation_of, row_of, front_unique}

-- a filter at the front has the field that was read
pub at_field : (octets content rest : List ℕ) (first : ℕ) → HasField octets first content rest
    → ((t : Tree) → octet_of t ≡ first → IsBody t content → ⊥) → IsFault NotAMessage 0 0 octets
at_field octets content rest first f none t s x is e =
    let same = same_field octets is.content content x rest (octet_of t) first (filter_field t octets s x is e) f in
    none t same.first (subst (IsBody t) same.content is.inside)

known : (t : Tree) → IsOctet (octet_of t)
known (conj ts) = inl (omega arith, omega arith)
known (disj ts) = inl (omega arith, omega arith)
known (negation t) = inl (omega arith, omega arith)
known (item i) = item_known i

pub no_field : (octets : List ℕ) → (((first : ℕ) × (content rest : List ℕ) × HasField octets first content rest) →
    ⊥) → IsFault NotAMessage 0 0 octets
no_field octets none t s x is e = none (octet_of t, is.content, x, filter_field t octets s x is e)

pub unknown : (octets content rest : List ℕ) (first : ℕ) → HasField octets first content rest → (IsOctet first → ⊥) →
    IsFault NotAMessage 0 0 octets
unknown octets content rest first f never = at_field octets content rest first f
    (λ t e h. never (subst IsOctet e (known t)))

pub row_fault : (e : MsgFault) (limit items : ℕ) (octets content rest : List ℕ) (first : ℕ) →
    HasField octets first content rest → (first ≡ 160) ⊎ (first ≡ 161) → 0 < limit → 0 < items
    → IsRowFault e (limit - 1) (items - 1) content → IsFault e limit items octets
row_fault NotAMessage limit items octets content rest first f is deep some fault =
    at_field octets content rest first f (λ t e h. let r = row_of t content first e is h in fault r.trees r.are_filters)
row_fault TooDeep limit items octets content rest first f is deep some (k, o) =
    let e : suc (limit - 1) ≡ limit = omega arith in (
      suc k,
      subst (λ (n : ℕ). Opens n (suc k) octets) e (along first content rest o.done o.after o.before f is o.parts
          o.are_filters o.items o.opens),
    )
row_fault TooManyItems limit items octets content rest first f is deep some (d, o) =
    let e : suc (items - 1) ≡ items = omega arith in (
      suc d,
      subst (λ (n : ℕ). Opens (suc d) n octets) e (along first content rest o.done o.after o.before f is o.parts
          o.are_filters o.items o.opens),
    )
row_fault NoMemory limit items octets content rest first f is deep some fault = tt
row_fault TooLarge limit items octets content rest first f is deep some fault = fault

pub not_fault : (e : MsgFault) (limit items : ℕ) (octets content rest : List ℕ) → HasField octets 162 content rest →
    0 < limit → 0 < items
    → IsFault e (limit - 1) (items - 1) content → IsFault e limit items octets
not_fault NotAMessage limit items octets content rest f deep some fault =
    at_field octets content rest 162 f (λ t e h. let n = negation_of t content e h in fault n.inner content []
    n.is_filter (sym (append-nil content)))
not_fault TooDeep limit items octets content rest f deep some (k, o) =
    let e : suc (limit - 1) ≡ limit = omega arith in
    (suc k, subst (λ (n : ℕ). Opens n (suc k) octets) e (under content rest f o))
not_fault TooManyItems limit items octets content rest f deep some (d, o) =
    let e : suc (items - 1) ≡ items = omega arith in
    (suc d, subst (λ (n : ℕ). Opens (suc d) n octets) e (under content rest f o))
not_fault NoMemory limit items octets content rest f deep some fault = tt
not_fault TooLarge limit items octets content rest f deep some fault = fault

pub trailing : (limit items left : ℕ) (octets content rest after : List ℕ) (u : Tree) → HasField octets 162 content
    rest → Reads limit items content u left after → (after ≡ [] → ⊥) → IsFault NotAMessage 0 0 octets
trailing limit items left octets content rest after u f reads some =
    at_field octets content rest 162 f (λ t e h.
    let n = negation_of t content e h in
    let same = front_unique u n.inner reads.spelling content after [] reads.is_filter n.is_filter (sym reads.parts
    ∙ sym (append-nil content)) in
    some same.1)

pub an_item : (t : Tree) (content : List ℕ) (n : ℕ) → octet_of t ≡ n → (n ≡ 160 → ⊥) → (n ≡ 161 → ⊥) → (n ≡ 162 → ⊥) →
    IsBody t content → (i : Item) × (item_octet i ≡ n) × IsItem i content
an_item (item i) content n e p q r h = (i, e, h)
an_item (conj ts) content n e p q r h = absurd (p (sym e))
an_item (disj ts) content n e p q r h = absurd (q (sym e))
an_item (negation t) content n e p q r h = absurd (r (sym e))

pub item_fault : (e : MsgFault) (limit items : ℕ) (octets content rest : List ℕ) (n : ℕ) → HasField octets n content
    rest → (n ≡ 160 → ⊥) → (n ≡ 161 → ⊥) → (n ≡ 162 → ⊥) → IsPlainFault e ((i : Item) × (item_octet i ≡ n)
    × IsItem i content) → IsFault e limit items octets
item_fault NotAMessage limit items octets content rest n f p q r fault = at_field octets content rest n f
    (λ t e h. fault (an_item t content n e p q r h))
item_fault TooDeep limit items octets content rest n f p q r fault = absurd fault
item_fault TooManyItems limit items octets content rest n f p q r fault = absurd fault
item_fault NoMemory limit items octets content rest n f p q r fault = tt
item_fault TooLarge limit items octets content rest n f p q r fault = fault

pub item_reads : (limit items : ℕ) (octets content rest : List ℕ) (n : ℕ) (t : Tree) → HasField octets n content
    rest → 0 < limit → 0 < items → IsItemTree n content t → Reads limit items octets t (items - 1) rest
item_reads limit items octets content rest n (item i) f deep some is = record {
  spelling = f.spelling;
  is_filter = record {
    content = content;
    is_element = subst (λ (m : ℕ). IsElement f.spelling m content) (sym is.0)
        f.is_element;
    inside = is.1;
  };
  parts = f.parts;
  deep = omega (arith, deep);
  many = omega (arith, some);
}
item_reads limit items octets content rest n (conj ts) f deep some is = absurd is
item_reads limit items octets content rest n (disj ts) f deep some is = absurd is
item_reads limit items octets content rest n (negation t) f deep some is = absurd is

pub not_reads : (limit items left : ℕ) (octets content rest after : List ℕ) (u : Tree) → HasField octets 162 content
    rest → 0 < limit → 0 < items → Reads (limit - 1) (items - 1) content u left after → after ≡ []
    → Reads limit items octets (negation u) left rest
not_reads limit items left octets content rest after u f deep some reads e =
    let whole : reads.spelling ≡ content = sym (append-nil reads.spelling) ∙ ap (λ (x : List ℕ). reads.spelling ++ x)
    (sym e) ∙ sym reads.parts in
    record {
      spelling = f.spelling;
      is_filter = record {
        content = content;
        is_element = f.is_element;
        inside = subst (IsFilter u) whole
            reads.is_filter;
      };
      parts = f.parts;
      deep = omega (arith, reads.deep);
      many = omega (arith, reads.many);
    }
