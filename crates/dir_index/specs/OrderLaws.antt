-- The laws of the order of postings, and of the keys of their lists.
use Rattle.std.proofs.Common.{List, ℕ, Bool, nat_eq, ◌≡◌, sym, ap, ◌∙◌}
use Rattle.std.specs.Prelude.{◌&&◌}
use Rattle.std.specs.Str.{bytes_eq}
use Rattle.std.specs.Ordering.{nat_cmp, is_eq, ordering_then}
use Rattle.std.specs.Cmp.{IsEquivalence, IsTotalOrder, nat_cmp_total, on_total, then_total, unsigned_ties}
use Rattle.std.specs.Cmp.Lexicographic.{slice_cmp, nat_list_cmp_total, texts_ties}
use Rattle.dir_index.specs.declared.posting.Posting.{Posting}
use Rattle.dir_index.specs.declared.list_key.ListKey.{ListKey}
use Rattle.dir_index.specs.ListKeys.{list_order, is_same_list}
use Rattle.dir_index.specs.Ordered.{type_of, rank_of, octets_of, posting_order, is_same_posting}
use Rattle.index_choice.specs.dir_entry.ldap_dn.OrderLaws.{is_eq-then, tied}

-- postings are in a total order
pub posting_total : IsTotalOrder posting_order
posting_total = then_total (on_total type_of nat_cmp_total) (then_total (on_total rank_of nat_cmp_total)
    (on_total octets_of nat_list_cmp_total))

ties_of : (t u r s : ℕ) (k l : List ℕ) → (nat_eq t u && (nat_eq r s && bytes_eq k l)) ≡
    is_eq (ordering_then (nat_cmp t u) (ordering_then (nat_cmp r s) (slice_cmp nat_cmp k l)))
ties_of t u r s k l =
    ap (λ (b : Bool). b && (nat_eq r s && bytes_eq k l)) (unsigned_ties t u)
    ∙ ap (λ (b : Bool). is_eq (nat_cmp t u) && (b && bytes_eq k l)) (unsigned_ties r s)
    ∙ ap (λ (b : Bool). is_eq (nat_cmp t u) && (is_eq (nat_cmp r s) && b)) (texts_ties k l)
    ∙ ap (λ (b : Bool). is_eq (nat_cmp t u) && b) (sym (is_eq-then (nat_cmp r s) (slice_cmp nat_cmp k l)))
    ∙ sym (is_eq-then (nat_cmp t u) (ordering_then (nat_cmp r s) (slice_cmp nat_cmp k l)))

-- the order finds no difference between postings exactly where they are the same
pub posting_ties : (p q : Posting) → is_same_posting p q ≡ is_eq (posting_order p q)
posting_ties p q = ties_of (type_of p) (type_of q) (rank_of p) (rank_of q) (octets_of p) (octets_of q)

-- to be the same posting is an equivalence
pub posting_equiv : IsEquivalence is_same_posting
posting_equiv = tied {K = Posting} {R = posting_order} is_same_posting posting_ties posting_total

-- the same of the keys of lists
pub list_total : IsTotalOrder list_order
list_total = then_total (on_total (λ (k : ListKey). k.type_id) nat_cmp_total)
    (then_total (on_total (λ (k : ListKey). k.rank) nat_cmp_total) (on_total (λ (k : ListKey). k.octets)
    nat_list_cmp_total))

-- the order finds no difference between the keys of lists exactly where they are the same
pub list_ties : (j k : ListKey) → is_same_list j k ≡ is_eq (list_order j k)
list_ties j k = ties_of j.type_id k.type_id j.rank k.rank j.octets k.octets

-- to be the key of the same list is an equivalence
pub list_equiv : IsEquivalence is_same_list
list_equiv = tied {K = ListKey} {R = list_order} is_same_list list_ties list_total
