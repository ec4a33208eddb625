-- The octets of a row with one more filter at its end.
use Rattle.std.proofs.Common.{◌≡◌, ℕ, zero, suc, ◌+◌, ◌<◌, ◌≤◌, List, [], ◌∷◌, ◌++◌, arith, length, get_or, take, sym, ap, ◌∙◌, append_assoc}
use Rattle.std.proofs.lemmas.List.{append-nil, take_more, length-append}
use Rattle.ldap_filter.specs.Tree.{Tree, Trees, no_trees, tree}
use Rattle.ldap_filter.specs.View.{view}
use Rattle.ldap_filter.specs.private.View.{views}
use Rattle.ldap_filter.specs.Grammar.{octet_of, filter_content, filter_bytes, filters_bytes}
use Rattle.ldap_filter.specs.declared.tree.Filter.{Filter}
use Rattle.ldap_ber.proofs.RowsWritten.{element_long}
use Rattle.ldap_filter.proofs.Rows.{push, views_push}

filters_bytes_push : (ts : Trees) (u : Tree) → filters_bytes (push ts u) ≡ filters_bytes ts ++ filter_bytes u
filters_bytes_push no_trees u = append-nil (filter_bytes u)
filters_bytes_push (tree t ts) u = ap (λ (x : List ℕ). filter_bytes t ++ x) (filters_bytes_push ts u)
    ∙ sym (append_assoc (filter_bytes t) (filters_bytes ts) (filter_bytes u))

pub row_more : (fs : List Filter) (i : ℕ) (d : Filter) → i < length fs → filters_bytes (views (take (i + 1) fs)) ≡
    filters_bytes (views (take i fs)) ++ filter_bytes (view (get_or fs i d))
row_more fs i d lt = ap (λ (xs : List Filter). filters_bytes (views xs)) (take_more fs i d lt)
    ∙ ap filters_bytes (views_push (take i fs) (get_or fs i d)) ∙ filters_bytes_push (views (take i fs))
    (view (get_or fs i d))

pub row_step : (old now new : List ℕ) (fs : List Filter) (i : ℕ) (f : Filter) → i < length fs → f ≡ get_or fs i f →
    now ≡ old ++ filters_bytes (views (take i fs)) → new ≡ now ++ filter_bytes (view f)
    → new ≡ old ++ filters_bytes (views (take (i + 1) fs))
row_step old now new fs i f lt is so_far step =
    step ∙ ap (λ (x : List ℕ). x ++ filter_bytes (view f)) so_far
    ∙ append_assoc old (filters_bytes (views (take i fs))) (filter_bytes (view f))
    ∙ ap (λ (x : List ℕ). old ++ x) (ap (λ (g : Filter). filters_bytes (views (take i fs)) ++ filter_bytes (view g))
    is ∙ sym (row_more fs i f lt))

element_long_then : (f : Filter) (fs : List Filter) → length (filter_content (view f)) ≤ length
    (filters_bytes (views (f ∷ fs)))
element_long_then f fs =
    omega (
      arith,
      length-append (filter_bytes (view f)) (filters_bytes (views fs)),
      element_long (octet_of
          (view f)) (filter_content (view f)) (length (filter_content (view f))) (omega arith),
    )

long_at : (fs : List Filter) (i : ℕ) (d : Filter) → i < length fs → length (filter_content (view (get_or fs i d))) ≤
    length (filters_bytes (views fs))
long_at [] i d lt = absurd (omega arith)
long_at (f ∷ fs) zero d lt = element_long_then f fs
long_at (f ∷ fs) (suc i) d lt =
    omega (arith, length-append (filter_bytes (view f)) (filters_bytes (views fs)), long_at fs i d (omega arith))

-- a row is at least as long as the content of each of its filters
pub row_long : (fs : List Filter) (i : ℕ) (f : Filter) (n : ℕ) → i < length fs → f ≡ get_or fs i f →
    n ≤ length (filter_content (view f)) → n ≤ length (filters_bytes (views fs))
row_long fs i f n lt is long =
    let same : length (filter_content (view f)) ≡ length (filter_content (view (get_or fs i f))) =
    ap (λ (g : Filter). length (filter_content (view g))) is in
    omega (arith, same, long_at fs i f lt)
