-- What is written is in the grammar.
use Rattle.std.proofs.Common.{ℕ, ◌<◌, List, ◌%◌, length, refl, arith}
use Rattle.std.proofs.lemmas.List.{length-append}
use Rattle.ldap_ber.specs.Element.{length_octets, element_bytes}
use Rattle.ldap_ber.proofs.Written.{written as element_written}
use Rattle.ldap_filter.specs.Tree.{Tree, conj, disj, negation, item, Trees, no_trees, tree}
use Rattle.ldap_filter.specs.Grammar.{octet_of, IsBody, AreFilters, IsFilter, HasTexts, HaveTexts, filter_content, filter_bytes, filters_bytes}
use Rattle.ldap_filter.proofs.ItemsSpelled.{item_low, item_written}

inner : (first : ℕ) (content : List ℕ) → length (element_bytes first content) < 4294967296 → length content < 4294967296
inner first content small = omega (arith, length-append (length_octets (length content)) content)

low : (t : Tree) → octet_of t % 32 < 31
low (conj ts) = omega arith
low (disj ts) = omega arith
low (negation t) = omega arith
low (item i) = item_low i

mutual
  pub body_written : (t : Tree) → HasTexts t → length (filter_content t) < 4294967296 → IsBody t (filter_content t)
  body_written (conj ts) h small = rows_written ts h small
  body_written (disj ts) h small = rows_written ts h small
  body_written (negation t) h small =
      let less = inner (octet_of t) (filter_content t) small in
      record {
        content = filter_content t;
        is_element = element_written (octet_of t) (filter_content t) (low t) less;
        inside = body_written t h less;
      }
  body_written (item i) h small = item_written i h small

  pub rows_written : (ts : Trees) → HaveTexts ts → length (filters_bytes ts) < 4294967296 →
      AreFilters ts (filters_bytes ts)
  rows_written no_trees h small = refl
  rows_written (tree t ts) h small =
      let less = inner (octet_of t) (filter_content t)
      (omega (arith, length-append (filter_bytes t) (filters_bytes ts))) in
      record {
        first = filter_bytes t;
        rest = filters_bytes ts;
        parts = refl;
        is_first = record {
          content = filter_content t;
          is_element = element_written (octet_of t) (filter_content t)
              (low t) less;
          inside = body_written t h.0 less;
        };
        is_rest = rows_written ts h.1 (omega (arith, length-append (filter_bytes t) (filters_bytes ts)));
      }

pub written : (t : Tree) → HasTexts t → length (filter_content t) < 4294967296 → IsFilter t (filter_bytes t)
written t h small = record {
  content = filter_content t;
  is_element = element_written (octet_of t) (filter_content t)
      (low t) small;
  inside = body_written t h small;
}
