-- An index built a name at a time, and what is found in it.
use Rattle.std.proofs.Common.{ℕ, List, ◌≡◌, ap, sym, ◌∙◌, map}
use Rattle.std.specs.List.{list_any, position_from}
use Rattle.std.specs.Char.{to_ascii_lowercase}
use Rattle.std.specs.Str.{bytes_eq}
use Rattle.ldap_schema.specs.Schema.{is_called, is_same_name}
use Rattle.ldap_schema.specs.private.NameOrder.{number_at, has_name, lower, IndexModel, find_in}
pub use Rattle.ldap_words.proofs.NumbersKept.{or_else, kept_not, name_more, names_done, number_more, numbers_done, first_of_either}

pub found_either : {A : Type 0} (oid : A → List ℕ) (names : A → List (List ℕ)) (xs : List A) (m : IndexModel)
    → ((q : List ℕ) → number_at m.names q ≡ position_from (λ x. has_name q (names x)) 0 xs)
    → ((q : List ℕ) → number_at m.oids q ≡ position_from (λ x. bytes_eq q (oid x)) 0 xs)
    → (d : List ℕ) → find_in m d ≡ position_from (λ x. is_called d (oid x) (names x)) 0 xs
found_either oid names xs m by_name by_oid d =
    ap (λ z. lower z (number_at m.oids d)) (by_name (map to_ascii_lowercase d))
    ∙ ap (lower _) (by_oid d)
    ∙ sym (first_of_either (λ x. list_any (is_same_name d) (names x)) (λ x. bytes_eq d (oid x)) 0 xs)
