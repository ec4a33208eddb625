-- Numbers kept one after the other, and what is found in them.
use Rattle.std.proofs.Common.{ℕ, List, Bool, true, false, cond, Option, None, Some, ◌≡◌, refl, ap, sym, ◌∙◌, map}
use Rattle.std.specs.List.{list_any, position_from}
use Rattle.std.specs.Char.{to_ascii_lowercase}
use Rattle.std.specs.Str.{bytes_eq}
use Rattle.std.proofs.lemmas.Slice.Eq.{bytes_eq-Decides}
use Rattle.schema_text.specs.Descriptions.{DescriptionModel}
use Rattle.schema_text.specs.Words.{is_same_word}
use Rattle.schema_meaning.specs.private.Octets.{kept_or, has_folded, lower}
use Rattle.schema_meaning.specs.Naming.{names_of, find}
pub use Rattle.schema_text.proofs.ldap_words.NumbersKept.{or_else, kept_not, name_more, names_done, number_more, numbers_done, first_of_either}

-- a number that is there stays
some_kept : (o : Option ℕ) (m : ℕ) (b : Bool) (n : ℕ) → o ≡ Some m → o ≡ kept_or o b n
some_kept None m b n h = cc
some_kept (Some k) m b n h = refl

stays_by : (f : List ℕ → Option ℕ) (k q : List ℕ) (m n : ℕ) (b : Bool) → bytes_eq q k ≡ b → Some m ≡ f k →
    f q ≡ kept_or (f q) b n
stays_by f k q m n true e h = some_kept (f q) m true n (ap f ((bytes_eq-Decides q k).0 e) ∙ sym h)
stays_by f k q m n false e h = sym (kept_not (f q) n)

pub stays : (f : List ℕ → Option ℕ) (k q : List ℕ) (m n : ℕ) → Some m ≡ f k → f q ≡ kept_or (f q) (bytes_eq q k) n
stays f k q m n h = stays_by f k q m n (bytes_eq q k) refl h

-- a number that is not there comes
none_kept : (o : Option ℕ) (n : ℕ) → None ≡ o → Some n ≡ kept_or o true n
none_kept None n h = refl
none_kept (Some k) n h = cc

comes_by : (f : List ℕ → Option ℕ) (k q : List ℕ) (n : ℕ) (b : Bool) → bytes_eq q k ≡ b → None ≡ f k →
    cond b (Some n) (f q) ≡ kept_or (f q) b n
comes_by f k q n true e h = none_kept (f q) n (h ∙ sym (ap f ((bytes_eq-Decides q k).0 e)))
comes_by f k q n false e h = sym (kept_not (f q) n)

pub comes : (f : List ℕ → Option ℕ) (k q : List ℕ) (n : ℕ) → None ≡ f k → cond (bytes_eq q k) (Some n) (f q) ≡
    kept_or (f q) (bytes_eq q k) n
comes f k q n h = comes_by f k q n (bytes_eq q k) refl h

pub found_either : (ds : List DescriptionModel) (by_name by_oid : List ℕ → Option ℕ)
    → ((q : List ℕ) → by_name q ≡ position_from (λ d. has_folded q (names_of d)) 0 ds)
    → ((q : List ℕ) → by_oid q ≡ position_from (λ d. bytes_eq q d.oid) 0 ds)
    → (w : List ℕ) → lower (by_name (map to_ascii_lowercase w)) (by_oid w) ≡ find ds w
found_either ds by_name by_oid f g w =
    ap (λ z. lower z (by_oid w)) (f (map to_ascii_lowercase w))
    ∙ ap (lower _) (g w)
    ∙ sym (first_of_either (λ (d : DescriptionModel). list_any (is_same_word w) (names_of d))
    (λ (d : DescriptionModel). bytes_eq w d.oid) 0 ds)
