-- Parts as one.
use Rattle.std.proofs.Common.{◌≡◌, ℕ, List, [], ◌∷◌, ◌++◌, refl, sym, ap, ◌∙◌, append-nil, append_assoc, length, length-append, ◌+◌, ◌<◌, get_or, take}
use Rattle.std.proofs.lemmas.List.{take_more}
use Rattle.ldap_match.specs.ldap_syntax.Forms.{FormModel}
use Rattle.value_parts.specs.Parts.{PartModel, before, whole}

made : List (List ℕ) → List (List ℕ) → List FormModel → PartModel
made v k f = record { values = v; keys = k; forms = f }

pub same_part : (p q : PartModel) → p.values ≡ q.values → p.keys ≡ q.keys → p.forms ≡ q.forms → p ≡ q
unfolding made
same_part p q v k f = by p.values q.values p.keys q.keys p.forms q.forms v k f
  where
    by : (a b c d : List (List ℕ)) (x y : List FormModel) → a ≡ b → c ≡ d → x ≡ y → made a c x ≡ made b d y
    by a b c d x y e f g = rw (e, f, g) refl

pub before-none : (p : PartModel) → before p (whole []) ≡ p
before-none p = same_part _ _ (append-nil p.values) (append-nil p.keys) (append-nil p.forms)

pub before_assoc : (p q r : PartModel) → before (before p q) r ≡ before p (before q r)
before_assoc p q r = same_part _ _ (append_assoc p.values q.values r.values) (append_assoc p.keys q.keys r.keys)
    (append_assoc p.forms q.forms r.forms)

pub whole-append : (xs ys : List PartModel) → whole (xs ++ ys) ≡ before (whole xs) (whole ys)
whole-append [] ys = refl
whole-append (x ∷ xs) ys = ap (before x) (whole-append xs ys) ∙ sym (before_assoc x (whole xs) (whole ys))

pub whole_push : (xs : List PartModel) (p : PartModel) → whole (xs ++ p ∷ []) ≡ before (whole xs) p
whole_push xs p = whole-append xs (p ∷ []) ∙ ap (before (whole xs)) (before-none p)

-- how many values there are in parts up to a place
pub count_more : (xs : List PartModel) (i : ℕ) (p : PartModel) → i < length xs → p ≡ get_or xs i p →
    length (whole (take (i + 1) xs)).values ≡ length (whole (take i xs)).values + length p.values
count_more xs i p lt is =
    ap (λ (ys : List PartModel). length (whole ys).values) (take_more xs i p lt ∙ ap (λ (q : PartModel). take i xs ++ q ∷ []) (sym is))
    ∙ ap (λ (q : PartModel). length q.values) (whole_push (take i xs) p)
    ∙ length-append (whole (take i xs)).values p.values

-- parts whose last one is replaced by one that has more at its end
pub filled : (rest all : List PartModel) (last first lists more : PartModel) → all ≡ rest ++ last ∷ [] →
    first.values ≡ last.values → first.keys ≡ last.keys → first.forms ≡ last.forms
    → lists.values ≡ first.values ++ more.values → lists.keys ≡ first.keys ++ more.keys →
    lists.forms ≡ first.forms ++ more.forms → before (whole rest) lists ≡ before (whole all) more
filled rest all last first lists more is v k f w l g =
    ap (before (whole rest)) (same_part lists (before last more) (w ∙ ap (λ (x : List (List ℕ)). x ++ more.values) v)
    (l ∙ ap (λ (x : List (List ℕ)). x ++ more.keys) k) (g ∙ ap (λ (x : List FormModel). x ++ more.forms) f))
    ∙ sym (before_assoc (whole rest) last more)
    ∙ ap (λ (p : PartModel). before p more) (sym (ap whole is ∙ whole_push rest last))
