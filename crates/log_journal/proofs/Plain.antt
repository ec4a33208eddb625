-- Fields of five numbers.
use Rattle.std.proofs.Common.{◌≡◌, ℕ, [], ◌∙◌}
use Rattle.log_journal.specs.Fields.{Fields}
use Rattle.log_journal.specs.Notes.{plain}
use Rattle.log_journal.specs.Told.{Told}

-- the fields, number by number
pub plain_at : (f : Fields) (kind a b c d : ℕ) → f ≡ plain f.kind f.first f.second f.third f.fourth 0 →
    f.kind ≡ kind → f.first ≡ a → f.second ≡ b → f.third ≡ c → f.fourth ≡ d → f ≡ plain kind a b c d 0
plain_at f kind a b c d h p q r s t = h ∙ (λ i. plain (p i) (q i) (r i) (s i) (t i) 0)

-- the fields of which the fifth is nothing and nothing stands behind
pub plain_of : (f : Fields) → f.fifth ≡ 0 → f.rest ≡ [] → f ≡ plain f.kind f.first f.second f.third f.fourth 0
plain_of f p q = λ i. record {
  kind = f.kind;
  first = f.first;
  second = f.second;
  third = f.third;
  fourth =
      f.fourth;
  fifth = p i;
  rest = q i;
}

-- what is told, part by part
pub told_is : (t u : Told) → t.cluster ≡ u.cluster → t.index ≡ u.index → t.count ≡ u.count → t.restarts ≡ u.restarts →
    t.kept.view ≡ u.kept.view → t.kept.last ≡ u.kept.last → t.kept.log ≡ u.kept.log
    → t.kept.k ≡ u.kept.k → t.kept.staged ≡ u.kept.staged → t.kept.whole ≡ u.kept.whole → t ≡ u
told_is t u cluster index count restarts view last log k staged whole = λ i. record {
  cluster = cluster i;
  index = index i;
  count = count i;
  restarts = restarts i;
  kept = record { view = view i; last = last i; log = log i; k = k i; staged = staged i; whole = whole i };
}
