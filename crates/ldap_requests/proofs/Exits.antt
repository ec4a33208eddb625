-- What a part lacks, the request lacks: at each exit of a reader, behind the parts that it read.
use Rattle.std.proofs.Common.{◌≡◌, ◌^◌, ℕ, Bool, List, ◌++◌, refl, subst}
use Rattle.ldap_filter.specs.ldap_ber.declared.message_fault.MsgFault.{MsgFault}
use Rattle.ldap_filter.specs.ldap_ber.declared.message_fault.MsgFault.TheVariants.{TooLarge, NotAMessage, TooDeep, TooManyItems, NoMemory}
use Rattle.ldap_filter.specs.ldap_ber.Faults.{IsPlainFault}
use Rattle.ldap_filter.specs.ldap_ber.Fields.{Seq, HasText, HasNumber, HasFlag, HasPart}
use Rattle.ldap_filter.specs.ldap_ber.Rows.{AreTexts, AreElements}
use Rattle.ldap_filter.proofs.ldap_ber.Same.{step, text_part, text_unique, number_unique}
use Rattle.ldap_filter.specs.Tree.{Tree}
use Rattle.ldap_filter.specs.Grammar.{IsFilter, HasFilter}
use Rattle.ldap_filter.specs.Limits.{IsFault as IsFilterFault}
use Rattle.ldap_requests.specs.Values.{SearchRequestValue}
use Rattle.ldap_requests.specs.Grammar.{scope_number, deref_number, IsTarget, IsBounds, IsQuestion, IsSearchRequest}
use Rattle.ldap_requests.specs.Limits.{FilterStandsAt, IsLimitFault}
use Rattle.ldap_requests.specs.declared.search.Scope.{Scope}
use Rattle.ldap_requests.specs.declared.search.DerefAliases.{DerefAliases}
use Rattle.ldap_filter.proofs.ldap_ber.Parts.{number_part, texts_part, texts_part_unique}
use Rattle.ldap_requests.proofs.Unique.{Target, target_part, target_unique, Bounds, bounds_part, bounds_unique, filter_unique, target_of, bounds_of}

pub target_scope : (o x t : List ℕ) → HasText o 4 t x → (base : List ℕ) × (scope : Scope) × (deref : DerefAliases)
    × (rest : List ℕ) × IsTarget base scope deref o rest → (n : ℕ) × (rest : List ℕ) × HasNumber x 10 4 n rest
target_scope o x t p (base, scope, deref, rest, h) = let s = step text_part (text_unique 4) _ t base o x p h
    in (scope_number scope, s.next.rest, s.next.first)

pub target_deref : (o x y t : List ℕ) (n : ℕ) → HasText o 4 t x → HasNumber x 10 4 n y → (base : List ℕ)
    × (scope : Scope) × (deref : DerefAliases) × (rest : List ℕ) × IsTarget base scope deref o rest → (n : ℕ)
    × (rest : List ℕ) × HasNumber y 10 4 n rest
target_deref o x y t n p q (base, scope, deref, rest, h) =
    let s = step text_part (text_unique 4) _ t base o x p h in
    let u = step (number_part 10 4) (number_unique 10 4) _ n (scope_number scope) x y q s.next in
    (deref_number deref, rest, u.next)

pub bounds_time : (o x : List ℕ) (n : ℕ) → HasNumber o 2 (2 ^ 31) n x → (size time : ℕ) × (b : Bool) × (rest : List ℕ)
    × IsBounds size time b o rest → (m : ℕ) × (rest : List ℕ) × HasNumber x 2 (2 ^ 31) m rest
bounds_time o x n p (size, time, b, rest, h) = let s = step (number_part 2 (2 ^ 31)) (number_unique 2 (2 ^ 31)) _ n
    size o x p h in (time, s.next.rest, s.next.first)

pub bounds_flag : (o x y : List ℕ) (n m : ℕ) → HasNumber o 2 (2 ^ 31) n x → HasNumber x 2 (2 ^ 31) m y →
    (size time : ℕ) × (b : Bool) × (rest : List ℕ) × IsBounds size time b o rest → (b : Bool) × (rest : List ℕ)
    × HasFlag y 1 b rest
bounds_flag o x y n m p q (size, time, b, rest, h) =
    let s = step (number_part 2 (2 ^ 31)) (number_unique 2 (2 ^ 31)) _ n size o x p h in
    let u = step (number_part 2 (2 ^ 31)) (number_unique 2 (2 ^ 31)) _ m time x y q s.next in
    (b, rest, u.next)

-- what a part lacks, the whole lacks, and where a filter stands in the part, it stands in the whole
pub limit_weaker : (e : MsgFault) (P Q : Type 0) (At Bt : List ℕ → Type 0) → (Q → P) → ((place : List ℕ) → At place →
    Bt place) → IsLimitFault e P At → IsLimitFault e Q Bt
limit_weaker NotAMessage P Q At Bt f g fault = λ q. fault (f q)
limit_weaker TooDeep P Q At Bt f g (place, k, at, o) = (place, k, g place at, o)
limit_weaker TooManyItems P Q At Bt f g (place, d, at, o) = (place, d, g place at, o)
limit_weaker NoMemory P Q At Bt f g fault = fault
limit_weaker TooLarge P Q At Bt f g fault = fault

pub from_plain : (e : MsgFault) (P Q : Type 0) (At : List ℕ → Type 0) → (Q → P) → IsPlainFault e P → IsLimitFault e Q At
from_plain NotAMessage P Q At f fault = λ q. fault (f q)
from_plain TooDeep P Q At f fault = absurd fault
from_plain TooManyItems P Q At f fault = absurd fault
from_plain NoMemory P Q At f fault = fault
from_plain TooLarge P Q At f fault = fault

pub from_filter : (e : MsgFault) (o : List ℕ) → IsFilterFault e 128 512 o →
    IsLimitFault e ((f : Tree) × (attributes : List (List ℕ)) × IsQuestion f attributes o) (λ place. o ≡ place)
from_filter NotAMessage o fault = λ q. fault q.0 q.2.first.spelling q.2.rest q.2.first.is_filter q.2.first.parts
from_filter TooDeep o (k, opens) = (o, k, refl, opens)
from_filter TooManyItems o (d, opens) = (o, d, refl, opens)
from_filter NoMemory o fault = fault
from_filter TooLarge o fault = fault

pub has_filter : (t : Tree) (o s x : List ℕ) → IsFilter t s → o ≡ s ++ x → HasFilter t o x
has_filter t o s x is e = record { spelling = s; is_filter = is; parts = e }

pub question_texts : (o x : List ℕ) (t : Tree) → HasFilter t o x → (f : Tree) × (attributes : List (List ℕ))
    × IsQuestion f attributes o → (ts : List (List ℕ)) × (rest : List ℕ) × HasPart (AreTexts ts) x 48 rest
question_texts o x t p (f, attributes, h) = let s = step HasFilter filter_unique _ t f o x p h
    in (attributes, s.next.rest, s.next.first)

pub question_end : (o x y : List ℕ) (t : Tree) (ts : List (List ℕ)) → HasFilter t o x → HasPart (AreTexts ts) x 48 y →
    (f : Tree) × (attributes : List (List ℕ)) × IsQuestion f attributes o → AreElements y
question_end o x y t ts p q (f, attributes, h) =
    let s = step HasFilter filter_unique _ t f o x p h in
    (step (texts_part 48) (texts_part_unique 48) _ ts attributes x y q s.next).next

behind_target : (o x base : List ℕ) (scope : Scope) (deref : DerefAliases) → IsTarget base scope deref o x →
    (s : SearchRequestValue) → IsSearchRequest s o → Seq (IsBounds s.size_limit s.time_limit s.types_only x)
    (IsQuestion s.filter s.attributes)
behind_target o x base scope deref p s h =
    let v : Target = record { base = base; scope = scope; deref = deref } in
    (step target_part target_unique _ v (target_of s) o x p h).next

pub search_bounds : (o x base : List ℕ) (scope : Scope) (deref : DerefAliases) → IsTarget base scope deref o x →
    (s : SearchRequestValue) × IsSearchRequest s o → (size time : ℕ) × (b : Bool) × (rest : List ℕ)
    × IsBounds size time b x rest
search_bounds o x base scope deref p (s, h) = let r = behind_target o x base scope deref p s h
    in (s.size_limit, s.time_limit, s.types_only, r.rest, r.first)

pub search_question : (o x y base : List ℕ) (scope : Scope) (deref : DerefAliases) (size time : ℕ) (b : Bool) →
    IsTarget base scope deref o x → IsBounds size time b x y → (s : SearchRequestValue) × IsSearchRequest s o
    → (f : Tree) × (attributes : List (List ℕ)) × IsQuestion f attributes y
search_question o x y base scope deref size time b p q (s, h) =
    let v : Bounds = record { size = size; time = time; types_only = b } in (
      s.filter,
      s.attributes,
      (step bounds_part bounds_unique _ v (bounds_of s) x y q
          (behind_target o x base scope deref p s h)).next,
    )

pub stands_at : (o x y base : List ℕ) (scope : Scope) (deref : DerefAliases) (size time : ℕ) (b : Bool) →
    IsTarget base scope deref o x → IsBounds size time b x y → (place : List ℕ) → y ≡ place → FilterStandsAt o place
stands_at o x y base scope deref size time b p q place e = record {
  base = base;
  scope = scope;
  deref = deref;
  size = size;
  time = time;
  types_only = b;
  middle = x;
  target = p;
  bounds = subst (IsBounds size time b x) e q;
}
