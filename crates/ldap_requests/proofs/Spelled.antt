-- What is written for values in their ranges is in the grammar.
use Rattle.std.proofs.Common.{◌≡◌, ◌^◌, ◌<◌, ℕ, List, [], ◌++◌, refl, sym, subst, ◌∙◌, arith}
use Rattle.std.specs.Str.{IsUtf8}
use Rattle.std.proofs.lemmas.List.{append-nil}
use Rattle.ldap_filter.specs.ldap_ber.Element.{element_bytes}
use Rattle.ldap_filter.specs.ldap_ber.Rows.{AreTexts, none, row_bytes}
use Rattle.ldap_filter.specs.Grammar.{filter_bytes, filter_content, octet_of}
use Rattle.ldap_filter.proofs.Spelled.{written as filter_written}
use Rattle.ldap_requests.specs.Values.{SearchRequestValue}
use Rattle.ldap_requests.specs.Grammar.{scope_number, deref_number, IsTarget, IsBounds, IsSearchRequest}
use Rattle.ldap_requests.specs.declared.search.Scope.{Scope}
use Rattle.ldap_requests.specs.declared.search.Scope.TheVariants.{BaseObject, SingleLevel, WholeSubtree, SubordinateSubtree}
use Rattle.ldap_requests.specs.declared.search.DerefAliases.{DerefAliases}
use Rattle.ldap_requests.specs.declared.search.DerefAliases.TheVariants.{NeverDerefAliases, DerefInSearching, DerefFindingBaseObj, DerefAlways}
use Rattle.ldap_filter.specs.ldap_ber.Written.{number_bytes, flag_octets}
use Rattle.ldap_requests.specs.Written.{target_bytes, bounds_bytes, search_content, IsSearchInRange}
use Rattle.ldap_filter.proofs.ldap_ber.Spelled.{IsShort, inner, left, right, text, number, small_number, flag, part, texts, regroup, regroup_three}

pub scope_below : (s : Scope) → scope_number s < 4
scope_below BaseObject = omega arith
scope_below SingleLevel = omega arith
scope_below WholeSubtree = omega arith
scope_below SubordinateSubtree = omega arith

pub deref_below : (d : DerefAliases) → deref_number d < 4
deref_below NeverDerefAliases = omega arith
deref_below DerefInSearching = omega arith
deref_below DerefFindingBaseObj = omega arith
deref_below DerefAlways = omega arith

pub below_four : (n : ℕ) → n < 4 → n < 2 ^ 63
below_four n lt = omega arith

pub target : (s : SearchRequestValue) (rest : List ℕ) → IsUtf8 s.base → IsShort (target_bytes s) →
    IsTarget s.base s.scope s.deref_aliases (target_bytes s ++ rest) rest
target s rest utf8 small =
    let a = element_bytes 4 s.base in
    let n = scope_number s.scope in
    let m = deref_number s.deref_aliases in
    let b = number_bytes 10 n in
    let d = number_bytes 10 m in
    subst (λ (o : List ℕ). IsTarget s.base s.scope s.deref_aliases o rest) (sym (regroup_three a b d rest)) (record {
      rest = b ++ (d ++ rest);
      first = text s.base (b ++ (d ++ rest)) utf8 (inner 4 s.base (left a b (left (a ++ b) d small)));
      next = record {
        rest = d ++ rest;
        first = number 10 4 n (d ++ rest) (omega arith) (scope_below s.scope)
            (below_four n (scope_below s.scope));
        next = number 10 4 m rest (omega arith) (deref_below s.deref_aliases)
            (below_four m (deref_below s.deref_aliases));
      };
    })

pub bounds : (s : SearchRequestValue) (rest : List ℕ) → s.size_limit < 2 ^ 31 → s.time_limit < 2 ^ 31 →
    IsBounds s.size_limit s.time_limit s.types_only (bounds_bytes s ++ rest) rest
bounds s rest size time =
    let a = number_bytes 2 s.size_limit in
    let b = number_bytes 2 s.time_limit in
    let d = element_bytes 1 (flag_octets s.types_only) in
    subst (λ (o : List ℕ). IsBounds s.size_limit s.time_limit s.types_only o rest) (sym (regroup_three a b d rest))
    (record {
      rest = b ++ (d ++ rest);
      first = number 2 (2 ^ 31) s.size_limit (b ++ (d ++ rest)) (omega arith) size (small_number s.size_limit size);
      next = record {
        rest = d ++ rest;
        first = number 2 (2 ^ 31) s.time_limit (d ++ rest) (omega arith) time
            (small_number s.time_limit time);
        next = flag s.types_only rest;
      };
    })

pub search_request : (s : SearchRequestValue) → IsSearchInRange s → IsShort (search_content s) →
    IsSearchRequest s (search_content s)
search_request s range small =
    let a = target_bytes s in
    let b = bounds_bytes s in
    let d = filter_bytes s.filter in
    let row = row_bytes (element_bytes 4) s.attributes in
    let e = element_bytes 48 row in
    let abd = left (a ++ b ++ d) e small in
    let d_short = inner (octet_of s.filter) (filter_content s.filter) (right (a ++ b) d abd) in
    let row_short = inner 48 row (right (a ++ b ++ d) e small) in
    let whole : a ++ (b ++ (d ++ (e ++ []))) ≡ a ++ b ++ d ++ e = sym (regroup a b d e [])
    ∙ append-nil (a ++ b ++ d ++ e) in
    subst (IsSearchRequest s) whole (record {
      rest = b ++ (d ++ (e ++ []));
      first = target s (b ++ (d ++ (e ++ []))) range.base (left a b (left (a ++ b) d abd));
      next = record {
        rest = d ++ (e ++ []);
        first = bounds s (d ++ (e ++ [])) range.size_limit range.time_limit;
        next = record {
          rest = e ++ [];
          first = record { spelling = d; is_filter = filter_written s.filter range.filter d_short; parts = refl };
          next = record {
            rest = [];
            first = part (AreTexts s.attributes) 48 row [] (omega arith) row_short
                (texts s.attributes range.attributes row_short);
            next = none;
          };
        };
      };
    })
