-- A message within the limits is read: what stands open at a filter's place is in the filter of the message.
use Rattle.std.proofs.Common.{◌≡◌, ◌^◌, ◌<◌, ◌≤◌, ℕ, List, [], length, Result, Ok, Err, refl, sym, subst, arith}
use Rattle.std.specs.Prelude.{MatchResult, IfOk, IfErr}
use Rattle.ldap_requests.specs.ldap_ber.declared.message_fault.MsgFault.{MsgFault}
use Rattle.ldap_requests.specs.ldap_ber.declared.message_fault.MsgFault.TheVariants.{TooLarge, NotAMessage, TooDeep, TooManyItems, NoMemory}
use Rattle.ldap_requests.specs.ldap_ber.Fields.{HasField}
use Rattle.ldap_requests.proofs.ldap_ber.Same.{step, same_field, number_unique}
use Rattle.ldap_requests.specs.ldap_filter.Limits.{Opens}
use Rattle.ldap_requests.proofs.ldap_filter.Unique.{opens_within}
use Rattle.ldap_requests.specs.Values.{SearchRequestValue}
use Rattle.ldap_requests.specs.Grammar.{IsSearchRequest}
use Rattle.ldap_msg.specs.Messages.{search, OperationValue, request, response, MessageValue}
use Rattle.ldap_msg.specs.Grammar.{operation_octet, IsOperation, IsMessageContent, IsMessage}
use Rattle.ldap_requests.specs.Limits.{FilterStandsAt, IsLimitFault}
use Rattle.ldap_msg.specs.Limits.{ContentHasFilterAt, IsFault, IsRequestWithin, IsWithin}
use Rattle.ldap_requests.proofs.ldap_ber.Parts.{number_part}
use Rattle.ldap_requests.proofs.Unique.{Target, target_part, target_unique, Bounds, bounds_part, bounds_unique, target_of, bounds_of}
use Rattle.ldap_msg.proofs.Choices.{is_search, request_same, no_response}
use Rattle.ldap_msg.proofs.Unique.{content_one}
use Rattle.ldap_msg.proofs.Exits.{whole_fault, message_inside, message_at}
use Rattle.ldap_requests.proofs.Exits.{limit_weaker}

in_search : {d k : ℕ} (s : SearchRequestValue) (content place : List ℕ) → IsSearchRequest s content →
    FilterStandsAt content place → IsRequestWithin (search s) → Opens d k place → (d < 128) × (k < 512)
in_search s content place h at within o =
    let target : Target = record { base = at.base; scope = at.scope; deref = at.deref } in
    let bounds : Bounds = record { size = at.size; time = at.time; types_only = at.types_only } in
    let a = step target_part target_unique _ target (target_of s) content at.middle at.target h in
    let b = step bounds_part bounds_unique _ bounds (bounds_of s) at.middle place at.bounds a.next in
    let f = b.next.first in
    let inside = opens_within place o s.filter f.spelling b.next.rest f.is_filter f.parts in
    (omega (arith, inside.0, within.0), omega (arith, inside.1, within.1))

in_operation : {d k : ℕ} (op : OperationValue) (content place : List ℕ) → operation_octet op ≡ 99 →
    IsOperation op content → FilterStandsAt content place → IsWithin op → Opens d k place → (d < 128) × (k < 512)
in_operation (response r) content place e h at within o = absurd (no_response 99 refl r e)
in_operation (request r) content place e h at within o =
    let found = is_search content (r, e, h) in
    let same : r ≡ search found.0 = request_same r (search found.0) content e h found.1 in
    in_search found.0 content place found.1 at (subst IsRequestWithin same within) o

in_content : {d k : ℕ} (m : MessageValue) (content place : List ℕ) → IsMessageContent m content →
    ContentHasFilterAt content place → IsWithin m.op → Opens d k place → (d < 128) × (k < 512)
in_content m content place h at within o =
    let s = step (number_part 2 (2 ^ 31)) (number_unique 2 (2 ^ 31)) _ at.id m.id content at.rest at.id_field h.parts in
    let p = s.next.first in
    let same = same_field at.rest p.content at.operation.content s.next.rest at.operation.rest (operation_octet m.op)
    99 p.field at.operation.field in
    in_operation m.op at.operation.content place same.first (subst (IsOperation m.op) same.content p.inside)
    at.operation.stands_at within o

pub only_content : {X : Type 0} (view : X → MessageValue) (r : Result X MsgFault) (content : List ℕ) →
    IfOk r (λ x. IsMessageContent (view x) content)
    → IfErr r (λ e. IsLimitFault e ((m : MessageValue) × IsMessageContent m content) (ContentHasFilterAt content))
    → (m : MessageValue) → IsMessageContent m content → IsWithin m.op → MatchResult r (λ x. view x ≡ m)
    (λ e. e ≡ NoMemory)
only_content view (Ok x) content found fault m h within = content_one (view x) m content found h
only_content view (Err NotAMessage) content found fault m h within = absurd (fault (m, h))
only_content view (Err TooDeep) content found (place, k, at, o) m h within =
    absurd (omega (arith, (in_content m content place h at within o).0))
only_content view (Err TooManyItems) content found (place, d, at, o) m h within =
    absurd (omega (arith, (in_content m content place h at within o).1))
only_content view (Err NoMemory) content found fault m h within = refl
only_content view (Err TooLarge) content found fault m h within = absurd fault

pub only_whole : {X : Type 0} (view : X → MessageValue) (r : Result X MsgFault) (o content rest : List ℕ) →
    HasField o 48 content rest → IfOk r (λ x. IsMessageContent (view x) content)
    → IfErr r (λ e. IsLimitFault e ((m : MessageValue) × IsMessageContent m content) (ContentHasFilterAt content))
    → (m : MessageValue) → IsMessage o m → IsWithin m.op → MatchResult r (λ x. view x ≡ m) (λ e. e ≡ NoMemory)
only_whole view r o content rest p found fault m h within =
    let same = same_field o content h.content rest [] 48 48 p h.field in
    only_content view r content found fault m (subst (IsMessageContent m) (sym same.content) h.inside) within

pub whole_faults : {X : Type 0} (r : Result X MsgFault) (o content rest : List ℕ) → HasField o 48 content rest →
    rest ≡ []
    → IfErr r (λ e. IsLimitFault e ((m : MessageValue) × IsMessageContent m content) (ContentHasFilterAt content)) →
    IfErr r (λ e. IsFault e o)
whole_faults (Ok x) o content rest p e fault = tt
whole_faults (Err f) o content rest p e fault = whole_fault f o
    (limit_weaker f _ _ _ _ (message_inside o content rest p) (message_at o content rest p e) fault)

-- of a message within the limits no fault is true but want of memory
pub no_fault : (e : MsgFault) (o : List ℕ) (m : MessageValue) → IsMessage o m → IsWithin m.op → length o ≤ 4194304 →
    IsFault e o → e ≡ NoMemory
no_fault NoMemory o m h within size fault = refl
no_fault NotAMessage o m h within size fault = absurd (fault (m, h))
no_fault TooLarge o m h within size fault = absurd (omega arith)
no_fault TooDeep o m h within size (place, k, at, opens) =
    let same = same_field o at.content h.content [] [] 48 48 at.envelope h.field in
    absurd (omega (
      arith,
      (in_content m at.content place (subst (IsMessageContent m) (sym same.content) h.inside)
          at.inside within opens).0,
    ))
no_fault TooManyItems o m h within size (place, d, at, opens) =
    let same = same_field o at.content h.content [] [] 48 48 at.envelope h.field in
    absurd (omega (
      arith,
      (in_content m at.content place (subst (IsMessageContent m) (sym same.content) h.inside)
          at.inside within opens).1,
    ))
