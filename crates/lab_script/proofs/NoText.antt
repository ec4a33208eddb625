-- What no text writes.
use Rattle.std.proofs.Common.{◌≡◌, ℕ, List, Some, None, Ok, ap, ◌∙◌, subst}
use Rattle.hex.specs.Hex.{decode_of}
use Rattle.ldif.specs.ldap_msg.Messages.{MessageValue, SearchRequestValue}
use Rattle.dir_lab.specs.ldap_op.Values.{OpValue}
use Rattle.ldif.specs.Exports.{IsWhole}
use Rattle.lab_script.specs.Updates.{update_by, IsUpdateIn, IsHexText}
use Rattle.lab_script.specs.Searches.{Parts, parts_of, IsSearchOf, IsSearchText}

-- Octets that are no message ask for nothing.
pub no_message : (octets : List ℕ) (op : OpValue) → ((m : MessageValue) → IsWhole octets m → ⊥) →
    IsUpdateIn octets op → ⊥
no_message octets op none h = none h.message h.whole

-- Nor do those of a message that asks for something else.
pub no_update : (octets : List ℕ) (x : MessageValue) (op : OpValue) → ((m : MessageValue) → IsWhole octets m →
    x ≡ m) → update_by x.op ≡ None → IsUpdateIn octets op → ⊥
no_update octets x op only none h =
    let asks : update_by x.op ≡ Some op = ap (λ (m : MessageValue). update_by m.op) (only h.message h.whole) ∙ h.asks in
    cc

-- Digits spell one list of octets.
pub no_hex : (digits octets : List ℕ) (op : OpValue) → decode_of digits ≡ Ok octets → (IsUpdateIn octets op → ⊥) →
    IsHexText digits op → ⊥
no_hex digits octets op is none h =
    let other : decode_of digits ≡ Ok h.octets = h.spelled in
    let octets_same : h.octets ≡ octets = cc in
    none (subst (λ (o : List ℕ). IsUpdateIn o op) octets_same h.update)

-- A text has one list of parts.
pub no_search : (text : List ℕ) (p : Parts) (q : SearchRequestValue) → parts_of text ≡ Some p → (IsSearchOf p q → ⊥) →
    IsSearchText text q → ⊥
no_search text p q is none h =
    let other : parts_of text ≡ Some h.parts = h.is_cut in
    let parts_same : h.parts ≡ p = cc in
    none (subst (λ (o : Parts). IsSearchOf o q) parts_same h.search)
