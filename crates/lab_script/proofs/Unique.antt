-- A text writes one thing at most.
use Rattle.std.proofs.Common.{◌≡◌, ℕ, List, [], ◌++◌, Some, Ok, refl, sym, ap, ◌∙◌, subst}
use Rattle.hex.specs.Hex.{decode_of}
use Rattle.ldap_filter.specs.Tree.{Tree}
use Rattle.filter_text.specs.Grammar.{IsFilterText}
use Rattle.ldif.specs.ldap_msg.Grammar.{IsMessage}
use Rattle.ldif.specs.ldap_msg.Messages.{MessageValue, SearchRequestValue}
use Rattle.dir_lab.specs.ldap_op.Values.{OpValue}
use Rattle.lab_script.specs.Updates.{update_by, IsUpdateIn, IsHexText, Kind, noop_kind, add_kind, delete_kind, hex_kind, no_kind, IsUpdateOf}
use Rattle.lab_script.specs.Searches.{Parts, parts_of, search_of, IsSearchOf, IsSearchText}

-- octets are one message at most
abbrev pub OneMessage : Type 0
OneMessage = (m n : MessageValue) (a b x y : List ℕ) → IsMessage a m → IsMessage b n → a ++ x ≡ b ++ y → (a ≡ b)
    × (m ≡ n)

-- octets ask for one update at most
one_in : OneMessage → (octets : List ℕ) (op other : OpValue) → IsUpdateIn octets op → IsUpdateIn octets other →
    op ≡ other
one_in one octets op other h k =
    let same : h.message ≡ k.message = (one h.message k.message octets octets [] [] h.whole.is_message
    k.whole.is_message refl).1 in
    let asks : update_by k.message.op ≡ Some op = sym (ap (λ (m : MessageValue). update_by m.op) same) ∙ h.asks in
    let asked : update_by k.message.op ≡ Some other = k.asks in
    cc

-- so do digits
one_hex : OneMessage → (digits : List ℕ) (op other : OpValue) → IsHexText digits op → IsHexText digits other →
    op ≡ other
one_hex one digits op other h k =
    let first : decode_of digits ≡ Ok h.octets = h.spelled in
    let second : decode_of digits ≡ Ok k.octets = k.spelled in
    let same : h.octets ≡ k.octets = cc in
    one_in one k.octets op other (subst (λ (o : List ℕ). IsUpdateIn o op) same h.update) k.update

-- A text of each kind writes one update at most.
pub one_of : OneMessage → (kind : Kind) (op other : OpValue) → IsUpdateOf kind op → IsUpdateOf kind other → op ≡ other
one_of one noop_kind op other h k = h ∙ sym k
one_of one (add_kind rest) op other h k = cc
one_of one (delete_kind rest) op other h k = cc
one_of one (hex_kind rest) op other h k = one_hex one rest op other h k
one_of one no_kind op other h k = absurd h

-- a text is one filter's at most
abbrev pub OneFilter : Type 0
OneFilter = (t u : Tree) (text : List ℕ) → IsFilterText t text → IsFilterText u text → t ≡ u

-- parts write one search at most
one_asked : OneFilter → (p : Parts) (q other : SearchRequestValue) → IsSearchOf p q → IsSearchOf p other → q ≡ other
one_asked one p q other h k =
    h.asks ∙ ap (search_of p) (one h.tree k.tree p.filter h.filter.filter.spelled k.filter.filter.spelled) ∙ sym k.asks

-- So does a text.
pub one_text : OneFilter → (text : List ℕ) (q other : SearchRequestValue) → IsSearchText text q →
    IsSearchText text other → q ≡ other
one_text one text q other h k =
    let first : parts_of text ≡ Some h.parts = h.is_cut in
    let second : parts_of text ≡ Some k.parts = k.is_cut in
    let same : h.parts ≡ k.parts = cc in
    one_asked one k.parts q other (subst (λ (p : Parts). IsSearchOf p q) same h.search) k.search
