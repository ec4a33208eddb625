-- A description and an assertion, field by field, and what the limits leave of a filter.
use Rattle.std.proofs.Common.{◌≡◌, ℕ, ◌≤◌, List, [], ◌++◌, refl, sym, ◌∙◌, arith}
use Rattle.ldap_filter.specs.Tree.{Tree, depth, count}
use Rattle.ldap_filter.specs.Grammar.{IsFilter}
use Rattle.ldap_filter.specs.ItemGrammar.{IsAssertion}
use Rattle.ldap_ber.specs.Fields.{HasField, HasText}
use Rattle.ldap_filter.specs.Limits.{IsFault}
use Rattle.ldap_filter.specs.private.Limits.{Reads}
use Rattle.ldap_ber.specs.declared.message_fault.MsgFault.{MsgFault}
use Rattle.ldap_ber.specs.declared.message_fault.MsgFault.TheVariants.{TooLarge, NotAMessage, TooDeep, TooManyItems, NoMemory}
use Rattle.ldap_ber.proofs.Same.{behind_text, octets_unique}
use Rattle.ldap_filter.proofs.Unique.{front_unique, opens_within}

pub no_second : (content d rest : List ℕ) → HasText content 4 d rest → (e a : List ℕ) × IsAssertion e a content →
    (v r : List ℕ) × HasField rest 4 v r
no_second content d rest f (e, a, is) = (a, [], behind_text content d e rest 4 f is)

pub no_more : (content d rest b after : List ℕ) → HasText content 4 d rest → HasField rest 4 b after →
    (after ≡ [] → ⊥) → (e a : List ℕ) × IsAssertion e a content → ⊥
no_more content d rest b after f g some (e, a, is) =
    some (octets_unique 4 b a rest after [] g (behind_text content d e rest 4 f is)).rest

-- ---- the whole

pub only_ok : (limit items left : ℕ) (octets r s rest : List ℕ) (u t : Tree) → Reads limit items octets u left r →
    IsFilter t s → octets ≡ s ++ rest → (u ≡ t) × (r ≡ rest)
only_ok limit items left octets r s rest u t reads is e = front_unique u t reads.spelling s r rest reads.is_filter is
    (sym reads.parts ∙ e)

pub only_err : (e : MsgFault) (limit items : ℕ) (octets s rest : List ℕ) (t : Tree) → IsFault e limit items octets →
    IsFilter t s → octets ≡ s ++ rest → depth t ≤ limit → count t ≤ items → e ≡ NoMemory
only_err NotAMessage limit items octets s rest t fault is same deep many = absurd (fault t s rest is same)
only_err TooDeep limit items octets s rest t (k, o) is same deep many = let within = opens_within octets o t s rest is
    same in absurd (omega (arith, within.0))
only_err TooManyItems limit items octets s rest t (d, o) is same deep many = let within = opens_within octets o t s
    rest is same in absurd (omega (arith, within.1))
only_err NoMemory limit items octets s rest t fault is same deep many = refl
only_err TooLarge limit items octets s rest t fault is same deep many = absurd fault
