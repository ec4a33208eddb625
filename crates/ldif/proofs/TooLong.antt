-- LDIF and messages: an add that is too long.
use Rattle.std.proofs.Common.{◌≡◌, ℕ, suc, ◌+◌, ◌<◌, ◌≤◌, ◌^◌, List, ◌∷◌, length, drop, get_or, sym, ap, ◌∙◌, subst, inl, drop-cons}
use Rattle.ldif.specs.Records.{RecordModel}
use Rattle.ldap_msg.specs.Written.{message_content}
use Rattle.ldif.specs.Adds.{add_message, adds_from}
use Rattle.ldif.specs.Imports.{HasTooLong, IsAskFault}
use Rattle.ldif.specs.private.Imports.{IsPutFault}
use Rattle.ldif.specs.declared.refusals.ImportError.{ImportError}
use Rattle.ldif.specs.declared.refusals.ImportError.TheVariants.{BadLdif, TooLong, TooManyRecords, NoMemory}

first_too_long : (rs : List RecordModel) (i id : ℕ) (r : RecordModel) → i < length rs → r ≡ get_or rs i r → id ≡ i + 1
    → 2 ^ 32 ≤ length (message_content (add_message id r)) → HasTooLong (adds_from (i + 1) (drop i rs))
first_too_long rs i id r lt is same long =
    let cut : drop i rs ≡ r ∷ drop (suc i) rs = drop-cons rs i r lt ∙ ap (λ x. x ∷ drop (suc i) rs) (sym is) in
    subst (λ (xs : List RecordModel). HasTooLong (adds_from (i + 1) xs)) (sym cut)
    (inl (subst (λ (k : ℕ). 2 ^ 32 ≤ length (message_content (add_message k r))) same long))

-- what keeps an add from being written keeps the records from it
pub put_to_ask : (e : ImportError) (rs : List RecordModel) (i id : ℕ) (r : RecordModel) → i < length rs →
    r ≡ get_or rs i r → id ≡ i + 1
    → (HasTooLong (adds_from (i + 1) (drop i rs)) → HasTooLong (adds_from 1 rs)) →
    IsPutFault e (message_content (add_message id r)) → IsAskFault e rs
put_to_ask (BadLdif line cause) rs i id r lt is same keeps h = absurd h
put_to_ask TooLong rs i id r lt is same keeps h = keeps (first_too_long rs i id r lt is same h)
put_to_ask TooManyRecords rs i id r lt is same keeps h = absurd h
put_to_ask NoMemory rs i id r lt is same keeps h = tt
