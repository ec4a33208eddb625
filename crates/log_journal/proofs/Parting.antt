-- Updates whose octets differ.
use Rattle.std.proofs.Common.{◌≡◌, inl, ℕ, Bool, true, false, List, sym, ap, ◌∙◌}
use Rattle.std.proofs.lemmas.Bool.{OnFalse_from}
use Rattle.std.proofs.lemmas.Slice.Eq.{bytes_eq-Decides}
use Rattle.std.specs.Bool.{OnFalse}
use Rattle.std.specs.Str.{bytes_eq}
use Rattle.ldap_op.specs.Values.{OpValue}
use Rattle.ldap_op.specs.Written.{IsSpelled, op_bytes}
use Rattle.log_journal.specs.private.Apart.{AreUpdatesApart}

pub octets_differ : (b : Bool) (one other : OpValue) (x y : List ℕ) → IsSpelled one x → IsSpelled other y →
    b ≡ bytes_eq x y → OnFalse b (AreUpdatesApart one other)
octets_differ b one other x y p q is = OnFalse_from b (AreUpdatesApart one other) (λ off. inl (λ e.
    let same : false ≡ true = sym off ∙ is ∙ (bytes_eq-Decides x y).1 (p.written ∙ ap op_bytes e ∙ sym q.written)
    in cc same))
