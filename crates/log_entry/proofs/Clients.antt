-- The order of clients is total, and clients that it calls equal are one.
use Rattle.std.proofs.Common.{ℕ, ap}
use Rattle.std.specs.Ordering.{nat_cmp, ordering_then}
use Rattle.std.specs.Cmp.{IsTotalOrder, on_total, then_total, nat_cmp_total}
use Rattle.std.proofs.lemmas.Map.Lookups.{CmpEqualImpliesEq, exact_pairs, exact_unsigned}
use Rattle.log_entry.specs.ClientOrder.{client_cmp}

-- Clients that compare alike are one.
pub exact_clients : CmpEqualImpliesEq client_cmp
exact_clients a b h =
    ap (λ (p : ℕ × (ℕ × ℕ)). record { home = p.0; life = p.1.0; number = p.1.1 })
    (exact_pairs nat_cmp (λ (x y : ℕ × ℕ). ordering_then (nat_cmp x.0 y.0) (nat_cmp x.1 y.1)) exact_unsigned
    (exact_pairs nat_cmp nat_cmp exact_unsigned exact_unsigned) (a.home, (a.life, a.number))
    (b.home, (b.life, b.number)) h)

-- Their order is total.
pub clients_total : IsTotalOrder client_cmp
clients_total = then_total (on_total (λ c. c.home) nat_cmp_total) (then_total (on_total (λ c. c.life) nat_cmp_total)
    (on_total (λ c. c.number) nat_cmp_total))
