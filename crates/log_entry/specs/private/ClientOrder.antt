-- The order of clients, by which tables keep them, and their code: what contracts that aren't public say of it.
-- What public contracts say is in specs/ClientOrder.
use Rattle.std.specs.Prelude.{ℕ, refl}
use Rattle.std.specs.Coded.{Coded, code_by, coded×, coded_ℕ}
use Rattle.log_entry.specs.declared.words.Client.{Client}

-- A client as its three numbers.
abbrev pub coded_client : Coded Client
coded_client =
    code_by (ℕ × (ℕ × ℕ)) (coded× coded_ℕ (coded× coded_ℕ coded_ℕ)) (λ c. (c.home, (c.life, c.number)))
    (λ p. record { home = p.0; life = p.1.0; number = p.1.1 }) (λ _. refl)
