-- A table of clients after changes at one client.
use Rattle.std.proofs.Common.{◌≡◌, Bool, true, false, cond, Option, Some, None, is_some, refl, sym, ap, ◌∙◌, true≢false}
use Rattle.std.specs.declared.cmp.Ordering.{Ordering}
use Rattle.std.specs.declared.cmp.Ordering.TheVariants.{Less, Equal, Greater}
use Rattle.std.specs.Ordering.{is_eq, eq_by_cmp}
use Rattle.std.specs.Cmp.{eq_by_cmp_equiv}
use Rattle.std.specs.FinMap.{FinMap, get, insert, get-insert, get-remove, get_tied, same_map}
use Rattle.dir_store.specs.directory_api.log_entry.declared.words.Client.{Client}
use Rattle.local_directory.specs.private.ClientOrder.{client_cmp}
use Rattle.local_directory.specs.private.Changes.{with_kept}
use Rattle.local_directory.specs.Latest.{KeptValue}
use Rattle.local_directory.proofs.Clients.{exact_clients, clients_total}

is_equal : (o : Ordering) → is_eq o ≡ true → o ≡ Equal
is_equal Less h = absurd (true≢false (sym h))
is_equal Equal h = refl
is_equal Greater h = absurd (true≢false (sym h))

-- what was put at a client is there
pub put_there : (m : FinMap client_cmp KeptValue) (client : Client) (k : KeptValue) → get (insert m client k) client ≡
    Some k
put_there m client k = get-insert clients_total m client k client ∙ ap (λ b. cond b (Some k) (get m client))
    ((eq_by_cmp_equiv clients_total).refl client)

pub has_put : (m : FinMap client_cmp KeptValue) (client : Client) (k : KeptValue) →
    is_some (get (insert m client k) client) ≡ true
has_put m client k = ap is_some (put_there m client k)

pub has_kept : (m : FinMap client_cmp KeptValue) (client : Client) (k : KeptValue) → get m client ≡ Some k →
    is_some (get m client) ≡ true
has_kept m client k h = ap is_some h

-- to choose what is there changes nothing
at_one : (m : FinMap client_cmp KeptValue) (client q : Client) (o : Option KeptValue) → get m client ≡ o →
    cond (eq_by_cmp client_cmp q client) o (get m q) ≡ get m q
at_one m client q o h = go (eq_by_cmp client_cmp q client) refl
  where
    go : (b : Bool) → eq_by_cmp client_cmp q client ≡ b → cond b o (get m q) ≡ get m q
    go true e = sym h ∙ get_tied clients_total m q client (is_equal (client_cmp q client) e)
    go false e = refl

twice : (b : Bool) (x y z : Option KeptValue) → cond b x (cond b y z) ≡ cond b x z
twice true x y z = refl
twice false x y z = refl

-- to put what is there changes nothing
pub put_same : (m : FinMap client_cmp KeptValue) (client : Client) (k : KeptValue) → get m client ≡ Some k →
    m ≡ insert m client k
put_same m client k h = sym (same_map clients_total exact_clients _ _ (λ q. get-insert clients_total m client k q
    ∙ at_one m client q (Some k) h))

-- of two that are put at a client the later one stays
pub put_twice : (m : FinMap client_cmp KeptValue) (client : Client) (j k : KeptValue) → insert (insert m client j)
    client k ≡ insert m client k
put_twice m client j k = same_map clients_total exact_clients _ _ (λ q.
    get-insert clients_total (insert m client j) client k q ∙ ap (cond (eq_by_cmp client_cmp q client) (Some k))
    (get-insert clients_total m client j q)
    ∙ twice (eq_by_cmp client_cmp q client) (Some k) (Some j) (get m q) ∙ sym (get-insert clients_total m client k q))

-- what was there is put back
pub put_back_same : (m : FinMap client_cmp KeptValue) (client : Client) (j : KeptValue) (o : Option KeptValue) →
    o ≡ get m client → with_kept (insert m client j) client o ≡ m
put_back_same m client j (Some k) h = put_twice m client j k ∙ sym (put_same m client k (sym h))
put_back_same m client j None h = same_map clients_total exact_clients _ _ (λ q.
    get-remove clients_total (insert m client j) client q ∙ ap (cond (eq_by_cmp client_cmp q client) None)
    (get-insert clients_total m client j q)
    ∙ twice (eq_by_cmp client_cmp q client) None (Some j) (get m q) ∙ at_one m client q None (sym h))

-- clients that tie are one
pub same_client_of : (a b : Client) → eq_by_cmp client_cmp a b ≡ true → a ≡ b
same_client_of a b h = exact_clients a b (is_equal (client_cmp a b) h)
