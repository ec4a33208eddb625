-- A map from clients, kept in their order, is a finite map.
use Rattle.std.proofs.Common.{◌≡◌, Bool, true, false, cond, List, [], ◌∷◌, Option, Some, None, is_some, refl, sym, ap, ◌∙◌, true≢false}
use Rattle.std.specs.Option.{option_map, option_copied}
use Rattle.std.specs.Borrow.{Bor}
use Rattle.std.specs.Cmp.{eq_by_cmp_equiv}
use Rattle.std.specs.FinMap.{FinMap, from_entries, get, insert, remove, get-from_entries, get-insert, get-remove, same_map}
use Rattle.std.specs.FinMap.Entries.{find}
use Rattle.std.specs.BTreeMap.{is_at}
use Rattle.std.specs.Map.{lookup}
pub use Rattle.dir_store.proofs.log_entry.Clients.{exact_clients, clients_total}
use Rattle.dir_store.specs.directory_api.log_entry.declared.words.Client.{Client}
use Rattle.local_directory.specs.declared.kept.LatestReply.{LatestReply}
use Rattle.local_directory.specs.private.ClientOrder.{client_cmp}
use Rattle.local_directory.specs.Latest.{KeptValue}
use Rattle.local_directory.specs.View.{kept_view, entries_view}

-- what these entries have at a client
abbrev pub latest_at : List (Client × LatestReply) → Client → Option LatestReply
latest_at es c = lookup (is_at (client_cmp c)) es

-- a choice, then seen
seen_choice : (b : Bool) (k : LatestReply) (o : Option LatestReply) → option_map kept_view (cond b (Some k) o) ≡
    cond b (Some (kept_view k)) (option_map kept_view o)
seen_choice true k o = refl
seen_choice false k o = refl

-- to find a client among what entries stand for is to look it up among them
find_client : (es : List (Client × LatestReply)) (c : Client) → find client_cmp c (entries_view es) ≡
    option_map kept_view (latest_at es c)
find_client [] c = refl
find_client (e ∷ es) c = ap (cond (is_at (client_cmp c) e.0) (Some (kept_view e.1))) (find_client es c)
    ∙ sym (seen_choice (is_at (client_cmp c) e.0) e.1 (latest_at es c))

-- The map that the entries stand for has what the entries have.
pub get_client : (es : List (Client × LatestReply)) (c : Client) →
    get (from_entries {R = client_cmp} (entries_view es)) c ≡ option_map kept_view (latest_at es c)
get_client es c = get-from_entries clients_total (entries_view es) c ∙ find_client es c

-- Entries that differ at one client make maps that differ there.
pub one_kept : (es fs : List (Client × LatestReply)) (c : Client) (k : LatestReply) →
    ((q : Client) → latest_at fs q ≡ cond (is_at (client_cmp c) q) (Some k) (latest_at es q)) →
    from_entries {R = client_cmp} (entries_view fs) ≡ insert (from_entries (entries_view es)) c (kept_view k)
one_kept es fs c k h = same_map clients_total exact_clients _ _ (λ q.
    get_client fs q ∙ ap (option_map kept_view) (h q) ∙ seen_choice (is_at (client_cmp c) q) k (latest_at es q)
    ∙ ap (λ b. cond b (Some (kept_view k)) (option_map kept_view (latest_at es q)))
    ((eq_by_cmp_equiv clients_total).symm c q)
    ∙ sym (get-insert clients_total (from_entries (entries_view es)) c (kept_view k) q
    ∙ ap (cond (is_at (client_cmp q) c) (Some (kept_view k))) (get_client es q)))

seen_none : (b : Bool) (o : Option LatestReply) → option_map kept_view (cond b None o) ≡
    cond b None (option_map kept_view o)
seen_none true o = refl
seen_none false o = refl

-- Entries without one client make the map without it.
pub one_forgotten : (es fs : List (Client × LatestReply)) (c : Client) →
    ((q : Client) → latest_at fs q ≡ cond (is_at (client_cmp c) q) None (latest_at es q)) →
    from_entries {R = client_cmp} (entries_view fs) ≡ remove (from_entries (entries_view es)) c
one_forgotten es fs c h = same_map clients_total exact_clients _ _ (λ q.
    get_client fs q ∙ ap (option_map kept_view) (h q) ∙ seen_none (is_at (client_cmp c) q) (latest_at es q)
    ∙ ap (λ b. cond b None (option_map kept_view (latest_at es q))) ((eq_by_cmp_equiv clients_total).symm c q)
    ∙ sym (get-remove clients_total (from_entries (entries_view es)) c q ∙ ap (cond (is_at (client_cmp q) c) None)
    (get_client es q)))

-- what a look-up lends is what is there
pub seen_copied : (o : Option (Bor LatestReply)) → option_map {T = Bor LatestReply} {U = KeptValue}
    (λ k. kept_view k.now) o ≡ option_map kept_view (option_copied o)
seen_copied None = refl
seen_copied (Some k) = refl

-- Where the entries have nothing at a client, the map has nothing.
pub none_there : (es : List (Client × LatestReply)) (m : FinMap client_cmp KeptValue) (c : Client) →
    from_entries (entries_view es) ≡ m → latest_at es c ≡ None → is_some (get m c) ≡ true → ⊥
none_there es m c e none there = absurd (true≢false (sym there ∙ ap (λ x. is_some (get x c)) (sym e)
    ∙ ap is_some (get_client es c) ∙ ap (λ o. is_some (option_map kept_view o)) none))
