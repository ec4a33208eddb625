-- A request is made at most once.
use Rattle.std.proofs.Common.{◌≡◌, ℕ, ◌+◌, ◌≤◌, ◌<◌, Bool, true, false, cond, nat_lt, List, Option, Some, None, refl, sym, ap, ◌∙◌, subst, arith}
use Rattle.std.specs.FinMap as fin
use Rattle.std.specs.Ordering.{eq_by_cmp}
use Rattle.std.proofs.lemmas.Bool.Decides.{nat_tests}
use Rattle.dir_store.specs.directory_api.ldap_op.Values.{OpValue}
use Rattle.dir_store.specs.directory_api.Answers.{ReplyModel}
use Rattle.dir_store.specs.Updates.{reply_to}
use Rattle.dir_store.specs.directory_api.log_entry.declared.words.Client.{Client}
use Rattle.dir_store.specs.directory_api.Talk.{EndedValue, done, stale, lost, refused_memory, Exchange, asked_role, learned, searched, compared, updated, Along, ends, goes}
use Rattle.local_directory.specs.private.ClientOrder.{client_cmp}
use Rattle.local_directory.specs.Latest.{KeptValue, Standing, older, repeated, newer, standing}
use Rattle.local_directory.specs.Local.{LocalValue}
use Rattle.local_directory.specs.Allows.{allows, Ends, Outcome, outcome_by, made_as, unchanged, greatest}
use Rattle.local_directory.specs.Made.{MadeOnce}
use Rattle.local_directory.proofs.Clients.{clients_total}
use Rattle.local_directory.proofs.Tables.{put_there, same_client_of}
use Rattle.local_directory.proofs.Ends.{same_number, same_reply, not_stale, not_lost}

lt_of : (a b : ℕ) → nat_lt a b ≡ true → a < b
lt_of a b h = grind (arith, nat_tests)

le_of : (a b : ℕ) → nat_lt a b ≡ false → b ≤ a
le_of a b h = grind (arith, nat_tests)

both_le : (a b : ℕ) → a ≤ b → b ≤ a → b ≡ a
both_le a b h g = omega (arith, h, g)

not_both : (a b : ℕ) → a < b → b ≤ a → ⊥
not_both a b h g = omega (arith, h, g)

not_same : (a b x : ℕ) → a ≤ b → b < x → x ≡ a → ⊥
not_same a b x h g e = omega (arith, h, g, e)

le_later : (a b x : ℕ) → a ≤ b → b < x → a ≤ x
le_later a b x h g = omega (arith, h, g)

le_self : (a : ℕ) → a ≤ a
le_self a = omega arith

-- what is kept of a client's latest request, after one was done: it is that one, with this number and reply, or a later
-- one
abbrev WasDone : ℕ → ℕ → ReplyModel → Option KeptValue → Type 0
WasDone request n reply None = ⊥
WasDone request n reply (Some k) = (request ≤ k.request) × (k.request ≡ request → (k.number ≡ n) × (k.reply ≡ reply))

-- the next update
put_done : (d e : LocalValue) (client : Client) (request n : ℕ) (op : OpValue) (reply : ReplyModel) →
    done (d.number + 1) (reply_to d.directory (d.number + 1) op) ≡ done n reply →
    e ≡ (made_as d (d.number + 1) client request op).after → WasDone request n reply (fin.get e.latest client)
put_done d e client request n op reply h same =
    subst (WasDone request n reply) (sym (ap (λ (x : LocalValue). fin.get x.latest client) same
    ∙ put_there d.latest client _))
    (le_self request, λ _. (same_number _ _ _ _ h, same_reply _ _ _ _ h))

next_done : (b : Bool) (d e : LocalValue) (client : Client) (request n : ℕ) (op : OpValue) (reply : ReplyModel) →
    Ends (cond b (made_as d (d.number + 1) client request op) (unchanged d lost)) d (done n reply) e →
    WasDone request n reply (fin.get e.latest client)
next_done true d e client request n op reply h = put_done d e client request n op reply h.0 h.1
next_done false d e client request n op reply h = absurd (not_lost n reply (sym h.0))

to_done : (a b : Bool) (k : KeptValue) (d e : LocalValue) (client : Client) (request n : ℕ) (op : OpValue)
    (reply : ReplyModel) → fin.get d.latest client ≡ Some k → nat_lt k.request request ≡ b →
    Ends (outcome_by (cond a older (cond b newer (repeated k))) d client request op) d (done n reply) e →
    WasDone request n reply (fin.get e.latest client)
to_done true b k d e client request n op reply there test h = absurd (not_stale n reply (sym h.0))
to_done false true k d e client request n op reply there test h = next_done (nat_lt d.number greatest) d e client
    request n op reply h
to_done false false k d e client request n op reply there test h =
    subst (WasDone request n reply) (sym (ap (λ (x : LocalValue). fin.get x.latest client) h.1 ∙ there))
    (le_of k.request request test, λ _. (same_number _ _ _ _ h.0, same_reply _ _ _ _ h.0))

first_done : (o : Option KeptValue) (d e : LocalValue) (client : Client) (request n : ℕ) (op : OpValue)
    (reply : ReplyModel) → fin.get d.latest client ≡ o →
    Ends (outcome_by (standing o request) d client request op) d (done n reply) e →
    WasDone request n reply (fin.get e.latest client)
first_done None d e client request n op reply there h = next_done (nat_lt d.number greatest) d e client request n op
    reply h
first_done (Some k) d e client request n op reply there h = to_done (nat_lt request k.request)
    (nat_lt k.request request) k d e client request n op reply there refl h

-- nothing changes
stays_done : (d e : LocalValue) (client : Client) (request n : ℕ) (reply : ReplyModel) → e ≡ d →
    WasDone request n reply (fin.get d.latest client) → WasDone request n reply (fin.get e.latest client)
stays_done d e client request n reply same was = subst (λ (x : LocalValue). WasDone request n reply
    (fin.get x.latest client)) (sym same) was

-- a new request of some client
chosen_done : (b : Bool) (request n : ℕ) (reply : ReplyModel) (x : KeptValue) (o : Option KeptValue) →
    (b ≡ true → WasDone request n reply (Some x)) → WasDone request n reply o →
    WasDone request n reply (cond b (Some x) o)
chosen_done true request n reply x o new was = new refl
chosen_done false request n reply x o new was = was

later_done : (request n asked : ℕ) (reply : ReplyModel) (x : KeptValue) (o : Option KeptValue) → x.request ≡ asked →
    standing o asked ≡ newer → WasDone request n reply o → WasDone request n reply (Some x)
later_done request n asked reply x None is new was = absurd was
later_done request n asked reply x (Some k) is new was = go (nat_lt asked k.request) (nat_lt k.request asked) refl new
  where
    go : (a b : Bool) → nat_lt k.request asked ≡ b → cond a older (cond b newer (repeated k)) ≡ newer →
        WasDone request n reply (Some x)
    go true b t e = absurd (cc e)
    go false true t e =
        let after : k.request < x.request = subst (λ (i : ℕ). k.request < i) (sym is) (lt_of k.request asked t) in (
          le_later request k.request x.request was.0 after,
          λ same. absurd (not_same request k.request x.request was.0
              after same),
        )
    go false false t e = absurd (cc e)

made_done : (d e : LocalValue) (client q : Client) (request n asked : ℕ) (op : OpValue) (reply : ReplyModel) →
    standing (fin.get d.latest q) asked ≡ newer → e ≡ (made_as d (d.number + 1) q asked op).after →
    WasDone request n reply (fin.get d.latest client) → WasDone request n reply (fin.get e.latest client)
made_done d e client q request n asked op reply new same was =
    subst (WasDone request n reply) (sym (ap (λ (x : LocalValue). fin.get x.latest client) same
    ∙ fin.get-insert clients_total d.latest q (record {
      request = asked;
      number = d.number + 1;
      reply =
          reply_to d.directory (d.number + 1) op;
    }) client))
    (chosen_done (eq_by_cmp client_cmp client q) request n reply
    (record { request = asked; number = d.number + 1; reply = reply_to d.directory (d.number + 1) op })
    (fin.get d.latest client)
    (λ tied. later_done request n asked reply (record {
      request = asked;
      number = d.number + 1;
      reply =
          reply_to d.directory (d.number + 1) op;
    }) (fin.get d.latest client) refl
    (subst (λ (x : Client). standing (fin.get d.latest x) asked ≡ newer) (sym (same_client_of client q tied)) new)
    was) was)

next_keeps : (b : Bool) (d e : LocalValue) (client q : Client) (request n asked : ℕ) (op : OpValue)
    (reply : ReplyModel) (ended : EndedValue) → standing (fin.get d.latest q) asked ≡ newer →
    Ends (cond b (made_as d (d.number + 1) q asked op) (unchanged d lost)) d ended e →
    WasDone request n reply (fin.get d.latest client) → WasDone request n reply (fin.get e.latest client)
next_keeps true d e client q request n asked op reply (done m s) new h was = made_done d e client q request n asked op
    reply new h.1 was
next_keeps true d e client q request n asked op reply stale new h was = absurd (not_stale _ _ h.0)
next_keeps true d e client q request n asked op reply lost new h was = absurd (not_lost _ _ h.0)
next_keeps true d e client q request n asked op reply refused_memory new h was = stays_done d e client request n reply
    h was
next_keeps false d e client q request n asked op reply (done m s) new h was = absurd (not_lost m s (sym h.0))
next_keeps false d e client q request n asked op reply stale new h was = stays_done d e client request n reply h.1 was
next_keeps false d e client q request n asked op reply lost new h was = stays_done d e client request n reply h.1 was
next_keeps false d e client q request n asked op reply refused_memory new h was = stays_done d e client request n
    reply h was

-- an update that changes nothing
same_after : (o : Outcome) (d e : LocalValue) (ended : EndedValue) → o.after ≡ d → Ends o d ended e → e ≡ d
same_after o d e (done m s) h g = g.1 ∙ h
same_after o d e stale h g = g.1 ∙ h
same_after o d e lost h g = g.1 ∙ h
same_after o d e refused_memory h g = g

update_keeps : (s : Standing) (d e : LocalValue) (client q : Client) (request n asked : ℕ) (op : OpValue)
    (reply : ReplyModel) (ended : EndedValue) → standing (fin.get d.latest q) asked ≡ s →
    Ends (outcome_by s d q asked op) d ended e → WasDone request n reply (fin.get d.latest client) →
    WasDone request n reply (fin.get e.latest client)
update_keeps older d e client q request n asked op reply ended at h was = stays_done d e client request n reply
    (same_after (unchanged d stale) d e ended refl h) was
update_keeps (repeated k) d e client q request n asked op reply ended at h was = stays_done d e client request n reply
    (same_after (unchanged d (done k.number k.reply)) d e ended refl h) was
update_keeps newer d e client q request n asked op reply ended at h was = next_keeps (nat_lt d.number greatest) d e
    client q request n asked op reply ended at h was

exchange_keeps : (d e : LocalValue) (x : Exchange (Unit {0})) (client : Client) (request n : ℕ) (reply : ReplyModel) →
    allows d x e → WasDone request n reply (fin.get d.latest client) → WasDone request n reply (fin.get e.latest client)
exchange_keeps d e (asked_role role told) client request n reply h was = stays_done d e client request n reply h.1 was
exchange_keeps d e (learned told) client request n reply h was = stays_done d e client request n reply h was
exchange_keeps d e (searched named q looked) client request n reply h was = stays_done d e client request n reply h.1
    was
exchange_keeps d e (compared named q looked) client request n reply h was = stays_done d e client request n reply h.1
    was
exchange_keeps d e (updated q asked op ended) client request n reply h was =
    update_keeps (standing (fin.get d.latest q) asked) d e client q request n asked op reply ended refl h was

talk_keeps : (d e : LocalValue) (talk : List (Exchange (Unit {0}))) (client : Client) (request n : ℕ)
    (reply : ReplyModel) → Along allows d talk e → WasDone request n reply (fin.get d.latest client) →
    WasDone request n reply (fin.get e.latest client)
talk_keeps d e talk client request n reply ends was = was
talk_keeps d e talk client request n reply (goes {e = middle} {x = x} {xs = xs} first rest) was =
    talk_keeps middle e xs client request n reply rest (exchange_keeps d middle x client request n reply first was)

-- the request again
last_done : (a b : Bool) (k : KeptValue) (f g : LocalValue) (client : Client) (request n m : ℕ) (op : OpValue)
    (reply again : ReplyModel) → nat_lt request k.request ≡ a → nat_lt k.request request ≡ b →
    WasDone request n reply (Some k) → Ends (outcome_by (cond a older (cond b newer (repeated k))) f client request
    op) f (done m again) g → (m ≡ n) × (again ≡ reply) × (g ≡ f)
last_done true b k f g client request n m op reply again s t was h = absurd (not_stale m again (sym h.0))
last_done false true k f g client request n m op reply again s t was h =
    absurd (not_both k.request request (lt_of k.request request t) was.0)
last_done false false k f g client request n m op reply again s t was h =
    let same = was.1 (both_le request k.request (le_of k.request request t) (le_of request k.request s)) in (
      sym (same_number k.number m k.reply again h.0) ∙ same.0,
      sym (same_reply k.number m k.reply again
          h.0) ∙ same.1,
      h.1,
    )

again_done : (o : Option KeptValue) (f g : LocalValue) (client : Client) (request n m : ℕ) (op : OpValue)
    (reply again : ReplyModel) →
    WasDone request n reply o → Ends (outcome_by (standing o request) f client request op) f (done m again) g →
    (m ≡ n) × (again ≡ reply) × (g ≡ f)
again_done None f g client request n m op reply again was h = absurd was
again_done (Some k) f g client request n m op reply again was h = last_done (nat_lt request k.request)
    (nat_lt k.request request) k f g client request n m op reply again refl refl was h

pub made_once : MadeOnce
made_once d e f g talk client request n m op other reply again first between second =
    again_done (fin.get f.latest client) f g client request n m other reply again
    (talk_keeps e f talk client request n reply between (first_done (fin.get d.latest client) d e client request n op
    reply refl first)) second
