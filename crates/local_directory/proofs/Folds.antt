-- A directory of one server alone is the fold of what was made along a talk.
use Rattle.std.proofs.Common.{◌≡◌, ℕ, suc, ◌+◌, ◌≤◌, Bool, true, false, cond, nat_eq, nat_lt, List, [], ◌∷◌, ◌++◌, map, length, Option, Some, None, is_some, refl, sym, ap, ◌∙◌, subst, arith, true≢false}
use Rattle.std.specs.List.{slice_get}
use Rattle.std.specs.FinMap as fin
use Rattle.std.specs.Ordering.{eq_by_cmp}
use Rattle.std.proofs.lemmas.List.{map-append}
use Rattle.std.proofs.lemmas.Bool.Decides.{nat_tests}
use Rattle.dir_store.specs.directory_api.ldap_op.Values.{OpValue}
use Rattle.dir_store.specs.indexed_tree.Directory.{Directory}
use Rattle.dir_store.specs.directory_api.Answers.{ReplyModel}
use Rattle.dir_store.specs.Updates.{reply_to, directory_after, replies_after}
use Rattle.dir_store.specs.directory_api.log_entry.declared.words.Client.{Client}
use Rattle.dir_store.specs.directory_api.Talk.{EndedValue, done, stale, lost, refused_memory, Exchange, asked_role, learned, searched, compared, updated, Along, ends, goes}
use Rattle.local_directory.specs.private.ClientOrder.{client_cmp}
use Rattle.local_directory.specs.Latest.{KeptValue, Standing, older, repeated, newer, standing}
use Rattle.local_directory.specs.Local.{LocalValue}
use Rattle.local_directory.specs.Allows.{allows, Ends, outcome_by, made_as, unchanged, greatest}
use Rattle.local_directory.specs.Made.{MadeUpdate, made_if, made_in, made_along, ops_of, IsFold, IsKept, DirectoryIsFold}
use Rattle.dir_store.proofs.Joins.{after_join, replies_join}
use Rattle.dir_store.proofs.Placed.{placed}
use Rattle.dir_store.specs.Placed.{reply_at}
use Rattle.local_directory.proofs.Clients.{clients_total}
use Rattle.local_directory.proofs.Ends.{same_number, same_reply, not_stale, not_lost}

plus_none : (m : ℕ) → m ≡ m + 0
plus_none m = omega arith

through : (u t s a b x : ℕ) → u ≡ t + b → t ≡ s + a → x ≡ a + b → u ≡ s + x
through u t s a b x e f g = omega (arith, e, f, g)

none_plus : (m : ℕ) → m ≡ 0 + m
none_plus m = omega arith

suc_more : (a b x : ℕ) → a ≡ b + x → suc a ≡ suc b + x
suc_more a b x e = omega (arith, e)

length_join : {A : Type 0} (xs ys : List A) → length (xs ++ ys) ≡ length xs + length ys
length_join [] ys = none_plus (length ys)
length_join (x ∷ xs) ys = suc_more (length (xs ++ ys)) (length xs) (length ys) (length_join xs ys)

ops_length : (ms : List MadeUpdate) → length (ops_of ms) ≡ length ms
ops_length [] = refl
ops_length (m ∷ ms) = ap suc (ops_length ms)

-- the reply alone
abbrev reply_in : MadeUpdate → ReplyModel
reply_in m = m.reply

abbrev op_in : MadeUpdate → OpValue
op_in m = m.op

-- replies that are those of their definitions are so place by place
by_place : (d : LocalValue) (ms : List MadeUpdate) → map reply_in ms ≡ replies_after d.directory d.number
    (ops_of ms) → (p : ℕ) → slice_get (map reply_in ms) p ≡ reply_at d.directory d.number (ops_of ms) p
by_place d ms h p = ap (λ (rs : List ReplyModel). slice_get rs p) h ∙ placed d.directory d.number (ops_of ms) p

folds_join : (d e f : LocalValue) (ms ns : List MadeUpdate) → IsFold d ms e → IsFold e ns f → IsFold d (ms ++ ns) f
folds_join d e f ms ns first second =
    let at : e.number ≡ d.number + length (ops_of ms) = first.number ∙ ap (λ (k : ℕ). d.number + k)
    (sym (ops_length ms)) in
    let replies : map reply_in (ms ++ ns) ≡ replies_after d.directory d.number (ops_of (ms ++ ns)) =
    map-append reply_in ms ns
    ∙ ap (λ (rs : List ReplyModel). rs ++ map reply_in ns) first.replies
    ∙ ap (λ (rs : List ReplyModel). replies_after d.directory d.number (ops_of ms) ++ rs) second.replies
    ∙ ap (λ (x : Directory). replies_after d.directory d.number (ops_of ms) ++ replies_after x e.number (ops_of ns))
    first.directory
    ∙ ap (λ (k : ℕ). replies_after d.directory d.number (ops_of ms) ++ replies_after
    (directory_after d.directory d.number (ops_of ms)) k (ops_of ns)) at
    ∙ sym (replies_join d.directory d.number (ops_of ms) (ops_of ns))
    ∙ ap (λ (ops : List OpValue). replies_after d.directory d.number ops) (sym (map-append op_in ms ns)) in
    record {
      directory =
          second.directory
          ∙ ap (λ (x : Directory). directory_after x e.number (ops_of ns)) first.directory
          ∙ ap (λ (k : ℕ). directory_after (directory_after d.directory d.number (ops_of ms)) k (ops_of ns)) at
          ∙ sym (after_join d.directory d.number (ops_of ms) (ops_of ns))
          ∙ ap (λ (ops : List OpValue). directory_after d.directory d.number ops) (sym (map-append op_in ms ns));
      number = through f.number e.number d.number (length ms) (length ns) (length (ms ++ ns)) second.number
          first.number (length_join ms ns);
      replies = replies;
      placed = by_place d (ms ++ ns) replies;
    }

-- one exchange: what it made leads on, and what is kept stays so
abbrev Leads : LocalValue → List MadeUpdate → LocalValue → Type 0
Leads d ms e = IsFold d ms e × IsKept e

leads_same : (d e : LocalValue) → e ≡ d → IsKept d → Leads d [] e
leads_same d e h kept = (
  record {
    directory = ap (λ (x : LocalValue). x.directory) h;
    number = ap (λ (x : LocalValue). x.number) h
        ∙ plus_none d.number;
    replies = refl;
    placed = by_place d [] refl;
  },
  subst IsKept (sym h) kept,
)

-- a reply of an earlier number makes nothing
test_earlier : (n k : ℕ) → n ≤ k → nat_eq n (k + 1) ≡ false
test_earlier n k h = grind (arith, nat_tests)

test_next : (n k : ℕ) → n ≡ k + 1 → nat_eq n (k + 1) ≡ true
test_next n k h = grind (arith, nat_tests)

earlier : (d e : LocalValue) (op : OpValue) (n : ℕ) (r : ReplyModel) → n ≤ d.number → e ≡ d → IsKept d →
    Leads d (made_if d.number op (done n r)) e
earlier d e op n r h same kept =
    subst (λ (b : Bool). Leads d (cond b (record { op = op; reply = r } ∷ []) []) e) (sym (test_earlier n d.number h))
    (leads_same d e same kept)

-- what is there, or this
or_else : KeptValue → Option KeptValue → KeptValue
or_else j None = j
or_else j (Some i) = i

some_same : (i j : KeptValue) → Some i ≡ Some j → i ≡ j
unfolding or_else
some_same i j e = ap (or_else i) e

some_not : (j : KeptValue) → None ≡ Some j → ⊥
some_not j e = absurd (true≢false (sym (ap is_some e)))

-- what is kept after an update
kept_some : (b : Bool) (x k : KeptValue) (o : Option KeptValue) (m : ℕ) → cond b (Some x) o ≡ Some k → x.number ≤ m →
    ((j : KeptValue) → o ≡ Some j → j.number ≤ m) → k.number ≤ m
kept_some true x k o m h at rest = subst (λ (j : KeptValue). j.number ≤ m) (some_same x k h) at
kept_some false x k o m h at rest = rest k h

le_more : (a b : ℕ) → a ≤ b → a ≤ b + 1
le_more a b h = omega (arith, h)

le_self : (a : ℕ) → a ≤ a
le_self a = omega arith

made_kept : (d : LocalValue) (client : Client) (request : ℕ) (op : OpValue) → IsKept d →
    IsKept (made_as d (d.number + 1) client request op).after
made_kept d client request op kept q k h =
    kept_some (eq_by_cmp client_cmp q client) (record {
      request = request;
      number = d.number + 1;
      reply =
          reply_to d.directory (d.number + 1) op;
    }) k (fin.get d.latest q) (d.number + 1)
    (sym (fin.get-insert clients_total d.latest client (record {
      request = request;
      number = d.number + 1;
      reply =
          reply_to d.directory (d.number + 1) op;
    }) q) ∙ h)
    (le_self (d.number + 1)) (λ j g. le_more j.number d.number (kept q j g))

made_leads : (d e : LocalValue) (client : Client) (request : ℕ) (op : OpValue) (n : ℕ) (r : ReplyModel) →
    done (d.number + 1) (reply_to d.directory (d.number + 1) op) ≡ done n r →
    e ≡ (made_as d (d.number + 1) client request op).after → IsKept d → Leads d (made_if d.number op (done n r)) e
made_leads d e client request op n r h same kept =
    subst (λ (b : Bool). Leads d (cond b (record { op = op; reply = r } ∷ []) []) e)
    (sym (test_next n d.number (sym (same_number (d.number + 1) n (reply_to d.directory (d.number + 1) op) r h)))) (
      record {
        directory = ap (λ (x : LocalValue). x.directory) same;
        number = ap (λ (x : LocalValue). x.number) same;
        replies = ap (λ (x : ReplyModel). x ∷ [])
            (sym (same_reply (d.number + 1) n (reply_to d.directory (d.number + 1) op) r h));
        placed = by_place d (record { op = op; reply = r } ∷ []) (ap (λ (x : ReplyModel). x ∷ [])
            (sym (same_reply (d.number + 1) n (reply_to d.directory (d.number + 1) op) r h)));
      },
      subst IsKept (sym same) (made_kept d client request op kept),
    )

next_leads : (b : Bool) (d e : LocalValue) (client : Client) (request : ℕ) (op : OpValue) (ended : EndedValue) →
    Ends (cond b (made_as d (d.number + 1) client request op) (unchanged d lost)) d ended e → IsKept d →
    Leads d (made_if d.number op ended) e
next_leads true d e client request op (done n r) h kept = made_leads d e client request op n r h.0 h.1 kept
next_leads true d e client request op stale h kept = absurd (not_stale _ _ h.0)
next_leads true d e client request op lost h kept = absurd (not_lost _ _ h.0)
next_leads true d e client request op refused_memory h kept = leads_same d e h kept
next_leads false d e client request op (done n r) h kept = absurd (not_lost n r (sym h.0))
next_leads false d e client request op stale h kept = leads_same d e h.1 kept
next_leads false d e client request op lost h kept = leads_same d e h.1 kept
next_leads false d e client request op refused_memory h kept = leads_same d e h kept

by_standing : (s : Standing) (d e : LocalValue) (client : Client) (request : ℕ) (op : OpValue) (ended : EndedValue) →
    ((k : KeptValue) → s ≡ repeated k → k.number ≤ d.number) → Ends (outcome_by s d client request op) d ended e →
    IsKept d → Leads d (made_if d.number op ended) e
by_standing older d e client request op (done n r) at h kept = absurd (not_stale n r (sym h.0))
by_standing older d e client request op stale at h kept = leads_same d e h.1 kept
by_standing older d e client request op lost at h kept = leads_same d e h.1 kept
by_standing older d e client request op refused_memory at h kept = leads_same d e h kept
by_standing (repeated k) d e client request op (done n r) at h kept =
    earlier d e op n r (subst (λ (i : ℕ). i ≤ d.number) (same_number k.number n k.reply r h.0) (at k refl)) h.1 kept
by_standing (repeated k) d e client request op stale at h kept = leads_same d e h.1 kept
by_standing (repeated k) d e client request op lost at h kept = leads_same d e h.1 kept
by_standing (repeated k) d e client request op refused_memory at h kept = leads_same d e h kept
by_standing newer d e client request op ended at h kept = next_leads (nat_lt d.number greatest) d e client request op
    ended h kept

-- a repeated request is one that is kept
is_kept_of : Standing → KeptValue → KeptValue
is_kept_of older j = j
is_kept_of (repeated k) j = k
is_kept_of newer j = j

is_repeated : Standing → Bool
is_repeated older = false
is_repeated (repeated k) = true
is_repeated newer = false

repeated_same : (i j : KeptValue) → repeated i ≡ repeated j → i ≡ j
unfolding is_kept_of
repeated_same i j h = ap (λ (s : Standing). is_kept_of s i) h

older_not : (k : KeptValue) → older ≡ repeated k → ⊥
unfolding is_repeated
older_not k h = absurd (true≢false (ap is_repeated (sym h)))

newer_not : (k : KeptValue) → newer ≡ repeated k → ⊥
unfolding is_repeated
newer_not k h = absurd (true≢false (ap is_repeated (sym h)))

to_kept : (a b : Bool) (j k : KeptValue) → cond a older (cond b newer (repeated j)) ≡ repeated k → j ≡ k
to_kept true b j k h = absurd (older_not k h)
to_kept false true j k h = absurd (newer_not k h)
to_kept false false j k h = repeated_same j k h

repeated_at : (m : ℕ) (o : Option KeptValue) (request : ℕ) → ((j : KeptValue) → o ≡ Some j → j.number ≤ m) →
    (k : KeptValue) → standing o request ≡ repeated k → k.number ≤ m
repeated_at m None request at k h = absurd (newer_not k h)
repeated_at m (Some j) request at k h = subst (λ (i : KeptValue). i.number ≤ m) (to_kept (nat_lt request j.request)
    (nat_lt j.request request) j k h) (at j refl)

step : (d e : LocalValue) (x : Exchange (Unit {0})) → IsKept d → allows d x e → Leads d (made_in d.number x) e
step d e (asked_role role told) kept h = leads_same d e h.1 kept
step d e (learned told) kept h = leads_same d e h kept
step d e (searched named q looked) kept h = leads_same d e h.1 kept
step d e (compared named q looked) kept h = leads_same d e h.1 kept
step d e (updated client request op ended) kept h =
    by_standing (standing (fin.get d.latest client) request) d e client request op ended
    (repeated_at d.number (fin.get d.latest client) request (kept client)) h kept

along : (d e : LocalValue) (talk : List (Exchange (Unit {0}))) → IsKept d → Along allows d talk e →
    Leads d (made_along d.number talk) e
along d e talk kept ends = leads_same d d refl kept
along d e talk kept (goes {e = middle} {x = x} {xs = xs} first rest) =
    let one = step d middle x kept first in
    let more = along middle e xs one.1 rest in
    let from_here : Leads middle (made_along (d.number + length (made_in d.number x)) xs) e =
    subst (λ (k : ℕ). Leads middle (made_along k xs) e) one.0.number more in (
      folds_join d middle e (made_in d.number x) (made_along (d.number + length (made_in d.number x))
          xs) one.0 from_here.0,
      from_here.1,
    )

none_kept : (d : LocalValue) → d.latest ≡ fin.empty → IsKept d
none_kept d none q k h = absurd (some_not k (sym (ap (λ m. fin.get m q) none ∙ fin.get-empty client_cmp q) ∙ h))

pub is_fold : DirectoryIsFold
is_fold = (along, none_kept)
