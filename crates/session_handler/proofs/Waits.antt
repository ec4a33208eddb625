-- What asks for an update, and what asks for none.
use Rattle.std.proofs.Common.{◌≡◌, ℕ, ◌+◌, Bool, true, false, cond, ◌&&◌, List, [], ◌∷◌, Option, None, Some, Result, Ok, Err, is_some, is_ok, refl, sym, ap, ap₂, ◌∙◌, arith}
use Rattle.request_checks.specs.ldap_msg.Messages.{RequestValue, bind, unbind, search, modify, add, delete, modify_dn, compare, abandon, extended_request, ControlValue, OperationValue, request, response, MessageValue}
use Rattle.directory_api.specs.ldap_op.Values.{OpValue}
use Rattle.directory_api.specs.Talk.{RoleValue, primary, backup, changing, recovering, Exchange}
use Rattle.directory_api.specs.Counting.{updates_in}
use Rattle.directory_api.specs.log_entry.declared.words.Client.{Client}
use Rattle.request_checks.specs.Controls.{judged}
use Rattle.request_checks.specs.Requests.{update_of, kind_of}
use Rattle.request_checks.specs.declared.controls.Named.{Named}
use Rattle.request_checks.specs.declared.identity.Identity.{Identity}
use Rattle.request_checks.specs.declared.identity.Identity.TheVariants.{Anonymous, Manager}
use Rattle.session_handler.specs.declared.answered.Next.{Next}
use Rattle.session_handler.specs.declared.pending.Pending.{Pending}
use Rattle.session_handler.specs.declared.state.State.{State}
use Rattle.session_handler.specs.Session.{ConfigValue, Reaction, silence_of, Due, at_once, after_role, due_by, due_unless, due_of_op, due, Asked, nothing, a_search, a_compare, an_update, pending_of, update_by, asked_of_update, asked_of, is_recovering, asked}
use Rattle.session_handler.specs.Turns.{Outcome, reacts, searches, compares, updates, Inquiry, asks, Turn, answers, inquires}
use Rattle.session_handler.specs.Waiting.{is_manager, is_update, may_update, OthersDoNotUpdate}

-- ---- what is asked about has passed its controls

judged_named : (s : State) (id : ℕ) (r q : RequestValue) (named : Named) (j : Result Named ℕ) → due_by s id r j ≡
    after_role q named → (r ≡ q) × (is_ok j ≡ true)
judged_named s id r q named (Ok x) h = let same : r ≡ q = cc in (same, refl)
judged_named s id r q named (Err code) h = absurd (cc)

unless_named : (s : State) (m : MessageValue) (r q : RequestValue) (named : Named) (o : Option Next) →
    due_unless s m r o ≡ after_role q named → (r ≡ q) × (is_ok (judged (kind_of r) m.controls) ≡ true)
unless_named s m r q named None h = judged_named s m.id r q named (judged (kind_of r) m.controls) h
unless_named s m r q named (Some next) h = absurd (cc)

op_named : (s : State) (m : MessageValue) (q : RequestValue) (named : Named) (op : OperationValue) →
    due_of_op s m op ≡ after_role q named → is_update m.controls op ≡ is_some (update_of q)
op_named s m q named (request r) h =
    let u = unless_named s m r q named (silence_of r) h in
    ap (λ (b : Bool). is_some (update_of r) && b) u.1 ∙ by (is_some (update_of r))
    ∙ ap (λ (x : RequestValue). is_some (update_of x)) u.0
  where
    by : (b : Bool) → (b && true) ≡ b
    by true = refl
    by false = refl
op_named s m q named (response r) h = absurd (cc)

-- ---- who asks for an update

update_by_manager : (i : Identity) (c : ConfigValue) (s : State) (p : Pending) (u v : OpValue) (role : RoleValue)
    (client : Client) (number : ℕ) → update_by i c s p u role ≡ an_update client number v → is_manager i ≡ true
update_by_manager Anonymous c s p u v role client number h = absurd (cc)
update_by_manager Manager c s p u v role client number h = refl

update_of_manager : (c : ConfigValue) (s : State) (p : Pending) (role : RoleValue) (o : Option OpValue) (v : OpValue)
    (client : Client) (number : ℕ) → asked_of_update c s p role o ≡ an_update client number v
    → (is_manager s.identity && is_some o) ≡ true
update_of_manager c s p role None v client number h = absurd (cc)
update_of_manager c s p role (Some u) v client number h = ap (λ (b : Bool). b && true) (update_by_manager s.identity c
    s p u v role client number h)

served_manager : (c : ConfigValue) (s : State) (p : Pending) (r : RequestValue) (role : RoleValue) (v : OpValue)
    (client : Client) (number : ℕ) → asked_of c s p r role ≡ an_update client number v
    → (is_manager s.identity && is_some (update_of r)) ≡ true
served_manager c s p (bind b) role v client number h = absurd (cc)
served_manager c s p unbind role v client number h = absurd (cc)
served_manager c s p (search q) role v client number h = absurd (cc)
served_manager c s p (modify m) role v client number h = update_of_manager c s p role (update_of (modify m)) v client
    number h
served_manager c s p (add a) role v client number h = update_of_manager c s p role (update_of (add a)) v client number h
served_manager c s p (delete name) role v client number h = update_of_manager c s p role (update_of (delete name)) v
    client number h
served_manager c s p (modify_dn m) role v client number h = update_of_manager c s p role (update_of (modify_dn m)) v
    client number h
served_manager c s p (compare q) role v client number h = absurd (cc)
served_manager c s p (abandon k) role v client number h = absurd (cc)
served_manager c s p (extended_request x) role v client number h = update_of_manager c s p role
    (update_of (extended_request x)) v client number h

asked_manager : (c : ConfigValue) (s : State) (p : Pending) (r : RequestValue) (role : RoleValue) (v : OpValue)
    (client : Client) (number : ℕ) → asked c s p r role ≡ an_update client number v
    → (is_manager s.identity && is_some (update_of r)) ≡ true
asked_manager c s p r primary v client number h = served_manager c s p r primary v client number h
asked_manager c s p r (backup uri) v client number h = served_manager c s p r (backup uri) v client number h
asked_manager c s p r changing v client number h = served_manager c s p r changing v client number h
asked_manager c s p r recovering v client number h = absurd (cc)

-- ---- what asks for none makes none

behind_two : (n : ℕ) → n ≡ 0 → 0 + (0 + n) ≡ 0
behind_two n p = omega (arith, p)

module _ {T : Type 0} (c : ConfigValue) (s : State) where
  outcome_none : (id : ℕ) (r : RequestValue) (named : Named) (role : RoleValue) (xs : List (Exchange T))
      (a : Reaction) → Outcome s id (pending_of id r named).answering named (asked c s (pending_of id r named) r role)
      xs a
      → (is_manager s.identity && is_some (update_of r)) ≡ false → updates_in xs ≡ 0
  outcome_none id r named role xs a (reacts is) h = refl
  outcome_none id r named role xs a (searches number q look is) h = refl
  outcome_none id r named role xs a (compares number q look is) h = refl
  outcome_none id r named role xs a (updates client number u ended is) h = let k : true ≡ false =
      sym (asked_manager c s (pending_of id r named) r role u client number is) ∙ h in absurd (cc)

  inquiry_none : (id : ℕ) (r : RequestValue) (named : Named) (xs : List (Exchange T)) (a : Reaction) →
      Inquiry c s id r named xs a → (is_manager s.identity && is_some (update_of r)) ≡ false → updates_in xs ≡ 0
  inquiry_none id r named xs a (asks {xs = later} role told outcome) h = behind_two (updates_in later)
      (outcome_none id r named role later a outcome h)

  turn_none : (m : MessageValue) (xs : List (Exchange T)) (a : Reaction) → Turn c s m xs a → may_update s m ≡ false →
      updates_in xs ≡ 0
  turn_none m xs a (answers is) h = refl
  turn_none m xs a (inquires r named is inquiry) h =
      inquiry_none m.id r named xs a inquiry (ap (λ (b : Bool). is_manager s.identity && b)
      (sym (op_named s m r named m.op is)) ∙ h)

pub others_make_none : (T : Type 0) → OthersDoNotUpdate T
others_make_none T c s m talk a = turn_none c s m talk a
