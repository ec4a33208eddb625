-- Each reply of each schedule.
use Rattle.std.proofs.Common.{◌≡◌, ℕ, zero, suc, ◌+◌, ◌-◌, ◌<◌, ◌≤◌, nat_lt, Bool, true, false, cond, ◌⊎◌, inl, inr, List, [], ◌∷◌, ◌++◌, map, length, take, drop, reverse, Option, Some, None, slice_get, refl, sym, ap, ◌∙◌, subst, arith, length-append, append_assoc}
use Rattle.std.specs.Option.{option_map_or}
use Rattle.std.proofs.Math.ListN.{drop_of_length-le}
use Rattle.std.proofs.Math.Seq.{drop-append_seam}
use Rattle.std.proofs.lemmas.List.{reverse-append, length-reverse, map-append}
use Rattle.vr_state.proofs.Laws.{prefix_refl, prefix_trans, prefix_length}
use Rattle.vr_state.specs.Lists.{IsPrefix, In, IsNamedIn}
use Rattle.vr_state.specs.State.{State, is_recovering}
use Rattle.vr_state.specs.Words.{LogEntry}
use Rattle.vr_world.specs.Committed.{committed}
use Rattle.vr_world.specs.Law.{IsSize, IsExecuted, GivenSince}
use Rattle.vr_world.specs.World.{World, start, after, happens}
use Rattle.vr_world.specs.declared.events.WorldEvent.{WorldEvent}
use Rattle.vr_world.specs.declared.words.ReplyBy.{ReplyBy}
use Rattle.vr_world.proofs.Laws.{committed_grows, replicas_agree, replies_are_executed, run-append}
use Rattle.dir_search.specs.ldap_msg.Messages.{SearchRequestValue}
use Rattle.dir_search.specs.ldap_msg.View.{search_view}
use Rattle.state_machine.specs.Executing.{ops_of}
use Rattle.state_machine.specs.dir_store.ldap_schema.Schema.{SchemaModel}
use Rattle.state_machine.specs.dir_store.ldap_dn.Names.{RdnModel}
use Rattle.state_machine.specs.dir_store.ldap_op.Values.{OpValue}
use Rattle.state_machine.specs.indexed_tree.Directory.{Directory}
use Rattle.state_machine.specs.dir_store.Updates.{applied, directory_after, directory_of, empty_directory, replies_after, replies_of}
use Rattle.state_machine.proofs.dir_store.Joins.{replies_join}
use Rattle.dir_search.specs.Answer.{answer}
use Rattle.dir_lab.specs.Headline.{committed_by, IsReplyOf, RepliesAreOfCommitted}
use Rattle.dir_lab.specs.Schedule.{happenings, executed, executions, found, told, given_since, shown_by, shown_from}
use Rattle.dir_lab.specs.Shown.{Shown, Replied, Unavailable, NotYet, Answered, Standing, Down, standing, code_at}
use Rattle.dir_search.specs.directory_api.Answers.{ReplyModel}
use Rattle.dir_lab.specs.declared.events.LabEvent.{LabEvent}
use Rattle.dir_lab.specs.declared.events.LabEvent.TheVariants.{Happens, Search, State as Question}

-- A reply that is shown is as it is promised; nothing is promised of the rest.
abbrev Fine : (ReplyBy → ℕ → Type 0) → Shown → Type 0
Fine Is (Replied t code) = Is t code
Fine Is Unavailable = Unit {0}
Fine Is (NotYet at) = Unit {0}
Fine Is (Answered at a) = Unit {0}
Fine Is (Standing i v st p k) = Unit {0}
Fine Is (Down i) = Unit {0}

-- all of these are
abbrev AllFine : (ReplyBy → ℕ → Type 0) → List Shown → Type 0
AllFine Is [] = Unit {0}
AllFine Is (x ∷ xs) = Fine Is x × AllFine Is xs

-- one of them is
fine_in : (Is : ReplyBy → ℕ → Type 0) (xs : List Shown) → AllFine Is xs → (t : ReplyBy) (code : ℕ) →
    In (Replied t code) xs → Is t code
fine_in Is [] h t code i = absurd i
fine_in Is (x ∷ xs) h t code (inl e) = subst (Fine Is) (sym e) h.0
fine_in Is (x ∷ xs) h t code (inr i) = fine_in Is xs h.1 t code i

-- two lists
fine_both : (Is : ReplyBy → ℕ → Type 0) (xs ys : List Shown) → AllFine Is xs → AllFine Is ys → AllFine Is (xs ++ ys)
fine_both Is [] ys h k = k
fine_both Is (x ∷ xs) ys h k = (h.0, fine_both Is xs ys h.1 k)

-- replies that are told
fine_told : (Is : ReplyBy → ℕ → Type 0) (s : SchemaModel) (root : List RdnModel) (records : ℕ →
    List (LogEntry OpValue)) (ts : List ReplyBy)
    → ((t : ReplyBy) → In t ts → Fine Is (told s root records t)) → AllFine Is (map (told s root records) ts)
fine_told Is s root records [] h = tt
fine_told Is s root records (t ∷ ts) h = (h t (inl refl), fine_told Is s root records ts (λ u i. h u (inr i)))

-- what a search shows is no reply,
fine_found : (Is : ReplyBy → ℕ → Type 0) (s : SchemaModel) (root : List RdnModel) (records : List (LogEntry OpValue))
    (named : ℕ) (q : SearchRequestValue) (o : Option (State OpValue)) → Fine Is (found s root records named q o)
fine_found Is s root records named q None = tt
fine_found Is s root records named q (Some r) = by (is_recovering r.status) (nat_lt r.commit_number named)
  where
    by : (a b : Bool) → Fine Is
        (cond a Unavailable (cond b (NotYet r.commit_number)
        (Answered r.commit_number (answer (directory_of s root (ops_of records)) q))))
    by true b = tt
    by false true = tt
    by false false = tt

-- nor is a state
fine_standing : (Is : ReplyBy → ℕ → Type 0) (i : ℕ) (o : Option (State OpValue)) → Fine Is (standing i o)
fine_standing Is i None = tt
fine_standing Is i (Some r) = tt

-- one thing or none
fine_if : (Is : ReplyBy → ℕ → Type 0) (b : Bool) (x : Shown) → Fine Is x → AllFine Is (cond b (x ∷ []) [])
fine_if Is true x h = (h, tt)
fine_if Is false x h = tt

-- what is in one of two lists
in_either : {A : Type 0} (x : A) (xs ys : List A) → In x (xs ++ ys) → In x xs ⊎ In x ys
in_either x [] ys h = inr h
in_either x (y ∷ xs) ys (inl e) = inl (inl e)
in_either {A} x (y ∷ xs) ys (inr h) = go (in_either x xs ys h)
  where
    go : In x xs ⊎ In x ys → In x (y ∷ xs) ⊎ In x ys
    go (inl k) = inl (inr k)
    go (inr k) = inr k

-- what is in a list the other way
in_reverse : {A : Type 0} (x : A) (xs : List A) → In x (reverse xs) → In x xs
in_reverse x [] h = h
in_reverse {A} x (y ∷ xs) h = go (in_either x (reverse xs) (y ∷ []) (subst (In x) (reverse-append (y ∷ []) xs) h))
    (in_reverse x xs)
  where
    go : In x (reverse xs) ⊎ In x (y ∷ []) → (In x (reverse xs) → In x xs) → In x (y ∷ xs)
    go (inl k) ih = inr (ih k)
    go (inr (inl e)) ih = inl e
    go (inr (inr k)) ih = absurd k

-- what came since is what was given
since_is : (old new : World OpValue) (g : GivenSince old new) → given_since old new ≡ reverse g.given
since_is old new g =
    ap (λ l. drop (length old.replies) (reverse l)) g.replies
    ∙ ap (drop (length old.replies)) (reverse-append g.given old.replies)
    ∙ ap (λ (k : ℕ). drop k (reverse old.replies ++ reverse g.given)) (sym (length-reverse old.replies))
    ∙ drop-append_seam (reverse old.replies) (reverse g.given)

-- nothing came since
pub none_since : (before : ℕ) (replies : List ReplyBy) → length replies ≤ before → drop before replies ≡ []
none_since before replies h = drop_of_length-le replies h

-- a place within a list stays as it goes on
get_front : {A : Type 0} (xs ys : List A) (k : ℕ) → k < length xs → (x : A) × (slice_get xs k ≡ Some x)
    × (slice_get (xs ++ ys) k ≡ Some x)
get_front [] ys k h = absurd (omega (arith, h))
get_front (x ∷ xs) ys zero h = (x, refl, refl)
get_front (x ∷ xs) ys (suc k) h = get_front xs ys k (omega (arith, h))

-- as many replies as updates
replies_length : (d : Directory) (n : ℕ) (ops : List OpValue) → length (replies_after d n ops) ≡ length ops
replies_length d n [] = refl
replies_length d n (u ∷ ops) = ap suc (replies_length (applied d (n + 1) u) (n + 1) ops)

ops_length : (es : List (LogEntry OpValue)) → length (ops_of es) ≡ length es
ops_length [] = refl
ops_length (e ∷ es) = ap suc (ops_length es)

-- the place of a record that is named
place : (t : ReplyBy) (records : List (LogEntry OpValue)) → IsNamedIn t.reply records → t.reply.op_number - 1 < length
    records
place t records h =
    omega (arith, h.at.op_number, prefix_length h.at.within, length-append h.at.front (h.entry ∷ []))

-- a reply over a beginning of what is committed
module _ (s : SchemaModel) (root : List RdnModel) (all : List (LogEntry OpValue)) (t : ReplyBy)
    (records : List (LogEntry OpValue)) (begins : IsPrefix records all) (named : IsNamedIn t.reply records) where
  -- the replies to all go on from those to the beginning
  goes_on : replies_of s root (ops_of all) ≡ replies_of s root (ops_of records) ++ replies_after
      (directory_after (empty_directory s root) 0 (ops_of records)) (0 + length (ops_of records)) (ops_of begins.rest)
  goes_on =
      ap (λ (l : List (LogEntry OpValue)). replies_of s root (ops_of l)) (sym begins.is)
      ∙ ap (λ l. replies_of s root l) (map-append (λ (e : LogEntry OpValue). e.payload) records begins.rest)
      ∙ replies_join (empty_directory s root) 0 (ops_of records) (ops_of begins.rest)

  -- so its code is that of the reply to the record at its place
  of_all : IsReplyOf s root all t (code_at (replies_of s root (ops_of records)) t.reply.op_number)
  of_all =
      let found = get_front (replies_of s root (ops_of records))
      (replies_after (directory_after (empty_directory s root) 0 (ops_of records))
      (0 + length (ops_of records)) (ops_of begins.rest)) (t.reply.op_number - 1)
      (omega (
        arith,
        place t records named,
        replies_length (empty_directory s root) 0 (ops_of
            records),
        ops_length records,
      )) in
      record {
        named = record {
          entry = named.entry;
          at = record {
            front = named.at.front;
            within = prefix_trans
                named.at.within begins;
            op_number = named.at.op_number;
          };
          client = named.client;
          request_number =
              named.request_number;
        };
        reply = found.0;
        at = ap (λ l. slice_get l (t.reply.op_number - 1)) goes_on ∙ found.2;
        code = ap (λ (o : Option ReplyModel). option_map_or (λ (x : ReplyModel). x.code) o 80) found.1;
      }

module _ (s : SchemaModel) (root : List RdnModel) (n : ℕ) (size : IsSize n) (all : List (LogEntry OpValue)) where
  -- the replies of one event
  fine_event : (past : List (WorldEvent OpValue)) (e : WorldEvent OpValue) →
      IsPrefix (committed n (happens n (after n past) e).messages) all
      → AllFine (IsReplyOf s root all) (map (told s root (executions (happens n (after n past) e)))
      (given_since (after n past) (happens n (after n past) e)))
  fine_event past e begins = fine_told (IsReplyOf s root all) s root (executions new) (given_since old new)
      (λ t i. one t (g.executed t (in_reverse t g.given (subst (In t) (since_is old new g) i))))
    where
      old : World OpValue
      old = after n past

      new : World OpValue
      new = happens n old e

      g : GivenSince old new
      g = replies_are_executed n old e

      same : after n (past ++ e ∷ []) ≡ new
      same = run-append n past (e ∷ []) (start n)

      one : (t : ReplyBy) → IsExecuted new t →
          IsReplyOf s root all t (code_at (replies_of s root (ops_of (executions new t.replica))) t.reply.op_number)
      one t x = subst (λ (l : List (LogEntry OpValue)). IsReplyOf s root all t (code_at (replies_of s root (ops_of l))
          t.reply.op_number)) (sym (ap executed x.up))
          (of_all s root all t (take x.replica.commit_number x.replica.log)
          (prefix_trans (subst (λ (w : World OpValue). IsPrefix (take x.replica.commit_number x.replica.log)
          (committed n w.messages)) same
          (replicas_agree n size (past ++ e ∷ []) t.replica x.replica
          (subst (λ (w : World OpValue). w.replicas t.replica ≡ Some x.replica) (sym same) x.up))) begins) x.named)

  -- all that is shown of a schedule from a world on, where what is committed at its end begins this list
  fine_from : (past : List (WorldEvent OpValue)) (es : List LabEvent) →
      IsPrefix (committed n (after n (past ++ happenings es)).messages) all → AllFine (IsReplyOf s root all)
      (shown_from s root n es (after n past))
  fine_from past [] begins = tt
  fine_from past (Happens e ∷ es) begins =
      fine_both (IsReplyOf s root all) _ _ (fine_event past e here)
      (subst (λ (w : World OpValue). AllFine (IsReplyOf s root all) (shown_from s root n es w)) same
      (fine_from (past ++ e ∷ []) es
      (subst (λ (l : List (WorldEvent OpValue)). IsPrefix (committed n (after n l).messages) all) (sym joined)
      begins)))
    where
      same : after n (past ++ e ∷ []) ≡ happens n (after n past) e
      same = run-append n past (e ∷ []) (start n)

      joined : (past ++ e ∷ []) ++ happenings es ≡ past ++ (e ∷ happenings es)
      joined = append_assoc past (e ∷ []) (happenings es)

      here : IsPrefix (committed n (happens n (after n past) e).messages) all
      here = subst (λ (w : World OpValue). IsPrefix (committed n w.messages) all) same
          (prefix_trans (committed_grows n size (past ++ e ∷ []) (happenings es))
          (subst (λ (l : List (WorldEvent OpValue)). IsPrefix (committed n (after n l).messages) all) (sym joined)
          begins))
  fine_from past (Search i named q ∷ es) begins =
      fine_both (IsReplyOf s root all) _ _ (fine_if (IsReplyOf s root all) (nat_lt i n) _
      (fine_found (IsReplyOf s root all) s root (executions (after n past) i) named (search_view q)
      ((after n past).replicas i))) (fine_from past es begins)
  fine_from past (Question i ∷ es) begins =
      fine_both (IsReplyOf s root all) _ _ (fine_if (IsReplyOf s root all) (nat_lt i n) _
      (fine_standing (IsReplyOf s root all) i ((after n past).replicas i))) (fine_from past es begins)

-- Each reply is of what is committed.
pub replies_are_of_committed : (s : SchemaModel) (root : List RdnModel) (n : ℕ) (es : List LabEvent)
    (shown : List Shown) → (IsSize n → shown ≡ shown_by s root n es) → RepliesAreOfCommitted s root n es shown
replies_are_of_committed s root n es shown h size t code i =
    fine_in (IsReplyOf s root (committed_by n es)) (shown_by s root n es) (fine_from s root n size (committed_by n es)
    [] es (prefix_refl (committed_by n es))) t code (subst (In (Replied t code)) (h size) i)
