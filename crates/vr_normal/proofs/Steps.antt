-- A step from its parts.
use Rattle.std.proofs.Common.{◌≡◌, ℕ, ◌+◌, ◌==◌, ◌/◌, nat_le, min, max, Bool, true, false, cond, List, [], ◌∷◌, length, refl, sym, ap, ◌∙◌, arith, eqb-true, length-append}
use Rattle.vr_state.specs.Words.{LogEntry}
use Rattle.vr_state.specs.declared.words.Reply.{Reply}
use Rattle.vr_state.specs.declared.message.Send.{Send}
use Rattle.vr_state.specs.declared.message.PeerMessage.TheVariants.{PrepareOk, GetState}
use Rattle.vr_state.specs.State.{State}
use Rattle.vr_state.specs.Outcome.{Outcome, sending, send_to, others, commit_to, replies_between}
use Rattle.vr_state.specs.NormalCase.{append, take_in, answer_prepare, reached, commit_and_answer}

-- What is committed and answered, from its parts.
committed_is : {P : Type 0} (r : State P) (m k : ℕ) (a s : List ℕ) (sends : List (Send P)) (replies : List Reply) →
    m ≡ k → a ≡ s → sends ≡ [] → replies ≡ replies_between r.commit_number m r.log →
    ◌≡◌ {A = Outcome P} (record {
      state = record r { commit_number = m; acknowledged = a };
      sends = sends;
      replies =
          replies;
    }) (record {
      state = record r { commit_number = k; acknowledged = s };
      sends = [];
      replies =
          replies_between r.commit_number k r.log;
    })
committed_is {P} r m k a s sends replies e f g h =
    let w : replies ≡ replies_between r.commit_number k r.log = h
    ∙ ap (λ (y : ℕ). replies_between r.commit_number y r.log) e in
    λ j. record { state = record r { commit_number = e j; acknowledged = f j }; sends = g j; replies = w j }

-- An accepted PREPAREOK, from its parts.
pub acknowledged_is : {P : Type 0} (n i x m : ℕ) (r : State P) (a s : List ℕ) (sends : List (Send P))
    (replies : List Reply) → a ≡ s → length a ≡ n → x ≡ reached (length a / 2) a (others (length a) i)
    (others (length a) i) → m ≡ max r.commit_number (min x (length r.log)) → sends ≡ [] → replies ≡ replies_between
    r.commit_number m r.log → ◌≡◌ {A = Outcome P} (record {
      state = record r { commit_number = m; acknowledged = a };
      sends = sends;
      replies = replies;
    }) (commit_and_answer (reached (n / 2) s (others n i) (others n i))
    (record r { acknowledged = s }))
acknowledged_is {P} n i x m r a s sends replies same counted hx hm none answered =
    committed_is r m _ a s sends replies
    (hm ∙ ap (λ (y : ℕ). max r.commit_number (min y (length r.log)))
    (hx ∙ (ap (λ (k : ℕ). reached (k / 2) a (others k i) (others k i)) counted
    ∙ ap (λ (l : List ℕ). reached (n / 2) l (others n i) (others n i)) same)))
    same none answered

-- how many records there are once one is taken in
held_is : {P : Type 0} (e : LogEntry P) (p : ℕ) (r : State P) (b : Bool) → (p == length r.log + 1) ≡ b →
    length (cond b (append e r) r).log ≡ cond b p (length r.log)
held_is {P} e p r true h = let w : p ≡ length r.log + 1 = eqb-true p (length r.log + 1) h in omega
    (arith, length-append r.log (e ∷ []))
held_is e p r false h = refl

-- a choice of messages is a choice of steps
chosen : {P : Type 0} (r : State P) (b : Bool) (xs ys : List (Send P)) → sending r (cond b xs ys) ≡
    cond b (sending r xs) (sending r ys)
chosen r true xs ys = refl
chosen r false xs ys = refl

-- a choice of logs has committed as much
commit_of : {P : Type 0} (e : LogEntry P) (r : State P) (b : Bool) → (cond b (append e r) r).commit_number ≡
    r.commit_number
commit_of e r true = refl
commit_of e r false = refl

-- A PREPARE that is taken in and answered, from its parts.
pub prepared_is : {P : Type 0} (from v p x held k : ℕ) (e : LogEntry P) (r mid new : State P) (sends : List (Send P))
    (replies : List Reply) → new ≡ commit_to x mid → mid ≡ take_in e p r → held ≡ cond (p == length r.log + 1) p
    (length r.log) → k ≡ max r.commit_number (min x held) → sends ≡ cond (nat_le p held)
    (send_to from (PrepareOk v held) ∷ []) (send_to from (GetState v k) ∷ []) → replies ≡ [] →
    ◌≡◌ {A = Outcome P} (record { state = new; sends = sends; replies = replies })
    (answer_prepare from v p (commit_to x (take_in e p r)))
prepared_is {P} from v p x held k e r mid new sends replies hn hm hh hk hs hr =
    let s : new ≡ commit_to x (take_in e p r) = hn ∙ ap (commit_to x) hm in
    let made : ◌≡◌ {A = Outcome P} (record { state = new; sends = sends; replies = replies })
    (sending (commit_to x (take_in e p r)) (cond (nat_le p (length (take_in e p r).log))
    (send_to from (PrepareOk v (length (take_in e p r).log)) ∷ [])
    (send_to from (GetState v (commit_to x (take_in e p r)).commit_number) ∷ []))) = λ j.
    record { state = s j; sends = asked j; replies = hr j } in
    made ∙ chosen (commit_to x (take_in e p r)) (nat_le p (length (take_in e p r).log)) _ _
  where
    long : held ≡ length (take_in e p r).log
    long = hh ∙ sym (held_is e p r (p == length r.log + 1) refl)

    by_then : k ≡ max (take_in e p r).commit_number (min x held)
    by_then = hk ∙ ap (λ (y : ℕ). max y (min x held)) (sym (commit_of e r (p == length r.log + 1)))

    asked : sends ≡ cond (nat_le p (length (take_in e p r).log))
        (send_to from (PrepareOk v (length (take_in e p r).log)) ∷ [])
        (send_to from (GetState v (commit_to x (take_in e p r)).commit_number) ∷ [])
    asked = hs ∙ ap (λ (y : ℕ). cond (nat_le p held) (send_to from (PrepareOk v held) ∷ [])
        (send_to from (GetState v y) ∷ [])) by_then
        ∙ ap (λ (y : ℕ). cond (nat_le p y) (send_to from (PrepareOk v y) ∷ [])
        (send_to from (GetState v (max (take_in e p r).commit_number (min x y))) ∷ [])) long

-- a choice of logs is of one view
view_of : {P : Type 0} (e : LogEntry P) (r : State P) (b : Bool) → (cond b (append e r) r).view_number ≡ r.view_number
view_of e r true = refl
view_of e r false = refl

-- A PREPARE leaves the view as it was.
pub view_kept : {P : Type 0} (p x : ℕ) (e : LogEntry P) (r mid new : State P) → new ≡ commit_to x mid →
    mid ≡ take_in e p r → new.view_number ≡ r.view_number
view_kept {P} p x e r mid new hn hm = ap (λ (s : State P). s.view_number) (hn ∙ ap (commit_to x) hm)
    ∙ view_of e r (p == length r.log + 1)
