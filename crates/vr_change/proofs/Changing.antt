-- A step of the view change from its parts.
use Rattle.std.proofs.Common.{◌≡◌, ◌≢◌, ℕ, ◌+◌, ◌/◌, ◌<◌, ◌≤◌, ◌==◌, nat_lt, nat_le, Bool, true, false, cond, not, ◌&&◌, ◌||◌, List, [], ◌∷◌, ◌++◌, length, refl, sym, ap, ap₂, ◌∙◌, append-nil, length-append, ne_eqb, eq-eqb, lt-ltb, le-ltb}
use Rattle.std.specs.List.{list_any}
use Rattle.std.proofs.Common.{Option}
use Rattle.vr_state.specs.declared.message.Change.{Change}
use Rattle.vr_state.specs.declared.message.Send.{Send}
use Rattle.vr_state.specs.declared.message.PeerMessage.TheVariants.{StartViewChange}
use Rattle.vr_state.specs.declared.words.Reply.{Reply}
use Rattle.vr_state.specs.Outcome.{Outcome, after_sends, count, idle, indices, is_noted, sending, to_all}
use Rattle.vr_state.specs.State.{State, greatest_view, primary, is_recovering}
use Rattle.vr_state.specs.ViewChange.{beat_changing, begin_view, best, declare, enter, is_changing_in, note_change, note_start, on_do_view_change, on_start_view_change, on_suspect, send_change, try_begin}
use Rattle.vr_change.specs.private.Rules.{note_change_in}

-- What was to be sent before, and nothing else.
pub only_before : {P : Type 0} (r : State P) (before sends : List (Send P)) (replies : List Reply) → sends ≡ before →
    replies ≡ [] → ◌≡◌ {A = Outcome P} (record { state = r; sends = sends; replies = replies })
    (after_sends before (idle r))
only_before r before sends replies hs hr =
    let e : sends ≡ before ++ [] = hs ∙ sym (append-nil before) in
    λ j. record { state = r; sends = e j; replies = hr j }

-- What a test lets happen, with nothing to be sent before.
pub when : {P : Type 0} (b : Bool) (x y : Outcome P) (before : List (Send P)) {made : Outcome P} → true ≡ b →
    before ≡ [] → made ≡ after_sends before x → made ≡ cond b x y
when b x y before is none e = e ∙ ap (λ l. after_sends l x) none ∙ ap (λ t. cond t x y) is

-- A DOVIEWCHANGE that is sent.
pub declared_is : {P : Type 0} (n i : ℕ) (r : State P) (before declared all sends : List (Send P))
    (replies : List Reply) → primary n r.view_number ≢ i → declared ≡ send_change n i r → all ≡ before ++ declared →
    sends ≡ all → replies ≡ [] → ◌≡◌ {A = Outcome P} (record { state = r; sends = sends; replies = replies })
    (after_sends before (declare n i r))
declared_is {P} n i r before declared all sends replies ne hd ha hs hr =
    let e : sends ≡ before ++ send_change n i r = hs ∙ ha ∙ ap (λ l. before ++ l) hd in
    let made : ◌≡◌ {A = Outcome P} (record { state = r; sends = sends; replies = replies })
    (after_sends before (sending r (send_change n i r))) = λ j. record {
      state = r;
      sends = e j;
      replies =
          hr j;
    } in
    made ∙ sym (ap (λ t. after_sends before
    (cond t (try_begin n i (note_change i (record {
      log = r.log;
      last_normal_view = r.last_normal_view;
      commit_number = r.commit_number;
    }) r)) (sending r (send_change n i r)))) (ne_eqb (primary n r.view_number) i
    ne))

-- the note of a sender that is new
noted_new : {P : Type 0} (n i from : ℕ) (r : State P) (before : List (Send P)) (b : Bool) → list_any (λ j. j == from)
    r.start_view_changes ≡ false → (length (r.start_view_changes ++ from ∷ []) == n / 2) ≡ b →
    after_sends before (note_start n i r from) ≡ after_sends before
    (cond b (declare n i (record r { start_view_changes = r.start_view_changes ++ from ∷ [] }))
    (idle (record r { start_view_changes = r.start_view_changes ++ from ∷ [] })))
noted_new {P} n i from r before b fresh e =
    ap₂ (λ s t. after_sends before
    (cond s (idle r) (cond t (declare n i (record r { start_view_changes = r.start_view_changes ++ from ∷ [] }))
    (idle (record r { start_view_changes = r.start_view_changes ++ from ∷ [] }))))) fresh e

-- A sender that is noted already.
pub noted_again : {P : Type 0} (n i from : ℕ) (r : State P) (before sends : List (Send P)) (replies : List Reply) →
    list_any (λ j. j == from) r.start_view_changes ≡ true → sends ≡ before → replies ≡ [] →
    ◌≡◌ {A = Outcome P} (record { state = r; sends = sends; replies = replies })
    (after_sends before (note_start n i r from))
noted_again n i from r before sends replies is hs hr =
    let s = record r { start_view_changes = r.start_view_changes ++ from ∷ [] } in
    only_before r before sends replies hs hr
    ∙ sym (ap (λ t. after_sends before (cond t (idle r) (cond (length s.start_view_changes == n / 2) (declare n i s)
    (idle s)))) is)

-- A sender that is noted, and isn't the f-th.
pub noted_idle : {P : Type 0} (n i from : ℕ) (r : State P) (noted : List ℕ) (before sends : List (Send P))
    (replies : List Reply) → list_any (λ j. j == from) r.start_view_changes ≡ false →
    noted ≡ r.start_view_changes ++ from ∷ [] → length r.start_view_changes + 1 ≢ n / 2 → sends ≡ before →
    replies ≡ [] → ◌≡◌ {A = Outcome P} (record {
      state = record r { start_view_changes = noted };
      sends =
          sends;
      replies = replies;
    }) (after_sends before (note_start n i r from))
noted_idle {P} n i from r noted before sends replies fresh hn ne hs hr =
    let e : sends ≡ before ++ [] = hs ∙ sym (append-nil before) in
    let made : ◌≡◌ {A = Outcome P} (record {
      state = record r { start_view_changes = noted };
      sends = sends;
      replies =
          replies;
    }) (after_sends before
    (idle (record r { start_view_changes = r.start_view_changes ++ from ∷ [] }))) = λ j.
    record { state = record r { start_view_changes = hn j }; sends = e j; replies = hr j } in
    let more : length (r.start_view_changes ++ from ∷ []) ≢ n / 2 = λ q.
    ne (sym (length-append r.start_view_changes (from ∷ [])) ∙ q) in
    made ∙ sym (noted_new n i from r before false fresh (ne_eqb (length (r.start_view_changes ++ from ∷ [])) (n / 2)
    more))

-- A sender that is noted as the f-th.
pub noted_declared : {P : Type 0} (n i from : ℕ) (r : State P) (noted : List ℕ) (before : List (Send P))
    (made : Outcome P) → list_any (λ j. j == from) r.start_view_changes ≡ false →
    noted ≡ r.start_view_changes ++ from ∷ [] → length r.start_view_changes + 1 ≡ n / 2 → made ≡ after_sends before
    (declare n i (record r { start_view_changes = noted })) → made ≡ after_sends before (note_start n i r from)
noted_declared {P} n i from r noted before made fresh hn e hm =
    let more : length (r.start_view_changes ++ from ∷ []) ≡ n / 2 = length-append r.start_view_changes (from ∷ [])
    ∙ e in
    hm ∙ ap (λ l. after_sends before (declare n i (record r { start_view_changes = l }))) hn
    ∙ sym (noted_new n i from r before true fresh (eq-eqb (length (r.start_view_changes ++ from ∷ [])) (n / 2) more))

-- A STARTVIEWCHANGE that isn't of a later view.
pub start_in_view : {P : Type 0} (n i from v : ℕ) (r : State P) → is_recovering r.status ≡ false → v ≤ r.view_number →
    cond (is_changing_in r v) (note_start n i r from) (idle r) ≡ on_start_view_change n i r from v
start_in_view {P} n i from v r up le = sym (go (nat_lt r.view_number v) (le-ltb r.view_number v le)
    (is_recovering r.status) up)
  where
    go : (b : Bool) → b ≡ false → (a : Bool) → a ≡ false →
        cond a (idle r) (after_sends (cond b (to_all n i (StartViewChange v)) [])
        (cond (is_changing_in (cond b (enter n v r) r) v) (note_start n i (cond b (enter n v r) r) from)
        (idle (cond b (enter n v r) r)))) ≡ cond (is_changing_in r v) (note_start n i r from) (idle r)
    go b hb a ha =
        ap₂ (λ s t. cond s (idle r) (after_sends (cond t (to_all n i (StartViewChange v)) [])
        (cond (is_changing_in (cond t (enter n v r) r) v) (note_start n i (cond t (enter n v r) r) from)
        (idle (cond t (enter n v r) r))))) ha hb

-- A STARTVIEWCHANGE of a later view.
pub start_entering : {P : Type 0} (n i from v : ℕ) (r : State P) → is_recovering r.status ≡ false →
    r.view_number < v → after_sends (to_all n i (StartViewChange v)) (note_start n i (enter n v r) from) ≡
    on_start_view_change n i r from v
start_entering {P} n i from v r up lt =
    sym (ap₂ (λ s t. cond s (idle r) (after_sends (cond t (to_all n i (StartViewChange v)) [])
    (cond (is_changing_in (cond t (enter n v r) r) v) (note_start n i (cond t (enter n v r) r) from)
    (idle (cond t (enter n v r) r))))) up (lt-ltb r.view_number v lt)
    ∙ ap (λ t. after_sends (to_all n i (StartViewChange v)) (cond t (note_start n i (enter n v r) from)
    (idle (enter n v r)))) (eq-eqb v v refl))

-- A test of two things is a test within a test.
both_tests : {A : Type 0} (a b : Bool) (x y : A) → cond (a && b) x y ≡ cond a (cond b x y) y
both_tests true b x y = refl
both_tests false b x y = refl

-- A DOVIEWCHANGE that isn't of a later view.
pub do_in_view : {P : Type 0} (n i from v : ℕ) (c : Change P) (r : State P) → is_recovering r.status ≡ false →
    v ≤ r.view_number → cond (is_changing_in r v) (note_change_in n i r from v c) (idle r) ≡ on_do_view_change n i r
    from v c
do_in_view {P} n i from v d r up le =
    sym (ap₂ (λ s t. cond s (idle r) (after_sends (cond t (to_all n i (StartViewChange v)) [])
    (cond (is_changing_in (cond t (enter n v r) r) v && primary n v == i)
    (try_begin n i (note_change from d (cond t (enter n v r) r))) (idle (cond t (enter n v r) r))))) up
    (le-ltb r.view_number v le)
    ∙ both_tests (is_changing_in r v) (primary n v == i) (try_begin n i (note_change from d r)) (idle r))

-- A DOVIEWCHANGE of a later view.
pub do_entering : {P : Type 0} (n i from v : ℕ) (c : Change P) (r : State P) → is_recovering r.status ≡ false →
    r.view_number < v → after_sends (to_all n i (StartViewChange v)) (note_change_in n i (enter n v r) from v c) ≡
    on_do_view_change n i r from v c
do_entering {P} n i from v d r up lt =
    sym (ap₂ (λ s t. cond s (idle r) (after_sends (cond t (to_all n i (StartViewChange v)) [])
    (cond (is_changing_in (cond t (enter n v r) r) v && primary n v == i)
    (try_begin n i (note_change from d (cond t (enter n v r) r))) (idle (cond t (enter n v r) r))))) up
    (lt-ltb r.view_number v lt)
    ∙ ap (λ t. after_sends (to_all n i (StartViewChange v))
    (cond (t && primary n v == i) (try_begin n i (note_change from d (enter n v r))) (idle (enter n v r))))
    (eq-eqb v v refl))

-- A DOVIEWCHANGE at the primary of its view.
pub at_primary : {P : Type 0} (n i from v : ℕ) (c : Change P) (r : State P) (before : List (Send P)) → primary n v ≡
    i → after_sends before (try_begin n i (note_change from c r)) ≡ after_sends before (note_change_in n i r from v c)
at_primary n i from v d r before e =
    sym (ap (λ t. after_sends before (cond t (try_begin n i (note_change from d r)) (idle r)))
    (eq-eqb (primary n v) i e))

-- A DOVIEWCHANGE at another replica.
pub at_another : {P : Type 0} (n i from v : ℕ) (c : Change P) (r : State P) (before sends : List (Send P))
    (replies : List Reply) → primary n v ≢ i → sends ≡ before → replies ≡ [] →
    ◌≡◌ {A = Outcome P} (record { state = r; sends = sends; replies = replies })
    (after_sends before (note_change_in n i r from v c))
at_another n i from v d r before sends replies ne hs hr =
    only_before r before sends replies hs hr
    ∙ sym (ap (λ t. after_sends before (cond t (try_begin n i (note_change from d r)) (idle r)))
    (ne_eqb (primary n v) i ne))

-- A DOVIEWCHANGE whose sender is noted already.
pub change_again : {P : Type 0} (n i from : ℕ) (c : Change P) (r : State P) (before : List (Send P))
    (xs : List (ℕ × Change P)) {made : Outcome P} → true ≡ is_noted xs from → xs ≡ r.do_view_changes →
    made ≡ after_sends before (try_begin n i r) → made ≡ after_sends before (try_begin n i (note_change from c r))
change_again n i from d r before xs is same e =
    e ∙ ap (λ t. after_sends before
    (try_begin n i (cond t r (record r { do_view_changes = r.do_view_changes ++ (from, d) ∷ [] }))))
    (is ∙ ap (λ l. is_noted l from) same)

-- A DOVIEWCHANGE that is noted.
pub change_noted : {P : Type 0} (n i from : ℕ) (c : Change P) (r : State P) (noted : List (ℕ × Change P))
    (before : List (Send P)) (xs : List (ℕ × Change P)) {made : Outcome P} → false ≡ is_noted xs from →
    xs ≡ r.do_view_changes → noted ≡ r.do_view_changes ++ (from, c) ∷ [] → made ≡ after_sends before
    (try_begin n i (record r { do_view_changes = noted })) → made ≡ after_sends before
    (try_begin n i (note_change from c r))
change_noted n i from d r noted before xs isn't same hn e =
    e ∙ ap (λ l. after_sends before (try_begin n i (record r { do_view_changes = l }))) hn
    ∙ ap (λ t. after_sends before
    (try_begin n i (cond t r (record r { do_view_changes = r.do_view_changes ++ (from, d) ∷ [] })))) (isn't
    ∙ ap (λ l. is_noted l from) same)

-- With too few DOVIEWCHANGEs no view begins.
pub not_begun : {P : Type 0} (n i : ℕ) (r : State P) (before sends : List (Send P)) (replies : List Reply) →
    false ≡ (is_noted r.do_view_changes i && nat_lt (n / 2) (count (is_noted r.do_view_changes) (indices n))) →
    sends ≡ before → replies ≡ [] → ◌≡◌ {A = Outcome P} (record { state = r; sends = sends; replies = replies })
    (after_sends before (try_begin n i r))
not_begun n i r before sends replies few hs hr =
    only_before r before sends replies hs hr
    ∙ ap (λ t. after_sends before (cond t (begin_view n i r (best r.do_view_changes (indices n))) (idle r))) few

-- With enough it begins with the best of them.
pub begun : {P : Type 0} (n i : ℕ) (r : State P) (o : Option (Change P)) (before : List (Send P)) →
    true ≡ (is_noted r.do_view_changes i && nat_lt (n / 2) (count (is_noted r.do_view_changes) (indices n))) →
    o ≡ best r.do_view_changes (indices n) → after_sends before (begin_view n i r o) ≡ after_sends before
    (try_begin n i r)
begun n i r o before many chosen =
    ap₂ (λ t x. after_sends before (cond t (begin_view n i r x) (idle r))) many chosen

-- one of two things, by what isn't so
unless : {A : Type 0} (b : Bool) (x y : A) → not b ≡ false → cond b x y ≡ x
unless true x y e = refl
unless false x y e = ap (λ t. cond t y x) e

-- the other one
when_not : {A : Type 0} (b : Bool) (x y : A) → not b ≡ true → cond b x y ≡ y
when_not true x y e = ap (λ t. cond t y x) e
when_not false x y e = refl

-- A replica that may not suspect stays as it is.
pub unsuspecting : {P : Type 0} (n i : ℕ) (r : State P) (sends : List (Send P)) (replies : List Reply) →
    not (is_recovering r.status || nat_le greatest_view r.view_number) ≡ false → sends ≡ [] → replies ≡ [] →
    ◌≡◌ {A = Outcome P} (record { state = r; sends = sends; replies = replies }) (on_suspect n i r)
unsuspecting {P} n i r sends replies not_so hs hr =
    let made : ◌≡◌ {A = Outcome P} (record { state = r; sends = sends; replies = replies }) (idle r) = λ j.
    record { state = r; sends = hs j; replies = hr j } in
    made ∙ sym (unless (is_recovering r.status || nat_le greatest_view r.view_number) (idle r)
    (sending (enter n (r.view_number + 1) r) (to_all n i (StartViewChange (r.view_number + 1)))) not_so)

-- One that may enters the next view, and says so.
pub suspecting : {P : Type 0} (n i : ℕ) (r s : State P) (sends : List (Send P)) (replies : List Reply) →
    not (is_recovering r.status || nat_le greatest_view r.view_number) ≡ true → s ≡ enter n (r.view_number + 1) r →
    sends ≡ to_all n i (StartViewChange (r.view_number + 1)) → replies ≡ [] →
    ◌≡◌ {A = Outcome P} (record { state = s; sends = sends; replies = replies }) (on_suspect n i r)
suspecting {P} n i r s sends replies so hr hs none =
    let made : ◌≡◌ {A = Outcome P} (record { state = s; sends = sends; replies = replies })
    (sending (enter n (r.view_number + 1) r) (to_all n i (StartViewChange (r.view_number + 1)))) = λ j.
    record { state = hr j; sends = hs j; replies = none j } in
    made ∙ sym (when_not (is_recovering r.status || nat_le greatest_view r.view_number) (idle r)
    (sending (enter n (r.view_number + 1) r) (to_all n i (StartViewChange (r.view_number + 1)))) so)

-- The beat of a replica that changes.
pub beaten : {P : Type 0} (n i : ℕ) (r : State P) (told again sends : List (Send P)) (replies : List Reply) →
    told ≡ to_all n i (StartViewChange r.view_number) → again ≡ cond (nat_le (n / 2) (length r.start_view_changes))
    (send_change n i r) [] → sends ≡ told ++ again → replies ≡ [] →
    ◌≡◌ {A = Outcome P} (record { state = r; sends = sends; replies = replies }) (beat_changing n i r)
beaten n i r told again sends replies ht ha hs hr =
    let e = hs ∙ ap₂ (λ x y. x ++ y) ht ha in
    λ j. record { state = r; sends = e j; replies = hr j }
