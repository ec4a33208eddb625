-- A whole schedule.
use Rattle.std.proofs.lemmas.List.{map-append}
use Rattle.std.proofs.Common.{◌≡◌, ℕ, Bool, true, cond, map, List, [], ◌∷◌, ◌++◌, refl, sym, ap, ap₂, ◌∙◌, subst, append_assoc, append-nil}
use Rattle.vr_state.specs.Words.{LogEntry}
use Rattle.vr_world.specs.Law.{IsSize}
use Rattle.vr_world.specs.World.{World, run, after, happens}
use Rattle.vr_world.specs.declared.events.WorldEvent.{WorldEvent}
use Rattle.vr_world.proofs.Laws.{run-append}
use Rattle.state_machine.specs.dir_store.ldap_schema.Schema.{SchemaModel}
use Rattle.state_machine.specs.dir_store.ldap_dn.Names.{RdnModel}
use Rattle.state_machine.specs.dir_store.ldap_op.Values.{OpValue}
use Rattle.dir_lab.specs.private.Executions.{all_caught_up, played_from, played}
use Rattle.dir_lab.specs.Schedule.{happening, happenings, executions, shown_at, shown_from, shown_by}
use Rattle.dir_lab.specs.Shown.{Shown, shown_view}
use Rattle.dir_lab.specs.declared.events.LabReply.{LabReply}
use Rattle.dir_lab.specs.declared.events.LabEvent.{LabEvent}
use Rattle.dir_lab.specs.declared.events.LabEvent.TheVariants.{Happens, Search, State as Question}
use Rattle.dir_lab.proofs.Steps.{kept_on, kept_first, one_more}

module _ (s : SchemaModel) (root : List RdnModel) (n : ℕ) (size : IsSize n) where
  -- from the world after some events on
  played_is : (past : List (WorldEvent OpValue)) (es : List LabEvent) (records : ℕ → List (LogEntry OpValue)) →
      records ≡ executions (after n past)
      → played_from s root n es (after n past) records ≡ shown_from s root n es (after n past)
  played_is past [] records h = refl
  played_is past (Happens e ∷ es) records h =
      ap₂ (λ x y. x ++ y)
      (ap (λ r. shown_at s root n r (after n past) (happens n (after n past) e) (Happens e)) next)
      (subst (λ (w : World OpValue). played_from s root n es w (all_caught_up records (happens n (after n past) e)) ≡
      shown_from s root n es w) (one_more n past e)
      (played_is (past ++ e ∷ []) es (all_caught_up records (happens n (after n past) e)) (next
      ∙ ap executions (sym (one_more n past e)))))
    where
      next : all_caught_up records (happens n (after n past) e) ≡ executions (happens n (after n past) e)
      next = ap (λ r. all_caught_up r (happens n (after n past) e)) h ∙ kept_on n size past e
  played_is past (Search i named q ∷ es) records h =
      ap₂ (λ x y. x ++ y) (ap (λ r. shown_at s root n r (after n past) (after n past) (Search i named q)) h)
      (played_is past es records h)
  played_is past (Question i ∷ es) records h =
      ap₂ (λ x y. x ++ y) (ap (λ r. shown_at s root n r (after n past) (after n past) (Question i)) h)
      (played_is past es records h)

  -- What a lab shows is what the definition has.
  pub played_by : (es : List LabEvent) → played s root n es ≡ shown_by s root n es
  played_by es = played_is [] es (λ i. []) (kept_first n)

-- What happens at a schedule in two parts.
pub happenings-append : (es more : List LabEvent) → happenings (es ++ more) ≡ happenings es ++ happenings more
happenings-append [] more = refl
happenings-append (e ∷ es) more = ap (λ l. happening e ++ l) (happenings-append es more)
    ∙ sym (append_assoc (happening e) (happenings es) (happenings more))

-- What is shown of one.
pub shown-append : (s : SchemaModel) (root : List RdnModel) (n : ℕ) (es more : List LabEvent) (w : World OpValue)
    → shown_from s root n (es ++ more) w ≡ shown_from s root n es w ++ shown_from s root n more
    (run n (happenings es) w)
shown-append s root n [] more w = refl
shown-append s root n (e ∷ es) more w =
    ap (λ l. here ++ l) (shown-append s root n es more (run n (happening e) w)
    ∙ ap (λ v. shown_from s root n es (run n (happening e) w) ++ shown_from s root n more v)
    (sym (run-append n (happening e) (happenings es) w)))
    ∙ sym (append_assoc here (shown_from s root n es (run n (happening e) w))
    (shown_from s root n more (run n (happening e ++ happenings es) w)))
  where
    here : List Shown
    here = shown_at s root n (executions (run n (happening e) w)) w (run n (happening e) w) e

-- At the end all is shown.
pub shown_all : (s : SchemaModel) (root : List RdnModel) (n : ℕ) (rest : List LabEvent) (w : World OpValue)
    (records : ℕ → List (LogEntry OpValue)) (xs all : List Shown)
    → xs ++ played_from s root n rest w records ≡ all → rest ≡ [] → xs ≡ all
shown_all s root n rest w records xs all h none = sym (append-nil xs)
    ∙ ap (λ (l : List LabEvent). xs ++ played_from s root n l w records) (sym none) ∙ h

-- One thing that is shown, where its test holds.
pub shown_one : (xs ys : List LabReply) (x : LabReply) (one : Shown) (b : Bool) → ys ≡ xs ++ x ∷ [] → shown_view x ≡
    one → b ≡ true → map shown_view ys ≡ map shown_view xs ++ cond b (one ∷ []) []
shown_one xs ys x one b pushed is holds =
    ap (map shown_view) pushed ∙ map-append shown_view xs (x ∷ []) ∙ ap (λ (y : Shown). map shown_view xs ++ y ∷ [])
    is ∙ ap (λ (t : Bool). map shown_view xs ++ cond t (one ∷ []) []) (sym holds)
