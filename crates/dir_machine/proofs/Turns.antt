-- A schedule that goes on by one event.
use Rattle.std.proofs.Common.{◌≡◌, ℕ, Bool, List, [], ◌∷◌, ◌++◌, sym, ap, ◌∙◌, subst, append_assoc, append-nil}
use Rattle.state_machine.specs.dir_store.ldap_dn.Names.{RdnModel}
use Rattle.state_machine.specs.dir_store.ldap_op.Values.{OpValue}
use Rattle.state_machine.specs.dir_store.ldap_schema.Schema.{SchemaModel}
use Rattle.vr_world.proofs.Laws.{run-append}
use Rattle.vr_world.specs.World.{World, run}
use Rattle.vr_world.specs.declared.events.WorldEvent.{WorldEvent}
use Rattle.dir_machine.specs.Happening.{HappenInTurn, MayHappen}
use Rattle.dir_machine.specs.Headline.{joined}
use Rattle.dir_machine.specs.declared.events.MachineEvent.{MachineEvent}
use Rattle.dir_machine.specs.declared.replies.MachineReply.{MachineReply}

-- one list more
pub joined_more : {A : Type 0} (xs : List (List A)) (h : List A) → joined (xs ++ h ∷ []) ≡ joined xs ++ h
joined_more [] h = append-nil h
joined_more (x ∷ xs) h = ap (λ l. x ++ l) (joined_more xs h) ∙ sym (append_assoc x (joined xs) h)

module _ (s : SchemaModel) (root : List RdnModel) (cluster n : ℕ) (journaled : Bool) where
  -- One event more.
  pub in_turn_more : (before : List MachineReply) (es : List MachineEvent) (xs : List MachineReply)
      (hs : List (List (WorldEvent OpValue))) (w : World OpValue)
      (e : MachineEvent) (x : MachineReply) (h : List (WorldEvent OpValue)) → HappenInTurn s root cluster n journaled
      before
      es xs hs w
      → MayHappen s root cluster n journaled (before ++ xs) e x h (run n (joined hs) w) →
      HappenInTurn s root cluster n journaled
      before (es ++ e ∷ []) (xs ++ x ∷ []) (hs ++ h ∷ []) w
  in_turn_more before [] [] [] w e x h all one =
      (subst (λ (b : List MachineReply). MayHappen s root cluster n journaled b e x h w) (append-nil before) one, tt)
  in_turn_more before (f ∷ es) (y ∷ xs) (g ∷ hs) w e x h all one = (
    all.0,
    in_turn_more (before ++ y ∷ []) es xs hs (run n g w) e x h all.1
        (subst (λ (u : World OpValue). MayHappen s root cluster n journaled ((before ++ y ∷ []) ++ xs) e x h u)
        (run-append n g (joined hs) w)
        (subst (λ (b : List MachineReply). MayHappen s root cluster n journaled b e x h (run n (joined (g ∷ hs)) w))
        (sym (append_assoc before (y ∷ []) xs)) one)),
  )
  in_turn_more before [] [] (g ∷ hs) w e x h all one = absurd all
  in_turn_more before [] (y ∷ xs) hs w e x h all one = absurd all
  in_turn_more before (f ∷ es) [] hs w e x h all one = absurd all
  in_turn_more before (f ∷ es) (y ∷ xs) [] w e x h all one = absurd all
