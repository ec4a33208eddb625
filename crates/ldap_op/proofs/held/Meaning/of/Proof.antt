-- `of` makes a value of no bytes, at the value of its argument.
use mathlib.Core.Path.{refl}
use mathlib.Core.List.{[], ◌∷◌}
use seplogic.Ra.Ura.{Ura}
use mir.Syntax.{named}
use mir.Val.{Val, vptr, vstruct, vcons, vnil}
use base.Logic.{SProp}
use prog.Memory.{Memory}
use prog.Routine.{Routine}
use prog.Wp.{WpFn, Tables}
use types.Logic.{Logic}
use contract.Monad.{Fun}
use contract.Running.{tables, tables_of}
use sound.WpLaws.{WpFn-mono}
use types.Kit.{‵, raw, ◌⊛◌, ◌$◌, ◌∵◌, !, qed, keep, move, split, fjoin, suffices, done}
use types.Run.{no_more, and_then, returns, enter}
use types.Part.{agg}
use types.ByLocal.{alloc_all, pass_all, free_all, look_at, get, sets}
use denote.Builtin.{RefOf}
use denote.Exit.{yes}
use denote.RattleType.{owns}
use denote.Ref.{shr_vals, shr_Tells}
use denote.Shadow.{pure_i}
use denote.Signature.{types_at, plain}
use denote.Steps.{nothing}
use denote.Triple.Entry.{alive}
use denote.Triple.Spec.{Meets, triple_of}
use denote.Triple.Table.{entered}
use denote.Triple.Walked.{says, Stays, stay_dropped, Goes-dropped, ends_at, walked, walk_Meets}
use Rattle.ldap_op.specs.View.{update_view}
use Rattle.ldap_op.specs.contracts.update.Update as Update
use Rattle.ldap_op.specs.declared.held.Meaning.{Meaning}
use Rattle.ldap_op.specs.contracts.held.Meaning as T
use Rattle.ldap_op.specs.contracts.held.Meaning.of.Key.{name as #it}
use Rattle.ldap_op.specs.contracts.held.Meaning.of as it
use Rattle.ldap_op.proofs.held.Meaning.of.Statement as stated
use Rattle.ldap_op.proofs.held.Meaning.of.Code as code

abbrev stayed : Stays (it.ended).signature.params (it.ended).kept
stayed = (stay_dropped (RefOf (0 ∷ []) tt (plain (λ _. Update.the_row)) (λ _. tt)) yes, tt)

abbrev v : Val
v = vstruct (vcons (vstruct vnil) vnil)

meets : {M : Type 1} {𝓤 : Ura M} (𝓛 : Logic 𝓤) → (at_mem : Memory → SProp 𝓤) (run : Routine → Fun 𝓤) (𝓣 : Tables 𝓤 𝓛.H)
    → Meets 𝓛 it.signature (WpFn 𝓤 𝓛.H 𝓣.C 𝓣.Λ code.function) (it.spec 𝓛 at_mem run)
meets {𝓤 = 𝓤} 𝓛 at_mem run 𝓣 =
    walk_Meets 𝓛 it.ended stayed (
      Goes-dropped 𝓛 1 (RefOf (0 ∷ []) tt (plain (λ _. Update.the_row))
          (λ _. tt)) yes (λ κs x f. refl),
      tt,
    )
    (it.clauses 𝓛 at_mem run) (WpFn 𝓤 𝓛.H 𝓣.C 𝓣.Λ code.function) (WpFn-mono 𝓤 𝓛.H 𝓛.laws 𝓣 code.function)
    (walked 𝓛 it.ended stayed (it.clauses 𝓛 at_mem run) (WpFn 𝓤 𝓛.H 𝓣.C 𝓣.Λ code.function) (λ κs. (shr_vals, tt))
    (λ κs. (shr_Tells (named 0) κs.0 Update.the_row, tt)) (λ κs qs bounds a g are.
    let p : Val = vptr a.0.ref_ptr.0 a.0.ref_ptr.1 in
    let r : Meaning = record { marker = record {}; update = update_view a.0.now } in
    qed 𝓛 ((raw (alive 𝓛 it.signature κs qs) ⊛ ‵ (owns (types_at it.signature.params κs) a (p ∷ [], tt))) ∷ raw
    ((it.clauses 𝓛 at_mem run κs a).requires g) ∷ []) ∵ split ! $ keep ! (0 ∷ []) $
    enter ! 𝓣.C 𝓣.Λ code.function (p ∷ []) _ $ alloc_all ! (λ l. pass_all ! refl ((tt, tt), tt) $
    sets ! (agg ! (no_more !)) refl (tt, tt) $ sets ! (agg ! (and_then ! (get ! refl) (no_more !))) refl
    (tt, (tt, tt)) $
    returns ! (look_at ! 0 refl) $ free_all ! refl $
    pure_i ! ((T.the_row).own_val r (v ∷ [])) ((λ vss. (tt, ((λ uss. (tt, tt)), tt))), tt)
    (((vstruct vnil ∷ [], tt), (refl, ((tt, (refl, tt)), tt))), tt) $
    suffices ! _ (ends_at 𝓛 it.ended stayed (it.clauses 𝓛 at_mem run) ((κs, qs, bounds, a, (p ∷ [], tt)), g) v r
    (tt, tt) (tt, tt)) $ says ! refl $
    nothing ! $ nothing ! $ fjoin ! $ move ! (2 ∷ 0 ∷ 1 ∷ []) $ done !)))

pub of_spec : {M : Type 1} → stated.statement M
unfolding tables_of
of_spec 𝓤 𝓛 𝓜 𝓡 wired =
    entered 𝓤 𝓛.H (triple_of 𝓛 it.signature (it.spec 𝓛 𝓜.mem 𝓡.returns))
    (tables 𝓤 𝓛.H 𝓜 𝓡 𝓡.env).C (tables 𝓤 𝓛.H 𝓜 𝓡 𝓡.env).Λ #it code.function (code.unfolded 𝓤 𝓛.H 𝓜 𝓡 wired)
    (meets 𝓛 𝓜.mem 𝓡.returns (tables_of 𝓤 𝓛.H 𝓜 (tables 𝓤 𝓛.H 𝓜 𝓡 𝓡.env)))
