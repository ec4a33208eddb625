-- What is committed after a schedule is one list.
use Rattle.std.proofs.Common.{◌≡◌, ℕ, ◌⊎◌, inl, inr, List, [], ◌∷◌, ap}
use Rattle.state_machine.specs.dir_store.ldap_op.Values.{OpValue}
use Rattle.vr_state.specs.Lists.{In}
use Rattle.vr_world.specs.Law.{IsSize}
use Rattle.vr_world.proofs.Laws.{chosen_lists_agree, committed_is_longest, committed_was_asked, replicas_agree, commits_are_held, numbers_rise}
use Rattle.vr_world.specs.declared.events.WorldEvent.{WorldEvent}
use Rattle.dir_lab.specs.Headline.{CommittedIsOne}
use Rattle.dir_lab.specs.Schedule.{happenings}
use Rattle.dir_lab.specs.declared.events.LabEvent.{LabEvent}
use Rattle.dir_lab.specs.declared.events.LabEvent.TheVariants.{Happens, Search, State as Question}
use Rattle.dir_lab.proofs.Searches.{committed_on}

-- what happens at a schedule is one of its events
scheduled : (x : WorldEvent OpValue) (es : List LabEvent) → In x (happenings es) → In (Happens x) es
scheduled x [] h = h
scheduled x (Happens y ∷ es) (inl e) = inl (ap Happens e)
scheduled x (Happens y ∷ es) (inr h) = inr (scheduled x es h)
scheduled x (Search i named q ∷ es) h = inr (scheduled x es h)
scheduled x (Question i ∷ es) h = inr (scheduled x es h)

-- It is one list.
pub committed_is_one : (n : ℕ) (es : List LabEvent) → IsSize n → CommittedIsOne n es
committed_is_one n es size = record {
  agree = λ a b x y. chosen_lists_agree n size (happenings es) a b x y;
  longest = λ a x. (committed_is_longest n size (happenings es)).0 a x;
  chosen = (committed_is_longest n size (happenings es)).1;
  grows = λ more. committed_on n size es more;
  replicas = λ i r up. replicas_agree n size (happenings es) i r up;
  held = λ i r up. commits_are_held n size (happenings es) i r up;
  rising = numbers_rise n size (happenings es);
  asked = λ e h. let a = committed_was_asked n size (happenings es) e h in record {
    replica = a.replica;
    there = a.there;
    asked = scheduled _ es a.asked;
  };
}
