use Rattle.std.proofs.Common.{◌≡◌, ℕ, not, nat_eq}
use Rattle.std.specs.Prelude.{◌||◌, ◌&&◌}
use Rattle.dir_index.specs.declared.posting.Posting.{Posting}
use Rattle.dir_index.specs.ListKeys.{key_of}
use Rattle.dir_index.specs.private.Marked.{has_posting}
use Rattle.dir_index.specs.private.Stored.{is_in, AllRise}
use Rattle.dir_index.proofs.lists.enlisted_in.Given as goal

abbrev pub invariant-loop-key : goal.invariant-loop-key
invariant-loop-key l =
    record {
      has : (p : Posting) (n : ℕ) →
          ((nat_eq n l.number && (has_posting l.key-iterator p && not (has_posting l.others.keys p))) || is_in l.now
          (key_of p) n) ≡ ((nat_eq n l.number && (has_posting l.marks.keys p && not (has_posting l.others.keys p))) ||
          is_in l.fn.lists (key_of p) n);
      rising : AllRise l.fn.lists → AllRise l.now;
    }
