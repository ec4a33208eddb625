-- What search doesn't prove of `mark`: what it returns, by lemmas of `Marking`.
use Rattle.std.proofs.Common.{ℕ, List, ap₂, ◌∙◌}
use Rattle.std.specs.Prelude.{◌||◌}
use Rattle.dir_index.specs.ListKeys.{key_of, is_same_list}
use Rattle.dir_index.specs.private.Marked.{has_posting}
use Rattle.dir_index.proofs.Marking.{marked_more}
use Rattle.dir_index.proofs.marks.mark.Goals as goal

pub returns : goal.returns
returns c = λ p.
    marked_more c.args.marks.now.keys c.insert.new.self.keys (record {
      type_id = c.in_ok-number.number;
      rank =
          c.args.rank;
      octets = c.in_ok-octets.octets;
    }) c.in_ok-insert.ensures.updates.0 (key_of p)
    ∙ ap₂ (λ (n : ℕ) (o : List ℕ). is_same_list (record { type_id = n; rank = c.args.rank; octets = o }) (key_of p) ||
    has_posting c.args.marks.now.keys p) c.in_ok-number.ensures c.in_ok-octets.ensures
