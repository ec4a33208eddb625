-- What search doesn't prove of `without`: the clause `values` and the clause `keys`.
use Rattle.std.proofs.Common.{ℕ, List, Bor, ◌≡◌, not, map, ap, ◌∙◌}
use Rattle.std.specs.List.{list_any}
use Rattle.std.specs.Str.{bytes_eq}
use Rattle.dir_entry.specs.Picked.{picked}
use Rattle.entry_changes.specs.Opening.{octets_by}
use Rattle.entry_changes.proofs.searched.without.Goals as goal

-- the values whose octets are none of the given ones, where these are given as others
given_as : (os vs left given others : List (List ℕ)) → left ≡ picked (map (λ x. not (list_any (bytes_eq x) given)) os) vs
    → given ≡ others → left ≡ picked (map (λ x. not (list_any (bytes_eq x) others)) os) vs
given_as os vs left given others h e = h ∙ ap (λ (gs : List (List ℕ)). picked (map (λ x. not (list_any (bytes_eq x)
    gs)) os) vs) e

pub returns-clause-values : goal.returns-clause-values
returns-clause-values c =
    given_as (octets_by c.args.by_keys c.args.attribute) c.args.attribute.values c.in_ok-left.left.values
    (map (λ (o : Bor (List ℕ)). o.now) c.as_slice.result.now) (octets_by c.args.by_keys c.args.given.now)
    c.in_ok-left.ensures.values (ap (map (λ (o : Bor (List ℕ)). o.now)) c.as_slice.ensures.value
    ∙ c.in_ok-octets.ensures)

pub returns-clause-keys : goal.returns-clause-keys
returns-clause-keys c =
    given_as (octets_by c.args.by_keys c.args.attribute) c.args.attribute.keys c.in_ok-left.left.keys
    (map (λ (o : Bor (List ℕ)). o.now) c.as_slice.result.now) (octets_by c.args.by_keys c.args.given.now)
    c.in_ok-left.ensures.keys (ap (map (λ (o : Bor (List ℕ)). o.now)) c.as_slice.ensures.value
    ∙ c.in_ok-octets.ensures)
