-- What a search shows once it ends: all, or up to the size limit.
use Rattle.std.proofs.Common.{◌≡◌, ◌<◌, ℕ, zero, suc, Bool, true, List, [], ◌∷◌, length, cond, Option, None, nat_lt, refl, sym, ap, ◌∙◌, arith}
use Rattle.std.specs.Prelude.{filter, nat_le}
use Rattle.std.specs.List.{slice_get}
use Rattle.std.proofs.lemmas.Bool.Decides.{nat_tests}
use Rattle.indexed_tree.specs.directory_api.ldap_msg.Messages.{SearchResultEntryValue}
use Rattle.indexed_tree.specs.dir_tree.Directory.{Entered}
use Rattle.indexed_tree.specs.Directory.{NamedEntry}
use Rattle.dir_search.specs.Counted.{first_past}
use Rattle.dir_search.specs.private.Looks.{up_to}
use Rattle.dir_search.specs.private.View.{ShowsFound}
use Rattle.indexed_tree.specs.directory_api.View.{answer_view}
use Rattle.indexed_tree.specs.directory_api.declared.search_answer.SearchAnswer.{SearchAnswer}
use Rattle.dir_search.proofs.Limits.{SoFar, stops, stops_at, ends, ends_before}

-- a limit that is set ends a search at its place; a search that finds no more ends nowhere before
past_some : (limit : ℕ) (all : List ℕ) → 0 < limit → first_past limit all ≡ slice_get all limit
past_some limit all pos =
    let set : nat_lt 0 limit ≡ true = grind (arith, nat_tests) in
    ap (λ (b : Bool). cond b (slice_get all limit) None) set

past_none : (limit : ℕ) (all : List ℕ) → (0 < limit → slice_get all limit ≡ None) → first_past limit all ≡ None
past_none zero all h = refl
past_none (suc n) all h = past_some (suc n) all (omega arith) ∙ h (omega arith)

module _ (a : SearchAnswer) (show : NamedEntry → SearchResultEntryValue) (limit : ℕ) (d : List Entered) (all : List ℕ)
    (shown : List SearchResultEntryValue) (tests : ℕ) (open_numbers still_open : List ℕ) where
  -- one entry past the limit was found
  pub cut_short : (n : ℕ) (left : List ℕ) → SoFar show d limit all (n ∷ left) shown → 0 < limit → length shown ≡
      limit → answer_view a ≡ record { code = 4; matched = []; entries = shown }
      → a.tests ≡ tests → still_open ≡ open_numbers → tests ≡ length (filter (λ x. nat_le x n) still_open) →
      ShowsFound a show limit d all open_numbers
  cut_short n left so_far pos size is told same asked = record {
    shown = is ∙ sym (stops show d limit all left shown n so_far pos size);
    counted =
        told ∙ asked ∙ ap (λ (l : List ℕ). length (filter (λ x. nat_le x n) l)) same
        ∙ ap (λ (o : Option ℕ). length (up_to o open_numbers))
        (sym (past_some limit all pos ∙ stops_at show d limit all left shown n so_far size));
  }

  -- all that was found is shown
  pub all_shown : SoFar show d limit all [] shown → answer_view a ≡ record { code = 0; matched = []; entries = shown }
      → a.tests ≡ tests → still_open ≡ open_numbers → tests ≡ length still_open → ShowsFound a show limit d all
      open_numbers
  all_shown so_far is told same asked = record {
    shown = is ∙ sym (ends show d limit all shown so_far);
    counted =
        told ∙ asked ∙ ap length same
        ∙ ap (λ (o : Option ℕ). length (up_to o open_numbers))
        (sym (past_none limit all (λ p. ends_before show d limit all shown so_far p)));
  }
