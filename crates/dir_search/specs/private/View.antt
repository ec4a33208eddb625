-- What an answer in memory stands for, and how many entries it tells of.
use Rattle.std.specs.Prelude.{◌≡◌, ℕ, ◌<◌, ◌≤◌, List, length, map, filter, nat_le, string_bytes, Some}
use Rattle.std.specs.List.{slice_get}
use Rattle.indexed_tree.specs.ldap_schema.Schema.{SchemaModel}
use Rattle.ldap_eval.specs.declared.bound.BoundFilter.{BoundFilter}
use Rattle.indexed_tree.specs.directory_api.ldap_msg.Messages.{SearchRequestValue, SearchResultEntryValue}
use Rattle.indexed_tree.specs.directory_api.ldap_msg.ldap_requests.declared.search.SearchRequest.{SearchRequest}
use Rattle.indexed_tree.specs.directory_api.Selection.{ShowsModel}
use Rattle.indexed_tree.specs.index_choice.declared.kinds.Kinds.{Kinds}
use Rattle.indexed_tree.specs.dir_tree.Directory.{Entered}
use Rattle.indexed_tree.specs.Directory.{NamedEntry}
use Rattle.indexed_tree.specs.Stored.{named}
use Rattle.indexed_tree.specs.directory_api.Answers.{Answer}
use Rattle.indexed_tree.specs.directory_api.View.{answer_view}
use Rattle.dir_search.specs.Answer.{limited}
use Rattle.dir_search.specs.Counted.{first_past}
use Rattle.dir_search.specs.private.Looks.{true_numbers, up_to, IsFew, IsCountAmong}
use Rattle.dir_search.specs.private.Numbered.{entries_of, found_of}
use Rattle.indexed_tree.specs.directory_api.declared.search_answer.SearchAnswer.{SearchAnswer}

-- the selectors of a request in memory
abbrev pub selectors_of : SearchRequest → List (List ℕ)
selectors_of q = map string_bytes q.attributes.items

-- what a request in memory has shown of each entry
abbrev pub shows_of : SchemaModel → SearchRequest → ShowsModel
shows_of s q = record { schema = s; selectors = selectors_of q; types_only = q.types_only }

-- An answer in memory stands for this one, and tells of no more evaluations of the filter than so many.
pub record Finds (a : SearchAnswer) (x : Answer) (most : ℕ) : Type 0 where
  pub shown : answer_view a ≡ x
  pub tests : a.tests ≤ most

-- An answer in memory shows the entries of the numbers that were found, up to a limit. It tells of as many evaluations
-- as there were numbers left open; where there are more entries than the limit, up to the first past it.
pub record ShowsFound (a : SearchAnswer) (show : NamedEntry → SearchResultEntryValue) (limit : ℕ) (d : List Entered)
    (found left_open : List ℕ) : Type 0 where
  pub shown : answer_view a ≡ limited limit (map show (map named (entries_of found d)))
  pub counted : a.tests ≡ length (up_to (first_past limit found) left_open)

-- An answer in memory is what a search finds among the entries of these numbers. It evaluated the filter on few of
-- them; where there are more entries than the size limit, on few of those up to the first past it; and it tells on how
-- many.
pub record FindsAmong (a : SearchAnswer) (s : SchemaModel) (q : SearchRequestValue) (ix : List Kinds)
    (b : BoundFilter) (d : List Entered) (ks : List ℕ)
    : Type 0 where
  pub shown : answer_view a ≡ found_of s q ks d
  pub few : IsFew ix b d ks a.tests
  pub few_up_to : (m : ℕ) → 0 < q.size_limit → slice_get (true_numbers b d ks) q.size_limit ≡ Some m
      → IsFew ix b d (filter (λ n. nat_le n m) ks) a.tests
  pub counted : IsCountAmong ix b d ks q.size_limit a.tests
