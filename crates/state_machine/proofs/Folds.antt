-- One more record, or some: the directory and the replies go on as those of the records with them.
use Rattle.std.proofs.Common.{◌≡◌, ℕ, suc, ◌+◌, List, [], ◌∷◌, ◌++◌, length, Result, Ok, Err, refl, sym, ap, ◌∙◌, subst, arith}
use Rattle.std.proofs.lemmas.List.{map-append, length-append}
use Rattle.dir_store.specs.directory_api.log_entry.declared.words.LogEntry.{LogEntry}
use Rattle.dir_store.specs.ldap_schema.Schema.{SchemaModel}
use Rattle.dir_store.specs.ldap_dn.Names.{RdnModel}
use Rattle.dir_store.specs.ldap_op.Values.{OpValue}
use Rattle.dir_store.specs.indexed_tree.Directory.{Directory, NamedEntry}
use Rattle.dir_store.specs.directory_api.Answers.{ReplyModel}
use Rattle.dir_store.specs.indexed_tree.Stored.{NumbersBelow}
use Rattle.dir_store.specs.Updates.{updated, with_entries, applied, reply_to, directory_after, replies_after, empty_directory}
use Rattle.dir_store.specs.directory_api.View.{reply_view}
use Rattle.dir_store.specs.directory_api.declared.reply.Reply.{Reply}
use Rattle.dir_store.proofs.Joins.{after_join, replies_join}
use Rattle.state_machine.specs.Executing.{ops_of}
use Rattle.state_machine.specs.private.Executing.{IsFold, IsRun, replies_view}

-- an update leaves the schema and the suffix
with_schema : (d : Directory) (r : Result (List NamedEntry) ReplyModel) → (with_entries d r).schema ≡ d.schema
with_schema d (Err reply) = refl
with_schema d (Ok entries) = refl

with_suffix : (d : Directory) (r : Result (List NamedEntry) ReplyModel) → (with_entries d r).suffix ≡ d.suffix
with_suffix d (Err reply) = refl
with_suffix d (Ok entries) = refl

pub same_schema : (d new : Directory) (n : ℕ) (op : OpValue) → new ≡ applied d n op → new.schema ≡ d.schema
same_schema d new n op e = ap (λ (x : Directory). x.schema) e ∙ with_schema d (updated d n op)

pub same_suffix : (d new : Directory) (n : ℕ) (op : OpValue) → new ≡ applied d n op → new.suffix ≡ d.suffix
same_suffix d new n op e = ap (λ (x : Directory). x.suffix) e ∙ with_suffix d (updated d n op)

none_plus : (m : ℕ) → m + 1 ≡ 0 + m + 1
none_plus m = omega arith

ops_length : (es : List (LogEntry OpValue)) → length (ops_of es) ≡ length es
ops_length [] = refl
ops_length (e ∷ es) = ap suc (ops_length es)

ops_more : (es : List (LogEntry OpValue)) (e : LogEntry OpValue) → ops_of (es ++ e ∷ []) ≡ ops_of es ++ e.payload ∷ []
ops_more [] e = refl
ops_more (x ∷ es) e = ap (λ (l : List OpValue). x.payload ∷ l) (ops_more es e)

length_more : (es : List (LogEntry OpValue)) (e : LogEntry OpValue) → length (es ++ e ∷ []) ≡ length es + 1
length_more [] e = refl
length_more (x ∷ es) e = omega (arith, length_more es e)

-- One more record.
pub fold_more : (s : SchemaModel) (suffix : List RdnModel) (es : List (LogEntry OpValue)) (e : LogEntry OpValue)
    (d new : Directory) (rs : List ReplyModel) (reply : ReplyModel) (n : ℕ)
    → IsFold s suffix es d rs → n ≡ length es + 1
    → new ≡ applied d n e.payload → reply ≡ reply_to d n e.payload → NumbersBelow (n + 1) new.entries
    → IsFold s suffix (es ++ e ∷ []) new (rs ++ reply ∷ [])
fold_more s suffix es e d new rs reply n fold number made replied below =
    let d0 : Directory = empty_directory s suffix in
    let at : n ≡ 0 + length (ops_of es) + 1 = number ∙ (ap (λ (k : ℕ). k + 1) (sym (ops_length es))
    ∙ none_plus (length (ops_of es))) in
    record {
      directory =
          made ∙ ap (λ (x : Directory). applied x n e.payload) fold.directory
          ∙ ap (λ (k : ℕ). applied (directory_after d0 0 (ops_of es)) k e.payload) at
          ∙ sym (after_join d0 0 (ops_of es) (e.payload ∷ []))
          ∙ ap (λ (l : List OpValue). directory_after d0 0 l) (sym (ops_more es e));
      replies_are =
          ap (λ (l : List ReplyModel). l ++ reply ∷ []) fold.replies_are
          ∙ ap (λ (r : ReplyModel). replies_after d0 0 (ops_of es) ++ r ∷ []) (replied
          ∙ ap (λ (x : Directory). reply_to x n e.payload) fold.directory
          ∙ ap (λ (k : ℕ). reply_to (directory_after d0 0 (ops_of es)) k e.payload) at)
          ∙ sym (replies_join d0 0 (ops_of es) (e.payload ∷ []))
          ∙ ap (λ (l : List OpValue). replies_after d0 0 l) (sym (ops_more es e));
      below = subst (λ (k : ℕ). NumbersBelow (k + 1) new.entries) (number ∙ sym (length_more es e)) below;
    }

-- the same as it is kept: the records, the directory and the replies after a push
pub fold_pushed : (es records : List (LogEntry OpValue)) (e kept : LogEntry OpValue) (d new : Directory)
    (rs replies : List Reply) (reply : Reply) (n : ℕ)
    → IsFold d.schema d.suffix es d (replies_view rs) → n ≡ length es + 1
    → new ≡ applied d n e.payload → reply_view reply ≡ reply_to d n e.payload → NumbersBelow (n + 1) new.entries
    → kept ≡ e → records ≡ es ++ kept ∷ [] → replies ≡ rs ++ reply ∷ []
    → IsFold new.schema new.suffix records new (replies_view replies)
fold_pushed es records e kept d new rs replies reply n fold number made replied below same pushed told =
    let f = fold_more d.schema d.suffix es e d new (replies_view rs) (reply_view reply) n fold number made replied
    below in
    let records-are : es ++ e ∷ [] ≡ records = sym (pushed ∙ ap (λ (x : LogEntry OpValue). es ++ x ∷ []) same) in
    let replies-are : replies_view rs ++ reply_view reply ∷ [] ≡ replies_view replies = sym (ap replies_view told
    ∙ map-append reply_view rs (reply ∷ [])) in
    subst (λ (x : SchemaModel). IsFold x new.suffix records new (replies_view replies))
    (sym (same_schema d new n e.payload made))
    (subst (λ (x : List RdnModel). IsFold d.schema x records new (replies_view replies))
    (sym (same_suffix d new n e.payload made))
    (subst (λ (x : List ReplyModel). IsFold d.schema d.suffix records new x) replies-are
    (subst (λ (x : List (LogEntry OpValue)). IsFold d.schema d.suffix x new (replies_view rs ++ reply_view
    reply ∷ [])) records-are f)))

-- ---- some records at once

-- updates leave the schema and the suffix
after_schema : (d : Directory) (n : ℕ) (ops : List OpValue) → (directory_after d n ops).schema ≡ d.schema
after_schema d n [] = refl
after_schema d n (u ∷ ops) = after_schema (applied d (n + 1) u) (n + 1) ops ∙ with_schema d (updated d (n + 1) u)

after_suffix : (d : Directory) (n : ℕ) (ops : List OpValue) → (directory_after d n ops).suffix ≡ d.suffix
after_suffix d n [] = refl
after_suffix d n (u ∷ ops) = after_suffix (applied d (n + 1) u) (n + 1) ops ∙ with_suffix d (updated d (n + 1) u)

none_more : (n : ℕ) → n + 1 ≡ n + 0 + 1
none_more n = omega arith

-- no record yet
pub run_begins : (d : Directory) (n : ℕ) → NumbersBelow (n + 1) d.entries → IsRun d n [] d []
run_begins d n h = record {
  directory = refl;
  replies_are = refl;
  below = subst (λ (k : ℕ). NumbersBelow k d.entries) (none_more n) h;
}

one_later : (n l : ℕ) → n + l + 1 ≡ n + (l + 1)
one_later n l = omega arith

-- one more
pub run_more : (d0 : Directory) (n : ℕ) (es : List (LogEntry OpValue)) (e : LogEntry OpValue) (d new : Directory)
    (rs : List ReplyModel) (reply : ReplyModel) (m : ℕ)
    → IsRun d0 n es d rs → m ≡ n + length es + 1
    → new ≡ applied d m e.payload → reply ≡ reply_to d m e.payload → NumbersBelow (m + 1) new.entries
    → IsRun d0 n (es ++ e ∷ []) new (rs ++ reply ∷ [])
run_more d0 n es e d new rs reply m run number made replied below =
    let at : m ≡ n + length (ops_of es) + 1 = number ∙ ap (λ (k : ℕ). n + k + 1) (sym (ops_length es)) in
    record {
      directory =
          made ∙ ap (λ (x : Directory). applied x m e.payload) run.directory
          ∙ ap (λ (k : ℕ). applied (directory_after d0 n (ops_of es)) k e.payload) at
          ∙ sym (after_join d0 n (ops_of es) (e.payload ∷ []))
          ∙ ap (λ (l : List OpValue). directory_after d0 n l) (sym (ops_more es e));
      replies_are =
          ap (λ (l : List ReplyModel). l ++ reply ∷ []) run.replies_are
          ∙ ap (λ (r : ReplyModel). replies_after d0 n (ops_of es) ++ r ∷ []) (replied
          ∙ ap (λ (x : Directory). reply_to x m e.payload) run.directory
          ∙ ap (λ (k : ℕ). reply_to (directory_after d0 n (ops_of es)) k e.payload) at)
          ∙ sym (replies_join d0 n (ops_of es) (e.payload ∷ []))
          ∙ ap (λ (l : List OpValue). replies_after d0 n l) (sym (ops_more es e));
      below = subst (λ (k : ℕ). NumbersBelow (k + 1) new.entries) (number ∙ one_later n (length es)
          ∙ ap (λ (k : ℕ). n + k) (sym (length_more es e))) below;
    }

-- the same as it is kept in a list of replies
pub run_pushed : (d0 : Directory) (n : ℕ) (es : List (LogEntry OpValue)) (e : LogEntry OpValue) (d new : Directory)
    (rs replies : List Reply) (reply : Reply) (m : ℕ)
    → IsRun d0 n es d (replies_view rs) → m ≡ n + length es + 1
    → new ≡ applied d m e.payload → reply_view reply ≡ reply_to d m e.payload → NumbersBelow (m + 1) new.entries
    → replies ≡ rs ++ reply ∷ [] → IsRun d0 n (es ++ e ∷ []) new (replies_view replies)
run_pushed d0 n es e d new rs replies reply m run number made replied below told =
    subst (λ (x : List ReplyModel). IsRun d0 n (es ++ e ∷ []) new x)
    (sym (ap replies_view told ∙ map-append reply_view rs (reply ∷ [])))
    (run_more d0 n es e d new (replies_view rs) (reply_view reply) m run number made replied below)

ops_join : (es more : List (LogEntry OpValue)) → ops_of (es ++ more) ≡ ops_of es ++ ops_of more
ops_join [] more = refl
ops_join (x ∷ es) more = ap (λ (l : List OpValue). x.payload ∷ l) (ops_join es more)

-- records, and others behind them
fold_run : (s : SchemaModel) (suffix : List RdnModel) (es more : List (LogEntry OpValue)) (d new : Directory)
    (rs made : List ReplyModel) → IsFold s suffix es d rs → IsRun d (length es) more new made
    → IsFold s suffix (es ++ more) new (rs ++ made)
fold_run s suffix es more d new rs made fold run =
    let d0 : Directory = empty_directory s suffix in
    let at : length es ≡ 0 + length (ops_of es) = omega (arith, ops_length es) in
    record {
      directory =
          run.directory ∙ ap (λ (x : Directory). directory_after x (length es) (ops_of more)) fold.directory
          ∙ ap (λ (k : ℕ). directory_after (directory_after d0 0 (ops_of es)) k (ops_of more)) at
          ∙ sym (after_join d0 0 (ops_of es) (ops_of more))
          ∙ ap (λ (l : List OpValue). directory_after d0 0 l) (sym (ops_join es more));
      replies_are =
          ap (λ (l : List ReplyModel). l ++ made) fold.replies_are
          ∙ ap (λ (l : List ReplyModel). replies_after d0 0 (ops_of es) ++ l) (run.replies_are
          ∙ ap (λ (x : Directory). replies_after x (length es) (ops_of more)) fold.directory
          ∙ ap (λ (k : ℕ). replies_after (directory_after d0 0 (ops_of es)) k (ops_of more)) at)
          ∙ sym (replies_join d0 0 (ops_of es) (ops_of more))
          ∙ ap (λ (l : List OpValue). replies_after d0 0 l) (sym (ops_join es more));
      below = subst (λ (k : ℕ). NumbersBelow (k + 1) new.entries) (sym (length-append es more)) run.below;
    }

-- the schema and the suffix that a run leaves
pub run_schema : (d new : Directory) (n : ℕ) (es : List (LogEntry OpValue)) (rs : List ReplyModel) →
    IsRun d n es new rs → new.schema ≡ d.schema
run_schema d new n es rs run = ap (λ (x : Directory). x.schema) run.directory ∙ after_schema d n (ops_of es)

pub run_suffix : (d new : Directory) (n : ℕ) (es : List (LogEntry OpValue)) (rs : List ReplyModel) →
    IsRun d n es new rs → new.suffix ≡ d.suffix
run_suffix d new n es rs run = ap (λ (x : Directory). x.suffix) run.directory ∙ after_suffix d n (ops_of es)

-- the same as it is kept: the records, the directory and the replies once others stand behind
pub fold_joined : (es more records : List (LogEntry OpValue)) (d new : Directory) (rs made replies : List Reply) (n : ℕ)
    → IsFold d.schema d.suffix es d (replies_view rs) → IsRun d n more new (replies_view made) → n ≡ length es
    → records ≡ es ++ more → replies ≡ rs ++ made → IsFold new.schema new.suffix records new (replies_view replies)
fold_joined es more records d new rs made replies n fold run number joined told =
    let run-is : IsRun d (length es) more new (replies_view made) =
    subst (λ (k : ℕ). IsRun d k more new (replies_view made)) number run in
    let f = fold_run d.schema d.suffix es more d new (replies_view rs) (replies_view made) fold run-is in
    let schema-is : new.schema ≡ d.schema = run_schema d new n more (replies_view made) run in
    let suffix-is : new.suffix ≡ d.suffix = run_suffix d new n more (replies_view made) run in
    let replies-are : replies_view rs ++ replies_view made ≡ replies_view replies = sym (ap replies_view told
    ∙ map-append reply_view rs made) in
    subst (λ (x : SchemaModel). IsFold x new.suffix records new (replies_view replies)) (sym schema-is)
    (subst (λ (x : List RdnModel). IsFold d.schema x records new (replies_view replies)) (sym suffix-is)
    (subst (λ (x : List ReplyModel). IsFold d.schema d.suffix records new x) replies-are
    (subst (λ (x : List (LogEntry OpValue)). IsFold d.schema d.suffix x new (replies_view rs ++ replies_view made))
    (sym joined) f)))
