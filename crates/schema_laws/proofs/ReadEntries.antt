-- Names of a directory's entries are made of relative names that were read.
use Rattle.std.proofs.Common.{ℕ, zero, suc, ◌+◌, ◌-◌, List, [], ◌∷◌, ◌++◌, Bool, true, false, cond, Option, None, Some, Result, Ok, Err, ◌≡◌, refl, sym, ap, ◌∙◌, subst, take, drop, length, map, nat_eq, is_some, slice_get}
use Rattle.std.specs.Prelude.{IfOk}
use Rattle.ldap_match.specs.ldap_schema.Schema.{SchemaModel}
use Rattle.ldap_dn.specs.Names.{TypeAndValue, RdnModel, rdns}
use Rattle.ldap_dn.specs.Texts.{name_of_text}
use Rattle.dir_store.specs.ldap_op.Values.{OpValue, add, delete, modify, modify_dn, noop}
use Rattle.dir_store.specs.entry_updates.Adding.{attributes_asked}
use Rattle.dir_store.specs.entry_updates.Finishing.{renamed}
use Rattle.dir_store.specs.ldap_op.ldap_parts.Values.{PartialAttributeValue}
use Rattle.dir_store.specs.entry_updates.ldap_parts.UpdateValues.{AddRequestValue, ModifyDnRequestValue}
use Rattle.dir_store.specs.dir_entry.Entry.{AttributeModel}
use Rattle.dir_store.specs.dir_tree.Directory.{NameKey, name_eq, begins, name_after}
use Rattle.dir_store.specs.indexed_tree.Directory.{Directory, NamedEntry}
use Rattle.dir_store.specs.indexed_tree.Places.{entry_named, parent_of, last_of, own_rdn, without_entry, with_attributes, moved}
use Rattle.dir_store.specs.indexed_tree.Replies.{then, refuse, or_refused, with_reply, name_asked, entry_asked, not_found}
use Rattle.dir_store.specs.directory_api.Answers.{ReplyModel, only}
use Rattle.dir_store.specs.Updates.{PlacedModel, place_under, place_asked, addition_of, addition_at, addition, leaf_asked, KeptModel, change_asked, one_rdn, rdn_asked, superior_asked, superior_of, is_misplaced, is_other_than, MoveModel, moved_entry, move_to, move_under, MoveNamesModel, move_names, move_asked, updated, with_entries, applied, directory_after, directory_of, empty_directory}
use Rattle.schema_laws.specs.NamePairs.{IsRead, AreRead, NamesOfEntriesAreRead, EntriesHaveReadNames}

-- ---- names

both : (s : SchemaModel) (a b : List RdnModel) → AreRead s a → AreRead s b → AreRead s (a ++ b)
both s [] b p q = q
both s (r ∷ a) b p q = (p.0, both s a b p.1 q)

behind : (s : SchemaModel) (k : ℕ) (n : List RdnModel) → AreRead s n → AreRead s (drop k n)
behind s zero n p = p
behind s (suc k) [] p = tt
behind s (suc k) (r ∷ n) p = behind s k n p.1

front : (s : SchemaModel) (k : ℕ) (n : List RdnModel) → AreRead s n → AreRead s (take k n)
front s zero n p = tt
front s (suc k) [] p = tt
front s (suc k) (r ∷ n) p = (p.0, front s k n p.1)

-- what stands from some place on in the name of a text
read_from : (s : SchemaModel) (text : List ℕ) (name rest : List RdnModel) (place : ℕ → ℕ) → name_of_text s text ≡
    Some name → ((i : ℕ) → slice_get name (place i) ≡ slice_get rest i) → AreRead s rest
read_from s text name [] place e f = tt
read_from s text name (r ∷ rest) place e f = (
  record { text = text; name = name; place = place zero; spells = e; there = f zero },
  read_from s text name rest (λ i. place (suc i)) e (λ i. f (suc i)),
)

read_all : (s : SchemaModel) (text : List ℕ) (name : List RdnModel) → name_of_text s text ≡ Some name → AreRead s name
read_all s text name e = read_from s text name name (λ i. i) e (λ i. refl)

-- ---- what passes checks

after : {A B : Type 0} (P : A → Type 0) (Q : B → Type 0) (r : Result A ReplyModel) (next : A → Result B ReplyModel) →
    IfOk r P → ((x : A) → P x → IfOk (next x) Q) → IfOk (then r next) Q
after P Q (Err reply) next p f = tt
after P Q (Ok x) next p f = f x p

checked : {A : Type 0} (Q : A → Type 0) (b : Bool) (reply : ReplyModel) (rest : Result A ReplyModel) → IfOk rest Q →
    IfOk (refuse b reply rest) Q
checked Q true reply rest q = tt
checked Q false reply rest q = q

whatever : {A : Type 0} (r : Result A ReplyModel) → IfOk r (λ x. Unit {0})
whatever (Err reply) = tt
whatever (Ok x) = tt

name_read_by : (s : SchemaModel) (text : List ℕ) (o : Option (List RdnModel)) → name_of_text s text ≡ o →
    IfOk (or_refused o (only 34)) (AreRead s)
name_read_by s text None e = tt
name_read_by s text (Some name) e = read_all s text name e

name_read : (s : SchemaModel) (text : List ℕ) → IfOk (name_asked s text) (AreRead s)
name_read s text = name_read_by s text (name_of_text s text) refl

rdn_read_by : (s : SchemaModel) (text : List ℕ) (o : Option (List RdnModel)) → name_of_text s text ≡ o →
    IfOk (or_refused (one_rdn o) (only 34)) (IsRead s)
rdn_read_by s text None e = tt
rdn_read_by s text (Some []) e = tt
rdn_read_by s text (Some (r ∷ [])) e = (read_all s text (r ∷ []) e).0
rdn_read_by s text (Some (r ∷ q ∷ rs)) e = tt

rdn_read : (s : SchemaModel) (text : List ℕ) → IfOk (rdn_asked s text) (IsRead s)
rdn_read s text = rdn_read_by s text (name_of_text s text) refl

-- ---- entries

entry_by : (s : SchemaModel) (b : Bool) (e : NamedEntry) (o : Option NamedEntry) (reply : ReplyModel) →
    AreRead s e.name → IfOk (or_refused o reply) (λ x. AreRead s x.name) → IfOk (or_refused (cond b (Some e) o) reply)
    (λ x. AreRead s x.name)
entry_by s true e o reply p q = p
entry_by s false e o reply p q = q

entry_read : (s : SchemaModel) (q : NameKey) (es : List NamedEntry) (reply : ReplyModel) →
    NamesOfEntriesAreRead s es → IfOk (or_refused (entry_named q es) reply) (λ e. AreRead s e.name)
entry_read s q [] reply p = tt
entry_read s q (e ∷ es) reply p = entry_by s (name_eq q (rdns e.name)) e (entry_named q es) reply p.0
    (entry_read s q es reply p.1)

pushed : (s : SchemaModel) (es : List NamedEntry) (e : NamedEntry) → NamesOfEntriesAreRead s es → AreRead s e.name →
    NamesOfEntriesAreRead s (es ++ e ∷ [])
pushed s [] e p q = (q, tt)
pushed s (x ∷ es) e p q = (p.0, pushed s es e p.1 q)

without : (s : SchemaModel) (k : ℕ) (es : List NamedEntry) → NamesOfEntriesAreRead s es →
    NamesOfEntriesAreRead s (without_entry k es)
without s k [] p = tt
without s k (e ∷ es) p = by (nat_eq k e.number) (without s k es p.1)
  where
    by : (b : Bool) → NamesOfEntriesAreRead s (without_entry k es) →
        NamesOfEntriesAreRead s (cond b es (e ∷ without_entry k es))
    by true ih = p.1
    by false ih = (p.0, ih)

other : (s : SchemaModel) (k : ℕ) (a : List AttributeModel) (es : List NamedEntry) → NamesOfEntriesAreRead s es →
    NamesOfEntriesAreRead s (with_attributes k a es)
other s k a [] p = tt
other s k a (e ∷ es) p = by (nat_eq k e.number) (other s k a es p.1)
  where
    by : (b : Bool) → NamesOfEntriesAreRead s (with_attributes k a es) →
        NamesOfEntriesAreRead s (cond b (record { number = e.number; name = e.name; attributes = a } ∷ es)
        (e ∷ with_attributes k a es))
    by true ih = (p.0, p.1)
    by false ih = (p.0, ih)

named_anew_by : (s : SchemaModel) (b : Bool) (k : ℕ) (new name : List RdnModel) → AreRead s new → AreRead s name →
    AreRead s (cond b (new ++ drop k name) name)
named_anew_by s true k new name p q = both s new (drop k name) p (behind s k name q)
named_anew_by s false k new name p q = q

named_anew : (s : SchemaModel) (old : NameKey) (new : List RdnModel) (a : List AttributeModel)
    (es : List NamedEntry) → AreRead s new → NamesOfEntriesAreRead s es → NamesOfEntriesAreRead s (moved old new a es)
named_anew s old new a [] p q = tt
named_anew s old new a (e ∷ es) p q =
    (named_anew_by s (begins old (rdns e.name)) (length old) new e.name p q.0, named_anew s old new a es p q.1)

-- ---- updates

added_name : (s : SchemaModel) (given : List PartialAttributeValue) (rdn : List TypeAndValue)
    (whole : List RdnModel) → AreRead s whole → IfOk (addition_of s given rdn whole) (λ (p : PlacedModel). AreRead s
    p.name)
added_name s given rdn whole q = by (with_reply (attributes_asked s rdn given))
  where
    by : (r : Result (List AttributeModel) ReplyModel) →
        IfOk (then r (λ attributes. Ok (record { name = whole; attributes = attributes })))
        (λ (p : PlacedModel). AreRead s p.name)
    by (Err reply) = tt
    by (Ok attributes) = q

moved_name : (s : SchemaModel) (delete_old : Bool) (e : NamedEntry) (rdn : RdnModel) (whole : List RdnModel) →
    AreRead s whole → IfOk (moved_entry s delete_old e rdn whole) (λ (m : MoveModel). AreRead s m.after)
moved_name s delete_old e rdn whole q =
    by (with_reply (renamed s (own_rdn e.name) rdn.spelling delete_old e.attributes))
  where
    by : (r : Result (List AttributeModel) ReplyModel) →
        IfOk (then r (λ attributes. Ok (record {
          number = e.number;
          before = e.name;
          after = whole;
          attributes =
              attributes;
        }))) (λ (m : MoveModel). AreRead s m.after)
    by (Err reply) = tt
    by (Ok attributes) = q

names_with : (s : SchemaModel) (name : List RdnModel) (rdn : RdnModel) (r : Result (Option (List RdnModel))
    ReplyModel) → IsRead s rdn → IfOk (then r (λ above. Ok (record { name = name; rdn = rdn; above = above })))
    (λ (n : MoveNamesModel). IsRead s n.rdn)
names_with s name rdn (Err reply) q = tt
names_with s name rdn (Ok above) q = q

module _ (d : Directory) (h : NamesOfEntriesAreRead d.schema d.entries) where
  asked_entry : (name : List RdnModel) → IfOk (entry_asked d name) (λ (e : NamedEntry). AreRead d.schema e.name)
  asked_entry name = entry_read d.schema (rdns name) d.entries (not_found d name) h

  placed_by : (b : Bool) (name : List RdnModel) → AreRead d.schema name → IfOk (place_under d name)
      (AreRead d.schema) → IfOk (cond b (Ok name) (place_under d name)) (AreRead d.schema)
  placed_by true name p q = p
  placed_by false name p q = q

  placed : (name : List RdnModel) → AreRead d.schema name → IfOk (place_asked d name) (AreRead d.schema)
  placed name p =
      placed_by (name_eq (rdns name) (rdns d.suffix)) name p
      (after (λ (e : NamedEntry). AreRead d.schema e.name) (AreRead d.schema) (entry_asked d (parent_of name))
      (λ above. Ok (above.name ++ last_of name)) (asked_entry (parent_of name))
      (λ above q. both d.schema above.name (last_of name) q (behind d.schema (length name - 1) name p)))

  addition_at_read : (given : List PartialAttributeValue) (name : List RdnModel) → AreRead d.schema name →
      IfOk (addition_at d given name) (λ (p : PlacedModel). AreRead d.schema p.name)
  addition_at_read given name p =
      checked (λ (x : PlacedModel). AreRead d.schema x.name) (is_some (entry_named (rdns name) d.entries)) (only 68)
      (then (place_asked d name) (addition_of d.schema given (own_rdn name)))
      (after (AreRead d.schema) (λ (x : PlacedModel). AreRead d.schema x.name) (place_asked d name)
      (addition_of d.schema given (own_rdn name)) (placed name p) (added_name d.schema given (own_rdn name)))

  addition_read : (a : AddRequestValue) → IfOk (addition d a) (λ (p : PlacedModel). AreRead d.schema p.name)
  addition_read a =
      after (AreRead d.schema) (λ (p : PlacedModel). AreRead d.schema p.name) (name_asked d.schema a.entry)
      (addition_at d a.attributes) (name_read d.schema a.entry) (addition_at_read a.attributes)

  superior_read : (name : List RdnModel) (above : Option (List RdnModel)) → AreRead d.schema name →
      IfOk (superior_of d name above) (AreRead d.schema)
  superior_read name None p = front d.schema (length name - 1) name p
  superior_read name (Some superior) p = after (λ (e : NamedEntry). AreRead d.schema e.name) (AreRead d.schema)
      (entry_asked d superior) (λ above. Ok above.name) (asked_entry superior) (λ above q. q)

  move_to_read : (delete_old : Bool) (e : NamedEntry) (rdn : RdnModel) (whole : List RdnModel) →
      AreRead d.schema whole → IfOk (move_to d delete_old e rdn whole) (λ (m : MoveModel). AreRead d.schema m.after)
  move_to_read delete_old e rdn whole q =
      checked (λ (m : MoveModel). AreRead d.schema m.after)
      (is_other_than e.number (entry_named (rdns whole) d.entries)) (only 68) (moved_entry d.schema delete_old e
      rdn whole)
      (moved_name d.schema delete_old e rdn whole q)

  move_read : (delete_old : Bool) (e : NamedEntry) (rdn : RdnModel) (above : Option (List RdnModel)) →
      AreRead d.schema e.name → IsRead d.schema rdn → IfOk (move_under d delete_old e rdn above)
      (λ (m : MoveModel). AreRead d.schema m.after)
  move_read delete_old e rdn above p q =
      checked (λ (m : MoveModel). AreRead d.schema m.after) (is_misplaced d.suffix e.name above) (only 53)
      (then (superior_of d e.name above) (λ superior. move_to d delete_old e rdn (superior ++ rdn ∷ [])))
      (after (AreRead d.schema) (λ (m : MoveModel). AreRead d.schema m.after) (superior_of d e.name above)
      (λ superior. move_to d delete_old e rdn (superior ++ rdn ∷ [])) (superior_read e.name above p)
      (λ superior u. move_to_read delete_old e rdn (superior ++ rdn ∷ []) (both d.schema superior (rdn ∷ []) u
      (q, tt))))

  names_read : (r : ModifyDnRequestValue) → IfOk (move_names d.schema r) (λ (n : MoveNamesModel). IsRead d.schema n.rdn)
  names_read r =
      after (λ (x : List RdnModel). Unit {0}) (λ (n : MoveNamesModel). IsRead d.schema n.rdn)
      (name_asked d.schema r.entry)
      (λ name. then (rdn_asked d.schema r.newrdn) (λ rdn. then (superior_asked d.schema r.new_superior)
      (λ above. Ok (record { name = name; rdn = rdn; above = above }))))
      (whatever (name_asked d.schema r.entry))
      (λ name u.
      after (IsRead d.schema) (λ (n : MoveNamesModel). IsRead d.schema n.rdn) (rdn_asked d.schema r.newrdn)
      (λ rdn. then (superior_asked d.schema r.new_superior)
      (λ above. Ok (record { name = name; rdn = rdn; above = above }))) (rdn_read d.schema r.newrdn)
      (λ rdn q. names_with d.schema name rdn (superior_asked d.schema r.new_superior) q))

  all_moved : (r : ModifyDnRequestValue) → IfOk (move_asked d r) (λ (m : MoveModel). AreRead d.schema m.after)
  all_moved r =
      after (λ (n : MoveNamesModel). IsRead d.schema n.rdn) (λ (m : MoveModel). AreRead d.schema m.after)
      (move_names d.schema r)
      (λ n. then (entry_asked d n.name) (λ e. move_under d r.deleteoldrdn e n.rdn n.above)) (names_read r)
      (λ n q.
      after (λ (e : NamedEntry). AreRead d.schema e.name) (λ (m : MoveModel). AreRead d.schema m.after)
      (entry_asked d n.name) (λ e. move_under d r.deleteoldrdn e n.rdn n.above) (asked_entry n.name)
      (λ e p. move_read r.deleteoldrdn e n.rdn n.above p q))

  taken_out : (name : List RdnModel) → IfOk (then (leaf_asked d name) (λ k. Ok (without_entry k d.entries)))
      (NamesOfEntriesAreRead d.schema)
  taken_out name = by (leaf_asked d name)
    where
      by : (r : Result ℕ ReplyModel) → IfOk (then r (λ k. Ok (without_entry k d.entries)))
          (NamesOfEntriesAreRead d.schema)
      by (Err reply) = tt
      by (Ok k) = without d.schema k d.entries h

  changed_by : (r : Result KeptModel ReplyModel) →
      IfOk (then r (λ k. Ok (with_attributes k.number k.attributes d.entries))) (NamesOfEntriesAreRead d.schema)
  changed_by (Err reply) = tt
  changed_by (Ok k) = other d.schema k.number k.attributes d.entries h

  changed : (number : ℕ) (u : OpValue) → IfOk (updated d number u) (NamesOfEntriesAreRead d.schema)
  changed number (add a) =
      after (λ (p : PlacedModel). AreRead d.schema p.name) (NamesOfEntriesAreRead d.schema) (addition d a)
      (λ p. Ok (d.entries ++ record { number = number; name = p.name; attributes = p.attributes } ∷ []))
      (addition_read a)
      (λ p q. pushed d.schema d.entries (record { number = number; name = p.name; attributes = p.attributes }) h q)
  changed number (delete text) =
      after (λ (x : List RdnModel). Unit {0}) (NamesOfEntriesAreRead d.schema) (name_asked d.schema text)
      (λ name. then (leaf_asked d name) (λ k. Ok (without_entry k d.entries)))
      (whatever (name_asked d.schema text)) (λ name u. taken_out name)
  changed number (modify m) = changed_by (change_asked d m)
  changed number (modify_dn r) =
      after (λ (m : MoveModel). AreRead d.schema m.after) (NamesOfEntriesAreRead d.schema) (move_asked d r)
      (λ m. Ok (moved (rdns m.before) m.after m.attributes d.entries)) (all_moved r)
      (λ m q. named_anew d.schema (rdns m.before) m.after m.attributes d.entries q h)
  changed number noop = h

made : (d : Directory) (r : Result (List NamedEntry) ReplyModel) → NamesOfEntriesAreRead d.schema d.entries →
    IfOk r (NamesOfEntriesAreRead d.schema) → NamesOfEntriesAreRead (with_entries d r).schema (with_entries d r).entries
made d (Err reply) h q = h
made d (Ok entries) h q = q

schema_stays : (d : Directory) (r : Result (List NamedEntry) ReplyModel) → (with_entries d r).schema ≡ d.schema
schema_stays d (Err reply) = refl
schema_stays d (Ok entries) = refl

after_all : (d : Directory) (n : ℕ) (ops : List OpValue) → NamesOfEntriesAreRead d.schema d.entries →
    NamesOfEntriesAreRead (directory_after d n ops).schema (directory_after d n ops).entries
after_all d n [] h = h
after_all d n (u ∷ ops) h = after_all (applied d (n + 1) u) (n + 1) ops (made d (updated d (n + 1) u) h
    (changed d h (n + 1) u))

same_schema : (d : Directory) (n : ℕ) (ops : List OpValue) → (directory_after d n ops).schema ≡ d.schema
same_schema d n [] = refl
same_schema d n (u ∷ ops) = same_schema (applied d (n + 1) u) (n + 1) ops ∙ schema_stays d (updated d (n + 1) u)

pub entries_have_read_names : EntriesHaveReadNames
entries_have_read_names s suffix ops =
    subst (λ (x : SchemaModel). NamesOfEntriesAreRead x (directory_of s suffix ops).entries)
    (same_schema (empty_directory s suffix) 0 ops) (after_all (empty_directory s suffix) 0 ops tt)
