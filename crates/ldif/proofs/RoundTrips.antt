-- LDIF: what is written is read back.
use Rattle.std.proofs.Common.{◌≡◌, ℕ, ◌+◌, ◌-◌, List, [], ◌∷◌, ◌++◌, length, take, map, Bool, true, false, cond, not, ◌&&◌, Option, None, Some, nat_eq, codes, refl, sym, ap, ◌∙◌, append_assoc, append-nil}
use Rattle.std.specs.Prelude.{slice_index, All}
use Rattle.std.specs.List.{list_all}
use Rattle.std.specs.Str.{is_utf8}
use Rattle.std.specs.declared.result.Result.{Result}
use Rattle.std.specs.declared.result.Result.TheVariants.{Ok}
use Rattle.std.proofs.lemmas.List.Elements.{All-cons, All-nil}
use Rattle.std.proofs.lemmas.List.Splits.{slice_split_at}
use Rattle.std.proofs.lemmas.List.Folds.{list_all-append}
use Rattle.ldif.specs.Descriptions.{is_dn, is_type, is_description, begins_change}
use Rattle.ldif.specs.Records.{ValueModel, RecordModel}
use Rattle.ldif.specs.Written.{value_part, pair_line, value_line, record_lines, records_lines, lines_text}
use Rattle.ldif.specs.Lines.{LineModel, without_return, parts_of, continues, before, folded, unfolded, lines_of}
use Rattle.ldif.specs.Says.{named, valued, wrong, line_says, is_encoded, form_says, name_says, no_type, value_says}
use Rattle.ldif.specs.declared.fault.LdifCause.TheVariants.{NameNotUtf8}
use Rattle.ldif.specs.Reading.{ReadingModel, FaultModel, with_open, after_line, or_wrong, read_from, nothing_read}
use Rattle.ldif.specs.RoundTrip.{are_octets, is_typed, is_typed_record, RecordsReturn}
use Rattle.ldif.proofs.Booleans.{left, right, both}
use Rattle.ldif.proofs.Plain.{is_plain, type_plain}
use Rattle.ldif.proofs.Quiet.{is_quiet, pair_quiet, passes_at, not_true, unlike, flip}
use Rattle.ldif.proofs.Back.{pair_back}

-- ---- lines that are neither folded nor cut

-- it begins with no space
abbrev is_upright : List ℕ → Bool
is_upright [] = true
is_upright (c ∷ cs) = not (nat_eq c 32)

-- a line that comes back as it is
abbrev is_whole : List ℕ → Bool
is_whole l = list_all is_quiet l && is_upright l

lacks_feed : (l : List ℕ) → list_all is_quiet l ≡ true → All (λ c. nat_eq 10 c ≡ false) l
lacks_feed [] h = All-nil (λ c. nat_eq 10 c ≡ false)
lacks_feed (c ∷ cs) h =
    All-cons (λ c. nat_eq 10 c ≡ false) c cs (not_true (nat_eq 10 c) (left (not (nat_eq 10 c)) (not (nat_eq c 13))
    (left (is_quiet c) (list_all is_quiet cs) h)))
    (lacks_feed cs (right (is_quiet c) (list_all is_quiet cs) h))

kept_end : (l : List ℕ) → list_all is_quiet l ≡ true → without_return l ≡ l
kept_end l h =
    let e : nat_eq (slice_index l (length l - 1)) 13 ≡ false =
    not_true (nat_eq (slice_index l (length l - 1)) 13)
    (right (not (nat_eq 10 (slice_index l (length l - 1)))) (not (nat_eq (slice_index l (length l - 1)) 13))
    (passes_at is_quiet l (length l - 1) refl h)) in
    ap (λ b. cond b (take (length l - 1) l) l) e

parts_back : (ls : List (List ℕ)) → list_all is_whole ls ≡ true → parts_of (lines_text ls) ≡ ls ++ [] ∷ []
parts_back [] h = refl
parts_back (l ∷ ls) h =
    let quiet = left (list_all is_quiet l) (is_upright l) (left (is_whole l) (list_all is_whole ls) h) in
    ap (map without_return) (slice_split_at (nat_eq 10) l 10 (lines_text ls) (lacks_feed l quiet) refl)
    ∙ ap (λ x. x ∷ parts_of (lines_text ls)) (kept_end l quiet)
    ∙ ap (λ x. l ∷ x) (parts_back ls (right (is_whole l) (list_all is_whole ls) h))

-- lines with their numbers
abbrev numbered : ℕ → List (List ℕ) → List LineModel
numbered n [] = []
numbered n (l ∷ ls) = record { number = n; text = l } ∷ numbered (n + 1) ls

apart : (s l : List ℕ) → is_upright l ≡ true → continues s l ≡ false
apart [] l h = refl
apart (c ∷ cs) [] h = refl
apart (c ∷ cs) (d ∷ ds) h = not_true (nat_eq d 32) h

alone : (n m : ℕ) (l : List ℕ) (ls : List (List ℕ)) → list_all is_whole ls ≡ true →
    before (record { number = n; text = l }) (numbered m ls) ≡ record { number = n; text = l } ∷ numbered m ls
alone n m l [] h = refl
alone n m l (k ∷ ks) h =
    ap (λ b. cond b (folded (record { number = n; text = l }) (record { number = m; text = k }) ∷ numbered (m + 1) ks)
    (record { number = n; text = l } ∷ numbered m (k ∷ ks)))
    (apart l k (right (list_all is_quiet k) (is_upright k) (left (is_whole k) (list_all is_whole ks) h)))

not_folded : (n : ℕ) (ls : List (List ℕ)) → list_all is_whole ls ≡ true → unfolded n ls ≡ numbered n ls
not_folded n [] h = refl
not_folded n (l ∷ ls) h =
    let rest = right (is_whole l) (list_all is_whole ls) h in
    ap (before (record { number = n; text = l })) (not_folded (n + 1) ls rest) ∙ alone n (n + 1) l ls rest

ended_whole : (ls : List (List ℕ)) → list_all is_whole ls ≡ true → list_all is_whole (ls ++ [] ∷ []) ≡ true
ended_whole ls h = list_all-append is_whole ls ([] ∷ []) ∙ both (list_all is_whole ls) (list_all is_whole ([] ∷ [])) h
    refl

lines_back : (ls : List (List ℕ)) → list_all is_whole ls ≡ true → lines_of (lines_text ls) ≡ numbered 1 (ls ++ [] ∷ [])
lines_back ls h = ap (unfolded 1) (parts_back ls h) ∙ not_folded 1 (ls ++ [] ∷ []) (ended_whole ls h)

-- ---- the lines that are written are whole

pair_whole : (c : ℕ) (cs octets : List ℕ) → list_all is_plain (c ∷ cs) ≡ true → is_whole (pair_line (c ∷ cs) octets) ≡
    true
pair_whole c cs octets h =
    both (list_all is_quiet (pair_line (c ∷ cs) octets)) (not (nat_eq c 32)) (pair_quiet (c ∷ cs) octets h)
    (ap not (flip 32 c (unlike 32 c refl (left (is_plain c) (list_all is_plain cs) h))))

-- a type has an octet
typed_whole : (w octets : List ℕ) → is_type w ≡ true → is_whole (pair_line w octets) ≡ true
typed_whole [] octets h = absurd cc
typed_whole (c ∷ cs) octets h = pair_whole c cs octets (type_plain (c ∷ cs) h)

values_whole : (vs : List ValueModel) → list_all is_typed vs ≡ true → list_all is_whole (map value_line vs) ≡ true
values_whole [] h = refl
values_whole (v ∷ vs) h =
    both (is_whole (value_line v)) (list_all is_whole (map value_line vs))
    (typed_whole v.description v.octets (left (is_type v.description) (are_octets v.octets)
    (left (is_typed v) (list_all is_typed vs) h)))
    (values_whole vs (right (is_typed v) (list_all is_typed vs) h))

record_whole : (r : RecordModel) → is_typed_record r ≡ true → list_all is_whole (record_lines r) ≡ true
record_whole r h =
    both (is_whole (pair_line (codes "dn") r.name)) (list_all is_whole (map value_line r.values))
    (pair_whole 100 (110 ∷ []) r.name refl)
    (values_whole r.values (right (is_utf8 r.name && are_octets r.name) (list_all is_typed r.values) h))

records_whole : (rs : List RecordModel) → list_all is_typed_record rs ≡ true → list_all is_whole (records_lines rs) ≡
    true
records_whole [] h = refl
records_whole (r ∷ rs) h =
    list_all-append is_whole (record_lines r) (records_lines rs)
    ∙ both (list_all is_whole (record_lines r)) (list_all is_whole (records_lines rs))
    (record_whole r (left (is_typed_record r) (list_all is_typed_record rs) h))
    (records_whole rs (right (is_typed_record r) (list_all is_typed_record rs) h))

-- ---- what they say

value_back : (w octets : List ℕ) → is_type w ≡ true → are_octets octets ≡ true → line_says (pair_line w octets) ≡
    form_says (is_encoded (value_part octets)) (record { description = w; octets = octets })
value_back [] octets h o = absurd cc
value_back (c ∷ cs) octets h o =
    pair_back c cs octets (type_plain (c ∷ cs) h) o
    ∙ ap (λ b. cond b (name_says octets) (value_says (is_encoded (value_part octets)) (c ∷ cs) octets))
    (not_true (is_dn (c ∷ cs)) (right (is_description (c ∷ cs)) (not (is_dn (c ∷ cs)))
    (left (is_description (c ∷ cs) && not (is_dn (c ∷ cs))) (not (begins_change (c ∷ cs))) h)))
    ∙ ap (λ b. cond b (form_says (is_encoded (value_part octets)) (record { description = c ∷ cs; octets = octets }))
    (wrong (no_type (c ∷ cs)))) h

name_back : (name : List ℕ) → is_utf8 name ≡ true → are_octets name ≡ true → line_says (pair_line (codes "dn") name) ≡
    named name
name_back name u o = pair_back 100 (110 ∷ []) name refl o ∙ ap (λ b. cond b (named name) (wrong NameNotUtf8)) u

-- ---- reading them

abbrev state : List RecordModel → Option RecordModel → ReadingModel
state done current = record { done = done; current = current; begun = true }

one_line : (s t : ReadingModel) (l : List ℕ) (ls : List (List ℕ)) (result : Result (List RecordModel) FaultModel) →
    after_line s (line_says l) ≡ Ok t
    → ((n : ℕ) → read_from t (numbered n ls) ≡ result) → (n : ℕ) → read_from s (numbered n (l ∷ ls)) ≡ result
one_line s t l ls result e f n = ap (λ o. or_wrong o n (λ u. read_from u (numbered (n + 1) ls))) e ∙ f (n + 1)

-- a value in either form is its record's
value_taken : (in_base64 : Bool) (v : ValueModel) (done : List RecordModel) (name : List ℕ) (before : List ValueModel)
    → after_line (state done (Some (record { name = name; values = before }))) (form_says in_base64 v) ≡
    Ok (state done (Some (record { name = name; values = before ++ v ∷ [] })))
value_taken true v done name before = refl
value_taken false v done name before = refl

values_read : (vs : List ValueModel) (done : List RecordModel) (name : List ℕ) (before : List ValueModel)
    (ls : List (List ℕ)) (result : Result (List RecordModel) FaultModel) → list_all is_typed vs ≡ true
    → ((n : ℕ) → read_from (state done (Some (record { name = name; values = before ++ vs }))) (numbered n ls) ≡ result)
    → (n : ℕ) → read_from (state done (Some (record { name = name; values = before })))
    (numbered n (map value_line vs ++ ls)) ≡ result
values_read [] done name before ls result h f n =
    ap (λ x. read_from (state done (Some (record { name = name; values = x }))) (numbered n ls))
    (sym (append-nil before)) ∙ f n
values_read (v ∷ vs) done name before ls result h f n =
    let typed = left (is_typed v) (list_all is_typed vs) h in
    one_line (state done (Some (record { name = name; values = before })))
    (state done (Some (record { name = name; values = before ++ v ∷ [] })))
    (value_line v) (map value_line vs ++ ls) result
    (ap (after_line (state done (Some (record { name = name; values = before })))) (value_back v.description v.octets
    (left (is_type v.description) (are_octets v.octets) typed) (right (is_type v.description)
    (are_octets v.octets) typed))
    ∙ value_taken (is_encoded (value_part v.octets)) v done name before)
    (values_read vs done name (before ++ v ∷ []) ls result (right (is_typed v) (list_all is_typed vs) h)
    (λ m. ap (λ x. read_from (state done (Some (record { name = name; values = x }))) (numbered m ls))
    (append_assoc before (v ∷ []) vs) ∙ f m)) n

record_read : (r : RecordModel) (done : List RecordModel) (current : Option RecordModel) (ls : List (List ℕ))
    (result : Result (List RecordModel) FaultModel) → is_typed_record r ≡ true
    → ((n : ℕ) → read_from (state (with_open done current) (Some r)) (numbered n ls) ≡ result)
    → (n : ℕ) → read_from (state done current) (numbered n (record_lines r ++ ls)) ≡ result
record_read r done current ls result h f =
    let front = left (is_utf8 r.name && are_octets r.name) (list_all is_typed r.values) h in
    let d = with_open done current in
    one_line (state done current) (state d None) [] (pair_line (codes "dn") r.name ∷ (map value_line r.values ++ ls))
    result refl
    (one_line (state d None) (state d (Some (record { name = r.name; values = [] }))) (pair_line (codes "dn") r.name)
    (map value_line r.values ++ ls) result
    (ap (after_line (state d None)) (name_back r.name (left (is_utf8 r.name) (are_octets r.name) front)
    (right (is_utf8 r.name) (are_octets r.name) front)))
    (values_read r.values d r.name [] ls result (right (is_utf8 r.name && are_octets r.name)
    (list_all is_typed r.values) h) f))

records_read : (rs : List RecordModel) (done : List RecordModel) (current : Option RecordModel) →
    list_all is_typed_record rs ≡ true
    → (n : ℕ) → read_from (state done current) (numbered n (records_lines rs ++ [] ∷ [])) ≡
    Ok (with_open done current ++ rs)
records_read [] done current h n = ap Ok (sym (append-nil (with_open done current)))
records_read (r ∷ rs) done current h n =
    ap (λ ls. read_from (state done current) (numbered n ls)) (append_assoc (record_lines r) (records_lines rs)
    ([] ∷ []))
    ∙ record_read r done current (records_lines rs ++ [] ∷ []) (Ok (with_open done current ++ r ∷ rs))
    (left (is_typed_record r) (list_all is_typed_record rs) h)
    (λ m. records_read rs (with_open done current) (Some r) (right (is_typed_record r) (list_all is_typed_record rs)
    h) m ∙ ap Ok (append_assoc (with_open done current) (r ∷ []) rs)) n

version_says : line_says (codes "version: 1") ≡ valued (record { description = codes "version"; octets = codes "1" })
version_says = refl

pub records_return : RecordsReturn
records_return rs h =
    ap (read_from nothing_read) (lines_back (codes "version: 1" ∷ records_lines rs) (records_whole rs h))
    ∙ one_line nothing_read (state [] None) (codes "version: 1") (records_lines rs ++ [] ∷ []) (Ok rs)
    (ap (after_line nothing_read) version_says) (records_read rs [] None h) 1
