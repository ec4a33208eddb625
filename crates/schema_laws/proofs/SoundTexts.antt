-- What each description of a schema's text has: a numericoid, names that are words, a line behind those before it.
use Rattle.std.proofs.Common.{ℕ, ◌+◌, ◌<◌, List, [], ◌∷◌, ◌++◌, Bool, true, false, cond, Option, None, Some, nat_eq, ◌≡◌, refl, sym, ap, ◌∙◌, subst, length, drop, arith}
use Rattle.std.specs.List.{AllByRecursion}
use Rattle.schema_reader.specs.schema_text.Words.{is_descr, is_numericoid}
use Rattle.schema_reader.specs.schema_text.Tokens.{tokens_of}
use Rattle.schema_reader.specs.schema_text.Keywords.{place_of, shape_of}
use Rattle.schema_reader.specs.schema_text.Arguments.{one, one_or, listed, pieces, word_of, descr_if, quoted_text, quoted_name, next_text, all_from, argument_of}
use Rattle.schema_reader.specs.schema_text.Descriptions.{FieldModel, DescriptionModel, texts_at, keyword_at, is_flag, fields_end, begun, completed, with_argument, taken, fields_from, are_in_order, in_order, numericoid_if, numericoid_of, ordered_fields, of_pieces, inside, description_of}
use Rattle.schema_reader.specs.schema_text.Texts.{SchemaTextModel, heading_of, is_skipped, is_headed, with_bad, with_type, with_class, description_behind, with_line, read_from, nothing, lines_of, read_text}
use Rattle.schema_reader.specs.schema_text.declared.token.Token.{Token}
use Rattle.schema_reader.specs.schema_text.declared.keyword.Section.{Section}
use Rattle.schema_reader.specs.schema_text.declared.keyword.Section.TheVariants.{AttributeTypes, ObjectClasses}
use Rattle.schema_reader.specs.schema_text.declared.keyword.Keyword.{Keyword}
use Rattle.schema_reader.specs.schema_text.declared.keyword.Keyword.TheVariants as keyword
use Rattle.ldap_dn.proofs.Spelled.{none_some, some_same}
use Rattle.schema_laws.proofs.Valued.{all_append}
use Rattle.std.specs.Option.{option_and_then}

-- ---- names

abbrev pub AreDescrs : List (List ℕ) → Type 0
AreDescrs ns = AllByRecursion (λ n. is_descr n ≡ true) ns

descr_by : (b : Bool) (w n : List ℕ) → is_descr w ≡ b → cond b (Some w) None ≡ Some n → is_descr n ≡ true
descr_by true w n e h = ap is_descr (sym (some_same h)) ∙ e
descr_by false w n e h = absurd (none_some h)

name_by : (o : Option (List ℕ)) (n : List ℕ) → option_and_then descr_if o ≡ Some n → is_descr n ≡ true
name_by None n h = absurd (none_some h)
name_by (Some w) n h = descr_by (is_descr w) w n refl h

name_is : (b : Bool) (ts : List Token) (n : List ℕ) → quoted_name b ts ≡ Some n → is_descr n ≡ true
name_is b ts n h = name_by (quoted_text b ts) n h

names_at : (f : List Token → Option (List ℕ)) (o : Option (List ℕ)) (xs : List (List ℕ)) (p : List Token)
    (ps : List (List Token)) (ns : List (List ℕ)) → f p ≡ o → ((n : List ℕ) → f p ≡ Some n → is_descr n ≡ true) →
    AreDescrs xs → ((ys : List (List ℕ)) → AreDescrs ys → all_from f ys ps ≡ Some ns → AreDescrs ns) →
    next_text xs o (λ ys. all_from f ys ps) ≡ Some ns → AreDescrs ns
names_at f None xs p ps ns e d all more h = absurd (none_some h)
names_at f (Some n) xs p ps ns e d all more h = more (xs ++ n ∷ []) (all_append (λ n. is_descr n ≡ true) xs (n ∷ [])
    all (d n e, tt)) h

names_from : (f : List Token → Option (List ℕ)) → ((p : List Token) (n : List ℕ) → f p ≡ Some n → is_descr n ≡ true) →
    (xs : List (List ℕ)) (ps : List (List Token)) (ns : List (List ℕ)) → AreDescrs xs → all_from f xs ps ≡ Some ns →
    AreDescrs ns
names_from f d xs [] ns all h = subst AreDescrs (some_same h) all
names_from f d xs (p ∷ ps) ns all h = names_at f (f p) xs p ps ns refl (d p) all (λ ys a e. names_from f d ys ps ns a
    e) h

one_name : (o : Option (List ℕ)) (ns : List (List ℕ)) → ((n : List ℕ) → o ≡ Some n → is_descr n ≡ true) →
    one o ≡ Some ns → AreDescrs ns
one_name None ns d h = absurd (none_some h)
one_name (Some n) ns d h = subst AreDescrs (some_same h) (d n refl, tt)

names_by : (o : Option (List Token)) (ts : List Token) (ns : List (List ℕ)) → one_or (quoted_name false)
    (λ inside. all_from (quoted_name true) [] (pieces true inside)) ts o ≡ Some ns → AreDescrs ns
names_by None ts ns h = one_name (quoted_name false ts) ns (λ n e. name_is false ts n e) h
names_by (Some inner) ts ns h = names_from (quoted_name true) (λ p n e. name_is true p n e) [] (pieces true inner) ns
    tt h

-- ---- fields

-- the texts of a NAME field are names
abbrev pub IsSoundField : FieldModel → Type 0
IsSoundField f = nat_eq (place_of f.keyword) 1 ≡ true → AreDescrs f.texts

argument_is : (s : Section) (k : Keyword) (p : List Token) (xs : List (List ℕ)) → argument_of (shape_of s k) p ≡
    Some xs → nat_eq (place_of k) 1 ≡ true → AreDescrs xs
argument_is s keyword.Name p xs h e = names_by (listed p) p xs h
argument_is s k p xs h e = cc

with_by : (s : Section) (k : Keyword) (p : List Token) (o : Option (List (List ℕ))) (f : FieldModel) →
    argument_of (shape_of s k) p ≡ o → option_and_then (λ xs. Some (record { keyword = k; texts = xs })) o ≡ Some f →
    IsSoundField f
with_by s k p None f e h = absurd (none_some h)
with_by s k p (Some xs) f e h = subst IsSoundField (some_same h) (λ n. argument_is s k p xs e n)

completed_by : (o : Option FieldModel) (fs gs : List FieldModel) (f : List FieldModel → Option Keyword →
    Option (List FieldModel)) → ((g : FieldModel) → o ≡ Some g → IsSoundField g) → AllByRecursion IsSoundField fs
    → ((hs : List FieldModel) → AllByRecursion IsSoundField hs → f hs None ≡ Some gs → AllByRecursion IsSoundField
    gs) → completed fs o f ≡ Some gs → AllByRecursion IsSoundField gs
completed_by None fs gs f d all more h = absurd (none_some h)
completed_by (Some g) fs gs f d all more h = more (fs ++ g ∷ []) (all_append IsSoundField fs (g ∷ []) all
    (d g refl, tt)) h

begun_by : (s : Section) (o : Option Keyword) (fs gs : List FieldModel) (f : List FieldModel → Option Keyword →
    Option (List FieldModel)) → AllByRecursion IsSoundField fs
    → ((hs : List FieldModel) (w : Option Keyword) → AllByRecursion IsSoundField hs → f hs w ≡ Some gs →
    AllByRecursion IsSoundField gs) → begun s fs o f ≡ Some gs → AllByRecursion IsSoundField gs
begun_by s None fs gs f all more h = absurd (none_some h)
begun_by s (Some k) fs gs f all more h = flagged (is_flag (shape_of s k)) k fs gs f all more h where
  flagged : (b : Bool) (k : Keyword) (fs gs : List FieldModel) (f : List FieldModel → Option Keyword →
      Option (List FieldModel)) → AllByRecursion IsSoundField fs
      → ((hs : List FieldModel) (w : Option Keyword) → AllByRecursion IsSoundField hs → f hs w ≡ Some gs →
      AllByRecursion IsSoundField gs) → cond b (f (fs ++ record { keyword = k; texts = [] } ∷ []) None)
      (f fs (Some k)) ≡ Some gs → AllByRecursion IsSoundField gs
  flagged true k fs gs f all more h = more (fs ++ record { keyword = k; texts = [] } ∷ []) None
      (all_append IsSoundField fs (record { keyword = k; texts = [] } ∷ []) all ((λ e. tt), tt)) h
  flagged false k fs gs f all more h = more fs (Some k) all h

taken_by : (s : Section) (w : Option Keyword) (p : List Token) (fs gs : List FieldModel) (f : List FieldModel →
    Option Keyword → Option (List FieldModel)) → AllByRecursion IsSoundField fs
    → ((hs : List FieldModel) (w : Option Keyword) → AllByRecursion IsSoundField hs → f hs w ≡ Some gs →
    AllByRecursion IsSoundField gs) → taken s fs w p f ≡ Some gs → AllByRecursion IsSoundField gs
taken_by s None p fs gs f all more h = begun_by s (keyword_at s p) fs gs f all more h
taken_by s (Some k) p fs gs f all more h =
    completed_by (with_argument s k p) fs gs f (λ g e. with_by s k p (argument_of (shape_of s k) p) g refl e) all
    (λ hs a e. more hs None a e) h

ended_by : (w : Option Keyword) (fs gs : List FieldModel) → AllByRecursion IsSoundField fs → fields_end fs w ≡
    Some gs → AllByRecursion IsSoundField gs
ended_by None fs gs all h = subst (AllByRecursion IsSoundField) (some_same h) all
ended_by (Some k) fs gs all h = absurd (none_some h)

fields_by : (s : Section) (fs gs : List FieldModel) (w : Option Keyword) (ps : List (List Token)) →
    AllByRecursion IsSoundField fs → fields_from s fs w ps ≡ Some gs → AllByRecursion IsSoundField gs
fields_by s fs gs w [] all h = ended_by w fs gs all h
fields_by s fs gs w (p ∷ ps) all h = taken_by s w p fs gs (λ hs v. fields_from s hs v ps) all
    (λ hs v a e. fields_by s hs gs v ps a e) h

ordered_by : (b : Bool) (fs gs : List FieldModel) → cond b (Some fs) None ≡ Some gs → fs ≡ gs
ordered_by true fs gs h = some_same h
ordered_by false fs gs h = absurd (none_some h)

ordered_at : (s : Section) (ps : List (List Token)) (o : Option (List FieldModel)) (gs : List FieldModel) →
    fields_from s [] None ps ≡ o → option_and_then in_order o ≡ Some gs → AllByRecursion IsSoundField gs
ordered_at s ps None gs e h = absurd (none_some h)
ordered_at s ps (Some fs) gs e h = subst (AllByRecursion IsSoundField) (ordered_by (are_in_order 0 fs) fs gs h)
    (fields_by s [] fs None ps tt e)

-- ---- descriptions

texts_of_name : (fs : List FieldModel) → AllByRecursion IsSoundField fs → AreDescrs (texts_at 1 fs)
texts_of_name [] h = tt
texts_of_name (f ∷ fs) h = by (nat_eq (place_of f.keyword) 1) f fs refl h.0 (texts_of_name fs h.1) where
  by : (b : Bool) (f : FieldModel) (fs : List FieldModel) → nat_eq (place_of f.keyword) 1 ≡ b → IsSoundField f →
      AreDescrs (texts_at 1 fs) → AreDescrs (cond b f.texts (texts_at 1 fs))
  by true f fs e h more = h e
  by false f fs e h more = more

-- a description of this line: its identifier is a numericoid, its names are words
pub record IsSound (line : ℕ) (d : DescriptionModel) : Type 0 where
  pub in_line : d.line ≡ line
  pub has_oid : is_numericoid d.oid ≡ true
  pub has_names : AreDescrs (texts_at 1 d.fields)

numericoid_by : (b : Bool) (w o : List ℕ) → is_numericoid w ≡ b → cond b (Some w) None ≡ Some o → is_numericoid o ≡ true
numericoid_by true w o e h = ap is_numericoid (sym (some_same h)) ∙ e
numericoid_by false w o e h = absurd (none_some h)

oid_by : (m : Option (List ℕ)) (o : List ℕ) → option_and_then numericoid_if m ≡ Some o → is_numericoid o ≡ true
oid_by None o h = absurd (none_some h)
oid_by (Some w) o h = numericoid_by (is_numericoid w) w o refl h

made : ℕ → List ℕ → List FieldModel → DescriptionModel
made line o fs = record { line = line; oid = o; fields = fs }

pieces_by : (line : ℕ) (s : Section) (ps : List (List Token)) (a : Option (List ℕ)) (b : Option (List FieldModel))
    (d : DescriptionModel) → ((o : List ℕ) → a ≡ Some o → is_numericoid o ≡ true) →
    ((fs : List FieldModel) → b ≡ Some fs → AllByRecursion IsSoundField fs) →
    option_and_then (λ oid. option_and_then (λ fs. Some (record { line = line; oid = oid; fields = fs })) b) a ≡
    Some d → IsSound line d
unfolding made
pieces_by line s ps None b d f g h = absurd (none_some h)
pieces_by line s ps (Some o) None d f g h = absurd (none_some h)
pieces_by line s ps (Some o) (Some fs) d f g h =
    let is : made line o fs ≡ d = some_same h in
    subst (IsSound line) is (record { in_line = refl; has_oid = f o refl; has_names = texts_of_name fs (g fs refl) })

of_pieces_by : (line : ℕ) (s : Section) (ps : List (List Token)) (d : DescriptionModel) → of_pieces line s ps ≡
    Some d → IsSound line d
of_pieces_by line s [] d h = absurd (none_some h)
of_pieces_by line s (p ∷ ps) d h =
    pieces_by line s ps (numericoid_of p) (ordered_fields s ps) d (λ o e. oid_by (word_of p) o e)
    (λ fs e. ordered_at s ps (fields_from s [] None ps) fs refl e) h

tokens_by : (line : ℕ) (s : Section) (o : Option (List Token)) (d : DescriptionModel) →
    option_and_then (λ ts. of_pieces line s (pieces false ts)) o ≡ Some d → IsSound line d
tokens_by line s None d h = absurd (none_some h)
tokens_by line s (Some ts) d h = of_pieces_by line s (pieces false ts) d h

inside_by : (line : ℕ) (s : Section) (o : Option (List ℕ)) (d : DescriptionModel) →
    option_and_then (λ body. option_and_then (λ ts. of_pieces line s (pieces false ts)) (tokens_of body)) o ≡ Some d →
    IsSound line d
inside_by line s None d h = absurd (none_some h)
inside_by line s (Some body) d h = tokens_by line s (tokens_of body) d h

description_is : (line : ℕ) (s : Section) (octets : List ℕ) (d : DescriptionModel) → description_of line s octets ≡
    Some d → IsSound line d
description_is line s octets d h = inside_by line s (inside octets) d h

-- ---- texts

-- a description's identifier is a numericoid, its names are words
pub record IsWorded (d : DescriptionModel) : Type 0 where
  pub has_oid : is_numericoid d.oid ≡ true
  pub has_names : AreDescrs (texts_at 1 d.fields)

-- each description stands in a line before those of the descriptions behind it
abbrev pub AreRising : List DescriptionModel → Type 0
AreRising [] = Unit {0}
AreRising (d ∷ ds) = AllByRecursion (λ e. d.line < e.line) ds × AreRising ds

-- descriptions in rising lines, all before this one
pub record AreSound (n : ℕ) (ds : List DescriptionModel) : Type 0 where
  pub worded : AllByRecursion IsWorded ds
  pub below : AllByRecursion (λ d. d.line < n) ds
  pub rising : AreRising ds

each_lower : (n m : ℕ) (ds : List DescriptionModel) → n < m → AllByRecursion (λ d. d.line < n) ds →
    AllByRecursion (λ d. d.line < m) ds
each_lower n m [] lt h = tt
each_lower n m (d ∷ ds) lt h = (omega (arith, h.0), each_lower n m ds lt h.1)

rising_more : (n : ℕ) (ds : List DescriptionModel) (d : DescriptionModel) → d.line ≡ n →
    AllByRecursion (λ e. e.line < n) ds → AreRising ds → AreRising (ds ++ d ∷ [])
rising_more n [] d e b r = (tt, tt)
rising_more n (x ∷ ds) d e b r =
    (all_append (λ e. x.line < e.line) ds (d ∷ []) r.0 (omega (arith, b.0, e), tt), rising_more n ds d e b.1 r.1)

later : (n : ℕ) (ds : List DescriptionModel) → AreSound n ds → AreSound (n + 1) ds
later n ds h = record { worded = h.worded; below = each_lower n (n + 1) ds (omega arith) h.below; rising = h.rising }

one_more : (n : ℕ) (ds : List DescriptionModel) (d : DescriptionModel) → IsSound n d → AreSound n ds →
    AreSound (n + 1) (ds ++ d ∷ [])
one_more n ds d s h = record {
  worded = all_append IsWorded ds (d ∷ []) h.worded (record { has_oid = s.has_oid; has_names = s.has_names }, tt);
  below = all_append (λ e. e.line < n + 1) ds (d ∷ []) (each_lower n (n + 1) ds (omega arith) h.below)
      (omega (arith, s.in_line), tt);
  rising = rising_more n ds d s.in_line h.below h.rising;
}

type_line : (n : ℕ) (t : SchemaTextModel) (o : Option DescriptionModel) → ((d : DescriptionModel) → o ≡ Some d →
    IsSound n d) → AreSound n t.types → AreSound (n + 1) (with_type t n o).types
type_line n t None f h = later n t.types h
type_line n t (Some d) f h = one_more n t.types d (f d refl) h

class_line : (n : ℕ) (t : SchemaTextModel) (o : Option DescriptionModel) → AreSound n t.types →
    AreSound (n + 1) (with_class t n o).types
class_line n t None h = later n t.types h
class_line n t (Some d) h = later n t.types h

line_by : (a b c : Bool) (n : ℕ) (t : SchemaTextModel) (line : List ℕ) → AreSound n t.types
    → AreSound (n + 1) (cond a t (cond b (with_type t n (description_behind n AttributeTypes line))
    (cond c (with_class t n (description_behind n ObjectClasses line)) (with_bad t n)))).types
line_by true b c n t line h = later n t.types h
line_by false true c n t line h = type_line n t (description_behind n AttributeTypes line)
    (λ d e. description_is n AttributeTypes (drop (length (heading_of AttributeTypes)) line) d e) h
line_by false false true n t line h = class_line n t (description_behind n ObjectClasses line) h
line_by false false false n t line h = later n t.types h

pub record IsSoundText (t : SchemaTextModel) : Type 0 where
  pub before : ℕ
  pub are_sound : AreSound before t.types

lines_by : (t : SchemaTextModel) (n : ℕ) (ls : List (List ℕ)) → AreSound n t.types → IsSoundText (read_from t n ls)
lines_by t n [] h = record { before = n; are_sound = h }
lines_by t n (l ∷ ls) h = lines_by (with_line t n l) (n + 1) ls (line_by (is_skipped l) (is_headed AttributeTypes l)
    (is_headed ObjectClasses l) n t l h)

pub text_is_sound : (text : List ℕ) → IsSoundText (read_text text)
text_is_sound text =
    let h = lines_by nothing 1 (lines_of text) (record { worded = tt; below = tt; rising = tt }) in
    record { before = h.before; are_sound = h.are_sound }

-- ---- the lines of classes

type_line_on : (n : ℕ) (t : SchemaTextModel) (o : Option DescriptionModel) → AreSound n t.classes →
    AreSound (n + 1) (with_type t n o).classes
type_line_on n t None h = later n t.classes h
type_line_on n t (Some d) h = later n t.classes h

class_line_on : (n : ℕ) (t : SchemaTextModel) (o : Option DescriptionModel) → ((d : DescriptionModel) → o ≡ Some d →
    IsSound n d) → AreSound n t.classes → AreSound (n + 1) (with_class t n o).classes
class_line_on n t None f h = later n t.classes h
class_line_on n t (Some d) f h = one_more n t.classes d (f d refl) h

line_on : (a b c : Bool) (n : ℕ) (t : SchemaTextModel) (line : List ℕ) → AreSound n t.classes
    → AreSound (n + 1) (cond a t (cond b (with_type t n (description_behind n AttributeTypes line))
    (cond c (with_class t n (description_behind n ObjectClasses line)) (with_bad t n)))).classes
line_on true b c n t line h = later n t.classes h
line_on false true c n t line h = type_line_on n t (description_behind n AttributeTypes line) h
line_on false false true n t line h = class_line_on n t (description_behind n ObjectClasses line)
    (λ d e. description_is n ObjectClasses (drop (length (heading_of ObjectClasses)) line) d e) h
line_on false false false n t line h = later n t.classes h

pub record HasSoundClasses (t : SchemaTextModel) : Type 0 where
  pub before : ℕ
  pub are_sound : AreSound before t.classes

lines_on : (t : SchemaTextModel) (n : ℕ) (ls : List (List ℕ)) → AreSound n t.classes →
    HasSoundClasses (read_from t n ls)
lines_on t n [] h = record { before = n; are_sound = h }
lines_on t n (l ∷ ls) h = lines_on (with_line t n l) (n + 1) ls (line_on (is_skipped l) (is_headed AttributeTypes l)
    (is_headed ObjectClasses l) n t l h)

pub classes_are_sound : (text : List ℕ) → HasSoundClasses (read_text text)
classes_are_sound text =
    let h = lines_on nothing 1 (lines_of text) (record { worded = tt; below = tt; rising = tt }) in
    record { before = h.before; are_sound = h.are_sound }
