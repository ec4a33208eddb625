-- Filter texts, scanning: from each place some text goes on to a filter's, so the scanner stops behind the longest
-- front.
use Rattle.std.proofs.Common.{◌≡◌, ℕ, ◌+◌, ◌<◌, ◌≤◌, zero, suc, List, [], ◌∷◌, ◌++◌, length, take, Bool, true, false, cond, Option, None, Some, refl, sym, ap, subst, ◌∙◌, arith}
use Rattle.ldap_filter.specs.Tree.{Tree}
use Rattle.filter_text.specs.Grammar.{IsFilterText}
use Rattle.filter_text.specs.private.Machine.{holds, run, accepts, goes_on, stops}
use Rattle.filter_text.specs.Longest.{Begins, IsLongestFront}
use Rattle.filter_text.specs.private.ItemScan.{item_step, item_ends}
use Rattle.filter_text.specs.private.FilterScan.{at, filter_step, filter_ends}
use Rattle.filter_text.specs.declared.place.OidPlace.{OidPlace}
use Rattle.filter_text.specs.declared.place.OidPlace.TheVariants.{Letters, Zero, Number, Dot, DottedZero, DottedNumber}
use Rattle.filter_text.specs.declared.place.NamePlace.{NamePlace}
use Rattle.filter_text.specs.declared.place.NamePlace.TheVariants.{Oid, Semicolon, Keys}
use Rattle.filter_text.specs.declared.place.ValuePlace.{ValuePlace}
use Rattle.filter_text.specs.declared.place.ValuePlace.TheVariants.{Between, Escape, Half}
use Rattle.filter_text.specs.declared.place.Word.{Word}
use Rattle.filter_text.specs.declared.place.Word.TheVariants.{OnlyD, Dn, Other}
use Rattle.filter_text.specs.declared.place.ItemPlace.{ItemPlace}
use Rattle.filter_text.specs.declared.place.ItemPlace.TheVariants.{Start, Name, Sign, Plain, Part, Star, BareColon, Colon, Rule, DnColon, LastRule, Assign}
use Rattle.filter_text.specs.declared.place.Around.{Around}
use Rattle.filter_text.specs.declared.place.Around.TheVariants.{Row, Negation}
use Rattle.filter_text.specs.declared.place.ScanState.{ScanState}
use Rattle.filter_text.specs.declared.place.ScanState.TheVariants.{Opening, Inside, InItem, Behind}
use Rattle.filter_text.proofs.Machines.{false_true, none_some, some_same, one_step}
use Rattle.filter_text.proofs.FilterRuns.{item_close, filter_accepted, accepted_filter}
use Rattle.std.specs.Option.{option_and_then}

-- ---- what goes on to an item's text

abbrev finish_oid : OidPlace → List ℕ
finish_oid Letters = []
finish_oid Zero = 46 ∷ 48 ∷ []
finish_oid Number = 46 ∷ 48 ∷ []
finish_oid Dot = 48 ∷ []
finish_oid DottedZero = []
finish_oid DottedNumber = []

abbrev finish_name : NamePlace → List ℕ
finish_name (Oid o) = finish_oid o
finish_name Semicolon = 97 ∷ []
finish_name Keys = []

abbrev finish_value : ValuePlace → List ℕ
finish_value Between = []
finish_value Escape = 48 ∷ 48 ∷ []
finish_value Half = 48 ∷ []

abbrev finish_item : ItemPlace → List ℕ
finish_item Start = 97 ∷ 61 ∷ []
finish_item (Name n) = finish_name n ++ 61 ∷ []
finish_item Sign = 61 ∷ []
finish_item (Plain v) = finish_value v
finish_item (Part v) = finish_value v
finish_item Star = []
finish_item BareColon = 97 ∷ 58 ∷ 61 ∷ []
finish_item Colon = 61 ∷ []
finish_item (Rule w o) = finish_oid o ++ 58 ∷ 61 ∷ []
finish_item DnColon = 61 ∷ []
finish_item (LastRule o) = finish_oid o ++ 58 ∷ 61 ∷ []
finish_item Assign = 61 ∷ []

name_live : (n : NamePlace) → accepts item_step item_ends (Name n) (finish_name n ++ 61 ∷ []) ≡ true
name_live (Oid Letters) = refl
name_live (Oid Zero) = refl
name_live (Oid Number) = refl
name_live (Oid Dot) = refl
name_live (Oid DottedZero) = refl
name_live (Oid DottedNumber) = refl
name_live Semicolon = refl
name_live Keys = refl

word_live : (w : Word) (o : OidPlace) → accepts item_step item_ends (Rule w o) (finish_oid o ++ 58 ∷ 61 ∷ []) ≡ true
word_live OnlyD Letters = refl
word_live OnlyD Zero = refl
word_live OnlyD Number = refl
word_live OnlyD Dot = refl
word_live OnlyD DottedZero = refl
word_live OnlyD DottedNumber = refl
word_live Dn Letters = refl
word_live Dn Zero = refl
word_live Dn Number = refl
word_live Dn Dot = refl
word_live Dn DottedZero = refl
word_live Dn DottedNumber = refl
word_live Other Letters = refl
word_live Other Zero = refl
word_live Other Number = refl
word_live Other Dot = refl
word_live Other DottedZero = refl
word_live Other DottedNumber = refl

last_live : (o : OidPlace) → accepts item_step item_ends (LastRule o) (finish_oid o ++ 58 ∷ 61 ∷ []) ≡ true
last_live Letters = refl
last_live Zero = refl
last_live Number = refl
last_live Dot = refl
last_live DottedZero = refl
last_live DottedNumber = refl

item_live : (s : ItemPlace) → accepts item_step item_ends s (finish_item s) ≡ true
item_live Start = refl
item_live (Name n) = name_live n
item_live Sign = refl
item_live (Plain Between) = refl
item_live (Plain Escape) = refl
item_live (Plain Half) = refl
item_live (Part Between) = refl
item_live (Part Escape) = refl
item_live (Part Half) = refl
item_live Star = refl
item_live BareColon = refl
item_live Colon = refl
item_live (Rule w o) = word_live w o
item_live DnColon = refl
item_live (LastRule o) = last_live o
item_live Assign = refl

-- ---- what goes on to a filter's text

abbrev closing : List Around → List ℕ
closing [] = []
closing (a ∷ around) = 41 ∷ closing around

closing_live : (around : List Around) → accepts filter_step filter_ends (at Behind around) (closing around) ≡ true
closing_live [] = refl
closing_live (Row ∷ around) = closing_live around
closing_live (Negation ∷ around) = closing_live around

abbrev finish : ScanState → List Around → List ℕ
finish Opening around = 40 ∷ 38 ∷ 41 ∷ closing around
finish Inside around = 38 ∷ 41 ∷ closing around
finish (InItem s) around = finish_item s ++ 41 ∷ closing around
finish Behind around = closing around

live_at : (p : ScanState) (around : List Around) → accepts filter_step filter_ends (at p around) (finish p around) ≡
    true
live_at Opening around = closing_live around
live_at Inside around = closing_live around
live_at (InItem s) around = ap (holds filter_ends) (item_close around s (finish_item s) (closing around)
    (item_live s)) ∙ closing_live around
live_at Behind around = closing_live around

-- ---- where a machine stops whose every place goes on to a text

record IsStop {S : Type 0} (step : S → ℕ → Option S) (ends : S → Bool) (s : S) (text : List ℕ) (m : ℕ) : Type 0 where
  inside : m ≤ length text
  more : List ℕ
  completes : accepts step ends s (take m text ++ more) ≡ true
  no_more : (n : ℕ) → m < n → n ≤ length text → (rest : List ℕ) → accepts step ends s (take n text ++ rest) ≡ true → ⊥
  refuses : accepts step ends s text ≡ true → ⊥

record StopsAt {S : Type 0} (step : S → ℕ → Option S) (ends : S → Bool) (s : S) (text : List ℕ) (k n : ℕ) : Type 0 where
  count : ℕ
  sums : n ≡ k + count
  is : IsStop step ends s text count

abbrev Goes : {S : Type 0} → (S → ℕ → Option S) → (S → Bool) → Type 0
Goes {S} step ends = (s : S) → (text : List ℕ) × (accepts step ends s text ≡ true)

end_at : {S : Type 0} (step : S → ℕ → Option S) (ends : S → Bool) → Goes step ends → (b : Bool) (s : S) (k n : ℕ) →
    ends s ≡ b → cond b None (Some k) ≡ Some n → StopsAt step ends s [] k n
end_at step ends goes true s k n e h = absurd (none_some h)
end_at step ends goes false s k n e h = record {
  count = 0;
  sums = omega (arith, some_same h);
  is = record {
    inside = omega arith;
    more = (goes s).0;
    completes = (goes s).1;
    no_more = λ m p q rest a. omega (arith, p, q);
    refuses = λ a. false_true (sym e ∙ a);
  };
}

stuck : {S : Type 0} (step : S → ℕ → Option S) (ends : S → Bool) (s : S) (c : ℕ) (cs : List ℕ) → step s c ≡ None →
    (n : ℕ) → 0 < n → (rest : List ℕ) → accepts step ends s (take n (c ∷ cs) ++ rest) ≡ true → ⊥
stuck step ends s c cs e zero p rest a = omega (arith, p)
stuck step ends s c cs e (suc n) p rest a =
    false_true (sym (ap (λ o. holds ends (option_and_then (λ t. run step t (take n cs ++ rest)) o)) e) ∙ a)

beyond : {S : Type 0} (step : S → ℕ → Option S) (ends : S → Bool) (s t : S) (c : ℕ) (cs : List ℕ) (m : ℕ) →
    step s c ≡ Some t → IsStop step ends t cs m
    → (n : ℕ) → suc m < n → n ≤ length (c ∷ cs) → (rest : List ℕ) → accepts step ends s (take n (c ∷ cs) ++ rest) ≡
    true → ⊥
beyond step ends s t c cs m e i zero p q rest a = omega (arith, p)
beyond step ends s t c cs m e i (suc n) p q rest a = i.no_more n (omega (arith, p)) (omega (arith, q)) rest
    (sym (ap (holds ends) (one_step step s t c (take n cs ++ rest) e)) ∙ a)

step_at : {S : Type 0} (step : S → ℕ → Option S) (ends : S → Bool) → Goes step ends → (o : Option S) (s : S) (c : ℕ)
    (cs : List ℕ) (k n : ℕ) → step s c ≡ o
    → ((t : S) → stops step ends (k + 1) t cs ≡ Some n → StopsAt step ends t cs (k + 1) n)
    → goes_on k o (λ t. stops step ends (k + 1) t cs) ≡ Some n → StopsAt step ends s (c ∷ cs) k n
step_at step ends goes None s c cs k n e more h = record {
  count = 0;
  sums = omega (arith, some_same h);
  is = record {
    inside = omega arith;
    more = (goes s).0;
    completes = (goes s).1;
    no_more = λ m p q rest a. stuck step ends s c cs e m p rest a;
    refuses = λ a. false_true (sym (ap (λ o. holds ends (option_and_then (λ t. run step t cs) o)) e) ∙ a);
  };
}
step_at step ends goes (Some t) s c cs k n e more h =
    let f = more t h in
    record {
      count = suc f.count;
      sums = omega (arith, f.sums);
      is = record {
        inside = omega (arith, f.is.inside);
        more = f.is.more;
        completes = ap (holds ends) (one_step step s t c (take f.count cs ++ f.is.more) e) ∙ f.is.completes;
        no_more = λ m p q rest a. beyond step ends s t c cs f.count e f.is m p q rest a;
        refuses = λ a. f.is.refuses (sym (ap (holds ends) (one_step step s t c cs e)) ∙ a);
      };
    }

stops_is : {S : Type 0} (step : S → ℕ → Option S) (ends : S → Bool) → Goes step ends → (k : ℕ) (s : S) (text : List ℕ)
    (n : ℕ) → stops step ends k s text ≡ Some n → StopsAt step ends s text k n
stops_is step ends goes k s [] n h = end_at step ends goes (ends s) s k n refl h
stops_is step ends goes k s (c ∷ cs) n h = step_at step ends goes (step s c) s c cs k n refl
    (λ t g. stops_is step ends goes (k + 1) t cs n g) h

-- where it does not stop, the text is accepted

end_none : (b : Bool) (k : ℕ) → cond b None (Some k) ≡ None → b ≡ true
end_none true k h = refl
end_none false k h = absurd (none_some (sym h))

none_at : {S : Type 0} (step : S → ℕ → Option S) (ends : S → Bool) (o : Option S) (s : S) (c : ℕ) (cs : List ℕ)
    (k : ℕ) → step s c ≡ o
    → ((t : S) → stops step ends (k + 1) t cs ≡ None → accepts step ends t cs ≡ true)
    → goes_on k o (λ t. stops step ends (k + 1) t cs) ≡ None → accepts step ends s (c ∷ cs) ≡ true
none_at step ends None s c cs k e more h = absurd (none_some (sym h))
none_at step ends (Some t) s c cs k e more h = ap (holds ends) (one_step step s t c cs e) ∙ more t h

none_accepts : {S : Type 0} (step : S → ℕ → Option S) (ends : S → Bool) (k : ℕ) (s : S) (text : List ℕ) →
    stops step ends k s text ≡ None → accepts step ends s text ≡ true
none_accepts step ends k s [] h = end_none (ends s) k h
none_accepts step ends k s (c ∷ cs) h = none_at step ends (step s c) s c cs k refl (λ t g. none_accepts step ends
    (k + 1) t cs g) h

-- ---- the scanner of filters

abbrev pub scanned : List ℕ → Option ℕ
scanned text = stops filter_step filter_ends 0 (at Opening []) text

goes : Goes filter_step filter_ends
goes s = (finish s.place s.around, live_at s.place s.around)

begins : (text : List ℕ) (n : ℕ) (rest : List ℕ) → accepts filter_step filter_ends (at Opening [])
    (take n text ++ rest) ≡ true → Begins text n
begins text n rest h = let f = accepted_filter (take n text ++ rest) h in (f.0, rest, f.1)

longest : (text : List ℕ) (n : ℕ) → IsStop filter_step filter_ends (at Opening []) text n → IsLongestFront text n
longest text n s = record {
  within = s.inside;
  begins = begins text n s.more s.completes;
  longest = λ m p q b. s.no_more m p q b.1 (filter_accepted b.0 (take m text ++ b.1) b.2);
}

pub stopped_longest : (text : List ℕ) (n : ℕ) → scanned text ≡ Some n → IsLongestFront text n
stopped_longest text n h =
    let s = stops_is filter_step filter_ends goes 0 (at Opening []) text n h in
    let e : n ≡ s.count = omega (arith, s.sums) in
    subst (IsLongestFront text) (sym e) (longest text s.count s.is)

pub stopped_no_text : (text : List ℕ) (n : ℕ) → scanned text ≡ Some n → (t : Tree) → IsFilterText t text → ⊥
stopped_no_text text n h t p = let s = stops_is filter_step filter_ends goes 0 (at Opening []) text n h
    in s.is.refuses (filter_accepted t text p)

pub passed_text : (text : List ℕ) → scanned text ≡ None → (t : Tree) × IsFilterText t text
passed_text text h = accepted_filter text (none_accepts filter_step filter_ends 0 (at Opening []) text h)
