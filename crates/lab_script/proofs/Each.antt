-- Words of a line that are read one by one.
use Rattle.std.proofs.Common.{◌≡◌, ℕ, ◌+◌, ◌<◌, ◌≤◌, Bor, List, [], ◌∷◌, ◌++◌, map, length, drop, get_or, Option, Some, None, refl, sym, ap, ◌∙◌, arith}
use Rattle.std.proofs.lemmas.List.{map-append}
use Rattle.dir_lab.specs.declared.events.LabEvent.{LabEvent}
use Rattle.lab_script.specs.Each.{all_of}
use Rattle.lab_script.proofs.OneByOne.{after, more, nothing, all_read, text_more, text_none}
use Rattle.lab_script.specs.Events.{EventValue, event_view}
use Rattle.lab_script.specs.Lines.{delivery_of, deliveries_of}
use Rattle.lab_script.specs.Words.{token_of}
use Rattle.lab_script.specs.declared.token.Token.{Token}

-- what events in memory stand for
abbrev pub views : List LabEvent → List EventValue
views es = map event_view es

-- one more event
views_more : (done new : List LabEvent) (e : LabEvent) → new ≡ done ++ e ∷ [] → views new ≡ views done ++ event_view
    e ∷ []
views_more done new e is = ap views is ∙ map-append event_view done (e ∷ [])

-- One more delivery.
pub delivery_more : (ts : List Token) (i : ℕ) (t : Token) (done new : List LabEvent) (e : LabEvent)
    (all : Option (List EventValue)) → after (views done) (all_of delivery_of (drop i ts)) ≡ all → i < length ts →
    t ≡ get_or ts i t → delivery_of t ≡ Some (event_view e) → new ≡ done ++ e ∷ [] →
    after (views new) (all_of delivery_of (drop (i + 1) ts)) ≡ all
delivery_more ts i t done new e all h lt is he put =
    ap (λ (vs : List EventValue). after vs (all_of delivery_of (drop (i + 1) ts))) (views_more done new e put)
    ∙ more delivery_of ts i t (views done) (event_view e) all h lt (sym he ∙ ap delivery_of is)

-- No delivery.
pub delivery_none : (ts : List Token) (i : ℕ) (t : Token) (done : List LabEvent) (all : Option (List EventValue)) →
    after (views done) (all_of delivery_of (drop i ts)) ≡ all → i < length ts → t ≡ get_or ts i t → delivery_of t ≡
    None → all ≡ None
delivery_none ts i t done all h lt is he = nothing delivery_of ts i t (views done) all h lt (sym he ∙ ap delivery_of is)

-- All of one at least.
pub deliveries_are : (ts : List Token) → 0 < length ts → all_of delivery_of ts ≡ deliveries_of ts
deliveries_are [] h = absurd (omega arith)
deliveries_are (t ∷ ts) h = refl

-- All deliveries are read.
pub deliveries_read : (ts : List Token) (i : ℕ) (done : List LabEvent) →
    after (views done) (all_of delivery_of (drop i ts)) ≡ all_of delivery_of ts → length ts ≤ i → 0 < length ts →
    deliveries_of ts ≡ Some (views done)
deliveries_read ts i done h le some = sym (deliveries_are ts some)
    ∙ sym (all_read delivery_of ts i (views done) (all_of delivery_of ts) h le)

-- One more word.
pub word_more : (ws : List (Bor (List ℕ))) (i : ℕ) (w : Bor (List ℕ)) (done : List Token) (t : Token)
    (all : Option (List Token)) → after done (all_of (λ (v : Bor (List ℕ)). token_of v.now) (drop i ws)) ≡ all →
    i < length ws → w ≡ get_or ws i w → Some t ≡ token_of w.now →
    after (done ++ t ∷ []) (all_of (λ (v : Bor (List ℕ)). token_of v.now) (drop (i + 1) ws)) ≡ all
word_more ws i w done t all h lt is he = text_more token_of ws i w done t all h lt is he

-- A word that says nothing.
pub word_none : (ws : List (Bor (List ℕ))) (i : ℕ) (w : Bor (List ℕ)) (done : List Token)
    (all : Option (List Token)) → after done (all_of (λ (v : Bor (List ℕ)). token_of v.now) (drop i ws)) ≡ all →
    i < length ws → w ≡ get_or ws i w → None ≡ token_of w.now → all ≡ None
word_none ws i w done all h lt is he = text_none token_of ws i w done all h lt is (sym he)
