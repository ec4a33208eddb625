-- The lines of an add, one by one.
use Rattle.std.proofs.Common.{◌≡◌, ℕ, ◌+◌, ◌<◌, Bor, List, [], ◌∷◌, ◌++◌, length, drop, get_or, Option, Some, None}
use Rattle.ldif.specs.Records.{ValueModel}
use Rattle.lab_script.specs.Each.{all_of}
use Rattle.lab_script.specs.Updates.{line_in}
use Rattle.lab_script.proofs.OneByOne.{after, text_more, text_none}

-- One more line.
pub line_more : (ps : List (Bor (List ℕ))) (i : ℕ) (p : Bor (List ℕ)) (done : List ValueModel) (v : ValueModel)
    (all : Option (List ValueModel)) → after done (all_of (λ (q : Bor (List ℕ)). line_in q.now) (drop i ps)) ≡ all →
    i < length ps → p ≡ get_or ps i p → Some v ≡ line_in p.now →
    after (done ++ v ∷ []) (all_of (λ (q : Bor (List ℕ)). line_in q.now) (drop (i + 1) ps)) ≡ all
line_more ps i p done v all h lt is he = text_more line_in ps i p done v all h lt is he

-- A piece that is no line.
pub line_none : (ps : List (Bor (List ℕ))) (i : ℕ) (p : Bor (List ℕ)) (done : List ValueModel)
    (all : Option (List ValueModel)) → after done (all_of (λ (q : Bor (List ℕ)). line_in q.now) (drop i ps)) ≡ all →
    i < length ps → p ≡ get_or ps i p → line_in p.now ≡ None → all ≡ None
line_none ps i p done all h lt is he = text_none line_in ps i p done all h lt is he
