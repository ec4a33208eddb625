-- An end that is asked again and again is awaited from the first question on.
use Rattle.std.proofs.Common.{◌≡◌, ℕ, ◌-◌, List, [], ◌∷◌, Bool, true, cond, Option, Some, refl, ap, ◌∙◌, arith}
use Rattle.std.proofs.lemmas.Bool.{le-leb}
use Rattle.replica_clock.specs.KeepAlive.{KeepAliveValue, asked, asked_at_all, is_past, waits_from, ASilentEndIsGone}

-- Once it is awaited, further questions leave since when, and how long it may take.
awaited : (silence first : ℕ) (moments : List ℕ) (k : KeepAliveValue) → k.answers ≡ true → k.waits_since ≡
    Some first → k.silence ≡ silence
    → ((asked_at_all moments k).waits_since ≡ Some first) × ((asked_at_all moments k).silence ≡ silence)
awaited silence first [] k a w s = (w, s)
awaited silence first (now ∷ moments) k a w s =
    awaited silence first moments (asked k now) a
    (ap (λ (b : Bool). cond b (Some (waits_from k.waits_since now)) k.waits_since) a
    ∙ ap (λ (o : Option ℕ). Some (waits_from o now)) w) s

pub gone : ASilentEndIsGone
gone k first moments now a none late =
    let begun : (asked k first).waits_since ≡ Some first =
    ap (λ (b : Bool). cond b (Some (waits_from k.waits_since first)) k.waits_since) a
    ∙ ap (λ (o : Option ℕ). Some (waits_from o first)) none in
    let r = awaited k.silence first moments (asked k first) a begun refl in
    ap (λ (n : ℕ). is_past n (asked_at_all moments (asked k first)).waits_since now) r.1
    ∙ ap (λ (o : Option ℕ). is_past k.silence o now) r.0
    ∙ le-leb k.silence (now - first) (omega (arith, late))
