-- The responses of a search, one after the other. Octets are not read here.
use Rattle.std.proofs.Common.{◌≡◌, ◌+◌, ◌-◌, ◌<◌, ◌≤◌, ◌^◌, inl, inr, arith, ℕ, List, [], ◌∷◌, ◌++◌, append_assoc, drop, get_or, map, length, sym, ap, ◌∙◌, subst, Result, Ok, Err}
use Rattle.std.specs.Prelude.{IfOk, IsErrOf}
use Rattle.request_checks.specs.ldap_msg.Messages.{MessageValue, search_entry}
use Rattle.request_checks.specs.ldap_msg.Written.{message_bytes, message_content}
use Rattle.std.proofs.lemmas.List.{drop_more, length-append, map-append}
use Rattle.directory_api.specs.FoundView.{found_view}
use Rattle.directory_api.specs.declared.found.FoundEntry.{FoundEntry}
use Rattle.request_checks.specs.Messages.{message, entry_messages, HasTooLong}
use Rattle.session_handler.specs.Rows.{cut, total}
use Rattle.session_handler.specs.Taken.{AreSaid}
use Rattle.session_handler.proofs.Cutting.{cut_more, total_more}
use Rattle.session_handler.specs.declared.answered.Answered.{Answered}
use Rattle.session_handler.specs.declared.answered.Next.{Next}
use Rattle.request_checks.specs.declared.fault.AnswerError.{AnswerError}
use Rattle.request_checks.specs.declared.fault.AnswerError.TheVariants.{TooLong}

pub too_long_front : (ms ns : List MessageValue) → HasTooLong ms → HasTooLong (ms ++ ns)
too_long_front [] ns h = absurd h
too_long_front (m ∷ ms) ns (inl h) = inl h
too_long_front (m ∷ ms) ns (inr h) = inr (too_long_front ms ns h)

too_long_last : (ms : List MessageValue) (m : MessageValue) → 2 ^ 32 ≤ length (message_content m) →
    HasTooLong (ms ++ m ∷ [])
too_long_last [] m h = inl h
too_long_last (x ∷ ms) m h = inr (too_long_last ms m h)

-- an error is said
pub said_error : (ms : List MessageValue) (next : Next) (e : AnswerError) → (e ≡ TooLong → HasTooLong ms) →
    AreSaid ms next (Err e)
said_error ms next e h = record { written = tt; next_is = tt; too_long = λ is. h (cc) }

-- responses and a last one, written
written_last : (ms : List MessageValue) (m n : MessageValue) (front all : List (List ℕ)) →
    all ≡ front ++ message_bytes m ∷ [] → front ≡ map message_bytes ms → m ≡ n → all ≡ map message_bytes (ms ++ n ∷ [])
written_last ms m n front all is front_is same =
    is ∙ ap (λ (l : List (List ℕ)). l ++ message_bytes m ∷ []) front_is
    ∙ ap (λ (x : MessageValue). map message_bytes ms ++ message_bytes x ∷ []) same
    ∙ sym (map-append message_bytes ms (n ∷ []))

pub said_last : (ms : List MessageValue) (m n : MessageValue) (front : List (List ℕ)) (next : Next)
    (result : Result Answered AnswerError) → front ≡ map message_bytes ms → m ≡ n →
    IfOk result (λ a. a.responses ≡ front ++ message_bytes m ∷ []) → IfOk result (λ a. a.next ≡ next) →
    (IsErrOf result TooLong → 2 ^ 32 ≤ length (message_content m)) → AreSaid (ms ++ n ∷ []) next result
said_last ms m n front next (Ok a) front_is same written next_is long = record {
  written = written_last ms m n front a.responses written front_is same;
  next_is = next_is;
  too_long = λ is. absurd (cc);
}
said_last ms m n front next (Err e) front_is same written next_is long = record {
  written = tt;
  next_is = tt;
  too_long = λ is. too_long_last ms n (subst (λ (x : MessageValue). 2 ^ 32 ≤ length (message_content x)) same
      (long is));
}

-- the response of the first entry is too long
pub first_too_long : (id : ℕ) (entries : List FoundEntry) (e : FoundEntry) (rest : List FoundEntry) →
    entries ≡ e ∷ rest → 2 ^ 32 ≤ length (message_content (message id (search_entry (found_view e)) []))
    → HasTooLong (entry_messages id (map found_view entries))
first_too_long id entries e rest is long = subst (λ (l : List FoundEntry). HasTooLong
    (entry_messages id (map found_view l))) (sym is) (inl long)

-- an error is the same in another result
pub same_error : {S T E : Type 0} (e f : E) → ◌≡◌ {A = Result T E} (Err e) (Err f) → ◌≡◌ {A = Result S E} (Err e)
    (Err f)
same_error e f h = let is : e ≡ f = cc in ap Err is

-- an entry of a list, and those behind it
opened : (entries : List FoundEntry) (i : ℕ) (e : FoundEntry) → i < length entries → e ≡ get_or entries i e →
    drop i entries ≡ e ∷ drop (i + 1) entries
opened entries i e lt is = drop_more entries i e lt ∙ ap (λ (x : FoundEntry). x ∷ drop (i + 1) entries) (sym is)

-- one more response, and those of the entries that are left then, are those of all entries
pub written_more : (id : ℕ) (entries : List FoundEntry) (i : ℕ) (e : FoundEntry) (ns octets ms new : List ℕ) (n : ℕ)
    (whole : List (List ℕ)) → i < length entries → e ≡ get_or entries i e
    → total ns ≡ length octets → new ≡ octets ++ message_bytes (message id (search_entry (found_view e)) []) →
    n ≡ length new - length octets → ms ≡ ns ++ n ∷ []
    → cut ns octets ++ map message_bytes (entry_messages id (map found_view (drop i entries))) ≡ whole
    → (total ms ≡ length new)
    × (cut ms new ++ map message_bytes (entry_messages id (map found_view (drop (i + 1) entries))) ≡ whole)
written_more id entries i e ns octets ms new n whole lt is sound more long added so_far =
    let row : List ℕ = message_bytes (message id (search_entry (found_view e)) []) in
    let rest : List (List ℕ) = map message_bytes (entry_messages id (map found_view (drop (i + 1) entries))) in
    let same : n ≡ length row = omega (arith, long, ap (λ (l : List ℕ). length l) more, length-append octets row) in (
      ap total added ∙ total_more ns octets row n sound same ∙ ap (λ (l : List ℕ). length l) (sym more),
      ap (λ (l : List ℕ). cut l new ++ rest) added
          ∙ ap (λ (l : List ℕ). cut (ns ++ n ∷ []) l ++ rest) more
          ∙ ap (λ (l : List (List ℕ)). l ++ rest) (cut_more ns octets row n sound same)
          ∙ append_assoc (cut ns octets) (row ∷ []) rest
          ∙ ap (λ (l : List FoundEntry). cut ns octets ++ map message_bytes (entry_messages id (map found_view l)))
          (sym (opened entries i e lt is))
          ∙ so_far,
    )

-- one that is too long, of the entries that are left, is one of those that were left
pub too_long_more : (id : ℕ) (entries : List FoundEntry) (i : ℕ) (e : FoundEntry) → i < length entries →
    e ≡ get_or entries i e
    → HasTooLong (entry_messages id (map found_view (drop (i + 1) entries))) →
    HasTooLong (entry_messages id (map found_view (drop i entries)))
too_long_more id entries i e lt is h = subst (λ (l : List FoundEntry). HasTooLong
    (entry_messages id (map found_view l))) (sym (opened entries i e lt is)) (inr h)

-- an entry that is too long is one of those that are left
pub too_long_at : (id : ℕ) (entries : List FoundEntry) (i : ℕ) (e : FoundEntry) → i < length entries →
    e ≡ get_or entries i e → 2 ^ 32 ≤ length (message_content (message id (search_entry (found_view e)) []))
    → HasTooLong (entry_messages id (map found_view (drop i entries)))
too_long_at id entries i e lt is long = first_too_long id (drop i entries) e (drop (i + 1) entries)
    (opened entries i e lt is) long
