-- Lab scripts: which line is which event.
use Rattle.std.specs.Prelude.{◌≡◌, ℕ, ◌==◌, ◌||◌, cond, List, [], ◌∷◌, Option, Some, None, option_map, option_and_then, codes, bytes_eq}
use Rattle.dir_lab.specs.ldap_op.Values.{OpValue}
use Rattle.dir_lab.specs.dir_search.ldap_msg.Messages.{SearchRequestValue}
use Rattle.dir_lab.specs.vr_world.declared.events.WorldEvent.TheVariants as world
use Rattle.lab_script.specs.Cuts.{Cut, cut}
use Rattle.lab_script.specs.Each.{all_of}
use Rattle.lab_script.specs.Updates.{IsUpdateText}
use Rattle.lab_script.specs.Searches.{IsSearchText}
use Rattle.lab_script.specs.declared.token.Token.{Token}
use Rattle.lab_script.specs.declared.token.Token.TheVariants.{Replicas, Deliver, Suspect, Beat, Crash, Recover, Resume, State, Number}
use Rattle.lab_script.specs.Events.{EventValue, happens, search, state}
use Rattle.lab_script.specs.Words.{Numbered, greatest, number_then, tokens_of, words_of}

-- `replicas N`, the first line: 3, 5 or 7 replicas.
abbrev pub replicas_of : List Token → Option ℕ
replicas_of (Replicas ∷ Number n ∷ []) = cond (n == 3 || n == 5 || n == 7) (Some n) None
replicas_of _ = None

-- How many replicas the first line names.
abbrev pub first_line : List ℕ → Option ℕ
first_line line = option_and_then replicas_of (tokens_of (words_of line))

-- ---- lines of words and numbers alone

-- The message with a number comes.
abbrev pub delivery_of : Token → Option EventValue
delivery_of (Number k) = Some (happens (world.Deliver k))
delivery_of _ = None

-- `K ..`: messages by their numbers, one at least.
abbrev pub deliveries_of : List Token → Option (List EventValue)
deliveries_of [] = None
deliveries_of (t ∷ ts) = all_of delivery_of (t ∷ ts)

-- Replica r goes on from its journal, with at most k updates committed.
abbrev pub resumes : ℕ → ℕ → EventValue
resumes r k = happens (world.Resume r k)

-- `deliver K ..`, `suspect R`, `beat R`, `crash R`, `recover R X`, `resume R`, `resume R K` and `state R`, and no other
-- line of these.
abbrev pub events_of : List Token → Option (List EventValue)
events_of (Deliver ∷ ts) = deliveries_of ts
events_of (Suspect ∷ Number r ∷ []) = Some (happens (world.Suspect r) ∷ [])
events_of (Beat ∷ Number r ∷ []) = Some (happens (world.Beat r) ∷ [])
events_of (Crash ∷ Number r ∷ []) = Some (happens (world.Crash r) ∷ [])
events_of (Recover ∷ Number r ∷ Number x ∷ []) = Some (happens (world.Recover r x) ∷ [])
events_of (Resume ∷ Number r ∷ []) = Some (resumes r greatest ∷ [])
events_of (Resume ∷ Number r ∷ Number k ∷ []) = Some (resumes r k ∷ [])
events_of (State ∷ Number r ∷ []) = Some (state r ∷ [])
events_of _ = None

-- The events of words between single spaces.
abbrev pub events_by_words : List ℕ → Option (List EventValue)
events_by_words line = option_and_then events_of (tokens_of (words_of line))

-- ---- `request R C N OP`

-- three numbers, and what stands behind the third and one space
pub record RequestParts : Type 0 where
  pub replica : ℕ
  pub client : ℕ
  pub number : ℕ
  pub text : List ℕ

-- the parts of a request, behind its word
abbrev pub request_parts : List ℕ → Option RequestParts
request_parts rest =
    option_and_then (λ r. option_and_then
    (λ k. option_map (λ n. record { replica = r.number; client = k.number; number = n.number; text = n.rest })
    (number_then k.rest)) (number_then r.rest)) (number_then rest)

-- A client, which names itself, asks a replica for an update as its request of this number.
abbrev pub requested : ℕ → ℕ → ℕ → OpValue → EventValue
requested r k n op =
    happens (world.Request r (record {
      client = record { home = 0; life = 0; number = k };
      request_number =
          n;
      payload = op;
    }))

-- the request of these parts: the update is the one that their text writes
pub record IsRequestOf (parts : RequestParts) (e : EventValue) : Type 0 where
  pub op : OpValue
  pub writes : IsUpdateText parts.text op
  pub asks : e ≡ requested parts.replica parts.client parts.number op

-- a request, behind its word
pub record IsRequest (rest : List ℕ) (e : EventValue) : Type 0 where
  pub parts : RequestParts
  pub is_cut : request_parts rest ≡ Some parts
  pub is_request : IsRequestOf parts e

-- ---- `search R NAMED BASE|SCOPE|FILTER`

-- two numbers, and what stands behind the second and one space
pub record SearchParts : Type 0 where
  pub replica : ℕ
  pub named : ℕ
  pub text : List ℕ

-- the parts of a search, behind its word
abbrev pub search_parts : List ℕ → Option SearchParts
search_parts rest =
    option_and_then (λ r. option_map (λ n. record { replica = r.number; named = n.number; text = n.rest })
    (number_then r.rest)) (number_then rest)

-- the search of these parts: the request is the one that their text writes
pub record IsSearchOf (parts : SearchParts) (e : EventValue) : Type 0 where
  pub request : SearchRequestValue
  pub writes : IsSearchText parts.text request
  pub asks : e ≡ search parts.replica parts.named request

-- a search, behind its word
pub record IsSearch (rest : List ℕ) (e : EventValue) : Type 0 where
  pub parts : SearchParts
  pub is_cut : search_parts rest ≡ Some parts
  pub is_search : IsSearchOf parts e

-- ---- lines

-- what a line is by its first word, and what stands behind that and one space
pub data LineKind : Type 0 where
  request_line : List ℕ → LineKind
  search_line : List ℕ → LineKind
  plain_line : LineKind

-- a line that has a space, or none
abbrev pub kind_cut : Option Cut → LineKind
kind_cut None = plain_line
kind_cut (Some k) =
    cond (bytes_eq k.front (codes "request")) (request_line k.behind)
    (cond (bytes_eq k.front (codes "search")) (search_line k.behind) plain_line)

-- a line, by what stands before its first space
abbrev pub kind_of : List ℕ → LineKind
kind_of line = kind_cut (cut 32 line)

-- this event alone
pub record IsOne (Is : EventValue → Type 0) (es : List EventValue) : Type 0 where
  pub one : EventValue
  pub is : Is one
  pub alone : es ≡ one ∷ []

-- the events of a line of each kind
abbrev pub IsLineOf : LineKind → List ℕ → List EventValue → Type 0
IsLineOf (request_line rest) line es = IsOne (IsRequest rest) es
IsLineOf (search_line rest) line es = IsOne (IsSearch rest) es
IsLineOf plain_line line es = events_by_words line ≡ Some es

-- The events that a line after the first names: `request R C N OP`, `search R NAMED BASE|SCOPE|FILTER`, `deliver K ..`,
-- `suspect R`, `beat R`, `crash R`, `recover R X`, `resume R`, `resume R K` and `state R`, and no other line.
abbrev pub IsLine : List ℕ → List EventValue → Type 0
IsLine line es = IsLineOf (kind_of line) line es
