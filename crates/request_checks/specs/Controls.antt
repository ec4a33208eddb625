-- The controls of a request: RFC 4511 4.1.11.
use Rattle.std.specs.Prelude.{ℕ, List, [], ◌∷◌, Bool, false, ◌&&◌, ◌||◌, not, cond, filter, codes, Option, None, Some, Result, Ok, Err}
use Rattle.std.specs.List.{list_any}
use Rattle.std.specs.Str.{bytes_eq}
use Rattle.ldap_msg.specs.ldap_parts.Values.{ControlValue}
use Rattle.request_checks.specs.Numbers.{number_of, pair_of}
use Rattle.request_checks.specs.declared.controls.Kind.{Kind}
use Rattle.request_checks.specs.declared.controls.Kind.TheVariants.{Read, Update, Other}
use Rattle.request_checks.specs.declared.controls.Named.{Named}

-- the control that names the number of an update: a read is of a state no older, and the response tells the number
-- reached
abbrev pub number_control : List ℕ
number_control = codes "2.25.20120101"

-- the control that names a client and the number of its request, of an update
abbrev pub request_control : List ℕ
request_control = codes "2.25.20120102"

-- whether a control is of this type
abbrev pub is_of : List ℕ → ControlValue → Bool
is_of oid c = bytes_eq c.control_type oid

-- whether a control has a meaning on a request of this kind
abbrev pub has_meaning : Kind → ControlValue → Bool
has_meaning Read c = is_of number_control c
has_meaning Update c = is_of number_control c || is_of request_control c
has_meaning Other c = false

-- whether some control is critical and has no meaning there (RFC 4511 4.1.11)
abbrev pub is_unavailable : Kind → List ControlValue → Bool
is_unavailable kind controls = list_any (λ c. c.criticality && not (has_meaning kind c)) controls

-- what is read of a control's value; protocolError (2) where there is none, or it can't be read
abbrev pub read_value : {A : Type 0} → Option A → Result (Option A) ℕ
read_value None = Err 2
read_value (Some x) = Ok (Some x)

-- what a control's value says; code 2 where it has none
abbrev pub value_of : {A : Type 0} → (List ℕ → Option A) → Option (List ℕ) → Result (Option A) ℕ
value_of reads None = Err 2
value_of reads (Some value) = read_value (reads value)

-- what the controls of one type name: nothing without one; protocolError (2) where there are two
abbrev pub named_by : {A : Type 0} → (List ℕ → Option A) → List ControlValue → Result (Option A) ℕ
named_by reads [] = Ok None
named_by reads (c ∷ []) = value_of reads c.value
named_by reads (c ∷ d ∷ cs) = Err 2

-- the number with a request, or the request's code
abbrev pub with_request : Option ℕ → Result (Option (ℕ × ℕ)) ℕ → Result Named ℕ
with_request number (Err code) = Err code
with_request number (Ok request) = Ok (record { number = number; request = request })

-- the number's code first, then the request's
abbrev pub with_number : Result (Option ℕ) ℕ → Result (Option (ℕ × ℕ)) ℕ → Result Named ℕ
with_number (Err code) request = Err code
with_number (Ok number) request = with_request number request

-- the number that a control names, if one does
abbrev pub number_named : List ControlValue → Result (Option ℕ) ℕ
number_named controls = named_by number_of (filter (is_of number_control) controls)

-- the request that a control names, if one does
abbrev pub request_named : List ControlValue → Result (Option (ℕ × ℕ)) ℕ
request_named controls = named_by pair_of (filter (is_of request_control) controls)

-- what controls name on a request of a kind: a number on each that reads or updates, a request on an update
abbrev pub named_in : Kind → List ControlValue → Result Named ℕ
named_in Read controls = with_number (number_named controls) (Ok None)
named_in Update controls = with_number (number_named controls) (request_named controls)
named_in Other controls = Ok (record { number = None; request = None })

-- What the controls of a request come to: unavailableCriticalExtension (12) for a critical one without meaning there,
-- else protocolError (2) for one with a meaning that is repeated or can't be read, else what they name. One without
-- meaning is ignored.
abbrev pub judged : Kind → List ControlValue → Result Named ℕ
judged kind controls = cond (is_unavailable kind controls) (Err 12) (named_in kind controls)
