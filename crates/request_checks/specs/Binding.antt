-- What a bind comes to: RFC 4513 5.1.
use Rattle.std.specs.Prelude.{ℕ, pos, List, Bool, false, ◌&&◌, cond, Option, None, Some}
use Rattle.std.specs.Str.{bytes_eq}
use Rattle.std.specs.Ordering.{int_eq}
use Rattle.ldap_msg.specs.ldap_requests.Values.{AuthenticationValue, simple, sasl}
use Rattle.dir_entry.specs.ldap_schema.Schema.{SchemaModel}
use Rattle.dir_entry.specs.ldap_dn.Names.{RdnModel, rdns}
use Rattle.dir_entry.specs.ldap_dn.Texts.{name_of_text}
use Rattle.ldap_msg.specs.Messages.{BindRequestValue}
use Rattle.dir_entry.specs.ldap_dn.Names.{name_eq}
use Rattle.request_checks.specs.declared.identity.Identity.TheVariants.{Anonymous, Manager}
use Rattle.request_checks.specs.declared.bound.Bound.{Bound}
pub use Rattle.dir_entry.specs.ldap_words.Octets.{is_empty}

-- without a password: anonymous with success (0) without a name, else unwillingToPerform (53) (RFC 4513 5.1.1, 5.1.2)
abbrev pub bound_without_password : List ℕ → Bound
bound_without_password name = cond (is_empty name) (record { identity = Anonymous; code = 0 })
    (record { identity = Anonymous; code = 53 })

-- whether a text's name is the manager's, whatever its spelling
abbrev pub is_name_of : List RdnModel → Option (List RdnModel) → Bool
is_name_of manager None = false
is_name_of manager (Some name) = name_eq (rdns name) (rdns manager)

-- with a password: the manager's name and exact password give success (0), all else invalidCredentials (49) (RFC 4513
-- 5.1.3)
abbrev pub bound_with_password : SchemaModel → List RdnModel → List ℕ → List ℕ → List ℕ → Bound
bound_with_password s manager manager_password name password =
    cond (bytes_eq password manager_password && is_name_of manager (name_of_text s name))
    (record { identity = Manager; code = 0 }) (record { identity = Anonymous; code = 49 })

-- a simple bind (RFC 4513 5.1); authMethodNotSupported (7) for SASL (RFC 4511 Appendix A.2)
abbrev pub bound_by : SchemaModel → List RdnModel → List ℕ → List ℕ → AuthenticationValue → Bound
bound_by s manager manager_password name (simple password) =
    cond (is_empty password) (bound_without_password name) (bound_with_password s manager manager_password name
    password)
bound_by s manager manager_password name (sasl credentials) = record { identity = Anonymous; code = 7 }

-- What a bind comes to where the manager has this name and password, who is bound and the result code: protocolError
-- (2) for a version other than 3, else by its authentication (RFC 4511 4.2). A bind that fails leaves the session
-- anonymous (RFC 4513 4).
abbrev pub bound : SchemaModel → List RdnModel → List ℕ → BindRequestValue → Bound
bound s manager manager_password b =
    cond (int_eq b.version (pos 3)) (bound_by s manager manager_password b.name b.authentication)
    (record { identity = Anonymous; code = 2 })
