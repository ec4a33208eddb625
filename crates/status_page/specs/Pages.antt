-- What the pages say: a page and a replica's figures come in, the octets of its response go out.
use Rattle.std.specs.Prelude.{ℕ, List, [], ◌∷◌, ◌++◌, length, Bool, true, false, if◌then◌else◌, codes, decimal}
use Rattle.status_page.specs.declared.asking.Page.{Page}
use Rattle.status_page.specs.declared.asking.Page.TheVariants as page
use Rattle.status_page.specs.declared.asking.Method.{Method}
use Rattle.status_page.specs.declared.asking.Method.TheVariants as method
use Rattle.status_page.specs.declared.figures.Start.{Start}
use Rattle.status_page.specs.declared.figures.Start.TheVariants as start
use Rattle.status_page.specs.declared.figures.Role.{Role}
use Rattle.status_page.specs.declared.figures.Role.TheVariants.{Primary, Backup, Changing, Recovering}
use Rattle.status_page.specs.declared.figures.Build.{Build}
use Rattle.status_page.specs.declared.figures.Build.TheVariants as build
use Rattle.status_page.specs.declared.figures.Trouble.{Trouble}
use Rattle.status_page.specs.declared.figures.Trouble.TheVariants as trouble
use Rattle.status_page.specs.declared.figures.Figures.{Figures}
use Rattle.status_page.specs.declared.figures.Counts.{Counts}
use Rattle.status_page.specs.Metrics.{counts_text}
use Rattle.status_page.specs.Samples.{figure, sample}

-- the word for a role
abbrev pub role_word : Role → List ℕ
role_word Primary = codes "primary"
role_word Backup = codes "backup"
role_word Changing = codes "changing"
role_word Recovering = codes "recovering"

-- the roles that serve clients
abbrev pub serves : Role → Bool
serves Primary = true
serves Backup = true
serves Changing = false
serves Recovering = false

-- whether the program's proofs were checked
abbrev pub proved_word : Build → List ℕ
proved_word build.Proved = codes "yes"
proved_word build.Unproved = codes "no"

-- a line with its end (RFC 9112 2.2)
abbrev pub line : List ℕ → List ℕ
line text = text ++ 13 ∷ 10 ∷ []

-- what a response of this status begins with, before a text of this length, after which the connection is closed
-- (RFC 9112 4, 6.2, 9.6)
abbrev pub head : List ℕ → ℕ → List ℕ
head status n =
    line (codes "HTTP/1.1 " ++ status)
    ++ line (codes "Content-Type: text/plain; version=0.0.4; charset=utf-8")
    ++ line (codes "Content-Length: " ++ decimal n)
    ++ line (codes "Connection: close")
    ++ line []

-- a response with its text; by HEAD the same without the text (RFC 9110 9.3.2)
abbrev pub response : Method → List ℕ → List ℕ → List ℕ
response method.Get status text = head status (length text) ++ text
response method.Head status text = head status (length text)

-- whether a replica has this role, as a number: 1 where it has, and 0 where not
abbrev pub has : Role → Role → ℕ
has Primary Primary = 1
has Backup Backup = 1
has Changing Changing = 1
has Recovering Recovering = 1
has own role = 0

-- a role's sample: 1 for the one that the replica has
abbrev pub role_sample : Role → Role → List ℕ
role_sample own role = sample (codes "dird_role{role=\"" ++ role_word role ++ codes "\"}") (has own role)

-- a sample for each role
abbrev pub role_samples : Role → List ℕ
role_samples own =
    role_sample own Primary ++ role_sample own Backup ++ role_sample own Changing ++ role_sample own Recovering

-- one sample, whose labels say the version, and whether the program's proofs were checked
abbrev pub build_sample : List ℕ → Build → List ℕ
build_sample version b =
    sample (codes "dird_build_info{version=\"" ++ version ++ codes "\",proved=\"" ++ proved_word b ++ codes "\"}") 1

-- how the program was built
abbrev pub build_text : List ℕ → Build → List ℕ
build_text version b =
    figure (codes "dird_build_info") (codes "The program's version, and whether its proofs were checked.")
    (codes "gauge")
    (build_sample version b)

-- whether the replica is in touch with a majority, as far as it is the primary and needs one
abbrev pub quorum : Trouble → ℕ
quorum trouble.None = 1
quorum trouble.Stuck = 1
quorum trouble.Hung = 1
quorum trouble.NoMajority = 0

-- what a replica does
abbrev pub replica_text : Figures → List ℕ
replica_text f =
    figure (codes "dird_role") (codes "What the replica does: 1 for its role, 0 for the others.") (codes "gauge")
    (role_samples f.role)
    ++ figure (codes "dird_view") (codes "The number of the replica's view.") (codes "gauge")
    (sample (codes "dird_view") f.view_number)
    ++ figure (codes "dird_last_update") (codes "The number of the last update that the replica has made.")
    (codes "gauge")
    (sample (codes "dird_last_update") f.last_update)
    ++ figure (codes "dird_sessions") (codes "How many clients are connected.") (codes "gauge")
    (sample (codes "dird_sessions") f.sessions)

-- how the program was built, and whether the replica has a majority
abbrev pub state_text : List ℕ → Figures → List ℕ
state_text version f =
    build_text version f.build
    ++ figure (codes "dird_quorum") (codes "0 where the replica is the primary and hears from no majority, else 1.")
    (codes "gauge")
    (sample (codes "dird_quorum") (quorum f.trouble))

-- how much a replica keeps
abbrev pub sizes_text : Figures → List ℕ
sizes_text f =
    figure (codes "dird_entries") (codes "How many entries the directory has.") (codes "gauge")
    (sample (codes "dird_entries") f.entries)
    ++ figure (codes "dird_log_entries") (codes "How many entries the log has, committed or not.") (codes "gauge")
    (sample (codes "dird_log_entries") f.log_length)

-- all figures of a replica, each once
abbrev pub metrics_text : List ℕ → Figures → Counts → List ℕ
metrics_text version f k = (state_text version f ++ replica_text f ++ sizes_text f) ++ counts_text k

-- a response of a replica that doesn't serve
abbrev pub unavailable : Method → List ℕ → List ℕ
unavailable how text = response how (codes "503 Service Unavailable") text

-- how much of its journal a replica has gone over, of how much
abbrev pub resuming_text : ℕ → ℕ → List ℕ → List ℕ
resuming_text n whole what =
    codes "resuming, " ++ decimal n ++ codes " of " ++ decimal whole ++ codes " " ++ what ++ codes "\n"

-- whether the replica serves clients: not before its start is over, then by its role
abbrev pub ready_since : Method → Start → Role → List ℕ
ready_since how start.Over role =
    response how (if serves role then codes "200 OK" else codes "503 Service Unavailable")
    (role_word role ++ codes "\n")
ready_since how (start.Reading n whole) role = unavailable how (resuming_text n whole (codes "octets"))
ready_since how (start.Resuming n whole) role = unavailable how (resuming_text n whole (codes "records"))

-- the same, where nothing keeps it from serving; else what does
abbrev pub ready_in : Method → Trouble → Start → Role → List ℕ
ready_in how trouble.None start role = ready_since how start role
ready_in how trouble.Stuck start role = unavailable how (codes "stuck\n")
ready_in how trouble.Hung start role = unavailable how (codes "stuck\n")
ready_in how trouble.NoMajority start role = unavailable how (codes "no majority\n")

-- whether the replica serves clients, and why not
abbrev pub ready_octets : Method → Figures → List ℕ
ready_octets how f = ready_in how f.trouble f.start f.role

-- whether the process lives: it does, unless one step has lasted so long that a supervisor had better end it
abbrev pub live_octets : Method → Trouble → List ℕ
live_octets how trouble.None = response how (codes "200 OK") (codes "live\n")
live_octets how trouble.Stuck = response how (codes "200 OK") (codes "live\n")
live_octets how trouble.Hung = unavailable how (codes "stuck\n")
live_octets how trouble.NoMajority = response how (codes "200 OK") (codes "live\n")

-- the response to a request for a page
abbrev pub page_octets : Method → Page → List ℕ → Figures → Counts → List ℕ
page_octets how page.Live version f k = live_octets how f.trouble
page_octets how page.Ready version f k = ready_octets how f
page_octets how page.Metrics version f k = response how (codes "200 OK") (metrics_text version f k)
page_octets how page.None version f k = response how (codes "404 Not Found") (codes "GET /live, /ready or /metrics\n")

-- the response to what is no request
abbrev pub bad_request_octets : List ℕ
bad_request_octets = response method.Get (codes "400 Bad Request") (codes "no request that is understood here\n")
