-- Which host a request is for, and which hosts are served.
use Rattle.std.specs.Prelude.{ℕ, ◌==◌, List, [], ◌∷◌, Bool, true, false, ◌&&◌, Option, Some, None, option_map, take, drop, length}
use Rattle.std.specs.Prelude.{map, codes, bytes_eq}
use Rattle.std.specs.List.{list_any}
use Rattle.std.specs.Char.{to_ascii_lowercase}
use Rattle.http.specs.declared.request.Request.{Request as HttpRequest}
use Rattle.http.specs.Request.{head_of}
use Rattle.http_header.specs.HeaderMap.{get}
use Rattle.http_uri.specs.Grammar.{authority_host}
use Rattle.http_uri.specs.Uri.{uri_authority}

-- the names by which a client of this machine reaches it
abbrev pub local_hosts : List (List ℕ)
local_hosts = codes "127.0.0.1" ∷ codes "localhost" ∷ codes "[::1]" ∷ []

-- the text behind a host: nothing, or a colon, and any text as a port
abbrev pub ends_host : List ℕ → Bool
ends_host [] = true
ends_host (c ∷ rest) = c == 58

-- the letters in lower case
abbrev pub in_lowercase : List ℕ → List ℕ
in_lowercase text = map to_ascii_lowercase text

-- The text is the host, in any case of letters, alone or with a port: `LocalHost:8080` names `localhost`.
abbrev pub names_host : List ℕ → List ℕ → Bool
names_host text host =
    bytes_eq (in_lowercase (take (length host) text)) (in_lowercase host) && ends_host (drop (length host) text)

-- the text names one of these hosts
abbrev pub is_served : List (List ℕ) → List ℕ → Bool
is_served hosts text = list_any (names_host text) hosts

-- the host of the target if the target has one, and else that of the field `Host`
abbrev pub first_of : Option (List ℕ) → Option (List ℕ) → Option (List ℕ)
first_of (Some target) field = Some target
first_of None field = field

-- the host that a request names: that of the target without its user and port, that of the field as it is
abbrev pub host_of : HttpRequest (List ℕ) → Option (List ℕ)
host_of request = first_of (option_map authority_host (uri_authority (head_of request).uri))
    (option_map (λ v. v.bytes) (get (head_of request).headers (codes "host")))

-- there is a text, and it names one of these hosts
abbrev pub is_one_of : List (List ℕ) → Option (List ℕ) → Bool
is_one_of hosts None = false
is_one_of hosts (Some text) = is_served hosts text

-- the request is for one of these hosts
abbrev pub is_for_host : List (List ℕ) → HttpRequest (List ℕ) → Bool
is_for_host hosts request = is_one_of hosts (host_of request)
