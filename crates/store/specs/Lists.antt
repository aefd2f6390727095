-- Which requests are for the list of entries, what they ask for, and what is shown of entries.
use Rattle.std.specs.Prelude.{◌≡◌, ◌≤◌, ℕ, List, [], ◌++◌, map, codes, bytes_eq, Option, Some, None, option_map, unwrap_or}
use Rattle.std.specs.List.{find, join_by}
use Rattle.std.specs.Str.Lossy.{utf8_lossy}
use Rattle.std.specs.Str.Parse.{IsNumeral, digits_value, without_leading_plus}
use Rattle.form_urlencoded.specs.Form.{parse}
use Rattle.http.specs.declared.request.Request.{Request as HttpRequest}
use Rattle.http.specs.Request.{head_of}
use Rattle.http_uri.specs.Uri.{uri_query}
use Rattle.miniserde.specs.Tree.{str}
use Rattle.miniserde.specs.Compact.{compact}

-- the path is that of the list
abbrev pub IsList : List ℕ → Type 0
IsList path = path ≡ codes "/entries"

-- the query of a request, which is empty if there is none
abbrev pub query_of : HttpRequest (List ℕ) → List ℕ
query_of request = unwrap_or (uri_query (head_of request).uri) []

-- the parameters of a query: the names and values of a form, as texts (URL Standard, section 5.1)
abbrev pub parameters : List ℕ → List (List ℕ × List ℕ)
parameters query = map (λ p. (utf8_lossy p.0, utf8_lossy p.1)) (parse query)

-- the value of the first of these parameters that has the name, if there is one
abbrev pub first_value : List ℕ → List (List ℕ × List ℕ) → Option (List ℕ)
first_value name pairs = option_map (λ p. p.1) (find (λ p. bytes_eq p.0 name) pairs)

-- the value of the first parameter of a name in a query, if there is one
abbrev pub parameter : List ℕ → List ℕ → Option (List ℕ)
parameter name query = first_value name (parameters query)

-- the key from which on the list is: the parameter `from`, or else the empty text
abbrev pub start_of : List ℕ → List ℕ
start_of query = unwrap_or (parameter (codes "from") query) []

-- what a request gives as its limit is a number from 1 to 1000, in digits behind at most one plus, or is left out, for 100
abbrev pub IsLimit : Option (List ℕ) → ℕ → Type 0
IsLimit None limit = limit ≡ 100
IsLimit (Some text) limit =
    IsNumeral 10 (without_leading_plus text) × (limit ≡ digits_value 10 (without_leading_plus text)) × (1 ≤ limit) × (limit ≤ 1000)

-- the keys and texts of a page have fewer bytes than this before its last entry
abbrev pub max_page_bytes : ℕ
max_page_bytes = 65536

-- the query asks for at most this many entries
abbrev pub AsksFor : List ℕ → ℕ → Type 0
AsksFor query limit = IsLimit (parameter (codes "limit") query) limit

-- the member of an object for an entry: its key as a string, a colon, and its text as it is
abbrev pub member_text : List ℕ × List ℕ → List ℕ
member_text entry = compact (str entry.0) ++ codes ":" ++ entry.1

-- the object of entries: their members in braces, with commas between them
abbrev pub object_text : List (List ℕ × List ℕ) → List ℕ
object_text entries = codes "{" ++ join_by member_text (codes ",") entries ++ codes "}"
