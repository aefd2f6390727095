-- Which requests are for an entry, and by which method.
use Rattle.std.specs.Prelude.{◌≡◌, ◌≢◌, ◌⊎◌, ℕ, List, [], take, drop, codes, IsUtf8}
use Rattle.http.specs.declared.request.Request.{Request as HttpRequest}
use Rattle.http.specs.Request.{head_of}
use Rattle.http_header.specs.FieldValue.{FieldValue}
use Rattle.http_header.specs.HeaderMap.{Entries}
use Rattle.http_uri.specs.Uri.{uri_path}
use Rattle.percent_encoding.specs.Percent.{percent_decode}

-- what the path of an entry begins with
abbrev pub entries_path : List ℕ
entries_path = codes "/entries/"

-- The path is that of an entry: behind `/entries/` it has the key, percent-encoded. A key is a text of UTF-8 that is not
-- empty, and may have slashes.
pub record IsEntry (path key : List ℕ) : Type 0 where
  pub below : take 9 path ≡ entries_path
  pub decoded : percent_decode (drop 9 path) ≡ key
  pub nonempty : key ≢ []
  pub utf8 : IsUtf8 key

-- the path, the method and the fields of a request
abbrev pub path_of : HttpRequest (List ℕ) → List ℕ
path_of request = uri_path (head_of request).uri

abbrev pub method_of : HttpRequest (List ℕ) → List ℕ
method_of request = (head_of request).method

abbrev pub headers_of : HttpRequest (List ℕ) → Entries FieldValue
headers_of request = (head_of request).headers

-- the methods
abbrev pub get_method : List ℕ
get_method = codes "GET"

abbrev pub head_method : List ℕ
head_method = codes "HEAD"

abbrev pub put_method : List ℕ
put_method = codes "PUT"

abbrev pub delete_method : List ℕ
delete_method = codes "DELETE"

-- the method reads an entry
abbrev pub IsRead : List ℕ → Type 0
IsRead method = (method ≡ get_method) ⊎ (method ≡ head_method)

-- the method is none of an entry's
pub record IsOther (method : List ℕ) : Type 0 where
  pub get : method ≢ get_method
  pub head : method ≢ head_method
  pub put : method ≢ put_method
  pub delete : method ≢ delete_method
