-- Which put a read shows, by the calls alone.
use Rattle.std.specs.Prelude.{◌≡◌, ◌⊎◌, ℕ, List, ◌∷◌, ◌++◌, MatchOption}
use Rattle.std.specs.List.{AllByRecursion}
use Rattle.http.specs.Request.{body_of}
use Rattle.http_server.specs.Exchange.{Call, Chain}
use Rattle.store.specs.Routes.{IsEntry, path_of, method_of, put_method, delete_method}
use Rattle.store.specs.Answered.{Codec, IsTextOf}
use Rattle.store.specs.Maps.{Map, empty, AnsweredMapFor}

-- a put or a removal of the key that was answered by success
abbrev pub Changes : List ℕ → Call → Type 0
Changes key c = IsEntry (path_of c.0) key × ((c.1.status ≡ 201) ⊎ (c.1.status ≡ 204))

-- a put of a value of this canonical text under the key, answered by success
abbrev pub IsPutOf : {V : Type 0} → Codec V → List ℕ → List ℕ → Call → Type 0
IsPutOf of key text c =
    IsEntry (path_of c.0) key × (method_of c.0 ≡ put_method) × IsTextOf of (body_of c.0) text
    × ((c.1.status ≡ 201) ⊎ (c.1.status ≡ 204))

-- a removal of the key, answered by success
abbrev pub IsRemovalOf : List ℕ → Call → Type 0
IsRemovalOf key c = IsEntry (path_of c.0) key × (method_of c.0 ≡ delete_method) × (c.1.status ≡ 204)

-- no call changed the key
abbrev pub AreQuiet : List ℕ → List Call → Type 0
AreQuiet key calls = AllByRecursion (λ c. Changes key c → ⊥) calls

-- the last call that changed the key is such
abbrev pub LastIs : (Call → Type 0) → List ℕ → List Call → Type 0
LastIs P key calls = (before : List Call) × (c : Call) × (later : List Call) × (calls ≡ before ++ c ∷ later) × P c × AreQuiet key later

-- no put of the key stands: none was made, or a removal came after the last one
abbrev pub NoPutStands : List ℕ → List Call → Type 0
NoPutStands key calls = AreQuiet key calls ⊎ LastIs (IsRemovalOf key) key calls

-- After calls that begin with no entry, the text of a key is that of the value that was last put, and there is none only
-- if no put stands.
abbrev pub LastPutIsShown : {V : Type 0} → Codec V → Type 0
LastPutIsShown of = (hosts : List (List ℕ)) (calls : List Call) (m : Map) (key : List ℕ) → Chain (AnsweredMapFor hosts of) empty calls m
    → MatchOption (m key) (NoPutStands key calls) (λ text. LastIs (IsPutOf of key text) key calls)
