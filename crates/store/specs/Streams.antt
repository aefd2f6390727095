-- What a store makes of a stream of requests.
use Rattle.std.specs.Prelude.{ℕ, List}
use Rattle.http_server.specs.declared.state.Config.{Config}
use Rattle.http_server.specs.History.{History, IsServed}
use Rattle.http_server.specs.Exchange.{Chain}
use Rattle.store.specs.Answered.{Codec}
use Rattle.store.specs.Maps.{Map, AnsweredMapFor}

-- the history is one of a connection of `http_server`, and its calls are answered by a map, from the first one to the second
pub record IsServedByMap {V : Type 0} (hosts : List (List ℕ)) (of : Codec V) (config : Config) (h : History) (m after : Map) : Type 0 where
  pub served : ∥ IsServed config h ∥₁
  pub calls : Chain (AnsweredMapFor hosts of) m h.calls after
