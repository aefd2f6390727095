-- The connection is new, so its history begins with nothing, and all of it is what this call read, answered and wrote.
use Rattle.std.proofs.Common.{◌≡◌, ◌++◌, refl, sym, ap, subst, ◌∙◌}
use Rattle.std.specs.Io.KnownBytes.{Appends, Consumes}
use Rattle.http_server.specs.Connection.{config_of, history}
use Rattle.http_server.specs.History.{History, IsServed}
use Rattle.http_server.specs.Exchange.{Chain}
use Rattle.http_server.proofs.Theorems.{always_served}
use Rattle.store.specs.Answered.{codec}
use Rattle.store.specs.Maps.{AnsweredMapFor}
use Rattle.store.proofs.ChainLemmas.{answered_by_map}
use Rattle.store.proofs.stream.serve_stream.Goals as goal

pub returns : goal.returns
returns g c = record {
  served = λ clean m represents.
      let connection = c.serve.new.connection in
      let h = history connection in
      let empty = c.new-connection.ensures.history in
      let config : config_of connection ≡ c.args.config = c.serve.ensures.config ∙ c.new-connection.ensures.config in
      let unread = g.R.Read.remaining in
      let contents = g.W.Write.contents in
      let read = c.serve.ensures.read in
      let received : h.received ≡ read.0 = read.2 ∙ ap (λ (old : History). old.received ++ read.0) empty in
      let written = c.serve.ensures.written in
      let sent : h.sent ≡ written.0 = written.2 ∙ ap (λ (old : History). old.sent ++ written.0) empty in
      let calls = c.serve.ensures.calls in
      let called : h.calls ≡ calls.0 = calls.1 ∙ ap (λ (old : History). old.calls ++ calls.0) empty in
      let of = codec g.V.FromJson.means g.V.Serialize.tree in
      let it = answered_by_map g.S.Store of c.args.service.now.1 calls.0 _ _ m refl calls.2 clean represents in (
        h,
        it.0,
        subst (λ bytes. Consumes (unread c.args.reader.now) (unread c.serve.new.reader) bytes) (sym received) read.1,
        subst (λ bytes. Appends (contents c.args.writer.now) (contents c.serve.new.writer) bytes) (sym sent) written.1,
        record {
          served = subst (λ limits. ∥ IsServed limits h ∥₁) config (always_served connection);
          calls = subst (λ all. Chain (AnsweredMapFor c.args.service.now.1 of) m all it.0) (sym called) it.1;
        },
        it.2,
        c.serve.ensures.done,
      );
}
