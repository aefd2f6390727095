-- The value is added under the name that was set, which puts it into the hole (`member_put`).
use Rattle.std.proofs.Common.{sym, ◌∙◌}
use Rattle.std.proofs.lemmas.Result.{on_ok_weaker}
use Rattle.miniserde_value.proofs.Builders.{member_put}
use Rattle.miniserde_value.proofs.json.builder.OpenObject.put.Goals as goal

pub returns-in-Some : goal.returns-in-Some
returns-in-Some c =
    on_ok_weaker c.insert.result
    (member_put c.args.self.now (record { members = c.insert.new.self; name = c.take.new.self })
    c.args.value (sym c.take.ensures.value ∙ c.in-Some.is) c.take.ensures.after) c.insert.ensures.ok
