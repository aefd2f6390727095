-- The text of a date is parsed as its parts.
use Rattle.std.proofs.Common.{ap}
use Rattle.std.specs.Result.{result_ok}
use Rattle.jiff_fmt.proofs.RoundTrip.{parse_date-date_text}
use Rattle.ids.proofs.days.DayTextValue.is_read_back.Goals as goal

pub returns : goal.returns
returns c = ap result_ok (parse_date-date_text c.args.self.now.0)
