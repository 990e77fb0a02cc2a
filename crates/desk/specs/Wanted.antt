-- What was expected where a line cannot be read, by the bytes of the words.
use Rattle.std.specs.Prelude.{ℕ, List, codes}
use Rattle.desk.specs.declared.expected.Expected.{Expected}
use Rattle.desk.specs.declared.expected.Expected.TheVariants as expected

abbrev pub wanted : Expected → List ℕ
wanted expected.Origin = codes "FROM, a station's number"
wanted expected.Destination = codes "TO, a station's number"
wanted expected.Day = codes "a day, as a number up to 65535 or a date from 2000-01-01 to 2179-06-06"
wanted expected.Time = codes "a time of day, as 07:50"
wanted expected.Changes = codes "a change limit, a number up to 255"
wanted expected.Features = codes "features, a number up to 65535"
wanted expected.Tariff = codes "a tariff: minutes:PENALTY, fares or waits"
wanted expected.Code = codes "a calendar code, a number up to 255"
wanted expected.LastDay = codes "a last day, and nothing behind it"
wanted expected.Word = codes "yes or no"
