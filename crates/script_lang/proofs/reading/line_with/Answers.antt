-- Where no line is made of the values, each way there has values of no line's form.
use Rattle.std.proofs.Common.{rules}
use Rattle.script_lang.proofs.reading.line_with.Goals as goal
use Rattle.script_lang.proofs.reading.line_with.Goals.{in_default-via-in-Number+in-Some+in-Number+in-Some+in-Number+in-Some+in_default, in_default-via-in-Number+in-Some+in-Number+in-Some+in_default, in_default-via-in-Number+in-Some+in-Bytes+in-Some+in-Number+in_default, in_default-via-in-Number+in-Some+in-Bytes+in-Some+in_default, in_default-via-in-Number+in-Some+in_default, in_default-via-in-All+in-Some+in_default, in_default-via-in-All+in_default, in_default-via-in_default}

pub returns : goal.returns
returns c =
    elim c.in_default.branch [
      | in_default-via-in-Number+in-Some+in-Number+in-Some+in-Number+in-Some+in_default w ↦ search rules
      | in_default-via-in-Number+in-Some+in-Number+in-Some+in_default w ↦ search rules
      | in_default-via-in-Number+in-Some+in-Bytes+in-Some+in-Number+in_default w ↦ search rules
      | in_default-via-in-Number+in-Some+in-Bytes+in-Some+in_default w ↦ search rules
      | in_default-via-in-Number+in-Some+in_default w ↦ search rules
      | in_default-via-in-All+in-Some+in_default w ↦ search rules
      | in_default-via-in-All+in_default w ↦ search rules
      | in_default-via-in_default w ↦ search rules
    ]
