use Rattle.std.proofs.Common.{◌≡◌, List, length, Result, Ok, subst, sym, ap, ◌∙◌, arith}
use Rattle.script_lang.specs.declared.fields.Field.{Field}
use Rattle.script_lang.specs.Lines.{fields_of, values_of, line_of_fields}
use Rattle.script_lang.specs.Readings.{Fit, Reads}
use Rattle.script_lang.specs.declared.line.Line.{Line}
use Rattle.script_lang.specs.declared.refusal.LineWhy.{LineWhy}
use Rattle.script_lang.proofs.Fitting.{Fit-values_of, Fit-greater}
use Rattle.script_lang.proofs.Steps.{line_of_fields-read, told_as_made}
use Rattle.script_lang.proofs.reading.read_fields.Goals as goal

pub line_with-requires : goal.line_with-requires
line_with-requires c =
    let fields : List Field = c.fields-fields.result.now in
    let values = c.in_ok-values.values.items in
    let fit = Fit-values_of c.args.members fields c.args.words values (sym c.left.ensures ∙ c.if-left-fields.false) c.in_ok-values.ensures in
    subst (λ (all : List Field). Fit 255 all values) c.fields-fields.ensures (Fit-greater c.args.members 255 (omega (arith, c.ranges.members.fits)) fields values fit)

pub returns : goal.returns
returns c =
    let count : length c.args.words ≡ length (fields_of c.args.keyword) = sym c.left.ensures ∙ c.if-left-fields.false ∙ ap length c.fields-fields.ensures in
    let read : values_of c.args.members (fields_of c.args.keyword) c.args.words ≡ Ok c.in_ok-values.values.items = subst (λ (fields : List Field). values_of c.args.members fields c.args.words ≡ Ok c.in_ok-values.values.items) c.fields-fields.ensures c.in_ok-values.ensures in
    let made : line_of_fields c.args.members c.args.keyword c.args.words ≡ c.line_with.result = line_of_fields-read c.args.members c.args.keyword c.args.words c.in_ok-values.values.items count read ∙ sym c.line_with.ensures in
    subst (λ (whole : Result Line LineWhy). Reads (λ (line : Line). line) c.map_err.result whole) (sym made) (told_as_made c.line_with.result c.map_err.result c.map_err.ensures.cases)
