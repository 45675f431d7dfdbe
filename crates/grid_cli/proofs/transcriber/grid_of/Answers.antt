-- What the first line makes.
use Rattle.std.proofs.Common.{◌∙◌, ap, Ok, arith}
use Rattle.std.proofs.lemmas.Fmt.{decimal_digit}
use Rattle.grid_cli.proofs.transcriber.grid_of.Goals as goal

pub returns-in-Ok-Grid : goal.returns-in-Ok-Grid
returns-in-Ok-Grid g c =
    let within = rw c.in-Ok-Grid.field-0-is at c.in-Ok-Grid.ensures.within in (
      c.in-Ok-Grid.members,
      c.in-Ok-Grid.backups,
      c.in-Ok-Grid.capacity,
      c.in-Ok-Grid.ensures.line ∙ ap Ok c.in-Ok-Grid.field-0-is,
      omega (arith, within),
      c.in_ok-grid-in-Ok-Grid.ensures,
      rw (decimal_digit 1 (omega arith)) c.in_ok-extend_from_slice-in-Ok-Grid.ensures.items,
    )
