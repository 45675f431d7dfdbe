use Rattle.std.specs.Prelude.{drop}
use Rattle.grid_client.specs.Hearing.{told_by_rows}
use Rattle.grid_client.proofs.Telling.{IsLeft}
use Rattle.grid_client.proofs.client.GridClient.take_rows.Given as goal

abbrev pub invariant-loop-row : goal.invariant-loop-row
invariant-loop-row l = IsLeft (told_by_rows (drop l.row-index l.rows) l.self) (told_by_rows l.fn.rows l.fn.self) l.fn.heard.items l.heard.items
