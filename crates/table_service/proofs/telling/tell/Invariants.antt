use Rattle.table_service.specs.Sending.{Tells, AllFit, row_told}
use Rattle.table_service.proofs.telling.tell.Given as goal

-- the members before this one were told, but for the detected ones
abbrev pub invariant-loop-member : goal.invariant-loop-member
invariant-loop-member l = record {
  told : Tells l.out (row_told l.member l.row l.detected);
  fits : AllFit (row_told l.member l.row l.detected);
}
