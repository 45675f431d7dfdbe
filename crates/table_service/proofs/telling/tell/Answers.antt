-- One member more is told, unless it is detected.
use Rattle.std.proofs.Common.{sym, ◌∙◌, subst}
use Rattle.table_service.specs.Sending.{Tells, AllFit}
use Rattle.table_service.proofs.Sent.{row_told-in, row_told-out, tells_more, fits_more}
use Rattle.table_service.proofs.telling.tell.Goals as goal
use Rattle.table_service.proofs.telling.tell.Goals.{then-not-is_listed+in_ok-write_row, else-not-is_listed}

pub loop-member-preserved : goal.loop-member-preserved
loop-member-preserved c =
    let row = c.args.row.now in
    let detected = c.args.detected.now in
    let m = c.loop-member.member in
    elim c.if-not-is_listed.branch [
      | then-not-is_listed+in_ok-write_row w ↦
          let told = sym (row_told-in row detected m (sym c.is_listed.ensures ∙ w.if-not-is_listed.true)) in
          record {
            told = subst (Tells c.if-not-is_listed.out) told (tells_more _ _ _ _ c.loop-member.invariant.told (λ k. w.out-is ∙ w.in_ok-write_row.ensures.ok));
            fits = subst AllFit told (fits_more _ _ c.loop-member.invariant.fits (λ k. w.in_ok-write_row.ensures.fits));
          }
      | else-not-is_listed w ↦
          let told = sym (row_told-out row detected m (sym c.is_listed.ensures ∙ w.if-not-is_listed.false)) in
          record {
            told = subst (Tells c.if-not-is_listed.out) told (λ k. w.out-is ∙ c.loop-member.invariant.told k);
            fits = subst AllFit told c.loop-member.invariant.fits;
          }
    ]
