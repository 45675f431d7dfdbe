use Rattle.std.proofs.Common.{◌+◌, [], ◌∷◌, ◌++◌, map, length, sym, ap, ◌∙◌, subst, arith}
use Rattle.std.proofs.lemmas.List.{map-append, length-append}
use Rattle.hand_cell.specs.Calls.{first_pass}
use Rattle.live_grid.specs.Grids.{AreCells}
use Rattle.live_grid.proofs.Pushed.{no_cells, cells_more}
use Rattle.live_grid.proofs.opening.make_cells.Goals as goal

pub loop-partition-init : goal.loop-partition-init
loop-partition-init c = record {
  long = ap length c.new-cells.ensures.items;
  cells = subst (AreCells c.args.members c.args.backups c.args.forms.now c.args.capacity) (sym c.new-cells.ensures.items) (no_cells c.args.members c.args.backups c.args.forms.now c.args.capacity);
  passes = c.new-passes.ensures.items ∙ sym (ap (map (λ cell. first_pass cell)) c.new-cells.ensures.items);
}

pub loop-partition-preserved : goal.loop-partition-preserved
loop-partition-preserved c =
    let was = c.loop-partition.invariant in
    let grown = c.in_ok-push.ensures.items in
    record {
      long = ap length grown ∙ (length-append c.loop-partition.cells.items (c.in_ok-cell.cell ∷ []) ∙ ap (λ n. n + 1) was.long);
      cells = subst (AreCells c.args.members c.args.backups c.args.forms.now c.args.capacity) (sym grown)
          (cells_more c.args.members c.args.backups c.args.forms.now c.args.capacity c.loop-partition.cells.items c.in_ok-cell.cell c.loop-partition.partition was.long was.cells c.in_ok-cell.ensures.cell);
      passes = c.in_ok-push-2.ensures.items ∙ (ap (λ ps. ps ++ c.in_ok-cell.pass ∷ []) was.passes
          ∙ (ap (λ p. map (λ cell. first_pass cell) c.loop-partition.cells.items ++ p ∷ []) c.in_ok-cell.ensures.pass
          ∙ (sym (map-append (λ cell. first_pass cell) c.loop-partition.cells.items (c.in_ok-cell.cell ∷ [])) ∙ ap (map (λ cell. first_pass cell)) (sym grown))));
    }

pub returns-clause-count : goal.returns-clause-count
returns-clause-count c = let least = c.loop-partition-test.false in
    let most = c.loop-partition.auto.partition-end in
    c.loop-partition.cells.ok.0 ∙ (c.loop-partition.invariant.long ∙ omega (arith, least, most))
