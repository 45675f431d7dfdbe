use Rattle.std.proofs.Common.{◌≡◌, not, ap, ◌∙◌, [], List, unwrap_or}
use Rattle.partition_table.specs.Rows.{is_empty}
use Rattle.listeners.specs.Tables.{kept_for}
use Rattle.listeners.specs.Standing.{is_about}
use Rattle.listeners.specs.declared.listener.Listener.{Listener}
use Rattle.listeners.proofs.Keeping.{any-filter, emptiness}
use Rattle.listeners.proofs.listeners.Listeners.is_heard.Goals as goal

pub returns-in-Some : goal.returns-in-Some
returns-in-Some c = λ all keep.
    let kept : c.in-Some.audience.now ≡ kept_for c.args.self.now.maps c.args.map.now = ap (λ o. unwrap_or o []) c.in-Some.ensures.value in
    ap not (emptiness c.is_empty.result c.in-Some.audience.now c.is_empty.ensures)
    ∙ ap (λ (listeners : List Listener). not (is_empty listeners)) (kept ∙ keep.maps_kept c.args.map.now)
    ∙ any-filter (is_about c.args.map.now) all

pub returns-in-None : goal.returns-in-None
returns-in-None c = λ all keep.
    let kept : [] ≡ kept_for c.args.self.now.maps c.args.map.now = ap (λ o. unwrap_or o []) c.in-None.ensures.value in
    ap (λ (listeners : List Listener). not (is_empty listeners)) (kept ∙ keep.maps_kept c.args.map.now) ∙ any-filter (is_about c.args.map.now) all
