use Rattle.std.proofs.Common.{◌≡◌, ◌+◌, ◌++◌, ◌∷◌, List, ℕ, drop, sym, ap, ◌∙◌, append_assoc, append-nil}
use Rattle.std.specs.List.{flat_map}
use Rattle.std.proofs.lemmas.List.{drop_more, drop_all}
use Rattle.grid_client.specs.declared.heard.Heard.{Heard}
use Rattle.script_run.specs.Printing.{heard_text}
use Rattle.script_run.proofs.print.push_all_heard.Goals as goal

pub loop-heard-preserved : goal.loop-heard-preserved
loop-heard-preserved c =
    let all = c.args.all.now in
    let line = c.args.line in
    let at = c.loop-heard.heard-index in
    let heard = c.heard-item.result in
    let rest = flat_map (heard_text line) (drop (at + 1) all) in
    let split : drop at all ≡ heard ∷ drop (at + 1) all = drop_more all at heard c.loop-heard-test.true ∙ ap (λ (x : Heard). x ∷ drop (at + 1) all) (sym c.heard-item.is) in
    ap (λ (text : List ℕ). text ++ rest) c.in_ok-push_heard.ensures
    ∙ append_assoc c.loop-heard.out.items (heard_text line heard) rest
    ∙ ap (λ (more : List ℕ). c.loop-heard.out.items ++ more) (sym (ap (flat_map (heard_text line)) split))
    ∙ c.loop-heard.invariant

pub returns : goal.returns
returns c =
    let all = c.args.all.now in
    let text = c.loop-heard.out.items in
    sym (append-nil text) ∙ ap (λ (hs : List Heard). text ++ flat_map (heard_text c.args.line) hs) (sym (drop_all c.loop-heard.heard-index all c.loop-heard-test.false)) ∙ c.loop-heard.invariant
