use Rattle.std.proofs.Common.{◌≡◌, ℕ, suc, ◌+◌, ◌<◌, List, length, map, get_or, set, ap, sym, ◌∙◌, subst, arith}
use Rattle.std.proofs.lemmas.List.{take_at}
use Rattle.script_run.specs.declared.client.NearClient.{NearClient as KeptClient}
use Rattle.script_run.specs.AfterLines.{noting}
use Rattle.script_run.specs.Grids.{AreNear}
use Rattle.script_run.specs.Outputs.{messages_in}
use Rattle.script_run.proofs.Nears.{noted, noted_step, noted_one, noted_all}
use Rattle.script_run.proofs.client.note_all.Goals as goal

pub loop-near-init : goal.loop-near-init
loop-near-init c = λ all are. subst (λ (ks : List KeptClient). AreNear ks all) (sym c.deref_mut-near-items.ensures.value) are

pub loop-near-preserved : goal.loop-near-preserved
loop-near-preserved c = λ all are.
    let ks = c.loop-near.near-items in
    let at = c.loop-near.near-index in
    let k : KeptClient = get_or ks at c.near-item.result in
    let new = c.note.new.self in
    let within : at < length ks = let low = c.loop-near-test.true in let same = c.loop-near.auto.near-items in omega (arith, low, same) in
    let one : suc at ≡ at + 1 = omega arith in
    subst (λ (i : ℕ). AreNear (set ks at new) (noted (messages_in c.args.told.now) i all)) one
    (noted_step (messages_in c.args.told.now) at ks all k new (c.loop-near.invariant all are) within (ap (λ (d : KeptClient). get_or ks at d) c.near-item.is)
    (λ n is. noted_one (messages_in c.args.told.now) k new n is c.in_ok-note.ensures.output c.in_ok-note.ensures.rest))

pub returns : goal.returns
returns c = λ all are.
    let ks = c.loop-near.near-items in
    let at = c.loop-near.near-index in
    let size : length ks ≡ c.args.nears.now.len = c.loop-near.auto.near-items ∙ c.deref_mut-near-items.ensures.len in
    subst (λ (xs : List KeptClient). AreNear xs (map (noting (messages_in c.args.told.now)) all)) (sym (take_at ks _ _ size))
    (noted_all (messages_in c.args.told.now) at ks all (c.loop-near.invariant all are) (let past = c.loop-near-test.false in let same = c.loop-near.auto.near-items in omega (arith, past, same)))
