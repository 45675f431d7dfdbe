use Rattle.std.proofs.Common.{Some, sym, ◌∙◌, arith}
use Rattle.std.proofs.lemmas.Result.{IfOk-weaker}
use Rattle.script_run.specs.declared.told.NearOutcome.TheVariants as near
use Rattle.script_run.specs.NearClients.{fed}
use Rattle.script_run.specs.Runs.{changed}
use Rattle.script_run.specs.Grids.{is_kept}
use Rattle.script_run.proofs.Handed.{client_at, nears_fed}
use Rattle.script_run.proofs.Nears.{none_found}
use Rattle.script_run.proofs.NearLines.{told_fed, told_not_fed, may_count_with, stands_with}
use Rattle.script_run.proofs.Places.{first_placed, none_placed}
use Rattle.script_run.proofs.Playing.{may_count}
use Rattle.script_run.proofs.grid.ScriptGrid.feed.Goals as goal

pub pass-requires : goal.pass-requires
pass-requires g c = may_count c.requires

-- There is no client on the connection.
pub returns-in_default : goal.returns-in_default
returns-in_default g c = λ settings s stands.
    let all = c.args.self.now in
    let conn = c.args.conn in
    let none = none_found conn all.nears.items s.nears stands.goes.nears (none_placed (is_kept conn) all.nears.items (sym c.place_of.ensures ∙ c.in_default.is)) in
    IfOk-weaker c.pass.result _ _ (told_not_fed s conn c.args.most c.pass.new.self all stands none c.pass.ensures.spoken (c.pass.ensures.goes settings s stands.goes)) c.pass.ensures.told

pub index_mut-requires : goal.index_mut-requires
index_mut-requires g c =
    let nears = c.args.self.now.nears in
    let low = (first_placed (is_kept c.args.conn) nears.items c.in-Some.place (sym c.place_of.ensures ∙ c.in-Some.is)).within in
    omega (arith, low, nears.ok.0)

pub feed-requires : goal.feed-requires
feed-requires g c =
    let may = c.requires in
    let pair = client_at c.args.self.now may.run may.stands c.args.conn c.args.most c.in-Some.place (sym c.place_of.ensures ∙ c.in-Some.is) c.index_mut.result.now c.index_mut.ensures.value in
    (pair.near, pair.is)

pub count-requires : goal.count-requires
count-requires g c =
    let may = c.requires in
    let are = nears_fed c.args.self.now may.run may.stands c.args.conn c.args.most c.in-Some.place (sym c.place_of.ensures ∙ c.in-Some.is) c.index_mut.result.now c.index_mut.ensures.value c.feed.new.self c.in_ok-bytes.ensures.after in
    may_count_with _ (changed c.args.conn (fed c.args.most) may.run.nears) may are

pub returns : goal.returns
returns g c = λ settings s stands.
    let all = c.args.self.now in
    let conn = c.args.conn in
    let most = c.args.most in
    let there = sym c.place_of.ensures ∙ c.in-Some.is in
    let pair = client_at all s stands conn most c.in-Some.place there c.index_mut.result.now c.index_mut.ensures.value in
    let are = nears_fed all s stands conn most c.in-Some.place there c.index_mut.result.now c.index_mut.ensures.value c.feed.new.self c.in_ok-bytes.ensures.after in
    let ns = changed conn (fed most) s.nears in
    told_fed s conn most c.count.new.self all pair.near stands.spoken pair.found c.count.ensures.spoken (c.count.ensures.goes settings (record s { nears = ns }) (stands_with _ ns stands are).goes) _
    (λ i. record { near = Some (near.Fed (c.in_ok-bytes.ensures.bytes pair.near pair.is i)); heard = c.in_ok-bytes.ensures.heard pair.near pair.is i; grid = c.new.ensures.told i; printed = c.new.ensures.printed i })
