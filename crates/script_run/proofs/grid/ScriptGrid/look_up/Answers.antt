use Rattle.std.proofs.Common.{refl, sym, ◌∙◌, subst, arith}
use Rattle.std.proofs.lemmas.Result.{IfOk-weaker}
use Rattle.call_engine.specs.Objects.{partition_object}
use Rattle.script_lang.specs.declared.line.Line.TheVariants.{NearGet, Arrive}
use Rattle.script_run.specs.NearClients.{used, missed}
use Rattle.script_run.specs.Runs.{may_look, changed}
use Rattle.script_run.specs.Grids.{is_kept, place_in, MaySend, IsGivenUpAt}
use Rattle.script_run.proofs.Handed.{was_hit, was_missed}
use Rattle.script_run.proofs.LookUps.{may_if, unmade_if}
use Rattle.script_run.proofs.NearLines.{told_not_looked, told_hit, told_missed, given_up_missed, may_count_with, may_send, stands_with, has_missed_as}
use Rattle.script_run.proofs.Places.{first_placed}
use Rattle.script_run.proofs.Playing.{may_count}
use Rattle.script_run.proofs.Sizes.{get_fits}
use Rattle.script_run.proofs.grid.ScriptGrid.look_up.Goals as goal

pub place_asked-requires : goal.place_asked-requires
place_asked-requires g c = (c.requires.settings, c.requires.run, c.requires.stands)

pub pass-requires : goal.pass-requires
pass-requires g c = may_count c.requires

-- It isn't made.
pub returns-in_default-clause-ok : goal.returns-in_default-clause-ok
returns-in_default-clause-ok g c = λ settings s stands.
    let all = c.args.self.now in
    let conn = c.args.conn in
    let key = c.args.key.now in
    let unmade = unmade_if (partition_object settings) s conn key all.nears.items stands.goes.nears (sym (c.place_asked.ensures settings s stands) ∙ c.in_default.is) in
    told_not_looked s conn key c.pass.new.self all stands unmade c.pass.ensures.spoken (c.pass.ensures.goes settings s stands.goes) _ c.in_ok-pass.ensures.told

pub index_mut-requires : goal.index_mut-requires
index_mut-requires g c =
    let may = c.requires in
    let asked = may_if (may_look (partition_object may.settings) may.run c.args.conn c.args.key.now) (place_in c.args.self.now c.args.conn) c.in-Some.place (sym (c.place_asked.ensures may.settings may.run may.stands) ∙ c.in-Some.is) in
    let nears = c.args.self.now.nears in
    let low = (first_placed (is_kept c.args.conn) nears.items c.in-Some.place asked.1).within in
    omega (arith, low, nears.ok.0)

-- A value is kept.

pub hit-requires : goal.hit-requires
hit-requires g c =
    let may = c.requires in
    let settings = may.settings in
    let s = may.run in
    let stands = may.stands in
    let all = c.args.self.now in
    let conn = c.args.conn in
    let key = c.args.key.now in
    let hit = was_hit all s stands conn key c.in-Some.place (sym (c.place_asked.ensures settings s stands) ∙ c.in-Some.is) c.index_mut.result.now c.look.new.self c.index_mut.ensures.value c.in_ok-look.ensures.rest
    c.in_ok-look.look c.in_ok-look.ensures.looks c.in-Hit.value c.in-Hit.is in
    may_count_with _ (changed conn (used key) s.nears) may hit.nears

pub returns-in-Hit-clause-ok : goal.returns-in-Hit-clause-ok
returns-in-Hit-clause-ok g c = λ settings s stands.
    let all = c.args.self.now in
    let conn = c.args.conn in
    let key = c.args.key.now in
    let hit = was_hit all s stands conn key c.in-Some.place (sym (c.place_asked.ensures settings s stands) ∙ c.in-Some.is) c.index_mut.result.now c.look.new.self c.index_mut.ensures.value c.in_ok-look.ensures.rest
    c.in_ok-look.look c.in_ok-look.ensures.looks c.in-Hit.value c.in-Hit.is in
    let ns = changed conn (used key) s.nears in
    told_hit s conn key c.hit.new.self all hit.near c.in-Hit.value stands.spoken hit.looks c.hit.ensures.spoken (c.hit.ensures.goes settings (record s { nears = ns }) (stands_with _ ns stands hit.nears).goes) _ c.hit.ensures.told

-- None is: the get is sent.

pub miss-requires : goal.miss-requires
miss-requires g c =
    let may = c.requires in
    let settings = may.settings in
    let s = may.run in
    let stands = may.stands in
    let all = c.args.self.now in
    let conn = c.args.conn in
    let key = c.args.key.now in
    let miss = was_missed all s stands conn key c.in-Some.place (sym (c.place_asked.ensures settings s stands) ∙ c.in-Some.is) c.index_mut.result.now c.look.new.self c.index_mut.ensures.value c.in_ok-look.ensures.rest
    c.in_ok-look.look c.in_ok-look.ensures.looks c.in-Miss.sending c.in-Miss.is in
    let ns = changed conn (missed key) s.nears in
    subst (MaySend _ _ c.args.number conn) (sym miss.sent) (may_send (stands_with _ ns stands miss.nears) may.read.0 (get_fits miss.near key miss.one may.read.2) may.next may.within)

pub returns-in-Miss-clause-ok : goal.returns-in-Miss-clause-ok
returns-in-Miss-clause-ok g c = λ settings s stands.
    let all = c.args.self.now in
    let conn = c.args.conn in
    let key = c.args.key.now in
    let miss = was_missed all s stands conn key c.in-Some.place (sym (c.place_asked.ensures settings s stands) ∙ c.in-Some.is) c.index_mut.result.now c.look.new.self c.index_mut.ensures.value c.in_ok-look.ensures.rest
    c.in_ok-look.look c.in_ok-look.ensures.looks c.in-Miss.sending c.in-Miss.is in
    let ns = changed conn (missed key) s.nears in
    IfOk-weaker c.miss.result _ _
    (λ it was. told_missed s conn key c.miss.new.self miss.near miss.looks it (has_missed_as miss.sent was))
    (c.miss.ensures.ok settings (record s { nears = ns }) (stands_with _ ns stands miss.nears))

pub returns-in-Miss-clause-full : goal.returns-in-Miss-clause-full
returns-in-Miss-clause-full g c = λ settings s stands full.
    let all = c.args.self.now in
    let conn = c.args.conn in
    let key = c.args.key.now in
    let miss = was_missed all s stands conn key c.in-Some.place (sym (c.place_asked.ensures settings s stands) ∙ c.in-Some.is) c.index_mut.result.now c.look.new.self c.index_mut.ensures.value c.in_ok-look.ensures.rest
    c.in_ok-look.look c.in_ok-look.ensures.looks c.in-Miss.sending c.in-Miss.is in
    let ns = changed conn (missed key) s.nears in
    given_up_missed s conn key miss.near miss.looks
    (subst (λ bytes. IsGivenUpAt settings (record s { nears = ns }) (Arrive conn bytes)) miss.sent (c.miss.ensures.full settings (record s { nears = ns }) (stands_with _ ns stands miss.nears) full))
