use Rattle.std.proofs.Common.{◌≡◌, ◌∙◌, ◌==◌, ◌&&◌, not, is_some, true, false, sym, ap, subst, arith}
use Rattle.script_lang.specs.Lines.{IsWithin}
use Rattle.masters_protocol.specs.Machine.{master, pending}
use Rattle.partition_protocol.proofs.RowFacts.{number_same, number_other}
use Rattle.replay_run.specs.Grids.{most_arriving}
use Rattle.masters_run.specs.Parts.{is_held_back}
use Rattle.masters_run.specs.Runs.{masters_at}
use Rattle.masters_run.proofs.LineParts.{stand_read}
use Rattle.masters_run.proofs.Proposals.{held_delivery, held_loss, held_resending, not_held, none_is}
use Rattle.masters_run.proofs.RuledMasters.{events_of, pending_so, serving_so}
use Rattle.masters_run.proofs.grid.RuledGrid.is_held_back.Goals as goal

pub pending-requires : goal.pending-requires
pending-requires g c =
    let may = c.requires.may.1 in
    let read = subst (IsWithin may.run.run.members most_arriving) c.in-Lose.is may.read in
    let low = read.0 in
    let are = stand_read c.args.self.now may.run may.stands (c.requires.ruled may.settings may.run may.stands) c.in-Lose.partition (omega (arith, low)) c.from.result c.index.result.now c.from.ensures c.index.ensures in
    (events_of are, are.stands)

pub serving-requires : goal.serving-requires
serving-requires g c =
    let may = c.requires.may.1 in
    let read = subst (IsWithin may.run.run.members most_arriving) c.in-Resend.is may.read in
    let low = read.0 in
    let are = stand_read c.args.self.now may.run may.stands (c.requires.ruled may.settings may.run may.stands) c.in-Resend.partition (omega (arith, low)) c.from-then-end-service.result c.index-then-end-service.result.now c.from-then-end-service.ensures c.index-then-end-service.ensures in
    (events_of are, are.stands)

pub returns-in-Deliver : goal.returns-in-Deliver
returns-in-Deliver g c = λ settings s stands.
    let is = c.in-Deliver.is in
    ap (λ n. c.in-Deliver.to == n) (c.members-service.ensures settings s.run stands.grid.holds)
    ∙ sym (held_delivery settings s c.in-Deliver.partition c.in-Deliver.from c.in-Deliver.to c.in-Deliver.place) ∙ ap (is_held_back settings s) (sym is)

pub returns-then-to-service : goal.returns-then-to-service
returns-then-to-service g c = λ settings s stands.
    let may = c.requires.may.1 in
    let p = c.in-Lose.partition in
    let t = c.in-Lose.to in
    let read = subst (IsWithin may.run.run.members most_arriving) c.in-Lose.is may.read in
    let low = read.0 in
    let are = stand_read c.args.self.now s stands (c.requires.ruled settings s stands) p (omega (arith, low)) c.from.result c.index.result.now c.from.ensures c.index.ensures in
    let same : (t == s.run.members) ≡ true = number_same t s.run.members (c.if-to-service.true ∙ c.members-service.ensures settings s.run stands.grid.holds) in
    c.pending.ensures (events_of are) are.stands ∙ pending_so are ∙ ap (λ b. b && pending (masters_at s p)) (sym same)
    ∙ sym (held_loss settings s p c.in-Lose.from t c.in-Lose.place) ∙ ap (is_held_back settings s) (sym c.in-Lose.is)

pub returns-else-to-service : goal.returns-else-to-service
returns-else-to-service g c = λ settings s stands.
    let p = c.in-Lose.partition in
    let t = c.in-Lose.to in
    let members = c.members-service.ensures settings s.run stands.grid.holds in
    let other : (t == s.run.members) ≡ false = number_other t s.run.members (λ same. absurd (c.if-to-service.false (same ∙ sym members))) in
    ap (λ n. t == n) members ∙ other ∙ ap (λ b. b && pending (masters_at s p)) (sym other)
    ∙ sym (held_loss settings s p c.in-Lose.from t c.in-Lose.place) ∙ ap (is_held_back settings s) (sym c.in-Lose.is)

pub returns-then-end-service : goal.returns-then-end-service
returns-then-end-service g c = λ settings s stands.
    let may = c.requires.may.1 in
    let p = c.in-Resend.partition in
    let end = c.in-Resend.end in
    let read = subst (IsWithin may.run.run.members most_arriving) c.in-Resend.is may.read in
    let low = read.0 in
    let are = stand_read c.args.self.now s stands (c.requires.ruled settings s stands) p (omega (arith, low)) c.from-then-end-service.result c.index-then-end-service.result.now c.from-then-end-service.ensures c.index-then-end-service.ensures in
    let same : (end == s.run.members) ≡ true = number_same end s.run.members (c.if-end-service.true ∙ c.members-service.ensures settings s.run stands.grid.holds) in
    none_is c.is_none.result c.serving.result (master (masters_at s p)) c.is_none.ensures (c.serving.ensures (events_of are) are.stands ∙ serving_so are)
    ∙ ap (λ b. b && not (is_some (master (masters_at s p)))) (sym same)
    ∙ sym (held_resending settings s p end) ∙ ap (is_held_back settings s) (sym c.in-Resend.is)

pub returns-else-end-service : goal.returns-else-end-service
returns-else-end-service g c = λ settings s stands.
    let p = c.in-Resend.partition in
    let end = c.in-Resend.end in
    let members = c.members-service.ensures settings s.run stands.grid.holds in
    let other : (end == s.run.members) ≡ false = number_other end s.run.members (λ same. absurd (c.if-end-service.false (same ∙ sym members))) in
    ap (λ n. end == n) members ∙ other ∙ ap (λ b. b && not (is_some (master (masters_at s p)))) (sym other)
    ∙ sym (held_resending settings s p end) ∙ ap (is_held_back settings s) (sym c.in-Resend.is)

pub returns-in_default : goal.returns-in_default
returns-in_default g c = λ settings s stands.
    sym (not_held settings s c.args.line.now (λ e is. c.requires.nothing settings s e stands is) c.in_default.not-Masters c.in_default.not-Rebalance c.in_default.not-Deliver c.in_default.not-Lose c.in_default.not-Resend)
