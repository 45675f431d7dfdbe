use Rattle.std.proofs.Common.{rules, ◌≡◌, ◌∙◌, refl, ap, arith}
use Rattle.std.specs.Int.{w64}
use Rattle.std.specs.Int.RustNames.{FitsSigned}
use Rattle.std.proofs.lemmas.Int.{to_z-of_z}
use Rattle.replay_run.specs.Runs.{told, registered_reply}
use Rattle.fixed_fields.specs.Responses.{void_bytes}
use Rattle.replay_run.proofs.LineCalls.{told_with}
use Rattle.replay_run.proofs.RegisteringLine.{has_registered}
use Rattle.replay_run.proofs.grid.Grid.register.Goals as goal

pub send_first-requires-clause-member : goal.send_first-requires-clause-member
send_first-requires-clause-member g c =
    let s = c.requires.stands in
    let did = c.in_ok-tell.ensures s.0 s.1 s.2 s.3 s.4 s.5 in
    omega (arith, did.holds.members, s.3.members, c.requires.member)

pub send_first-requires-clause-holds : goal.send_first-requires-clause-holds
send_first-requires-clause-holds g c =
    let s = c.requires.stands in
    (s.0, told s.1 c.args.conn c.in_ok-reply.reply, (c.in_ok-tell.ensures s.0 s.1 s.2 s.3 s.4 s.5).holds)

pub index_mut-requires : goal.index_mut-requires
index_mut-requires g c =
    let s = c.requires.stands in
    let did = c.in_ok-tell.ensures s.0 s.1 s.2 s.3 s.4 s.5 in
    omega (arith, c.from.ensures, s.3.members, did.listeners.size, c.requires.member, c.tell.new.self.listeners.ok.0)

pub returns : goal.returns
returns g c = λ settings r number h to are count.
    let conn = c.args.conn in
    let registration = c.args.registration in
    let fits : FitsSigned w64 c.correlation.result = search rules in
    let reply_is : c.in_ok-reply.reply ≡ registered_reply registration =
    c.in_ok-reply.ensures ∙ ap (void_bytes c.kind_of.result) (to_z-of_z w64 c.correlation.result fits) ∙ (λ i. void_bytes (c.kind_of.ensures i) (c.correlation.ensures i)) in
    let mid = c.tell.new.self in
    let old = c.in_ok-tell.ensures settings r number h are count in
    let did = told_with reply_is old in
    has_registered settings r conn c.args.member number registration to mid c.args.out.now.items c.tell.new.out.items did
    c.send_first.new.out.items _ _ refl (c.in_ok-send_first.ensures settings (told r conn c.in_ok-reply.reply) old.holds)
    c.from.result c.from.ensures (omega (arith, c.from.ensures, h.members, did.listeners.size, c.requires.member))
    c.index_mut.result.now c.add.new.self c.index_mut.ensures.value c.in_ok-add.ensures.ok refl
