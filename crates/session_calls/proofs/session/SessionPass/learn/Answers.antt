use Rattle.std.proofs.Common.{◌≡◌, ℕ, Some, slice_get, subst, refl, sym, ap, ◌∙◌}
use Rattle.job_queues.specs.Roster.{roster_of}
use Rattle.session_calls.proofs.Keeping.{with_pass}
use Rattle.session_calls.proofs.Learned.{put_again}
use Rattle.session_calls.proofs.Places.{same_some, set_same}
use Rattle.session_calls.proofs.session.SessionPass.learn.Goals as goal

pub returns-clause-learned : goal.returns-clause-learned
returns-clause-learned g c =
    let s = c.args.self.now in
    let pass = c.take_pass-pass.result in
    let has = c.learn_at.ensures in record {
      pass = pass;
      there = subst (λ (n : ℕ). slice_get s.passes.items n ≡ Some (Some pass)) c.from-slot.ensures c.take_pass-pass.ensures.taken;
      from = has.from;
      from_is = subst (λ (n : ℕ). slice_get c.args.known.now.items n ≡ Some has.from) c.from-slot.ensures has.there;
      now = c.learn_at.new.pass;
      learned = has.learned;
      back = record {
        passes = put_again s.passes.items c.take_pass-pass.new.passes.items c.put_pass.new.passes.items c.from-slot.result c.args.partition c.learn_at.new.pass c.from-slot.ensures c.take_pass-pass.ensures.left c.put_pass.ensures;
        same_tokens = refl;
        same_member = refl;
        same_conn = refl;
      };
    }

pub returns-clause-same : goal.returns-clause-same
returns-clause-same g c = c.learn_at.ensures.written ∙ set_same c.args.known.now.items c.from-slot.result c.learn_at.ensures.from c.learn_at.ensures.there

pub returns-clause-kept : goal.returns-clause-kept
returns-clause-kept g c =
    let s = c.args.self.now in
    let pass = c.take_pass-pass.result in
    let now = c.learn_at.new.pass in
    let tables = (roster_of c.args.place.now.cells.items).tables in
    let slot = c.from-slot.result in
    with_pass c.args.place.now s _ c.requires.session slot (Some now)
    (λ q e. c.requires.session.passes slot pass c.take_pass-pass.ensures.taken ∙ ap Some (sym (ap (λ p. p.table) c.learn_at.ensures.learned.pass_is) ∙ ap (λ p. p.table) (same_some now q e)))
    (record { passes = put_again s.passes.items c.take_pass-pass.new.passes.items c.put_pass.new.passes.items slot slot now refl c.take_pass-pass.ensures.left c.put_pass.ensures; same_tokens = refl; same_member = refl; same_conn = refl })
