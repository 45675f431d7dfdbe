use Rattle.std.proofs.Common.{◌≡◌, ℕ, Some, slice_get, set, subst, refl, ap, ◌∙◌}
use Rattle.session_calls.proofs.Keeping.{with_pass}
use Rattle.session_calls.proofs.Learned.{put_again}
use Rattle.session_calls.proofs.OfCells.{kept_at}
use Rattle.session_calls.proofs.Places.{same_some}
use Rattle.session_calls.proofs.session.SessionPass.teach.Goals as goal

pub returns-clause-taught : goal.returns-clause-taught
returns-clause-taught g c =
    let s = c.args.self.now in
    let pass = c.take_pass-pass.result in
    let has = c.teach_at.ensures in record {
      pass = pass;
      there = subst (λ (n : ℕ). slice_get s.passes.items n ≡ Some (Some pass)) c.from-slot.ensures c.take_pass-pass.ensures.taken;
      was = has.was;
      was_is = subst (λ (n : ℕ). slice_get c.args.known.now.items n ≡ Some has.was) c.from-slot.ensures has.there;
      taught = has.taught;
      learned = has.learned;
      written = subst (λ (n : ℕ). c.teach_at.new.known.items ≡ set c.args.known.now.items n has.taught) c.from-slot.ensures has.written;
      back = record {
        passes = put_again s.passes.items c.take_pass-pass.new.passes.items c.put_pass.new.passes.items c.from-slot.result c.args.partition pass c.from-slot.ensures c.take_pass-pass.ensures.left
            (c.put_pass.ensures ∙ ap (λ p. set c.take_pass-pass.new.passes.items c.from-slot.result (Some p)) has.same);
        same_tokens = refl;
        same_member = refl;
        same_conn = refl;
      };
    }

pub returns-clause-kept : goal.returns-clause-kept
returns-clause-kept g c =
    let s = c.args.self.now in
    let pass = c.take_pass-pass.result in
    let slot = c.from-slot.result in
    with_pass c.args.place.now s _ c.requires.session slot (Some pass)
    (λ q e. c.requires.session.passes slot pass c.take_pass-pass.ensures.taken ∙ ap Some (ap (λ p. p.table) (same_some pass q e)))
    (record {
      passes = put_again s.passes.items c.take_pass-pass.new.passes.items c.put_pass.new.passes.items slot slot pass refl c.take_pass-pass.ensures.left
          (c.put_pass.ensures ∙ ap (λ p. set c.take_pass-pass.new.passes.items slot (Some p)) c.teach_at.ensures.same);
      same_tokens = refl;
      same_member = refl;
      same_conn = refl;
    })

pub returns-clause-kept_known : goal.returns-clause-kept_known
returns-clause-kept_known g c =
    let has = c.teach_at.ensures in
    kept_at c.args.place.now.cells.items c.args.known.now.items c.teach_at.new.known.items c.from-slot.result has.was has.taught c.requires.known has.there (ap (λ p. p.table) has.learned.pass_is) has.written
