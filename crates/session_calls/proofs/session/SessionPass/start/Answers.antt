use Rattle.std.proofs.Common.{◌≡◌, ℕ, Some, None, slice_get, set, subst, refl}
use Rattle.session_calls.proofs.Keeping.{with_pass}
use Rattle.session_calls.proofs.Places.{put_back, none_some}
use Rattle.session_calls.proofs.Refusing.{same_tokens, refused, still_session}
use Rattle.session_calls.proofs.Starting.{started}
use Rattle.session_calls.proofs.session.SessionPass.start.Goals as goal

pub returns-in-Ok-clause-started : goal.returns-in-Ok-clause-started
returns-in-Ok-clause-started g c =
    let s = c.args.self.now in
    let place = c.args.place.now in
    let request = c.args.request in
    let pass = c.take_pass-pass.result in
    let there : slice_get s.passes.items request.partition ≡ Some (Some pass) = subst (λ (n : ℕ). slice_get s.passes.items n ≡ Some (Some pass)) c.from-slot.ensures c.take_pass-pass.ensures.taken in
    let key = (g.met.T.Served g.world.𝓛 g.world.𝓜 g.world.𝓡 ((λ s x. x), (λ x. x), (λ x. x), λ x. x)).call_key s.member request c.args.now in
    started g.T.Stands.key_of g.T.Served.fits s request c.requires.may pass there place c.requires.session g.T.Served.call_of c.args.now key c.in-Ok.awaited c.in-Ok.ensures.started _
    (record {
      passes = subst (λ (n : ℕ). c.take_pass-pass.new.passes.items ≡ set s.passes.items n None) c.from-slot.ensures c.take_pass-pass.ensures.left;
      same_tokens = same_tokens place s c.requires.session c.from-slot.result c.index_mut-token.result.now c.start.new.token c.index_mut-token.ensures.value c.in-Ok.ensures.same;
      same_member = refl;
      same_conn = refl;
    })

pub returns-in-Ok-clause-kept : goal.returns-in-Ok-clause-kept
returns-in-Ok-clause-kept g c =
    let s = c.args.self.now in
    let place = c.args.place.now in
    with_pass place s _ c.requires.session c.from-slot.result None (λ q e. absurd (none_some q e))
    (record {
      passes = c.take_pass-pass.ensures.left;
      same_tokens = same_tokens place s c.requires.session c.from-slot.result c.index_mut-token.result.now c.start.new.token c.index_mut-token.ensures.value c.in-Ok.ensures.same;
      same_member = refl;
      same_conn = refl;
    })

pub returns-in-Err-clause-refused : goal.returns-in-Err-clause-refused
returns-in-Err-clause-refused g c =
    let s = c.args.self.now in
    let unstarted = c.in-Err.ensures.refused in
    let passes = put_back s.passes.items c.take_pass-pass.new.passes.items c.put_pass.new.passes.items c.from-slot.result c.take_pass-pass.result c.in-Err.refused.pass c.take_pass-pass.ensures.taken c.take_pass-pass.ensures.left unstarted.0 c.put_pass.ensures in
    refused c.args.place.now s c.requires.session c.from-slot.result c.index_mut-token.result.now c.start.new.token c.index_mut-token.ensures.value _ refl c.in-Err.refused.why unstarted.1 passes refl
    c.args.request.partition c.from-slot.ensures refl

pub returns-in-Err-clause-kept : goal.returns-in-Err-clause-kept
returns-in-Err-clause-kept g c =
    let s = c.args.self.now in
    let unstarted = c.in-Err.ensures.refused in
    let passes = put_back s.passes.items c.take_pass-pass.new.passes.items c.put_pass.new.passes.items c.from-slot.result c.take_pass-pass.result c.in-Err.refused.pass c.take_pass-pass.ensures.taken c.take_pass-pass.ensures.left unstarted.0 c.put_pass.ensures in
    still_session c.args.place.now s c.requires.session c.from-slot.result c.index_mut-token.result.now c.start.new.token c.index_mut-token.ensures.value _ refl c.in-Err.refused.why unstarted.1 passes refl
