use Rattle.std.proofs.Common.{◌≡◌, ℕ, ◌+◌, ◌*◌, ◌%◌, ◌<◌, Some, None, slice_get, set, length, vec_len, subst, refl, arith}
use Rattle.partition_threads.specs.Workplaces.{IsTokenAt}
use Rattle.session_calls.proofs.Places.{put_back, still_within}
use Rattle.session_calls.proofs.Refusing.{there, refused, still_session}
use Rattle.session_calls.proofs.Taking.{took, took_keeps}
use Rattle.session_calls.proofs.session.SessionPass.make.Goals as goal

pub make-requires-clause-token : goal.make-requires-clause-token
make-requires-clause-token g c κs within =
    let s = c.args.self.now in
    let place = c.args.place.now in
    let slot = c.from-slot.result in
    let token = c.index_mut-token.result.now in
    subst (λ (n : ℕ). IsTokenAt place (4 * s.member + n % 4) token) c.from-slot.ensures
    (c.requires.session.tokens (slot % 4) token (there place s c.requires.session slot token token c.index_mut-token.ensures.value))

pub take_in-requires-after_bounds : goal.take_in-requires-after_bounds
take_in-requires-after_bounds g c κs within =
    let old = c.args.self.now.passes.items in
    let left = c.take_pass-pass.new.passes in
    let slot = c.from-slot.result in
    let has : slot < length left.items = still_within old left.items slot (Some c.take_pass-pass.result) None c.take_pass-pass.ensures.taken c.take_pass-pass.ensures.left in
    let long : vec_len left ≡ length left.items = left.ok.0 in
    let same : slot ≡ c.args.request.partition = c.from-slot.ensures in omega arith

pub put_pass-requires-after_bounds : goal.put_pass-requires-after_bounds
put_pass-requires-after_bounds g c κs within =
    let old = c.args.self.now.passes.items in
    let left = c.take_pass-pass.new.passes in
    let slot = c.from-slot.result in
    let has : slot < length left.items = still_within old left.items slot (Some c.take_pass-pass.result) None c.take_pass-pass.ensures.taken c.take_pass-pass.ensures.left in
    let long : vec_len left ≡ length left.items = left.ok.0 in omega arith

pub returns-in-Ok-clause-made : goal.returns-in-Ok-clause-made
returns-in-Ok-clause-made g c =
    let s = c.args.self.now in
    let place = c.args.place.now in
    let request = c.args.request in
    let pass = c.take_pass-pass.result in
    let pass_there : slice_get s.passes.items request.partition ≡ Some (Some pass) = subst (λ (n : ℕ). slice_get s.passes.items n ≡ Some (Some pass)) c.from-slot.ensures c.take_pass-pass.ensures.taken in
    let key = (g.met.T.Served g.world.𝓛 g.world.𝓜 g.world.𝓡 ((λ s x. x), (λ x. x), (λ x. x), λ x. x)).call_key s.member request c.args.now in
    took g.T.Stands.key_of g.T.Served.call_of g.T.Served.tells g.T.Served.fits place s c.requires.session c.index_mut-token.result.now c.make.new.token request c.args.now c.requires.may key pass pass_there
    c.from-slot.result c.from-slot.ensures c.index_mut-token.ensures.value _ c.take_in.new.self
    (subst (λ (n : ℕ). c.take_pass-pass.new.passes.items ≡ set s.passes.items n None) c.from-slot.ensures c.take_pass-pass.ensures.left) refl refl refl
    c.in-Ok.came c.take_in.result c.in-Ok.ensures.told c.in-Ok.ensures.made c.take_in.ensures

pub returns-in-Ok-clause-kept : goal.returns-in-Ok-clause-kept
returns-in-Ok-clause-kept g c =
    let s = c.args.self.now in
    let place = c.args.place.now in
    let request = c.args.request in
    let pass = c.take_pass-pass.result in
    let pass_there : slice_get s.passes.items request.partition ≡ Some (Some pass) = subst (λ (n : ℕ). slice_get s.passes.items n ≡ Some (Some pass)) c.from-slot.ensures c.take_pass-pass.ensures.taken in
    let key = (g.met.T.Served g.world.𝓛 g.world.𝓜 g.world.𝓡 ((λ s x. x), (λ x. x), (λ x. x), λ x. x)).call_key s.member request c.args.now in
    took_keeps g.T.Stands.key_of g.T.Served.call_of g.T.Served.tells g.T.Served.fits place s c.requires.session c.index_mut-token.result.now c.make.new.token request c.args.now c.requires.may key pass pass_there
    c.from-slot.result c.from-slot.ensures c.index_mut-token.ensures.value _ c.take_in.new.self
    (subst (λ (n : ℕ). c.take_pass-pass.new.passes.items ≡ set s.passes.items n None) c.from-slot.ensures c.take_pass-pass.ensures.left) refl refl refl
    c.in-Ok.came c.take_in.result c.in-Ok.ensures.told c.in-Ok.ensures.made c.take_in.ensures

pub returns-in-Err-clause-refused : goal.returns-in-Err-clause-refused
returns-in-Err-clause-refused g c =
    let s = c.args.self.now in
    let unstarted = c.in-Err.ensures.refused in
    let passes = put_back s.passes.items c.take_pass-pass.new.passes.items c.put_pass.new.passes.items c.from-slot.result c.take_pass-pass.result c.in-Err.refused.pass c.take_pass-pass.ensures.taken c.take_pass-pass.ensures.left unstarted.0 c.put_pass.ensures in
    refused c.args.place.now s c.requires.session c.from-slot.result c.index_mut-token.result.now c.make.new.token c.index_mut-token.ensures.value _ refl c.in-Err.refused.why unstarted.1 passes refl
    c.args.request.partition c.from-slot.ensures refl

pub returns-in-Err-clause-kept : goal.returns-in-Err-clause-kept
returns-in-Err-clause-kept g c =
    let s = c.args.self.now in
    let unstarted = c.in-Err.ensures.refused in
    let passes = put_back s.passes.items c.take_pass-pass.new.passes.items c.put_pass.new.passes.items c.from-slot.result c.take_pass-pass.result c.in-Err.refused.pass c.take_pass-pass.ensures.taken c.take_pass-pass.ensures.left unstarted.0 c.put_pass.ensures in
    still_session c.args.place.now s c.requires.session c.from-slot.result c.index_mut-token.result.now c.make.new.token c.index_mut-token.ensures.value _ refl c.in-Err.refused.why unstarted.1 passes refl
