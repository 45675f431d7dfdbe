use Rattle.std.proofs.Common.{rules, ◌≡◌, ◌<◌, ℕ, ◌∷◌, None, drop, refl, ap, ◌∙◌, subst}
use Rattle.session_core.specs.declared.item.Item.{Item}
use Rattle.live_session.proofs.Places.{by_first}
use Rattle.live_session.proofs.Preparing.{next_there, has_learned}
use Rattle.live_session.proofs.connection.Connection.prepare.Goals as goal

pub learn-requires-clause-there : goal.learn-requires-clause-there
learn-requires-clause-there g c κs within =
    let s = c.requires.served in
    let idle : c.args.self.now.asked ≡ None = search rules in
    let items = c.args.self.now.items in
    let some = subst (λ (n : ℕ). 0 < n) items.ok.0 (c.in-Some-Call.ensures.variant.0 refl) in
    let first = by_first items.items c.in-Some-Call.field-0.now some c.in-Some-Call.ensures.lookup ∙ ap (λ (x : Item). x ∷ drop 1 items.items) c.in-Some-Call.field-0-is in
    next_there g.T.Stands.key_of g.T.Served.tells g.T.Served.call_of c.args.place.now c.args.self.now s.0 s.1 s.2 s.3 s.4 idle c.in-Some-Call.request (drop 1 items.items) first c.requires.calls.cells

pub returns-in-Some-Call-clause-prepared : goal.returns-in-Some-Call-clause-prepared
returns-in-Some-Call-clause-prepared g c seen log read written served =
    let idle : c.args.self.now.asked ≡ None = search rules in
    let items = c.args.self.now.items in
    let some = subst (λ (n : ℕ). 0 < n) items.ok.0 (c.in-Some-Call.ensures.variant.0 refl) in
    let first = by_first items.items c.in-Some-Call.field-0.now some c.in-Some-Call.ensures.lookup ∙ ap (λ (x : Item). x ∷ drop 1 items.items) c.in-Some-Call.field-0-is in
    has_learned g.T.Stands.key_of g.T.Served.tells g.T.Served.call_of c.args.place.now c.args.self.now seen log read written served idle c.in-Some-Call.request (drop 1 items.items) first c.requires.calls.cells
    c.args.known.now.items c.learn.new.self c.learn.ensures.kept c.learn.ensures.learned
