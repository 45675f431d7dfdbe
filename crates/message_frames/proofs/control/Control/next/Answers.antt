use Rattle.std.proofs.Common.{sym, ap, ◌∙◌}
use Rattle.message_frames.specs.Turns.{Turned}
use Rattle.message_frames.specs.declared.control.OpenChain.{OpenChain}
use Rattle.message_frames.proofs.ChainPlaces.{place_found, none_found, of_fragment_turned, of_no_chain_turned}
use Rattle.message_frames.proofs.control.Control.next.Goals as goal
use Rattle.message_frames.proofs.control.Control.next.Goals.{After-in_fragment}

-- the chain that was found
default : OpenChain
default = record { id = 0; list = 0; tally = record { count = 0; bytes = 0; first = 0 } }

pub returns-in-Some-clause-turn : goal.returns-in-Some-clause-turn
returns-in-Some-clause-turn c =
    let found = place_found c.in-OfFragment.id c.args.self.now.chains.items c.in-Some.place (sym (sym c.in-Some.is ∙ c.find.ensures)) in
    c.in_fragment.ensures.turn c.in-OfFragment.id _ found (found.named default)
    ∙ sym (ap (λ (t : Turned). t.turn) (of_fragment_turned c.args.shortest c.in-OfFragment.id c.in-OfFragment.last c.args.new.now c.args.self.now _ c.in-OfFragment.is (found.named default)))

pub returns-in-Some-clause-after : goal.returns-in-Some-clause-after
returns-in-Some-clause-after c =
    let found = place_found c.in-OfFragment.id c.args.self.now.chains.items c.in-Some.place (sym (sym c.in-Some.is ∙ c.find.ensures)) in
    c.in_fragment.ensures.after c.in-OfFragment.id _ found (found.named default)
    ∙ sym (ap (λ (t : Turned). t.after) (of_fragment_turned c.args.shortest c.in-OfFragment.id c.in-OfFragment.last c.args.new.now c.args.self.now _ c.in-OfFragment.is (found.named default)))

pub returns-in-None-clause-turn : goal.returns-in-None-clause-turn
returns-in-None-clause-turn c =
    let none = none_found c.in-OfFragment.id c.args.self.now.chains.items (sym c.in-None.is ∙ c.find.ensures) in
    c.fails.ensures ∙ sym (ap (λ (t : Turned). t.turn) (of_no_chain_turned c.args.shortest c.in-OfFragment.id c.in-OfFragment.last c.args.new.now c.args.self.now c.in-OfFragment.is none))

pub returns-in-None-clause-after : goal.returns-in-None-clause-after
returns-in-None-clause-after c =
    let none = none_found c.in-OfFragment.id c.args.self.now.chains.items (sym c.in-None.is ∙ c.find.ensures) in
    sym (ap (λ (t : Turned). t.after) (of_no_chain_turned c.args.shortest c.in-OfFragment.id c.in-OfFragment.last c.args.new.now c.args.self.now c.in-OfFragment.is none))
