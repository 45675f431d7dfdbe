use Rattle.std.proofs.Common.{◌≡◌, Some, refl, sym, ap, ◌∙◌}
use Rattle.std.specs.Option.{option_copied_mut}
use Rattle.slab.specs.Slab.{get}
use Rattle.live_server.specs.Clients.{telling_by}
use Rattle.live_server.proofs.Leaving.{goes_on}
use Rattle.live_server.proofs.Later.{serving_later}
use Rattle.live_server.proofs.rounds.give_turns.Goals as goal

pub go_on-requires-clause-served : goal.go_on-requires-clause-served
go_on-requires-clause-served g c κs within =
    let serving = c.requires.serving in (
      (g.D.Doors.book c.args.doors.now).arrivals,
      serving.marks,
      serving.clients c.args.key c.in-Some.client.now (sym c.get_mut.ensures.value ∙ ap option_copied_mut c.in-Some.is),
      serving.are_marks,
    )

pub end-requires-after_bounds : goal.end-requires-after_bounds
unfolding serving_later
end-requires-after_bounds g c κs within =
    let old = c.args.connections.now in
    let book = g.D.Doors.book c.args.doors.now in
    let serving = c.requires.serving in
    let was = c.in-Some.client.now in
    let there : get old.clients c.args.key ≡ Some was = sym c.get_mut.ensures.value ∙ ap option_copied_mut c.in-Some.is in
    let gone = c.in-Ended.ensures.progress book.arrivals serving.marks serving.are_marks (serving.clients c.args.key was there) in
    record {
      before = old;
      serving = serving_later g.T.Stands.key_of g.T.Served.tells g.T.Served.call_of c.args.place.now (g.C.Clock.given c.args.clock.now) (g.C.Clock.given c.go_on.new.clock) gone.gave (telling_by g.D.From.ReadySource.given g.D.From.ReadySource.faults g.D.To.ReadySink.taken g.D.To.ReadySink.faults) old book serving;
      was = was;
      was_there = there;
      client = c.go_on.new.self;
      same_number = c.go_on.ensures.number;
      more = gone.more;
      own = gone.own;
      are_marks = gone.are_marks;
      learned = gone.learned;
      passes = c.go_on.ensures.kept_known;
      ended = gone.progress_is;
      clients_are = refl;
      others_stay = refl;
    }

pub returns-after-awaits-clause-serving : goal.returns-after-awaits-clause-serving
unfolding serving_later
returns-after-awaits-clause-serving g c =
    let old = c.args.connections.now in
    let book = g.D.Doors.book c.args.doors.now in
    let serving = c.requires.serving in
    let was = c.in-Some.client.now in
    let there : get old.clients c.args.key ≡ Some was = sym c.get_mut.ensures.value ∙ ap option_copied_mut c.in-Some.is in
    let gone = c.in-Going.ensures.progress book.arrivals serving.marks serving.are_marks (serving.clients c.args.key was there) in
    let later = serving_later g.T.Stands.key_of g.T.Served.tells g.T.Served.call_of c.args.place.now (g.C.Clock.given c.args.clock.now) (g.C.Clock.given c.go_on.new.clock) gone.gave (telling_by g.D.From.ReadySource.given g.D.From.ReadySource.faults g.D.To.ReadySink.taken g.D.To.ReadySink.faults) old book serving in
    goes_on g.T.Stands.key_of g.T.Served.tells g.T.Served.call_of c.args.place.now (g.C.Clock.given c.go_on.new.clock) (telling_by g.D.From.ReadySource.given g.D.From.ReadySource.faults g.D.To.ReadySink.taken g.D.To.ReadySink.faults) old _ book later c.args.key was c.go_on.new.self there c.go_on.ensures.number
    gone.more gone.own gone.are_marks gone.learned c.go_on.ensures.kept_known gone.progress_is refl refl refl
