use Rattle.std.proofs.Common.{rules, ◌≡◌, length, ap, ◌∙◌, arith}
use Rattle.grid_edge.specs.Doors.{Book}
use Rattle.slab.specs.Slab.{slab_len}
use Rattle.live_server.proofs.Beginning.{still_since, after_rest, is_over}
use Rattle.live_server.proofs.serving.serve_round.Goals as goal

pub returns-then-not-is_open-clause-since : goal.returns-then-not-is_open-clause-since
returns-then-not-is_open-clause-since g c = λ looks faults since.
    let clients = c.go_round-went.new.connections.clients in
    let empty : slab_len clients ≡ 0 = search rules in
    let same_looks = c.go_round-went.ensures.looks ∙ c.hear_ready.ensures.looks in
    let same_faults = c.go_round-went.ensures.faults ∙ c.hear_ready.ensures.faults in
    let outside = c.look_outside-outside.result.entrance in
    is_over g.D.Doors.empty_looks clients looks (g.D.Doors.empty_looks c.go_round-went.new.doors) faults (g.D.Doors.faults c.go_round-went.new.doors) (length (g.D.Doors.book c.go_round-went.new.doors).arrivals)
    outside c.told.result c.told.ensures.closed c.told.ensures.failed empty
    (still_since g.D.Doors.empty_looks looks (g.D.Doors.empty_looks c.look_outside-outside.new.doors) (g.D.Doors.empty_looks c.go_round-went.new.doors)
    faults (g.D.Doors.faults c.look_outside-outside.new.doors) (g.D.Doors.faults c.go_round-went.new.doors)
    (length (g.D.Doors.book c.look_outside-outside.new.doors).arrivals) (length (g.D.Doors.book c.go_round-went.new.doors).arrivals)
    outside (omega (arith, same_looks)) (omega (arith, same_faults)) (ap (λ l. length l) c.go_round-went.ensures.arrivals ∙ ap (λ (b : Book). length b.arrivals) c.hear_ready.ensures.book) (c.look_outside-outside.ensures.since looks faults since))

pub returns-clause-serving : goal.returns-clause-serving
returns-clause-serving g c = rw c.rest-rested.ensures.book c.go_round-went.ensures.serving

pub returns-clause-since : goal.returns-clause-since
returns-clause-since g c = λ looks faults since.
    let same_looks = c.go_round-went.ensures.looks ∙ c.hear_ready.ensures.looks in
    let same_faults = c.go_round-went.ensures.faults ∙ c.hear_ready.ensures.faults in
    let outside = c.look_outside-outside.result.entrance in
    after_rest g.D.Doors.empty_looks looks (g.D.Doors.empty_looks c.go_round-went.new.doors) (g.D.Doors.empty_looks c.rest-rested.new.doors)
    faults (g.D.Doors.faults c.go_round-went.new.doors) (g.D.Doors.faults c.rest-rested.new.doors)
    (length (g.D.Doors.book c.go_round-went.new.doors).arrivals) (length (g.D.Doors.book c.rest-rested.new.doors).arrivals)
    c.rest-rested.result outside c.after.result c.after.ensures.ok c.after.ensures.err c.rest-rested.ensures.looks c.rest-rested.ensures.cause
    (ap (λ (b : Book). length b.arrivals) c.rest-rested.ensures.book)
    (still_since g.D.Doors.empty_looks looks (g.D.Doors.empty_looks c.look_outside-outside.new.doors) (g.D.Doors.empty_looks c.go_round-went.new.doors)
    faults (g.D.Doors.faults c.look_outside-outside.new.doors) (g.D.Doors.faults c.go_round-went.new.doors)
    (length (g.D.Doors.book c.look_outside-outside.new.doors).arrivals) (length (g.D.Doors.book c.go_round-went.new.doors).arrivals)
    outside (omega (arith, same_looks)) (omega (arith, same_faults)) (ap (λ l. length l) c.go_round-went.ensures.arrivals ∙ ap (λ (b : Book). length b.arrivals) c.hear_ready.ensures.book) (c.look_outside-outside.ensures.since looks faults since))
