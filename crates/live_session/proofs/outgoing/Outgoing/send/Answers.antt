use Rattle.std.proofs.Common.{◌≡◌, ℕ, ◌-◌, ◌<◌, ◌≤◌, List, ◌++◌, length, take, drop, sym, ap, ◌∙◌}
use Rattle.std.proofs.lemmas.List.{take_rest}
use Rattle.grid_edge.specs.declared.sink.WriteFault.{WriteFault}
use Rattle.live_session.proofs.Sent.{has_sent, if_bytes}
use Rattle.live_session.proofs.outgoing.Outgoing.send.Goals as goal

pub returns-in-Bytes-clause-sent : goal.returns-in-Bytes-clause-sent
returns-in-Bytes-clause-sent g c =
    let items : List ℕ = c.deref.result.now in
    let sent : ℕ = c.self.inside.sent in
    let from : List ℕ = take (length items - sent) (drop sent items) in
    let ready = c.in_ok-ready.ready in
    let its = c.in_ok-ready.ensures in
    has_sent c.self.inside.bytes.items sent c.in-Bytes.count c.args.self.now from c.reuse.new.self (g.K.ReadySink.taken c.args.to.now) (g.K.ReadySink.taken c.write.new.to)
    (take_rest items sent ∙ (ap (λ (l : List ℕ). drop sent l) c.deref.ensures.value ∙ c.self.view_is)) (sym c.self.view_is) c.reuse.ensures
    (if_bytes WriteFault (λ n. n ≤ length from) ready c.in-Bytes.count c.in-Bytes.is its.within)
    (if_bytes WriteFault (λ n. 0 < length from → 0 < n) ready c.in-Bytes.count c.in-Bytes.is its.progress)
    (if_bytes WriteFault (λ n. g.K.ReadySink.taken c.write.new.to ≡ g.K.ReadySink.taken c.args.to.now ++ take n from) ready c.in-Bytes.count c.in-Bytes.is its.bytes)
