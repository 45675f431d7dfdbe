use Rattle.std.proofs.Common.{◌≡◌, ℕ, ◌<◌, ◌+◌, ◌∙◌, ◌++◌, length, append-nil, ap, sym, subst, refl, arith}
use Rattle.std.specs.List.{flat_map, sum_by}
use Rattle.std.specs.Result.{OnOk}
use Rattle.std.proofs.lemmas.Result.{on_ok_weaker}
use Rattle.script_lang.specs.declared.line.Line.TheVariants.{Links}
use Rattle.partition_world.specs.Worlds.{run_of}
use Rattle.call_engine.specs.Calls.{Settings}
use Rattle.partition_world.specs.declared.Link.{Link}
use Rattle.partition_world.specs.LinkOrder.{links_of}
use Rattle.replay_run.specs.Runs.{next_line, events_at, partitions}
use Rattle.replay_run.specs.LineTold.{came_to}
use Rattle.line_told.specs.declared.told.LineOutcome.TheVariants.{InFlight}
use Rattle.replay_run.specs.Printing.{in_flight, link_text, link_text_from}
use Rattle.replay_run.specs.Shelves.{grid_meaning}
use Rattle.replay_run.specs.Grids.{StandsForEvents}
use Rattle.replay_run.proofs.Asking.{world_within, world_is}
use Rattle.replay_run.proofs.GridLines.{counted, counted_stands, counted_line, next_number}
use Rattle.replay_run.proofs.LinkTexts.{link_of, links_counted, links_shown}
use Rattle.replay_run.proofs.grid.Grid.push_links.Goals as goal
use Rattle.call_engine.specs.Env.{settings_of}

pub index-world-requires : goal.index-world-requires
index-world-requires g c =
    let low : c.args.partition < partitions = omega (arith, c.requires.read) in
    let within = world_within c.args.self.now c.requires.run c.requires.stands.holds c.args.partition c.from.result low c.from.ensures in
    omega (arith, within, c.args.self.now.worlds.ok.0)

pub returns : goal.returns
returns g c = λ settings r s.
    let p = c.args.partition in
    let number = c.args.number in
    let grid = c.args.self.now in
    let low : p < partitions = omega (arith, c.requires.read) in
    let at_line = next_number grid number (Links p) c.requires r s in
    let stands = counted_stands grid r number s at_line c.requires.within in
    let world = c.index-world.result.now in
    let is = world_is (counted grid number) (next_line r) stands.holds p c.from.result low c.from.ensures world c.index-world.ensures in
    let events = events_at p r.events in
    let links = c.as_slice-links.result.now in
    let all : links ≡ links_of r.members = c.as_slice-links.ensures.value ∙ s.holds.links in
    let messages : c.in_flight-messages.result ≡ in_flight settings (next_line r) p =
    subst (λ (x : Settings). StandsForEvents x world events → c.in_flight-messages.result ≡ sum_by (λ (l : Link). length (link_of x (run_of (grid_meaning x) world events) l)) links) s.holds.goes_by (c.in_flight-messages.ensures (settings_of _ grid.env) events) is.stands
    ∙ links_counted world (next_line r) p is links all in
    let shown = flat_map (link_text settings (r.lines + 1) (next_line r) p) (links_of r.members) in
    let texts = λ (x : Settings) (n : ℕ). flat_map (λ (l : Link). link_text_from n l 0 (link_of x (run_of (grid_meaning x) world events) l)) links in
    on_ok_weaker c.push_in_flight.result
    (λ e. record {
      told = counted_line grid (counted grid number) r number (Links p) s at_line c.requires.within refl refl c.args.out.now.told.items c.tell_outcome.new.out.items refl refl refl
          (c.in_ok-tell_outcome.ensures ∙ ap (λ n. c.args.out.now.told.items ++ came_to (InFlight n)) messages);
      printed = e ∙ ap (λ xs. c.args.out.now.printed.items ++ xs) (ap (texts settings) at_line ∙ links_shown world (next_line r) p is links all (r.lines + 1) ∙ sym (append-nil shown));
    })
    (subst (λ (x : Settings). StandsForEvents x world events → OnOk c.push_in_flight.result (c.push_in_flight.new.out.items ≡ c.args.out.now.printed.items ++ texts x number)) s.holds.goes_by (c.push_in_flight.ensures (settings_of _ grid.env) events) is.stands)
