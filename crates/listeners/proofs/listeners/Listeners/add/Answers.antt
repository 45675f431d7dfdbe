use Rattle.std.proofs.Common.{◌≡◌, Some, None, ap, sym, ◌∙◌}
use Rattle.std.specs.Option.{option_copied}
use Rattle.std.proofs.lemmas.Result.{on_ok_weaker, on_err_weaker}
use Rattle.event_codecs.specs.SpelledRegistrations.{map_of}
use Rattle.listeners.proofs.Keeping.{keep-added, keep-same, added_to_rows}
use Rattle.listeners.proofs.listeners.Listeners.add.Goals as goal

pub returns-in_ok-name-in-Some-clause-ok : goal.returns-in_ok-name-in-Some-clause-ok
returns-in_ok-name-in-Some-clause-ok c = λ all keep.
    let of : map_of c.args.registration ≡ Some c.in_ok-name-in-Some.name = sym c.map.ensures ∙ ap option_copied c.in-Some.is ∙ ap Some (sym c.in_ok-name-in-Some.ensures) in
    on_ok_weaker c.add.result (λ adds. keep-added c.args.self.now.maps c.add.new.maps c.args.self.now.rows all _ (record { conn = c.args.conn; registration = c.args.registration }) of adds keep) c.add.ensures.ok

pub returns-in_ok-name-in-Some-clause-err : goal.returns-in_ok-name-in-Some-clause-err
returns-in_ok-name-in-Some-clause-err c = λ all keep.
    on_err_weaker c.add.result (λ same. keep-same c.args.self.now.maps c.add.new.maps c.args.self.now.rows all same keep) c.add.ensures.err

pub returns-in-None-clause-ok : goal.returns-in-None-clause-ok
returns-in-None-clause-ok c = λ all keep.
    let of : map_of c.args.registration ≡ None = sym c.map.ensures ∙ ap option_copied c.in-None.is in
    on_ok_weaker c.add-in-None.result (λ is. added_to_rows c.args.self.now.maps c.args.self.now.rows c.add-in-None.new.self all (record { conn = c.args.conn; registration = c.args.registration }) of is keep) c.add-in-None.ensures.ok
