use Rattle.std.proofs.Common.{ap, sym, ◌∙◌, bytes_eq}
use Rattle.std.specs.Option.{option_copied, option_and_then}
use Rattle.std.specs.HashMap.{get}
use Rattle.object_store.specs.Tables.{Entries}
use Rattle.object_store.proofs.TableLaws.{entry_looked_up}
use Rattle.object_store.proofs.store.ObjectStore.entry.Goals as goal

pub returns-in_err-get : goal.returns-in_err-get
returns-in_err-get c =
    ap option_copied c.from_residual.ensures
    ∙ ap (λ got. option_and_then (λ (entries : Entries _). get bytes_eq entries c.args.key.now) got) (sym (ap option_copied c.in_err-get.was) ∙ c.get.ensures.value)
    ∙ entry_looked_up c.args.self.now c.self.inside.maps c.self.inside.queues c.args.map.now c.args.key.now c.self.view_is c.self.invariant.0

pub returns : goal.returns
returns c =
    c.get-2.ensures.value
    ∙ ap (λ got. option_and_then (λ (entries : Entries _). get bytes_eq entries c.args.key.now) got) (sym (ap option_copied c.in_ok-get.was) ∙ c.get.ensures.value)
    ∙ entry_looked_up c.args.self.now c.self.inside.maps c.self.inside.queues c.args.map.now c.args.key.now c.self.view_is c.self.invariant.0
