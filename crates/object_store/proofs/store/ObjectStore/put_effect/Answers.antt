use Rattle.std.proofs.Common.{◌≡◌, OnOk, subst, sym}
use Rattle.object_store.specs.Effects.{after_effect}
use Rattle.object_store.proofs.store.ObjectStore.put_effect.Goals as goal

pub returns-in-SetEntry-clause-ok : goal.returns-in-SetEntry-clause-ok
returns-in-SetEntry-clause-ok c = subst (λ effect. OnOk c.set_entry.result (c.set_entry.new.self ≡ after_effect c.args.self.now effect)) (sym c.in-SetEntry.is) c.set_entry.ensures.ok

pub returns-in-DropEntry-clause-ok : goal.returns-in-DropEntry-clause-ok
returns-in-DropEntry-clause-ok c = subst (λ effect. c.drop_entry.new.self ≡ after_effect c.args.self.now effect) (sym c.in-DropEntry.is) c.drop_entry.ensures

pub returns-in-Push-clause-ok : goal.returns-in-Push-clause-ok
returns-in-Push-clause-ok c = subst (λ effect. OnOk c.push.result (c.push.new.self ≡ after_effect c.args.self.now effect)) (sym c.in-Push.is) c.push.ensures.ok

pub returns-in-Pop-clause-ok : goal.returns-in-Pop-clause-ok
returns-in-Pop-clause-ok c = subst (λ effect. c.pop.new.self ≡ after_effect c.args.self.now effect) (sym c.in-Pop.is) c.pop.ensures

pub returns-in-Clear-clause-ok : goal.returns-in-Clear-clause-ok
returns-in-Clear-clause-ok c = subst (λ effect. c.clear.new.self ≡ after_effect c.args.self.now effect) (sym c.in-Clear.is) c.clear.ensures
