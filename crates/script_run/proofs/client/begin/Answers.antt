use Rattle.std.proofs.Common.{ℕ, ◌++◌, ◌∷◌, [], List, refl, ap, sym, ◌∙◌, subst, arith}
use Rattle.script_run.specs.declared.client.NearClient.{NearClient as KeptClient}
use Rattle.script_run.specs.NearClients.{new_near}
use Rattle.script_run.specs.Grids.{AreNear}
use Rattle.script_run.proofs.Nears.{one_more}
use Rattle.script_run.proofs.OneConnection.{begun_one}
use Rattle.script_run.proofs.client.begin.Goals as goal

pub returns-clause-nears : goal.returns-clause-nears
returns-clause-nears c = λ all are.
    let conn = c.args.conn in
    let name = c.args.name.now in
    let n = new_near conn name c.args.capacity in
    subst (λ (ks : List KeptClient). AreNear ks (all ++ n ∷ [])) (sym {A = List KeptClient} c.in_ok-push.ensures.items)
    (one_more c.args.nears.now.items all _ n are (record {
      conn = refl;
      within = c.requires.within;
      client = c.in_ok-client.ensures.client ∙ ap (λ (text : List ℕ). (new_near conn text c.args.capacity).state) c.in_ok-copied.ensures;
      unread = c.new.ensures.items;
      handed = omega arith;
      one = begun_one conn name c.args.capacity c.requires.short;
    }))
