-- A live member crashes: it takes no further step, and all else stays.
use Rattle.std.proofs.Common.{◌≡◌, ℕ, true, List, ◌∷◌, Option, vec_len, refl, ap, sym, ◌∙◌, subst}
use Rattle.partition_protocol.specs.World.{World as Machine, is_live}
use Rattle.partition_protocol.specs.Events.{Event, Happened as HappenedThere, Crash, done, happens}
use Rattle.partition_protocol.specs.Claims.{IsLawful}
use Rattle.partition_protocol.proofs.Lists.{In, in_contains}
use Rattle.link_net.specs.Links.{list_of}
use Rattle.table_service.specs.Services.{service_of}
use Rattle.partition_world.specs.declared.world.World.{World}
use Rattle.partition_world.specs.declared.event.Happened.TheVariants as happened
use Rattle.grid_base.specs.Shelves.{Meaning}
use Rattle.partition_world.specs.Shelves.{IsShelf}
use Rattle.partition_world.specs.Worlds.{setup_of, run_of, Comes, HasRun}
use Rattle.partition_world.proofs.Comings as comings
use Rattle.partition_world.proofs.EffectsLead.{lawful, Stood}
use Rattle.partition_world.proofs.LinkBytes as bytes
use Rattle.partition_world.proofs.Quiet.{quiet_run}
use Rattle.partition_protocol.specs.Recorded.{Recorded}

module _ {S R Plan C State : Type 0} (k : Meaning S C State) (records : R → Recorded C → Type 0) (limits : C → Type 0) (within : ℕ → State → Type 0) (applied : List ℕ → State → Option State) (shelf : IsShelf k limits within applied)
    (world : World S R Plan C) (events : List (Event C)) (m : ℕ) (comes : Comes k records limits world events (Crash m)) (lives : is_live (run_of k world events) m ≡ true) where
  abbrev pub w : Machine C
  w = run_of k world events

  abbrev pub next : Machine C
  next = (happens k.object w (Crash m)).world

  happens_so : happens k.object w (Crash m) ≡ done (record w { crashed = m ∷ w.crashed })
  happens_so = rw lives refl

  next_is : next ≡ record w { crashed = m ∷ w.crashed }
  next_is = ap (λ (h : HappenedThere C). h.world) happens_so

  law : IsLawful k.object
  law = lawful k limits within applied shelf

  stood : Stood k.object limits within w
  stood = comings.stood k records limits within applied shelf world events (Crash m) comes

  same_packets : next.packets ≡ w.packets
  same_packets = ap (λ (u : Machine C). u.packets) next_is

  pub crashes : (new : World S R Plan C) → new ≡ record world { crashed = new.crashed } → new.crashed.items ≡ m ∷ world.crashed.items → HasRun k records world new events (Crash m) happened.Done
  crashes new rest items =
      quiet_run k records limits within applied shelf world events (Crash m) comes new happened.Done (sym (ap (λ (h : HappenedThere C). h.outcome) happens_so))
      (record {
        setup = ap (λ (v : World S R Plan C). setup_of v) rest;
        members = ap (λ (v : World S R Plan C). v.members) rest;
        size = ap (λ (v : World S R Plan C). vec_len v.nodes) rest;
        crashed = items ∙ ap (λ ms. m ∷ ms) comes.stands.agrees.crashed ∙ sym (ap (λ (u : Machine C). u.crashed) next_is);
        service = ap (λ (v : World S R Plan C). service_of v.service) rest ∙ comes.stands.agrees.service ∙ sym (ap (λ (u : Machine C). u.service) next_is);
        ends = ap (λ (v : World S R Plan C). v.links.ends) rest;
        links = λ f t. ap (λ (v : World S R Plan C). list_of v.links f t) rest ∙ comes.stands.agrees.links f t ∙ sym (bytes.same_lists k law w stood.good stood.led (Crash m) same_packets f t);
        fit = λ p c. bytes.fits_stay k law w stood.good stood.led (Crash m) comes.stands.agrees.fit p (subst (In p) same_packets (in_contains p next.packets c));
        recorded = subst (records new.recorder) (sym (ap (λ (u : Machine C). u.recorded) next_is)) (subst (λ (v : World S R Plan C). records v.recorder w.recorded) (sym rest) comes.stands.agrees.recorded);
      })
      (ap (λ (v : World S R Plan C). v.nodes.items) rest) (ap (λ (u : Machine C). u.nodes) next_is) (ap (λ (u : Machine C). u.released) next_is)
