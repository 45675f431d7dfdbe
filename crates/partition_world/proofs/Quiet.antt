-- Events at which no member takes a step: nothing is released.
use Rattle.std.proofs.Common.{◌≡◌, ℕ, Bool, true, false, cond, List, [], ◌++◌, length, drop, Option, vec_len, refl, ap, sym, ◌∙◌, subst, append-nil}
use Rattle.std.specs.List.{filter_map}
use Rattle.std.proofs.Math.Seq.{drop-append_seam}
use Rattle.partition_protocol.specs.Messages.{Packet}
use Rattle.partition_protocol.specs.World.{World as Machine}
use Rattle.partition_protocol.specs.Links.{with_packets}
use Rattle.partition_protocol.specs.Events.{Event, Happened as HappenedThere, Outcome, happens}
use Rattle.link_net.specs.Links.{HasLists}
use Rattle.table_service.specs.Services.{service_of}
use Rattle.partition_world.specs.declared.world.World.{World}
use Rattle.partition_world.specs.declared.event.Happened.{Happened}
use Rattle.grid_base.specs.Shelves.{Meaning}
use Rattle.partition_world.specs.Shelves.{IsShelf}
use Rattle.partition_world.specs.Events.{happened_of}
use Rattle.partition_world.specs.Answers.{held_answer, released_by, released_at, is_at}
use Rattle.partition_world.specs.Sending.{HasFit, flying}
use Rattle.partition_world.specs.Worlds.{setup_of, run_of, waiting, Agrees, Comes, HasRun, IsKept}
use Rattle.partition_world.proofs.Comings as comings
use Rattle.partition_world.proofs.Agreement as agreement
use Rattle.partition_world.proofs.Agreement.{same_waiting}
use Rattle.partition_protocol.specs.Recorded.{Recorded}

module _ {S R Plan C State : Type 0} (k : Meaning S C State) (records : R → Recorded C → Type 0) (limits : C → Type 0) (within : ℕ → State → Type 0) (applied : List ℕ → State → Option State) (shelf : IsShelf k limits within applied)
    (world : World S R Plan C) (events : List (Event C)) (event : Event C) (comes : Comes k records limits world events event) where
  abbrev pub w : Machine C
  w = run_of k world events

  abbrev pub next : Machine C
  next = (happens k.object w event).world

  abbrev pub IsRest : World S R Plan C → Type 0
  IsRest new = agreement.IsRest k records limits within applied shelf world w (comings.stood k records limits within applied shelf world events event comes) comes.stands.agrees event (comings.new k records limits within applied shelf world events event comes) (comings.single k records limits within applied shelf world events event comes) new

  abbrev pub IsQuiet : World S R Plan C → Type 0
  IsQuiet new = agreement.IsQuiet k records limits within applied shelf world w (comings.stood k records limits within applied shelf world events event comes) comes.stands.agrees new

  -- nothing is released at any member
  pub none_released : next.released ≡ w.released → (m : ℕ) → released_at k.object k.change_of w event m ≡ []
  none_released same m = go (is_at event m)
    where
      none : released_by k.object k.change_of w next ≡ []
      none = ap (filter_map (held_answer k.object k.change_of next)) (ap (drop (length w.released)) (same ∙ sym (append-nil w.released)) ∙ drop-append_seam w.released [])

      go : (b : Bool) → cond b (released_by k.object k.change_of w next) [] ≡ []
      go true = none
      go false = refl

  pub quiet_run : (new : World S R Plan C) (happened : Happened) → happened_of happened ≡ (happens k.object w event).outcome → IsRest new → new.nodes.items ≡ world.nodes.items
      → next.nodes ≡ w.nodes → next.released ≡ w.released → HasRun k records world new events event happened
  quiet_run new happened outcome rest nodes same released = record {
    outcome = outcome;
    agrees =
        agreement.agrees_same k records limits within applied shelf world w (comings.stood k records limits within applied shelf world events event comes) comes.stands.agrees event
        (comings.new k records limits within applied shelf world events event comes) (comings.single k records limits within applied shelf world events event comes) new rest nodes same;
    waits = λ m. same_waiting world new nodes m ∙ sym (append-nil (waiting world m)) ∙ ap (λ rs. waiting world m ++ rs) (sym (none_released released m));
  }

  -- not even an event
  pub kept : (new : World S R Plan C) → IsQuiet new → new.nodes.items ≡ world.nodes.items → IsKept k records world new events
  kept new quiet nodes = record {
    agrees = agreement.agrees_still k records limits within applied shelf world w (comings.stood k records limits within applied shelf world events event comes) comes.stands.agrees new quiet nodes;
    waits = λ m. same_waiting world new nodes m;
  }

  -- the event finds its condition false, or is refused
  module _ (out : Outcome) (h : happens k.object w event ≡ record { world = w; outcome = out }) where
    pub same_next : next ≡ w
    same_next = ap (λ (x : HappenedThere C). x.world) h

    pub unmoved : (new : World S R Plan C) (happened : Happened) → happened_of happened ≡ out → IsQuiet new → new.nodes.items ≡ world.nodes.items → HasRun k records world new events event happened
    unmoved new happened outcome quiet nodes = record {
      outcome = outcome ∙ sym (ap (λ (x : HappenedThere C). x.outcome) h);
      agrees = subst (λ (u : Machine C). Agrees k records new u) (sym same_next) (kept new quiet nodes).agrees;
      waits = λ m. same_waiting world new nodes m ∙ sym (append-nil (waiting world m)) ∙ ap (λ rs. waiting world m ++ rs) (sym (none_released (ap (λ (u : Machine C). u.released) same_next) m));
    }

  -- only the messages in flight are others
  module _ (ps : List Packet) (out : Outcome) (h : happens k.object w event ≡ record { world = with_packets w ps; outcome = out }) where
    pub next_is : next ≡ with_packets w ps
    next_is = ap (λ (x : HappenedThere C). x.world) h

    pub packets_run : (new : World S R Plan C) (happened : Happened) → happened_of happened ≡ out → setup_of new ≡ setup_of world → new.members ≡ world.members → vec_len new.nodes ≡ vec_len world.nodes
        → new.crashed.items ≡ world.crashed.items → service_of new.service ≡ service_of world.service → new.links.ends ≡ world.links.ends → records new.recorder w.recorded
        → HasLists new.links (flying k next) → HasFit k next → new.nodes.items ≡ world.nodes.items → HasRun k records world new events event happened
    packets_run new happened outcome setup members size crashed service ends recorded links fit nodes =
        quiet_run new happened (outcome ∙ sym (ap (λ (x : HappenedThere C). x.outcome) h))
        (record {
          setup = setup;
          members = members;
          size = size;
          crashed = crashed ∙ comes.stands.agrees.crashed ∙ sym (ap (λ (u : Machine C). u.crashed) next_is);
          service = service ∙ comes.stands.agrees.service ∙ sym (ap (λ (u : Machine C). u.service) next_is);
          ends = ends;
          links = links;
          fit = fit;
          recorded = subst (records new.recorder) (sym (ap (λ (u : Machine C). u.recorded) next_is)) recorded;
        })
        nodes (ap (λ (u : Machine C). u.nodes) next_is) (ap (λ (u : Machine C). u.released) next_is)
