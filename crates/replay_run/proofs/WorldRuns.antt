-- The worlds of the partitions, after a call reached one of them.
use Rattle.std.proofs.Common.{◌≡◌, ◌≢◌, ℕ, ◌==◌, false, List, [], ◌∷◌, ◌++◌, slice_set, refl, ap, sym, ◌∙◌, subst, ⊎_elim, append-nil}
use Rattle.std.proofs.lemmas.Bool.{cases_eq, eq-eqb, ne_eqb}
use Rattle.partition_protocol.specs.World.{start}
use Rattle.partition_protocol.specs.Events.{Event, happens, run}
use Rattle.partition_protocol.proofs.Extends.{run_append}
use Rattle.partition_protocol.proofs.Lists.{set_get_same, set_get_other}
use Rattle.partition_world.specs.Answers.{released_at}
use Rattle.table_service.specs.Services.{Setup}
use Rattle.partition_world.specs.Worlds.{run_of, setup_of, waiting}
use Rattle.grid_base.specs.declared.calls.Request.{Request}
use Rattle.call_engine.specs.Calls.{Settings}
use Rattle.call_engine.specs.Changes.{change_of}
use Rattle.call_engine.specs.Objects.{partition_object}
use Rattle.replay_run.specs.Runs.{Run, Arrival, call_of, events_at, world_at}
use Rattle.replay_run.specs.Shelves.{grid_meaning}
use Rattle.replay_run.specs.Grids.{GridWorld, StandsForEvents, IsWorld, HasWorld}
use Rattle.replay_run.specs.WorldCalls.{IsCalled, IsSkipped}
use Rattle.line_told.specs.declared.told.Told.{Told}
use Rattle.replay_run.proofs.Arriving.{its_event, maybe_one, events_of_more}
use Rattle.replay_run.proofs.GivingOut.{HasGivenOut}
use Rattle.replay_run.proofs.RunFacts.{is_of}

-- a partition's world goes by its partition's events alone
pub same_events : {settings : Settings} (w : GridWorld) (r next : Run) (p : ℕ) → IsWorld settings w r p → events_at p next.events ≡ events_at p r.events → next.members ≡ r.members → next.backups ≡ r.backups → IsWorld settings w next p
same_events {settings = settings} w r next p is e members backups = record {
  stands = subst (λ es. StandsForEvents settings w es) (sym e) is.stands;
  setup = is.setup ∙ (λ i. record { partition = p; members = sym members i; backups = sym backups i });
}

-- the protocol's world of a partition
pub run_is : {settings : Settings} (w : GridWorld) (r : Run) (p : ℕ) → IsWorld settings w r p → run_of (grid_meaning settings) w (events_at p r.events) ≡ world_at (partition_object settings) r p
run_is {settings = settings} w r p is = ap (λ (s : Setup). run (partition_object settings) (start s.partition s.members s.backups) (events_at p r.events)) is.setup

-- and once it has run an event more
pub ran_to : {settings : Settings} (old new : GridWorld) (r : Run) (p : ℕ) (event : Event Request) → IsWorld settings old r p → setup_of new ≡ setup_of old
    → run_of (grid_meaning settings) new (events_at p r.events ++ event ∷ []) ≡ (happens (partition_object settings) (world_at (partition_object settings) r p) event).world
ran_to {settings = settings} old new r p event is setup =
    let o = partition_object settings in
    ap (λ (s : Setup). run o (start s.partition s.members s.backups) (events_at p r.events ++ event ∷ [])) (setup ∙ is.setup) ∙ run_append o (start p r.members r.backups) (events_at p r.events) (event ∷ [])

module _ {settings : Settings} (ws : List GridWorld) (r : Run) (a : Arrival) (new : GridWorld) (next : Run) (old : HasWorld settings ws r a.request.partition) (members : next.members ≡ r.members) (backups : next.backups ≡ r.backups) where
  -- the other partitions have their worlds
  elsewhere : (q : ℕ) → HasWorld settings ws r q → q ≢ a.request.partition → events_at q next.events ≡ events_at q r.events → HasWorld settings (slice_set ws a.request.partition new) next q
  elsewhere q has apart e = record {
    world = has.world;
    there = set_get_other ws a.request.partition q new apart ∙ has.there;
    is = same_events has.world r next q has.is e members backups;
    given = has.given;
  }

  here : (q : ℕ) → q ≡ a.request.partition → IsWorld settings new next a.request.partition → ((member : ℕ) → waiting new member ≡ []) → HasWorld settings (slice_set ws a.request.partition new) next q
  here q e is given = subst (λ p. HasWorld settings (slice_set ws a.request.partition new) next p) (sym e) (record {
    world = new;
    there = set_get_same ws a.request.partition new old.world old.there;
    is = is;
    given = given;
  })

  worlds_with : ((q : ℕ) → q ≢ a.request.partition → events_at q next.events ≡ events_at q r.events) → IsWorld settings new next a.request.partition → ((member : ℕ) → waiting new member ≡ [])
      → (q : ℕ) → HasWorld settings ws r q → HasWorld settings (slice_set ws a.request.partition new) next q
  worlds_with same is given q has = ⊎_elim (λ e. here q e is given) (λ apart. elsewhere q has apart (same q apart)) (cases_eq q a.request.partition)

  -- a world that gave out all that waited
  none_waits : (called : GridWorld) → HasGivenOut settings called new a.member → ((other : ℕ) → other ≢ a.member → waiting called other ≡ []) → (member : ℕ) → waiting new member ≡ []
  none_waits called out others member = ⊎_elim (λ e. subst (λ m. waiting new m ≡ []) (sym e) out.given) (λ apart. out.others member apart ∙ others member apart) (cases_eq member a.member)

  -- the call is an event of its partition
  module _ (called : GridWorld) (added : List Told) (did : IsCalled settings old.world called (events_at a.request.partition r.events) a added) (out : HasGivenOut settings called new a.member) (events : next.events ≡ r.events ++ its_event a ∷ []) where
    its_partition : (q : ℕ) → events_at q next.events ≡ events_at q r.events ++ maybe_one (is_of q a) (call_of a)
    its_partition q = ap (events_at q) events ∙ events_of_more q r.events a

    not_elsewhere : (q : ℕ) → q ≢ a.request.partition → events_at q next.events ≡ events_at q r.events
    not_elsewhere q apart =
        let other : (a.request.partition == q) ≡ false = ne_eqb a.request.partition q (λ e. apart (sym e)) in
        its_partition q ∙ ap (λ b. events_at q r.events ++ maybe_one b (call_of a)) other ∙ append-nil (events_at q r.events)

    called_one : IsWorld settings new next a.request.partition
    called_one = record {
      stands = out.stands (events_at a.request.partition next.events) (subst (λ es. StandsForEvents settings called es) (sym (its_partition a.request.partition ∙ ap (λ b. events_at a.request.partition r.events ++ maybe_one b (call_of a)) (eq-eqb a.request.partition a.request.partition refl))) did.stands);
      setup = out.setup ∙ did.setup ∙ old.is.setup ∙ (λ i. record { partition = a.request.partition; members = sym members i; backups = sym backups i });
    }

    -- what the call released, where nothing waited
    pub released_here : waiting called a.member ≡ released_at (partition_object settings) (change_of settings) (world_at (partition_object settings) r a.request.partition) (call_of a) a.member
    released_here =
        did.waiting a.member ∙ ap (λ ws. ws ++ released_at (partition_object settings) (change_of settings) (run_of (grid_meaning settings) old.world (events_at a.request.partition r.events)) (call_of a) a.member) (old.given a.member)
        ∙ ap (λ w. released_at (partition_object settings) (change_of settings) w (call_of a) a.member) (run_is old.world r a.request.partition old.is)

    others_wait_for_none : (other : ℕ) → other ≢ a.member → waiting called other ≡ []
    others_wait_for_none other apart =
        let not_there : (a.member == other) ≡ false = ne_eqb a.member other (λ e. apart (sym e)) in
        did.waiting other ∙ ap (λ ws. ws ++ released_at (partition_object settings) (change_of settings) (run_of (grid_meaning settings) old.world (events_at a.request.partition r.events)) (call_of a) other) (old.given other)
        ∙ nothing_at other not_there
      where
        nothing_at : (m : ℕ) → (a.member == m) ≡ false → released_at (partition_object settings) (change_of settings) (run_of (grid_meaning settings) old.world (events_at a.request.partition r.events)) (call_of a) m ≡ []
        nothing_at m e = rw e refl

    pub called_worlds : (q : ℕ) → HasWorld settings ws r q → HasWorld settings (slice_set ws a.request.partition new) next q
    called_worlds = worlds_with not_elsewhere called_one (none_waits called out others_wait_for_none)

  -- the call found no memory
  module _ (called : GridWorld) (added : List Told) (did : IsSkipped settings old.world called (events_at a.request.partition r.events) a added) (out : HasGivenOut settings called new a.member) (events : next.events ≡ r.events) where
    same_everywhere : (q : ℕ) → events_at q next.events ≡ events_at q r.events
    same_everywhere q = ap (events_at q) events

    skipped_one : IsWorld settings new next a.request.partition
    skipped_one = record {
      stands = out.stands (events_at a.request.partition next.events) (subst (λ es. StandsForEvents settings called es) (sym (same_everywhere a.request.partition)) did.stands);
      setup = out.setup ∙ did.setup ∙ old.is.setup ∙ (λ i. record { partition = a.request.partition; members = sym members i; backups = sym backups i });
    }

    pub nothing_waits : (member : ℕ) → waiting called member ≡ []
    nothing_waits member = did.waiting member ∙ old.given member

    pub skipped_worlds : (q : ℕ) → HasWorld settings ws r q → HasWorld settings (slice_set ws a.request.partition new) next q
    skipped_worlds = worlds_with (λ q apart. same_everywhere q) skipped_one (none_waits called out (λ other apart. nothing_waits other))
