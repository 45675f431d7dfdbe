-- A world in which nothing has happened.
use Rattle.std.proofs.Common.{◌≡◌, ℕ, ◌+◌, ◌≤◌, ◌==◌, Bool, true, false, cond, List, [], ◌∷◌, ◌++◌, map, Option, Some, None, slice_get, vec_len, Contains, All, refl, ap, sym, ◌∙◌, subst, arith, add-one}
use Rattle.std.proofs.lemmas.List.Elements.{All-append}
use Rattle.std.proofs.lemmas.Option.{slice_get_within}
use Rattle.grid_base.specs.Objects.{Object}
use Rattle.partition_table.specs.declared.Row.{Row}
use Rattle.partition_table.specs.Rows.{initial_row, is_in}
use Rattle.partition_protocol.specs.Node.{Node as ProtocolNode, Pair, opening_node, opening_pair, no_pair}
use Rattle.partition_protocol.specs.Service.{Service as ProtocolService, NoMove, numbers_below}
use Rattle.partition_protocol.specs.History.{Entry, state_after}
use Rattle.partition_protocol.specs.Recorded.{Recorded}
use Rattle.partition_protocol.specs.World.{World as Machine, start, pair_state}
use Rattle.partition_protocol.proofs.Lists.{on_if}
use Rattle.partition_protocol.proofs.Answers.{map_append}
use Rattle.partition_protocol.proofs.Theorem.{length-numbers_below, get-numbers_below, get_map, map_get}
use Rattle.link_net.specs.Links.{HasLists}
use Rattle.primary_hold.specs.Rings.{kept}
use Rattle.replica_node.specs.declared.node.Node.{Node}
use Rattle.replica_node.specs.Nodes.{node_of, contents_of, waiting as node_waiting, held_answers, ring_of, ends_of, Ends}
use Rattle.table_service.specs.Services.{Setup, service_of}
use Rattle.partition_world.specs.declared.world.World.{World}
use Rattle.grid_base.specs.Shelves.{Meaning}
use Rattle.partition_world.specs.Answers.{held_answer}
use Rattle.partition_world.specs.InFlight.{IsRing}
use Rattle.partition_world.specs.Sending.{HasNewest}
use Rattle.partition_world.specs.Worlds.{setup_of, steps_of, waiting, IsMember, Agrees, StandsFor}
use Rattle.partition_world.proofs.Agreement.{waits_in, waiting_in}
use Rattle.partition_world.proofs.Places.{all_at, all_one}
use Rattle.partition_world.proofs.Rings.{ring_opened}

-- one member more

pub one_more : {X : Type 0} (f : ℕ → X) (k : ℕ) → map f (numbers_below (k + 1)) ≡ map f (numbers_below k) ++ f k ∷ []
one_more f k = rw add-one (map_append f (numbers_below k) (k ∷ []))

pub map_more : {X Y : Type 0} (f : X → Y) (g : ℕ → Y) (before after : List X) (x : X) (k : ℕ) → after ≡ before ++ x ∷ [] → map f before ≡ map g (numbers_below k) → f x ≡ g k → map f after ≡ map g (numbers_below (k + 1))
map_more f g before after x k gains was is = ap (map f) gains ∙ map_append f before (x ∷ []) ∙ ap (λ ys. ys ++ f x ∷ []) was ∙ ap (λ y. map g (numbers_below k) ++ y ∷ []) is ∙ sym (one_more g k)

pub all_more : {X : Type 0} (P : X → Type 0) (before after : List X) (x : X) → after ≡ before ++ x ∷ [] → All P before → P x → All P after
all_more P before after x gains was is = subst (All P) (sym gains) (All-append P before (x ∷ []) was (all_one P x is))

-- what is of the member at a place
pub of_number : {X : Type 0} (f : ℕ → X) (n m : ℕ) (x : X) → slice_get (map f (numbers_below n)) m ≡ Some x → f m ≡ x
of_number f n m x e =
    let read = get_map f (numbers_below n) m x e in
    let inside = slice_get_within (numbers_below n) m read.0 read.1 in
    let there = get-numbers_below n m (omega (arith, inside, length-numbers_below n)) in
    let both : Some m ≡ Some read.0 = sym there ∙ read.1 in
    let same : m ≡ read.0 = cc in
    ap f same ∙ read.2

-- nothing is counted, and so each state is the empty one
pub start_state : {C State : Type 0} (o : Object C State) (partition members backups : ℕ) (p : Pair) → pair_state o (start {C = C} partition members backups) p ≡ o.empty
start_state {C = C} o partition members backups p = ap (state_after o o.empty) (none_either (1 == p.version))
  where
    none_either : (b : Bool) → cond {A = List (Entry C)} b [] [] ≡ []
    none_either true = refl
    none_either false = refl

-- and no effect is kept that would have to be
pub newest_opened : (row : Row) (m : ℕ) (kept : ℕ → Option (List ℕ)) → HasNewest (opening_node row m) kept
newest_opened row m kept i l r = absurd (let z = none in omega (arith, l, r, z))
  where
    none : (opening_pair row m).count ≡ 0
    none = on_if (λ (p : Pair). p.count ≡ 0) (is_in row m) (record { version = 1; count = 0 }) no_pair refl refl

-- nothing waits anywhere
pub none_waits : {S R Plan C : Type 0} (world : World S R Plan C) → All (λ (node : Node S). node_waiting node ≡ []) world.nodes.items → (m : ℕ) → waiting world m ≡ []
none_waits {S = S} world none m = waiting_in world m ∙ go (slice_get world.nodes.items m) refl
  where
    go : (node : Option (Node S)) → slice_get world.nodes.items m ≡ node → waits_in node ≡ []
    go None at = refl
    go (Some node) at = all_at (λ (node : Node S). node_waiting node ≡ []) world.nodes.items m node none at

-- What a world is made of: the first row of its service, as it is read for the nodes and for the recorder, and empty shelves
pub record IsNew {S R Plan C State : Type 0} (k : Meaning S C State) (records : R → Recorded C → Type 0) (world : World S R Plan C) (partition members backups : ℕ) : Type 0 where
  pub first : Row
  pub standing : Row
  pub nothing : State
  pub setup : setup_of world ≡ record { partition = partition; members = members; backups = backups }
  pub number : world.members ≡ members
  pub size : vec_len world.nodes ≡ members
  pub nodes : map node_of world.nodes.items ≡ map (opening_node first) (numbers_below members)
  pub begins : k.object.empty ≡ nothing
  pub empty : All (λ (node : Node S). k.state (contents_of node) ≡ nothing) world.nodes.items
  pub waiting : All (λ (node : Node S). node_waiting node ≡ []) world.nodes.items
  pub held : All (λ (node : Node S). held_answers node ≡ []) world.nodes.items
  pub ends : map ends_of world.nodes.items ≡ map (λ (m : ℕ). let e : Ends = record { member = m; service = members } in e) (numbers_below members)
  pub crashed : world.crashed.items ≡ []
  pub service : service_of world.service ≡ record { row = initial_row partition members backups; move = NoMove; detected = [] }
  pub links_ends : world.links.ends ≡ members + 1
  pub links : HasLists world.links (λ _ _. [])
  pub first_row : first ≡ (service_of world.service).row
  pub standing_row : standing ≡ (service_of world.service).row
  pub recorded : records world.recorder (record { standing = standing; log = []; bases = record { version = 1; reset = 0; pair = no_pair } ∷ []; openings = [] })
  pub steps : steps_of world ≡ 0

module _ {S R Plan C State : Type 0} (k : Meaning S C State) (records : R → Recorded C → Type 0) (limits : C → Type 0) (world : World S R Plan C) (partition members backups : ℕ) (is : IsNew k records world partition members backups) where
  abbrev pub w : Machine C
  w = start partition members backups

  abbrev pub row : Row
  row = initial_row partition members backups

  service_row : (service_of world.service).row ≡ row
  service_row = ap (λ (s : ProtocolService). s.row) is.service

  nodes : map node_of world.nodes.items ≡ map (opening_node row) (numbers_below members)
  nodes = is.nodes ∙ ap (λ (r : Row). map (opening_node r) (numbers_below members)) (is.first_row ∙ service_row)

  is_member : (m : ℕ) (node : Node S) → slice_get world.nodes.items m ≡ Some node → IsMember k w m node
  is_member m node there = record {
    ends = sym (of_number ends members m (ends_of node) (ap (λ es. slice_get es m) (sym is.ends) ∙ map_get ends_of world.nodes.items m node there));
    contents = all_at (λ (node : Node S). k.state (contents_of node) ≡ is.nothing) world.nodes.items m node is.empty there ∙ sym is.begins ∙ sym (start_state k.object partition members backups (node_of node).pair);
    held =
        ap (λ (n : ProtocolNode). map (held_answer k.object k.change_of w) n.held) (sym opened)
        ∙ sym (ap (map (λ a. Some a)) (all_at (λ (node : Node S). held_answers node ≡ []) world.nodes.items m node is.held there));
    ring = λ leads. subst (λ (n : ProtocolNode). IsRing k w n (kept (ring_of node) n.pair.count)) opened (ring_opened k w row m (kept (ring_of node) (opening_node row m).pair.count));
    newest = λ leads. subst (λ (n : ProtocolNode). HasNewest n (kept (ring_of node) n.pair.count)) opened (newest_opened row m (kept (ring_of node) (opening_node row m).pair.count));
  }
    where
      ends : ℕ → Ends
      ends q = record { member = q; service = members }

      opened : opening_node row m ≡ node_of node
      opened = of_number (opening_node row) members m (node_of node) (ap (λ ns. slice_get ns m) (sym nodes) ∙ map_get node_of world.nodes.items m node there)

  nobody : {X : Type 0} (x : X) → Contains [] x → ⊥
  nobody x (j, inside, e) = absurd (omega (arith, inside))

  starts_agrees : Agrees k records world w
  starts_agrees = record {
    setup = is.setup;
    members = is.number;
    size = is.size;
    nodes = nodes;
    each = is_member;
    crashed = is.crashed;
    service = is.service;
    ends = is.links_ends;
    links = is.links;
    fit = λ p c. absurd (nobody p c);
    recorded = subst (λ (r : Row). records world.recorder (record { standing = r; log = []; bases = record { version = 1; reset = 0; pair = no_pair } ∷ []; openings = [] })) (is.standing_row ∙ service_row) is.recorded;
    waiting = λ m answer c. absurd (nobody answer (subst (λ rs. Contains rs answer) (none_waits world is.waiting m) c));
  }

  pub starts : 1 ≤ members → members ≤ 8 → StandsFor k records limits world []
  starts some most = record {
    some = subst (λ (s : Setup). 1 ≤ s.members) (sym is.setup) some;
    most = subst (λ (s : Setup). s.members ≤ 8) (sym is.setup) most;
    agrees = subst (λ (s : Setup). Agrees k records world (start s.partition s.members s.backups)) (sym is.setup) starts_agrees;
    steps = is.steps;
    within = λ j d l. absurd (omega (arith, l));
    once = tt;
  }
