-- A call that a live member executes or refuses: the world of the code goes on as the protocol's.
use Rattle.std.proofs.Common.{◌≡◌, ◌≢◌, ℕ, zero, suc, ◌+◌, ◌-◌, ◌<◌, ◌≤◌, ◌^◌, Bool, true, false, cond, ◌==◌, nat_lt, not, if◌then◌else◌, List, [], ◌∷◌, ◌++◌, map, length, take, drop, reverse, Option, Some, None, is_some, slice_get, slice_set, vec_len, Contains, All, refl, ap, sym, ◌∙◌, subst, arith, ◌⊎◌, inl, inr, append-nil, append_assoc, length-append}
use Rattle.std.proofs.lemmas.List.{append_cancel_right, reverse-append, length-reverse, length-drop, take-append-drop}
use Rattle.std.specs.List.{filter_map}
use Rattle.grid_base.specs.Objects.{Object, IsSmall}
use Rattle.grid_base.specs.declared.calls.Change.{Change}
use Rattle.partition_table.specs.Rows.{is_primary, is_among, is_empty}
use Rattle.partition_protocol.specs.Messages.{Sent}
use Rattle.partition_protocol.specs.Node.{Node as ProtocolNode, Held, is_released, still_held, now_released, settled}
use Rattle.partition_protocol.specs.CatchUp.{recent_limit}
use Rattle.partition_protocol.specs.Execution.{reached, Executes, PartitionLost as IsLost, WrongTarget as IsElsewhere, Migrating as IsFrozen, executing, sent_on_executing}
use Rattle.partition_protocol.specs.History.{Executed, Called as CalledEntry}
use Rattle.partition_protocol.specs.World.{World as Machine, is_live, pair_state}
use Rattle.partition_protocol.specs.Links.{packets_from}
use Rattle.partition_protocol.specs.Events.{Event, Call, Outcome, HeldAt, ReleasedAt, Refused, Happened as HappenedThere, entry_of, executes, happens}
use Rattle.partition_protocol.proofs.Lists.{In, contains_in, in_contains, in_cases, in_right, Every, every_append, every_in, every_from_in}
use Rattle.partition_protocol.proofs.Invariant.{NodeAt}
use Rattle.partition_protocol.proofs.RowFacts.{number_same, number_other, both_left, less, not_less, number_cases}
use Rattle.partition_protocol.proofs.Answers.{map_append}
use Rattle.partition_protocol.proofs.Bounds.{every_run_is_within}
use Rattle.partition_protocol.proofs.EventFacts.{call_refused, call_executed, reached_leads}
use Rattle.member_wire.specs.Said.{Contents, said_with, written}
use Rattle.member_wire.specs.Spelling.{LengthsFit}
use Rattle.link_net.specs.Links.{Net, HasLists, HasRoom, list_of, spare_of, sent_to, with_sent}
use Rattle.primary_hold.specs.declared.answer.CallAnswer.{CallAnswer}
use Rattle.primary_hold.specs.Answering.{held_of}
use Rattle.primary_hold.specs.Changes.{answer_at}
use Rattle.primary_hold.specs.Rings.{kept, ring_after}
use Rattle.grid_base.specs.declared.refusal.PartitionRefused.{PartitionRefused}
use Rattle.grid_base.specs.declared.refusal.PartitionRefused.TheVariants as why_not
use Rattle.replica_node.specs.declared.node.Node.{Node}
use Rattle.replica_node.specs.declared.calls.Execution.{Execution}
use Rattle.replica_node.specs.Calls.{refused_as}
use Rattle.replica_node.specs.Nodes.{node_of, contents_of, waiting as node_waiting, held_answers, ring_of, ends_of, member_of, Ends, IsUnchanged}
use Rattle.replica_node.specs.Sending.{Fits}
use Rattle.table_service.specs.Services.{Setup, service_of}
use Rattle.partition_world.specs.declared.world.World.{World}
use Rattle.partition_world.specs.declared.event.Happened.{Happened}
use Rattle.partition_world.specs.declared.event.Happened.TheVariants as happened
use Rattle.partition_world.specs.declared.event.CallOutcome.{CallOutcome}
use Rattle.partition_world.specs.declared.event.CallOutcome.TheVariants as call_outcome
use Rattle.grid_base.specs.Shelves.{Meaning}
use Rattle.partition_world.specs.Shelves.{IsShelf}
use Rattle.partition_world.specs.Events.{came_to, happened_of}
use Rattle.partition_world.specs.Answers.{newest_call, answer_of, held_answer, released_by, released_at}
use Rattle.partition_world.specs.InFlight.{contents_in, effect_bytes, IsRing}
use Rattle.partition_world.specs.Sending.{HasNewest, IsNamed, flying}
use Rattle.partition_world.specs.Worlds.{setup_of, run_of, waiting, IsReleased, IsMember, Agrees, Comes, HasRun, IsKept}
use Rattle.partition_world.proofs.EffectsLead.{lawful, Stood}
use Rattle.partition_world.proofs.SmallStates.{every_of_all}
use Rattle.partition_world.proofs.FewOnLinks.{count_to}
use Rattle.partition_world.proofs.LinkBytes as bytes
use Rattle.partition_world.proofs.LinkBytes.{sent_count}
use Rattle.partition_world.proofs.HeldAnswers.{newest_in, answers_of_each, called_answer, called_released}
use Rattle.partition_world.proofs.KeptRings.{keeps_on, kept_at, at_kept, ring_with}
use Rattle.partition_world.proofs.EventSends.{called_few_to, called_none_to}
use Rattle.partition_world.proofs.Executing as executed
use Rattle.partition_world.proofs.Agreement as agreement
use Rattle.partition_world.proofs.Agreement.{waits_in, waiting_in, same_grid}
use Rattle.partition_world.proofs.Places.{set_get_same, set_get_other}
use Rattle.partition_world.proofs.Comings as comings
use Rattle.partition_world.proofs.Quiet as quiet
-- lists

-- of two splits of a list, the one whose end is no longer than the other's
use Rattle.partition_protocol.specs.Recorded.{Recorded}

pub split_longer : {X : Type 0} (xs ys zs ws : List X) → xs ++ ys ≡ zs ++ ws → length ys ≤ length ws → (rs : List X) × (xs ≡ zs ++ rs) × (rs ++ ys ≡ ws)
split_longer xs ys [] ws e l = (xs, refl, e)
split_longer [] ys (z ∷ zs) ws e l =
    let same = ap length e in
    let whole = length-append zs ws in
    absurd (omega (arith, same, whole, l))
split_longer (x ∷ xs) ys (z ∷ zs) ws e l =
    let first : x ≡ z = cc in
    let rest : xs ++ ys ≡ zs ++ ws = cc in
    let r = split_longer xs ys zs ws rest l in
    (r.0, ap (λ y. y ∷ xs) first ∙ ap (λ qs. z ∷ qs) r.1, r.2)

pub every_left : {X : Type 0} (P : X → Type 0) (xs ys : List X) → Every P (xs ++ ys) → Every P xs
every_left P [] ys h = tt
every_left P (x ∷ xs) ys h = (h.0, every_left P xs ys h.1)

pub every_right : {X : Type 0} (P : X → Type 0) (xs ys : List X) → Every P (xs ++ ys) → Every P ys
every_right P [] ys h = h
every_right P (x ∷ xs) ys h = every_right P xs ys h.1

-- the two lists agree element by element
pub each_same : {X Y : Type 0} (f : X → Option Y) (g : Y → X) (ys : List Y) → Every (λ y. f (g y) ≡ Some y) ys → map f (map g ys) ≡ map (λ y. Some y) ys
each_same f g [] h = refl
each_same f g (y ∷ ys) h = ap (λ z. z ∷ map f (map g ys)) h.0 ∙ ap (λ zs. Some y ∷ zs) (each_same f g ys h.1)

pub same_each : {X Y : Type 0} (f : X → Option Y) (g : Y → X) (ys : List Y) → map f (map g ys) ≡ map (λ y. Some y) ys → Every (λ y. f (g y) ≡ Some y) ys
same_each f g [] e = tt
same_each f g (y ∷ ys) e =
    let first : f (g y) ≡ Some y = cc in
    let rest : map f (map g ys) ≡ map (λ z. Some z) ys = cc in
    (first, same_each f g ys rest)

-- what a member holds

-- its held answers are those that the protocol says
pub held_named : {S : Type 0} (node : Node S) → (node_of node).held ≡ map held_of (held_answers node)
held_named node = refl

-- what is released comes before what is still held
pub settled_parts : (a : ProtocolNode) (hs : List Held) → now_released a hs ++ still_held a hs ≡ hs
settled_parts a [] = refl
settled_parts a (h ∷ hs) = go (is_released a h.seen) (settled_parts a hs)
  where
    go : (b : Bool) → now_released a hs ++ still_held a hs ≡ hs → cond b (h ∷ now_released a hs) [] ++ cond b (still_held a hs) (h ∷ hs) ≡ h ∷ hs
    go true e = ap (λ ks. h ∷ ks) e
    go false e = refl

-- A node that settled has released some of all these answers, the oldest, and holds the others
pub record Gives {S : Type 0} (node moved : Node S) (a : ProtocolNode) (all : List CallAnswer) : Type 0 where
  pub released : List CallAnswer
  pub waiting : node_waiting moved ≡ node_waiting node ++ released
  pub named : map held_of released ≡ now_released a a.held
  pub parts : released ++ held_answers moved ≡ all

pub gives : {S : Type 0} (node moved : Node S) (a : ProtocolNode) (all : List CallAnswer) → (node_of moved).held ≡ still_held a a.held → a.held ≡ map held_of all
    → node_waiting moved ++ held_answers moved ≡ node_waiting node ++ all → Gives node moved a all
gives node moved a all says holds same = record { released = split.0; waiting = split.1; named = named; parts = split.2 }
  where
    still : map held_of (held_answers moved) ≡ still_held a a.held
    still = sym (held_named moved) ∙ says

    fewer : length (held_answers moved) ≤ length all
    fewer =
        let one = ap length still in
        let two = ap length holds in
        let three = ap length (settled_parts a a.held) in
        let whole = length-append (now_released a a.held) (still_held a a.held) in
        let mapped = map_length (held_answers moved) in
        let all_mapped = map_length all in
        omega (arith, one, two, three, whole, mapped, all_mapped)
      where
        map_length : (rs : List CallAnswer) → length (map held_of rs) ≡ length rs
        map_length [] = refl
        map_length (r ∷ rs) = ap suc (map_length rs)

    split : (rs : List CallAnswer) × (node_waiting moved ≡ node_waiting node ++ rs) × (rs ++ held_answers moved ≡ all)
    split = split_longer (node_waiting moved) (held_answers moved) (node_waiting node) all same fewer

    named : map held_of split.0 ≡ now_released a a.held
    named =
        append_cancel_right (map held_of split.0) (now_released a a.held) (still_held a a.held)
        (ap (λ hs. map held_of split.0 ++ hs) (sym still) ∙ sym (map_append held_of split.0 (held_answers moved)) ∙ ap (map held_of) split.2 ∙ sym holds ∙ sym (settled_parts a a.held))

-- an answer that was released, and is that of what is held for it
pub released_answer : {C State : Type 0} (o : Object C State) (change_of : State → C → ℕ → Option Change) (u : Machine C) (answer : CallAnswer)
    → Contains u.released (held_of answer) → held_answer o change_of u (held_of answer) ≡ Some answer → IsReleased u answer
released_answer {C = C} o change_of u answer released is = go (newest_call answer.id u.recorded.log) refl is
  where
    go : (x : Option (Executed C)) → newest_call answer.id u.recorded.log ≡ x → held_answer o change_of u (held_of answer) ≡ Some answer → IsReleased u answer
    go None e z = absurd (let none : None ≡ Some answer = sym (rw e refl) ∙ z in cc)
    go (Some x) e z =
        let some : Some (answer_of o change_of u x) ≡ Some answer = sym (rw e refl) ∙ z in
        let same : answer_of o change_of u x ≡ answer = cc in
        record {
          released = released;
          call = x;
          executed = contains_in (CalledEntry x) u.recorded.log (newest_in answer.id u.recorded.log x e);
          id = ap (λ (r : CallAnswer). r.id) (sym same);
          version = ap (λ (r : CallAnswer). r.version) (sym same);
          seen = ap (λ (r : CallAnswer). r.seen) (sym same);
          reply = ap (λ (r : CallAnswer). r.reply) (sym same);
        }

-- a ring

-- the newest effects but one stay as a call brings a new one
pub newer_kept : (ring : List (List ℕ)) (new bytes : List ℕ) (count i : ℕ) → i ≤ count → count + 1 < i + recent_limit → kept ring count i ≡ Some bytes → kept (ring_after (Some new) ring) (count + 1) i ≡ Some bytes
newer_kept ring new bytes count i l near e = at_kept (ring_after (Some new) ring) (count + 1) i bytes (omega (arith, l)) here
  where
    k : ℕ
    k = length (ring ++ new ∷ []) - recent_limit

    was : slice_get (reverse ring) (count - i) ≡ Some bytes
    was = (kept_at ring count i bytes e).1

    whole : reverse ring ≡ reverse (drop k ring) ++ reverse (take k ring)
    whole = ap reverse (sym (take-append-drop k ring)) ∙ reverse-append (take k ring) (drop k ring)

    inside : count - i < length (reverse (drop k ring))
    inside =
        let all = within (reverse ring) (count - i) was in
        let one = length-reverse ring in
        let two = length-reverse (drop k ring) in
        let three = length-drop k ring in
        let four = length-append ring (new ∷ []) in
        omega (arith, all, one, two, three, four, near, l)
      where
        within : {X : Type 0} (xs : List X) (j : ℕ) {x : X} → slice_get xs j ≡ Some x → j < length xs
        within [] j e = absurd cc
        within (x ∷ xs) zero e = omega arith
        within (x ∷ xs) (suc j) e = let r = within xs j e in omega (arith, r)

    in_front : {X : Type 0} (xs ys : List X) (j : ℕ) → j < length xs → slice_get (xs ++ ys) j ≡ slice_get xs j
    in_front [] ys j l = absurd (omega (arith, l))
    in_front (x ∷ xs) ys zero l = refl
    in_front (x ∷ xs) ys (suc j) l = in_front xs ys j (omega (arith, l))

    front : slice_get (reverse (drop k ring)) (count - i) ≡ Some bytes
    front = sym (in_front (reverse (drop k ring)) (reverse (take k ring)) (count - i) inside) ∙ ap (λ xs. slice_get xs (count - i)) (sym whole) ∙ was

    here : slice_get (reverse (ring_after (Some new) ring)) (count + 1 - i) ≡ Some bytes
    here =
        let later : count + 1 - i ≡ suc (count - i) = omega (arith, l) in
        ap (λ j. slice_get (reverse (ring_after (Some new) ring)) j) later ∙ ap (λ xs. slice_get xs (suc (count - i))) (ring_with ring new) ∙ front

-- the new one is kept, and of the others those that are still among the newest
module _ (ring : List (List ℕ)) (count : ℕ) where
  pub called_newest : (effect : Option (List ℕ)) (b : Bool) → b ≡ is_some effect → (bytes : List ℕ) → effect ≡ Some bytes → kept (ring_after effect ring) (cond b (count + 1) count) (count + 1) ≡ Some bytes
  called_newest None b t bytes e = absurd cc
  called_newest (Some new) false t bytes e = absurd cc
  called_newest (Some new) true t bytes e =
      let first : count + 1 - (count + 1) ≡ 0 = omega arith in
      let same : new ≡ bytes = cc in
      at_kept (ring_after (Some new) ring) (count + 1) (count + 1) bytes (omega arith)
      (ap (λ j. slice_get (reverse (ring_after (Some new) ring)) j) first ∙ ap (λ xs. slice_get xs 0) (ring_with ring new) ∙ ap Some same)

  pub called_kept : (effect : Option (List ℕ)) (b : Bool) → b ≡ is_some effect → (i : ℕ) (bytes : List ℕ) → i ≤ count → cond b (count + 1) count < i + recent_limit → kept ring count i ≡ Some bytes
      → kept (ring_after effect ring) (cond b (count + 1) count) i ≡ Some bytes
  called_kept None true t i bytes l near e = absurd cc
  called_kept None false t i bytes l near e = e
  called_kept (Some new) false t i bytes l near e = absurd cc
  called_kept (Some new) true t i bytes l near e = newer_kept ring new bytes count i l near e

-- What a node did that executed a call, where its contents were this state: the facts of its contract
pub record IsCalled {S C State : Type 0} (k : Meaning S C State) (conn number : ℕ) (call : C) (now : ℕ) (node moved : Node S) (out : List (ℕ × List ℕ)) (called : Execution) (s : State) : Type 0 where
  pub says : node_of moved ≡ settled (executing (k.object.changes s call now) conn number (node_of node))
  pub contents : k.state (contents_of moved) ≡ k.object.after s call now
  pub sent : (contents : Contents) (bytes : List ℕ) → k.effect_of s call now ≡ Some bytes
      → contents.effect (executing true conn number (node_of node)).pair.version (executing true conn number (node_of node)).pair.count ≡ bytes
      → out ≡ map (written contents) (sent_on_executing true (executing true conn number (node_of node)))
  pub fits : (contents : Contents) (bytes : List ℕ) → k.effect_of s call now ≡ Some bytes
      → contents.effect (executing true conn number (node_of node)).pair.version (executing true conn number (node_of node)).pair.count ≡ bytes
      → All (Fits contents) (sent_on_executing true (executing true conn number (node_of node)))
  pub silent : k.effect_of s call now ≡ None → out ≡ []
  pub answers : node_waiting moved ++ held_answers moved
      ≡ node_waiting node ++ held_answers node ++ answer_at (executing (k.object.changes s call now) conn number (node_of node)) (record { conn = conn; number = number }) (k.object.reply s call now) (k.change_of s call now) ∷ []
  pub ring : ring_of moved ≡ ring_after (k.effect_of s call now) (ring_of node)
  pub version : called.version ≡ (node_of node).pair.version
  pub seen : called.seen ≡ (executing (k.object.changes s call now) conn number (node_of node)).pair.count
  pub reply : called.reply ≡ k.object.reply s call now
  pub held : called.is_held ≡ not (is_empty (node_of moved).held)
  pub ends : ends_of moved ≡ ends_of node

module _ {S R Plan C State : Type 0} (k : Meaning S C State) (records : R → Recorded C → Type 0) (limits : C → Type 0) (within : ℕ → State → Type 0) (applied : List ℕ → State → Option State) (shelf : IsShelf k limits within applied)
    (world : World S R Plan C) (events : List (Event C)) (m conn number : ℕ) (call : C) (now : ℕ) (comes : Comes k records limits world events (Call m conn number call now)) where
  abbrev pub event : Event C
  event = Call m conn number call now

  abbrev pub w : Machine C
  w = run_of k world events

  abbrev pub next : Machine C
  next = (happens k.object w event).world

  abbrev pub setup : Setup
  setup = setup_of world

  pub stood : Stood k.object limits within w
  stood = comings.stood k records limits within applied shelf world events event comes

  pub agrees : Agrees k records world w
  agrees = comes.stands.agrees

  abbrev pub IsQuiet : World S R Plan C → Type 0
  IsQuiet new = agreement.IsQuiet k records limits within applied shelf world w stood agrees new

  -- a live member has a node
  pub inside : is_live w m ≡ true → m < length world.nodes.items
  inside lives =
      let l : m < w.members = less m w.members (both_left (nat_lt m w.members) (not (is_among w.crashed m)) lives) in
      let size = agrees.size in
      let whole = world.nodes.ok.0 in
      omega (arith, l, size, whole)

  module _ (node : Node S) (there : slice_get world.nodes.items m ≡ Some node) where
    abbrev pub n : ProtocolNode
    n = node_of node

    pub at : NodeAt w.nodes m n
    at = agreement.node_at k records limits within applied shelf world w stood agrees m node there

    pub was : IsMember k w m node
    was = agrees.each m node there

    -- its contents are small, and so is their count
    pub small : IsSmall within (k.state (contents_of node))
    small = subst (IsSmall within) (sym was.contents) (stood.small n.pair)

    pub few : n.pair.count + 1 < 2 ^ 32
    few =
        let c = ((every_run_is_within k.object setup.partition setup.members setup.backups events).nodes m n at).pair.count in
        let room = comes.may.room in
        omega (arith, c, room)

    pub number_is : member_of node ≡ m
    number_is = ap (λ (e : Ends). e.member) was.ends

    -- A node that says the same stands in its place
    module _ (kin : Node S) (same : IsUnchanged k.state node kin) (ends : ends_of kin ≡ ends_of node) (new : World S R Plan C) (is_quiet : IsQuiet new) (nodes : new.nodes.items ≡ slice_set world.nodes.items m kin) where
      pub kept_kin : IsKept k records world new events
      kept_kin = record {
        agrees = agreement.agrees_with_kin k records limits within applied shelf world w stood agrees m node kin there same ends new is_quiet nodes;
        waits = agreement.kin_waiting k records limits within applied shelf world w stood agrees m node kin there same ends new nodes;
      }

      -- and the event finds its condition false, or is refused
      pub unmoved_kin : (out : Outcome) (happened : Happened) → happens k.object w event ≡ record { world = w; outcome = out } → happened_of happened ≡ out → HasRun k records world new events event happened
      unmoved_kin out happened h outcome =
          let same_next : next ≡ w = ap (λ (x : HappenedThere C). x.world) h in
          record {
            outcome = outcome ∙ sym (ap (λ (x : HappenedThere C). x.outcome) h);
            agrees = subst (λ (u : Machine C). Agrees k records new u) (sym same_next) kept_kin.agrees;
            waits = λ q. kept_kin.waits q ∙ sym (append-nil (waiting world q))
                ∙ ap (λ rs. waiting world q ++ rs) (sym (quiet.none_released k records limits within applied shelf world events event comes (ap (λ (u : Machine C). u.released) same_next) q));
          }

      pub refused_run : (lives : is_live w m ≡ true) (why : PartitionRefused) → reached (member_of node) n ≡ refused_as why → HasRun k records world new events event (happened.Called (call_outcome.Refused why))
      refused_run lives (why_not.PartitionLost version) e =
          unmoved_kin (Refused (IsLost version)) (happened.Called (call_outcome.Refused (why_not.PartitionLost version))) (call_refused k.object w m conn number call now n (IsLost version) lives at (ap (λ j. reached j n) (sym number_is) ∙ e) (λ z. absurd cc)) refl
      refused_run lives (why_not.WrongTarget version) e =
          unmoved_kin (Refused (IsElsewhere version)) (happened.Called (call_outcome.Refused (why_not.WrongTarget version))) (call_refused k.object w m conn number call now n (IsElsewhere version) lives at (ap (λ j. reached j n) (sym number_is) ∙ e) (λ z. absurd cc)) refl
      refused_run lives (why_not.Migrating version) e =
          unmoved_kin (Refused (IsFrozen version)) (happened.Called (call_outcome.Refused (why_not.Migrating version))) (call_refused k.object w m conn number call now n (IsFrozen version) lives at (ap (λ j. reached j n) (sym number_is) ∙ e) (λ z. absurd cc)) refl

    -- a node that executed it
    module _ (lives : is_live w m ≡ true) (runs : reached m n ≡ Executes) (moved : Node S) (out : List (ℕ × List ℕ)) (called : Execution) (said : IsCalled k conn number call now node moved out called (k.state (contents_of node))) where
      abbrev pub before : State
      before = pair_state k.object w n.pair

      abbrev pub changes : Bool
      changes = k.object.changes before call now

      abbrev pub after : ProtocolNode
      after = executing changes conn number n

      abbrev pub effect : Option (List ℕ)
      effect = k.effect_of before call now

      pub facts : IsCalled k conn number call now node moved out called before
      facts = subst (IsCalled k conn number call now node moved out called) was.contents said

      pub leads : is_primary n.known m ≡ true
      leads = (reached_leads m n runs).1

      pub next_is : next ≡ (executes k.object w m conn number call now n).world
      next_is = executed.next_is k limits within applied shelf w stood m conn number call now n lives at runs

      -- answers

      abbrev pub answer : CallAnswer
      answer = answer_at after (record { conn = conn; number = number }) (k.object.reply before call now) (k.change_of before call now)

      abbrev pub all : List CallAnswer
      all = held_answers node ++ answer ∷ []

      pub given : Gives node moved after all
      given =
          gives node moved after all (ap (λ (x : ProtocolNode). x.held) facts.says)
          (ap (λ hs. hs ++ held_of answer ∷ []) (held_named node) ∙ sym (map_append held_of (held_answers node) (answer ∷ [])))
          (facts.answers ∙ append_assoc (node_waiting node) (held_answers node) (answer ∷ []))

      abbrev pub HasAnswer : CallAnswer → Type 0
      HasAnswer a = held_answer k.object k.change_of next (held_of a) ≡ Some a

      pub each_answer : Every HasAnswer (given.released ++ held_answers moved)
      each_answer = subst (Every HasAnswer) (sym given.parts) (every_append HasAnswer (held_answers node) (answer ∷ []) old (new, tt))
        where
          stays : map (held_answer k.object k.change_of next) n.held ≡ map (held_answer k.object k.change_of w) n.held
          stays =
              agreement.held_stay k records limits within applied shelf world w stood agrees event (comings.new k records limits within applied shelf world events event comes)
              (comings.single k records limits within applied shelf world events event comes) m node there

          old : Every HasAnswer (held_answers node)
          old = same_each (held_answer k.object k.change_of next) held_of (held_answers node) (ap (map (held_answer k.object k.change_of next)) (sym (held_named node)) ∙ stays ∙ was.held)

          new : HasAnswer answer
          new = called_answer k.object k.change_of w stood.good m conn number call now n lives at runs

      pub released_is : released_by k.object k.change_of w next ≡ given.released
      released_is =
          called_released k.object k.change_of w m conn number call now n lives at runs ∙ ap (filter_map (held_answer k.object k.change_of next)) (sym given.named)
          ∙ answers_of_each k.object k.change_of next held_of given.released (every_left HasAnswer given.released (held_answers moved) each_answer)

      pub each_released : (a : CallAnswer) → In a given.released → IsReleased next a
      each_released a i =
          released_answer k.object k.change_of next a
          (contains_in (held_of a) next.released (subst (In (held_of a)) (ap (λ (u : Machine C). u.released) (sym next_is)) (in_right (held_of a) w.released (now_released after after.held) (subst (In (held_of a)) given.named (map_in given.released i)))))
          (every_in HasAnswer given.released a (every_left HasAnswer given.released (held_answers moved) each_answer) i)
        where
          map_in : (rs : List CallAnswer) → In a rs → In (held_of a) (map held_of rs)
          map_in [] i = i
          map_in (r ∷ rs) (inl e) = inl (ap held_of e)
          map_in (r ∷ rs) (inr i) = inr (map_in rs i)

      -- the node

      pub member_next : IsMember k next m moved
      member_next = record {
        ends = facts.ends ∙ was.ends ∙ ap (λ s. let e : Ends = record { member = m; service = s } in e) (sym (same_grid k.object w event).members);
        contents = facts.contents ∙ sym (executed.state_next k limits within applied shelf w stood m conn number call now n lives at runs) ∙ ap (λ (x : ProtocolNode). pair_state k.object next x.pair) (sym facts.says);
        held = ap (map (held_answer k.object k.change_of next)) (held_named moved)
            ∙ each_same (held_answer k.object k.change_of next) held_of (held_answers moved) (every_right HasAnswer given.released (held_answers moved) each_answer);
        ring = λ p. subst (λ (x : ProtocolNode). IsRing k next x (kept (ring_of moved) x.pair.count)) (sym facts.says) (subst (λ r. IsRing k next (settled after) (kept r after.pair.count)) (sym facts.ring) ring_then);
        newest = λ p. subst (λ (x : ProtocolNode). HasNewest x (kept (ring_of moved) x.pair.count)) (sym facts.says) (subst (λ r. HasNewest (settled after) (kept r after.pair.count)) (sym facts.ring) newest_then);
      }
        where
          by_effect : changes ≡ is_some effect
          by_effect = shelf.changes_by_effect before call now

          ring_then : IsRing k next (settled after) (kept (ring_after effect (ring_of node)) after.pair.count)
          ring_then =
              executed.ring_next k limits within applied shelf w stood m conn number call now n lives at runs (kept (ring_of node) n.pair.count) (kept (ring_after effect (ring_of node)) after.pair.count) (was.ring leads)
              (keeps_on k limits within applied shelf w stood m conn number call now n lives at runs (ring_of node))

          newest_then : HasNewest after (kept (ring_after effect (ring_of node)) after.pair.count)
          newest_then =
              executed.newest_next k limits within applied shelf w stood m conn number call now n lives at runs (kept (ring_of node) n.pair.count) (kept (ring_after effect (ring_of node)) after.pair.count) (was.newest leads)
              (called_newest (ring_of node) n.pair.count effect changes by_effect) (called_kept (ring_of node) n.pair.count effect changes by_effect)

      -- what it sends

      abbrev pub sent : List Sent
      sent = sent_on_executing changes after

      abbrev pub contents : Contents
      contents = contents_in k next

      with_effect : (bytes : List ℕ) → effect ≡ Some bytes → (changes ≡ true) × (effect_bytes k next n.pair.version (n.pair.count + 1) ≡ bytes)
      with_effect bytes e = executed.effect_next k limits within applied shelf w stood m conn number call now n lives at runs bytes e

      none_sent : effect ≡ None → changes ≡ false
      none_sent e = shelf.changes_by_effect before call now ∙ ap is_some e

      same_sent : (b : Bool) → changes ≡ b → sent_on_executing b (executing b conn number n) ≡ sent
      same_sent b e = ap (λ c. sent_on_executing c (executing c conn number n)) (sym e)

      -- what is written are the bytes that the world names
      pub sent_is : out ≡ map (written contents) sent
      sent_is = go effect refl
        where
          go : (x : Option (List ℕ)) → effect ≡ x → out ≡ map (written contents) sent
          go None e = facts.silent e ∙ ap (map (written contents)) (same_sent false (none_sent e))
          go (Some bytes) e = facts.sent contents bytes e (with_effect bytes e).1 ∙ ap (map (written contents)) (same_sent true (with_effect bytes e).0)

      pub sent_fits : Every (λ (s : Sent). LengthsFit (said_with contents s.message)) sent
      sent_fits = go effect refl
        where
          go : (x : Option (List ℕ)) → effect ≡ x → Every (λ (s : Sent). LengthsFit (said_with contents s.message)) sent
          go None e = subst (Every (λ (s : Sent). LengthsFit (said_with contents s.message))) (same_sent false (none_sent e)) tt
          go (Some bytes) e =
              subst (Every (λ (s : Sent). LengthsFit (said_with contents s.message))) (same_sent true (with_effect bytes e).0)
              (every_of_all (λ (s : Sent). LengthsFit (said_with contents s.message)) (sent_on_executing true (executing true conn number n)) (facts.fits contents bytes e (with_effect bytes e).1))

      -- one message to each end at most
      pub room : (links : Net) → HasRoom links m 1 → links.ends ≡ w.members + 1 → (to : ℕ) → length (sent_to to out) ≤ spare_of links m to
      room links has ends to = room_at (to_member (nat_lt to w.members) refl)
        where
          count : length (sent_to to out) ≡ count_to to sent
          count = ap (λ ms. length (sent_to to ms)) sent_is ∙ sent_count contents to sent

          to_member : (b : Bool) → nat_lt to w.members ≡ b → (to < w.members) ⊎ (w.members ≤ to)
          to_member true e = inl (less to w.members e)
          to_member false e = inr (not_less to w.members e)

          member : m < w.members
          member = less m w.members (both_left (nat_lt m w.members) (not (is_among w.crashed m)) lives)

          room_at : (to < w.members) ⊎ (w.members ≤ to) → length (sent_to to out) ≤ spare_of links m to
          room_at (inl l) =
              let one = called_few_to k.object limits within w stood to m conn number n changes at in
              let spare = has to (omega (arith, member, ends)) (omega (arith, l, ends)) in
              omega (arith, one, spare, count)
          room_at (inr l) = let none = called_none_to k.object limits within w stood to m conn number n changes at l in omega (arith, none, count)

      -- the world

      abbrev pub entry : Execution → Executed C
      entry e = record { conn = conn; number = number; version = e.version; seen = e.seen; now = now; call = call; reply = e.reply }

      pub entry_is : entry called ≡ entry_of k.object before conn number call now after.pair
      entry_is =
          ap (λ v. let x : Executed C = record { conn = conn; number = number; version = v; seen = called.seen; now = now; call = call; reply = called.reply } in x) facts.version
          ∙ ap (λ n'. let x : Executed C = record { conn = conn; number = number; version = after.pair.version; seen = n'; now = now; call = call; reply = called.reply } in x) facts.seen
          ∙ ap (λ r. let x : Executed C = record { conn = conn; number = number; version = after.pair.version; seen = after.pair.count; now = now; call = call; reply = r } in x) facts.reply

      pub outcome_is : happened_of (happened.Called (came_to called)) ≡ (happens k.object w event).outcome
      outcome_is =
          ap (λ b. happened_of (happened.Called (if b then call_outcome.Held called.seen else call_outcome.Released called.seen))) (facts.held ∙ ap (λ (x : ProtocolNode). not (is_empty x.held)) facts.says)
          ∙ ap (λ c. happened_of (happened.Called (if not (is_empty (settled after).held) then call_outcome.Held c else call_outcome.Released c))) facts.seen
          ∙ go (is_empty (settled after).held)
          ∙ sym (ap (λ (x : HappenedThere C). x.outcome) (call_executed k.object w m conn number call now n lives at runs))
        where
          go : (b : Bool) → happened_of (happened.Called (if not b then call_outcome.Held after.pair.count else call_outcome.Released after.pair.count)) ≡ cond b (ReleasedAt after.pair.count) (HeldAt after.pair.count)
          go true = refl
          go false = refl

      module _ (new : World S R Plan C) (setup_stays : setup_of new ≡ setup_of world) (members : new.members ≡ world.members) (size : vec_len new.nodes ≡ vec_len world.nodes) (crashed : new.crashed.items ≡ world.crashed.items)
          (service : service_of new.service ≡ service_of world.service) (ends : new.links.ends ≡ world.links.ends) (links : HasLists new.links (with_sent m out (list_of world.links)))
          (told : CallOutcome) (told_is : told ≡ came_to called)
          (recorded : records new.recorder (record w.recorded { log = w.recorded.log ++ CalledEntry (entry called) ∷ [] }))
          (nodes : new.nodes.items ≡ slice_set world.nodes.items m moved) where
        pub packets_next : next.packets ≡ w.packets ++ packets_from m sent
        packets_next = ap (λ (u : Machine C). u.packets) next_is

        pub named : Every (IsNamed k next contents) sent
        named = every_from_in (IsNamed k next contents) sent (λ s i. refl)

        pub rest : agreement.IsRest k records limits within applied shelf world w stood agrees event (comings.new k records limits within applied shelf world events event comes) (comings.single k records limits within applied shelf world events event comes) new
        rest = record {
          setup = setup_stays;
          members = members;
          size = size;
          crashed = crashed ∙ agrees.crashed ∙ sym (ap (λ (u : Machine C). u.crashed) next_is);
          service = service ∙ agrees.service ∙ sym (ap (λ (u : Machine C). u.service) next_is);
          ends = ends;
          links = λ f t. links f t ∙ ap (λ bs. bs ++ cond (f == m) (sent_to t out) []) (agrees.links f t) ∙ ap (λ ms. flying k w f t ++ cond (f == m) (sent_to t ms) []) sent_is
              ∙ sym (bytes.sent_lists k (lawful k limits within applied shelf) w stood.good stood.led event m contents sent packets_next named f t);
          fit = bytes.fits_next k (lawful k limits within applied shelf) w stood.good stood.led event agrees.fit w.packets m contents sent (λ p i. i) packets_next named sent_fits;
          recorded = subst (records new.recorder)
              (ap (λ (x : Executed C). record w.recorded { log = w.recorded.log ++ CalledEntry x ∷ [] }) entry_is ∙ sym (ap (λ (u : Machine C). u.recorded) next_is)) recorded;
        }

        answers_come : (a : CallAnswer) → Contains (node_waiting moved) a → Contains (node_waiting node) a ⊎ IsReleased next a
        answers_come a c = go (in_cases a (node_waiting node) given.released (in_contains a (node_waiting node ++ given.released) (subst (λ rs. Contains rs a) given.waiting c)))
          where
            go : In a (node_waiting node) ⊎ In a given.released → Contains (node_waiting node) a ⊎ IsReleased next a
            go (inl i) = inl (contains_in a (node_waiting node) i)
            go (inr i) = inr (each_released a i)

        pub agrees_next : Agrees k records new next
        agrees_next =
            agreement.agrees_moved k records limits within applied shelf world w stood agrees event (comings.new k records limits within applied shelf world events event comes) (comings.single k records limits within applied shelf world events event comes)
            m node moved there member_next answers_come new rest nodes (ap (λ (u : Machine C). u.nodes) next_is ∙ ap (slice_set w.nodes m) (sym facts.says))

        pub waits_next : (q : ℕ) → waiting new q ≡ waiting world q ++ released_at k.object k.change_of w event q
        waits_next q = waiting_in new q ∙ ap (λ ns. waits_in (slice_get ns q)) nodes ∙ go (number_cases q m) ∙ ap (λ rs. rs ++ released_at k.object k.change_of w event q) (sym (waiting_in world q))
          where
            go : (q ≡ m) ⊎ (q ≢ m) → waits_in (slice_get (slice_set world.nodes.items m moved) q) ≡ waits_in (slice_get world.nodes.items q) ++ released_at k.object k.change_of w event q
            go (inl e) =
                let here : released_at k.object k.change_of w event q ≡ given.released = rw (number_same m q (sym e)) released_is in
                ap (λ j. waits_in (slice_get (slice_set world.nodes.items m moved) j)) e ∙ ap waits_in (set_get_same world.nodes.items m moved node there) ∙ given.waiting
                ∙ ap (λ x. waits_in x ++ given.released) (sym there) ∙ ap (λ j. waits_in (slice_get world.nodes.items j) ++ given.released) (sym e)
                ∙ ap (λ rs. waits_in (slice_get world.nodes.items q) ++ rs) (sym here)
            go (inr d) =
                let none : released_at k.object k.change_of w event q ≡ [] = rw (number_other m q (λ z. d (sym z))) refl in
                ap waits_in (set_get_other world.nodes.items m q moved d) ∙ sym (append-nil (waits_in (slice_get world.nodes.items q)))
                ∙ ap (λ rs. waits_in (slice_get world.nodes.items q) ++ rs) (sym none)

        pub executed_run : HasRun k records world new events event (happened.Called told)
        executed_run = record { outcome = ap (λ x. happened_of (happened.Called x)) told_is ∙ outcome_is; agrees = agrees_next; waits = waits_next }
