-- A message that is handed over: its bytes, and a member's taking of it.
use Rattle.std.proofs.Common.{◌≡◌, ◌≢◌, ℕ, ◌+◌, min, ◌<◌, ◌≤◌, Bool, true, false, cond, not, ◌&&◌, ◌==◌, nat_lt, nat_le, List, [], ◌∷◌, ◌++◌, map, length, Option, Some, None, option_map, slice_get, slice_set, get_or, vec_len, remove, Contains, All, refl, ap, sym, ◌∙◌, subst, arith, ◌⊎◌, inl, inr, append-nil, length-append}
use Rattle.std.specs.List.{filter_map}
use Rattle.std.proofs.lemmas.Bool.Decides.{nat_tests}
use Rattle.grid_base.specs.Objects.{IsSmall}
use Rattle.partition_table.specs.declared.Row.{Row}
use Rattle.partition_table.specs.Rows.{is_primary, is_backup}
use Rattle.partition_protocol.specs.Messages.{Message, Sent, Packet}
use Rattle.partition_protocol.specs.Took.{Took as ProtocolTook}
use Rattle.partition_protocol.specs.Node.{Node as ProtocolNode, Pair, Held, is_released, now_released, still_held, settled, no_pair}
use Rattle.partition_protocol.specs.CatchUp.{recent_limit}
use Rattle.partition_protocol.specs.Adoption.{adopted_row, begun, stays_primary, carried_answers, adopt_as_primary, adopt_as_other}
use Rattle.partition_protocol.specs.Replica.{Step, taking}
use Rattle.partition_protocol.specs.History.{Base, Executed, Called}
use Rattle.partition_protocol.specs.Recorded.{Recorded}
use Rattle.partition_protocol.specs.World.{World as Machine, start, is_live, pair_state, bases_after}
use Rattle.partition_protocol.specs.Links.{link, taken_out, packets_from, with_packets}
use Rattle.partition_protocol.specs.Events.{Event, Deliver, Happened as HappenedThere, TookMessage, delivered, happens}
use Rattle.partition_protocol.specs.WellFormed.{IsPacketOf, IsWellFormed}
use Rattle.partition_protocol.specs.Claims.{IsLawful}
use Rattle.partition_protocol.proofs.Lists.{In, in_left, in_right, in_cases, in_contains, contains_in, Every, every_in, every_from_in, set_get_same, set_get_other, cases, on_if, on_cond}
use Rattle.partition_protocol.proofs.Invariant.{NodeAt}
use Rattle.partition_protocol.proofs.RowFacts.{number_cases, number_same, number_other, less, both_left, not_both}
use Rattle.partition_protocol.proofs.EventCases.{place_in}
use Rattle.partition_protocol.proofs.EventFacts.{run_next}
use Rattle.partition_protocol.proofs.LinkFacts.{packet, messages_to}
use Rattle.partition_protocol.proofs.Takings.{every_taking}
use Rattle.partition_protocol.proofs.Answers.{map_append}
use Rattle.partition_protocol.proofs.WellFormed.{every_run_is_well_formed}
use Rattle.link_net.specs.Links.{Net, list_of, spare_of, except, sent_to, with_sent, HasLists, HasRoom, LowersNoSpare}
use Rattle.member_wire.specs.Said.{Contents, said_with, message_of, took_of, written}
use Rattle.member_wire.specs.Spelling.{spelling, IsSpelled, LengthsFit}
use Rattle.member_wire.specs.declared.message.MemberMessage.{MemberMessage}
use Rattle.member_wire.specs.declared.took.Took.{Took}
use Rattle.member_wire.proofs.SaidAgain.{message_of-said_with}
use Rattle.primary_hold.specs.declared.answer.CallAnswer.{CallAnswer}
use Rattle.primary_hold.specs.Answering.{held_of}
use Rattle.primary_hold.specs.Rings.{kept}
use Rattle.replica_node.specs.declared.node.Node.{Node}
use Rattle.replica_node.specs.Nodes.{node_of, contents_of, waiting as node_waiting, held_answers, ring_of, Ends, ends_of, member_of, service_of as service_number, carried_by, IsUnchanged}
use Rattle.replica_node.specs.Sending.{Fits}
use Rattle.replica_node.specs.Takings.{Leaves, IsFit, row_in, ring_after_taking, answers_left}
use Rattle.table_service.specs.Services.{Setup, service_of}
use Rattle.partition_world.specs.declared.world.World.{World}
use Rattle.partition_world.specs.declared.event.Happened.TheVariants as happened
use Rattle.grid_base.specs.Shelves.{Meaning}
use Rattle.partition_world.specs.Shelves.{IsShelf}
use Rattle.partition_world.specs.Answers.{newest_call, answer_of, held_answer, released_by, released_at}
use Rattle.partition_world.specs.InFlight.{contents_in, IsRing}
use Rattle.partition_world.specs.Sending.{carried_of, most_of, HasNewest, IsNamed, HasFit, flying}
use Rattle.partition_world.specs.Worlds.{setup_of, run_of, waiting, IsReleased, IsMember, StandsFor, Comes, HasRun, IsKept}
use Rattle.partition_world.proofs.Agreement as agreement
use Rattle.partition_world.proofs.Comings as comings
use Rattle.partition_world.proofs.EffectsLead.{lawful, Stood}
use Rattle.partition_world.proofs.EventSends.{taken_few_to}
use Rattle.partition_world.proofs.FewOnLinks.{count_to, length_map}
use Rattle.partition_world.proofs.HeldAnswers.{newest_in, answers_of_each, taken_released}
use Rattle.partition_world.proofs.KeptRings.{newest_kept, taken_kept}
use Rattle.partition_world.proofs.LinkBytes as bytes
use Rattle.partition_world.proofs.LinkBytes.{link_at, sent_count}
use Rattle.partition_world.proofs.Places.{read_there}
use Rattle.partition_world.proofs.Rings as rings
use Rattle.partition_world.proofs.Sending.{sent_named, taking_sent}
use Rattle.partition_world.proofs.SmallStates.{every_of_all}
use Rattle.partition_world.proofs.Spelled.{flying_spelled}
use Rattle.partition_world.proofs.Taking as takings

-- what stands at a place of a link are the bytes of the message there, which has its spelling
module _ {S R Plan C State : Type 0} (k : Meaning S C State) (records : R → Recorded C → Type 0) (limits : C → Type 0) (world : World S R Plan C) (events : List (Event C)) (f t i : ℕ) (comes : Comes k records limits world events (Deliver f t i)) where
  abbrev pub w : Machine C
  w = run_of k world events

  module _ (msg : Message) (at : slice_get (link f t w.packets) i ≡ Some (packet f t msg)) where
    pub message_spelled : IsSpelled (said_with (contents_in k w) msg)
    message_spelled =
        flying_spelled k (setup_of world).partition (setup_of world).members (setup_of world).backups events comes.stands.some comes.stands.most (let l = comes.may.room in omega (arith, l)) (packet f t msg) there
        (comes.stands.agrees.fit (packet f t msg) (contains_in (packet f t msg) w.packets there))
      where
        there : In (packet f t msg) w.packets
        there = place_in f t i w.packets (packet f t msg) at

    pub message_bytes : (list : List (List ℕ)) (bytes : List ℕ) → list ≡ list_of world.links f t → bytes ≡ get_or list i bytes → bytes ≡ spelling (said_with (contents_in k w) msg)
    message_bytes list bytes same e =
        read_there list i i (spelling (said_with (contents_in k w) msg)) bytes refl
        (ap (λ bs. slice_get bs i) (same ∙ comes.stands.agrees.links f t) ∙ link_at k w f t i msg at) e

-- a live member has a node
pub inside : {S R Plan C State : Type 0} (k : Meaning S C State) (records : R → Recorded C → Type 0) (limits : C → Type 0) (world : World S R Plan C) (events : List (Event C)) → StandsFor k records limits world events → (m : ℕ) → is_live (run_of k world events) m ≡ true → m < length world.nodes.items
inside k records limits world events stands m lives =
    let below = less m (run_of k world events).members (both_left (nat_lt m (run_of k world events).members) (not _) lives) in
    let formed = every_run_is_well_formed k.object (setup_of world).partition (setup_of world).members (setup_of world).backups events in
    let size = formed.nodes in
    let members = formed.same_members in
    let same = ap length (sym stands.agrees.nodes) ∙ length_map node_of world.nodes.items in
    omega (arith, below, size, members, same)

-- lists

-- of one list in two parts, twice: where the last part of the first is no longer than that of the second, what lies between
pub parts_between : {X : Type 0} (xs ys zs us : List X) → xs ++ ys ≡ zs ++ us → length ys ≤ length us → (rs : List X) × (xs ≡ zs ++ rs) × (us ≡ rs ++ ys)
parts_between xs ys [] us e l = (xs, refl, sym e)
parts_between [] ys (z ∷ zs) us e l = let whole = length-append zs us in let same = ap length e in absurd (omega (arith, whole, same, l))
parts_between (x ∷ xs) ys (z ∷ zs) us e l =
    let first : x ≡ z = cc in
    let rest : xs ++ ys ≡ zs ++ us = cc in
    let between = parts_between xs ys zs us rest l in
    (between.0, ap (λ y. y ∷ xs) first ∙ ap (λ rs. z ∷ rs) between.1, between.2)

pub front_same : {X : Type 0} (xs ys zs : List X) → xs ++ zs ≡ ys ++ zs → xs ≡ ys
front_same [] [] zs e = refl
front_same [] (y ∷ ys) zs e = let whole = length-append ys zs in let same = ap length e in absurd (omega (arith, whole, same))
front_same (x ∷ xs) [] zs e = let whole = length-append xs zs in let same = ap length e in absurd (omega (arith, whole, same))
front_same (x ∷ xs) (y ∷ ys) zs e =
    let first : x ≡ y = cc in
    let rest : xs ++ zs ≡ ys ++ zs = cc in
    ap (λ u. u ∷ xs) first ∙ ap (λ us. y ∷ us) (front_same xs ys zs rest)

pub every_left : {X : Type 0} (P : X → Type 0) (xs ys : List X) → Every P (xs ++ ys) → Every P xs
every_left P xs ys h = every_from_in P xs (λ x i. every_in P (xs ++ ys) x h (in_left x xs ys i))

pub every_right : {X : Type 0} (P : X → Type 0) (xs ys : List X) → Every P (xs ++ ys) → Every P ys
every_right P xs ys h = every_from_in P ys (λ y i. every_in P (xs ++ ys) y h (in_right y xs ys i))

-- where both are mapped to the same
pub each_some : {X Y : Type 0} (f : X → Option Y) (g : Y → X) (ys : List Y) → map f (map g ys) ≡ map (λ y. Some y) ys → Every (λ y. f (g y) ≡ Some y) ys
each_some f g [] e = tt
each_some f g (y ∷ ys) e =
    let first : f (g y) ≡ Some y = cc in
    let rest : map f (map g ys) ≡ map (λ y. Some y) ys = cc in
    (first, each_some f g ys rest)

pub some_each : {X Y : Type 0} (f : X → Option Y) (g : Y → X) (ys : List Y) → Every (λ y. f (g y) ≡ Some y) ys → map f (map g ys) ≡ map (λ y. Some y) ys
some_each f g [] h = refl
some_each f g (y ∷ ys) h = ap (λ x. x ∷ map f (map g ys)) h.0 ∙ ap (λ xs. Some y ∷ xs) (some_each f g ys h.1)

-- what a node keeps

pub held_is : {S : Type 0} (node : Node S) → (node_of node).held ≡ map held_of (held_answers node)
held_is node = refl

pub has_newest : {S : Type 0} (node : Node S) → HasNewest (node_of node) (kept (ring_of node) (node_of node).pair.count)
has_newest node = newest_kept (node_of node) (ring_of node) node.facts.newest

-- an answer is held until it is released
pub settle_parts : (a : ProtocolNode) (hs : List Held) → now_released a hs ++ still_held a hs ≡ hs
settle_parts a [] = refl
settle_parts a (h ∷ hs) = go (is_released a h.seen) (settle_parts a hs)
  where
    go : (b : Bool) → now_released a hs ++ still_held a hs ≡ hs → cond b (h ∷ now_released a hs) [] ++ cond b (still_held a hs) (h ∷ hs) ≡ h ∷ hs
    go true e = ap (λ ks. h ∷ ks) e
    go false e = refl

-- what goes to an end to which none is addressed
pub count_none : (h : ℕ) (ss : List Sent) → ((s : Sent) → In s ss → s.to ≢ h) → count_to h ss ≡ 0
count_none h [] d = refl
count_none h (s ∷ ss) d = rw (messages_to, number_other s.to h (d s (inl refl))) (count_none h ss (λ x j. d x (inr j)))

-- with what a version begins in a row, from contents of that pair
abbrev pub base_in : Row → Pair → Base
base_in row p = record { version = row.version; reset = row.reset; pair = cond (nat_lt p.version row.reset) no_pair p }

-- whether it begins, as the code tells it

pub newer_begins : (x y v u : ℕ) (b p : Bool) → x ≡ v → y ≡ u → x < y → b ≡ p → b ≡ (nat_lt v u && p)
newer_begins x y v u b p old new l e = let newer : nat_lt v u ≡ true = ap (λ n. nat_lt n u) (sym old) ∙ ap (nat_lt x) (sym new) ∙ grind (arith, nat_tests) in e ∙ sym (rw newer refl)

pub older_begins : (x y v u : ℕ) (b p : Bool) → x ≡ v → y ≡ u → b ≡ nat_lt x y → y ≤ x → b ≡ (nat_lt v u && p)
older_begins x y v u b p old new e l =
    let none : nat_lt x y ≡ false = grind (arith, nat_tests) in
    let older : nat_lt v u ≡ false = ap (λ n. nat_lt n u) (sym old) ∙ ap (nat_lt x) (sym new) ∙ none in
    e ∙ none ∙ sym (rw older refl)

-- how the code's node takes a message, in the protocol's words

abbrev pub step_of : {S : Type 0} → ℕ → MemberMessage → Node S → Step
step_of from message node = taking (service_number node) (member_of node) from (message_of message) (node_of node)

pub record HasTaken {S C State : Type 0} (k : Meaning S C State) (within : ℕ → State → Type 0) (applied : List ℕ → State → Option State) (from : ℕ) (message : MemberMessage) (old moved : Node S) (took : ProtocolTook) (out : List (ℕ × List ℕ)) : Type 0 where
  pub node : node_of moved ≡ settled (step_of from message old).node
  pub took_is : took ≡ (step_of from message old).took
  pub sent : out ≡ map (written (carried_by k.snapshot_of k.state moved)) (step_of from message old).sent
  pub fits : All (Fits (carried_by k.snapshot_of k.state moved)) (step_of from message old).sent
  pub contents : Leaves within k.object.empty applied k.snapshot_of (member_of old) (node_of old) message (step_of from message old).took (k.state (contents_of old)) (k.state (contents_of moved))
  pub answers : node_waiting moved ++ held_answers moved ≡ answers_left (is_primary (node_of moved).known (member_of moved)) (node_waiting old) (held_answers old)
  pub ring : ring_of moved ≡ ring_after_taking (member_of old) (node_of old) (row_in message) (ring_of old)
  pub ends : ends_of moved ≡ ends_of old

module _ {S R Plan C State : Type 0} (k : Meaning S C State) (records : R → Recorded C → Type 0) (limits : C → Type 0) (within : ℕ → State → Type 0) (applied : List ℕ → State → Option State) (shelf : IsShelf k limits within applied)
    (world : World S R Plan C) (events : List (Event C)) (f m i : ℕ) (comes : Comes k records limits world events (Deliver f m i)) (node : Node S) (there : slice_get world.nodes.items m ≡ Some node) where
  abbrev pub at_first : Machine C
  at_first = run_of k world events

  abbrev pub event : Event C
  event = Deliver f m i

  abbrev pub next : Machine C
  next = (happens k.object at_first event).world

  abbrev pub n : ProtocolNode
  n = node_of node

  pub stood : Stood k.object limits within at_first
  stood = comings.stood k records limits within applied shelf world events event comes

  pub stood_next : Stood k.object limits within next
  stood_next = comings.stood_next k records limits within applied shelf world events event comes

  pub law : IsLawful k.object
  law = lawful k limits within applied shelf

  pub was : IsMember k at_first m node
  was = comes.stands.agrees.each m node there

  pub node_there : NodeAt at_first.nodes m n
  node_there = agreement.node_at k records limits within applied shelf world at_first stood comes.stands.agrees m node there

  pub small : IsSmall within (k.state (contents_of node))
  small = subst (IsSmall within) (sym was.contents) (stood.small n.pair)

  -- the member is as it was
  abbrev pub IsQuiet : World S R Plan C → Type 0
  IsQuiet new = agreement.IsQuiet k records limits within applied shelf world at_first stood comes.stands.agrees new

  pub kept_so : (kin : Node S) → IsUnchanged k.state node kin → ends_of kin ≡ ends_of node → (new : World S R Plan C) → IsQuiet new → new.nodes.items ≡ slice_set world.nodes.items m kin → IsKept k records world new events
  kept_so kin same ends new quiet nodes = record {
    agrees = agreement.agrees_with_kin k records limits within applied shelf world at_first stood comes.stands.agrees m node kin there same ends new quiet nodes;
    waits = agreement.kin_waiting k records limits within applied shelf world at_first stood comes.stands.agrees m node kin there same ends new nodes;
  }

  module _ (msg : Message) (at : slice_get (link f m at_first.packets) i ≡ Some (packet f m msg)) (lives : is_live at_first m ≡ true) (message : MemberMessage) (says : message ≡ said_with (contents_in k at_first) msg) where
    abbrev pub T : Step
    T = taking at_first.members m f msg n

    pub member_is : member_of node ≡ m
    member_is = ap (λ (e : Ends). e.member) was.ends

    pub step_is : step_of f message node ≡ T
    step_is =
        ap (λ (e : Ends). taking e.service e.member f (message_of message) n) was.ends
        ∙ ap (λ x. taking at_first.members m f (message_of x) n) says ∙ ap (λ x. taking at_first.members m f x n) (message_of-said_with (contents_in k at_first) msg)

    -- it fits what the member has
    pub fits : IsFit within applied k.snapshot_of message (step_of f message node).took (k.state (contents_of node))
    fits =
        subst (λ s. IsFit within applied k.snapshot_of message (step_of f message node).took s) (sym was.contents)
        (subst (λ (s : Step). IsFit within applied k.snapshot_of message s.took (pair_state k.object at_first n.pair)) (sym step_is)
        (subst (λ x. IsFit within applied k.snapshot_of x T.took (pair_state k.object at_first n.pair)) (sym says)
        (takings.fits k limits within applied shelf at_first stood f m i msg n at lives node_there)))

    -- what it sends goes to ends, and few of it to each

    pub happens_so : happens k.object at_first event ≡ delivered (with_packets at_first (taken_out f m i at_first.packets)) (packet f m msg) n
    happens_so = takings.happened k limits within applied shelf at_first stood f m i msg n at lives node_there

    pub next_is : next ≡ (delivered (with_packets at_first (taken_out f m i at_first.packets)) (packet f m msg) n).world
    next_is = takings.next_is k limits within applied shelf at_first stood f m i msg n at lives node_there

    pub packets_next : next.packets ≡ taken_out f m i at_first.packets ++ packets_from m T.sent
    packets_next = ap (λ (u : Machine C). u.packets) next_is

    pub within_ends : (s : Sent) → In s T.sent → s.to ≤ at_first.members
    within_ends s j = formed.to
      where
        p : Packet
        p = packet m s.to s.message

        in_sent : (ss : List Sent) → In s ss → In (packet m s.to s.message) (packets_from m ss)
        in_sent [] j = absurd j
        in_sent (x ∷ ss) (inl e) = inl (ap (λ (y : Sent). packet m y.to y.message) e)
        in_sent (x ∷ ss) (inr j) = inr (in_sent ss j)

        flies : Contains next.packets (packet m s.to s.message)
        flies =
            contains_in p next.packets
            (subst (In p) (sym packets_next) (in_right p (taken_out f m i at_first.packets) (packets_from m T.sent) (in_sent T.sent j)))

        well : IsWellFormed (setup_of world).partition (setup_of world).members (setup_of world).backups next
        well =
            subst (IsWellFormed (setup_of world).partition (setup_of world).members (setup_of world).backups) (run_next k.object (start (setup_of world).partition (setup_of world).members (setup_of world).backups) events event)
            (every_run_is_well_formed k.object (setup_of world).partition (setup_of world).members (setup_of world).backups (events ++ event ∷ []))

        formed : IsPacketOf at_first.members (packet m s.to s.message)
        formed = subst (λ e. IsPacketOf e (packet m s.to s.message)) (ap (λ (e : Setup). e.members) comes.stands.agrees.setup) (well.packets p flies)

    pub few : (contents : Contents) (out : List (ℕ × List ℕ)) (most : ℕ) (reserved lost : Net) → out ≡ map (written contents) (step_of f message node).sent → most ≡ most_of (message_of message)
        → HasRoom reserved m most → reserved.ends ≡ world.links.ends → LowersNoSpare reserved lost → (h : ℕ) → length (sent_to h out) ≤ spare_of lost m h
    few contents out most reserved lost sent said room ends spares h = go (cases (nat_le h at_first.members))
      where
        as_many : length (sent_to h out) ≡ count_to h T.sent
        as_many = ap (λ o. length (sent_to h o)) (sent ∙ ap (λ (s : Step). map (written contents) s.sent) step_is) ∙ sent_count contents h T.sent

        size : reserved.ends ≡ at_first.members + 1
        size = ends ∙ comes.stands.agrees.ends

        below : m < at_first.members
        below = less m at_first.members (both_left (nat_lt m at_first.members) (not _) lives)

        at_most : most ≡ most_of msg
        at_most = said ∙ ap (λ x. most_of (message_of x)) says ∙ ap most_of (message_of-said_with (contents_in k at_first) msg)

        go : (nat_le h at_first.members ≡ true) ⊎ (nat_le h at_first.members ≡ false) → length (sent_to h out) ≤ spare_of lost m h
        go (inl e) =
            let l : h ≤ at_first.members = grind (arith, nat_tests) in
            let count = taken_few_to k limits within applied shelf at_first stood f m i msg n at lives node_there h stood_next in
            let spare = room h (let b = below in omega (arith, b, size)) (omega (arith, l, size)) in
            let more = spares m h in
            omega (arith, count, spare, more, as_many, at_most)
        go (inr e) =
            let l : at_first.members < h = grind (arith, nat_tests) in
            let none = count_none h T.sent (λ s j z. (let w = within_ends s j in omega (arith, w, z, l))) in
            omega (arith, none, as_many)

    -- what it is then

    module _ (moved : Node S) (took : ProtocolTook) (out : List (ℕ × List ℕ)) (taken : HasTaken k within applied f message node moved took out) where
      pub node_is : node_of moved ≡ settled T.node
      node_is = taken.node ∙ ap (λ (s : Step). settled s.node) step_is

      -- its contents are those that its pair names
      pub left_is : k.state (contents_of moved) ≡ pair_state k.object next (settled T.node).pair
      left_is =
          takings.left_named k limits within applied shelf at_first stood f m i msg n at lives node_there (k.state (contents_of moved))
          (subst (λ s. Leaves within k.object.empty applied k.snapshot_of m n (said_with (contents_in k at_first) msg) T.took s (k.state (contents_of moved))) was.contents
          (subst (λ (s : Step). Leaves within k.object.empty applied k.snapshot_of m n (said_with (contents_in k at_first) msg) s.took (k.state (contents_of node)) (k.state (contents_of moved))) step_is
          (subst (λ x. Leaves within k.object.empty applied k.snapshot_of m n x (step_of f message node).took (k.state (contents_of node)) (k.state (contents_of moved))) says
          (subst (λ j. Leaves within k.object.empty applied k.snapshot_of j n message (step_of f message node).took (k.state (contents_of node)) (k.state (contents_of moved))) member_is taken.contents))))

      -- its effects are some of those that it kept
      abbrev pub kept_then : ℕ → Option (List ℕ)
      kept_then = kept (ring_of moved) T.node.pair.count

      pub ring_is : ring_of moved ≡ ring_after_taking m n (row_in (said_with (contents_in k at_first) msg)) (ring_of node)
      ring_is = taken.ring ∙ ap (λ j. ring_after_taking j n (row_in message) (ring_of node)) member_is ∙ ap (λ x. ring_after_taking m n (row_in x) (ring_of node)) says

      pub some_kept : is_primary T.node.known m ≡ true → (j : ℕ) (bytes : List ℕ) → kept (ring_of moved) T.node.pair.count j ≡ Some bytes → kept (ring_of node) n.pair.count j ≡ Some bytes
      some_kept leads j bytes e = taken_kept at_first.members m f msg n (ring_of node) (contents_in k at_first) leads j bytes (ap (λ r. kept r T.node.pair.count j) (sym ring_is) ∙ e)

      pub ring_right : is_primary T.node.known m ≡ true → IsRing k next (settled T.node) (kept (ring_of moved) T.node.pair.count)
      ring_right leads =
          rings.ring_taken k limits within applied shelf at_first stood f m i msg n at lives node_there (kept (ring_of node) n.pair.count) was.ring (kept (ring_of moved) T.node.pair.count) (some_kept leads) leads

      pub newest_right : HasNewest (settled T.node) (kept (ring_of moved) T.node.pair.count)
      newest_right = subst (λ (a : ProtocolNode). HasNewest a (kept (ring_of moved) a.pair.count)) node_is (has_newest moved)

      -- what goes with what it sends is what the world names
      abbrev pub carries : Contents
      carries = carried_of k.snapshot_of (k.state (contents_of moved)) (kept (ring_of moved) T.node.pair.count)

      pub carries_is : carried_by k.snapshot_of k.state moved ≡ carried_of k.snapshot_of (k.state (contents_of moved)) (kept (ring_of moved) T.node.pair.count)
      carries_is = ap (λ (a : ProtocolNode). carried_of k.snapshot_of (k.state (contents_of moved)) (kept (ring_of moved) a.pair.count)) node_is

      pub node_then : NodeAt next.nodes m (settled T.node)
      node_then = rings.node_then k limits within applied shelf at_first stood f m i msg n at lives node_there

      pub named : Every (IsNamed k next (carried_of k.snapshot_of (k.state (contents_of moved)) (kept (ring_of moved) T.node.pair.count))) T.sent
      named =
          sent_named k limits within applied shelf next stood_next m (settled T.node) node_then (kept (ring_of moved) T.node.pair.count) ring_right (λ leads. newest_right) (k.state (contents_of moved)) left_is T.sent
          (taking_sent m at_first.members f n msg)

      pub out_is : out ≡ map (written (carried_of k.snapshot_of (k.state (contents_of moved)) (kept (ring_of moved) T.node.pair.count))) T.sent
      out_is = taken.sent ∙ ap (λ (s : Step). map (written (carried_by k.snapshot_of k.state moved)) s.sent) step_is ∙ ap (λ c. map (written c) T.sent) carries_is

      pub sent_fits : Every (λ (s : Sent). LengthsFit (said_with carries s.message)) T.sent
      sent_fits = every_of_all (λ (s : Sent). LengthsFit (said_with carries s.message)) T.sent
          (subst (λ c. All (Fits c) T.sent) carries_is (subst (λ (s : Step). All (Fits (carried_by k.snapshot_of k.state moved)) s.sent) step_is taken.fits))

      -- the messages in flight

      pub lists_then : (reserved lost net : Net) → HasLists reserved (list_of world.links) → HasLists lost (except f m (remove (list_of reserved f m) i) (list_of reserved)) → HasLists net (with_sent m out (list_of lost)) → HasLists net (flying k next)
      lists_then reserved lost net before taken_from sent g h =
          sent g h ∙ ap (λ bs. bs ++ cond (g == m) (sent_to h out) []) (taken_from g h ∙ same) ∙ ap (λ o. with_sent m o (except f m (remove (flying k at_first f m) i) (flying k at_first)) g h) out_is
          ∙ sym (bytes.taken_lists k law at_first stood.good stood.led event f m i m carries T.sent packets_next named g h)
        where
          same : except f m (remove (list_of reserved f m) i) (list_of reserved) g h ≡ except f m (remove (flying k at_first f m) i) (flying k at_first) g h
          same =
              ap (λ bs. except f m (remove bs i) (list_of reserved) g h) (before f m ∙ comes.stands.agrees.links f m)
              ∙ ap (λ bs. cond ((g == f) && (h == m)) (remove (flying k at_first f m) i) bs) (before g h ∙ comes.stands.agrees.links g h)

      pub fit_then : HasFit k next
      fit_then =
          bytes.fits_next k law at_first stood.good stood.led event comes.stands.agrees.fit (taken_out f m i at_first.packets) m carries T.sent (bytes.taken_in k law at_first stood.good stood.led event f m i at_first.packets)
          packets_next named sent_fits

      -- what is recorded: a primary that adopts a newer row begins its version
      pub recorded_then : (reserved new : R) (begins : Bool) (base : Base) → records reserved at_first.recorded
          → ((r : Recorded C) → records reserved r → records new (record r { bases = cond begins (base ∷ r.bases) r.bases }))
          → begins ≡ (nat_lt n.known.version (node_of moved).known.version && is_primary (node_of moved).known m)
          → base ≡ base_in (node_of moved).known n.pair
          → records new next.recorded
      recorded_then reserved new begins base before then begins_is base_is =
          subst (λ (u : Machine C). records new u.recorded) (sym next_is)
          (subst (λ (a : ProtocolNode). records new (record at_first.recorded { bases = bases_after m n a at_first.recorded.bases })) node_is
          (subst (λ b. records new (record at_first.recorded { bases = cond (nat_lt n.known.version (node_of moved).known.version && is_primary (node_of moved).known m) (b ∷ at_first.recorded.bases) at_first.recorded.bases })) base_is
          (subst (λ b. records new (record at_first.recorded { bases = cond b (base ∷ at_first.recorded.bases) at_first.recorded.bases })) begins_is (then at_first.recorded before))))

      -- its answers

      -- a primary holds what it held, and no other member holds any
      abbrev pub HoldsOn : ProtocolNode → Type 0
      HoldsOn a = (is_primary a.known m ≡ true → a.held ≡ n.held) × (is_primary a.known m ≡ false → a.held ≡ [])

      pub none_held : is_primary n.known m ≡ false → n.held ≡ []
      none_held = (stood.good.1.frame.nodes m n node_there).held

      pub adopted_holds : (row : Row) → HoldsOn (adopted_row m row n)
      adopted_holds row =
          on_cond HoldsOn (is_primary row m) (adopt_as_primary row (stays_primary row n m) (carried_answers m n) (begun row n)) (cond (is_backup row m) (adopt_as_other row (begun row n).pair) (adopt_as_other row no_pair))
          (λ p. (λ q. carried (is_primary n.known m) refl, λ q. absurd (not_both (is_primary row m) p q)))
          (λ p. on_if HoldsOn (is_backup row m) (adopt_as_other row (begun row n).pair) (adopt_as_other row no_pair) (λ q. absurd (not_both (is_primary row m) q p), λ q. refl) (λ q. absurd (not_both (is_primary row m) q p), λ q. refl))
        where
          carried : (b : Bool) → is_primary n.known m ≡ b → cond b n.held [] ≡ n.held
          carried true e = refl
          carried false e = sym (none_held e)

      pub taking_holds : HoldsOn (taking at_first.members m f msg n).node
      taking_holds = every_taking m f msg n HoldsOn (record {
        stays = λ u. (λ p. refl, none_held);
        adopts = λ row e newer. adopted_holds row;
        syncs = λ row c a e h v b l. h;
        bridges = λ row v c a e h z b s t. h;
        applies = λ v j e b s t. (λ p. refl, none_held);
        acks = λ v c e p z b. (λ q. refl, none_held);
        freezes = λ v e p z. (λ q. refl, none_held);
      }) at_first.members

      abbrev pub IsRight : CallAnswer → Type 0
      IsRight a = held_answer k.object k.change_of next (held_of a) ≡ Some a

      pub held_right : Every IsRight (held_answers node)
      held_right =
          each_some (held_answer k.object k.change_of next) held_of (held_answers node)
          (ap (map (held_answer k.object k.change_of next)) (sym (held_is node))
          ∙ agreement.held_stay k records limits within applied shelf world at_first stood comes.stands.agrees event (comings.new k records limits within applied shelf world events event comes) (comings.single k records limits within applied shelf world events event comes) m node there
          ∙ was.held)

      -- what it holds then, and what has been released at it
      pub record Answered : Type 0 where
        pub out_now : List CallAnswer
        pub waits : node_waiting moved ≡ node_waiting node ++ out_now
        pub now : now_released T.node T.node.held ≡ map held_of out_now
        pub right : Every IsRight out_now
        pub held : Every IsRight (held_answers moved)

      pub still_is : still_held T.node T.node.held ≡ map held_of (held_answers moved)
      still_is = ap (λ (a : ProtocolNode). a.held) (sym node_is) ∙ held_is moved

      pub answers_are : node_waiting moved ++ held_answers moved ≡ answers_left (is_primary T.node.known m) (node_waiting node) (held_answers node)
      answers_are =
          taken.answers ∙ ap (λ (e : Ends). answers_left (is_primary (node_of moved).known e.member) (node_waiting node) (held_answers node)) (taken.ends ∙ was.ends)
          ∙ ap (λ (a : ProtocolNode). answers_left (is_primary a.known m) (node_waiting node) (held_answers node)) node_is

      pub answered : Answered
      answered = go (is_primary T.node.known m) refl answers_are
        where
          go : (b : Bool) → is_primary T.node.known m ≡ b → node_waiting moved ++ held_answers moved ≡ answers_left b (node_waiting node) (held_answers node) → Answered
          go true leads e = record {
            out_now = between.0;
            waits = between.1;
            now = front_same (now_released T.node T.node.held) (map held_of between.0) (map held_of (held_answers moved)) (parts ∙ ap (map held_of) between.2 ∙ map_append held_of between.0 (held_answers moved));
            right = every_left IsRight between.0 (held_answers moved) all;
            held = every_right IsRight between.0 (held_answers moved) all;
          }
            where
              parts : now_released T.node T.node.held ++ map held_of (held_answers moved) ≡ map held_of (held_answers node)
              parts = ap (λ hs. now_released T.node T.node.held ++ hs) (sym still_is) ∙ settle_parts T.node T.node.held ∙ taking_holds.0 leads ∙ held_is node

              no_more : length (held_answers moved) ≤ length (held_answers node)
              no_more =
                  let whole = length-append (now_released T.node T.node.held) (map held_of (held_answers moved)) in
                  let same = ap length parts in
                  let before = length_map held_of (held_answers node) in
                  let after = length_map held_of (held_answers moved) in
                  omega (arith, whole, same, before, after)

              between : (rs : List CallAnswer) × (node_waiting moved ≡ node_waiting node ++ rs) × (held_answers node ≡ rs ++ held_answers moved)
              between = parts_between (node_waiting moved) (held_answers moved) (node_waiting node) (held_answers node) e no_more

              all : Every IsRight (between.0 ++ held_answers moved)
              all = subst (Every IsRight) between.2 held_right
          go false follows e = record {
            out_now = [];
            waits = sym (append-nil (node_waiting moved)) ∙ ap (λ rs. node_waiting moved ++ rs) (sym none) ∙ e ∙ sym (append-nil (node_waiting node));
            now = ap (now_released T.node) (taking_holds.1 follows);
            right = tt;
            held = subst (Every IsRight) (sym none) tt;
          }
            where
              empty : (rs : List CallAnswer) → map held_of rs ≡ [] → rs ≡ []
              empty [] z = refl
              empty (r ∷ rs) z = absurd cc

              none : held_answers moved ≡ []
              none = empty (held_answers moved) (sym still_is ∙ ap (still_held T.node) (taking_holds.1 follows))

      -- an answer that is released now
      pub now_is_released : (answer : CallAnswer) → In answer answered.out_now → IsReleased next answer
      now_is_released answer j = of_call (newest_call (record { conn = answer.id.conn; number = answer.id.number }) next.recorded.log) refl (every_in IsRight answered.out_now answer answered.right j)
        where
          in_map : (rs : List CallAnswer) → In answer rs → In (held_of answer) (map held_of rs)
          in_map [] i = absurd i
          in_map (r ∷ rs) (inl e) = inl (ap held_of e)
          in_map (r ∷ rs) (inr i) = inr (in_map rs i)

          given : In (held_of answer) next.released
          given =
              subst (In (held_of answer)) (sym (ap (λ (u : Machine C). u.released) next_is))
              (in_right (held_of answer) at_first.released (now_released T.node T.node.held) (subst (In (held_of answer)) (sym answered.now) (in_map answered.out_now j)))

          of_call : (x : Option (Executed C)) → newest_call (record { conn = answer.id.conn; number = answer.id.number }) next.recorded.log ≡ x → option_map (answer_of k.object k.change_of next) (newest_call (record { conn = answer.id.conn; number = answer.id.number }) next.recorded.log) ≡ Some answer
              → IsReleased next answer
          of_call None e z = absurd (let none : None ≡ Some answer = ap (option_map (answer_of k.object k.change_of next)) (sym e) ∙ z in cc)
          of_call (Some x) e z =
              let same : Some (answer_of k.object k.change_of next x) ≡ Some answer = ap (option_map (answer_of k.object k.change_of next)) (sym e) ∙ z in
              let is : answer_of k.object k.change_of next x ≡ answer = cc in
              record {
                released = contains_in (held_of answer) next.released given;
                call = x;
                executed = contains_in (Called x) next.recorded.log (newest_in (record { conn = answer.id.conn; number = answer.id.number }) next.recorded.log x e);
                id = ap (λ (r : CallAnswer). r.id) (sym is);
                version = ap (λ (r : CallAnswer). r.version) (sym is);
                seen = ap (λ (r : CallAnswer). r.seen) (sym is);
                reply = ap (λ (r : CallAnswer). r.reply) (sym is);
              }

      pub answers_right : (answer : CallAnswer) → Contains (node_waiting moved) answer → Contains (node_waiting node) answer ⊎ IsReleased next answer
      answers_right answer c = go (in_cases answer (node_waiting node) answered.out_now (in_contains answer (node_waiting node ++ answered.out_now) (subst (λ rs. Contains rs answer) answered.waits c)))
        where
          go : In answer (node_waiting node) ⊎ In answer answered.out_now → Contains (node_waiting node) answer ⊎ IsReleased next answer
          go (inl j) = inl (contains_in answer (node_waiting node) j)
          go (inr j) = inr (now_is_released answer j)

      pub released_now : released_by k.object k.change_of at_first next ≡ answered.out_now
      released_now =
          taken_released k.object k.change_of at_first f m i msg n at lives node_there ∙ ap (filter_map (held_answer k.object k.change_of next)) answered.now
          ∙ answers_of_each k.object k.change_of next held_of answered.out_now answered.right

      -- So it is the protocol's member
      pub member_then : IsMember k next m moved
      member_then = record {
        ends = taken.ends ∙ was.ends ∙ ap (λ s. let e : Ends = record { member = m; service = s } in e) (sym (agreement.same_grid k.object at_first event).members);
        contents = left_is ∙ ap (λ (a : ProtocolNode). pair_state k.object next a.pair) (sym node_is);
        held = ap (map (held_answer k.object k.change_of next)) (held_is moved) ∙ some_each (held_answer k.object k.change_of next) held_of (held_answers moved) answered.held;
        ring = λ leads. subst (λ (a : ProtocolNode). IsRing k next a (kept (ring_of moved) a.pair.count)) (sym node_is) (ring_right (ap (λ (a : ProtocolNode). is_primary a.known m) (sym node_is) ∙ leads));
        newest = λ leads. has_newest moved;
      }

      -- and the world has run
      abbrev pub IsRest : World S R Plan C → Type 0
      IsRest new =
          agreement.IsRest k records limits within applied shelf world at_first stood comes.stands.agrees event (comings.new k records limits within applied shelf world events event comes) (comings.single k records limits within applied shelf world events event comes) new

      pub rest_then : (new : World S R Plan C) → setup_of new ≡ setup_of world → new.members ≡ world.members → vec_len new.nodes ≡ vec_len world.nodes → new.crashed.items ≡ world.crashed.items → service_of new.service ≡ service_of world.service
          → new.links.ends ≡ world.links.ends → HasLists new.links (flying k next) → records new.recorder next.recorded → IsRest new
      rest_then new setup members size crashed service ends links recorded = record {
        setup = setup;
        members = members;
        size = size;
        crashed = crashed ∙ comes.stands.agrees.crashed ∙ sym (ap (λ (u : Machine C). u.crashed) next_is);
        service = service ∙ comes.stands.agrees.service ∙ sym (ap (λ (u : Machine C). u.service) next_is);
        ends = ends;
        links = links;
        fit = fit_then;
        recorded = recorded;
      }

      pub waits_then : (new : World S R Plan C) → new.nodes.items ≡ slice_set world.nodes.items m moved → (q : ℕ) → waiting new q ≡ waiting world q ++ released_at k.object k.change_of at_first event q
      waits_then new nodes q = agreement.waiting_in new q ∙ ap (λ ns. agreement.waits_in (slice_get ns q)) nodes ∙ go (number_cases q m)
        where
          go : (q ≡ m) ⊎ (q ≢ m) → agreement.waits_in (slice_get (slice_set world.nodes.items m moved) q) ≡ waiting world q ++ released_at k.object k.change_of at_first event q
          go (inl e) =
              ap (λ j. agreement.waits_in (slice_get (slice_set world.nodes.items m moved) j)) e ∙ ap agreement.waits_in (set_get_same world.nodes.items m moved node there)
              ∙ answered.waits ∙ ap (λ rs. node_waiting node ++ rs) (sym released_now)
              ∙ ap (λ rs. rs ++ released_by k.object k.change_of at_first next) (sym (agreement.waiting_in world q ∙ ap (λ j. agreement.waits_in (slice_get world.nodes.items j)) e ∙ ap agreement.waits_in there))
              ∙ ap (λ rs. waiting world q ++ rs) (sym (rw (number_same m q (sym e)) refl))
          go (inr d) =
              ap agreement.waits_in (set_get_other world.nodes.items m q moved d) ∙ sym (agreement.waiting_in world q) ∙ sym (append-nil (waiting world q))
              ∙ ap (λ rs. waiting world q ++ rs) (sym (rw (number_other m q (λ e. d (sym e))) refl))

      pub member_run : (new : World S R Plan C) (word : Took) → took_of word ≡ took → IsRest new → new.nodes.items ≡ slice_set world.nodes.items m moved → HasRun k records world new events event (happened.Took word)
      member_run new word took_word rest nodes = record {
        outcome = ap TookMessage (took_word ∙ taken.took_is ∙ ap (λ (s : Step). s.took) step_is) ∙ sym (ap (λ (h : HappenedThere C). h.outcome) happens_so);
        agrees =
            agreement.agrees_moved k records limits within applied shelf world at_first stood comes.stands.agrees event (comings.new k records limits within applied shelf world events event comes) (comings.single k records limits within applied shelf world events event comes)
            m node moved there member_then answers_right new rest nodes
            (ap (λ (u : Machine C). u.nodes) next_is ∙ ap (slice_set at_first.nodes m) (sym node_is));
        waits = waits_then new nodes;
      }
