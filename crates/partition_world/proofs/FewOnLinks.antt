-- Of what one event sends from one end at most 65 messages go to one other end: a catch-up of 64 effects and a bridge. Where no row is taken it is two.
use Rattle.std.proofs.Common.{◌≡◌, ◌≢◌, ℕ, zero, suc, ◌+◌, ◌-◌, min, ◌<◌, ◌≤◌, Bool, true, false, cond, not, ◌&&◌, ◌||◌, ◌==◌, nat_lt, nat_le, List, [], ◌∷◌, ◌++◌, map, length, Option, Some, None, is_some, flat_map, refl, ap, sym, ◌∙◌, subst, arith, ◌⊎◌, inl, inr, length-append}
use Rattle.std.proofs.lemmas.Bool.Decides.{nat_tests}
use Rattle.partition_table.specs.declared.Row.{Row}
use Rattle.partition_table.specs.declared.RowMember.{RowMember}
use Rattle.partition_table.specs.Rows.{is_primary, is_backup, is_eligible, is_among, number_of, rest_of, backups_of, is_empty}
use Rattle.partition_table.specs.RowFacts.{are_distinct, HasDistinctMembers}
use Rattle.partition_protocol.specs.Messages.{Message, NewRow, Sync, Effect, Bridge, Ack, Joined, Freeze, Frozen, Sent}
use Rattle.partition_protocol.specs.Took.{Synced, Applied, Bridged as TookBridged, Already, Gap, Other, Stale, Adopted, Acked, Frozen as TookFrozen}
use Rattle.partition_protocol.specs.Node.{Pair, Node, acked, with_ack, settled}
use Rattle.partition_protocol.specs.CatchUp.{recent_limit, heard, effects, effects_from, recent_effects_to, whole_snapshot, is_covered, catch_up_by, catch_up}
use Rattle.partition_protocol.specs.Adoption.{adopted_row, sent_on_adopting}
use Rattle.partition_protocol.specs.Replica.{Step, is_newer, after_row, sent_by_row, with_sent, with_pair, unanswered, acknowledging, to_one, is_ahead, sync_backup, bridge_backup, on_sync, on_bridge, on_effect, on_ack, on_freeze, joined_note, frozen_note, taking, lags, joined_again, sent_again}
use Rattle.partition_protocol.specs.Execution.{sent_on_executing}
use Rattle.partition_protocol.specs.Service.{Service, Move, NoMove, Joining, Joined as JoinedMove, Freezing, Drained, numbers_below, undetected, telling, freeze_of, freezing_again}
use Rattle.partition_protocol.specs.World.{World as Machine}
use Rattle.grid_base.specs.Objects.{Object}
use Rattle.partition_protocol.proofs.Lists.{In, in_cases, every_from_in, on_cond, on_if}
use Rattle.partition_protocol.proofs.Invariant.{NodeAt}
use Rattle.partition_protocol.proofs.RowFacts.{number_cases, number_other, other_number}
use Rattle.partition_protocol.proofs.Listings.{first_apart, rest_distinct, distinct_cons, filter_listing}
use Rattle.partition_protocol.proofs.Says.{backup_sends_none}
use Rattle.partition_protocol.proofs.Events.{Good}
use Rattle.partition_protocol.proofs.Effects.{Led}
use Rattle.partition_protocol.proofs.Beginnings.{heard_adopted}
use Rattle.partition_protocol.proofs.LinkFacts.{messages_to}
use Rattle.partition_world.specs.Sending.{most_of}

-- how many go to that end

abbrev pub count_to : ℕ → List Sent → ℕ
count_to h ss = length (messages_to h ss)

pub count_append : (h : ℕ) (xs ys : List Sent) → count_to h (xs ++ ys) ≡ count_to h xs + count_to h ys
count_append h [] ys = omega arith
count_append h (x ∷ xs) ys = go (x.to == h) (count_append h xs ys)
  where
    go : (b : Bool) → count_to h (xs ++ ys) ≡ count_to h xs + count_to h ys
        → length (cond b (x.message ∷ messages_to h (xs ++ ys)) (messages_to h (xs ++ ys))) ≡ length (cond b (x.message ∷ messages_to h xs) (messages_to h xs)) + count_to h ys
    go true e = omega (arith, e)
    go false e = e

pub count_all : (h : ℕ) (ss : List Sent) → count_to h ss ≤ length ss
count_all h [] = omega arith
count_all h (s ∷ ss) = go (s.to == h) (count_all h ss)
  where
    go : (b : Bool) → count_to h ss ≤ length ss → length (cond b (s.message ∷ messages_to h ss) (messages_to h ss)) ≤ length (s ∷ ss)
    go true l = omega (arith, l)
    go false l = omega (arith, l)

-- what goes to another end
pub count_other : (h to : ℕ) (xs : List Message) → to ≢ h → count_to h (map (λ x. record { to = to; message = x }) xs) ≡ 0
count_other h to [] d = refl
count_other h to (x ∷ xs) d = rw (messages_to, number_other to h d) (count_other h to xs d)

pub length_map : {X Y : Type 0} (f : X → Y) (xs : List X) → length (map f xs) ≡ length xs
length_map f [] = refl
length_map f (x ∷ xs) = ap (λ n. suc n) (length_map f xs)

-- each to a member of its own
module _ (h : ℕ) (f : RowMember → List Sent) (apart : (b : RowMember) → b.member ≢ h → count_to h (f b) ≡ 0) where
  pub none_to : (bs : List RowMember) → ((b : RowMember) → In b bs → b.member ≢ h) → count_to h (flat_map f bs) ≡ 0
  none_to [] d = refl
  none_to (b ∷ bs) d =
      let first = apart b (d b (inl refl)) in
      let rest = none_to bs (λ c i. d c (inr i)) in
      let whole = count_append h (f b) (flat_map f bs) in
      omega (arith, first, rest, whole)

  pub few_to : (most : ℕ) (bs : List RowMember) → are_distinct (map number_of bs) ≡ true → ((b : RowMember) → In b bs → count_to h (f b) ≤ most) → count_to h (flat_map f bs) ≤ most
  few_to most [] d l = omega arith
  few_to most (b ∷ bs) d l = go (few_to most bs (rest_distinct b.member (map number_of bs) d) (λ c i. l c (inr i))) (number_cases b.member h)
    where
      whole : count_to h (flat_map f (b ∷ bs)) ≡ count_to h (f b) + count_to h (flat_map f bs)
      whole = count_append h (f b) (flat_map f bs)

      others : b.member ≡ h → (c : RowMember) → In c bs → c.member ≢ h
      others e c i z = first_apart b.member (map number_of bs) d (in_numbers (z ∙ sym e) bs i)
        where
          in_numbers : c.member ≡ b.member → (cs : List RowMember) → In c cs → In b.member (map number_of cs)
          in_numbers s [] j = j
          in_numbers s (x ∷ cs) (inl k) = inl (ap (λ (y : RowMember). y.member) k ∙ s)
          in_numbers s (x ∷ cs) (inr k) = inr (in_numbers s cs k)

      go : count_to h (flat_map f bs) ≤ most → (b.member ≡ h) ⊎ (b.member ≢ h) → count_to h (flat_map f (b ∷ bs)) ≤ most
      go rest (inl e) = let none = none_to bs (others e) in let first = l b (inl refl) in omega (arith, whole, none, first)
      go rest (inr n) = let none = apart b n in omega (arith, whole, none, rest)

pub flat_map_most : (h : ℕ) (f : RowMember → List Sent) (bs : List RowMember) → ((b : RowMember) → count_to h (f b) ≤ 1) → count_to h (flat_map f bs) ≤ length bs
flat_map_most h f [] l = omega arith
flat_map_most h f (b ∷ bs) l =
    let first = l b in
    let rest = flat_map_most h f bs l in
    let whole = count_append h (f b) (flat_map f bs) in
    omega (arith, first, rest, whole)

-- backups

pub backups_distinct : (row : Row) → HasDistinctMembers row → are_distinct (map number_of (backups_of row)) ≡ true
backups_distinct row d = go row.members d
  where
    go : (rs : List RowMember) → are_distinct (map number_of rs) ≡ true → are_distinct (map number_of (rest_of rs)) ≡ true
    go [] e = e
    go (r ∷ rs) e = rest_distinct r.member (map number_of rs) e

-- a catch-up

pub effects_length : (v a k : ℕ) → length (effects_from v a k) ≡ k
effects_length v a zero = refl
effects_length v a (suc k) = ap (λ n. suc n) (effects_length v (a + 1) k)

module _ {C State : Type 0} (o : Object C State) (w : Machine C) (good : Good o w) (led : Led o w) (m : ℕ) (n : Node) (at : NodeAt w.nodes m n) (leads : is_primary n.known m ≡ true) where
  pub recent_few : (b : ℕ) (p : Pair) → heard n b ≡ Some p → is_covered n p ≡ true → length (recent_effects_to n p) ≤ 65
  recent_few b p h e =
      on_cond (λ xs. length xs ≤ 65) (p.version == n.known.version) (effects p.version p.count n.pair.count)
      (effects p.version p.count n.adopted ++ (Bridge n.known p.version n.adopted ∷ effects n.known.version n.adopted n.pair.count))
      (λ z. let one = effects_length p.version p.count (n.pair.count - p.count) in omega (arith, one, most))
      (λ z.
      let older : p.count ≤ n.adopted = heard_adopted o w good led m n at leads b p h (other_number p.version n.known.version z) in
      let first = effects_length p.version p.count (n.adopted - p.count) in
      let second = effects_length n.known.version n.adopted (n.pair.count - n.adopted) in
      let whole = length-append (effects p.version p.count n.adopted) (Bridge n.known p.version n.adopted ∷ effects n.known.version n.adopted n.pair.count) in
      omega (arith, older, first, second, whole, most, adopted))
    where
      most : n.pair.count - p.count ≤ 64
      most = let k : n.pair.count - p.count ≤ min recent_limit n.recent = grind (arith, nat_tests) in omega (arith, k)

      adopted : n.adopted ≤ n.pair.count
      adopted = (good.1.frame.nodes m n at).adopted leads

  pub catch_up_few : (b : RowMember) → length (catch_up n b) ≤ 65
  catch_up_few b =
      let few : length (catch_up_by n b.eligible (heard n b.member)) ≤ 65 = go b.eligible (heard n b.member) refl in
      let same = length_map (λ (x : Message). let y : Sent = record { to = b.member; message = x } in y) (catch_up_by n b.eligible (heard n b.member)) in
      omega (arith, few, same)
    where
      go : (eligible : Bool) (p : Option Pair) → heard n b.member ≡ p → length (catch_up_by n eligible p) ≤ 65
      go false p e = omega arith
      go true None e = omega arith
      go true (Some p) e = on_cond (λ xs. length xs ≤ 65) (is_covered n p) (recent_effects_to n p) (whole_snapshot n) (λ z. recent_few b.member p e z) (λ z. omega arith)

-- what a member sends

-- the catch-ups of its backups are few, and these have one place each
pub record HasFew (m : ℕ) (n : Node) : Type 0 where
  pub distinct : HasDistinctMembers n.known
  pub catch_ups : is_primary n.known m ≡ true → (b : RowMember) → length (catch_up n b) ≤ 65

pub node_few : {C State : Type 0} (o : Object C State) (w : Machine C) (good : Good o w) (led : Led o w) (m : ℕ) (n : Node) → NodeAt w.nodes m n → HasDistinctMembers n.known → HasFew m n
node_few o w good led m n at distinct = record { distinct = distinct; catch_ups = λ leads b. catch_up_few o w good led m n at leads b }

-- the members that are told

pub distinct_last : (m : ℕ) (ms : List ℕ) → (In m ms → ⊥) → are_distinct ms ≡ true → are_distinct (ms ++ m ∷ []) ≡ true
distinct_last m [] f d = refl
distinct_last m (k ∷ ms) f d = distinct_cons k (ms ++ m ∷ []) (λ i. apart (in_cases k ms (m ∷ []) i)) (distinct_last m ms (λ i. f (inr i)) (rest_distinct k ms d))
  where
    apart : In k ms ⊎ In k (m ∷ []) → ⊥
    apart (inl i) = first_apart k ms d i
    apart (inr (inl e)) = f (inl (sym e))
    apart (inr (inr i)) = absurd i

pub below_in : (n m : ℕ) → In m (numbers_below n) → m < n
below_in zero m i = absurd i
below_in (suc n) m i = go (below_in n m) (in_cases m (numbers_below n) (n ∷ []) i)
  where
    go : (In m (numbers_below n) → m < n) → In m (numbers_below n) ⊎ In m (n ∷ []) → m < suc n
    go f (inl j) = let l = f j in omega (arith, l)
    go f (inr (inl e)) = omega (arith, e)
    go f (inr (inr j)) = absurd j

pub numbers_distinct : (n : ℕ) → are_distinct (numbers_below n) ≡ true
numbers_distinct zero = refl
numbers_distinct (suc n) = distinct_last n (numbers_below n) (λ i. (let l = below_in n n i in absurd (omega (arith, l)))) (numbers_distinct n)

pub undetected_distinct : (n : ℕ) (detected : List ℕ) → are_distinct (undetected n detected) ≡ true
undetected_distinct n detected =
    (filter_listing n (λ m. not (is_among detected m)) (numbers_below n) (every_from_in (λ m. m < n) (numbers_below n) (below_in n), numbers_distinct n)).1

module _ (h m : ℕ) where
  pub catch_up_apart : (n : Node) (b : RowMember) → b.member ≢ h → count_to h (catch_up n b) ≡ 0
  catch_up_apart n b d = count_other h b.member (catch_up_by n b.eligible (heard n b.member)) d

  pub adopting_few : (n : Node) → HasFew m n → count_to h (sent_on_adopting m n) ≤ 65
  adopting_few n few =
      on_cond (λ ss. count_to h ss ≤ 65) (is_primary n.known m) (flat_map (catch_up n) (backups_of n.known)) []
      (λ leads. few_to h (catch_up n) (catch_up_apart n) 65 (backups_of n.known) (backups_distinct n.known few.distinct) (λ b i. let l = few.catch_ups leads b in let k = count_all h (catch_up n b) in omega (arith, l, k)))
      (λ e. omega arith)

  abbrev pub IsStepFew : Step → Type 0
  IsStepFew s = HasFew m s.node → count_to h s.sent ≤ 65

  -- two at most
  pub two_few : (ss : List Sent) → length ss ≤ 2 → count_to h ss ≤ 65
  two_few ss l = let k = count_all h ss in omega (arith, l, k)

  module _ (service from : ℕ) (n : Node) where
    pub rest_few : (row : Row) (rest : Step) → length rest.sent ≤ 2 → IsStepFew (with_sent (sent_by_row m row n) (cond (is_backup (after_row m row n).known m) rest (unanswered (after_row m row n) Other)))
    rest_few row rest l =
        on_cond (λ (s : Step). IsStepFew (with_sent (sent_by_row m row n) s)) (is_backup (after_row m row n).known m) rest (unanswered (after_row m row n) Other)
        (λ b few. subst (λ ss. count_to h (ss ++ rest.sent) ≤ 65) (sym (backup_sends_none service m from (Unit {0}) n row b)) (two_few rest.sent l))
        (λ b few. let quiet = by_row few in let whole = count_append h (sent_by_row m row n) [] in omega (arith, quiet, whole))
      where
        by_row : HasFew m (after_row m row n) → count_to h (sent_by_row m row n) ≤ 65
        by_row = go (is_newer row n)
          where
            go : (t : Bool) → HasFew m (cond t (adopted_row m row n) n) → count_to h (cond t (sent_on_adopting m (adopted_row m row n)) []) ≤ 65
            go true few = adopting_few (adopted_row m row n) few
            go false few = omega arith

    -- of a node's own answer
    pub answer_few : (s : Step) → length s.sent ≤ 2 → IsStepFew s
    answer_few s l few = two_few s.sent l

    pub answer_two : (s : Step) → length s.sent ≤ 2 → count_to h s.sent ≤ 2
    answer_two s l = let k = count_all h s.sent in omega (arith, l, k)

    pub sync_few : (row : Row) (c : ℕ) → IsStepFew (on_sync m from row c n)
    sync_few row c =
        on_if IsStepFew (nat_lt row.version n.known.version) (unanswered n Other) (with_sent (sent_by_row m row n) (cond (is_backup (after_row m row n).known m) (sync_backup from row c (after_row m row n)) (unanswered (after_row m row n) Other)))
        (answer_few (unanswered n Other) (omega arith))
        (rest_few row (sync_backup from row c (after_row m row n))
        (on_if (λ (s : Step). length s.sent ≤ 2) (is_ahead row c (after_row m row n)) (acknowledging (with_pair (after_row m row n) row.version c) from Synced) (acknowledging (after_row m row n) from Already) (omega arith) (omega arith)))

    pub bridge_few : (row : Row) (v c : ℕ) → IsStepFew (on_bridge m from row v c n)
    bridge_few row v c =
        on_if IsStepFew (nat_lt row.version n.known.version) (unanswered n Other) (with_sent (sent_by_row m row n) (cond (is_backup (after_row m row n).known m) (bridge_backup from row v c (after_row m row n)) (unanswered (after_row m row n) Other)))
        (answer_few (unanswered n Other) (omega arith))
        (rest_few row (bridge_backup from row v c (after_row m row n))
        (on_if (λ (s : Step). length s.sent ≤ 2) ((after_row m row n).pair.version == row.version) (acknowledging (after_row m row n) from Already)
        (cond (((after_row m row n).pair.version == v) && ((after_row m row n).pair.count == c)) (acknowledging (with_pair (after_row m row n) row.version c) from TookBridged) (unanswered (after_row m row n) Gap))
        (omega arith)
        (on_if (λ (s : Step). length s.sent ≤ 2) (((after_row m row n).pair.version == v) && ((after_row m row n).pair.count == c)) (acknowledging (with_pair (after_row m row n) row.version c) from TookBridged) (unanswered (after_row m row n) Gap) (omega arith) (omega arith))))

    pub effect_few : (v i : ℕ) → count_to h (on_effect m from v i n).sent ≤ 2
    effect_few v i = answer_two (on_effect m from v i n)
        (on_if (λ (s : Step). length s.sent ≤ 2) (not (is_backup n.known m && (n.pair.version == v))) (unanswered n Other) (cond (i == n.pair.count + 1) (acknowledging (with_pair n v i) from Applied) (cond (nat_le i n.pair.count) (acknowledging n from Already) (unanswered n Gap))) (omega arith)
        (on_if (λ (s : Step). length s.sent ≤ 2) (i == n.pair.count + 1) (acknowledging (with_pair n v i) from Applied) (cond (nat_le i n.pair.count) (acknowledging n from Already) (unanswered n Gap)) (omega arith)
        (on_if (λ (s : Step). length s.sent ≤ 2) (nat_le i n.pair.count) (acknowledging n from Already) (unanswered n Gap) (omega arith) (omega arith))))

    pub ack_few : (v c : ℕ) → count_to h (on_ack service m from v c n).sent ≤ 2
    ack_few v c = answer_two (on_ack service m from v c n)
        (on_if (λ (s : Step). length s.sent ≤ 2) (is_primary n.known m && (n.known.version == v) && is_backup n.known from)
        (record { node = next; sent = joined_note service from n ++ frozen_note service next (settled next); took = Acked }) (unanswered n Stale)
        (let a : length (joined_note service from n) ≤ 1 = on_if (λ (ss : List Sent). length ss ≤ 1) (is_some (acked n from) || is_eligible n.known from) [] (to_one service (Joined n.known.version from)) (omega arith) (omega arith) in
        let b : length (frozen_note service next (settled next)) ≤ 1 = on_if (λ (ss : List Sent). length ss ≤ 1) (next.frozen && not (is_empty next.held) && is_empty (settled next).held) (to_one service (Frozen next.known.version)) [] (omega arith) (omega arith) in
        let whole = length-append (joined_note service from n) (frozen_note service next (settled next)) in omega (arith, a, b, whole))
        (omega arith))
      where
        next : Node
        next = record n { acks = with_ack from c n.acks }

    pub freeze_few : (v : ℕ) → count_to h (on_freeze service m v n).sent ≤ 2
    freeze_few v = answer_two (on_freeze service m v n)
        (on_if (λ (s : Step). length s.sent ≤ 2) (is_primary n.known m && (n.known.version == v)) (record { node = record n { frozen = true }; sent = cond (is_empty n.held) (to_one service (Frozen v)) []; took = TookFrozen }) (unanswered n Stale)
        (on_if (λ (ss : List Sent). length ss ≤ 2) (is_empty n.held) (to_one service (Frozen v)) [] (omega arith) (omega arith)) (omega arith))

    -- whatever the message
    pub taking_few : (msg : Message) → HasFew m (taking service m from msg n).node → count_to h (taking service m from msg n).sent ≤ most_of msg
    taking_few (NewRow row) =
        on_if IsStepFew (is_newer row n) (record { node = adopted_row m row n; sent = sent_on_adopting m (adopted_row m row n); took = Adopted }) (unanswered n Stale)
        (λ few. adopting_few (adopted_row m row n) few) (answer_few (unanswered n Stale) (omega arith))
    taking_few (Sync row c) = sync_few row c
    taking_few (Bridge row v c) = bridge_few row v c
    taking_few (Effect v i) = λ few. effect_few v i
    taking_few (Ack v c) = λ few. ack_few v c
    taking_few (Freeze v) = λ few. freeze_few v
    taking_few (Joined v b) = λ few. answer_two (unanswered n Other) (omega arith)
    taking_few (Frozen v) = λ few. answer_two (unanswered n Other) (omega arith)

  -- a call's effect goes to each backup once
  pub executing_few : (changes : Bool) (n : Node) → HasDistinctMembers n.known → count_to h (sent_on_executing changes n) ≤ 1
  executing_few false n d = omega arith
  executing_few true n d =
      let one = few_to h effect_to apart 1 (backups_of n.known) (backups_distinct n.known d) (λ b i. (let k = count_all h (effect_to b) in omega (arith, k))) in
      let count = ap (count_to h) (flat (backups_of n.known)) in
      omega (arith, one, count)
    where
      effect_of : RowMember → Sent
      effect_of b = record { to = b.member; message = Effect n.pair.version n.pair.count }

      effect_to : RowMember → List Sent
      effect_to b = effect_of b ∷ []

      apart : (b : RowMember) → b.member ≢ h → count_to h (effect_of b ∷ []) ≡ 0
      apart b d = count_other h b.member (Effect n.pair.version n.pair.count ∷ []) d

      flat : (bs : List RowMember) → map effect_of bs ≡ flat_map (λ (b : RowMember). effect_of b ∷ []) bs
      flat [] = refl
      flat (b ∷ bs) = ap (λ ss. effect_of b ∷ ss) (flat bs)

  -- and to no other end
  pub executing_none : (changes : Bool) (n : Node) → ((b : RowMember) → In b (backups_of n.known) → b.member ≢ h) → count_to h (sent_on_executing changes n) ≡ 0
  executing_none false n d = refl
  executing_none true n d = go (backups_of n.known) d
    where
      go : (bs : List RowMember) → ((b : RowMember) → In b bs → b.member ≢ h) → count_to h (map (λ (b : RowMember). record { to = b.member; message = Effect n.pair.version n.pair.count }) bs) ≡ 0
      go [] d = refl
      go (b ∷ bs) d = rw (messages_to, number_other b.member h (d b (inl refl))) (go bs (λ c i. d c (inr i)))

  -- a primary sends again: a catch-up to each backup, and to the service a word for each
  pub again_few : (service : ℕ) (n : Node) → is_primary n.known m ≡ true → HasFew m n → ((b : RowMember) → In b (backups_of n.known) → b.member < service) → length (backups_of n.known) ≤ 64 → count_to h (sent_again service n) ≤ 65
  again_few service n leads few below most = go (number_cases service h)
    where
      catching : RowMember → List Sent
      catching b = cond (lags n b.member) (catch_up n b) []

      catching_apart : (b : RowMember) → b.member ≢ h → count_to h (catching b) ≡ 0
      catching_apart b d = on_if (λ ss. count_to h ss ≡ 0) (lags n b.member) (catch_up n b) [] (catch_up_apart n b d) refl

      catching_few : (b : RowMember) → count_to h (catching b) ≤ 65
      catching_few b = on_if (λ ss. count_to h ss ≤ 65) (lags n b.member) (catch_up n b) [] (let l = few.catch_ups leads b in let k = count_all h (catch_up n b) in omega (arith, l, k)) (omega arith)

      word : Message → service ≢ h → count_to h (to_one service (Frozen n.known.version)) ≡ 0
      word x d = count_other h service (Frozen n.known.version ∷ []) d

      joining_one : (b : RowMember) → count_to h (joined_again service n b) ≤ 1
      joining_one b = on_if (λ ss. count_to h ss ≤ 1) (is_some (acked n b.member) && not b.eligible) (to_one service (Joined n.known.version b.member)) [] (count_all h (to_one service (Joined n.known.version b.member))) (omega arith)

      joining_none : service ≢ h → (bs : List RowMember) → count_to h (flat_map (joined_again service n) bs) ≡ 0
      joining_none d [] = refl
      joining_none d (b ∷ bs) =
          let first : count_to h (joined_again service n b) ≡ 0 = on_if (λ ss. count_to h ss ≡ 0) (is_some (acked n b.member) && not b.eligible) (to_one service (Joined n.known.version b.member)) [] (count_other h service (Joined n.known.version b.member ∷ []) d) refl in
          let rest = joining_none d bs in
          let whole = count_append h (joined_again service n b) (flat_map (joined_again service n) bs) in
          omega (arith, first, rest, whole)

      frozen : List Sent
      frozen = cond (n.frozen && is_empty n.held) (to_one service (Frozen n.known.version)) []

      whole : count_to h (sent_again service n) ≡ count_to h (flat_map catching (backups_of n.known)) + count_to h (flat_map (joined_again service n) (backups_of n.known)) + count_to h frozen
      whole =
          count_append h (flat_map catching (backups_of n.known) ++ flat_map (joined_again service n) (backups_of n.known)) frozen
          ∙ ap (λ c. c + count_to h frozen) (count_append h (flat_map catching (backups_of n.known)) (flat_map (joined_again service n) (backups_of n.known)))

      go : (service ≡ h) ⊎ (service ≢ h) → count_to h (sent_again service n) ≤ 65
      go (inl e) =
          let none = none_to h catching catching_apart (backups_of n.known) (λ b i z. (let l = below b i in omega (arith, l, z, e))) in
          let joins = flat_map_most h (joined_again service n) (backups_of n.known) joining_one in
          let last : count_to h frozen ≤ 1 = on_if (λ ss. count_to h ss ≤ 1) (n.frozen && is_empty n.held) (to_one service (Frozen n.known.version)) [] (count_all h (to_one service (Frozen n.known.version))) (omega arith) in
          omega (arith, whole, none, joins, last, most)
      go (inr d) =
          let some = few_to h catching catching_apart 65 (backups_of n.known) (backups_distinct n.known few.distinct) (λ b i. catching_few b) in
          let joins = joining_none d (backups_of n.known) in
          let last : count_to h frozen ≡ 0 = on_if (λ ss. count_to h ss ≡ 0) (n.frozen && is_empty n.held) (to_one service (Frozen n.known.version)) [] (count_other h service (Frozen n.known.version ∷ []) d) refl in
          omega (arith, whole, some, joins, last)

  -- what the service sends: a row to each member once, and a freeze

  pub told_none : (row : Row) (ms : List ℕ) → ((k : ℕ) → In k ms → k ≢ h) → count_to h (map (λ k. record { to = k; message = NewRow row }) ms) ≡ 0
  told_none row [] d = refl
  told_none row (k ∷ ms) d = rw (messages_to, number_other k h (d k (inl refl))) (told_none row ms (λ j i. d j (inr i)))

  pub told_few : (row : Row) (ms : List ℕ) → are_distinct ms ≡ true → count_to h (map (λ k. record { to = k; message = NewRow row }) ms) ≤ 1
  told_few row [] d = omega arith
  told_few row (k ∷ ms) d = go (told_few row ms (rest_distinct k ms d)) (number_cases k h)
    where
      rest : List Sent
      rest = map (λ j. record { to = j; message = NewRow row }) ms

      at_most : (b : Bool) → length (cond b (NewRow row ∷ messages_to h rest) (messages_to h rest)) ≤ suc (length (messages_to h rest))
      at_most true = omega arith
      at_most false = omega arith

      go : count_to h rest ≤ 1 → (k ≡ h) ⊎ (k ≢ h) → count_to h (map (λ j. record { to = j; message = NewRow row }) (k ∷ ms)) ≤ 1
      go l (inl e) = let none = told_none row ms (λ j i z. first_apart k ms d (subst (λ x. In x ms) (z ∙ sym e) i)) in let most = at_most (k == h) in omega (arith, none, most)
      go l (inr n) = rw (messages_to, number_other k h n) l

  pub freezing_few : (row : Row) (v : Move) → count_to h (freeze_of row v) ≤ 1
  freezing_few row NoMove = omega arith
  freezing_few row (Joining s t) = omega arith
  freezing_few row (JoinedMove s t) = omega arith
  freezing_few row (Freezing s t) = count_all h (record { to = s; message = Freeze row.version } ∷ [])
  freezing_few row (Drained s t) = omega arith

  pub telling_few : (members : ℕ) (s : Service) → count_to h (telling members s) ≤ 1
  telling_few members s = told_few s.row (undetected members s.detected) (undetected_distinct members s.detected)

  pub service_few : (members : ℕ) (s : Service) → count_to h (telling members s ++ freezing_again s) ≤ 2
  service_few members s =
      let rows = telling_few members s in
      let freeze = freezing_few s.row s.move in
      let whole = count_append h (telling members s) (freezing_again s) in
      omega (arith, rows, freeze, whole)
