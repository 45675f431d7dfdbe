-- A connection stays as it is at the lines that bring it no bytes. Nobody listens on one that no byte has reached.
use Rattle.std.proofs.Common.{◌≡◌, ◌≢◌, ℕ, ◌≤◌, Bool, true, false, cond, not, ◌&&◌, ◌==◌, List, [], ◌∷◌, ◌++◌, filter, length, Option, Some, None, refl, ap, sym, ◌∙◌, subst, ⊎_elim, arith, append-nil}
use Rattle.std.specs.Prelude.{is_some}
use Rattle.std.specs.List.{find}
use Rattle.std.proofs.lemmas.List.Elements.{filter-append}
use Rattle.grid_base.specs.Objects.{Object}
use Rattle.grid_base.specs.declared.names.CallId.{CallId}
use Rattle.grid_base.specs.declared.calls.Request.{Request}
use Rattle.object_store.specs.Partitions.{Partition}
use Rattle.partition_protocol.specs.Events.{Event}
use Rattle.partition_protocol.specs.Events as event
use Rattle.partition_protocol.specs.Service.{numbers_below}
use Rattle.partition_protocol.proofs.Lists.{on_if}
use Rattle.partition_protocol.proofs.RowFacts.{same_number, number_same, number_other, number_cases}
use Rattle.session_core.specs.declared.item.Item.{Item}
use Rattle.session_core.specs.declared.item.Item.TheVariants.{Call as Asks, Wait, Register, Reply}
use Rattle.script_lang.specs.declared.line.Line.{Line}
use Rattle.script_lang.specs.declared.line.Line.TheVariants as line
use Rattle.near_protocol.proofs.Hear.{find_in}
use Rattle.replay_run.specs.Runs.{Run, Connection, Arrival, At, is_connection, connection_of, world_at, lives, is_full, is_skipped, updated, with_bytes, took_bytes, takes_bytes, can_open, opened, next_line, clock_set, arrived, asked, asks, given_up, arrival_at, waiter_at, waits, served, forsaken, registers, calls, begins_to_wait, handled_all, items_by, bytes_arrived, takes, delivery_on, event_by, partitions}
use Rattle.replay_run.specs.AfterLines.{after_event, after_line}
use Rattle.replay_run.proofs.Turns.{KeepsTurns, by_endings, served_keeps, takes_keeps, forsaken_keeps}
use Rattle.replay_run.proofs.EventRuns.{served_in_keeps, takes_in_keeps, flowed_keeps, flowed_in_keeps, forsaken_kept}
use Rattle.replay_run.proofs.Rebalanced.{rebalance_keeps}
use Rattle.replay_run.proofs.Lines.{handled_all_come}
use Rattle.near_run_laws.specs.NearConnections.{is_of}

-- ---- connections

found_before : {X : Type 0} (p : X → Bool) (xs : List X) (y x : X) → find p xs ≡ Some x → find p (xs ++ y ∷ []) ≡ Some x
found_before p [] y x e = absurd cc
found_before {X} p (z ∷ xs) y x e = go (p z) e (found_before p xs y x)
  where
    go : (b : Bool) → cond b (Some z) (find p xs) ≡ Some x → (find p xs ≡ Some x → find p (xs ++ y ∷ []) ≡ Some x) → cond b (Some z) (find p (xs ++ y ∷ [])) ≡ Some x
    go true f ih = f
    go false f ih = ih f

-- bytes on another one
pub not_updated : (c : ℕ) (new : Connection) (ks : List Connection) → new.conn ≢ c → find (is_connection c) (updated new ks) ≡ find (is_connection c) ks
not_updated c new [] apart = refl
not_updated c new (k ∷ ks) apart = go (k.conn == new.conn) refl (not_updated c new ks apart)
  where
    other : (new.conn == c) ≡ false
    other = number_other new.conn c apart

    go : (b : Bool) → (k.conn == new.conn) ≡ b → find (is_connection c) (updated new ks) ≡ find (is_connection c) ks
        → cond ((cond b new k).conn == c) (Some (cond b new k)) (find (is_connection c) (updated new ks)) ≡ cond (k.conn == c) (Some k) (find (is_connection c) ks)
    go true t ih =
        let same : (k.conn == c) ≡ false = ap (λ n. n == c) (same_number k.conn new.conn t) ∙ other in
        ap (λ b. cond b (Some new) (find (is_connection c) (updated new ks))) other ∙ ih ∙ sym (ap (λ b. cond b (Some k) (find (is_connection c) ks)) same)
    go false t ih = ap (λ x. cond (k.conn == c) (Some k) x) ih

-- bytes on this one
pub now_updated : (new : Connection) (ks : List Connection) (k : Connection) → find (is_connection new.conn) ks ≡ Some k → find (is_connection new.conn) (updated new ks) ≡ Some new
now_updated new [] k e = absurd cc
now_updated new (j ∷ ks) k e = go (j.conn == new.conn) refl e (now_updated new ks k)
  where
    go : (b : Bool) → (j.conn == new.conn) ≡ b → cond b (Some j) (find (is_connection new.conn) ks) ≡ Some k → (find (is_connection new.conn) ks ≡ Some k → find (is_connection new.conn) (updated new ks) ≡ Some new)
        → cond ((cond b new j).conn == new.conn) (Some (cond b new j)) (find (is_connection new.conn) (updated new ks)) ≡ Some new
    go true t s ih = ap (λ x. cond x (Some new) (find (is_connection new.conn) (updated new ks))) (number_same new.conn new.conn refl)
    go false t s ih = ap (λ x. cond x (Some j) (find (is_connection new.conn) (updated new ks))) t ∙ ih s

pub its_conn : (r : Run) (c : ℕ) (k : Connection) → connection_of r c ≡ Some k → k.conn ≡ c
its_conn r c k e = same_number k.conn c (find_in (is_connection c) r.connections k e).1

-- ---- lines that bring no bytes to it

abbrev pub IsApart : ℕ → Line → Type 0
IsApart c (line.Arrive k bytes) = k ≢ c
IsApart c l = Unit {0}

-- on which no byte has arrived, if it is there
abbrev pub IsUnspoken : Run → ℕ → Type 0
IsUnspoken x c = (k : Connection) → connection_of x c ≡ Some k → k.bytes ≡ []

abbrev pub NoneListens : Run → Type 0
NoneListens x = (c : ℕ) → IsUnspoken x c → filter (is_of c) x.registered ≡ []

-- a line of bytes brings some
abbrev pub BringsSome : Line → Type 0
BringsSome (line.Arrive c bytes) = 1 ≤ length bytes
BringsSome l = Unit {0}

-- what a line leaves where it neither opens a connection nor brings bytes
pub record Still (r next : Run) : Type 0 where
  pub connections : next.connections ≡ r.connections
  pub registered : next.registered ≡ r.registered
  pub members : next.members ≡ r.members

module _ (o : Object Request Partition) (skips : List CallId) (r : Run) where
  turns_still : (p : ℕ) → KeepsTurns o skips p (Still r)
  turns_still p = by_endings o skips p (Still r) (λ x h. record { connections = h.connections; registered = h.registered; members = h.members })
      (λ x w events appended i made here h. record { connections = h.connections; registered = h.registered; members = h.members })

  served_still : (x : Run) (p member : ℕ) → Still r x → Still r (served o skips x None p member)
  served_still x p member h = served_keeps o skips p (Still r) (turns_still p) x None member h

  pub takes_still : (x : Run) (p : ℕ) (e : Event Request) → Still r x → Still r (takes o skips x p e)
  takes_still x p e h = takes_keeps o skips p (Still r) (turns_still p) x e h (record { connections = h.connections; registered = h.registered; members = h.members })

  counted : Still r (next_line r)
  counted = record { connections = refl; registered = refl; members = refl }

  event_still : (e : Option At) → Still r (after_event o skips (next_line r) e)
  event_still None = counted
  event_still (Some e) = takes_still (next_line r) e.partition e.event counted

  -- a line of bytes, and an opening, and the others

  abbrev Line_still : Line → Type 0
  Line_still (line.Arrive c bytes) = Unit {0}
  Line_still (line.OpenConn c member) = Unit {0}
  Line_still l = Still r (after_line o skips r l)

  still_line : (l : Line) → Line_still l
  still_line (line.OpenConn c member) = tt
  still_line (line.Arrive c bytes) = tt
  still_line (line.Clock member moment) = served_in_keeps o skips (Still r) member (λ x p h. served_still x p member h) (clock_set r member moment) (numbers_below partitions) (record { connections = refl; registered = refl; members = refl })
  still_line (line.Flow partition most) = flowed_keeps o skips (Still r) partition (λ x l h. takes_still x partition (delivery_on l) h) (next_line r) most counted
  still_line (line.FlowAll most) = flowed_in_keeps o skips (Still r) (λ x p l h. takes_still x p (delivery_on l) h) (next_line r) most (numbers_below partitions) counted
  still_line (line.Crash member) = takes_in_keeps o skips (Still r) (event.Crash member) (λ x p h. takes_still x p (event.Crash member) h) (next_line r) (numbers_below partitions) counted
  still_line (line.Detect member) = takes_in_keeps o skips (Still r) (event.Detect member) (λ x p h. takes_still x p (event.Detect member) h) (next_line r) (numbers_below partitions) counted
  still_line (line.Rebalance most) = rebalance_keeps o skips (Still r) (λ x p e of_step h. takes_still x p e h) (next_line r) most counted
  still_line l = event_still (event_by l)

  -- ---- bytes

  -- whoever has a turn registers nothing
  abbrev Registers : Run → Run → Type 0
  Registers x y = y.registered ≡ x.registered

  served_registered : (x : Run) (own : Option ℕ) (p member : ℕ) → Registers x (served o skips x own p member)
  served_registered x own p member = served_keeps o skips p (Registers x) (by_endings o skips p (Registers x) (λ y h. h) (λ y w events appended i made here h. h)) x own member refl

  forsaken_registered : (x : Run) (c : ℕ) → Registers x (forsaken x c)
  forsaken_registered x c = forsaken_keeps (Registers x) (λ y w i h. h) c x refl

  asks_registered : (x : Run) (own : Option ℕ) (a : Arrival) → Registers x (asks o skips x own a)
  asks_registered x own a = on_if (Registers x) (is_full (world_at o x a.request.partition)) (given_up (arrived x a [] [])) (asked o skips x own a) refl (on_if (Registers x) (is_skipped skips a.request.id) _ _ refl refl)

  handled_registered : (c : ℕ) (k : Connection) → k.conn ≢ c → (items : List Item) (x : Run) → filter (is_of c) (handled_all o skips x k items).registered ≡ filter (is_of c) x.registered
  handled_registered c k apart [] x = refl
  handled_registered c k apart (Reply bytes ∷ items) x = handled_registered c k apart items _
  handled_registered c k apart (Wait request timeout ∷ items) x =
      handled_registered c k apart items (begins_to_wait o skips x k.member request timeout)
      ∙ ap (filter (is_of c)) (served_registered (waits x (waiter_at x k.member request timeout)) (Some request.id.conn) request.partition k.member)
  handled_registered c k apart (Register registration ∷ items) x =
      handled_registered c k apart items (registers o x k.conn k.member registration)
      ∙ filter-append (is_of c) x.registered (record { conn = k.conn; registration = registration } ∷ [])
      ∙ ap (λ b. filter (is_of c) x.registered ++ cond b (record { conn = k.conn; registration = registration } ∷ []) []) (number_other k.conn c apart)
      ∙ append-nil (filter (is_of c) x.registered)
  handled_registered c k apart (Asks request ∷ items) x =
      let own = Some request.id.conn in
      let made = asks o skips x own (arrival_at x k.member request) in
      handled_registered c k apart items (calls o skips x k.member request)
      ∙ ap (filter (is_of c)) (served_registered made own request.partition k.member ∙ asks_registered x own (arrival_at x k.member request))

  abbrev bytes_on : Connection → List ℕ → Run
  bytes_on k bytes = forsaken (handled_all o skips (took_bytes r k bytes) k (items_by k bytes)) k.conn

  bytes_connections : (k : Connection) (bytes : List ℕ) → (bytes_on k bytes).connections ≡ updated (with_bytes k bytes) r.connections
  bytes_connections k bytes =
      let all = handled_all o skips (took_bytes r k bytes) k (items_by k bytes) in
      (forsaken_kept all k.conn).connections ∙ (handled_all_come o skips (took_bytes r k bytes) k (items_by k bytes)).connections

  bytes_members : (k : Connection) (bytes : List ℕ) → (bytes_on k bytes).members ≡ r.members
  bytes_members k bytes =
      let all = handled_all o skips (took_bytes r k bytes) k (items_by k bytes) in
      (forsaken_kept all k.conn).members ∙ (handled_all_come o skips (took_bytes r k bytes) k (items_by k bytes)).members

  -- ---- a connection that is there

  abbrev Keeps : ℕ → Connection → Run → Type 0
  Keeps c k next = connection_of next c ≡ Some k

  by_still : (c : ℕ) (k : Connection) (next : Run) → Still r next → connection_of r c ≡ Some k → Keeps c k next
  by_still c k next h there = ap (λ ks. find (is_connection c) ks) h.connections ∙ there

  pub keeps_connection : (l : Line) (c : ℕ) (k : Connection) → IsApart c l → connection_of r c ≡ Some k → connection_of (after_line o skips r l) c ≡ Some k
  keeps_connection (line.OpenConn m member) c k apart there = on_if (Keeps c k) (can_open o r m member) (opened r m member) (next_line r) (found_before (is_connection c) r.connections (record { conn = m; member = member; bytes = [] }) k there) there
  keeps_connection (line.Arrive m bytes) c k apart there = by (connection_of r m) refl
    where
      by : (found : Option Connection) → connection_of r m ≡ found → Keeps c k (elim found [ None ↦ next_line r | Some j ↦ bytes_arrived o skips r j bytes ])
      by None e = there
      by (Some j) e = on_if (Keeps c k) (takes_bytes o r j) (bytes_on j bytes) (next_line r)
          (ap (λ ks. find (is_connection c) ks) (bytes_connections j bytes) ∙ not_updated c (with_bytes j bytes) r.connections (λ s. apart (sym (its_conn r m j e) ∙ s)) ∙ there) there
  keeps_connection (line.Clock member moment) c k apart there = by_still c k _ (still_line (line.Clock member moment)) there
  keeps_connection (line.Flow partition most) c k apart there = by_still c k _ (still_line (line.Flow partition most)) there
  keeps_connection (line.FlowAll most) c k apart there = by_still c k _ (still_line (line.FlowAll most)) there
  keeps_connection (line.Crash member) c k apart there = by_still c k _ (still_line (line.Crash member)) there
  keeps_connection (line.Detect member) c k apart there = by_still c k _ (still_line (line.Detect member)) there
  keeps_connection (line.Rebalance most) c k apart there = by_still c k _ (still_line (line.Rebalance most)) there
  keeps_connection l c k apart there = by_still c k _ (event_still (event_by l)) there

  -- the line opens no second one of that number
  pub opens_nothing : (c member : ℕ) (k : Connection) → connection_of r c ≡ Some k → after_line o skips r (line.OpenConn c member) ≡ next_line r
  opens_nothing c member k there = ap (λ (found : Option Connection). cond (not (is_some found) && lives o r member) (opened r c member) (next_line r)) there

  -- ---- who listens

  pub listens_still : (next : Run) → Still r next → NoneListens r → NoneListens next
  listens_still next h none c unspoken = ap (filter (is_of c)) h.registered ∙ none c (λ k e. unspoken k (ap (λ ks. find (is_connection c) ks) h.connections ∙ e))

  speaks : (before more : List ℕ) → 1 ≤ length more → before ++ more ≡ [] → ⊥
  speaks [] [] some e = omega (arith, some)
  speaks [] (b ∷ more) some e = absurd cc
  speaks (b ∷ before) more some e = absurd cc

  listens_bytes : (j : Connection) (bytes : List ℕ) → 1 ≤ length bytes → connection_of r j.conn ≡ Some j → NoneListens r → NoneListens (bytes_on j bytes)
  listens_bytes j bytes some there none c unspoken = ⊎_elim here away (number_cases j.conn c)
    where
      here : j.conn ≡ c → filter (is_of c) (bytes_on j bytes).registered ≡ []
      here s = absurd (speaks j.bytes bytes some (unspoken (with_bytes j bytes) (subst (λ n. connection_of (bytes_on j bytes) n ≡ Some (with_bytes j bytes)) s (ap (λ ks. find (is_connection j.conn) ks) (bytes_connections j bytes) ∙ now_updated (with_bytes j bytes) r.connections j there))))

      away : (j.conn ≢ c) → filter (is_of c) (bytes_on j bytes).registered ≡ []
      away apart = ap (filter (is_of c)) (forsaken_registered (handled_all o skips (took_bytes r j bytes) j (items_by j bytes)) j.conn)
          ∙ handled_registered c j apart (items_by j bytes) (took_bytes r j bytes)
          ∙ none c (λ k e. unspoken k (ap (λ ks. find (is_connection c) ks) (bytes_connections j bytes) ∙ not_updated c (with_bytes j bytes) r.connections apart ∙ e))

  pub keeps_listeners : (l : Line) → BringsSome l → NoneListens r → NoneListens (after_line o skips r l)
  keeps_listeners (line.OpenConn m member) some none = on_if NoneListens (can_open o r m member) (opened r m member) (next_line r)
      (λ c unspoken. none c (λ k e. unspoken k (found_before (is_connection c) r.connections (record { conn = m; member = member; bytes = [] }) k e))) none
  keeps_listeners (line.Arrive m bytes) some none = by (connection_of r m) refl
    where
      by : (found : Option Connection) → connection_of r m ≡ found → NoneListens (elim found [ None ↦ next_line r | Some j ↦ bytes_arrived o skips r j bytes ])
      by None e = none
      by (Some j) e = on_if NoneListens (takes_bytes o r j) (bytes_on j bytes) (next_line r) (listens_bytes j bytes some (ap (connection_of r) (its_conn r m j e) ∙ e) none) none
  keeps_listeners (line.Clock member moment) some none = listens_still _ (still_line (line.Clock member moment)) none
  keeps_listeners (line.Flow partition most) some none = listens_still _ (still_line (line.Flow partition most)) none
  keeps_listeners (line.FlowAll most) some none = listens_still _ (still_line (line.FlowAll most)) none
  keeps_listeners (line.Crash member) some none = listens_still _ (still_line (line.Crash member)) none
  keeps_listeners (line.Detect member) some none = listens_still _ (still_line (line.Detect member)) none
  keeps_listeners (line.Rebalance most) some none = listens_still _ (still_line (line.Rebalance most)) none
  keeps_listeners l some none = listens_still _ (event_still (event_by l)) none

  -- ---- how many members

  pub keeps_members : (l : Line) → (after_line o skips r l).members ≡ r.members
  keeps_members (line.OpenConn m member) = on_if (λ (x : Run). x.members ≡ r.members) (can_open o r m member) (opened r m member) (next_line r) refl refl
  keeps_members (line.Arrive m bytes) = by (connection_of r m)
    where
      by : (found : Option Connection) → (elim found as (λ _. Run) [ None ↦ next_line r | Some j ↦ bytes_arrived o skips r j bytes ]).members ≡ r.members
      by None = refl
      by (Some j) = on_if (λ (x : Run). x.members ≡ r.members) (takes_bytes o r j) (bytes_on j bytes) (next_line r) (bytes_members j bytes) refl
  keeps_members (line.Clock member moment) = (still_line (line.Clock member moment)).members
  keeps_members (line.Flow partition most) = (still_line (line.Flow partition most)).members
  keeps_members (line.FlowAll most) = (still_line (line.FlowAll most)).members
  keeps_members (line.Crash member) = (still_line (line.Crash member)).members
  keeps_members (line.Detect member) = (still_line (line.Detect member)).members
  keeps_members (line.Rebalance most) = (still_line (line.Rebalance most)).members
  keeps_members l = (event_still (event_by l)).members
