-- The history of a partition, and that of each of its objects, is what one thread could have seen.
use Rattle.std.proofs.Common.{◌≡◌, ◌≢◌, ℕ, ◌≤◌, Bool, true, List, ◌∷◌, ◌++◌, map, filter, Contains, refl, sym, ap, ◌∙◌, subst, ⊎_elim, inl, append_assoc}
use Rattle.grid_base.specs.Objects.{Object}
use Rattle.grid_base.specs.declared.names.CallId.{CallId}
use Rattle.grid_base.specs.declared.names.ObjectKey.{ObjectKey}
use Rattle.grid_base.specs.declared.calls.Request.{Request}
use Rattle.object_store.specs.Records.{nothing_of}
use Rattle.object_store.specs.Partitions.{nothing_stored}
use Rattle.object_store.proofs.PartitionLaws.{record_at-nothing}
use Rattle.call_engine.specs.Objects.{one_object, partition_object}
use Rattle.hand_cell.specs.declared.outcome.LiveOutcome.{LiveOutcome}
use Rattle.hand_cell.specs.declared.outcome.LiveOutcome.TheVariants as live
use Rattle.partition_protocol.specs.Arrivals.{Asked, NamedOnce, name, calls_in}
use Rattle.partition_protocol.specs.Claims.{IsSafe, IsFaithful, is_reset}
use Rattle.partition_protocol.specs.Execution.{Reached, PartitionLost as IsLost, WrongTarget as IsElsewhere, Migrating as IsFrozen}
use Rattle.partition_protocol.specs.History.{Entry, Executed, Called, IsLegal}
use Rattle.partition_protocol.specs.HistorySizes.{asked_of}
use Rattle.partition_protocol.specs.Sequences.{IsFrontOf}
use Rattle.partition_protocol.specs.World.{World as Machine, trail}
use Rattle.partition_protocol.proofs.Faithful.{part_in, part_itself}
use Rattle.partition_protocol.proofs.Lists.{In, in_left, in_cases, in_contains, contains_in, IsPart}
use Rattle.partition_protocol.proofs.RowFacts.{in_map}
use Rattle.partition_protocol.proofs.Theorem.{every_run_is_safe}
use Rattle.partition_world.specs.Answers.{id_of}
use Rattle.partition_world.specs.Events.{event_of}
use Rattle.partition_world.specs.declared.event.Event.{Event}
use Rattle.partition_world.specs.declared.event.Event.TheVariants as event
use Rattle.live_grid.specs.declared.plan.GridPlan.{GridPlan}
use Rattle.live_grid.specs.Plans.{settings_for}
use Rattle.live_grid.specs.Histories.{cells}
use Rattle.live_grid.specs.Outcomes.{name_of, IsRepliedIn, IsRefusedIn, LiveTells}
use Rattle.live_history_laws.specs.Entries.{StandsBefore, CameIn, HasReply, HasEntry, StandsNowhere, asks_of, is_of, object_trail, trail_of}
use Rattle.live_history_laws.specs.Fitting.{Fits, IsSplit, StandsAs}
use Rattle.live_history_laws.specs.Names.{AreNamedOnce}
use Rattle.live_history_laws.specs.Reopenings.{resets_in}
use Rattle.live_history_laws.proofs.Arrivals.{arrived, arrived_append, asked_in, call_arrives}
use Rattle.live_history_laws.proofs.Elements.{in_filter, in_filtered, subsequence_part, part_filter, part_trans, Parted, parted, before_part, before_append, named_same, named_append, named_right, entry_name, one_entry, entries_apart, apart_in_two}
use Rattle.live_history_laws.proofs.Locality.{legal_on, resets_on}
use Rattle.live_history_laws.proofs.Released.{object, longer, still_replied, logged_arrives, logged_came, late_came, without_refused}
use Rattle.live_history_laws.proofs.Resets.{log_resets, resets_of_front, same_resets}

-- an entry by what arrived of it
abbrev entry_of : Asked Request → ℕ → ℕ → List ℕ → Executed Request
entry_of a version seen reply = record { conn = a.conn; number = a.number; version = version; seen = seen; now = a.now; call = a.call; reply = reply }

abbrev AreOnce : List (Entry Request) → Type 0
AreOnce es = NamedOnce (map name (calls_in es))

-- a name that arrived beside a call of a history isn't the call's
not_again : (before after : List (Event Request)) (member : ℕ) (id : CallId) (request : Request) (now : ℕ) (a : Asked Request)
    → AreNamedOnce (before ++ event.Call member id request now ∷ after) → In a (arrived (before ++ after)) → name a ≢ name_of id
not_again before after member id request now a once i same = ⊎_elim earlier later (in_cases a (arrived before) (arrived after) (subst (λ xs. In a xs) (arrived_append before after) i))
  where
    split : NamedOnce (map name (arrived before ++ asked_in id request now ∷ arrived after))
    split = subst (λ xs. NamedOnce (map name xs)) (arrived_append before (event.Call member id request now ∷ after)) once

    earlier : In a (arrived before) → ⊥
    earlier j = named_append name (arrived before) (asked_in id request now ∷ arrived after) a (asked_in id request now) split j (inl refl) same

    later : In a (arrived after) → ⊥
    later j =
        let right = named_right name (arrived before) (asked_in id request now ∷ arrived after) split in
        right.0 (name a) (contains_in (name a) (map name (arrived after)) (in_map name (arrived after) a j)) same

module _ (plan : GridPlan) (history : List (Event Request)) (some : 1 ≤ plan.members) (once : AreNamedOnce history) where
  abbrev w : Machine Request
  w = cells plan history

  abbrev log : List (Entry Request)
  log = w.recorded.log

  safe : IsSafe (object plan) w × IsFaithful (map event_of history) w
  safe = every_run_is_safe (object plan) plan.partition plan.members plan.backups (map event_of history) some once

  pub legal : IsLegal (partition_object (settings_for plan)) nothing_stored (trail_of plan history)
  legal = safe.0.legal

  trail_part : IsPart (trail w) log
  trail_part = subsequence_part (trail w) log safe.0.in_order

  logged : (x : Executed Request) → In (Called x) (trail w) → In (Called x) log
  logged x i = part_in (trail w) log (Called x) trail_part i

  -- a call that was replied to stands in the partition's history
  pub entered : (id : CallId) (reply : List ℕ) → IsRepliedIn plan history id reply → HasReply (trail_of plan history) id reply
  entered id reply is =
      let call = is.released.call in
      let stands = safe.0.answered _ is.released.released in
      let first : stands.0.conn ≡ is.answer.id.conn = stands.2 in
      let second : stands.0.number ≡ is.answer.id.number = stands.3 in
      let named : entry_name stands.0 ≡ entry_name call = ap (λ n. record { conn = n; number = stands.0.number }) first ∙ ap (λ n. record { conn = is.answer.id.conn; number = n }) second ∙ ap name_of is.released.id in
      let there = in_contains (Called stands.0) (trail w) stands.1 in
      let same : stands.0 ≡ call = one_entry log stands.0 call safe.1.once (logged stands.0 there) (in_contains (Called call) log is.released.executed) named in record {
        call = call;
        there = subst (λ (x : Executed Request). Contains (trail w) (Called x)) same stands.1;
        named = sym is.released.id ∙ is.named;
        reply_is = sym is.released.reply ∙ is.reply_is;
      }

  -- some of its entries, with all calls that an object takes
  module _ {State : Type 0} (o : Object Request State) (takes : Request → Bool) (h : List (Entry Request)) (part : IsPart h (trail w))
      (taken : (x : Executed Request) → In (Called x) h → takes x.call ≡ true) (all : (x : Executed Request) → In (Called x) (trail w) → takes x.call ≡ true → In (Called x) h) where
    in_log : (x : Executed Request) → Contains h (Called x) → In (Called x) log
    in_log x c = logged x (part_in h (trail w) (Called x) part (in_contains (Called x) h c))

    before_in_log : (x y : Executed Request) → StandsBefore h (Called x) (Called y) → StandsBefore log (Called x) (Called y)
    before_in_log x y b = before_part h log (Called x) (Called y) (part_trans h (trail w) log part trail_part) b

    came : (x : Executed Request) → Contains h (Called x) → (takes x.call ≡ true) × CameIn history x
    came x c = (taken x (in_contains (Called x) h c), logged_came plan history x (in_log x c))

    apart : (x y : Executed Request) → StandsBefore h (Called x) (Called y) → id_of x ≢ id_of y
    apart x y b e = entries_apart log x y safe.1.once (before_in_log x y b) (ap name_of e)

    -- of a call of the history that was replied to
    entry_there : (id : CallId) (request : Request) (now : ℕ) (reply : List ℕ) → In (asked_in id request now) (arrived history) → takes request ≡ true → HasReply (trail w) id reply → HasEntry h id request now reply
    entry_there id request now reply i takes_it is =
        let x = is.call in
        let there = in_contains (Called x) (trail w) is.there in
        let same : asked_of x ≡ asked_in id request now = named_same name (arrived history) (asked_of x) (asked_in id request now) once (logged_arrives plan history x (logged x there)) i (ap name_of is.named) in
        let whole : x ≡ entry_of (asked_in id request now) x.version x.seen reply = ap (λ a. entry_of a x.version x.seen x.reply) same ∙ ap (entry_of (asked_in id request now) x.version x.seen) is.reply_is in record {
          version = x.version;
          seen = x.seen;
          there = subst (λ (y : Executed Request). Contains h (Called y)) whole (contains_in (Called x) h (all x there (ap (λ (a : Asked Request). takes a.call) same ∙ takes_it)));
        }

    answered : (before after : List (Event Request)) (member : ℕ) (id : CallId) (request : Request) (now : ℕ) (reply : List ℕ) → history ≡ before ++ after
        → Contains before (event.Call member id request now) → takes request ≡ true → IsRepliedIn plan before id reply → HasEntry h id request now reply
    answered before after member id request now reply whole c takes_it is =
        let e = event.Call member id request now in
        let there = subst (λ hs. In e hs) (sym whole) (in_left e before after (in_contains e before c)) in
        entry_there id request now reply (call_arrives history member id request now there) takes_it
        (entered id reply (subst (λ hs. IsRepliedIn plan hs id reply) (sym whole) (still_replied plan before after id reply is)))

    unrefused : (before after : List (Event Request)) (member : ℕ) (id : CallId) (request : Request) (now : ℕ) (why : Reached) → history ≡ before ++ after
        → IsRefusedIn plan before (event.Call member id request now) why → StandsNowhere h id
    unrefused before after member id request now why whole is x c same =
        let e = event.Call member id request now in
        let all_of_it : history ≡ is.before ++ e ∷ (is.after ++ after) = whole ∙ (ap (λ hs. hs ++ after) is.whole ∙ append_assoc is.before (e ∷ is.after) after) in
        let kept = ap (cells plan) all_of_it ∙ without_refused plan is.before (is.after ++ after) member id request now why is.outcome in
        let there = subst (λ (u : Machine Request). In (Called x) u.recorded.log) kept (in_log x c) in
        not_again is.before (is.after ++ after) member id request now (asked_of x) (subst AreNamedOnce all_of_it once) (logged_arrives plan (is.before ++ (is.after ++ after)) x there) (ap name_of same)

    told : (before after : List (Event Request)) (member : ℕ) (id : CallId) (request : Request) (now : ℕ) (outcome : LiveOutcome) → history ≡ before ++ after
        → Contains before (event.Call member id request now) → takes request ≡ true → LiveTells plan before (event.Call member id request now) outcome → StandsAs h id request now outcome
    told before after member id request now (live.Replied reply) whole c takes_it is = answered before after member id request now reply whole c takes_it is
    told before after member id request now (live.PartitionLost version) whole c takes_it is = unrefused before after member id request now (IsLost version) whole is
    told before after member id request now (live.WrongTarget version) whole c takes_it is = unrefused before after member id request now (IsElsewhere version) whole is
    told before after member id request now (live.Migrating version) whole c takes_it is = unrefused before after member id request now (IsFrozen version) whole is
    told before after member id request now live.MemberGone whole c takes_it is = tt
    told before after member id request now live.Exhausted whole c takes_it is = absurd is
    told before after member id request now live.Memory whole c takes_it is = absurd is

    -- the log at a moment, and since

    abbrev more : (before after : List (Event Request)) → IsFrontOf (cells plan before).recorded.log (cells plan (before ++ after)).recorded.log
    more before after = (longer plan before after).0

    log_is : (before after : List (Event Request)) → history ≡ before ++ after → log ≡ (cells plan before).recorded.log ++ (more before after).0
    log_is before after whole = ap (λ hs. (cells plan hs).recorded.log) whole ∙ sym (more before after).1

    ordered : (before after : List (Event Request)) (x y : Executed Request) (reply : List ℕ) → history ≡ before ++ after
        → IsRepliedIn plan before (id_of y) reply → StandsBefore h (Called x) (Called y) → CameIn before x
    ordered before after x y reply whole is b =
        ⊎_elim (λ i. logged_came plan before x i) (λ j. absurd (later j)) (before_append early rest (Called x) (Called y) (subst (λ es. StandsBefore es (Called x) (Called y)) (log_is before after whole) (before_in_log x y b)))
      where
        early : List (Entry Request)
        early = (cells plan before).recorded.log

        rest : List (Entry Request)
        rest = (more before after).0

        later : In (Called y) rest → ⊥
        later j =
            apart_in_two early rest is.released.call y (subst AreOnce (log_is before after whole) safe.1.once) (in_contains (Called is.released.call) early is.released.executed) j
            (ap name_of (sym is.released.id ∙ is.named))

    -- what came by a moment, and what came later
    split : resets_in h ≡ resets_in log → (before after : List (Event Request)) → history ≡ before ++ after → IsSplit plan before after h
    split resets before after whole = record {
      early = two.early;
      late = two.late;
      whole = two.whole;
      came_early = λ x c. logged_came plan before x (part_in two.early early (Called x) two.first (in_contains (Called x) two.early c));
      came_late = λ x c. late_came plan before after rest x (more before after).1 (subst AreOnce (log_is before after whole) safe.1.once) (part_in two.late rest (Called x) two.second (in_contains (Called x) two.late c));
      reopened_early = resets_of_front two.early two.late early rest two.first two.second (sym (ap resets_in two.whole) ∙ (resets ∙ ap resets_in (log_is before after whole))) ∙ log_resets plan before;
    }
      where
        early : List (Entry Request)
        early = (cells plan before).recorded.log

        rest : List (Entry Request)
        rest = (more before after).0

        two : Parted h early rest
        two = parted h early rest (subst (λ es. IsPart h es) (log_is before after whole) (part_trans h (trail w) log part trail_part))

    pub fits : IsLegal o o.empty h → filter is_reset h ≡ filter is_reset (trail w) → Fits o takes plan history h
    fits legal resets = record {
      legal = legal;
      came = came;
      once = apart;
      told = told;
      ordered = ordered;
      split = split (same_resets h log (resets ∙ safe.0.resets));
      resets = same_resets h log (resets ∙ safe.0.resets) ∙ log_resets plan history;
    }

  pub partition_fits : Fits (partition_object (settings_for plan)) (λ request. true) plan history (trail_of plan history)
  partition_fits = fits (partition_object (settings_for plan)) (λ request. true) (trail w) (part_itself (trail w)) (λ x i. refl) (λ x i e. i) legal refl

  pub object_fits : (key : ObjectKey) → Fits (one_object (settings_for plan) key) (asks_of key) plan history (object_trail plan history key)
  object_fits key =
      fits (one_object (settings_for plan) key) (asks_of key) (object_trail plan history key) (part_filter (is_of key) (trail w)) (λ x i. (in_filtered (is_of key) (trail w) (Called x) i).1)
      (λ x i e. in_filter (is_of key) (trail w) (Called x) i e)
      (legal_on (settings_for plan) key nothing_stored (nothing_of key) (trail w) (record_at-nothing key) legal) (resets_on (settings_for plan) key (trail w))
