-- Every value that a partition keeps fits a frame, where the calls that made it did; so a get's reply is that of a value that fits.
use Rattle.std.proofs.Common.{◌≡◌, ℕ, ◌≤◌, ◌<◌, ◌^◌, Bool, true, false, List, [], ◌∷◌, ◌++◌, length, Option, Some, None, IfSome, All, refl, sym, subst, ⊎_elim, append_assoc, length-append, arith}
use Rattle.std.specs.Prelude.{is_some, if◌then◌else◌}
use Rattle.std.specs.Option.{option_map}
use Rattle.std.proofs.lemmas.List.Elements.{All-head, All-tail}
use Rattle.grid_base.specs.Limits.{FitsFrame, most_bytes, values_in, CallFits}
use Rattle.grid_base.specs.Names.{object_of, is_same}
use Rattle.grid_base.specs.Objects.{Object}
use Rattle.grid_base.specs.declared.names.ObjectKey.{ObjectKey}
use Rattle.grid_base.specs.declared.names.ObjectKey.TheVariants as object
use Rattle.grid_base.specs.declared.calls.Answer.TheVariants.{KeyLocked}
use Rattle.grid_base.specs.declared.names.Owner.{Owner}
use Rattle.grid_base.specs.declared.calls.GridCall.{GridCall}
use Rattle.grid_base.specs.declared.calls.GridCall.TheVariants as call
use Rattle.grid_base.specs.declared.calls.MapCall.{MapCall}
use Rattle.grid_base.specs.declared.calls.MapCall.TheVariants.{Put, Set, PutIfAbsent, Get, ContainsKey, Remove, Delete, Replace, ReplaceIfSame, RemoveIfSame, TryLock, Unlock, IsLocked, ForceUnlock, ExecuteOnKey, PutMaxIdle, SetMaxIdle}
use Rattle.grid_base.specs.declared.calls.Request.{Request}
use Rattle.entry_processors.specs.Places.{item_at}
use Rattle.entry_processors.specs.Processors.{ProcessorForm, outcome}
use Rattle.entry_processors.proofs.Outcomes.{stays_within}
use Rattle.key_locks.specs.Locks.{may_write}
use Rattle.map_records.specs.declared.records.MapRecord.{MapRecord}
use Rattle.map_records.specs.MapEntries.{is_expired, cleaned, without_value, with_value, replaced, is_value}
use Rattle.map_records.specs.MapTable.{Done, row, processed, writer, unless_locked, done}
use Rattle.object_store.specs.Records.{Record, nothing_of, entry_in, suits}
use Rattle.object_store.specs.Partitions.{Partition, nothing_stored, record_at, with_record}
use Rattle.object_store.proofs.PartitionLaws.{same_name, record_at-nothing, record_at-with, record_at-other}
use Rattle.call_engine.specs.Calls.{Settings, after}
use Rattle.call_engine.specs.Objects.{target_of, partition_object}
use Rattle.partition_protocol.specs.History.{Executed, Called}
use Rattle.partition_protocol.specs.World.{World, start, pair_state}
use Rattle.partition_protocol.specs.Events.{Event, happens, run}
use Rattle.partition_protocol.proofs.Extends.{run_append}
use Rattle.partition_protocol.proofs.Lists.{In, cases}
use Rattle.partition_world.specs.Events.{EventWithin}
use Rattle.partition_world.proofs.SmallStates.{state_small}
use Rattle.message_frames.proofs.HeardPieces.{all_front}
use Rattle.near_run_laws.proofs.Changes.{IsNewCall, logged_or_new}

-- ---- entries

abbrev pub ValueFits : MapRecord → Type 0
ValueFits entry = IfSome entry.value FitsFrame

either : (test : Bool) (first second : MapRecord) → ValueFits first → ValueFits second → ValueFits (if test then first else second)
either true first second h k = h
either false first second h k = k

pub clean_fits : (entry : MapRecord) (now : ℕ) → ValueFits entry → ValueFits (cleaned entry now)
clean_fits entry now h = go (is_expired entry now)
  where
    go : (b : Bool) → IfSome (if b then without_value entry else entry).value FitsFrame
    go true = tt
    go false = h

in_place : (old : Option (List ℕ)) (value : List ℕ) → FitsFrame value → IfSome (option_map (λ before. value) old) FitsFrame
in_place None value fits = tt
in_place (Some old) value fits = fits

one : (value : List ℕ) (more : List (List ℕ)) → All FitsFrame (value ∷ more) → FitsFrame value
one value more all = All-head FitsFrame value more all

two : (first second : List ℕ) → All FitsFrame (first ∷ second ∷ []) → FitsFrame second
two first second all = All-head FitsFrame second [] (All-tail FitsFrame first (second ∷ []) all)

outcome_fits : (entry : MapRecord) (value : Option (List ℕ)) (was : Bool) → IfSome value FitsFrame → IfSome (elim value as (λ _. MapRecord) [ None ↦ without_value entry | Some v ↦ if was then replaced entry v else with_value entry v None None ]).value FitsFrame
outcome_fits entry None was fits = tt
outcome_fits entry (Some value) true fits = in_place entry.value value fits
outcome_fits entry (Some value) false fits = fits

processed_fits : (entry : MapRecord) (form : Option ProcessorForm) (argument : List ℕ) (now : ℕ) → ValueFits entry → ValueFits (processed entry (option_map (λ rule. outcome rule entry.value argument) form) now).1
processed_fits entry None argument now h = h
processed_fits entry (Some form) argument now h = left (outcome form entry.value argument).value (stays_within form most_bytes entry.value argument (omega arith) h).0
  where
    left : (value : Option (List ℕ)) → IfSome value FitsFrame → ValueFits (processed entry (Some (record { answer = (outcome form entry.value argument).answer; value = value })) now).1
    left None fits = tt
    left (Some value) fits = either (is_some entry.value) (replaced entry value) (with_value entry value None None) (in_place entry.value value fits) fits

row_fits : (forms : List ProcessorForm) (entry : MapRecord) (c : MapCall) (now : ℕ) → All FitsFrame (values_in c) → ValueFits entry → ValueFits (row forms entry c now).1
row_fits forms entry (Put name key owner value ttl) now fits h = one value [] fits
row_fits forms entry (Set name key owner value ttl) now fits h = one value [] fits
row_fits forms entry (PutMaxIdle name key owner value ttl idle) now fits h = one value [] fits
row_fits forms entry (SetMaxIdle name key owner value ttl idle) now fits h = one value [] fits
row_fits forms entry (PutIfAbsent name key owner value ttl) now fits h = either (is_some entry.value) entry _ h (one value [] fits)
row_fits forms entry (Get name key owner) now fits h = h
row_fits forms entry (ContainsKey name key owner) now fits h = h
row_fits forms entry (Remove name key owner) now fits h = tt
row_fits forms entry (Delete name key owner) now fits h = tt
row_fits forms entry (Replace name key owner value) now fits h = in_place entry.value value (one value [] fits)
row_fits forms entry (ReplaceIfSame name key owner test value) now fits h = either (is_value entry.value test) (replaced entry value) entry (in_place entry.value value (two test value fits)) h
row_fits forms entry (RemoveIfSame name key owner test) now fits h = either (is_value entry.value test) (without_value entry) entry tt h
row_fits forms entry (TryLock name key owner lease) now fits h = h
row_fits forms entry (Unlock name key owner) now fits h = h
row_fits forms entry (IsLocked name key) now fits h = h
row_fits forms entry (ForceUnlock name key) now fits h = h
row_fits forms entry (ExecuteOnKey name key owner number argument) now fits h = processed_fits entry (item_at forms number) argument now h

unless_fits : (owner : Option Owner) (entry : MapRecord) (made : Done) → ValueFits entry → ValueFits made.1 → ValueFits (unless_locked owner entry made).1
unless_fits None entry made h k = k
unless_fits (Some owner) entry made h k = go (may_write entry.lock owner)
  where
    go : (may : Bool) → ValueFits (if may then made else (KeyLocked, entry)).1
    go true = k
    go false = h

done_fits : (forms : List ProcessorForm) (entry : MapRecord) (c : MapCall) (now : ℕ) → All FitsFrame (values_in c) → ValueFits entry → ValueFits (done forms entry c now).1
done_fits forms entry c now fits h =
    let clean = clean_fits entry now h in
    unless_fits (writer forms c) (cleaned entry now) (row forms (cleaned entry now) c now) clean (row_fits forms (cleaned entry now) c now fits clean)

-- ---- partitions

abbrev pub ValuesFit : Partition → Type 0
ValuesFit s = (name : ObjectKey) → ValueFits (entry_in (record_at s name))

nothing_fits : (name : ObjectKey) → ValueFits (entry_in (nothing_of name))
nothing_fits (object.Entry map key) = tt
nothing_fits (object.Queue name) = tt

after_fits : (settings : Settings) (kept : Record) (c : GridCall) (now : ℕ) → CallFits c → ValueFits (entry_in kept) → ValueFits (entry_in (after settings kept c now))
after_fits settings kept (call.Map c) now fits h = done_fits settings.forms (entry_in kept) c now fits.2 h
after_fits settings kept (call.Queue c) now fits h = tt

after-suits : (settings : Settings) (kept : Record) (c : GridCall) (now : ℕ) → suits (object_of c) (after settings kept c now) ≡ true
after-suits settings kept (call.Map c) now = refl
after-suits settings kept (call.Queue c) now = refl

module _ (settings : Settings) where
  abbrev o : Object Request Partition
  o = partition_object settings

  -- what calls that fit leave
  abbrev Limits : Request → Type 0
  Limits request = CallFits request.call

  begins : ValuesFit nothing_stored
  begins name = subst (λ kept. ValueFits (entry_in kept)) (sym (record_at-nothing name)) (nothing_fits name)

  grows : (s : Partition) (request : Request) (now : ℕ) → CallFits request.call → ValuesFit s → ValuesFit ((partition_object settings).after s request now)
  grows s request now fits h name = ⊎_elim same other (cases (is_same name (target_of request)))
    where
      kept : Record
      kept = after settings (record_at s (target_of request)) request.call now

      same : is_same name (target_of request) ≡ true → ValueFits (entry_in (record_at (with_record s (target_of request) kept) name))
      same e = subst (λ n. ValueFits (entry_in (record_at (with_record s (target_of request) kept) n))) (sym (same_name name (target_of request) e))
          (subst (λ k. ValueFits (entry_in k)) (sym (record_at-with s (target_of request) kept (after-suits settings (record_at s (target_of request)) request.call now)))
          (after_fits settings (record_at s (target_of request)) request.call now fits (h (target_of request))))

      other : is_same name (target_of request) ≡ false → ValueFits (entry_in (record_at (with_record s (target_of request) kept) name))
      other e = subst (λ k. ValueFits (entry_in k)) (sym (record_at-other s (target_of request) kept name e)) (h name)

  -- ---- replies

  -- a call was answered as in a state whose values fit
  abbrev pub IsRepliedTo : Executed Request → Type 0
  IsRepliedTo x = (s : Partition) × ValuesFit s × (x.reply ≡ (partition_object settings).reply s x.call x.now)

  abbrev AreReplied : World Request → Type 0
  AreReplied w = (x : Executed Request) → In (Called x) w.recorded.log → IsRepliedTo x

  module _ (p members backups : ℕ) (some : 1 ≤ members) where
    abbrev world_of : List (Event Request) → World Request
    world_of events = run (partition_object settings) (start p members backups) events

    replied : (past events : List (Event Request)) → length (past ++ events) < 2 ^ 32 → All (EventWithin (λ (request : Request). CallFits request.call)) (past ++ events) → AreReplied (world_of past) → AreReplied (run (partition_object settings) (world_of past) events)
    replied past [] few kept h = h
    replied past (e ∷ events) few kept h =
        let more : (past ++ e ∷ []) ++ events ≡ past ++ e ∷ events = append_assoc past (e ∷ []) events in
        let next : world_of (past ++ e ∷ []) ≡ (happens (partition_object settings) (world_of past) e).world = run_append (partition_object settings) (start p members backups) past (e ∷ []) in
        subst (λ w. AreReplied (run (partition_object settings) w events)) next
        (replied (past ++ e ∷ []) events (subst (λ es. length es < 2 ^ 32) (sym more) few) (subst (All (EventWithin (λ (request : Request). CallFits request.call))) (sym more) kept) (subst AreReplied (sym next) one_more))
      where
        small : length past < 2 ^ 32
        small = let whole = length-append past (e ∷ events) in omega (arith, whole, few)

        one_more : AreReplied (happens (partition_object settings) (world_of past) e).world
        one_more x i = ⊎_elim (h x) new (logged_or_new (partition_object settings) (world_of past) e x i)
          where
            new : IsNewCall (partition_object settings) (world_of past) e x → IsRepliedTo x
            new k =
                let made = (state_small (partition_object settings) (λ (request : Request). CallFits request.call) (λ n s. ValuesFit s) begins (λ n s c now fits w. grows s c now fits w) (λ m n s l w. w)
                p members backups past some small (all_front (EventWithin (λ (request : Request). CallFits request.call)) past (e ∷ events) kept) k.node.pair).made in
                subst IsRepliedTo k.entry (pair_state (partition_object settings) (world_of past) k.node.pair, made, refl)

    -- of every run of a partition
    pub every_call_is_replied : (events : List (Event Request)) → length events < 2 ^ 32 → All (EventWithin (λ (request : Request). CallFits request.call)) events → (x : Executed Request) → In (Called x) (world_of events).recorded.log → IsRepliedTo x
    every_call_is_replied events few kept = replied [] events few kept (λ x i. absurd i)
