-- A call is read from the messages that spell it.
use Rattle.std.proofs.Common.{◌≡◌, ℕ, ◌+◌, ◌^◌, ◌<◌, ℤ, List, [], ◌∷◌, ◌++◌, length, drop, All, Option, Some, None, Ok, lit<, length-append, refl, sym, ap, subst, ◌∙◌, append_assoc}
use Rattle.std.specs.Prelude.{IfSome}
use Rattle.std.specs.Option.{ok_or}
use Rattle.std.specs.Str.{IsUtf8}
use Rattle.std.specs.Int.{w32, w64, to_le_bytes}
use Rattle.std.specs.Int.RustNames.{FitsSigned}
use Rattle.std.proofs.lemmas.Bool.{le-leb}
use Rattle.grid_base.specs.Names.{map_of, key_of}
use Rattle.grid_base.specs.declared.names.ClientKey.{ClientKey}
use Rattle.grid_base.specs.declared.names.Owner.{Owner}
use Rattle.grid_base.specs.declared.calls.MapCall.{MapCall}
use Rattle.grid_base.specs.declared.calls.MapCall.TheVariants.{Put, Set, PutIfAbsent, Get, ContainsKey, Remove, Delete, Replace, ReplaceIfSame, RemoveIfSame, TryLock, Unlock, IsLocked, ForceUnlock, ExecuteOnKey, PutMaxIdle, SetMaxIdle}
use Rattle.grid_base.specs.declared.refusal.CallRefused.TheVariants.{BadCall}
use Rattle.frame_codec.specs.declared.frames.Frame.{Frame}
use Rattle.fixed_fields.specs.Fields.{int32_bytes, int64_at, int64_bytes}
use Rattle.fixed_fields.specs.Requests.{kind_of, data_in, text_in, reader_of, reader_in}
use Rattle.fixed_fields.specs.Spelled.{HoldParts}
use Rattle.fixed_fields.proofs.Parts.{first_held, data_held, text_held, sent_held}
use Rattle.fixed_fields.proofs.Written.{int32_read, kind_read}
use Rattle.message_frames.specs.Assembly.{first_payload}
use Rattle.message_frames.specs.declared.message.Message.{Message}
use Rattle.map_codecs.specs.Calls.{Reader, owner_in, key_in, processor_in, bare_in, keyed_in, leased_in, valued_in, compared_in, stored_in, idle_in, executed_in, map_calls, call_by, map_call_of}
use Rattle.map_codecs.specs.SpelledCalls.{IsKey, IsCallOf, kind_of_call, caller_of, numbers_of, parts_of, call_fields, Spells, call_message}
use Rattle.map_codecs.proofs.Numbers.{spelled, StandAt, stand_at}

-- ---- the parts

owner_is : (client : ClientKey) (payload : List ℕ) (owner : Owner) → owner.client ≡ client → int64_at payload 16 ≡ Some owner.thread → owner_in client payload ≡ Some owner
owner_is client payload owner whose e =
    let same : record { client = client; thread = owner.thread } ≡ owner = ap {B = Owner} (λ c. record { client = c; thread = owner.thread }) (sym whose) in
    rw e (ap Some same)

key_is : (frames : List Frame) (key : List ℕ) → IsKey key → data_in frames ≡ Some key → key_in frames ≡ Some key
key_is frames key h e = let long = le-leb 8 (length key) h in rw (e, long) refl

processor_is : (frames : List Frame) (number : ℤ) (argument : List ℕ) → FitsSigned w32 number → data_in frames ≡ Some (int32_bytes number ++ argument) → processor_in frames ≡ Some (record { number = number; argument = argument })
processor_is frames number argument fits e = let read = int32_read [] argument number fits in rw (e, read) refl

-- what a message says of a call, but for its type
pub record IsSaid (client : ClientKey) (payload : List ℕ) (frames : List Frame) (name key : List ℕ) (caller : Option Owner) (numbers : List ℤ) (parts : List (List ℕ)) : Type 0 where
  pub text : IsUtf8 name
  pub long : IsKey key
  pub whose : IfSome caller (λ owner. owner.client ≡ client)
  pub stand : StandAt payload 16 numbers
  pub held : HoldParts frames parts

-- ---- calls of one shape

module _ (client : ClientKey) (payload : List ℕ) (frames : List Frame) where
  abbrev Said : List ℕ → List ℕ → Option Owner → List ℤ → List (List ℕ) → Type 0
  Said = IsSaid client payload frames

  -- the name and the key, where they come first
  record IsNamed (name key : List ℕ) (values : List (List ℕ)) : Type 0 where
    first : text_in frames ≡ Some name
    second : key_in (drop 1 frames) ≡ Some key
    others : HoldParts (drop 1 (drop 1 frames)) values

  named : (name key : List ℕ) (values : List (List ℕ)) (caller : Option Owner) (numbers : List ℤ) → Said name key caller numbers (name ∷ key ∷ values) → IsNamed name key values
  named name key values caller numbers s =
      let first = first_held frames name (key ∷ values) s.held in
      let second = first_held (drop 1 frames) key values first.1 in
      record { first = text_held frames name first.0 s.text; second = key_is (drop 1 frames) key s.long (data_held (drop 1 frames) key second.0); others = second.1 }

  bare_again : (make : List ℕ → List ℕ → MapCall) (name key : List ℕ) → Said name key None [] (name ∷ key ∷ []) → bare_in make client payload frames ≡ Some (make name key)
  bare_again make name key s =
      let it = named name key [] None [] s in
      rw (it.first, it.second) refl

  keyed_again : (make : List ℕ → List ℕ → Owner → MapCall) (name key : List ℕ) (owner : Owner) → Said name key (Some owner) (owner.thread ∷ []) (name ∷ key ∷ []) → keyed_in make client payload frames ≡ Some (make name key owner)
  keyed_again make name key owner s =
      let it = named name key [] (Some owner) (owner.thread ∷ []) s in
      let o = owner_is client payload owner s.whose s.stand.0 in
      rw (o, it.first, it.second) refl

  pub leased_again : (make : List ℕ → List ℕ → Owner → ℤ → MapCall) (name key : List ℕ) (owner : Owner) (lease : ℤ) → Said name key (Some owner) (owner.thread ∷ lease ∷ []) (name ∷ key ∷ [])
      → leased_in make client payload frames ≡ Some (make name key owner lease)
  leased_again make name key owner lease s =
      let it = named name key [] (Some owner) (owner.thread ∷ lease ∷ []) s in
      let o = owner_is client payload owner s.whose s.stand.0 in
      rw (o, s.stand.1.0, it.first, it.second) refl

  valued_again : (make : List ℕ → List ℕ → Owner → List ℕ → MapCall) (name key : List ℕ) (owner : Owner) (value : List ℕ) → Said name key (Some owner) (owner.thread ∷ []) (name ∷ key ∷ value ∷ [])
      → valued_in make client payload frames ≡ Some (make name key owner value)
  valued_again make name key owner value s =
      let it = named name key (value ∷ []) (Some owner) (owner.thread ∷ []) s in
      let o = owner_is client payload owner s.whose s.stand.0 in
      let third = first_held (drop 1 (drop 1 frames)) value [] it.others in
      let v = data_held (drop 1 (drop 1 frames)) value third.0 in
      rw (o, it.first, it.second, v) refl

  compared_again : (make : List ℕ → List ℕ → Owner → List ℕ → List ℕ → MapCall) (name key : List ℕ) (owner : Owner) (test value : List ℕ) → Said name key (Some owner) (owner.thread ∷ []) (name ∷ key ∷ test ∷ value ∷ [])
      → compared_in make client payload frames ≡ Some (make name key owner test value)
  compared_again make name key owner test value s =
      let later : List Frame = drop 1 (drop 1 frames) in
      let it = named name key (test ∷ value ∷ []) (Some owner) (owner.thread ∷ []) s in
      let o = owner_is client payload owner s.whose s.stand.0 in
      let third = first_held later test (value ∷ []) it.others in
      let fourth = first_held (drop 1 later) value [] third.1 in
      let t = data_held later test third.0 in
      let v = data_held (drop 1 later) value fourth.0 in
      rw (o, it.first, it.second, t, v) refl

  pub stored_again : (make : List ℕ → List ℕ → Owner → List ℕ → ℤ → MapCall) (name key : List ℕ) (owner : Owner) (value : List ℕ) (ttl : ℤ) → Said name key (Some owner) (owner.thread ∷ ttl ∷ []) (name ∷ key ∷ value ∷ [])
      → stored_in make client payload frames ≡ Some (make name key owner value ttl)
  stored_again make name key owner value ttl s =
      let it = named name key (value ∷ []) (Some owner) (owner.thread ∷ ttl ∷ []) s in
      let o = owner_is client payload owner s.whose s.stand.0 in
      let third = first_held (drop 1 (drop 1 frames)) value [] it.others in
      let v = data_held (drop 1 (drop 1 frames)) value third.0 in
      rw (o, s.stand.1.0, it.first, it.second, v) refl

  idle_again : (make : List ℕ → List ℕ → Owner → List ℕ → ℤ → ℤ → MapCall) (name key : List ℕ) (owner : Owner) (value : List ℕ) (ttl idle : ℤ) → Said name key (Some owner) (owner.thread ∷ ttl ∷ idle ∷ []) (name ∷ key ∷ value ∷ [])
      → idle_in make client payload frames ≡ Some (make name key owner value ttl idle)
  idle_again make name key owner value ttl idle s =
      let it = named name key (value ∷ []) (Some owner) (owner.thread ∷ ttl ∷ idle ∷ []) s in
      let o = owner_is client payload owner s.whose s.stand.0 in
      let third = first_held (drop 1 (drop 1 frames)) value [] it.others in
      let v = data_held (drop 1 (drop 1 frames)) value third.0 in
      rw (o, s.stand.1.0, s.stand.1.1.0, it.first, it.second, v) refl

  executed_again : (name key : List ℕ) (owner : Owner) (number : ℤ) (argument : List ℕ) → FitsSigned w32 number → Said name key (Some owner) (owner.thread ∷ []) (name ∷ (int32_bytes number ++ argument) ∷ key ∷ [])
      → executed_in client payload frames ≡ Some (ExecuteOnKey name key owner number argument)
  executed_again name key owner number argument fits s =
      let front : List ℕ = int32_bytes number ++ argument in
      let first = first_held frames name (front ∷ key ∷ []) s.held in
      let second = first_held (drop 1 frames) front (key ∷ []) first.1 in
      let third = first_held (drop 1 (drop 1 frames)) key [] second.1 in
      let o = owner_is client payload owner s.whose s.stand.0 in
      let n = text_held frames name first.0 s.text in
      let p = processor_is (drop 1 frames) number argument fits (data_held (drop 1 frames) front second.0) in
      let k = key_is (drop 1 (drop 1 frames)) key s.long (data_held (drop 1 (drop 1 frames)) key third.0) in
      rw (o, n, p, k) refl

-- ---- each call

-- what reads a call of its type
abbrev reader_for : MapCall → Reader
reader_for (Put name key owner value ttl) = stored_in Put
reader_for (Set name key owner value ttl) = stored_in Set
reader_for (PutIfAbsent name key owner value ttl) = stored_in PutIfAbsent
reader_for (Get name key owner) = keyed_in Get
reader_for (ContainsKey name key owner) = keyed_in ContainsKey
reader_for (Remove name key owner) = keyed_in Remove
reader_for (Delete name key owner) = keyed_in Delete
reader_for (Replace name key owner value) = valued_in Replace
reader_for (ReplaceIfSame name key owner test value) = compared_in ReplaceIfSame
reader_for (RemoveIfSame name key owner test) = valued_in RemoveIfSame
reader_for (TryLock name key owner lease) = leased_in TryLock
reader_for (Unlock name key owner) = keyed_in Unlock
reader_for (IsLocked name key) = bare_in IsLocked
reader_for (ForceUnlock name key) = bare_in ForceUnlock
reader_for (ExecuteOnKey name key owner number argument) = executed_in
reader_for (PutMaxIdle name key owner value ttl idle) = idle_in PutMaxIdle
reader_for (SetMaxIdle name key owner value ttl idle) = idle_in SetMaxIdle

-- its type is in the table, and a number of 31 bits
abbrev IsInTable : MapCall → Type 0
IsInTable call = (reader_of (kind_of_call call) map_calls ≡ Some (reader_for call)) × (kind_of_call call < 2 ^ 31)

in_table : (call : MapCall) → IsInTable call
in_table (Put name key owner value ttl) = (refl, lit< tt)
in_table (Set name key owner value ttl) = (refl, lit< tt)
in_table (PutIfAbsent name key owner value ttl) = (refl, lit< tt)
in_table (Get name key owner) = (refl, lit< tt)
in_table (ContainsKey name key owner) = (refl, lit< tt)
in_table (Remove name key owner) = (refl, lit< tt)
in_table (Delete name key owner) = (refl, lit< tt)
in_table (Replace name key owner value) = (refl, lit< tt)
in_table (ReplaceIfSame name key owner test value) = (refl, lit< tt)
in_table (RemoveIfSame name key owner test) = (refl, lit< tt)
in_table (TryLock name key owner lease) = (refl, lit< tt)
in_table (Unlock name key owner) = (refl, lit< tt)
in_table (IsLocked name key) = (refl, lit< tt)
in_table (ForceUnlock name key) = (refl, lit< tt)
in_table (ExecuteOnKey name key owner number argument) = (refl, lit< tt)
in_table (PutMaxIdle name key owner value ttl idle) = (refl, lit< tt)
in_table (SetMaxIdle name key owner value ttl idle) = (refl, lit< tt)

module _ (client : ClientKey) (payload : List ℕ) (frames : List Frame) where
  reader_again : (call : MapCall) → IsCallOf client call → IsSaid client payload frames (map_of call) (key_of call) (caller_of call) (numbers_of call) (parts_of call) → reader_for call client payload frames ≡ Some call
  reader_again (Put name key owner value ttl) h s = stored_again client payload frames Put name key owner value ttl s
  reader_again (Set name key owner value ttl) h s = stored_again client payload frames Set name key owner value ttl s
  reader_again (PutIfAbsent name key owner value ttl) h s = stored_again client payload frames PutIfAbsent name key owner value ttl s
  reader_again (Get name key owner) h s = keyed_again client payload frames Get name key owner s
  reader_again (ContainsKey name key owner) h s = keyed_again client payload frames ContainsKey name key owner s
  reader_again (Remove name key owner) h s = keyed_again client payload frames Remove name key owner s
  reader_again (Delete name key owner) h s = keyed_again client payload frames Delete name key owner s
  reader_again (Replace name key owner value) h s = valued_again client payload frames Replace name key owner value s
  reader_again (ReplaceIfSame name key owner test value) h s = compared_again client payload frames ReplaceIfSame name key owner test value s
  reader_again (RemoveIfSame name key owner test) h s = valued_again client payload frames RemoveIfSame name key owner test s
  reader_again (TryLock name key owner lease) h s = leased_again client payload frames TryLock name key owner lease s
  reader_again (Unlock name key owner) h s = keyed_again client payload frames Unlock name key owner s
  reader_again (IsLocked name key) h s = bare_again client payload frames IsLocked name key s
  reader_again (ForceUnlock name key) h s = bare_again client payload frames ForceUnlock name key s
  reader_again (ExecuteOnKey name key owner number argument) h s = executed_again client payload frames name key owner number argument h.processor s
  reader_again (PutMaxIdle name key owner value ttl idle) h s = idle_again client payload frames PutMaxIdle name key owner value ttl idle s
  reader_again (SetMaxIdle name key owner value ttl idle) h s = idle_again client payload frames SetMaxIdle name key owner value ttl idle s

-- ---- the message

-- the numbers stand where their fields do
pub numbers_stand : (kind : List ℕ) (between more : List ℕ) (numbers : List ℤ) → length kind ≡ 4 → length between ≡ 12 → All (FitsSigned w64) numbers → StandAt ((kind ++ between ++ spelled numbers) ++ more) 16 numbers
numbers_stand kind between more numbers four twelve fit =
    let front : List ℕ = kind ++ between in
    let size : length front ≡ 16 = length-append kind between ∙ (λ i. four i + twelve i) in
    subst (λ (at : ℕ). StandAt ((front ++ spelled numbers) ++ more) at numbers) size (stand_at front numbers more fit)

pub call_again : (client : ClientKey) (message : Message) (call : MapCall) → IsCallOf client call → Spells message call → map_call_of client message ≡ Ok call
unfolding map_call_of
call_again client message call h s =
    let payload : List ℕ = first_payload message.frames in
    let frames : List Frame = drop 1 message.frames in
    let kind : List ℕ = to_le_bytes w32 (kind_of_call call) in
    let table = in_table call in
    let typed : kind_of payload ≡ Some (kind_of_call call) =
    ap kind_of (s.fields ∙ append_assoc (kind ++ s.between) (call_fields call) s.more ∙ append_assoc kind s.between (call_fields call ++ s.more)) ∙ kind_read (kind_of_call call) (s.between ++ (call_fields call ++ s.more)) table.1
    in
    let stand : StandAt payload 16 (numbers_of call) = subst (λ (p : List ℕ). StandAt p 16 (numbers_of call)) (sym s.fields) (numbers_stand kind s.between s.more (numbers_of call) refl s.twelve h.numbers) in
    let read = reader_again client payload frames call h (record { text = h.name; long = h.key; whose = h.caller; stand = stand; held = s.parts }) in
    ap (λ (k : Option ℕ). call_by client payload frames (reader_in k map_calls)) typed
    ∙ ap (λ (r : Option Reader). call_by client payload frames r) table.0
    ∙ ap (λ (c : Option MapCall). ok_or c BadCall) read

pub sent_again : (client : ClientKey) (correlation partition : ℤ) (call : MapCall) (more : List ℕ) (behind : List Frame) → IsCallOf client call → map_call_of client (call_message correlation partition call more behind) ≡ Ok call
sent_again client correlation partition call more behind h =
    call_again client (call_message correlation partition call more behind) call h (record {
      between = int64_bytes correlation ++ int32_bytes partition;
      twelve = refl;
      more = more;
      fields = refl;
      parts = sent_held (parts_of call) behind;
    })
