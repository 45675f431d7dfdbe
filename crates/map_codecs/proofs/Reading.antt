-- What calls of one shape are read of, and how they are read again.
use Rattle.std.proofs.Common.{◌≡◌, ℕ, ℤ, leb, List, [], ◌∷◌, ◌++◌, length, drop, All, Option, Some, None, Ok, refl, sym, ap, subst, ◌∙◌, arith}
use Rattle.std.specs.Prelude.{IfSome}
use Rattle.std.specs.Str.{IsUtf8}
use Rattle.std.specs.Int.{w32}
use Rattle.std.specs.Int.RustNames.{FitsSigned}
use Rattle.std.proofs.lemmas.Bool.{leb-true}
use Rattle.std.proofs.lemmas.List.{length-drop, take-append-drop}
use Rattle.std.proofs.lemmas.List.Elements.{All-nil, All-cons, All-drop}
use Rattle.grid_base.specs.Limits.{FitsFrame}
use Rattle.grid_base.specs.declared.names.ClientKey.{ClientKey}
use Rattle.grid_base.specs.declared.names.Owner.{Owner}
use Rattle.grid_base.specs.declared.calls.MapCall.{MapCall}
use Rattle.grid_base.specs.declared.calls.MapCall.TheVariants.{ExecuteOnKey}
use Rattle.frame_codec.specs.Laws.{IsBytes}
use Rattle.frame_codec.specs.declared.frames.Frame.{Frame}
use Rattle.fixed_fields.specs.Fields.{int32_at, int32_bytes, int64_at}
use Rattle.fixed_fields.specs.Frames.{next_data}
use Rattle.fixed_fields.specs.Requests.{data_in, text_in}
use Rattle.fixed_fields.specs.Spelled.{HoldParts}
use Rattle.fixed_fields.proofs.Parts.{data_of, text_of, first_holds, data_all, parts_all}
use Rattle.fixed_fields.proofs.ReadFields.{int32_is}
use Rattle.fixed_fields.proofs.Steps.{behind, given, if_some}
use Rattle.map_codecs.specs.Calls.{Processor, owner_in, key_in, processor_in, bare_in, keyed_in, leased_in, valued_in, compared_in, stored_in, idle_in, executed_in}
use Rattle.map_codecs.specs.SpelledCalls.{IsKey}
use Rattle.map_codecs.proofs.Numbers.{StandAt}

-- what is read of a call: who makes it, its name, its key, its numbers, and its parts where the frames are bytes
pub record IsRead (client : ClientKey) (payload : List ℕ) (frames : List Frame) (name key : List ℕ) (caller : Option Owner) (numbers : List ℤ) (parts values : List (List ℕ)) (processor : Option ℤ) : Type 0 where
  pub text : IsUtf8 name
  pub long : IsKey key
  pub whose : IfSome caller (λ owner. owner.client ≡ client)
  pub stand : StandAt payload 16 numbers
  pub held : All (λ frame. IsBytes frame.payload) frames → HoldParts frames parts
  pub run : All (λ frame. IsBytes frame.payload) frames → IfSome processor (FitsSigned w32)
  pub fit : All (λ frame. FitsFrame frame.payload) frames → FitsFrame name × FitsFrame key × All FitsFrame values

-- ---- the parts

owner_read : (client : ClientKey) (payload : List ℕ) (owner : Owner) → owner_in client payload ≡ Some owner → (owner.client ≡ client) × (int64_at payload 16 ≡ Some owner.thread)
owner_read client payload owner e =
    let Read : Owner → Type 0 = λ o. (o.client ≡ client) × (int64_at payload 16 ≡ Some o.thread) in
    behind (Read owner) (int64_at payload 16) _ owner e (λ thread read e. subst Read (given (record { client = client; thread = thread }) owner e) (refl, read))

key_read : (frames : List Frame) (key : List ℕ) → key_in frames ≡ Some key → IsKey key × (next_data frames ≡ Ok key)
key_read frames key e = behind (IsKey key × (next_data frames ≡ Ok key)) (data_in frames) _ key e (λ found read e.
    let is = if_some (leb 8 (length found)) found key e in
    let here : IsKey found × (next_data frames ≡ Ok found) = (leb-true 8 (length found) is.0, data_of frames found read) in
    subst (λ key. IsKey key × (next_data frames ≡ Ok key)) is.1 here)

-- the parts of a call whose name and key come first, and then the values
module _ (client : ClientKey) (payload : List ℕ) (frames : List Frame) (name key : List ℕ) (caller : Option Owner) (numbers : List ℤ) (values : List (List ℕ)) where
  entry_read : text_in frames ≡ Some name → key_in (drop 1 frames) ≡ Some key → IfSome caller (λ owner. owner.client ≡ client) → StandAt payload 16 numbers → HoldParts (drop 1 (drop 1 frames)) values
      → IsRead client payload frames name key caller numbers (name ∷ key ∷ values) values None
  entry_read n k c s v =
      let named = text_of frames name n in
      let keyed = key_read (drop 1 frames) key k in
      let held = first_holds frames name (key ∷ values) named.0 (first_holds (drop 1 frames) key values keyed.1 v) in
      record {
        text = named.1;
        long = keyed.0;
        whose = c;
        stand = s;
        held = λ _. held;
        run = λ _. tt;
        fit = λ fit.
            let later = All-drop (λ frame. FitsFrame frame.payload) 1 frames fit in
            (data_all FitsFrame frames name fit named.0, data_all FitsFrame (drop 1 frames) key later keyed.1, parts_all FitsFrame (drop 1 (drop 1 frames)) values (All-drop (λ frame. FitsFrame frame.payload) 1 (drop 1 frames) later) v);
      }

-- a processor's number and argument, in the bytes that hold both
pub record IsRun (frames : List Frame) (processor : Processor) : Type 0 where
  pub bytes : List ℕ
  pub there : next_data frames ≡ Ok bytes
  pub number : int32_at bytes 0 ≡ Some processor.number
  pub argument : processor.argument ≡ drop 4 bytes

rest_fits : (bytes rest : List ℕ) → rest ≡ drop 4 bytes → FitsFrame bytes → FitsFrame rest
rest_fits bytes rest e fit =
    let shorter : FitsFrame (drop 4 bytes) = omega (arith, fit, length-drop 4 bytes) in
    subst FitsFrame (sym e) shorter

processor_read : (frames : List Frame) (processor : Processor) → processor_in frames ≡ Some processor → IsRun frames processor
processor_read frames processor e =
    behind (IsRun frames processor) (data_in frames) _ processor e (λ bytes d e.
    behind (IsRun frames processor) (int32_at bytes 0) _ processor e (λ number n e.
    let read : Processor = record { number = number; argument = drop 4 bytes } in
    let whole : IsRun frames read = record { bytes = bytes; there = data_of frames bytes d; number = n; argument = refl } in
    subst (IsRun frames) (given read processor e) whole))

module _ (client : ClientKey) (payload : List ℕ) (frames : List Frame) (name key : List ℕ) (owner : Owner) (processor : Processor) where
  run_read : (owner.client ≡ client) × (int64_at payload 16 ≡ Some owner.thread) → text_in frames ≡ Some name → processor_in (drop 1 frames) ≡ Some processor → key_in (drop 1 (drop 1 frames)) ≡ Some key
      → IsRead client payload frames name key (Some owner) (owner.thread ∷ []) (name ∷ (int32_bytes processor.number ++ processor.argument) ∷ key ∷ []) (processor.argument ∷ []) (Some processor.number)
  run_read whose n p k =
      let second : List Frame = drop 1 frames in
      let third : List Frame = drop 1 second in
      let named = text_of frames name n in
      let keyed = key_read third key k in
      let run = processor_read second processor p in
      let bytes_of : All (λ frame. IsBytes frame.payload) frames → IsBytes run.bytes = λ all. data_all IsBytes second run.bytes (All-drop (λ frame. IsBytes frame.payload) 1 frames all) run.there in
      record {
        text = named.1;
        long = keyed.0;
        whose = whose.0;
        stand = (whose.1, tt);
        held = λ all.
            let number = int32_is run.bytes 0 processor.number (bytes_of all) run.number in
            let whole : int32_bytes processor.number ++ processor.argument ≡ run.bytes = (λ i. number.spelled i ++ run.argument i) ∙ take-append-drop 4 run.bytes in
            let held : next_data second ≡ Ok (int32_bytes processor.number ++ processor.argument) = run.there ∙ ap Ok (sym whole) in
            let front : List ℕ = int32_bytes processor.number ++ processor.argument in
            first_holds frames name (front ∷ key ∷ []) named.0 (first_holds second front (key ∷ []) held (first_holds third key [] keyed.1 tt));
        run = λ all. (int32_is run.bytes 0 processor.number (bytes_of all) run.number).fits;
        fit = λ fit.
            let later = All-drop (λ frame. FitsFrame frame.payload) 1 frames fit in
            let last = All-drop (λ frame. FitsFrame frame.payload) 1 second later in
            let all_of : FitsFrame run.bytes = data_all FitsFrame second run.bytes later run.there in
            let argument = rest_fits run.bytes processor.argument run.argument all_of in
            (data_all FitsFrame frames name fit named.0, data_all FitsFrame third key last keyed.1, All-cons FitsFrame processor.argument [] argument (All-nil FitsFrame));
      }

-- ---- calls of one shape

module _ (client : ClientKey) (payload : List ℕ) (frames : List Frame) where
  abbrev Parts : List ℕ → List ℕ → Option Owner → List ℤ → List (List ℕ) → List (List ℕ) → Option ℤ → Type 0
  Parts = IsRead client payload frames

  -- What holds of each call of a shape that is made of what was read, holds of a call that was read.

  pub bare_read : (make : List ℕ → List ℕ → MapCall) (Is : MapCall → Type 0) (call : MapCall) → bare_in make client payload frames ≡ Some call
      → ((name key : List ℕ) → Parts name key None [] (name ∷ key ∷ []) [] None → Is (make name key)) → Is call
  bare_read make Is call e each =
      behind (Is call) (text_in frames) _ call e (λ name n e.
      behind (Is call) (key_in (drop 1 frames)) _ call e (λ key k e.
      subst Is (given (make name key) call e) (each name key (entry_read client payload frames name key None [] [] n k tt tt tt))))

  pub keyed_read : (make : List ℕ → List ℕ → Owner → MapCall) (Is : MapCall → Type 0) (call : MapCall) → keyed_in make client payload frames ≡ Some call
      → ((name key : List ℕ) (owner : Owner) → Parts name key (Some owner) (owner.thread ∷ []) (name ∷ key ∷ []) [] None → Is (make name key owner)) → Is call
  keyed_read make Is call e each =
      behind (Is call) (owner_in client payload) _ call e (λ owner o e.
      behind (Is call) (text_in frames) _ call e (λ name n e.
      behind (Is call) (key_in (drop 1 frames)) _ call e (λ key k e.
      let whose = owner_read client payload owner o in
      subst Is (given (make name key owner) call e) (each name key owner (entry_read client payload frames name key (Some owner) (owner.thread ∷ []) [] n k whose.0 (whose.1, tt) tt)))))

  pub leased_read : (make : List ℕ → List ℕ → Owner → ℤ → MapCall) (Is : MapCall → Type 0) (call : MapCall) → leased_in make client payload frames ≡ Some call
      → ((name key : List ℕ) (owner : Owner) (lease : ℤ) → Parts name key (Some owner) (owner.thread ∷ lease ∷ []) (name ∷ key ∷ []) [] None → Is (make name key owner lease)) → Is call
  leased_read make Is call e each =
      behind (Is call) (owner_in client payload) _ call e (λ owner o e.
      behind (Is call) (int64_at payload 24) _ call e (λ lease t e.
      behind (Is call) (text_in frames) _ call e (λ name n e.
      behind (Is call) (key_in (drop 1 frames)) _ call e (λ key k e.
      let whose = owner_read client payload owner o in
      subst Is (given (make name key owner lease) call e) (each name key owner lease (entry_read client payload frames name key (Some owner) (owner.thread ∷ lease ∷ []) [] n k whose.0 (whose.1, (t, tt)) tt))))))

  last_held : (frames : List Frame) (value : List ℕ) → data_in frames ≡ Some value → HoldParts frames (value ∷ [])
  last_held frames value v = first_holds frames value [] (data_of frames value v) tt

  pub valued_read : (make : List ℕ → List ℕ → Owner → List ℕ → MapCall) (Is : MapCall → Type 0) (call : MapCall) → valued_in make client payload frames ≡ Some call
      → ((name key : List ℕ) (owner : Owner) (value : List ℕ) → Parts name key (Some owner) (owner.thread ∷ []) (name ∷ key ∷ value ∷ []) (value ∷ []) None → Is (make name key owner value)) → Is call
  valued_read make Is call e each =
      behind (Is call) (owner_in client payload) _ call e (λ owner o e.
      behind (Is call) (text_in frames) _ call e (λ name n e.
      behind (Is call) (key_in (drop 1 frames)) _ call e (λ key k e.
      behind (Is call) (data_in (drop 1 (drop 1 frames))) _ call e (λ value v e.
      let whose = owner_read client payload owner o in
      let held = last_held (drop 1 (drop 1 frames)) value v in
      subst Is (given (make name key owner value) call e) (each name key owner value (entry_read client payload frames name key (Some owner) (owner.thread ∷ []) (value ∷ []) n k whose.0 (whose.1, tt) held))))))

  pub compared_read : (make : List ℕ → List ℕ → Owner → List ℕ → List ℕ → MapCall) (Is : MapCall → Type 0) (call : MapCall) → compared_in make client payload frames ≡ Some call
      → ((name key : List ℕ) (owner : Owner) (test value : List ℕ) → Parts name key (Some owner) (owner.thread ∷ []) (name ∷ key ∷ test ∷ value ∷ []) (test ∷ value ∷ []) None → Is (make name key owner test value)) → Is call
  compared_read make Is call e each =
      let later : List Frame = drop 1 (drop 1 frames) in
      behind (Is call) (owner_in client payload) _ call e (λ owner o e.
      behind (Is call) (text_in frames) _ call e (λ name n e.
      behind (Is call) (key_in (drop 1 frames)) _ call e (λ key k e.
      behind (Is call) (data_in later) _ call e (λ test t e.
      behind (Is call) (data_in (drop 1 later)) _ call e (λ value v e.
      let whose = owner_read client payload owner o in
      let held = first_holds later test (value ∷ []) (data_of later test t) (last_held (drop 1 later) value v) in
      subst Is (given (make name key owner test value) call e) (each name key owner test value (entry_read client payload frames name key (Some owner) (owner.thread ∷ []) (test ∷ value ∷ []) n k whose.0 (whose.1, tt) held)))))))

  pub stored_read : (make : List ℕ → List ℕ → Owner → List ℕ → ℤ → MapCall) (Is : MapCall → Type 0) (call : MapCall) → stored_in make client payload frames ≡ Some call
      → ((name key : List ℕ) (owner : Owner) (value : List ℕ) (ttl : ℤ) → Parts name key (Some owner) (owner.thread ∷ ttl ∷ []) (name ∷ key ∷ value ∷ []) (value ∷ []) None → Is (make name key owner value ttl)) → Is call
  stored_read make Is call e each =
      behind (Is call) (owner_in client payload) _ call e (λ owner o e.
      behind (Is call) (int64_at payload 24) _ call e (λ ttl t e.
      behind (Is call) (text_in frames) _ call e (λ name n e.
      behind (Is call) (key_in (drop 1 frames)) _ call e (λ key k e.
      behind (Is call) (data_in (drop 1 (drop 1 frames))) _ call e (λ value v e.
      let whose = owner_read client payload owner o in
      let held = last_held (drop 1 (drop 1 frames)) value v in
      subst Is (given (make name key owner value ttl) call e) (each name key owner value ttl (entry_read client payload frames name key (Some owner) (owner.thread ∷ ttl ∷ []) (value ∷ []) n k whose.0 (whose.1, (t, tt)) held)))))))

  pub idle_read : (make : List ℕ → List ℕ → Owner → List ℕ → ℤ → ℤ → MapCall) (Is : MapCall → Type 0) (call : MapCall) → idle_in make client payload frames ≡ Some call
      → ((name key : List ℕ) (owner : Owner) (value : List ℕ) (ttl idle : ℤ) → Parts name key (Some owner) (owner.thread ∷ ttl ∷ idle ∷ []) (name ∷ key ∷ value ∷ []) (value ∷ []) None → Is (make name key owner value ttl idle)) → Is call
  idle_read make Is call e each =
      behind (Is call) (owner_in client payload) _ call e (λ owner o e.
      behind (Is call) (int64_at payload 24) _ call e (λ ttl t e.
      behind (Is call) (int64_at payload 32) _ call e (λ idle i e.
      behind (Is call) (text_in frames) _ call e (λ name n e.
      behind (Is call) (key_in (drop 1 frames)) _ call e (λ key k e.
      behind (Is call) (data_in (drop 1 (drop 1 frames))) _ call e (λ value v e.
      let whose = owner_read client payload owner o in
      let held = last_held (drop 1 (drop 1 frames)) value v in
      subst Is (given (make name key owner value ttl idle) call e) (each name key owner value ttl idle (entry_read client payload frames name key (Some owner) (owner.thread ∷ ttl ∷ idle ∷ []) (value ∷ []) n k whose.0 (whose.1, (t, (i, tt))) held))))))))

  pub executed_read : (Is : MapCall → Type 0) (call : MapCall) → executed_in client payload frames ≡ Some call
      → ((name key : List ℕ) (owner : Owner) (number : ℤ) (argument : List ℕ) → Parts name key (Some owner) (owner.thread ∷ []) (name ∷ (int32_bytes number ++ argument) ∷ key ∷ []) (argument ∷ []) (Some number) → Is (ExecuteOnKey name key owner number argument)) → Is call
  executed_read Is call e each =
      behind (Is call) (owner_in client payload) _ call e (λ owner o e.
      behind (Is call) (text_in frames) _ call e (λ name n e.
      behind (Is call) (processor_in (drop 1 frames)) _ call e (λ processor p e.
      behind (Is call) (key_in (drop 1 (drop 1 frames))) _ call e (λ key k e.
      let whose = owner_read client payload owner o in
      subst Is (given (ExecuteOnKey name key owner processor.number processor.argument) call e) (each name key owner processor.number processor.argument (run_read client payload frames name key owner processor whose n p k))))))
