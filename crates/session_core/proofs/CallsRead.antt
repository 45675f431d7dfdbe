-- What holds of a call that was read, also of one that waits.
use Rattle.std.proofs.Common.{◌≡◌, List, [], ◌∷◌, All, Option, Result, Ok, Err, ℤ, pos, refl, ap, subst, ◌⊎◌, inl, inr}
use Rattle.std.specs.Prelude.{unwrap_or}
use Rattle.std.proofs.lemmas.List.Elements.{All-nil, All-cons}
use Rattle.grid_base.specs.Limits.{FitsFrame, CallFits}
use Rattle.grid_base.specs.declared.names.ClientKey.{ClientKey}
use Rattle.grid_base.specs.declared.calls.MapCall.{MapCall}
use Rattle.grid_base.specs.declared.calls.QueueCall.{QueueCall}
use Rattle.grid_base.specs.declared.calls.GridCall.{GridCall}
use Rattle.grid_base.specs.declared.calls.GridCall.TheVariants.{Map, Queue}
use Rattle.grid_base.specs.declared.refusal.CallRefused.{CallRefused}
use Rattle.grid_base.specs.declared.refusal.CallRefused.TheVariants.{UnknownType, BadCall, Memory}
use Rattle.frame_codec.specs.declared.frames.Frame.{Frame}
use Rattle.message_frames.specs.declared.message.Message.{Message}
use Rattle.message_frames.proofs.Fitting.{AllFit}
use Rattle.map_codecs.specs.Calls.{map_call_of}
use Rattle.map_codecs.proofs.Table.{call_keyed, call_whose, call_fits as map_call_fits}
use Rattle.map_codecs.specs.Waits.{map_wait_of}
use Rattle.map_codecs.proofs.WaitReading.{wait_keyed, wait_whose, wait_fits as map_wait_fits}
use Rattle.queue_codecs.specs.Calls.{queue_call_of}
use Rattle.queue_codecs.specs.SpelledCalls.{IsPlaced}
use Rattle.queue_codecs.specs.Waits.{queue_wait_of}
use Rattle.queue_codecs.proofs.Table.{call_placed, call_fits as queue_call_fits}
use Rattle.queue_codecs.proofs.WaitReading.{wait_placed, wait_fits as queue_wait_fits}
use Rattle.session_core.specs.Items.{stated_partition, either_call, call_of, either_wait, wait_of}
use Rattle.session_core.specs.Laws.{IsOf}
use Rattle.session_core.specs.Places.{SaysWhere}

frames_fit : (frames : List Frame) → AllFit frames → All (λ frame. FitsFrame frame.payload) frames
frames_fit [] fit = All-nil (λ frame. FitsFrame frame.payload)
frames_fit (frame ∷ frames) fit = All-cons (λ frame. FitsFrame frame.payload) frame frames fit.0 (frames_fit frames fit.1)

-- A call that was read says where it is, is that client's, and its parts fit frames as those of its message do.
pub record IsCallRead (client : ClientKey) (message : Message) (call : GridCall) : Type 0 where
  pub where_is : SaysWhere (stated_partition message) call
  pub client_is : IsOf client call
  pub fits : AllFit message.frames → CallFits call

module _ (client : ClientKey) (message : Message) where
  map_read : (call : MapCall) → map_call_of client message ≡ Ok call → IsCallRead client message (Map call)
  map_read call e = record {
    where_is = call_keyed client message call e;
    client_is = call_whose client message call e;
    fits = λ fit. map_call_fits client message call (frames_fit message.frames fit) e;
  }

  queue_where : (call : QueueCall) → IsPlaced message → SaysWhere (stated_partition message) (Queue call)
  queue_where call placed = (placed.partition, ap (λ (found : Option ℤ). unwrap_or found (pos 0)) placed.stated, placed.within)

  queue_read : (call : QueueCall) → queue_call_of message ≡ Ok call → IsCallRead client message (Queue call)
  queue_read call e = record {
    where_is = queue_where call (call_placed message call e);
    client_is = tt;
    fits = λ fit. queue_call_fits message call (frames_fit message.frames fit) e;
  }

  pub call_read : (call : GridCall) → call_of client message ≡ Ok call → IsCallRead client message call
  call_read call e = go (map_call_of client message) (queue_call_of message) refl refl e
    where
      go : (map : Result MapCall CallRefused) (queue : Result QueueCall CallRefused) → map_call_of client message ≡ map → queue_call_of message ≡ queue → either_call map queue ≡ Ok call → IsCallRead client message call
      go (Ok found) queue m q s = let same : Map found ≡ call = cc in subst (IsCallRead client message) same (map_read found m)
      go (Err UnknownType) (Ok found) m q s = let same : Queue found ≡ call = cc in subst (IsCallRead client message) same (queue_read found q)
      go (Err UnknownType) (Err why) m q s = absurd cc
      go (Err BadCall) queue m q s = absurd cc
      go (Err Memory) queue m q s = absurd cc

  -- one that waits

  map_waits : (wait : MapCall × ℤ) → map_wait_of client message ≡ Ok wait → IsCallRead client message (Map wait.0)
  map_waits wait e = record {
    where_is = wait_keyed client message wait e;
    client_is = wait_whose client message wait e;
    fits = λ fit. map_wait_fits client message wait (frames_fit message.frames fit) e;
  }

  queue_waits : (wait : QueueCall × ℤ) → queue_wait_of message ≡ Ok wait → IsCallRead client message (Queue wait.0)
  queue_waits wait e = record {
    where_is = queue_where wait.0 (wait_placed message wait e);
    client_is = tt;
    fits = λ fit. queue_wait_fits message wait (frames_fit message.frames fit) e;
  }

  pub wait_read : (wait : GridCall × ℤ) → wait_of client message ≡ Ok wait → IsCallRead client message wait.0
  wait_read wait e = go (map_wait_of client message) (queue_wait_of message) refl refl e
    where
      go : (map : Result (MapCall × ℤ) CallRefused) (queue : Result (QueueCall × ℤ) CallRefused) → map_wait_of client message ≡ map → queue_wait_of message ≡ queue → either_wait map queue ≡ Ok wait → IsCallRead client message wait.0
      go (Ok found) queue m q s = let same : (Map found.0, found.1) ≡ wait = cc in subst (λ (wait : GridCall × ℤ). IsCallRead client message wait.0) same (map_waits found m)
      go (Err UnknownType) (Ok found) m q s = let same : (Queue found.0, found.1) ≡ wait = cc in subst (λ (wait : GridCall × ℤ). IsCallRead client message wait.0) same (queue_waits found q)
      go (Err UnknownType) (Err why) m q s = absurd cc
      go (Err BadCall) queue m q s = absurd cc
      go (Err Memory) queue m q s = absurd cc

  -- A message is read as this call, or has it wait.
  abbrev pub AsksFor : GridCall → Type 0
  AsksFor call = (call_of client message ≡ Ok call) ⊎ ((timeout : ℤ) × (wait_of client message ≡ Ok (call, timeout)))

  pub asked_read : (call : GridCall) → AsksFor call → IsCallRead client message call
  asked_read call (inl e) = call_read call e
  asked_read call (inr (timeout, e)) = wait_read (call, timeout) e
