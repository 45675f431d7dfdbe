-- A call's own partition, and the one that its message states.
use Rattle.std.proofs.Common.{◌≡◌, ℕ, Bool, true, false, cond, Result, Ok, Err, ℤ, pos, refl, ap, sym, ◌∙◌, of_z}
use Rattle.std.specs.Prelude.{IfOk}
use Rattle.std.specs.Int.{w32}
use Rattle.std.specs.Ordering.{int_eq}
use Rattle.std.proofs.lemmas.Bool.Decides.{Decides-int_eq}
use Rattle.grid_base.specs.Errors.{wrong_partition}
use Rattle.grid_base.specs.declared.names.CallId.{CallId}
use Rattle.grid_base.specs.declared.names.ClientKey.{ClientKey}
use Rattle.grid_base.specs.declared.calls.GridCall.{GridCall}
use Rattle.grid_base.specs.declared.refusal.CallRefused.{CallRefused}
use Rattle.message_frames.specs.declared.message.Message.{Message}
use Rattle.event_codecs.specs.Registrations.{registration_of}
use Rattle.session_core.specs.Items.{kind_of, correlation_of, stated_partition, error_to, call_item, wait_of, waiting, wait_item, registration_item, unless_unknown, wait_or_registration}
use Rattle.session_core.specs.Places.{partition_of_call}
use Rattle.session_core.specs.declared.item.Item.{Item}
use Rattle.session_core.specs.declared.item.Item.TheVariants.{Call}

pub ok_same : {A E : Type 0} (r : Result A E) (x y : A) → x ≡ y → IfOk r (λ z. z ≡ x) → IfOk r (λ z. z ≡ y)
ok_same (Ok z) x y e h = h ∙ e
ok_same (Err why) x y e h = tt

pub wrong_item : (id : CallId) (message : Message) (said : Result GridCall CallRefused) (call : GridCall) → said ≡ Ok call → int_eq (stated_partition message) (pos (partition_of_call (stated_partition message) call)) ≡ false
    → call_item id message said ≡ error_to message wrong_partition (stated_partition message) (pos (partition_of_call (stated_partition message) call))
wrong_item id message said call e apart =
    let own = partition_of_call (stated_partition message) call in
    ap (call_item id message) e
    ∙ ap (λ b. cond b (Call (record { id = id; correlation = correlation_of message; kind = kind_of message; partition = own; call = call })) (error_to message wrong_partition (stated_partition message) (pos own))) apart

false_or_not : (b : Bool) → (b ≡ true → ⊥) → b ≡ false
false_or_not true h = absurd (h refl)
false_or_not false h = refl

-- numbers with other bits aren't the same
pub different : (a b stated : ℤ) (own : ℕ) → a ≡ stated → b ≡ pos own → (of_z w32 a ≡ of_z w32 b → ⊥) → int_eq stated (pos own) ≡ false
different a b stated own e f apart = false_or_not (int_eq stated (pos own)) (λ t. apart (ap (of_z w32) (e ∙ (Decides-int_eq stated (pos own)).0 t ∙ sym f)))

-- A call that waits is what was read of it.
pub wait_given : (id : CallId) (client : ClientKey) (message : Message) (call : GridCall) (timeout : ℤ) (item given : Item) → wait_of client message ≡ Ok (call, timeout) → item ≡ call_item id message (Ok call) → given ≡ waiting timeout item
    → given ≡ wait_or_registration id client message
wait_given id client message call timeout item given read its e =
    e ∙ ap (waiting timeout) its
    ∙ sym (ap (λ (said : Result (GridCall × ℤ) CallRefused). unless_unknown said (wait_item id message) (registration_item message (registration_of message))) read)
