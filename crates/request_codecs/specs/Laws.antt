-- What a member's session makes of the messages of a client.
use Rattle.std.specs.Prelude.{◌≡◌, ℕ, ◌≤◌, ℤ, length, Some}
use Rattle.std.specs.Int.{w64}
use Rattle.std.specs.Int.RustNames.{FitsSigned}
use Rattle.grid_base.specs.declared.names.CallId.{CallId}
use Rattle.grid_base.specs.declared.names.ClientKey.TheVariants.{Known}
use Rattle.grid_base.specs.declared.calls.GridCall.{GridCall}
use Rattle.session_core.specs.Items.{item_of}
use Rattle.session_core.specs.declared.item.Item.TheVariants.{Call}
use Rattle.request_codecs.specs.Requests.{MayBeAsked, kind_of_call, request, request_bytes}
use Rattle.request_codecs.specs.Readdressing.{readdressed}

-- A request of a client that made itself known is exactly the call that was asked for, in its partition, under its correlation.
abbrev pub EveryRequestIsRead : Type 0
EveryRequestIsRead =
    (member : ℕ) (id : CallId) (client partition : ℕ) (correlation : ℤ) (call : GridCall) → FitsSigned w64 correlation → MayBeAsked client partition call →
    item_of member id (Some (Known client)) (request correlation partition call)
    ≡ Call (record { id = id; correlation = correlation; kind = kind_of_call call; partition = partition; call = call })

-- A request has its correlation where it is looked for: under another one it is the same call's.
abbrev pub EveryRequestIsReaddressed : Type 0
EveryRequestIsReaddressed =
    (correlation other : ℤ) (partition : ℕ) (call : GridCall) →
    (18 ≤ length (request_bytes correlation partition call))
    × (readdressed other (request_bytes correlation partition call) ≡ request_bytes other partition call)
