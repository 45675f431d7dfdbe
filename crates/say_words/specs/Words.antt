-- Whose calls words say.
use Rattle.std.specs.Prelude.{◌≡◌, ⊤}
use Rattle.grid_base.specs.declared.names.ClientKey.{ClientKey}
use Rattle.grid_base.specs.declared.calls.MapCall.{MapCall}
use Rattle.compose_words.specs.Sessions.{made_by}
use Rattle.compose_words.specs.Waits.{plain_of}
use Rattle.compose_words.specs.declared.saying.Saying.{Saying}
use Rattle.compose_words.specs.declared.saying.Saying.TheVariants.{Hello, Ping, OnMap, OnQueue, WaitOnMap, WaitOnQueue, Listen}
use Rattle.say_words.specs.declared.reading.Told.{Told}
use Rattle.say_words.specs.declared.reading.Told.TheVariants.{Message, Raw}

-- The call is as that client makes it.
abbrev pub IsCallBy : ClientKey → MapCall → Type 0
IsCallBy client call = made_by client call ≡ call

-- What calls an entry is as that client calls it.
abbrev pub IsMadeBy : ClientKey → Saying → Type 0
IsMadeBy client (Hello authentication) = ⊤
IsMadeBy client Ping = ⊤
IsMadeBy client (OnMap call) = IsCallBy client call
IsMadeBy client (OnQueue partition call) = ⊤
IsMadeBy client (WaitOnMap wait timeout) = IsCallBy client (plain_of wait)
IsMadeBy client (WaitOnQueue partition wait timeout) = ⊤
IsMadeBy client (Listen listening) = ⊤

-- a message is that client's, and bytes are anybody's
abbrev pub IsToldBy : ClientKey → Told → Type 0
IsToldBy client (Message correlation saying) = IsMadeBy client saying
IsToldBy client (Raw bytes) = ⊤
