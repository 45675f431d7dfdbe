-- What one frame of a message holds at most, and so each part of a call.
use Rattle.std.specs.Prelude.{ℕ, ◌≤◌, ◌<◌, ◌^◌, List, [], ◌∷◌, length, All, ⊤}
use Rattle.std.specs.Int.{w64}
use Rattle.std.specs.Int.RustNames.{FitsSigned}
use Rattle.grid_base.specs.Names.{map_of, key_of, queue_of}
use Rattle.grid_base.specs.declared.names.ClientKey.{ClientKey}
use Rattle.grid_base.specs.declared.names.ClientKey.TheVariants.{Known, OfConn}
use Rattle.grid_base.specs.declared.names.Owner.{Owner}
use Rattle.grid_base.specs.declared.calls.MapCall.{MapCall}
use Rattle.grid_base.specs.declared.calls.MapCall.TheVariants.{Put, Set, PutIfAbsent, Replace, ReplaceIfSame, RemoveIfSame, TryLock, ExecuteOnKey, PutMaxIdle, SetMaxIdle}
use Rattle.grid_base.specs.declared.calls.QueueCall.{QueueCall}
use Rattle.grid_base.specs.declared.calls.QueueCall.TheVariants.{Offer}
use Rattle.grid_base.specs.declared.calls.GridCall.{GridCall}
use Rattle.grid_base.specs.declared.calls.GridCall.TheVariants.{Map, Queue}

-- the most bytes of a name, a key, a value or an argument
abbrev pub most_bytes : ℕ
most_bytes = 1048570

abbrev pub FitsFrame : List ℕ → Type 0
FitsFrame bytes = length bytes ≤ most_bytes

-- the values and arguments that a call on a map's entry brings
abbrev pub values_in : MapCall → List (List ℕ)
values_in (Put name key owner value ttl) = value ∷ []
values_in (Set name key owner value ttl) = value ∷ []
values_in (PutIfAbsent name key owner value ttl) = value ∷ []
values_in (Replace name key owner value) = value ∷ []
values_in (ReplaceIfSame name key owner test value) = test ∷ value ∷ []
values_in (RemoveIfSame name key owner test) = test ∷ []
values_in (ExecuteOnKey name key owner number argument) = argument ∷ []
values_in (PutMaxIdle name key owner value ttl idle) = value ∷ []
values_in (SetMaxIdle name key owner value ttl idle) = value ∷ []
values_in _ = []

-- An offer brings a value.
abbrev pub offered_in : QueueCall → List (List ℕ)
offered_in (Offer name value) = value ∷ []
offered_in _ = []

abbrev pub MapCallFits : MapCall → Type 0
MapCallFits call = FitsFrame (map_of call) × FitsFrame (key_of call) × All FitsFrame (values_in call)

abbrev pub QueueCallFits : QueueCall → Type 0
QueueCallFits call = FitsFrame (queue_of call) × All FitsFrame (offered_in call)

-- Each part of the call fits a frame.
abbrev pub CallFits : GridCall → Type 0
CallFits (Map call) = MapCallFits call
CallFits (Queue call) = QueueCallFits call

-- The numbers of a call are those of their types: owners, and signed numbers of 64 and of 32 bits.

abbrev pub ClientFits : ClientKey → Type 0
ClientFits (Known number) = number < 2 ^ 128
ClientFits (OfConn conn) = conn < 2 ^ 32

abbrev pub OwnerFits : Owner → Type 0
OwnerFits owner = ClientFits owner.client × FitsSigned w64 owner.thread

abbrev pub MapNumbersFit : MapCall → Type 0
MapNumbersFit (Put name key owner value ttl) = OwnerFits owner × FitsSigned w64 ttl
MapNumbersFit (Set name key owner value ttl) = OwnerFits owner × FitsSigned w64 ttl
MapNumbersFit (PutIfAbsent name key owner value ttl) = OwnerFits owner × FitsSigned w64 ttl
MapNumbersFit (TryLock name key owner lease) = OwnerFits owner × FitsSigned w64 lease
MapNumbersFit (PutMaxIdle name key owner value ttl idle) = OwnerFits owner × FitsSigned w64 ttl × FitsSigned w64 idle
MapNumbersFit (SetMaxIdle name key owner value ttl idle) = OwnerFits owner × FitsSigned w64 ttl × FitsSigned w64 idle
MapNumbersFit call = ⊤

abbrev pub NumbersFit : GridCall → Type 0
NumbersFit (Map call) = MapNumbersFit call
NumbersFit (Queue call) = ⊤
