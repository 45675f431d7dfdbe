-- Which call is made of the parts that calls of one shape have.
use Rattle.std.specs.Prelude.{ℕ, ℤ, List}
use Rattle.grid_base.specs.declared.names.Owner.{Owner}
use Rattle.grid_base.specs.declared.calls.MapCall.{MapCall}
use Rattle.grid_base.specs.declared.calls.MapCall.TheVariants as call
use Rattle.map_codecs.specs.declared.shapes.Bare.{Bare}
use Rattle.map_codecs.specs.declared.shapes.Bare.TheVariants.{IsLocked, ForceUnlock}
use Rattle.map_codecs.specs.declared.shapes.Keyed.{Keyed}
use Rattle.map_codecs.specs.declared.shapes.Keyed.TheVariants.{Get, Remove, ContainsKey, Delete, Unlock}
use Rattle.map_codecs.specs.declared.shapes.Valued.{Valued}
use Rattle.map_codecs.specs.declared.shapes.Valued.TheVariants.{Replace, RemoveIfSame}
use Rattle.map_codecs.specs.declared.shapes.Stored.{Stored}
use Rattle.map_codecs.specs.declared.shapes.Stored.TheVariants.{Put, PutIfAbsent, Set}
use Rattle.map_codecs.specs.declared.shapes.Idle.{Idle}
use Rattle.map_codecs.specs.declared.shapes.Idle.TheVariants.{PutMaxIdle, SetMaxIdle}

abbrev pub bare_call : Bare → List ℕ → List ℕ → MapCall
bare_call IsLocked = call.IsLocked
bare_call ForceUnlock = call.ForceUnlock

abbrev pub keyed_call : Keyed → List ℕ → List ℕ → Owner → MapCall
keyed_call Get = call.Get
keyed_call Remove = call.Remove
keyed_call ContainsKey = call.ContainsKey
keyed_call Delete = call.Delete
keyed_call Unlock = call.Unlock

abbrev pub valued_call : Valued → List ℕ → List ℕ → Owner → List ℕ → MapCall
valued_call Replace = call.Replace
valued_call RemoveIfSame = call.RemoveIfSame

abbrev pub stored_call : Stored → List ℕ → List ℕ → Owner → List ℕ → ℤ → MapCall
stored_call Put = call.Put
stored_call PutIfAbsent = call.PutIfAbsent
stored_call Set = call.Set

abbrev pub idle_call : Idle → List ℕ → List ℕ → Owner → List ℕ → ℤ → ℤ → MapCall
idle_call PutMaxIdle = call.PutMaxIdle
idle_call SetMaxIdle = call.SetMaxIdle
