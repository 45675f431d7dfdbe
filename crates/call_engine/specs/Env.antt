-- What a grid's objects go by, of its environment.
use Rattle.std.specs.Prelude.{map}
use Rattle.std.specs.declared.alloc.Global.{Global}
use Rattle.std.specs.declared.dyn_box.DynBox.{DynBox}
use Rattle.entry_processors.specs.Processors.{ProcessorForm}
use Rattle.call_engine.specs.declared.env.GridEnv.{GridEnv}
use Rattle.call_engine.specs.Calls.{Settings}

-- Of each processor contracts see its form.
abbrev pub settings_of : {V : Type 0} {T : V → Type 0} → (DynBox V Global T → ProcessorForm) → GridEnv V T → Settings
settings_of form env = record { forms = map form env.registry; capacity = env.capacity }
