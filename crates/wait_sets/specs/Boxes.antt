-- What contracts see of the processors of an environment.
use Rattle.std.specs.declared.alloc.Global.{Global}
use Rattle.std.specs.declared.dyn_box.DynBox.{DynBox}
use Rattle.entry_processors.specs.Processors.{ProcessorForm}

-- a boxed processor's form, by that of one behind its table of methods
abbrev pub boxed : {V : Type 0} {T : V → Type 0} → ((v : V) × T v → ProcessorForm) → DynBox V Global T → ProcessorForm
boxed form b = form (b.vtable, b.value)
