-- What fails at its first step fails as that step does.
use Rattle.std.proofs.Common.{Result, refl}
use Rattle.wire_parts.specs.declared.refusal.WireRefused.{WireRefused}
use Rattle.wire_parts.specs.declared.refusal.WireRefused.TheVariants.{Short, Tag, Order, Rest, Memory}
use Rattle.wire_parts.specs.Parts.{◌>>=◌, Fails}

pub Fails-bind : {A B : Type 0} (e : WireRefused) (read : Result A WireRefused) (f : A → Result B WireRefused) → Fails e read → Fails e (read >>= f)
Fails-bind (Short at) read f is = rw is refl
Fails-bind (Tag at) read f is = rw is refl
Fails-bind (Order at) read f is = rw is refl
Fails-bind (Rest at) read f is = rw is refl
Fails-bind Memory read f is = tt
