-- The steps of a reader.
use Rattle.std.proofs.Common.{◌≡◌, Bool, true, false, cond, Option, Some, None, Ok, refl, ap}
use Rattle.std.specs.Option.{ok_or}
use Rattle.fixed_fields.specs.Requests.{◌>>=◌}

-- a step whose part was read
pub bind_at : {A B : Type 0} (o : Option A) (f : A → Option B) (x : A) → o ≡ Some x → (o >>= f) ≡ f x
bind_at {A} o f x e = ap (λ (p : Option A). p >>= f) e

-- the part of a step that gave a value
pub bind_some : {A B : Type 0} (o : Option A) (f : A → Option B) (y : B) → (o >>= f) ≡ Some y → (x : A) × (o ≡ Some x) × (f x ≡ Some y)
bind_some (Some x) f y e = (x, refl, e)
bind_some None f y e = absurd cc

-- a test that was passed
pub if_some : {A : Type 0} (b : Bool) (x y : A) → cond b (Some x) None ≡ Some y → (b ≡ true) × (x ≡ y)
if_some true x y e = (refl, cc)
if_some false x y e = absurd cc

-- what was read, where nothing was refused
pub ok_or_some : {A E : Type 0} (o : Option A) (why : E) (x : A) → ok_or o why ≡ Ok x → o ≡ Some x
ok_or_some (Some y) why x e = cc
ok_or_some None why x e = absurd cc

-- what holds behind a step that gave a value
pub behind : {A B : Type 0} (Goal : Type 0) (o : Option A) (f : A → Option B) (y : B) → (o >>= f) ≡ Some y → ((x : A) → o ≡ Some x → f x ≡ Some y → Goal) → Goal
behind Goal (Some x) f y e then = then x refl e
behind Goal None f y e then = absurd cc

-- the value at the end
pub given : {A : Type 0} (x y : A) → Some x ≡ Some y → x ≡ y
given x y e = cc
