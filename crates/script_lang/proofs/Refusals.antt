-- A reading that ends with the refusal of one of its parts.
use Rattle.std.proofs.Common.{◌≡◌, Result, Err, subst, sym}
use Rattle.script_lang.specs.Readings.{Reads}
use Rattle.script_lang.specs.declared.refusal.LineWhy.{LineWhy}
use Rattle.script_lang.specs.declared.refusal.LineRefused.{LineRefused}
use Rattle.script_lang.specs.declared.refusal.LineRefused.TheVariants.{Why, Memory}

-- what refuses the part refuses the whole
pub refused_with : {A B C D : Type 0} (view : A → B) (viewed : C → D) (e : LineRefused) (part : Result B LineWhy) (whole : Result D LineWhy) (result : Result C LineRefused)
    → result ≡ Err e → Reads view (Err e) part → ((why : LineWhy) → part ≡ Err why → whole ≡ Err why) → Reads viewed result whole
refused_with {A} {B} {C} {D} view viewed (Why why) part whole result is reads refuses = subst (λ (r : Result C LineRefused). Reads viewed r whole) (sym is) (refuses why reads)
refused_with {A} {B} {C} {D} view viewed Memory part whole result is reads refuses = subst (λ (r : Result C LineRefused). Reads viewed r whole) (sym is) tt
