-- The processor of a number has the form of that number.
use Rattle.std.proofs.Common.{◌≡◌, zero, suc, ℤ, pos, negsuc, List, map, Option, Some, None, Result, Ok, Err, IfOk, IfErr, refl, ap, sym, ◌∙◌}
use Rattle.std.specs.Option.{option_map}
use Rattle.std.proofs.lemmas.Option.{slice_get-map}
use Rattle.entry_processors.specs.declared.registry.ProcessorRefused.{ProcessorRefused}
use Rattle.entry_processors.specs.declared.registry.ProcessorRefused.TheVariants.{Unknown, Memory}
use Rattle.entry_processors.specs.Places.{item_at}
use Rattle.entry_processors.specs.Processors.{ProcessorForm}

item_at-map : {X : Type 0} (form : X → ProcessorForm) (xs : List X) (number : ℤ) → item_at (map form xs) number ≡ option_map form (item_at xs number)
item_at-map form xs (pos (suc place)) = slice_get-map form xs place
item_at-map form xs (pos zero) = refl
item_at-map form xs (negsuc n) = refl

pub form_of_found : {X : Type 0} (form : X → ProcessorForm) (xs : List X) (number as_passed : ℤ) (x : X) → Some x ≡ item_at xs as_passed → as_passed ≡ number → item_at (map form xs) number ≡ Some (form x)
form_of_found form xs number as_passed x found same =
    item_at-map form xs number ∙ ap (option_map form) (sym (found ∙ ap (item_at xs) same))

pub made_by_form : {T E : Type 0} (run : Result T E) (outcome_of : ProcessorForm → T) (at : Option ProcessorForm) (form : ProcessorForm) → at ≡ Some form → IfOk run (λ made. made ≡ outcome_of form) → IfOk run (λ made. option_map outcome_of at ≡ Some made)
made_by_form (Ok made) outcome_of at form there is = ap (option_map outcome_of) there ∙ ap Some (sym is)
made_by_form (Err e) outcome_of at form there is = tt

pub known : {T : Type 0} (run : Result T ProcessorRefused) (at : Option ProcessorForm) (form : ProcessorForm) → at ≡ Some form → IfErr run (λ refused. refused ≡ Memory) → (run ≡ Err Unknown → at ≡ None) × (at ≡ None → run ≡ Err Unknown)
known (Ok made) at form there memory = (λ e. cc, λ e. cc)
known (Err refused) at form there memory = (λ e. cc, λ e. cc)
