-- Deadlines of calls that wait, which the definitions of `wait_sets` compute.
use Rattle.std.specs.Prelude.{◌≡◌, ◌-◌, ◌^◌, pos, negsuc, [], ◌∷◌, map, Some, None, refl}
use Rattle.wait_sets.specs.WaitSets.{deadline_of}

a_timeout_of_0_is_due_at_once : deadline_of 5000 (pos 0) ≡ Some 5000
a_timeout_of_0_is_due_at_once = refl

a_timeout_ends_at_now_plus_it : deadline_of 5000 (pos 1000) ≡ Some 6000
a_timeout_ends_at_now_plus_it = refl

one_below_0_never_ends : map (deadline_of 5000) (negsuc 0 ∷ negsuc (2 ^ 63 - 1) ∷ []) ≡ None ∷ None ∷ []
one_below_0_never_ends = refl

a_deadline_is_a_moment_of_64_bits : map (λ now. deadline_of now (pos 1)) ((2 ^ 64 - 2) ∷ (2 ^ 64 - 1) ∷ []) ≡ Some (2 ^ 64 - 1) ∷ None ∷ []
a_deadline_is_a_moment_of_64_bits = refl
