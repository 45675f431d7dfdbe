-- Names and numbers that compare as the same are the same.
use Rattle.std.proofs.Common.{◌≡◌, ℕ, true, ◌==◌, ap, ◌∙◌, arith}
use Rattle.std.proofs.lemmas.Bool.Decides.{nat_tests}
use Rattle.grid_base.specs.Names.{is_same_call}
use Rattle.grid_base.specs.declared.names.CallId.{CallId}
use Rattle.partition_protocol.proofs.RowFacts.{both_left, both_right, both}

pub same_call : (a b : CallId) → is_same_call a b ≡ true → a ≡ b
same_call a b e =
    let c : a.conn ≡ b.conn = grind (arith, nat_tests, both_left (a.conn == b.conn) (a.number == b.number) e) in
    let n : a.number ≡ b.number = grind (arith, nat_tests, both_right (a.conn == b.conn) (a.number == b.number) e) in
    ap (λ v. record { conn = v; number = a.number }) c ∙ ap (λ v. record { conn = b.conn; number = v }) n

pub same_call_refl : (a : CallId) → is_same_call a a ≡ true
same_call_refl a = both (a.conn == a.conn) (a.number == a.number) (grind (arith, nat_tests)) (grind (arith, nat_tests))

pub same_number : (a b : ℕ) → (a == b) ≡ true → a ≡ b
same_number a b e = grind (arith, nat_tests, e)
