-- The derived test of two records tests the same parts, grouped in another way.
use Rattle.std.proofs.Common.{◌≡◌, ◌==◌, ℕ, ℤ, Bool, true, false, ◌&&◌, Option, Some, None, refl, ap, ◌∙◌}
use Rattle.std.specs.Prelude.{nat_eq}
use Rattle.std.specs.Option.{option_eq}
use Rattle.std.specs.Ordering.{int_eq}
use Rattle.std.specs.Cmp.Lexicographic.{pointwise}
use Rattle.grid_base.specs.declared.names.ClientKey.{ClientKey}
use Rattle.grid_base.specs.declared.names.ClientKey.TheVariants.{Known, OfConn}
use Rattle.key_locks.specs.declared.locks.Lock.{Lock}
use Rattle.key_locks.specs.contracts.locks.LockPartialEq.TheImpl.{eq-value}
use Rattle.key_locks.specs.Locks.{is_same_client}
use Rattle.map_records.specs.SameEntries.{is_same_idle, is_same_lock}
use Rattle.call_engine.proofs.entries.is_same.Goals as goal

three_tests : (a b c : Bool) → (a && (b && c)) ≡ ((a && b) && c)
three_tests true b c = refl
three_tests false b c = refl

four_tests : (a b c d : Bool) → (a && (b && (c && d))) ≡ (((a && b) && c) && d)
four_tests true b c d = three_tests b c d
four_tests false b c d = refl

same_parts : (client client' : ClientKey) (thread thread' : ℤ) (count count' : ℕ) (until until' : Option ℕ)
    → eq-value.it (record { owner = record { client = client; thread = thread }; count = count; until = until }) (record { owner = record { client = client'; thread = thread' }; count = count'; until = until' })
    ≡ ((is_same_client client client' && int_eq thread thread') && ((count == count') && option_eq nat_eq until until'))
same_parts (Known a) (Known b) thread thread' count count' until until' = refl
same_parts (Known a) (OfConn b) thread thread' count count' until until' = refl
same_parts (OfConn a) (Known b) thread thread' count count' until until' = refl
same_parts (OfConn a) (OfConn b) thread thread' count count' until until' = refl

same_lock : (a b : Lock) → eq-value.it a b ≡ is_same_lock a b
same_lock a b = same_parts a.owner.client b.owner.client a.owner.thread b.owner.thread a.count b.count a.until b.until ∙ three_tests (is_same_client a.owner.client b.owner.client && int_eq a.owner.thread b.owner.thread) (a.count == b.count) (option_eq nat_eq a.until b.until)

same_locks : (a b : Option Lock) → option_eq eq-value.it a b ≡ option_eq is_same_lock a b
same_locks None None = refl
same_locks None (Some b) = refl
same_locks (Some a) None = refl
same_locks (Some a) (Some b) = same_lock a b

same_entries : (value expires idle : Bool) (a b : Option Lock) → (value && (expires && (idle && option_eq eq-value.it a b))) ≡ (((value && expires) && idle) && option_eq is_same_lock a b)
same_entries value expires idle a b = four_tests value expires idle (option_eq eq-value.it a b) ∙ ap (λ locks. ((value && expires) && idle) && locks) (same_locks a b)

pub returns : goal.returns
returns c =
    let a = c.args.kept.now in
    let b = c.args.next.now in
    c.eq.ensures ∙ same_entries (option_eq (pointwise nat_eq) a.value b.value) (option_eq nat_eq a.expires b.expires) (option_eq is_same_idle a.idle b.idle) a.lock b.lock
