-- The test of two records decides whether they are one.
use Rattle.std.proofs.Common.{◌≡◌, ℕ, ◌==◌, Bool, ◌&&◌, Option, Some, None, refl, ap}
use Rattle.std.proofs.lemmas.Bool.Decides.{Decides-eqb, Decides-int_eq, Decides-and, Decides-like}
use Rattle.std.proofs.lemmas.Slice.Eq.{bytes_eq-Decides}
use Rattle.std.specs.Prelude.{nat_eq}
use Rattle.std.specs.Bool.{Decides}
use Rattle.std.specs.Option.{option_eq}
use Rattle.std.specs.Ordering.{int_eq}
use Rattle.std.specs.Cmp.Lexicographic.{pointwise}
use Rattle.grid_base.specs.declared.names.ClientKey.{ClientKey}
use Rattle.grid_base.specs.declared.names.ClientKey.TheVariants.{Known, OfConn}
use Rattle.grid_base.specs.declared.names.Owner.{Owner}
use Rattle.key_locks.specs.declared.locks.Lock.{Lock}
use Rattle.key_locks.specs.Locks.{is_same_client, is_same_owner}
use Rattle.map_records.specs.declared.records.Idle.{Idle}
use Rattle.map_records.specs.declared.records.MapRecord.{MapRecord}
use Rattle.map_records.specs.SameEntries.{is_same_idle, is_same_lock, is_same_entry}

pub option_decides : {X : Type 0} (E : X → X → Bool) → ((a b : X) → Decides (E a b) (a ≡ b)) → (p q : Option X) → Decides (option_eq E p q) (p ≡ q)
option_decides E decides None None = (λ e. refl, λ e. refl)
option_decides E decides None (Some y) = (λ e. cc, λ e. cc)
option_decides E decides (Some x) None = (λ e. cc, λ e. cc)
option_decides E decides (Some x) (Some y) = (λ e. ap Some ((decides x y).0 e), λ e. let same : x ≡ y = cc in (decides x y).1 same)

client_decides : (a b : ClientKey) → Decides (is_same_client a b) (a ≡ b)
client_decides (Known a) (Known b) = (λ e. ap Known ((Decides-eqb a b).0 e), λ e. let same : a ≡ b = cc in (Decides-eqb a b).1 same)
client_decides (OfConn a) (OfConn b) = (λ e. ap OfConn ((Decides-eqb a b).0 e), λ e. let same : a ≡ b = cc in (Decides-eqb a b).1 same)
client_decides (Known a) (OfConn b) = (λ e. cc, λ e. cc)
client_decides (OfConn a) (Known b) = (λ e. cc, λ e. cc)

owner_decides : (a b : Owner) → Decides (is_same_owner a b) (a ≡ b)
owner_decides a b = Decides-like (is_same_owner a b)
    (λ (same : (a.client ≡ b.client) × (a.thread ≡ b.thread)) i. record { client = same.0 i; thread = same.1 i })
    (λ same. (ap (λ owner. owner.client) same, ap (λ owner. owner.thread) same))
    (Decides-and (is_same_client a.client b.client) (int_eq a.thread b.thread) (client_decides a.client b.client) (Decides-int_eq a.thread b.thread))

numbers_decide : (p q : Option ℕ) → Decides (option_eq nat_eq p q) (p ≡ q)
numbers_decide = option_decides nat_eq Decides-eqb

lock_decides : (a b : Lock) → Decides (is_same_lock a b) (a ≡ b)
lock_decides a b = Decides-like (is_same_lock a b)
    (λ (same : ((a.owner ≡ b.owner) × (a.count ≡ b.count)) × (a.until ≡ b.until)) i. record { owner = same.0.0 i; count = same.0.1 i; until = same.1 i })
    (λ same. ((ap (λ lock. lock.owner) same, ap (λ lock. lock.count) same), ap (λ lock. lock.until) same))
    (Decides-and (is_same_owner a.owner b.owner && (a.count == b.count)) (option_eq nat_eq a.until b.until)
    (Decides-and (is_same_owner a.owner b.owner) (a.count == b.count) (owner_decides a.owner b.owner) (Decides-eqb a.count b.count))
    (numbers_decide a.until b.until))

idle_decides : (a b : Idle) → Decides (is_same_idle a b) (a ≡ b)
idle_decides a b = Decides-like (is_same_idle a b)
    (λ (same : (a.span ≡ b.span) × (a.end ≡ b.end)) i. record { span = same.0 i; end = same.1 i })
    (λ same. (ap (λ idle. idle.span) same, ap (λ idle. idle.end) same))
    (Decides-and (a.span == b.span) (a.end == b.end) (Decides-eqb a.span b.span) (Decides-eqb a.end b.end))

abbrev AllSame : MapRecord → MapRecord → Type 0
AllSame a b = (((a.value ≡ b.value) × (a.expires ≡ b.expires)) × (a.idle ≡ b.idle)) × (a.lock ≡ b.lock)

pub entry_decides : (a b : MapRecord) → Decides (is_same_entry a b) (a ≡ b)
entry_decides a b = Decides-like (is_same_entry a b)
    (λ (same : AllSame a b) i. record { value = same.0.0.0 i; expires = same.0.0.1 i; idle = same.0.1 i; lock = same.1 i })
    (λ same. (((ap (λ entry. entry.value) same, ap (λ entry. entry.expires) same), ap (λ entry. entry.idle) same), ap (λ entry. entry.lock) same))
    (Decides-and (option_eq (pointwise nat_eq) a.value b.value && option_eq nat_eq a.expires b.expires && option_eq is_same_idle a.idle b.idle) (option_eq is_same_lock a.lock b.lock)
    (Decides-and (option_eq (pointwise nat_eq) a.value b.value && option_eq nat_eq a.expires b.expires) (option_eq is_same_idle a.idle b.idle)
    (Decides-and (option_eq (pointwise nat_eq) a.value b.value) (option_eq nat_eq a.expires b.expires) (option_decides (pointwise nat_eq) bytes_eq-Decides a.value b.value) (numbers_decide a.expires b.expires))
    (option_decides is_same_idle idle_decides a.idle b.idle))
    (option_decides is_same_lock lock_decides a.lock b.lock))
