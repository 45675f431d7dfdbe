-- The head of what is said is read as it was written.
use Rattle.std.proofs.Common.{◌≡◌, ℕ, ◌<◌, ◌≤◌, ◌^◌, ℤ, pos, SFits, List, ◌++◌, length, Some, refl, sym, ap, subst, ◌∙◌, append_assoc, arith, length-append}
use Rattle.std.specs.Prelude.{unwrap_or}
use Rattle.std.specs.Int.{w32, w64, to_le_bytes}
use Rattle.grid_base.specs.Names.{key_of}
use Rattle.fixed_fields.specs.Fields.{int32_at, int64_at, int32_bytes, int64_bytes}
use Rattle.fixed_fields.specs.Requests.{kind_of as kind_in}
use Rattle.fixed_fields.specs.Spelled.{request_head}
use Rattle.fixed_fields.proofs.Written.{int32_read, int64_read, kind_read}
use Rattle.message_frames.specs.Assembly.{first_payload}
use Rattle.session_core.specs.Items.{kind_of as kind_of_message, correlation_of, stated_partition}
use Rattle.session_core.proofs.CallsAt.{below_partitions}
use Rattle.compose_words.specs.Sayings.{message_of, IsPlaced}
use Rattle.compose_words.specs.Layout.{kind_of, partition_of, fields_of}
use Rattle.compose_words.specs.declared.saying.Saying.{Saying}
use Rattle.compose_words.specs.declared.saying.Saying.TheVariants.{Hello, Ping, OnMap, OnQueue, WaitOnMap, WaitOnQueue, Listen}
use Rattle.compose_words.specs.Waits.{plain_of}
use Rattle.compose_words.proofs.Layouts.{payload_is, kind_small}

pub record IsHead (payload : List ℕ) (kind : ℕ) (correlation partition : ℤ) : Type 0 where
  pub long : 16 ≤ length payload
  pub kind_is : kind_in payload ≡ Some kind
  pub correlation_is : int64_at payload 4 ≡ Some correlation
  pub stated : int32_at payload 12 ≡ Some partition

head_read : (kind : ℕ) (correlation partition : ℤ) (more : List ℕ) → kind < 2 ^ 31 → SFits w64 correlation → SFits w32 partition → IsHead (request_head kind correlation partition ++ more) kind correlation partition
head_read kind correlation partition more small c p =
    let first : List ℕ = to_le_bytes w32 kind in
    let second : List ℕ = int64_bytes correlation in
    let third : List ℕ = int32_bytes partition in
    record {
      long = omega (arith, length-append (request_head kind correlation partition) more);
      kind_is = ap kind_in (append_assoc (first ++ second) third more ∙ append_assoc first second (third ++ more)) ∙ kind_read kind (second ++ (third ++ more)) small;
      correlation_is = ap (λ bytes. int64_at bytes 4) (append_assoc (first ++ second) third more) ∙ int64_read first (first ++ second) second correlation c refl refl (third ++ more);
      stated = int32_read (first ++ second) more partition p;
    }

partition_fits : (saying : Saying) → IsPlaced saying → SFits w32 (partition_of saying)
partition_fits (Hello authentication) placed = record { sfits = omega arith }
partition_fits Ping placed = record { sfits = omega arith }
partition_fits (OnMap call) placed = let within = below_partitions (key_of call) in record { sfits = omega (arith, within) }
partition_fits (OnQueue partition call) placed = record { sfits = omega (arith, placed) }
partition_fits (WaitOnMap wait timeout) placed = let within = below_partitions (key_of (plain_of wait)) in record { sfits = omega (arith, within) }
partition_fits (WaitOnQueue partition wait timeout) placed = record { sfits = omega (arith, placed) }
partition_fits (Listen listening) placed = record { sfits = omega arith }

pub said_head : (correlation : ℤ) (saying : Saying) → SFits w64 correlation → IsPlaced saying → IsHead (first_payload (message_of correlation saying).frames) (kind_of saying) correlation (partition_of saying)
said_head correlation saying c placed =
    subst (λ payload. IsHead payload (kind_of saying) correlation (partition_of saying)) (sym (payload_is correlation saying))
    (head_read (kind_of saying) correlation (partition_of saying) (fields_of saying) (kind_small saying) c (partition_fits saying placed))

-- as the session reads it
pub record HasHead (correlation : ℤ) (saying : Saying) : Type 0 where
  pub kind : kind_of_message (message_of correlation saying) ≡ kind_of saying
  pub correlation_is : correlation_of (message_of correlation saying) ≡ correlation
  pub stated : stated_partition (message_of correlation saying) ≡ partition_of saying

pub has_head : (correlation : ℤ) (saying : Saying) → SFits w64 correlation → IsPlaced saying → HasHead correlation saying
has_head correlation saying c placed =
    let head = said_head correlation saying c placed in
    record {
      kind = ap (λ found. unwrap_or found 0) head.kind_is;
      correlation_is = ap (λ found. unwrap_or found (pos 0)) head.correlation_is;
      stated = ap (λ found. unwrap_or found (pos 0)) head.stated;
    }
