-- The head of a first payload, read as it is spelled: its type, the correlation and the partition.
use Rattle.std.proofs.Common.{◌≡◌, ℕ, ℤ, List, ◌++◌, take, All, Some, option_map, refl, ap, ◌∙◌}
use Rattle.std.specs.Int.{w32, w64, to_le_bytes}
use Rattle.std.specs.Int.RustNames.{FitsSigned}
use Rattle.std.proofs.lemmas.List.Elements.{All-nil, All-head}
use Rattle.std.specs.Prelude.{[], ◌∷◌, ◌<◌}
use Rattle.frame_codec.specs.Laws.{IsBytes}
use Rattle.frame_codec.specs.declared.frames.Frame.{Frame}
use Rattle.fixed_fields.specs.Fields.{int32_at, int32_of, int32_bytes, int64_at, int64_bytes}
use Rattle.fixed_fields.specs.Requests.{kind_of}
use Rattle.fixed_fields.specs.Spelled.{request_head}
use Rattle.fixed_fields.proofs.ReadFields.{int32_is, int64_is, kind_is, take_on}
use Rattle.fixed_fields.proofs.Written.{field_at-written, int32_read, int64_read}
use Rattle.message_frames.specs.Assembly.{first_payload}

-- ---- read, so spelled

pub record HeadIs (kind : ℕ) (payload : List ℕ) (correlation partition : ℤ) : Type 0 where
  pub correlation_fits : FitsSigned w64 correlation
  pub partition_fits : FitsSigned w32 partition
  pub spelled : request_head kind correlation partition ≡ take 16 payload

pub head_found : (kind : ℕ) (payload : List ℕ) → IsBytes payload → kind_of payload ≡ Some kind → (correlation partition : ℤ) → int64_at payload 4 ≡ Some correlation → int32_at payload 12 ≡ Some partition → HeadIs kind payload correlation partition
head_found kind payload bytes typed correlation partition c p =
    let first = kind_is payload kind bytes typed in
    let second = int64_is payload 4 correlation bytes c in
    let third = int32_is payload 12 partition bytes p in
    let front : to_le_bytes w32 kind ++ int64_bytes correlation ≡ take 12 payload = (λ i. first i ++ second.spelled i) ∙ take_on 4 8 payload in
    record { correlation_fits = second.fits; partition_fits = third.fits; spelled = (λ i. front i ++ third.spelled i) ∙ take_on 12 4 payload }

pub first_bytes : (frames : List Frame) → All (λ frame. IsBytes frame.payload) frames → IsBytes (first_payload frames)
first_bytes [] all = All-nil (λ byte. byte < 256)
first_bytes (frame ∷ frames) all = All-head (λ frame. IsBytes frame.payload) frame frames all

-- ---- spelled, so read

module _ (kind : ℕ) (correlation partition : ℤ) (behind : List ℕ) where
  abbrev payload : List ℕ
  payload = request_head kind correlation partition ++ behind

  abbrev before_partition : List ℕ
  before_partition = to_le_bytes w32 kind ++ int64_bytes correlation

  pub correlation_read : FitsSigned w64 correlation → int64_at payload 4 ≡ Some correlation
  correlation_read fits = int64_read (to_le_bytes w32 kind) before_partition (int64_bytes correlation) correlation fits refl refl (int32_bytes partition ++ behind)

  pub partition_read : FitsSigned w32 partition → int32_at payload 12 ≡ Some partition
  partition_read fits = int32_read before_partition behind partition fits

  -- whatever number it is
  pub partition_there : int32_at payload 12 ≡ Some (int32_of (int32_bytes partition))
  partition_there = ap (option_map int32_of) (field_at-written before_partition (int32_bytes partition) behind)
