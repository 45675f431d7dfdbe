use Rattle.std.proofs.Common.{◌<◌, ◌≤◌, rules, List, [], ◌∷◌, length, ap, arith}
use Rattle.frame_codec.specs.declared.frames.Frame.{Frame}
use Rattle.fixed_fields.specs.Spelled.{with_parts}
use Rattle.message_frames.specs.Assembly.{most_frames, most_length}
use Rattle.compose_words.proofs.Writing.{appended_more, same_frames, whole, laid, laid_within, short_of}
use Rattle.compose_words.proofs.message.laid_out.Goals.{then-len-gt-MAX_LENGTH-via-then-len-gt-MAX_LENGTH, then-len-gt-MAX_LENGTH-via-else-len-gt-MAX_LENGTH+then-parts-gt-MAX_PARTS}
use Rattle.compose_words.proofs.message.laid_out.Goals as goal

pub returns-clause-fit : goal.returns-clause-fit
returns-clause-fit c =
    let frames = appended_more _ _ _ _ _ c.in_ok-write_part.ensures.frame c.in_ok-write_parts.ensures.frames in
    let same = same_frames frames (ap {B = List Frame} (λ n. record { flags = n; payload = c.args.payload.now } ∷ with_parts c.args.parts.now []) c.first_flags.ensures) in
    let short : length c.from_vec-bytes.result ≤ most_length = omega arith in
    let few : length c.args.parts.now < most_frames = omega arith in
    laid c.args.payload.now c.from_vec-bytes.result c.args.parts.now (whole c.new-bytes.ensures.items c.from_vec-bytes.ensures same) short few

pub returns-in_err-write_part-clause-long : goal.returns-in_err-write_part-clause-long
returns-in_err-write_part-clause-long c e fit = c.in_err-write_part.ensures.long (search (rules, e)) (short_of c.args.payload.now c.args.parts.now fit).0

pub returns-in_err-write_parts-clause-long : goal.returns-in_err-write_parts-clause-long
returns-in_err-write_parts-clause-long c e fit = c.in_err-write_parts.ensures.long (search (rules, e)) (short_of c.args.payload.now c.args.parts.now fit).1

pub returns-then-len-gt-MAX_LENGTH-clause-long : goal.returns-then-len-gt-MAX_LENGTH-clause-long
returns-then-len-gt-MAX_LENGTH-clause-long c e fit =
    let frames = appended_more _ _ _ _ _ c.in_ok-write_part.ensures.frame c.in_ok-write_parts.ensures.frames in
    let same = same_frames frames (ap {B = List Frame} (λ n. record { flags = n; payload = c.args.payload.now } ∷ with_parts c.args.parts.now []) c.first_flags.ensures) in
    let within = laid_within c.args.payload.now c.from_vec-bytes.result c.args.parts.now (whole c.new-bytes.ensures.items c.from_vec-bytes.ensures same) fit in
    elim c.then-len-gt-MAX_LENGTH.branch [
      | then-len-gt-MAX_LENGTH-via-then-len-gt-MAX_LENGTH w ↦ absurd (omega (arith, within.0))
      | then-len-gt-MAX_LENGTH-via-else-len-gt-MAX_LENGTH+then-parts-gt-MAX_PARTS w ↦ absurd (omega (arith, within.1))
    ]
