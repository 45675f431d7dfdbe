-- Byte by byte both lists are the same.
use Rattle.std.proofs.Common.{◌≡◌, ℕ, ◌<◌, ◌∙◌, sym, map, length, get_or, bit_xor, arith, rules}
use Rattle.std.proofs.lemmas.List.{length-map, same_lists, get_or_default, get_or-map}
use Rattle.link_frames.proofs.answers.masked.Goals as goal

pub returns : goal.returns
returns c =
    let key = c.args.key.now in
    let masked = c.loop-at.masked in
    let long = c.loop-at.invariant.0 in
    let as_long = c.loop-at.invariant.1 in
    let each : (k : ℕ) → k < 64 → get_or masked k 0 ≡ bit_xor (get_or key k 0) c.args.mask = search rules in
    same_lists masked (map (λ byte. bit_xor byte c.args.mask) key) (long ∙ sym (length-map key (λ byte. bit_xor byte c.args.mask) ∙ as_long))
    (λ k d h.
    get_or_default masked k d 0 h
    ∙ each k (omega (arith, h, long))
    ∙ sym (get_or-map (λ byte. bit_xor byte c.args.mask) key k 0 d (omega (arith, h, long, as_long))))
