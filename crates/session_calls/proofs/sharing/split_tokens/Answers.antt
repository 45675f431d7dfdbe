use Rattle.std.proofs.Common.{◌≡◌, ◌+◌, ◌<◌, ◌∷◌, [], Some, slice_get, set, length, refl, sym, ap, ◌∙◌, arith, rules}
use Rattle.std.proofs.lemmas.List.{length-append}
use Rattle.std.proofs.lemmas.Option.{slice_get_read}
use Rattle.session_calls.proofs.Handed.{no_tokens, tokens_more}
use Rattle.session_calls.proofs.Places.{set_same}
use Rattle.session_calls.proofs.sharing.split_tokens.Goals as goal

pub split_token-requires : goal.split_token-requires
split_token-requires g c =
    let worker = c.args.first + c.loop-at.at in
    let token = c.index_mut.result.now in
    let tokens = c.loop-at.tokens.items in
    let stay = c.loop-at.invariant.stay in
    let within : worker < length tokens = let all = c.requires.workers in let same = ap length stay in let next = c.loop-at-test.true in omega arith in
    (search rules, c.requires.tokens worker token (ap (λ z. slice_get z worker) (sym stay) ∙ slice_get_read tokens (length tokens) worker token refl within c.index_mut.ensures.value))

pub loop-at-init : goal.loop-at-init
loop-at-init g c = record {
  long = ap length c.in_ok-parts.ensures.items;
  parts = no_tokens c.args.place.now c.args.first c.in_ok-parts.parts.items c.in_ok-parts.ensures.items;
  stay = refl;
  room = c.in_ok-parts.ensures.capacity;
}

pub loop-at-preserved : goal.loop-at-preserved
loop-at-preserved g c =
    let was = c.loop-at.invariant in
    let worker = c.args.first + c.loop-at.at in
    let token = c.index_mut.result.now in
    let tokens = c.loop-at.tokens.items in
    let within : worker < length tokens = let all = c.requires.workers in let same = ap length was.stay in let next = c.loop-at-test.true in omega arith in
    let there : slice_get tokens worker ≡ Some token = slice_get_read tokens (length tokens) worker token refl within c.index_mut.ensures.value in record {
      long = ap length c.push_reserved.ensures.items ∙ (length-append c.loop-at.parts.items (c.split_token.result ∷ []) ∙ ap (λ n. n + 1) was.long);
      parts = tokens_more c.args.place.now c.args.first c.loop-at.parts.items _ c.loop-at.at c.split_token.result was.long was.parts c.split_token.ensures.token c.push_reserved.ensures.items;
      stay = ap (set tokens worker) c.split_token.ensures.kept ∙ (set_same tokens worker token there ∙ was.stay);
      room = rw c.push_reserved.ensures.capacity was.room;
    }
