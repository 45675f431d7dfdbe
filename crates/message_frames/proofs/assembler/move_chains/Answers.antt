use Rattle.std.proofs.Common.{◌≡◌, ◌<◌, [], ◌∷◌, ◌++◌, length, get_or, set, take, sym, ◌∙◌, ap, subst, arith, vec_len}
use Rattle.std.specs.Global.{Vec}
use Rattle.std.proofs.lemmas.List.{map-append, take_all}
use Rattle.frame_codec.specs.declared.frames.Frame.{Frame}
use Rattle.message_frames.specs.Lists.{list_at, frames_in}
use Rattle.message_frames.specs.declared.control.OpenChain.{OpenChain}
use Rattle.message_frames.proofs.Live.{IsOfChain}
use Rattle.message_frames.proofs.Rooms.{frames_in-set, frames_read}
use Rattle.message_frames.proofs.Settling.{list_within, more_moved, moved_count, not_of_chain}
use Rattle.message_frames.proofs.assembler.move_chains.Goals as goal

-- what a read past the end would give
abbrev none : OpenChain
none = record { id = 0; list = 0; tally = record { count = 0; bytes = 0; first = 0 } }

pub index_mut-requires : goal.index_mut-requires
index_mut-requires c =
    let below = list_within (frames_in c.args.lists.now.items) c.args.chains.now (vec_len c.args.lists.now) c.loop-chain.chain-index none c.requires.sound c.loop-chain-test.true in
    omega (arith, below, c.loop-chain.invariant.count)

pub push-requires : goal.push-requires
push-requires c =
    let count = moved_count (frames_in c.args.lists.now.items) c.args.chains.now (vec_len c.args.lists.now) c.loop-chain.chain-index none c.requires.sound c.loop-chain-test.true
    c.loop-chain.moved.items (frames_in c.loop-chain.lists.items) (frames_in c.loop-chain.kept.items) c.loop-chain.invariant.moved in
    (omega arith, omega (arith, count, c.requires.few))

pub loop-chain-preserved : goal.loop-chain-preserved
loop-chain-preserved c =
    let chain : OpenChain = get_or c.args.chains.now c.loop-chain.chain-index none in
    let lists = c.loop-chain.lists.items in
    let below = list_within (frames_in c.args.lists.now.items) c.args.chains.now (vec_len c.args.lists.now) c.loop-chain.chain-index none c.requires.sound c.loop-chain-test.true in
    let within : chain.list < length lists = omega (arith, below, c.loop-chain.invariant.count, c.loop-chain.lists.ok) in
    let emptied : frames_in (set lists chain.list c.replace.new.dest) ≡ set (frames_in lists) chain.list [] =
    frames_in-set lists chain.list c.replace.new.dest ∙ ap (λ (list : Vec Frame). set (frames_in lists) chain.list list.items) c.replace.ensures.after ∙ ap (λ frames. set (frames_in lists) chain.list frames) c.new.ensures.items in
    let taken : frames_in c.push_reserved.new.self.items ≡ frames_in c.loop-chain.kept.items ++ list_at (frames_in lists) chain.list ∷ [] =
    ap frames_in c.push_reserved.ensures.items
    ∙ map-append (λ (list : Vec Frame). list.items) c.loop-chain.kept.items (c.replace.result ∷ [])
    ∙ ap (λ (list : Vec Frame). frames_in c.loop-chain.kept.items ++ list.items ∷ []) c.replace.ensures.value
    ∙ ap (λ frames. frames_in c.loop-chain.kept.items ++ frames ∷ []) (sym (frames_read lists chain.list c.index_mut.result.now within c.index_mut.ensures.value)) in
    let pushed : c.push.new.self.items ≡ c.loop-chain.moved.items ++ record chain { list = length c.loop-chain.moved.items } ∷ [] =
    c.push.ensures.items ∙ ap (λ n. c.loop-chain.moved.items ++ record chain { list = n } ∷ []) c.len.ensures.value in
    record {
      moved = rw (pushed, emptied, taken)
          (more_moved (frames_in c.args.lists.now.items) c.args.chains.now (vec_len c.args.lists.now) c.loop-chain.chain-index none c.requires.sound c.loop-chain-test.true
          c.loop-chain.moved.items (frames_in lists) (frames_in c.loop-chain.kept.items) c.loop-chain.invariant.moved);
      count = c.loop-chain.invariant.count;
      kept = omega (arith, c.push_reserved.ensures.len, c.loop-chain.invariant.kept);
      capacity = c.push_reserved.ensures.capacity ∙ c.loop-chain.invariant.capacity;
    }

pub returns-clause-others : goal.returns-clause-others
returns-clause-others c = λ k sound.
    let all : take c.loop-chain.chain-index c.args.chains.now ≡ c.args.chains.now = take_all c.loop-chain.chain-index c.args.chains.now c.loop-chain-test.false in
    c.loop-chain.invariant.moved.others k (λ of. not_of_chain k c.args.chains.now (frames_in c.args.lists.now.items) sound (subst (λ chains. IsOfChain k chains) all of))
