use Rattle.std.proofs.Common.{ℕ, List, length, slice_range, subst, ap, sym, ◌∙◌, arith}
use Rattle.memchr.specs.Find.{Nowhere, NoneBefore, Passes, is_byte}
use Rattle.script_lang.specs.Words.{newline}
use Rattle.live_control.proofs.Ahead.{range_is}
use Rattle.live_control.proofs.Looking.{line_found, line_past, bytes_kept, bytes_past, not_kept}
use Rattle.live_control.proofs.lines.LineReader.look.Goals as goal

pub returns-in-Ok-clause-looked : goal.returns-in-Ok-clause-looked
returns-in-Ok-clause-looked c = λ source came given h.
    let r = c.args.self.now in
    let x = ap (λ (xs : List ℕ). slice_range xs r.from r.to) c.deref.ensures.value ∙ range_is r.piece.items r.from r.to h.placed in
    line_found r source came given h c.requires.going c.in-Some.at (subst (λ (xs : List ℕ). NoneBefore (Passes (is_byte newline) xs) 0 (length xs) c.in-Some.at) x c.in-Some.ensures.0) (subst (λ (xs : List ℕ). Passes (is_byte newline) xs c.in-Some.at) x c.in-Some.ensures.1)
    c.keep.new.self c.in-Ok.ensures.same c.in-Ok.ensures.kept

pub returns-in-Err-clause-looked : goal.returns-in-Err-clause-looked
returns-in-Err-clause-looked c = λ source came given h.
    let r = c.args.self.now in
    let x = ap (λ (xs : List ℕ). slice_range xs r.from r.to) c.deref.ensures.value ∙ range_is r.piece.items r.from r.to h.placed in
    not_kept r source came given h c.requires.going c.in-Err.came c.keep.new.self _ c.in-Err.ensures.same c.in-Err.ensures.kept
    (line_past r source came given h c.requires.going c.in-Some.at (subst (λ (xs : List ℕ). NoneBefore (Passes (is_byte newline) xs) 0 (length xs) c.in-Some.at) x c.in-Some.ensures.0) (subst (λ (xs : List ℕ). Passes (is_byte newline) xs c.in-Some.at) x c.in-Some.ensures.1))

pub returns-in-Ok-keep-clause-looked : goal.returns-in-Ok-keep-clause-looked
returns-in-Ok-keep-clause-looked c = λ source came given h.
    let r = c.args.self.now in
    let x = ap (λ (xs : List ℕ). slice_range xs r.from r.to) c.deref.ensures.value ∙ range_is r.piece.items r.from r.to h.placed in
    let k = c.in-Ok-keep.ensures in
    (bytes_kept r source came given h c.requires.going (subst (λ (xs : List ℕ). Nowhere (Passes (is_byte newline) xs) 0 (length xs)) x c.in-None.ensures) c.keep-in-None.new.self k.same k.kept, k.kept.from ∙ sym k.same.to)

pub returns-in-Err-keep-clause-looked : goal.returns-in-Err-keep-clause-looked
returns-in-Err-keep-clause-looked c = λ source came given h.
    let r = c.args.self.now in
    let x = ap (λ (xs : List ℕ). slice_range xs r.from r.to) c.deref.ensures.value ∙ range_is r.piece.items r.from r.to h.placed in
    not_kept r source came given h c.requires.going c.in-Err-keep.came c.keep-in-None.new.self _ c.in-Err-keep.ensures.same c.in-Err-keep.ensures.kept
    (λ what. bytes_past r source came given h c.requires.going (subst (λ (xs : List ℕ). Nowhere (Passes (is_byte newline) xs) 0 (length xs)) x c.in-None.ensures) what c.if-self.true)

pub returns-in-None-2-clause-looked : goal.returns-in-None-2-clause-looked
returns-in-None-2-clause-looked c = λ source came given h. (h, (let less = h.placed in let more = c.if-self.false in omega (arith, less, more)))
