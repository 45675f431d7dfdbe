use Rattle.std.proofs.Common.{◌≡◌, ◌<◌, ◌≤◌, ◌+◌, ◌-◌, ℕ, List, nat_lt, length, take, refl, sym, subst, ap, ◌∙◌, arith}
use Rattle.std.specs.Vec.{with_items}
use Rattle.std.proofs.lemmas.List.{take_at}
use Rattle.grid_edge.specs.Given.{Given, after_piece}
use Rattle.live_control.specs.Reading.{AreFirst}
use Rattle.live_control.specs.declared.lines.LineReader.{LineReader}
use Rattle.live_control.proofs.Looking.{first_lines, lines_so_far}
use Rattle.live_control.proofs.MoreRead.{has_read}
use Rattle.live_control.proofs.lines.LineReader.read.Goals as goal

pub returns-in_default-clause-read : goal.returns-in_default-clause-read
returns-in_default-clause-read g c = λ came given h.
    let r = c.args.self.now in
    let same : g.S.Source.given c.read.new.self ≡ g.S.Source.given c.args.script.now = c.in_default.ensures.none_given in (
      same,
      lines_so_far r (g.S.Source.given c.args.script.now) came given h c.requires.going c.requires.spent c.requires.within,
      subst (λ (source : Given). AreFirst given source came) (sym same) (first_lines r (g.S.Source.given c.args.script.now) came given r.line.items h),
    )

pub returns-clause-read : goal.returns-clause-read
returns-clause-read g c = λ came given h.
    let r = c.args.self.now in
    let n = c.in-Ok.count in
    let new : LineReader = record {
      piece = with_items r.piece c.read.new.into;
      from = 0;
      to = c.min-self.result;
      line = r.line;
      lines = r.lines;
      bytes = r.bytes + c.min-self.result;
      is_over = nat_lt (16777216 - r.bytes) n;
      has_ended = r.has_ended;
    } in
    let long : length c.read.new.into ≡ length r.piece.items = c.read.auto.into ∙ ap length c.as_mut_slice.ensures.value in
    let items : (with_items r.piece c.read.new.into).items ≡ c.read.new.into = take_at c.read.new.into _ r.piece.len (long ∙ sym r.piece.ok.0) in
    let fits : n ≤ length (with_items r.piece c.read.new.into).items = subst (λ (l : List ℕ). n ≤ length l) (sym items) c.in-Ok.ensures.within in
    let some : 0 < length c.read.new.into = let size = h.size in omega (arith, long, size, r.piece.ok.0) in
    let before : Given = g.S.Source.given c.args.script.now in
    let after : Given = g.S.Source.given c.read.new.self in
    let room : ℕ = length c.read.new.into in
    has_read r before after came given h c.requires.going c.requires.spent c.requires.within
    new n refl refl refl refl fits refl c.min-self.ensures refl refl (nat_lt 0 n) refl room some (subst (λ (l : List ℕ). after ≡ after_piece before room n (take n l)) (sym items) c.in-Ok.ensures.given)
