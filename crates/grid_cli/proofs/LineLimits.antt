-- A line that is within the limits of a text is within those of a longer one.
use Rattle.std.proofs.Common.{◌≡◌, ℕ, ◌≤◌, arith}
use Rattle.script_lang.specs.Lines.{IsWithin}
use Rattle.script_lang.specs.declared.line.Line.{Line}
use Rattle.script_lang.specs.declared.line.Line.TheVariants.{Grid, OpenConn, Arrive, Clock, Deliver, Lose, Repeat, Flow, FlowAll, Resend, Crash, Detect, Move, Join, Handover, Advance, Reopen, Rebalance, Dump, Links, Trail, Near, NearGet, NearFeed, Masters, Told, MasterDeliver, MasterLose, MasterResend, MasterFlow, Comment, End}

pub within_more : (line : Line) (m n a b : ℕ) → m ≡ n → a ≤ b → IsWithin m a line → IsWithin n b line
within_more (Grid members backups capacity) m n a b same longer w = w
within_more (OpenConn conn member) m n a b same longer w = (w.0, omega (arith, same, w.1))
within_more (Arrive conn bytes) m n a b same longer w = (w.0, w.1, omega (arith, longer, w.2))
within_more (Clock member moment) m n a b same longer w = (omega (arith, same, w.0), w.1)
within_more (Deliver partition from to place) m n a b same longer w = (w.0, omega (arith, same, w.1), omega (arith, same, w.2), w.3)
within_more (Lose partition from to place) m n a b same longer w = (w.0, omega (arith, same, w.1), omega (arith, same, w.2), w.3)
within_more (Repeat partition from to place) m n a b same longer w = (w.0, omega (arith, same, w.1), omega (arith, same, w.2), w.3)
within_more (Flow partition most) m n a b same longer w = w
within_more (FlowAll most) m n a b same longer w = w
within_more (Resend partition end) m n a b same longer w = (w.0, omega (arith, same, w.1))
within_more (Crash member) m n a b same longer w = omega (arith, same, w)
within_more (Detect member) m n a b same longer w = omega (arith, same, w)
within_more (Move partition from to) m n a b same longer w = (w.0, omega (arith, same, w.1), omega (arith, same, w.2))
within_more (Join partition to) m n a b same longer w = (w.0, omega (arith, same, w.1))
within_more (Handover partition from to) m n a b same longer w = (w.0, omega (arith, same, w.1), omega (arith, same, w.2))
within_more (Advance partition) m n a b same longer w = w
within_more (Reopen partition) m n a b same longer w = w
within_more (Rebalance most) m n a b same longer w = w
within_more (Dump partition member) m n a b same longer w = (w.0, omega (arith, same, w.1))
within_more (Links partition) m n a b same longer w = w
within_more (Trail partition) m n a b same longer w = w
within_more (Near conn name capacity) m n a b same longer w = (w.0, w.1, omega (arith, longer, w.2), w.3, w.4)
within_more (NearGet conn key) m n a b same longer w = (w.0, w.1, omega (arith, longer, w.2))
within_more (NearFeed conn most) m n a b same longer w = w
within_more Masters m n a b same longer w = w
within_more (Told member crashed) m n a b same longer w = (omega (arith, same, w.0), omega (arith, same, w.1))
within_more (MasterDeliver partition from to place) m n a b same longer w = (w.0, omega (arith, same, w.1), omega (arith, same, w.2), w.3)
within_more (MasterLose partition from to place) m n a b same longer w = (w.0, omega (arith, same, w.1), omega (arith, same, w.2), w.3)
within_more (MasterResend partition member) m n a b same longer w = (w.0, omega (arith, same, w.1))
within_more (MasterFlow partition most) m n a b same longer w = w
within_more Comment m n a b same longer w = w
within_more End m n a b same longer w = w
