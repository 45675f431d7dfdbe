-- A history is a part of the log, and the log's calls are a part of those that arrived.
use Rattle.std.proofs.Common.{◌≡◌, ◌≤◌, List, [], ◌∷◌, length, ap, sym, subst, inl, inr, arith}
use Rattle.grid_base.specs.Objects.{Object}
use Rattle.partition_protocol.specs.History.{Executed, Entry, Called, Reset}
use Rattle.partition_protocol.specs.World.{World, start, pair_history}
use Rattle.partition_protocol.specs.Events.{run}
use Rattle.partition_protocol.specs.Arrivals.{arrivals, calls_in}
use Rattle.partition_protocol.specs.HistorySizes.{IsOfTheLog, EveryHistoryIsOfTheLog, asked_of, EveryLoggedCallArrived}
use Rattle.partition_protocol.proofs.Lists.{In, in_contains, contains_in, IsPart, part_subsequence}
use Rattle.partition_protocol.proofs.Histories.{history_good}
use Rattle.partition_protocol.proofs.Faithful.{part_in, run_part}
use Rattle.partition_protocol.proofs.Events.{Good}
use Rattle.partition_protocol.proofs.Theorem.{grid_good}

-- parts

pub part_length : {X : Type 0} (xs ys : List X) → IsPart xs ys → length xs ≤ length ys
part_length xs [] h = let l : length xs ≡ 0 = ap length h in omega (arith, l)
part_length xs (y ∷ ys) (inl h) = let l = part_length xs ys h in omega (arith, l)
part_length {X = X} xs (y ∷ ys) (inr (zs, e, h)) = let l = part_length zs ys h in subst (λ (ks : List X). length ks ≤ length (y ∷ ys)) (sym e) (omega (arith, l))

pub part_calls : {C : Type 0} (es log : List (Entry C)) → IsPart es log → IsPart (calls_in es) (calls_in log)
part_calls es [] h = ap calls_in h
part_calls es (Called x ∷ log) (inl h) = inl (part_calls es log h)
part_calls es (Called x ∷ log) (inr (zs, e, h)) = inr (calls_in zs, ap calls_in e, part_calls zs log h)
part_calls es (Reset r ∷ log) (inl h) = part_calls es log h
part_calls es (Reset r ∷ log) (inr (zs, e, h)) = subst (λ ks. IsPart ks (calls_in log)) (sym (ap calls_in e)) (part_calls zs log h)

-- what stands in a log is among its calls
pub in_calls : {C : Type 0} (log : List (Entry C)) (x : Executed C) → In (Called x) log → In (asked_of x) (calls_in log)
in_calls [] x i = absurd i
in_calls (Called y ∷ log) x (inl e) = let same : y ≡ x = cc in inl (ap asked_of same)
in_calls (Called y ∷ log) x (inr i) = inr (in_calls log x i)
in_calls (Reset r ∷ log) x (inl e) = absurd cc
in_calls (Reset r ∷ log) x (inr i) = in_calls log x i

-- of every run

pub of_the_log : {C : Type 0} (w : World C) (es : List (Entry C)) → IsPart es w.recorded.log → IsOfTheLog w es
of_the_log w es h =
    let log = w.recorded.log in
    let calls = part_calls es log h in
    record {
      order = part_subsequence es log h;
      entries = λ x c. contains_in x log (part_in es log x h (in_contains x es c));
      calls = λ a c. contains_in a (calls_in log) (part_in (calls_in es) (calls_in log) a calls (in_contains a (calls_in es) c));
      size = part_length es log h;
      calls_size = part_length (calls_in es) (calls_in log) calls;
    }

pub every_history_is_of_the_log : {C State : Type 0} (o : Object C State) → EveryHistoryIsOfTheLog o
every_history_is_of_the_log o partition members backups events p one =
    let w = run o (start partition members backups) events in
    let g : Good o w = grid_good o partition members backups events one in
    of_the_log w (pair_history w p) (history_good o w.recorded.openings w.recorded.log w.recorded.bases p g.1.content.rising g.1.content.good).order

pub every_logged_call_arrived : {C State : Type 0} (o : Object C State) → EveryLoggedCallArrived o
every_logged_call_arrived {C = C} o partition members backups events = record {
  order = part_subsequence (calls_in log) (arrivals events) part;
  each = λ x c. contains_in (asked_of x) (arrivals events) (part_in (calls_in log) (arrivals events) (asked_of x) part (in_calls log x (in_contains (Called x) log c)));
  size = part_length (calls_in log) (arrivals events) part;
}
  where
    log : List (Entry C)
    log = (run o (start partition members backups) events).recorded.log

    part : IsPart (calls_in log) (arrivals events)
    part = run_part o (start partition members backups) events
