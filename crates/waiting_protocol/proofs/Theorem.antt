-- The theorem of calls that wait.
use Rattle.std.proofs.Common.{ℕ, List, [], ◌++◌, map, ap, subst, ⊎_elim, inl, inr, arith}
use Rattle.grid_base.specs.Objects.{Object}
use Rattle.partition_protocol.specs.Events.{Event}
use Rattle.partition_protocol.specs.Arrivals.{arrivals, name, NamedOnce}
use Rattle.partition_protocol.specs.Claims.{IsSafe, IsFaithful}
use Rattle.partition_protocol.proofs.Lists.{in_contains}
use Rattle.partition_protocol.proofs.Theorem.{every_run_is_safe}
use Rattle.waiting_protocol.specs.Machine.{Waiting, Waits, Terms, start, turned, opened, goes, events_of, after, events}
use Rattle.waiting_protocol.specs.Claims.{IsQuiet, names_in, name_of, EveryWaiterIsRuled, EveryWaiterIsSilent}
use Rattle.waiting_protocol.proofs.Turns.{turn_of, shorter, goes_quiet, after_quiet, all_run}
use Rattle.waiting_protocol.proofs.Names.{count_append, once_count, count_once, all_counts}
use Rattle.waiting_protocol.proofs.Without.{arrives, nothing_depends}
use Rattle.waiting_protocol.proofs.Fates.{as_plain, waits_on}
use Rattle.waiting_protocol.proofs.Sources.{sources, all_few}

pub start_quiet : {C State : Type 0} (o : Object C State) (t : Terms C) (p n b : ℕ) → IsQuiet o t (start p n b)
start_quiet o t p n b x c = absurd (in_contains x [] c)

pub every_waiter_is_ruled : {C State : Type 0} (o : Object C State) → EveryWaiterIsRuled o
every_waiter_is_ruled {C} o t p n b lines =
    let j : Waiting C = after o t (start p n b) lines in
    let happened : List (Event C) = events o t (start p n b) lines in
    let run_is = all_run o t (start p n b) lines in
    let once : NamedOnce (names_in lines) → NamedOnce (map name (arrivals happened)) =
    λ h. count_once (map name (arrivals happened)) (λ k. let a = all_counts o t k (start p n b) lines in let c = once_count k (names_in lines) h in omega (arith, a, c)) in
    record {
      of_events = run_is;
      once = once;
      safe = λ some h. let r = every_run_is_safe o p n b happened some (once h) in (subst (λ w. IsSafe o w) run_is r.0, subst (λ w. IsFaithful happened w) run_is r.1);
      waiting = λ h. count_once (map name (arrivals happened) ++ map name_of j.waiters) (λ k. let a = all_counts o t k (start p n b) lines in let c = once_count k (names_in lines) h in let d = count_append k (map name (arrivals happened)) (map name_of j.waiters) in omega (arith, a, c, d));
      sources = sources o t p n b lines;
      steps = let a = all_few o t (start p n b) lines in omega (arith, a);
      quiet = after_quiet o t (start p n b) lines (start_quiet o t p n b);
      waits = λ x c. waits_on o t j x (after_quiet o t (start p n b) lines (start_quiet o t p n b) x c);
      turns = λ l i. turn_of o t (turned o t i (opened o j l));
      ends = λ l. goes_quiet o t j l;
      shorter = λ l i x h. shorter o t (turned o t i (opened o j l)) x h;
      plain_calls = λ l i x. as_plain o t (turned o t i (opened o j l)) x;
    }

pub every_waiter_is_silent : {C State : Type 0} (o : Object C State) → EveryWaiterIsSilent o
every_waiter_is_silent {C} o t p n b lines more x =
    let j : Waiting C = after o t (start p n b) lines in
    ⊎_elim (λ i. inl i) (λ r. inr (r.0, ap events_of r.1, r.1, nothing_depends o t x more (goes o t j (Waits x)) j r.0))
    (arrives o t x j (after_quiet o t (start p n b) lines (start_quiet o t p n b)))
