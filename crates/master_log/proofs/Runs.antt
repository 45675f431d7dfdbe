-- A call runs as the machine's event, or leaves the masters as they were.
use Rattle.std.proofs.Common.{◌≡◌, ℕ, zero, suc, ◌<◌, ◌≤◌, Bool, true, false, cond, ◌==◌, List, [], ◌∷◌, ◌++◌, length, Some, get_or, slice_get, slice_set, refl, ap, sym, ◌∙◌, subst, ◌⊎◌, ⊎_elim}
use Rattle.std.specs.Prelude.{vec_len, Result, Ok, Err, OnErr}
use Rattle.std.proofs.lemmas.List.{length-map}
use Rattle.std.proofs.lemmas.Option.{slice_get_past}
use Rattle.partition_protocol.proofs.Lists.{Every, cases, on_cond, every_get, every_filter}
use Rattle.partition_protocol.proofs.Theorem.{map_get}
use Rattle.partition_protocol.proofs.RowFacts.{both_left, both_right, same_number}
use Rattle.partition_protocol.specs.Sequences.{IsFrontOf}
use Rattle.partition_protocol.specs.World.{map_or}
use Rattle.partition_table.specs.Rows.{is_among}
use Rattle.masters_protocol.specs.Members.{Member, Sent, Step, Outcome, Done, Dropped, Ask, quiet, begins, gatherer, with_told, to_each, peers, hearing, taking}
use Rattle.masters_protocol.specs.Machine.{Masters as Machine, Packet, Event, Told, Deliver, Lose, Happened, nothing, done, refused, start, run, happens, is_live, is_on, link, with_packets, taken_out, with_member, sending, publishing, stepped, at_member, handed_over, at_place}
use Rattle.link_net.specs.Links.{HasLists, list_of}
use Rattle.master_wire.specs.declared.decision.Decision.{Decision}
use Rattle.master_wire.specs.Spelling.{spelling, IsSpelled}
use Rattle.master_member.specs.Steps.{settled, settling, AreWritten, HasStepped}
use Rattle.master_log.specs.declared.masters.Masters.{Masters}
use Rattle.master_log.specs.Standing.{size_of, Shows, StandsFor, run_of, next_of, HasRun, IsKept}
use Rattle.master_log.proofs.Whole as whole
use Rattle.master_log.proofs.Agreement.{some_at}
use Rattle.master_log.proofs.Showing.{less, every_from, spells, member_shows}

module _ (old new : Masters) (events : List (Event Decision)) (stands : StandsFor old events) (same : size_of new ≡ size_of old) where
  -- the event has run
  pub ran : (e : Event Decision) (x : Outcome) → x ≡ (next_of old events e).outcome → Shows new (next_of old events e).world → HasRun old new events e x
  ran e x is shows = record {
    outcome = is;
    stands = record {
      some = subst (λ k. 1 ≤ k) (sym same) stands.some;
      most = subst (λ k. k ≤ 8) (sym same) stands.most;
      shows = subst (λ k. Shows new (run (start k) (events ++ e ∷ []))) (sym same) (subst (Shows new) (sym (whole.next (size_of old) events stands.some stands.most e)) shows);
    };
    size = same;
  }

  -- it comes to that
  pub ran_to : (e : Event Decision) (w : Machine Decision) (x : Outcome) → next_of old events e ≡ refused w x → Shows new w → HasRun old new events e x
  ran_to e w x is shows = ran e x (sym (ap (λ (h : Happened Decision). h.outcome) is)) (subst (λ (h : Happened Decision). Shows new h.world) (sym is) shows)

  -- it has not run
  pub was_kept : Shows new (run_of old events) → IsKept old new events
  was_kept shows = record {
    stands = record {
      some = subst (λ k. 1 ≤ k) (sym same) stands.some;
      most = subst (λ k. k ≤ 8) (sym same) stands.most;
      shows = subst (λ k. Shows new (run (start k) events)) (sym same) shows;
    };
    size = same;
  }

-- an event at a live member

module _ (w : Machine Decision) (m : ℕ) (n : Member Decision) (at : slice_get w.members m ≡ Some n) (lives : is_live w m ≡ true) where
  pub at_live : (f : Member Decision → Happened Decision) → at_member w m f ≡ f n
  at_live f = ap (λ b. cond b (map_or (slice_get w.members m) (nothing w) f) (nothing w)) lives ∙ ap (λ o. map_or o (nothing w) f) at

  pub told_there : (x : ℕ) → is_among w.crashed x ≡ true → happens w (Told m x) ≡ stepped w m (hearing w.size m x n)
  told_there x e = ap (λ b. cond b (at_member w m (λ k. stepped w m (hearing w.size m x k))) (nothing w)) e ∙ at_live (λ k. stepped w m (hearing w.size m x k))

-- and who is told answers so, whatever it does
pub heard : (size m x : ℕ) (n : Member Decision) → Done ≡ (hearing size m x n).outcome
heard size m x n = on_cond (λ (s : Step Decision). Done ≡ s.outcome) (begins m (with_told x n)) (record { member = gatherer m (with_told x n); sent = to_each (Ask m) (peers size m (with_told x n)); outcome = Done }) (quiet (with_told x n) Done) (λ e. refl) (λ e. refl)

pub dead : (w : Machine Decision) (m : ℕ) (f : Member Decision → Happened Decision) → is_live w m ≡ false → at_member w m f ≡ nothing w
dead w m f e = ap (λ b. cond b (map_or (slice_get w.members m) (nothing w) f) (nothing w)) e

pub told_nowhere : (w : Machine Decision) (m x : ℕ) → (is_among w.crashed x ≡ false) ⊎ (is_live w m ≡ false) → happens w (Told m x) ≡ nothing w
told_nowhere w m x h = ⊎_elim
    (λ e. ap (λ b. cond b (at_member w m (λ k. stepped w m (hearing w.size m x k))) (nothing w)) e)
    (λ e. ap (λ h. cond (is_among w.crashed x) h (nothing w)) (dead w m (λ k. stepped w m (hearing w.size m x k)) e) ∙ either (is_among w.crashed x))
    h
  where
    either : (b : Bool) → cond b (nothing w) (nothing w) ≡ nothing w
    either true = refl
    either false = refl

-- a whole step of a member, where v is the machine but for what is in flight

module _ (old : Masters) (events : List (Event Decision)) (stands : StandsFor old events) (e : Event Decision) (v : Machine Decision) (members : v.members ≡ (run_of old events).members) (crashed : v.crashed ≡ (run_of old events).crashed) (size : v.size ≡ (run_of old events).size) (published : v.published ≡ (run_of old events).published)
    (m : ℕ) (n : Member Decision) (at : slice_get v.members m ≡ Some n) (lives : is_live v m ≡ true) (s : Step Decision) (is : next_of old events e ≡ stepped v m s) where
  abbrev pub after : Member Decision
  after = settled v.size m s.member

  -- what is published stands in its log then
  pub front : IsFrontOf v.published after.log
  front = subst (λ p. IsFrontOf p after.log) (sym published) (whole.kept (size_of old) events stands.some stands.most e m after (live_then, there_then))
    where
      world_is : (next_of old events e).world ≡ publishing (whole.moved v m n at s) m
      world_is = ap (λ (h : Happened Decision). h.world) is ∙ whole.whole v m n at s

      live_then : is_live (next_of old events e).world m ≡ true
      live_then = ap (λ (u : Machine Decision). is_live u m) world_is ∙ whole.published_live (whole.moved v m n at s) m m ∙ lives

      there_then : slice_get (next_of old events e).world.members m ≡ Some after
      there_then = ap (λ (u : Machine Decision). slice_get u.members m) world_is ∙ whole.at_after v m n at s

  -- the code has the member, and then what it sent, and what is published
  pub step_ran : (base mid new : Masters) → Shows base v → (then : Member Decision) (out : List (ℕ × List ℕ)) → HasStepped old.size m s then out
      → mid.size ≡ base.size → vec_len mid.members ≡ vec_len base.members → mid.members.items ≡ slice_set base.members.items m then → mid.crashed ≡ base.crashed → mid.publisher ≡ base.publisher → mid.published ≡ base.published → mid.links.ends ≡ base.links.ends → HasLists mid.links (list_of base.links)
      → ((u : Machine Decision) (all : List (Sent Decision)) → Shows mid u → AreWritten out all → Shows new (publishing (sending u m all) m)) → size_of new ≡ size_of old → (x : Outcome) → x ≡ s.outcome → HasRun old new events e x
  step_ran base mid new shows then out stepped size' count set crashed' publisher published' ends lists finish same x answer =
      ran old new events stands same e x (answer ∙ sym (ap (λ (h : Happened Decision). h.outcome) is))
      (subst (Shows new) (sym (ap (λ (h : Happened Decision). h.world) is ∙ whole.whole v m n at s))
      (finish (with_member v m after) (s.sent ++ settling v.size m s.member)
      (member_shows base v shows m n at after front mid size' count (set ∙ ap (slice_set base.members.items m) whole_step.member) crashed' publisher published' ends lists) whole_step.sent))
    where
      whole_step : HasStepped v.size m s then out
      whole_step = subst (λ k. HasStepped k m s then out) (stands.shows.size ∙ sym size) stepped

-- what is read at a place is what stands there
read_there : {X : Type 0} (xs : List X) (k : ℕ) (x y : X) → slice_get xs k ≡ Some y → x ≡ get_or xs k x → x ≡ y
read_there [] k x y there read = absurd cc
read_there (z ∷ zs) zero x y there read = cc
read_there (z ∷ zs) (suc k) x y there read = read_there zs k x y there read

-- a message that is delivered

module _ (old : Masters) (w : Machine Decision) (shows : Shows old w) (f t i : ℕ) where
  -- the code's list is as long as the link
  pub long : length (list_of old.links f t) ≡ length (link f t w.packets)
  long = ap (λ xs. length xs) (shows.links f t) ∙ length-map (link f t w.packets) spells

  pub packet_at : i < length (list_of old.links f t) → (p : Packet Decision) × (slice_get (link f t w.packets) i ≡ Some p)
  packet_at l = some_at (link f t w.packets) i (subst (λ k. i < k) long l)

  module _ (p : Packet Decision) (at : slice_get (link f t w.packets) i ≡ Some p) where
    pub is_here : is_on f t p ≡ true
    is_here = passes_of (link_all f t w.packets) p at
      where
        link_all : (f t : ℕ) (ps : List (Packet Decision)) → Every (λ (q : Packet Decision). is_on f t q ≡ true) (link f t ps)
        link_all f t [] = tt
        link_all f t (q ∷ ps) = ⊎_elim
            (λ e. subst (λ b. Every (λ (q : Packet Decision). is_on f t q ≡ true) (cond b (q ∷ link f t ps) (link f t ps))) (sym e) (e, link_all f t ps))
            (λ e. subst (λ b. Every (λ (q : Packet Decision). is_on f t q ≡ true) (cond b (q ∷ link f t ps) (link f t ps))) (sym e) (link_all f t ps))
            (cases (is_on f t q))

        passes_of : Every (λ (q : Packet Decision). is_on f t q ≡ true) (link f t w.packets) → (q : Packet Decision) → slice_get (link f t w.packets) i ≡ Some q → is_on f t q ≡ true
        passes_of h q e = every_get (λ (q : Packet Decision). is_on f t q ≡ true) (link f t w.packets) i q h e

    pub from_is : p.from ≡ f
    from_is = same_number p.from f (both_left (p.from == f) (p.to == t) is_here)

    pub to_is : p.to ≡ t
    to_is = same_number p.to t (both_right (p.from == f) (p.to == t) is_here)

    -- its bytes stand there
    pub bytes_are : slice_get (list_of old.links f t) i ≡ Some (spelling p.message)
    bytes_are = ap (λ xs. slice_get xs i) (shows.links f t) ∙ map_get spells (link f t w.packets) i p at

    pub read_bytes : (list : List (List ℕ)) (bytes : List ℕ) → list ≡ list_of old.links f t → bytes ≡ get_or list i bytes → bytes ≡ spelling p.message
    read_bytes list bytes same read = read_there list i bytes (spelling p.message) (subst (λ xs. slice_get xs i ≡ Some (spelling p.message)) (sym same) bytes_are) read

    pub is_spelled : IsSpelled p.message
    is_spelled = every_get (λ (q : Packet Decision). IsSpelled q.message) (link f t w.packets) i p (every_filter (λ (q : Packet Decision). IsSpelled q.message) (is_on f t) w.packets (every_from (λ (q : Packet Decision). IsSpelled q.message) w.packets shows.spelled)) at

    pub placed : (g : Packet Decision → Happened Decision) → at_place w f t i g ≡ g p
    placed g = ap (λ o. map_or o (nothing w) g) at

    pub lost_there : happens w (Lose f t i) ≡ done (less w f t i)
    lost_there = placed (λ q. done (with_packets w (taken_out f t i w.packets)))

    pub dropped_there : is_live w t ≡ false → happens w (Deliver f t i) ≡ refused (less w f t i) Dropped
    dropped_there e =
        placed (λ q. handed_over (less w f t i) q)
        ∙ ap (λ k. cond (is_live w k) (at_member (less w f t i) k (λ n. stepped (less w f t i) k (taking k p.from p.message n))) (refused (less w f t i) Dropped)) to_is
        ∙ ap (λ b. cond b (at_member (less w f t i) t (λ n. stepped (less w f t i) t (taking t p.from p.message n))) (refused (less w f t i) Dropped)) e

    pub taken_there : (n : Member Decision) → slice_get w.members t ≡ Some n → is_live w t ≡ true → happens w (Deliver f t i) ≡ stepped (less w f t i) t (taking t f p.message n)
    taken_there n there lives =
        placed (λ q. handed_over (less w f t i) q)
        ∙ ap (λ k. cond (is_live w k) (at_member (less w f t i) k (λ j. stepped (less w f t i) k (taking k p.from p.message j))) (refused (less w f t i) Dropped)) to_is
        ∙ ap (λ b. cond b (at_member (less w f t i) t (λ j. stepped (less w f t i) t (taking t p.from p.message j))) (refused (less w f t i) Dropped)) lives
        ∙ at_live (less w f t i) t n there lives (λ j. stepped (less w f t i) t (taking t p.from p.message j))
        ∙ ap (λ k. stepped (less w f t i) t (taking t k p.message n)) from_is

  pub nothing_there : (g : Packet Decision → Happened Decision) → length (list_of old.links f t) ≤ i → at_place w f t i g ≡ nothing w
  nothing_there g past = ap (λ o. map_or o (nothing w) g) (slice_get_past (link f t w.packets) i (subst (λ k. k ≤ i) long past))

-- want of memory

pub on_err : {X E : Type 0} (r : Result X E) (P : Type 0) → P → OnErr r P
on_err (Ok x) P p = tt
on_err (Err e) P p = p
