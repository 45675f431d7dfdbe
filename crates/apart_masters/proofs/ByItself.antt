-- Each member is what its own list of steps makes of it, and so is each master. What was executed and answered only grows.
use Rattle.std.proofs.Common.{◌≡◌, ◌≢◌, ℕ, ◌<◌, List, [], ◌∷◌, ◌++◌, map, length, drop, Option, Some, None, slice_get, refl, ap, sym, ◌∙◌, subst, ◌⊎◌, inl, inr, arith, append_assoc, append-nil}
use Rattle.grid_base.specs.Objects.{Object}
use Rattle.partition_table.specs.Rows.{initial_row}
use Rattle.partition_protocol.specs.Node.{Held}
use Rattle.partition_protocol.specs.Service.{numbers_below}
use Rattle.partition_protocol.specs.History.{Executed, Called, Reset}
use Rattle.partition_protocol.specs.World.{map_or}
use Rattle.partition_protocol.proofs.Lists.{In, in_left, in_right, in_cases, in_contains, contains_in, every_in, every_from_in, set_get_same, set_get_other}
use Rattle.partition_protocol.proofs.RowFacts.{number_same, number_other, number_cases}
use Rattle.partition_protocol.proofs.Answers.{map_in}
use Rattle.partition_protocol.proofs.Extends.{same, front_trans}
use Rattle.partition_protocol.proofs.Theorem.{map_get, get-numbers_below}
use Rattle.masters_protocol.specs.Members.{Member, Sent}
use Rattle.masters_protocol.specs.Machine.{Packet, opening_member, taken_out, packets_from}
use Rattle.masters_protocol.proofs.Events.{every_taken_out}
use Rattle.apart_protocol.specs.Contents.{Parcel}
use Rattle.apart_protocol.specs.Member as partition
use Rattle.apart_protocol.specs.Member.{opening, member_after, sent_over, executed_over, released_over}
use Rattle.apart_protocol.specs.Rulings.{Ruling, rules}
use Rattle.apart_protocol.specs.Machine as apart
use Rattle.apart_protocol.specs.Machine.{Apart, bare}
use Rattle.apart_protocol.specs.Claims.{sent_by}
use Rattle.apart_protocol.proofs.ByItself as alone
use Rattle.apart_protocol.proofs.ByItself.{Longer, bare_from, longer}
use Rattle.apart_masters.specs.Master.{Own, IsTold, Takes, Proposes, Resends, Done, does, master_after, told_over, says}
use Rattle.apart_masters.specs.Machine.{Ruled, Step, Acts, Leads, Says, Crash, begin, in_flight, ruled, all_ruled, with_masters, led, said, goes, after, acts_of, leads_of}
use Rattle.apart_masters.specs.Claims.{EveryOneIsByItself, EveryRunExtends, ruled_after}

-- each master by its own list

-- a message without its sender
abbrev pub sent_of : Packet Ruling → Sent Ruling
sent_of q = record { to = q.to; message = q.message }

pub flew_before : (m place : ℕ) (own : Own) (ps : List (Packet Ruling)) (q : Packet Ruling) → In q (in_flight m place own ps) → In q ps
flew_before m place (Takes from message) ps q i = every_in (λ z. In z ps) (taken_out from m place ps) q (every_taken_out (λ z. In z ps) from m place ps (every_from_in (λ z. In z ps) ps (λ z k. k))) i
flew_before m place (IsTold k) ps q i = i
flew_before m place (Proposes r) ps q i = i
flew_before m place Resends ps q i = i

pub from_sender : (k : ℕ) (ss : List (Sent Ruling)) (q : Packet Ruling) → In q (packets_from k ss) → (q.from ≡ k) × In (sent_of q) ss
from_sender k ss q i =
    let r = map_in (λ (s : Sent Ruling). let z : Packet Ruling = record { from = k; to = s.to; message = s.message } in z) ss q i in
    (ap (λ (z : Packet Ruling). z.from) (sym r.2), subst (λ (z : Packet Ruling). In (sent_of z) ss) r.2 r.1)

module _ {C State : Type 0} (o : Object C State) (p n b m : ℕ) where
  -- the master is this one, and what is in flight from it is among this
  pub record Leading (j : Ruled C State) (x : Member Ruling) (ts : List (Sent Ruling)) : Type 0 where
    pub there : slice_get j.masters.members m ≡ Some x
    pub told : (q : Packet Ruling) → In q j.masters.packets → q.from ≡ m → In (sent_of q) ts

  pub mine : (j : Ruled C State) (x : Member Ruling) (ts : List (Sent Ruling)) (place : ℕ) (own : Own) → Leading j x ts
      → Leading (goes o p n b j (Leads m place own)) (does n m own x).member (ts ++ (does n m own x).sent)
  mine j x ts place own h = subst (λ k. Leading k (does n m own x).member (ts ++ (does n m own x).sent)) (sym so) (record {
    there = set_get_same j.masters.members m (does n m own x).member x h.there;
    told = λ q i e. by q e (in_cases q (in_flight m place own j.masters.packets) (packets_from m (does n m own x).sent) i);
  })
    where
      so : goes o p n b j (Leads m place own) ≡ with_masters p n b j (led j.masters m place own (does n m own x))
      so = ap (λ z. map_or z j (λ y. with_masters p n b j (led j.masters m place own (does n m own y)))) h.there

      by : (q : Packet Ruling) → q.from ≡ m → In q (in_flight m place own j.masters.packets) ⊎ In q (packets_from m (does n m own x).sent) → In (sent_of q) (ts ++ (does n m own x).sent)
      by q e (inl i) = in_left (sent_of q) ts (does n m own x).sent (h.told q (flew_before m place own j.masters.packets q i) e)
      by q e (inr i) = in_right (sent_of q) ts (does n m own x).sent (from_sender m (does n m own x).sent q i).1

  pub others : (j : Ruled C State) (x : Member Ruling) (ts : List (Sent Ruling)) (k place : ℕ) (own : Own) → k ≢ m → Leading j x ts → Leading (goes o p n b j (Leads k place own)) x ts
  others j x ts k place own d h = go (slice_get j.masters.members k)
    where
      by : (y : Member Ruling) (q : Packet Ruling) → q.from ≡ m → In q (in_flight k place own j.masters.packets) ⊎ In q (packets_from k (does n k own y).sent) → In (sent_of q) ts
      by y q e (inl i) = h.told q (flew_before k place own j.masters.packets q i) e
      by y q e (inr i) = absurd (d (sym (from_sender k (does n k own y).sent q i).0 ∙ e))

      go : (y : Option (Member Ruling)) → Leading (map_or y j (λ z. with_masters p n b j (led j.masters k place own (does n k own z)))) x ts
      go None = h
      go (Some y) = record {
        there = set_get_other j.masters.members k m (does n k own y).member (λ e. d (sym e)) ∙ h.there;
        told = λ q i e. by y q e (in_cases q (in_flight k place own j.masters.packets) (packets_from k (does n k own y).sent) i);
      }

  abbrev pub LeadingThen : Ruled C State → Member Ruling → List (Sent Ruling) → List Own → Type 0
  LeadingThen j x ts owns = Leading j (master_after n m x owns) (ts ++ told_over n m x owns)

  pub leads_over : (j : Ruled C State) (x : Member Ruling) (ts : List (Sent Ruling)) (ss : List (Step C State)) → Leading j x ts → LeadingThen (after o p n b j ss) x ts (leads_of m ss)
  leads_over j x ts [] h = record { there = h.there; told = λ q i e. subst (In (sent_of q)) (sym (append-nil ts)) (h.told q i e) }
  leads_over j x ts (Acts k own ∷ ss) h = leads_over (goes o p n b j (Acts k own)) x ts ss (record { there = h.there; told = h.told })
  leads_over j x ts (Crash k ∷ ss) h = leads_over (goes o p n b j (Crash k)) x ts ss (record { there = h.there; told = h.told })
  leads_over j x ts (Says k ∷ ss) h = leads_over (goes o p n b j (Says k)) x ts ss (go (slice_get j.masters.members k))
    where
      go : (y : Option (Member Ruling)) → Leading (map_or y j (λ z. let i : Ruled C State = record { apart = said p n b j.apart k z; masters = j.masters } in i)) x ts
      go None = h
      go (Some y) = record { there = h.there; told = h.told }
  leads_over j x ts (Leads k place own ∷ ss) h = go (number_cases k m) (λ y us t. leads_over (goes o p n b j (Leads k place own)) y us ss t)
    where
      go : (k ≡ m) ⊎ (k ≢ m)
          → ((y : Member Ruling) (us : List (Sent Ruling)) → Leading (goes o p n b j (Leads k place own)) y us → LeadingThen (after o p n b (goes o p n b j (Leads k place own)) ss) y us (leads_of m ss))
          → LeadingThen (after o p n b j (Leads k place own ∷ ss)) x ts (leads_of m (Leads k place own ∷ ss))
      go (inl e) rest =
          let owns : own ∷ leads_of m ss ≡ leads_of m (Leads k place own ∷ ss) = sym (rw (number_same k m e) refl) in
          let d : Done = does n m own x in
          let r = rest d.member (ts ++ d.sent) (subst (λ i. Leading (goes o p n b j (Leads i place own)) (does n m own x).member (ts ++ (does n m own x).sent)) (sym e) (mine j x ts place own h)) in
          subst (LeadingThen (after o p n b j (Leads k place own ∷ ss)) x ts) owns (record {
            there = r.there;
            told = λ q i z. subst (In (sent_of q)) (append_assoc ts d.sent (told_over n m d.member (leads_of m ss))) (r.told q i z);
          })
      go (inr d) rest =
          let owns : leads_of m ss ≡ leads_of m (Leads k place own ∷ ss) = sym (rw (number_other k m d) refl) in
          subst (LeadingThen (after o p n b j (Leads k place own ∷ ss)) x ts) owns (rest x ts (others j x ts k place own d h))

-- and each member

module _ {C State : Type 0} (o : Object C State) (p n b m : ℕ) (small : m < n) where
  abbrev pub Is : Apart C State → partition.Member C State → List (Parcel C State) → List (Executed C) → List Held → Type 0
  Is a x qs es hs = alone.Is o p n b m small a x qs es hs

  -- a ruling changes neither members nor what was sent
  pub all_ruled_is : (a : Apart C State) (x : partition.Member C State) (qs : List (Parcel C State)) (es : List (Executed C)) (hs : List Held) (rs : List Ruling) → Is a x qs es hs → Is (all_ruled p n b a rs) x qs es hs
  all_ruled_is a x qs es hs [] h = h
  all_ruled_is a x qs es hs (r ∷ rs) h = all_ruled_is (ruled a (rules p n b r a.service)) x qs es hs rs (record {
    there = h.there;
    sent = h.sent;
    executed = λ z i. in_left (Called z) a.log (map Reset (rules p n b r a.service).resets) (h.executed z i);
    released = h.released;
  })

  pub said_is : (a : Apart C State) (x : partition.Member C State) (qs : List (Parcel C State)) (es : List (Executed C)) (hs : List Held) (k : ℕ) (y : Member Ruling) → Is a x qs es hs → Is (said p n b a k y) x qs es hs
  said_is a x qs es hs k y h = record {
    there = h.there;
    sent = alone.sent_more o p n b m small a.sent (map (bare n) (says p n b k y)) ∙ ap (λ zs. zs ++ sent_by m (map (bare n) (says p n b k y))) h.sent
        ∙ ap (λ zs. qs ++ zs) (alone.sent_others o p n b m small n (map (bare n) (says p n b k y)) (omega (arith, small)) (bare_from C State n (says p n b k y))) ∙ append-nil qs;
    executed = h.executed;
    released = h.released;
  }

  abbrev pub IsThen : Apart C State → partition.Member C State → List (Parcel C State) → List (Executed C) → List Held → List (partition.Own C State) → Type 0
  IsThen a x qs es hs owns = alone.IsThen o p n b m small a x qs es hs owns

  pub acts_over : (j : Ruled C State) (x : partition.Member C State) (qs : List (Parcel C State)) (es : List (Executed C)) (hs : List Held) (ss : List (Step C State)) → Is j.apart x qs es hs
      → IsThen (after o p n b j ss).apart x qs es hs (acts_of m ss)
  acts_over j x qs es hs [] h = record {
    there = h.there;
    sent = h.sent ∙ sym (append-nil qs);
    executed = λ y i. h.executed y (subst (In y) (append-nil es) i);
    released = λ g i. h.released g (subst (In g) (append-nil hs) i);
  }
  acts_over j x qs es hs (Crash k ∷ ss) h = acts_over (goes o p n b j (Crash k)) x qs es hs ss (record { there = h.there; sent = h.sent; executed = h.executed; released = h.released })
  acts_over j x qs es hs (Says k ∷ ss) h = acts_over (goes o p n b j (Says k)) x qs es hs ss (go (slice_get j.masters.members k))
    where
      go : (y : Option (Member Ruling)) → Is (map_or y j (λ z. let i : Ruled C State = record { apart = said p n b j.apart k z; masters = j.masters } in i)).apart x qs es hs
      go None = h
      go (Some y) = said_is j.apart x qs es hs k y h
  acts_over j x qs es hs (Leads k place own ∷ ss) h = acts_over (goes o p n b j (Leads k place own)) x qs es hs ss (go (slice_get j.masters.members k))
    where
      go : (y : Option (Member Ruling)) → Is (map_or y j (λ z. with_masters p n b j (led j.masters k place own (does n k own z)))).apart x qs es hs
      go None = h
      go (Some y) = all_ruled_is j.apart x qs es hs (drop (length j.masters.published) (led j.masters k place own (does n k own y)).published) h
  acts_over j x qs es hs (Acts k own ∷ ss) h = go (number_cases k m) (λ y ps fs gs t. acts_over (goes o p n b j (Acts k own)) y ps fs gs ss t)
    where
      go : (k ≡ m) ⊎ (k ≢ m)
          → ((y : partition.Member C State) (ps : List (Parcel C State)) (fs : List (Executed C)) (gs : List Held) → Is (goes o p n b j (Acts k own)).apart y ps fs gs → IsThen (after o p n b (goes o p n b j (Acts k own)) ss).apart y ps fs gs (acts_of m ss))
          → IsThen (after o p n b j (Acts k own ∷ ss)).apart x qs es hs (acts_of m (Acts k own ∷ ss))
      go (inl e) rest =
          let owns : own ∷ acts_of m ss ≡ acts_of m (Acts k own ∷ ss) = sym (rw (number_same k m e) refl) in
          let d : partition.Done C State = partition.does o n m own x in
          let r = rest d.member (qs ++ d.sent) (es ++ d.executed) (hs ++ d.released) (alone.mine o p n b m small j.apart x qs es hs h k own e) in
          subst (IsThen (after o p n b j (Acts k own ∷ ss)).apart x qs es hs) owns (record {
            there = r.there;
            sent = r.sent ∙ append_assoc qs d.sent (sent_over o n m d.member (acts_of m ss));
            executed = λ y i. r.executed y (subst (In y) (sym (append_assoc es d.executed (executed_over o n m d.member (acts_of m ss)))) i);
            released = λ g i. r.released g (subst (In g) (sym (append_assoc hs d.released (released_over o n m d.member (acts_of m ss)))) i);
          })
      go (inr d) rest =
          let owns : acts_of m ss ≡ acts_of m (Acts k own ∷ ss) = sym (rw (number_other k m d) refl) in
          subst (IsThen (after o p n b j (Acts k own ∷ ss)).apart x qs es hs) owns (rest x qs es hs (alone.others o p n b m small j.apart x qs es hs h k own d))

pub every_one_is_by_itself : {C State : Type 0} (o : Object C State) → EveryOneIsByItself o
every_one_is_by_itself o p n b steps m l =
    let x = opening o (initial_row p n b) m in
    let all = acts_over o p n b m l (begin o p n b) x [] [] [] steps (record {
      there = map_get (opening o (initial_row p n b)) (numbers_below n) m m (get-numbers_below n m l);
      sent = refl;
      executed = λ y i. absurd i;
      released = λ h i. absurd i;
    }) in
    let a = (ruled_after o p n b steps).apart in
    let leading = leads_over o p n b m (begin o p n b) (opening_member m) [] steps (record { there = map_get opening_member (numbers_below n) m m (get-numbers_below n m l); told = λ q i e. absurd i }) in
    record {
      member = all.there;
      sent = all.sent;
      executed = λ y c. contains_in _ a.log (all.executed y (in_contains y (executed_over o n m x (acts_of m steps)) c));
      released = λ h c. contains_in h a.released (all.released h (in_contains h (released_over o n m x (acts_of m steps)) c));
      master = leading.there;
      told = λ q c e. contains_in (sent_of q) (told_over n m (opening_member m) (leads_of m steps)) (leading.told q (in_contains q (ruled_after o p n b steps).masters.packets c) e);
    }

-- what was executed and answered

pub after_append : {C State : Type 0} (o : Object C State) (p n b : ℕ) (j : Ruled C State) (ss ts : List (Step C State)) → after o p n b j (ss ++ ts) ≡ after o p n b (after o p n b j ss) ts
after_append o p n b j [] ts = refl
after_append o p n b j (s ∷ ss) ts = after_append o p n b (goes o p n b j s) ss ts

pub all_longer : {C State : Type 0} (p n b : ℕ) (a : Apart C State) (rs : List Ruling) → Longer a (all_ruled p n b a rs)
all_longer p n b a [] = (same a.log, same a.released)
all_longer p n b a (r ∷ rs) =
    let c = ruled a (rules p n b r a.service) in
    let rest = all_longer p n b c rs in
    (front_trans a.log c.log (all_ruled p n b c rs).log (map Reset (rules p n b r a.service).resets, refl) rest.0, rest.1)

pub step_longer : {C State : Type 0} (o : Object C State) (p n b : ℕ) (j : Ruled C State) (s : Step C State) → Longer j.apart (goes o p n b j s).apart
step_longer o p n b j (Acts m own) = longer o p n b j.apart (apart.Acts m own)
step_longer o p n b j (Crash m) = longer o p n b j.apart (apart.Crash m)
step_longer {C} {State} o p n b j (Says m) = go (slice_get j.masters.members m)
  where
    go : (y : Option (Member Ruling)) → Longer j.apart (map_or y j (λ z. let i : Ruled C State = record { apart = said p n b j.apart m z; masters = j.masters } in i)).apart
    go None = (same j.apart.log, same j.apart.released)
    go (Some y) = (same j.apart.log, same j.apart.released)
step_longer {C} {State} o p n b j (Leads m place own) = go (slice_get j.masters.members m)
  where
    go : (y : Option (Member Ruling)) → Longer j.apart (map_or y j (λ z. with_masters p n b j (led j.masters m place own (does n m own z)))).apart
    go None = (same j.apart.log, same j.apart.released)
    go (Some y) = all_longer p n b j.apart (drop (length j.masters.published) (led j.masters m place own (does n m own y)).published)

pub longer_over : {C State : Type 0} (o : Object C State) (p n b : ℕ) (j : Ruled C State) (ss : List (Step C State)) → Longer j.apart (after o p n b j ss).apart
longer_over o p n b j [] = (same j.apart.log, same j.apart.released)
longer_over o p n b j (s ∷ ss) =
    let k = goes o p n b j s in
    let one = step_longer o p n b j s in
    let rest = longer_over o p n b k ss in
    (front_trans j.apart.log k.apart.log (after o p n b k ss).apart.log one.0 rest.0, front_trans j.apart.released k.apart.released (after o p n b k ss).apart.released one.1 rest.1)

pub every_run_extends : {C State : Type 0} (o : Object C State) → EveryRunExtends o
every_run_extends o p n b steps more =
    subst (λ k. Longer (ruled_after o p n b steps).apart k.apart) (sym (after_append o p n b (begin o p n b) steps more)) (longer_over o p n b (ruled_after o p n b steps) more)
