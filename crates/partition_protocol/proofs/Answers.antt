-- An answer is held by the member that executed its call until it is released, or dropped.
use Rattle.std.proofs.Common.{◌≡◌, ◌≢◌, ℕ, ◌+◌, Bool, true, false, cond, List, [], ◌∷◌, ◌++◌, map, slice_set, Contains, refl, ap, sym, ◌∙◌, subst, ◌⊎◌, ⊎_elim, inl, inr, append_assoc, append-nil}
use Rattle.partition_table.specs.Rows.{is_primary, is_backup, initial_row}
use Rattle.partition_protocol.specs.Messages.{Message, Packet}
use Rattle.partition_protocol.specs.Node.{Held, Node, no_pair, still_held, now_released, is_released, settled, opening_node}
use Rattle.partition_protocol.specs.Adoption.{adopt_as_primary, adopt_as_other, adopted_row, begun, stays_primary, carried_answers}
use Rattle.partition_protocol.specs.Replica.{taking}
use Rattle.partition_protocol.specs.Execution.{executing}
use Rattle.grid_base.specs.Objects.{Object}
use Rattle.partition_protocol.specs.History.{Entry, Called, Reset}
use Rattle.partition_protocol.specs.World.{World, pair_state, start}
use Rattle.partition_protocol.specs.Links.{taken_out, with_packets}
use Rattle.partition_protocol.specs.Events.{Event, Call, delivered, entry_of, executes, happens, run}
use Rattle.partition_protocol.specs.Arrivals.{CallName, name, asked_by, arrivals, calls_in, NamedOnce}
use Rattle.partition_table.specs.declared.Row.{Row}
use Rattle.partition_protocol.specs.Answers.{answered_call, EveryAnswerIsSingle}
use Rattle.partition_protocol.proofs.Lists.{In, in_left, in_right, in_cases, in_contains, contains_in, get_set, on_if}
use Rattle.partition_protocol.proofs.Invariant.{NodeAt}
use Rattle.partition_protocol.proofs.RowFacts.{in_map}
use Rattle.partition_protocol.proofs.Release.{still_in, now_in}
use Rattle.partition_protocol.proofs.Faithful.{adds, run_part_at, part_itself, part_map, part_once, calls_append}
use Rattle.partition_protocol.proofs.Takings.{every_taking}
use Rattle.partition_protocol.proofs.Theorem.{opened_node}
use Rattle.partition_protocol.proofs.Walk.{walk}

-- names that stand once

pub once_append : (xs ys : List CallName) → NamedOnce xs → NamedOnce ys → ((a b : CallName) → In a xs → In b ys → a ≢ b) → NamedOnce (xs ++ ys)
once_append [] ys h k f = k
once_append (x ∷ xs) ys h k f = (first, once_append xs ys h.1 k (λ a b i j. f a b (inr i) j))
  where
    first : (m : CallName) → Contains (xs ++ ys) m → m ≢ x
    first m c = ⊎_elim (λ i. h.0 m (contains_in m xs i)) (λ i e. f x m (inl refl) i (sym e)) (in_cases m xs ys (in_contains m (xs ++ ys) c))

pub once_left : (xs ys : List CallName) → NamedOnce (xs ++ ys) → NamedOnce xs
once_left [] ys h = tt
once_left (x ∷ xs) ys h = (λ m c. h.0 m (contains_in m (xs ++ ys) (in_left m xs ys (in_contains m xs c))), once_left xs ys h.1)

pub once_right : (xs ys : List CallName) → NamedOnce (xs ++ ys) → NamedOnce ys
once_right [] ys h = h
once_right (x ∷ xs) ys h = once_right xs ys h.1

pub once_apart : (xs ys : List CallName) (a b : CallName) → NamedOnce (xs ++ ys) → In a xs → In b ys → a ≢ b
once_apart [] ys a b h i j = absurd i
once_apart (x ∷ xs) ys a b h (inl e) j = λ s. h.0 b (contains_in b (xs ++ ys) (in_right b xs ys j)) (sym s ∙ sym e)
once_apart (x ∷ xs) ys a b h (inr i) j = once_apart xs ys a b h.1 i j

pub map_append : {X Y : Type 0} (f : X → Y) (xs ys : List X) → map f (xs ++ ys) ≡ map f xs ++ map f ys
map_append f [] ys = refl
map_append f (x ∷ xs) ys = ap (λ zs. f x ∷ zs) (map_append f xs ys)

pub map_in : {X Y : Type 0} (f : X → Y) (xs : List X) (y : Y) → In y (map f xs) → (x : X) × In x xs × (f x ≡ y)
map_in f [] y i = absurd i
map_in f (x ∷ xs) y (inl e) = (x, inl refl, e)
map_in f (x ∷ xs) y (inr i) = let r = map_in f xs y i in (r.0, inr r.1, r.2)

-- what is released and what is still held were held
pub now_still : (n : Node) (hs : List Held) → now_released n hs ++ still_held n hs ≡ hs
now_still n [] = refl
now_still n (h ∷ hs) = go (is_released n h.seen) (now_still n hs)
  where
    go : (b : Bool) → now_released n hs ++ still_held n hs ≡ hs → cond b (h ∷ now_released n hs) [] ++ cond b (still_held n hs) (h ∷ hs) ≡ h ∷ hs
    go true e = ap (λ ks. h ∷ ks) e
    go false e = refl

-- the calls that were executed
abbrev pub called_in : {C : Type 0} → List (Entry C) → List CallName
called_in log = map name (calls_in log)

pub record Single {C : Type 0} (w : World C) : Type 0 where
  pub released : NamedOnce (map answered_call w.released)
  pub held : (m : ℕ) (n : Node) → NodeAt w.nodes m n → NamedOnce (map answered_call n.held)
  pub apart : (m k : ℕ) (a b : Node) (g h : Held) → m ≢ k → NodeAt w.nodes m a → NodeAt w.nodes k b → In g a.held → In h b.held → answered_call g ≢ answered_call h
  pub waiting : (m : ℕ) (n : Node) (g h : Held) → NodeAt w.nodes m n → In g n.held → In h w.released → answered_call g ≢ answered_call h
  pub released_called : (h : Held) → In h w.released → In (answered_call h) (called_in w.recorded.log)
  pub held_called : (m : ℕ) (n : Node) (h : Held) → NodeAt w.nodes m n → In h n.held → In (answered_call h) (called_in w.recorded.log)

-- with a log of the same calls
pub same_calls : {C : Type 0} (w u : World C) → u.nodes ≡ w.nodes → u.released ≡ w.released → called_in u.recorded.log ≡ called_in w.recorded.log → Single w → Single u
same_calls {C} w u e f g s = record {
  released = subst (λ rs. NamedOnce (map answered_call rs)) (sym f) s.released;
  held = λ m n at. s.held m n (old m n at);
  apart = λ m k a b x y d i j. s.apart m k a b x y d (old m a i) (old k b j);
  waiting = λ m n x y at i j. s.waiting m n x y (old m n at) i (subst (In y) f j);
  released_called = λ h i. subst (In (answered_call h)) (sym g) (s.released_called h (subst (In h) f i));
  held_called = λ m n h at i. subst (In (answered_call h)) (sym g) (s.held_called m n h (old m n at) i);
}
  where
    old : (m : ℕ) (n : Node) → NodeAt u.nodes m n → NodeAt w.nodes m n
    old m n at = subst (λ ns. NodeAt ns m n) e at

-- a node's step: it holds what it held, or the answer to a call that is executed now
module _ {C : Type 0} (w : World C) (s : Single w) (m : ℕ) (n a : Node) (at : NodeAt w.nodes m n) (lg : List (Entry C))
    (once : NamedOnce (map answered_call a.held))
    (held_before : (h : Held) → In h a.held → In h n.held ⊎ (In (answered_call h) (called_in w.recorded.log) → ⊥))
    (more : (c : CallName) → In c (called_in w.recorded.log) → In c (called_in lg))
    (called : (h : Held) → In h a.held → In (answered_call h) (called_in lg)) where
  pub not_released : (g h : Held) → In g a.held → In h w.released → answered_call g ≢ answered_call h
  not_released g h i j = go (held_before g i)
    where
      go : In g n.held ⊎ (In (answered_call g) (called_in w.recorded.log) → ⊥) → answered_call g ≢ answered_call h
      go (inl k) = s.waiting m n g h at k j
      go (inr f) = λ e. f (subst (λ c. In c (called_in w.recorded.log)) (sym e) (s.released_called h j))

  pub not_held : (k : ℕ) (b : Node) (g h : Held) → m ≢ k → NodeAt w.nodes k b → In g a.held → In h b.held → answered_call g ≢ answered_call h
  not_held k b g h d there i j = go (held_before g i)
    where
      go : In g n.held ⊎ (In (answered_call g) (called_in w.recorded.log) → ⊥) → answered_call g ≢ answered_call h
      go (inl l) = s.apart m k n b g h d at there l j
      go (inr f) = λ e. f (subst (λ c. In c (called_in w.recorded.log)) (sym e) (s.held_called k b h there j))

  abbrev pub now : List Held
  now = now_released a a.held

  abbrev pub still : List Held
  still = still_held a a.held

  pub parts : NamedOnce (map answered_call now ++ map answered_call still)
  parts = subst NamedOnce (ap (map answered_call) (sym (now_still a a.held)) ∙ map_append answered_call now still) once

  pub now_held : (h : Held) → In h now → In h a.held
  now_held h i = (now_in a h a.held i).0

  pub still_is_held : (h : Held) → In h still → In h a.held
  still_is_held h i = still_in a h a.held i

  -- the node that stands at k afterwards
  abbrev pub After : ℕ → Node → Type 0
  After k x = ((k ≡ m) × (settled a ≡ x)) ⊎ ((k ≢ m) × NodeAt w.nodes k x)

  pub settled_single : (u : World C) → u.nodes ≡ slice_set w.nodes m (settled a) → u.released ≡ w.released ++ now_released a a.held → u.recorded.log ≡ lg → Single u
  settled_single u e f l = record {
    released = subst (λ rs. NamedOnce (map answered_call rs)) (sym f) released;
    held = λ k x there. held k x (after k x there);
    apart = λ j k x y g h d p q. apart j k x y g h d (after j x p) (after k y q);
    waiting = λ k x g h there i j. waiting k x g h (after k x there) i (in_cases h w.released now (subst (In h) f j));
    released_called = λ h i. subst (λ z. In (answered_call h) (called_in z)) (sym l) (released_called h (in_cases h w.released now (subst (In h) f i)));
    held_called = λ k x h there i. subst (λ z. In (answered_call h) (called_in z)) (sym l) (held_called k x h (after k x there) i);
  }
    where
      after : (k : ℕ) (x : Node) → NodeAt u.nodes k x → After k x
      after k x there = get_set w.nodes m k (settled a) x (subst (λ ns. NodeAt ns k x) e there)

      released : NamedOnce (map answered_call (w.released ++ now))
      released = subst NamedOnce (sym (map_append answered_call w.released now)) (once_append (map answered_call w.released) (map answered_call now) s.released (once_left (map answered_call now) (map answered_call still) parts) different)
        where
          different : (x y : CallName) → In x (map answered_call w.released) → In y (map answered_call now) → x ≢ y
          different x y i j =
              let h = map_in answered_call w.released x i in
              let g = map_in answered_call now y j in
              λ z. not_released g.0 h.0 (now_held g.0 g.1) h.1 (g.2 ∙ sym z ∙ sym h.2)

      held : (k : ℕ) (x : Node) → After k x → NamedOnce (map answered_call x.held)
      held k x (inl z) = subst (λ (y : Node). NamedOnce (map answered_call y.held)) z.1 (once_right (map answered_call now) (map answered_call still) parts)
      held k x (inr z) = s.held k x z.1

      mine : (x : Node) (h : Held) → settled a ≡ x → In h x.held → In h a.held
      mine x h z i = still_is_held h (subst (λ (y : Node). In h y.held) (sym z) i)

      apart : (j k : ℕ) (x y : Node) (g h : Held) → j ≢ k → After j x → After k y → In g x.held → In h y.held → answered_call g ≢ answered_call h
      apart j k x y g h d (inl p) (inl q) i l = absurd (d (p.0 ∙ sym q.0))
      apart j k x y g h d (inl p) (inr q) i l = not_held k y g h (λ z. q.0 (sym z)) q.1 (mine x g p.1 i) l
      apart j k x y g h d (inr p) (inl q) i l = λ z. not_held j x h g (λ z. p.0 (sym z)) p.1 (mine y h q.1 l) i (sym z)
      apart j k x y g h d (inr p) (inr q) i l = s.apart j k x y g h d p.1 q.1 i l

      waiting : (k : ℕ) (x : Node) (g h : Held) → After k x → In g x.held → In h w.released ⊎ In h now → answered_call g ≢ answered_call h
      waiting k x g h (inl p) i (inl j) = not_released g h (mine x g p.1 i) j
      waiting k x g h (inl p) i (inr j) = λ z. once_apart (map answered_call now) (map answered_call still) (answered_call h) (answered_call g) parts (in_map answered_call now h j)
          (in_map answered_call still g (subst (λ (y : Node). In g y.held) (sym p.1) i)) (sym z)
      waiting k x g h (inr p) i (inl j) = s.waiting k x g h p.1 i j
      waiting k x g h (inr p) i (inr j) = λ z. not_held k x h g (λ z. p.0 (sym z)) p.1 (now_held h j) i (sym z)

      released_called : (h : Held) → In h w.released ⊎ In h now → In (answered_call h) (called_in lg)
      released_called h (inl i) = more (answered_call h) (s.released_called h i)
      released_called h (inr i) = called h (now_held h i)

      held_called : (k : ℕ) (x : Node) (h : Held) → After k x → In h x.held → In (answered_call h) (called_in lg)
      held_called k x h (inl p) i = called h (mine x h p.1 i)
      held_called k x h (inr p) i = more (answered_call h) (s.held_called k x h p.1 i)

-- a node that takes a message holds what it held, or nothing
pub taking_held : (service m from : ℕ) (msg : Message) (n : Node) → ((taking service m from msg n).node.held ≡ n.held) ⊎ ((taking service m from msg n).node.held ≡ [])
taking_held service m from msg n = every_taking m from msg n Holds (record {
  stays = λ u. inl refl;
  adopts = λ row e newer. adopts row;
  syncs = λ row c a e r v b l. r;
  bridges = λ row v c a e r w b s t. r;
  applies = λ v i e b s t. inl refl;
  acks = λ v c e p k b. inl refl;
  freezes = λ v e p k. inl refl;
}) service
  where
    Holds : Node → Type 0
    Holds a = (a.held ≡ n.held) ⊎ (a.held ≡ [])

    adopts : (row : Row) → Holds (adopted_row m row n)
    adopts row =
        on_if Holds (is_primary row m) (adopt_as_primary row (stays_primary row n m) (carried_answers m n) (begun row n)) (cond (is_backup row m) (adopt_as_other row (begun row n).pair) (adopt_as_other row no_pair))
        (on_if (λ hs. (hs ≡ n.held) ⊎ (hs ≡ [])) (is_primary n.known m) n.held [] (inl refl) (inr refl))
        (on_if Holds (is_backup row m) (adopt_as_other row (begun row n).pair) (adopt_as_other row no_pair) (inr refl) (inr refl))

-- an event in which a call's name is new
abbrev pub SingleAfter : {C : Type 0} → World C → Event C → World C → Type 0
SingleAfter w e u = NamedOnce (map name (calls_in w.recorded.log ++ asked_by e)) → Single u

pub single_after : {C State : Type 0} (o : Object C State) (w : World C) → Single w → (e : Event C) → SingleAfter w e (happens o w e).world
single_after {C} o w s = walk o w (SingleAfter w) (λ e ps f. same_calls w (with_packets w ps) refl refl refl s) (λ e m f. same_calls w (record w { crashed = m ∷ w.crashed }) refl refl refl s)
    (λ e v st ps f. same_calls w (record w { service = v; packets = ps; recorded = record w.recorded { standing = st } }) refl refl refl s)
    (λ e v st ps f. same_calls w _ refl refl (ap (map name) (calls_append w.recorded.log (Reset (w.service.row.version + 1) ∷ []) ∙ append-nil (calls_in w.recorded.log))) s)
    (λ e f t i q n j at l z. takes f t i q n at) (λ m conn number call now n at l p f z. call_single m conn number call now n at z)
  where
    takes : (f t i : ℕ) (q : Packet) (n : Node) → NodeAt w.nodes q.to n → Single (delivered (with_packets w (taken_out f t i w.packets)) q n).world
    takes f t i q n at = settled_single w s q.to n a at w.recorded.log once before (λ c i. i) called (delivered (with_packets w (taken_out f t i w.packets)) q n).world refl refl refl
      where
        a : Node
        a = (taking w.members q.to q.from q.message n).node

        held_in : (h : Held) → In h a.held → In h n.held
        held_in h i = ⊎_elim (λ e. subst (In h) e i) (λ e. absurd (subst (In h) e i)) (taking_held w.members q.to q.from q.message n)

        once : NamedOnce (map answered_call a.held)
        once = ⊎_elim (λ e. subst (λ hs. NamedOnce (map answered_call hs)) (sym e) (s.held q.to n at)) (λ e. subst (λ hs. NamedOnce (map answered_call hs)) (sym e) tt) (taking_held w.members q.to q.from q.message n)

        before : (h : Held) → In h a.held → In h n.held ⊎ (In (answered_call h) (called_in w.recorded.log) → ⊥)
        before h i = inl (held_in h i)

        called : (h : Held) → In h a.held → In (answered_call h) (called_in w.recorded.log)
        called h i = s.held_called q.to n h at (held_in h i)

    call_single : (m conn number : ℕ) (call : C) (now : ℕ) (n : Node) → NodeAt w.nodes m n → NamedOnce (map name (calls_in w.recorded.log ++ asked_by (Call m conn number call now)))
        → Single (executes o w m conn number call now n).world
    call_single m conn number call now n at named = settled_single w s m n a at lg once before more called (executes o w m conn number call now n).world refl refl refl
      where
        a : Node
        a = executing (o.changes (pair_state o w n.pair) call now) conn number n

        h : Held
        h = record { conn = conn; number = number; seen = a.pair.count }

        c : CallName
        c = record { conn = conn; number = number }

        lg : List (Entry C)
        lg = w.recorded.log ++ Called (entry_of o (pair_state o w n.pair) conn number call now a.pair) ∷ []

        named' : NamedOnce (called_in w.recorded.log ++ c ∷ [])
        named' = subst NamedOnce (map_append name (calls_in w.recorded.log) (asked_by (Call m conn number call now))) named

        lg_calls : called_in lg ≡ called_in w.recorded.log ++ c ∷ []
        lg_calls = ap (map name) (calls_append w.recorded.log (Called (entry_of o (pair_state o w n.pair) conn number call now a.pair) ∷ [])) ∙ map_append name (calls_in w.recorded.log) (asked_by (Call m conn number call now))

        new : In c (called_in w.recorded.log) → ⊥
        new i = once_apart (called_in w.recorded.log) (c ∷ []) c c named' i (inl refl) refl

        once : NamedOnce (map answered_call a.held)
        once = subst NamedOnce (sym (map_append answered_call n.held (h ∷ []))) (once_append (map answered_call n.held) (c ∷ []) (s.held m n at) (λ k z. absurd (in_contains k [] z), tt) different)
          where
            different : (x y : CallName) → In x (map answered_call n.held) → In y (c ∷ []) → x ≢ y
            different x y i (inl e) = λ z. (let g = map_in answered_call n.held x i in new (subst (λ k. In k (called_in w.recorded.log)) (g.2 ∙ z ∙ sym e) (s.held_called m n g.0 at g.1)))
            different x y i (inr j) = absurd j

        before : (k : Held) → In k a.held → In k n.held ⊎ (In (answered_call k) (called_in w.recorded.log) → ⊥)
        before k i = go (in_cases k n.held (h ∷ []) i)
          where
            go : In k n.held ⊎ In k (h ∷ []) → In k n.held ⊎ (In (answered_call k) (called_in w.recorded.log) → ⊥)
            go (inl j) = inl j
            go (inr (inl e)) = inr (λ j. new (subst (λ (g : Held). In (answered_call g) (called_in w.recorded.log)) (sym e) j))
            go (inr (inr j)) = absurd j

        more : (k : CallName) → In k (called_in w.recorded.log) → In k (called_in lg)
        more k i = subst (In k) (sym lg_calls) (in_left k (called_in w.recorded.log) (c ∷ []) i)

        called : (k : Held) → In k a.held → In (answered_call k) (called_in lg)
        called k i = go (in_cases k n.held (h ∷ []) i)
          where
            go : In k n.held ⊎ In k (h ∷ []) → In (answered_call k) (called_in lg)
            go (inl j) = more (answered_call k) (s.held_called m n k at j)
            go (inr (inl e)) = subst (In (answered_call k)) (sym lg_calls) (in_right (answered_call k) (called_in w.recorded.log) (c ∷ []) (inl (ap answered_call e)))
            go (inr (inr j)) = absurd j

pub run_single : {C State : Type 0} (o : Object C State) (w : World C) (es : List (Event C)) → Single w → NamedOnce (map name (calls_in w.recorded.log ++ arrivals es)) → Single (run o w es)
run_single {C} o w [] s n = s
run_single {C} o w (e ∷ es) s n = run_single o u es (single_after o w s e first) rest
  where
    u : World C
    u = (happens o w e).world

    first : NamedOnce (map name (calls_in w.recorded.log ++ asked_by e))
    first = once_left (map name (calls_in w.recorded.log ++ asked_by e)) (map name (arrivals es))
        (subst NamedOnce (ap (map name) (sym (append_assoc (calls_in w.recorded.log) (asked_by e) (arrivals es))) ∙ map_append name (calls_in w.recorded.log ++ asked_by e) (arrivals es)) n)

    rest : NamedOnce (map name (calls_in u.recorded.log ++ arrivals es))
    rest = part_once (map name (calls_in u.recorded.log ++ arrivals es)) (map name (calls_in w.recorded.log ++ (asked_by e ++ arrivals es)))
        (part_map name (calls_in u.recorded.log ++ arrivals es) (calls_in w.recorded.log ++ (asked_by e ++ arrivals es))
        (run_part_at (calls_in u.recorded.log ++ arrivals es) (calls_in w.recorded.log) (asked_by e) (calls_in u.recorded.log) (arrivals es) (adds o w e) (part_itself (calls_in u.recorded.log ++ arrivals es)))) n

pub start_single : {C : Type 0} (partition members backups : ℕ) → Single (start {C = C} partition members backups)
start_single partition members backups = record {
  released = tt;
  held = λ m n at. subst (λ (y : Node). NamedOnce (map answered_call y.held)) (is m n at) tt;
  apart = λ m k a b g h d i j x y. absurd (subst (λ (z : Node). In g z.held) (sym (is m a i)) x);
  waiting = λ m n g h at i j. absurd j;
  released_called = λ h i. absurd i;
  held_called = λ m n h at i. absurd (subst (λ (z : Node). In h z.held) (sym (is m n at)) i);
}
  where
    is : (m : ℕ) (n : Node) → NodeAt (start {C = ℕ} partition members backups).nodes m n → opening_node (initial_row partition members backups) m ≡ n
    is m n at = opened_node (initial_row partition members backups) members m n at

pub every_answer_is_single : {C State : Type 0} (o : Object C State) → EveryAnswerIsSingle o
every_answer_is_single o partition members backups events named =
    let w = run o (start partition members backups) events in
    let s : Single w = run_single o (start partition members backups) events (start_single partition members backups) named in
    record {
      released = s.released;
      held = s.held;
      apart = λ m k a b g h d i j x y. s.apart m k a b g h d i j (in_contains g a.held x) (in_contains h b.held y);
      waiting = λ m n g h at x y. s.waiting m n g h at (in_contains g n.held x) (in_contains h w.released y);
    }
