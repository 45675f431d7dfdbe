-- The calls that a connection's passes have seen are those of its messages.
use Rattle.std.proofs.Common.{◌≡◌, ℕ, zero, suc, ◌<◌, ◌⊎◌, inl, inr, ⊎_elim, List, [], ◌∷◌, ◌++◌, Contains, refl, sym, ap, ◌∙◌, subst, arith}
use Rattle.grid_base.specs.declared.names.CallId.{CallId}
use Rattle.grid_base.specs.declared.calls.Request.{Request}
use Rattle.hand_cell.specs.declared.names.Key.{Key}
use Rattle.hand_cell.specs.declared.names.Key.TheVariants.{Call as CallKey, Control, Free}
use Rattle.hand_cell.specs.declared.outcome.LiveOutcome.{LiveOutcome}
use Rattle.partition_threads.specs.declared.workplace.Workplace.{Workplace}
use Rattle.session_core.specs.declared.item.Item.{Item}
use Rattle.live_session.specs.Connections.{IsBelow, AreBelow, IsCallOf, AreCallsOf}
use Rattle.live_session.proofs.Numbers.{below_both}
use Rattle.live_session.proofs.Places.{get_front}
use Rattle.live_session.specs.Starts.{Start, Log, start_of}

-- Where an element of two lists stands

pub first_same : {A : Type 0} (x y : A) (xs ys : List A) → x ∷ xs ≡ y ∷ ys → x ≡ y
first_same x y xs ys e = cc

pub rest_same : {A : Type 0} (x y : A) (xs ys : List A) → x ∷ xs ≡ y ∷ ys → xs ≡ ys
rest_same x y xs ys e = cc

-- it stands in the first of them, with the rest of it behind
pub record InFirst {A : Type 0} (first before : List A) (x : A) : Type 0 where
  pub rest : List A
  pub whole : first ≡ before ++ x ∷ rest

-- or in the second
pub record InSecond {A : Type 0} (first second before : List A) (x : A) (after : List A) : Type 0 where
  pub between : List A
  pub before_is : before ≡ first ++ between
  pub whole : second ≡ between ++ x ∷ after

pub in_one : {A : Type 0} (first second before : List A) (x : A) (after : List A) → first ++ second ≡ before ++ x ∷ after → InFirst first before x ⊎ InSecond first second before x after
in_one [] second before x after e = inr (record { between = before; before_is = refl; whole = e })
in_one (y ∷ ys) second [] x after e = inl (record { rest = ys; whole = ap (λ z. z ∷ ys) (first_same y x (ys ++ second) after e) })
in_one (y ∷ ys) second (z ∷ zs) x after e =
    let same = first_same y z (ys ++ second) (zs ++ x ∷ after) e in
    ⊎_elim
    (λ (f : InFirst ys zs x). inl (record { rest = f.rest; whole = ap (λ w. w ∷ ys) same ∙ ap (λ l. z ∷ l) f.whole }))
    (λ (s : InSecond ys second zs x after). inr (record { between = s.between; before_is = ap (λ w. w ∷ zs) (sym same) ∙ ap (λ l. y ∷ l) s.before_is; whole = s.whole }))
    (in_one ys second zs x after (rest_same y z (ys ++ second) (zs ++ x ∷ after) e))

module _ {E : Type 0} (key_of : E → Key) (conn : ℕ) where
  -- what is below a number is below each that is no less
  pub no_less : (number least : ℕ) → (least < number) ⊎ (least ≡ number) → (events : List E) → AreBelow key_of conn least events → AreBelow key_of conn number events
  no_less number least less [] below = tt
  no_less number least less (event ∷ events) below = (one (key_of event) below.0, no_less number least less events below.1)
    where
      one : (key : Key) → IsBelow conn least key → IsBelow conn number key
      one (CallKey id) under = λ mine. let l : id.number < least = under mine in ⊎_elim (λ (m : least < number). omega (arith, l, m)) (λ (m : least ≡ number). omega (arith, l, m)) less
      one Control under = tt
      one Free under = tt

  -- none of them is a call of the connection
  pub none_there : (before after : List E) (event : E) (id : CallId) → AreBelow key_of conn 0 (before ++ event ∷ after) → key_of event ≡ CallKey id → id.conn ≡ conn → ⊥
  none_there [] after event id below key mine = let l : id.number < 0 = subst (λ (k : Key). IsBelow conn 0 k) key below.0 mine in omega (arith, l)
  none_there (x ∷ before) after event id below key mine = none_there before after event id below.1 key mine

module _ {T P E O : Type 0} (key_of : E → Key) (tells : P → List E → E → LiveOutcome → Type 0) (call_of : ℕ → Request → ℕ → E) (log : Log) (place : Workplace T P E O) where
  -- One call of the connection came behind what was seen: that of one of these messages, later than all that were seen before
  pub record ComesOnce (items : List Item) (conn member partition : ℕ) (seen later : List E) : Type 0 where
    pub before : List E
    pub event : E
    pub after : List E
    pub whole : later ≡ before ++ event ∷ after
    pub id : CallId
    pub key : key_of event ≡ CallKey id
    pub is_call : IsCallOf key_of tells call_of log place items member partition event id
    pub none_before : AreBelow key_of conn 0 before
    pub none_after : AreBelow key_of conn 0 after
    pub behind : AreBelow key_of conn id.number seen

  -- one came, or none
  abbrev pub MayCome : List Item → (conn member partition : ℕ) → (seen later : List E) → Type 0
  MayCome items conn member partition seen later = AreBelow key_of conn 0 later ⊎ ComesOnce items conn member partition seen later

  -- none was seen
  pub none_called : (items : List Item) (conn member partition : ℕ) (seen : List E) → AreBelow key_of conn 0 seen → AreCallsOf key_of tells call_of log place items conn member partition seen
  none_called items conn member partition seen none = λ before after event id whole key mine.
      absurd (none_there key_of conn before after event id (subst (λ (l : List E). AreBelow key_of conn 0 l) whole none) key mine)

  module _ (items : List Item) (conn member partition : ℕ) (seen later : List E) where
    -- it is the one that came
    the_one : (once : ComesOnce items conn member partition seen later) (between after : List E) (event : E) (id : CallId) → later ≡ between ++ event ∷ after → key_of event ≡ CallKey id → id.conn ≡ conn
        → (between ≡ once.before) × (event ≡ once.event)
    the_one once between after event id whole key mine = ⊎_elim
        (λ (f : InFirst once.before between event).
        absurd (none_there key_of conn between f.rest event id (subst (λ (l : List E). AreBelow key_of conn 0 l) f.whole once.none_before) key mine))
        (λ (s : InSecond once.before (once.event ∷ once.after) between event after). last s.between s.before_is s.whole)
        (in_one once.before (once.event ∷ once.after) between event after (sym once.whole ∙ whole))
      where
        nothing_behind : (l : List E) → l ++ [] ≡ l
        nothing_behind [] = refl
        nothing_behind (x ∷ xs) = ap (λ ys. x ∷ ys) (nothing_behind xs)

        last : (middle : List E) → between ≡ once.before ++ middle → once.event ∷ once.after ≡ middle ++ event ∷ after → (between ≡ once.before) × (event ≡ once.event)
        last [] at e = (at ∙ nothing_behind once.before, sym (first_same once.event event once.after after e))
        last (x ∷ xs) at e = absurd (none_there key_of conn xs after event id
            (subst (λ (l : List E). AreBelow key_of conn 0 l) (rest_same once.event x once.after (xs ++ event ∷ after) e) once.none_after) key mine)

    pub calls_more : AreCallsOf key_of tells call_of log place items conn member partition seen → MayCome items conn member partition seen later
        → AreCallsOf key_of tells call_of log place items conn member partition (seen ++ later)
    calls_more calls may = λ before after event id whole key mine. ⊎_elim
        (λ (f : InFirst seen before event). calls before f.rest event id f.whole key mine)
        (λ (s : InSecond seen later before event after). ⊎_elim
        (λ (none : AreBelow key_of conn 0 later). absurd (none_there key_of conn s.between after event id (subst (λ (l : List E). AreBelow key_of conn 0 l) s.whole none) key mine))
        (λ (once : ComesOnce items conn member partition seen later).
        let found = the_one once s.between after event id s.whole key mine in
        came once before event id key (s.before_is ∙ ap (λ l. seen ++ l) found.0) found.1)
        may)
        (in_one seen later before event after whole)
      where
        same_call : (a b : CallId) → CallKey a ≡ CallKey b → a ≡ b
        same_call a b e = cc

        zero_or_less : (n : ℕ) → (0 < n) ⊎ (0 ≡ n)
        zero_or_less zero = inr refl
        zero_or_less (suc n) = inl (omega arith)

        came : (once : ComesOnce items conn member partition seen later) (before : List E) (event : E) (id : CallId) → key_of event ≡ CallKey id → before ≡ seen ++ once.before → event ≡ once.event
            → IsCallOf key_of tells call_of log place items member partition event id × AreBelow key_of conn id.number before
        came once before event id key at same =
            let named : once.id ≡ id = same_call once.id id (sym once.key ∙ (ap key_of (sym same) ∙ key)) in (
              subst (λ (e : E). IsCallOf key_of tells call_of log place items member partition e id) (sym same)
                  (subst (λ (i : CallId). IsCallOf key_of tells call_of log place items member partition once.event i) named once.is_call),
              subst (λ (l : List E). AreBelow key_of conn id.number l) (sym at)
                  (subst (λ (i : CallId). AreBelow key_of conn i.number (seen ++ once.before)) named
                  (below_both key_of conn once.id.number seen once.before once.behind (no_less key_of conn once.id.number 0 (zero_or_less once.id.number) once.before once.none_before))),
            )

  -- the messages go on
  pub calls_longer : (items more : List Item) (conn member partition : ℕ) (seen : List E) → AreCallsOf key_of tells call_of log place items conn member partition seen
      → AreCallsOf key_of tells call_of log place (items ++ more) conn member partition seen
  calls_longer items more conn member partition seen calls = λ before after event id whole key mine.
      let was = calls before after event id whole key mine in (
        record {
          request = was.0.request;
          message = get_front items more id.number _ was.0.message;
          here = was.0.here;
          now = was.0.now;
          given = was.0.given;
          event_is = was.0.event_is;
        },
        was.1,
      )

module _ {T P E O : Type 0} (key_of : E → Key) (tells : P → List E → E → LiveOutcome → Type 0) (call_of : ℕ → Request → ℕ → E) (log log_now : Log) (place : Workplace T P E O) where
  -- with more starts
  pub calls_since : ((one : Start) → Contains log.starts one → Contains log_now.starts one) → (items : List Item) (conn member partition : ℕ) (seen : List E)
      → AreCallsOf key_of tells call_of log place items conn member partition seen → AreCallsOf key_of tells call_of log_now place items conn member partition seen
  calls_since among items conn member partition seen calls = λ before after event id whole key mine.
      let was = calls before after event id whole key mine in (
        record {
          request = was.0.request;
          message = was.0.message;
          here = was.0.here;
          now = was.0.now;
          given = among (start_of was.0.request was.0.now) was.0.given;
          event_is = was.0.event_is;
        },
        was.1,
      )
