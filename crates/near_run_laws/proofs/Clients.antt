-- The client of a near connection goes with the machine's.
use Rattle.std.proofs.Common.{◌≡◌, ◌≢◌, ℕ, suc, ◌+◌, Bool, true, false, not, cond, ◌&&◌, ◌||◌, ◌==◌, nat_lt, bytes_eq, List, [], ◌∷◌, map, filter, Option, Some, None, option_map, refl, ap, sym, ◌∙◌, subst, ⊎_elim, arith}
use Rattle.std.specs.Prelude.{ℤ, pos, Ok, Err, drop}
use Rattle.std.specs.List.{find, list_any, AllByRecursion}
use Rattle.std.specs.Option.{option_map_or}
use Rattle.std.specs.Result.{result_ok}
use Rattle.grid_base.specs.declared.refusal.CallRefused.TheVariants.{UnknownType}
use Rattle.grid_base.specs.declared.calls.Request.{Request}
use Rattle.object_store.specs.Partitions.{Partition}
use Rattle.fixed_fields.specs.Requests.{kind_of, reader_in}
use Rattle.message_frames.specs.Assembly.{first_payload}
use Rattle.message_frames.specs.declared.message.Message.{Message}
use Rattle.map_codecs.specs.Calls.{get_kind}
use Rattle.event_codecs.specs.Events.{Reader, events, event_by, event_of, invalidation_kind, rows_kind}
use Rattle.event_codecs.specs.declared.events.ClientEvent.{ClientEvent}
use Rattle.event_codecs.specs.declared.events.ClientEvent.TheVariants as event
use Rattle.event_codecs.specs.declared.seen.SeenRow.{SeenRow}
use Rattle.call_engine.specs.Calls.{Settings}
use Rattle.partition_protocol.proofs.RowFacts.{same_number, number_same, number_other}
use Rattle.partition_protocol.proofs.Lists.{cases}
use Rattle.near_protocol.specs.Keyed.{Keyed}
use Rattle.near_cache.specs.Scopes.{is_in_partition}
use Rattle.near_protocol.specs.Client.{Client, Said, Answer, Refusal, Invalidation, Rows, LookUp, Overtaking, handled}
use Rattle.near_protocol.specs.Client as machine
use Rattle.grid_client.specs.Lists.{erased_by, changed_by}
use Rattle.grid_client.specs.Nears.{Near, Value, Look, has_number, look_up, closed, kept, filled, answered, overtaking, invalidated, cleared}
use Rattle.grid_client.specs.Calls.{correlation_of, number_in, is_answered_by, is_elsewhere, refusing, settled, awaited_number, answered_number}
use Rattle.grid_client.specs.Messages.{head_of, code_of, value_of, accepted_of}
use Rattle.grid_client.specs.Rows.{version_in}
use Rattle.grid_client.specs.States.{State}
use Rattle.grid_client.specs.Hearing.{Told, nothing, near_answered, told_by_answer, is_near_map, told_by_invalidation, clearing, knowing_row, cleared_by, told_by_row, told_by_rows, told_by_event, is_welcome, welcomed, told_by_number, told_by_head, told_by_message}
use Rattle.grid_client.specs.Ties.{GoesByKeys, AreBelow, IsTiedTo, IsAnswerTo, IsNoAnswer}
use Rattle.grid_client.specs.declared.heard.Heard.TheVariants as sayings
use Rattle.grid_client.proofs.Ties.{every_message_is_the_machines}
use Rattle.near_run_laws.specs.Maps.{keyed}
use Rattle.near_run_laws.specs.Hearings.{HasHead}
use Rattle.near_run_laws.specs.Clients.{Call, Head, is_waiting, AreGets, AreAwaited, GoesWith, EveryMessageIsHeard}
use Rattle.near_run_laws.proofs.Maps.{every_map_is_keyed}

-- ---- heads

abbrev pub the_head : ℕ → ℤ → Head
the_head kind correlation = record { kind = kind; correlation = correlation }

pub head_is : (message : Message) (kind : ℕ) (correlation : ℤ) → HasHead message kind correlation → head_of message ≡ Some (the_head kind correlation)
head_is message kind correlation h = rw (h.kind_is, h.correlation_is) refl

number_is : (n : ℕ) → number_in (correlation_of n) ≡ Some n
number_is n = let e : n + 1 ≡ suc n = omega arith in ap (λ k. number_in (pos k)) e

-- ---- lists of calls

-- what goes or is changed isn't what is looked for
any_erased : {X : Type 0} (t p : X → Bool) (xs : List X) → ((x : X) → t x ≡ true → p x ≡ false) → list_any p (erased_by t xs) ≡ list_any p xs
any_erased t p [] f = refl
any_erased {X} t p (x ∷ xs) f = go (t x) refl (any_erased t p xs f)
  where
    go : (b : Bool) → t x ≡ b → list_any p (erased_by t xs) ≡ list_any p xs → list_any p (cond b xs (x ∷ erased_by t xs)) ≡ (p x || list_any p xs)
    go true e ih = sym (ap (λ a. a || list_any p xs) (f x e))
    go false e ih = ap (λ a. p x || a) ih

any_changed : {X : Type 0} (t p : X → Bool) (change : X → X) (xs : List X) → ((x : X) → t x ≡ true → (p x ≡ false) × (p (change x) ≡ false)) → list_any p (changed_by t change xs) ≡ list_any p xs
any_changed t p change [] f = refl
any_changed {X} t p change (x ∷ xs) f = go (t x) refl (any_changed t p change xs f)
  where
    go : (b : Bool) → t x ≡ b → list_any p (changed_by t change xs) ≡ list_any p xs → list_any p (cond b (change x ∷ xs) (x ∷ changed_by t change xs)) ≡ (p x || list_any p xs)
    go true e ih = ap (λ a. a || list_any p xs) ((f x e).1 ∙ sym (f x e).0)
    go false e ih = ap (λ a. p x || a) ih

All-erased : {X : Type 0} (P : X → Type 0) (t : X → Bool) (xs : List X) → AllByRecursion P xs → AllByRecursion P (erased_by t xs)
All-erased P t [] all = tt
All-erased {X} P t (x ∷ xs) all = go (t x) (All-erased P t xs all.1)
  where
    go : (b : Bool) → AllByRecursion P (erased_by t xs) → AllByRecursion P (cond b xs (x ∷ erased_by t xs))
    go true ih = all.1
    go false ih = (all.0, ih)

All-changed : {X : Type 0} (P : X → Type 0) (t : X → Bool) (change : X → X) (xs : List X) → ((x : X) → P x → P (change x)) → AllByRecursion P xs → AllByRecursion P (changed_by t change xs)
All-changed P t change [] f all = tt
All-changed {X} P t change (x ∷ xs) f all = go (t x) (All-changed P t change xs f all.1)
  where
    go : (b : Bool) → AllByRecursion P (changed_by t change xs) → AllByRecursion P (cond b (change x ∷ xs) (x ∷ changed_by t change xs))
    go true ih = (f x all.0, all.1)
    go false ih = (all.0, ih)

All-both : {X : Type 0} (P Q R : X → Type 0) (xs : List X) → ((x : X) → P x → Q x → R x) → AllByRecursion P xs → AllByRecursion Q xs → AllByRecursion R xs
All-both P Q R [] f ps qs = tt
All-both P Q R (x ∷ xs) f ps qs = (f x ps.0 qs.0, All-both P Q R xs f ps.1 qs.1)

-- ---- of gets

and_true : (b : Bool) → (b && true) ≡ b
and_true true = refl
and_true false = refl

and_false : (b : Bool) → (b && false) ≡ false
and_false true = refl
and_false false = refl

-- a message of that type answers gets
any_answered : (c n kind : ℕ) (calls : List Call) → AreGets calls → ((kind == 0) || (kind == get_kind + 1)) ≡ true → list_any (is_answered_by c n kind) calls ≡ list_any (is_waiting c n) calls
any_answered c n kind [] gets e = refl
any_answered c n kind (call ∷ calls) gets e =
    ap (λ k. (is_waiting c n call && ((kind == 0) || (kind == k + 1))) || list_any (is_answered_by c n kind) calls) gets.0
    ∙ ap (λ b. (is_waiting c n call && b) || list_any (is_answered_by c n kind) calls) e
    ∙ ap (λ b. b || list_any (is_answered_by c n kind) calls) (and_true (is_waiting c n call))
    ∙ ap (λ b. is_waiting c n call || b) (any_answered c n kind calls gets.1 e)

-- and one of another type none
pub none_answered : (c n kind : ℕ) (calls : List Call) → AreGets calls → ((kind == 0) || (kind == get_kind + 1)) ≡ false → list_any (is_answered_by c n kind) calls ≡ false
none_answered c n kind [] gets e = refl
none_answered c n kind (call ∷ calls) gets e =
    ap (λ k. (is_waiting c n call && ((kind == 0) || (kind == k + 1))) || list_any (is_answered_by c n kind) calls) gets.0
    ∙ ap (λ b. (is_waiting c n call && b) || list_any (is_answered_by c n kind) calls) e
    ∙ ap (λ b. b || list_any (is_answered_by c n kind) calls) (and_false (is_waiting c n call))
    ∙ none_answered c n kind calls gets.1 e

-- what an answer under one number settles isn't another number's
not_other : (c n k kind : ℕ) (call : Call) → k ≢ n → is_answered_by c n kind call ≡ true → is_waiting c k call ≡ false
not_other c n k kind call apart e = by (call.number == n) refl
  where
    by : (b : Bool) → (call.number == n) ≡ b → is_waiting c k call ≡ false
    by false f = absurd (let clash : false ≡ true = sym (ap (λ b. ((not call.refused && (call.conn == c)) && b) && ((kind == 0) || (kind == call.kind + 1))) f ∙ ap (λ b. b && ((kind == 0) || (kind == call.kind + 1))) (and_false (not call.refused && (call.conn == c)))) ∙ e in cc)
    by true t =
        let same : call.number ≡ n = same_number call.number n t in
        let other : (call.number == k) ≡ false = number_other call.number k (λ z. apart (sym z ∙ same)) in
        ap (λ b. (not call.refused && (call.conn == c)) && b) other ∙ and_false (not call.refused && (call.conn == c))

still_waits : (c n k kind : ℕ) (code : Option ℤ) (calls : List Call) → k ≢ n → list_any (is_waiting c k) calls ≡ true → list_any (is_waiting c k) (settled (is_answered_by c n kind) code calls) ≡ true
still_waits c n k kind code calls apart e = by (option_map_or is_elsewhere code false)
  where
    by : (b : Bool) → list_any (is_waiting c k) (cond b (changed_by (is_answered_by c n kind) refusing calls) (erased_by (is_answered_by c n kind) calls)) ≡ true
    by true = any_changed (is_answered_by c n kind) (is_waiting c k) refusing calls (λ x t. (not_other c n k kind x apart t, refl)) ∙ e
    by false = any_erased (is_answered_by c n kind) (is_waiting c k) calls (λ x t. not_other c n k kind x apart t) ∙ e

still_gets : (c n kind : ℕ) (code : Option ℤ) (calls : List Call) → AreGets calls → AreGets (settled (is_answered_by c n kind) code calls)
still_gets c n kind code calls gets = by (option_map_or is_elsewhere code false)
  where
    by : (b : Bool) → AreGets (cond b (changed_by (is_answered_by c n kind) refusing calls) (erased_by (is_answered_by c n kind) calls))
    by true = All-changed (λ (call : Call). call.kind ≡ get_kind) (is_answered_by c n kind) refusing calls (λ x e. e) gets
    by false = All-erased (λ (call : Call). call.kind ≡ get_kind) (is_answered_by c n kind) calls gets

-- ---- look-ups

abbrev AreOthers : ℕ → List Look → Type 0
AreOthers n looks = AllByRecursion (λ (r : Look). r.number ≢ n) looks

-- the first of a number is all of it
others_left : (next n : ℕ) (looks : List Look) → AreBelow next looks → AreOthers n (erased_by (has_number n) looks)
others_left next n [] are = tt
others_left next n (r ∷ looks) are = by (r.number == n) refl (others_left next n looks are.2)
  where
    by : (b : Bool) → (r.number == n) ≡ b → AreOthers n (erased_by (has_number n) looks) → AreOthers n (cond b looks (r ∷ erased_by (has_number n) looks))
    by true t ih = subst (λ k. AreOthers k looks) (same_number r.number n t) are.1
    by false f ih = (λ e. absurd (let clash : true ≡ false = sym (number_same r.number n e) ∙ f in cc), ih)

none_found : (n : ℕ) (looks : List Look) → find (has_number n) looks ≡ None → AreOthers n looks
none_found n [] e = tt
none_found n (r ∷ looks) e = by (r.number == n) refl e (none_found n looks)
  where
    by : (b : Bool) → (r.number == n) ≡ b → cond b (Some r) (find (has_number n) looks) ≡ None → (find (has_number n) looks ≡ None → AreOthers n looks) → AreOthers n (r ∷ looks)
    by true t s ih = absurd cc
    by false f s ih = (λ z. absurd (let clash : true ≡ false = sym (number_same r.number n z) ∙ f in cc), ih s)

not_found : (n : ℕ) (looks : List Look) → AreOthers n looks → find (λ (r : LookUp (List ℕ)). r.number == n) looks ≡ None
not_found n [] others = refl
not_found n (r ∷ looks) others = ap (λ b. cond b (Some r) (find (λ (q : LookUp (List ℕ)). q.number == n) looks)) (number_other r.number n others.0) ∙ not_found n looks others.1

none_closed : (n : ℕ) (looks : List Look) → AreOthers n looks → filter (λ (r : LookUp (List ℕ)). not (r.number == n)) looks ≡ looks
none_closed n [] others = refl
none_closed n (r ∷ looks) others =
    ap (λ b. cond (not b) (r ∷ filter (λ (q : LookUp (List ℕ)). not (q.number == n)) looks) (filter (λ (q : LookUp (List ℕ)). not (q.number == n)) looks)) (number_other r.number n others.0)
    ∙ ap (λ rs. r ∷ rs) (none_closed n looks others.1)

-- without a call that waits no look-up is open
nobody : (c n : ℕ) (calls : List Call) (looks : List Look) → list_any (is_waiting c n) calls ≡ false → AreAwaited c calls looks → AreOthers n looks
nobody c n calls [] none awaited = tt
nobody c n calls (r ∷ looks) none awaited = (λ e. absurd (let clash : false ≡ true = sym none ∙ ap (λ k. list_any (is_waiting c k) calls) (sym e) ∙ awaited.0 in cc), nobody c n calls looks none awaited.1)

-- an answer leaves the look-ups of other numbers
module _ (n next : ℕ) (near : Near) (below : AreBelow next near.waiting) (P : Look → Type 0) (all : AllByRecursion P near.waiting) where
  abbrev Left : Near → Type 0
  Left new = (new.name ≡ near.name) × AreOthers n new.waiting × AllByRecursion P new.waiting

  closed_left : Left (closed n near)
  closed_left = (refl, others_left next n near.waiting below, All-erased P (has_number n) near.waiting all)

  filled_same : (r : Look) (value : Value) → ((filled r value near).name ≡ near.name) × ((filled r value near).waiting ≡ near.waiting)
  filled_same r value = by r.overtaken
    where
      by : (o : Option Overtaking) → ((option_map_or (λ by. near) o (kept r.key value near)).name ≡ near.name) × ((option_map_or (λ by. near) o (kept r.key value near)).waiting ≡ near.waiting)
      by None = (refl, refl)
      by (Some x) = (refl, refl)

  answered_left : (value : Option Value) → Left (answered n value near)
  answered_left None = closed_left
  answered_left (Some value) = by (look_up n near) refl
    where
      by : (r : Option Look) → look_up n near ≡ r → Left (option_map_or (λ r. closed n (filled r value near)) r near)
      by None e = (refl, none_found n near.waiting e, all)
      by (Some r) e =
          let same = filled_same r value in
          (same.0, subst (λ rs. AreOthers n (erased_by (has_number n) rs)) (sym same.1) closed_left.1, subst (λ rs. AllByRecursion P (erased_by (has_number n) rs)) (sym same.1) closed_left.2)

  near_left : (code : Option ℤ) (value : Option Value) → Left (near_answered n code value near)
  near_left None value = answered_left value
  near_left (Some code) value = closed_left

-- ---- a message that answers a call

module _ (settings : Settings) (client c : ℕ) (name : List ℕ) (s : State) (m : Client (List ℕ) Value) (message : Message) (g : GoesWith c name s m) where
  abbrev l : Keyed Request Partition (List ℕ) Value
  l = keyed settings c name client

  goes : GoesByKeys (keyed settings c name client)
  goes = (every_map_is_keyed settings c name client).1

  -- under a number, of a type that answers gets
  module _ (n kind : ℕ) (h : HasHead message kind (correlation_of n)) (answers : ((kind == 0) || (kind == get_kind + 1)) ≡ true) where
    counted : answered_number c (the_head kind (correlation_of n)) s.calls ≡ cond (list_any (is_waiting c n) s.calls) (Some n) None
    counted = ap (awaited_number c kind s.calls) (number_is n) ∙ ap (λ b. cond b (Some n) None) (any_answered c n kind s.calls g.gets answers)

    abbrev code : Option ℤ
    code = code_of kind message

    -- it is awaited
    module _ (waits : list_any (is_waiting c n) s.calls ≡ true) where
      abbrev it_answers : IsAnswerTo c s message n
      it_answers = record { head = the_head kind (correlation_of n); there = head_is message kind (correlation_of n) h; number_is = counted ∙ ap (λ b. cond b (Some n) None) waits }

      after_is : (told_by_message c message s).after ≡ (told_by_answer c n (the_head kind (correlation_of n)) message s).after
      after_is =
          ap (λ x. (told_by_head c x message s).after) (head_is message kind (correlation_of n) h)
          ∙ ap (λ x. (told_by_number c x (the_head kind (correlation_of n)) message s).after) (counted ∙ ap (λ b. cond b (Some n) None) waits)

      goes_on : (new : Client (List ℕ) Value) → IsTiedTo (told_by_message c message s).after new → GoesWith c name (told_by_message c message s).after new
      goes_on new t = record {
        near = t.near;
        tied = t.tied;
        named = ap (λ (x : Near). x.name) (sym same) ∙ left.0 ∙ g.named;
        gets = subst (λ (z : State). AreGets z.calls) (sym after_is) (still_gets c n kind code s.calls g.gets);
        awaited = subst (λ (z : State). AreAwaited c z.calls t.near.waiting) (sym after_is)
            (subst (λ (x : Near). AreAwaited c (settled (is_answered_by c n kind) code s.calls) x.waiting) same
            (All-both (λ (r : Look). r.number ≢ n) (λ (r : Look). list_any (is_waiting c r.number) s.calls ≡ true) (λ (r : Look). list_any (is_waiting c r.number) (settled (is_answered_by c n kind) code s.calls) ≡ true) (near_answered n code (value_of message) g.near).waiting
            (λ r apart e. still_waits c n r.number kind code s.calls apart e) left.1 left.2));
      }
        where
          left : ((near_answered n code (value_of message) g.near).name ≡ g.near.name) × AreOthers n (near_answered n code (value_of message) g.near).waiting × AreAwaited c s.calls (near_answered n code (value_of message) g.near).waiting
          left = near_left n s.next g.near g.tied.numbers (λ (r : Look). list_any (is_waiting c r.number) s.calls ≡ true) g.awaited code (value_of message)

          same : near_answered n code (value_of message) g.near ≡ t.near
          same = (let both : Some (near_answered n code (value_of message) g.near) ≡ Some t.near = sym (ap (option_map (near_answered n code (value_of message))) g.tied.listens) ∙ ap (λ (z : State). z.near) (sym after_is) ∙ t.tied.listens in cc)

    -- it isn't
    module _ (none : list_any (is_waiting c n) s.calls ≡ false) (other : is_welcome (the_head kind (correlation_of n)) ≡ false) (unknown : event_of message ≡ Err UnknownType) where
      stays : (told_by_message c message s).after ≡ s
      stays =
          ap (λ x. (told_by_head c x message s).after) (head_is message kind (correlation_of n) h)
          ∙ ap (λ x. (told_by_number c x (the_head kind (correlation_of n)) message s).after) (counted ∙ ap (λ b. cond b (Some n) None) none)
          ∙ ap (λ b. (cond b (nothing (welcomed c (accepted_of message) s)) (told_by_event (result_ok (event_of message)) s)).after) other
          ∙ ap (λ r. (told_by_event (result_ok r) s).after) unknown

      not_open : AreOthers n g.near.waiting
      not_open = nobody c n s.calls g.near.waiting none g.awaited

      closed_on : GoesWith c name (told_by_message c message s).after (machine.closed n m)
      closed_on = subst (λ (z : State). GoesWith c name z (machine.closed n m)) (sym stays) (record {
        near = g.near;
        tied = record {
          listens = g.tied.listens;
          capacity = g.tied.capacity;
          entries = g.tied.entries;
          waiting = ap (filter (λ (r : LookUp (List ℕ)). not (r.number == n))) g.tied.waiting ∙ none_closed n g.near.waiting not_open;
          rows = g.tied.rows;
          kept = g.tied.kept;
          asked = g.tied.asked;
          numbers = g.tied.numbers;
        };
        named = g.named;
        gets = g.gets;
        awaited = g.awaited;
      })

      same_on : (reply : List ℕ) → GoesWith c name (told_by_message c message s).after (machine.answered (keyed settings c name client) n reply m)
      same_on reply = subst (λ (z : State). GoesWith c name z (machine.answered (keyed settings c name client) n reply m)) (sym stays)
          (subst (GoesWith c name s) (sym (ap (λ x. elim x [ None ↦ m | Some r ↦ machine.closed n (elim ((keyed settings c name client).value_in reply) [ None ↦ m | Some v ↦ machine.filled (keyed settings c name client) r v m ]) ])
          (ap (find (λ (r : LookUp (List ℕ)). r.number == n)) g.tied.waiting ∙ not_found n g.near.waiting not_open))) g)

  -- ---- an event

  module _ (kind : ℕ) (correlation : ℤ) (h : HasHead message kind correlation) (others : ((kind == 0) || (kind == get_kind + 1)) ≡ false) (other : is_welcome (the_head kind correlation) ≡ false) where
    no_number : answered_number c (the_head kind correlation) s.calls ≡ None
    no_number = by (number_in correlation)
      where
        by : (x : Option ℕ) → awaited_number c kind s.calls x ≡ None
        by None = refl
        by (Some n) = ap (λ b. cond b (Some n) None) (none_answered c n kind s.calls g.gets others)

    no_answer : IsNoAnswer c s message
    no_answer = record { head = the_head kind correlation; there = head_is message kind correlation h; none = no_number; other = other }

    event_is : (said : ClientEvent) → event_of message ≡ Ok said → (told_by_message c message s).after ≡ (told_by_event (Some said) s).after
    event_is said e =
        ap (λ x. (told_by_head c x message s).after) (head_is message kind correlation h)
        ∙ ap (λ x. (told_by_number c x (the_head kind correlation) message s).after) no_number
        ∙ ap (λ b. (cond b (nothing (welcomed c (accepted_of message) s)) (told_by_event (result_ok (event_of message)) s)).after) other
        ∙ ap (λ r. (told_by_event (result_ok r) s).after) e

  -- what an event leaves: the calls, and the numbers of the open look-ups
  abbrev Leaves : State → Type 0
  Leaves z = (z.calls ≡ s.calls) × ((near : Near) × (z.near ≡ Some near) × (near.name ≡ name) × AreAwaited c s.calls near.waiting)

  goes_after : (z : State) (new : Client (List ℕ) Value) → Leaves z → IsTiedTo z new → GoesWith c name z new
  goes_after z new (calls, (near, listens, named, awaited)) t =
      let same : near ≡ t.near = (let both : Some near ≡ Some t.near = sym listens ∙ t.tied.listens in cc) in
      record {
        near = t.near;
        tied = t.tied;
        named = ap (λ (x : Near). x.name) (sym same) ∙ named;
        gets = subst AreGets (sym calls) g.gets;
        awaited = subst (λ cs. AreAwaited c cs t.near.waiting) (sym calls) (subst (λ (x : Near). AreAwaited c s.calls x.waiting) same awaited);
      }

  left_dropping : (test : List ℕ → Bool) (by : Overtaking) (looks : List Look) → AreAwaited c s.calls looks → AreAwaited c s.calls (map (overtaking test by) looks)
  left_dropping test by [] awaited = tt
  left_dropping test by (r ∷ looks) awaited = (subst (λ k. list_any (is_waiting c k) s.calls ≡ true) (sym (same_number_of (test r.key))) awaited.0, left_dropping test by looks awaited.1)
    where
      same_number_of : (b : Bool) → (cond b (record r { overtaken = Some by }) r).number ≡ r.number
      same_number_of true = refl
      same_number_of false = refl

  leaves_now : Leaves s
  leaves_now = (refl, (g.near, g.tied.listens, g.named, g.awaited))

  leaves_invalidated : (key : List ℕ) (version number : ℕ) → Leaves (told_by_invalidation name key version number s).after
  leaves_invalidated key version number = by (is_near_map name s.near)
    where
      by : (b : Bool) → Leaves (cond b (record { after = record s { near = option_map (invalidated key version number) s.near }; heard = sayings.Invalidated ∷ [] }) (nothing s)).after
      by false = leaves_now
      by true = (refl, (invalidated key version number g.near, ap (option_map (invalidated key version number)) g.tied.listens, g.named, left_dropping (bytes_eq key) (record { version = version; number = number }) g.near.waiting g.awaited))

  leaves_row : (row : SeenRow) (z : State) → Leaves z → Leaves (told_by_row row z).after
  leaves_row row z (calls, (near, listens, named, awaited)) = by (version_in row.partition z.rows)
    where
      cleared_now : Leaves (knowing_row row (clearing row z))
      cleared_now = (calls, (cleared row.partition row.version near, ap (option_map (cleared row.partition row.version)) listens, named, left_dropping (is_in_partition row.partition) (record { version = row.version; number = 0 }) near.waiting awaited))

      newer : (version : ℕ) (b : Bool) → Leaves (cond b (record { after = knowing_row row (clearing row z); heard = cleared_by row z.near }) (nothing z)).after
      newer version true = cleared_now
      newer version false = (calls, (near, listens, named, awaited))

      by : (x : Option ℕ) → Leaves (elim x as (λ _. Told) [ None ↦ nothing (knowing_row row z) | Some version ↦ cond (nat_lt version row.version) (record { after = knowing_row row (clearing row z); heard = cleared_by row z.near }) (nothing z) ]).after
      by None = (calls, (near, listens, named, awaited))
      by (Some version) = newer version (nat_lt version row.version)

  leaves_rows : (rows : List SeenRow) (z : State) → Leaves z → Leaves (told_by_rows rows z).after
  leaves_rows [] z left = left
  leaves_rows (row ∷ rows) z left = leaves_rows rows (told_by_row row z).after (leaves_row row z left)

-- ---- of no type that an event has
unknown_event : (message : Message) (kind : ℕ) → kind_of (first_payload message.frames) ≡ Some kind → reader_in (Some kind) events ≡ None → event_of message ≡ Err UnknownType
unfolding event_of
unknown_event message kind e none = ap (λ (reader : Option Reader). event_by (first_payload message.frames) (drop 1 message.frames) reader) (ap (λ (k : Option ℕ). reader_in k events) e ∙ none)

pub every_message_is_heard : EveryMessageIsHeard
every_message_is_heard settings client c name s m message (Answer n reply) g (h, reads) = ⊎_elim waits idle (cases (list_any (is_waiting c n) s.calls))
  where
    waits : list_any (is_waiting c n) s.calls ≡ true → GoesWith c name (told_by_message c message s).after (machine.answered (keyed settings c name client) n reply m)
    waits e =
        let a = it_answers settings client c name s m message g n (get_kind + 1) h refl e in
        goes_on settings client c name s m message g n (get_kind + 1) h refl e (machine.answered (keyed settings c name client) n reply m)
        (every_message_is_the_machines (keyed settings c name client) (goes settings client c name s m message g) c s g.near m message (Answer n reply) (goes settings client c name s m message g) g.tied (a, refl, reads))

    idle : list_any (is_waiting c n) s.calls ≡ false → GoesWith c name (told_by_message c message s).after (machine.answered (keyed settings c name client) n reply m)
    idle e = same_on settings client c name s m message g n (get_kind + 1) h refl e refl (unknown_event message (get_kind + 1) h.kind_is refl) reply
every_message_is_heard settings client c name s m message (Refusal n) g (h, (code, is)) = ⊎_elim waits idle (cases (list_any (is_waiting c n) s.calls))
  where
    waits : list_any (is_waiting c n) s.calls ≡ true → GoesWith c name (told_by_message c message s).after (machine.closed n m)
    waits e =
        let a = it_answers settings client c name s m message g n 0 h refl e in
        goes_on settings client c name s m message g n 0 h refl e (machine.closed n m)
        (every_message_is_the_machines (keyed settings c name client) (goes settings client c name s m message g) c s g.near m message (Refusal n) (goes settings client c name s m message g) g.tied (a, (code, is)))

    idle : list_any (is_waiting c n) s.calls ≡ false → GoesWith c name (told_by_message c message s).after (machine.closed n m)
    idle e = closed_on settings client c name s m message g n 0 h refl e refl (unknown_event message 0 h.kind_is refl)
every_message_is_heard settings client c name s m message (Invalidation key version number) g (correlation, (partition, (h, is))) =
    goes_after settings client c name s m message g (told_by_message c message s).after (handled (keyed settings c name client) (Invalidation key version number) m)
    (subst (Leaves settings client c name s m message g) (sym (event_is settings client c name s m message g invalidation_kind correlation h refl refl (event.Invalidation correlation partition version number name key) is)) (leaves_invalidated settings client c name s m message g key version number))
    (every_message_is_the_machines (keyed settings c name client) (goes settings client c name s m message g) c s g.near m message (Invalidation key version number) (goes settings client c name s m message g) g.tied
    (no_answer settings client c name s m message g invalidation_kind correlation h refl refl, (correlation, (partition, is ∙ ap (λ q. Ok (event.Invalidation correlation partition version number q key)) (sym g.named)))))
every_message_is_heard settings client c name s m message (Rows rows) g (correlation, (seen, (h, (is, rows_are)))) =
    goes_after settings client c name s m message g (told_by_message c message s).after (handled (keyed settings c name client) (Rows rows) m)
    (subst (Leaves settings client c name s m message g) (sym (event_is settings client c name s m message g rows_kind correlation h refl refl (event.Rows correlation seen) is)) (leaves_rows settings client c name s m message g seen s (leaves_now settings client c name s m message g)))
    (every_message_is_the_machines (keyed settings c name client) (goes settings client c name s m message g) c s g.near m message (Rows rows) (goes settings client c name s m message g) g.tied
    (no_answer settings client c name s m message g rows_kind correlation h refl refl, (correlation, (seen, (is, rows_are)))))
