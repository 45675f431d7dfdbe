-- A near client's look-ups are the machine's.
use Rattle.std.proofs.Common.{◌≡◌, Bool, true, false, ◌&&◌, ◌||◌, ◌==◌, List, [], ◌∷◌, ◌++◌, Some, None, option_map, refl, ap, sym, ◌∙◌, subst}
use Rattle.std.specs.List.{list_any, AllByRecursion}
use Rattle.partition_protocol.proofs.RowFacts.{number_same}
use Rattle.session_core.specs.Places.{partition_of_key}
use Rattle.map_codecs.specs.Calls.{get_kind}
use Rattle.near_protocol.specs.Client.{Client, LookUp}
use Rattle.near_protocol.specs.Client as machine
use Rattle.grid_client.specs.Nears.{Near, Look, used, opened}
use Rattle.grid_client.specs.Calls.{asked_call, sending_of}
use Rattle.grid_client.specs.States.{State, asking, looked, opening_look_up, get_of}
use Rattle.grid_client.specs.Ties.{GoesByKeys, IsTiedTo}
use Rattle.grid_client.proofs.Ties.{every_look_is_the_machines, every_hit_is_the_machines, every_miss_is_the_machines}
use Rattle.near_run_laws.specs.Maps.{keyed}
use Rattle.near_run_laws.specs.Clients.{Call, is_waiting, AreAwaited, GoesWith}
use Rattle.near_run_laws.specs.Looks.{EveryHitIsTheMachines, EveryMissIsTheMachines}
use Rattle.near_run_laws.proofs.Maps.{every_map_is_keyed}

pub hits : EveryHitIsTheMachines
hits settings client c name key s m value g found = (sym (every_look_is_the_machines (keyed settings c name client) goes s g.near m key goes g.tied) ∙ found, goes_with t)
  where
    goes : GoesByKeys (keyed settings c name client)
    goes = (every_map_is_keyed settings c name client).1

    t : IsTiedTo (looked key s) (machine.used (keyed settings c name client) key m)
    t = every_hit_is_the_machines (keyed settings c name client) goes s (looked key s) m key value goes (record { near = g.near; tied = g.tied })
        (record { near = g.near; listens = g.tied.listens; kept = found; after = ap (λ x. record s { near = x }) (ap (option_map (used key)) g.tied.listens) })

    goes_with : IsTiedTo (looked key s) (machine.used (keyed settings c name client) key m) → GoesWith c name (looked key s) (machine.used (keyed settings c name client) key m)
    goes_with u =
        let same : used key g.near ≡ u.near = (let both : Some (used key g.near) ≡ Some u.near = sym (ap (option_map (used key)) g.tied.listens) ∙ u.tied.listens in cc) in
        record {
          near = u.near;
          tied = u.tied;
          named = ap (λ (x : Near). x.name) (sym same) ∙ g.named;
          gets = g.gets;
          awaited = subst (λ (x : Near). AreAwaited c s.calls x.waiting) same g.awaited;
        }

-- lists

any_left : {X : Type 0} (p : X → Bool) (xs ys : List X) → list_any p xs ≡ true → list_any p (xs ++ ys) ≡ true
any_left p [] ys e = absurd cc
any_left p (x ∷ xs) ys e = by (p x) e (any_left p xs ys)
  where
    by : (b : Bool) → (b || list_any p xs) ≡ true → (list_any p xs ≡ true → list_any p (xs ++ ys) ≡ true) → (b || list_any p (xs ++ ys)) ≡ true
    by true f ih = refl
    by false f ih = ih f

any_last : {X : Type 0} (p : X → Bool) (xs : List X) (x : X) → p x ≡ true → list_any p (xs ++ x ∷ []) ≡ true
any_last p [] x e = ap (λ b. b || false) e
any_last p (y ∷ xs) x e = ap (λ b. p y || b) (any_last p xs x e) ∙ or_true (p y)
  where
    or_true : (b : Bool) → (b || true) ≡ true
    or_true true = refl
    or_true false = refl

All-more : {X : Type 0} (P : X → Type 0) (xs : List X) (x : X) → AllByRecursion P xs → P x → AllByRecursion P (xs ++ x ∷ [])
All-more P [] x all h = (h, tt)
All-more P (y ∷ xs) x all h = (all.0, All-more P xs x all.1 h)

All-weaker : {X : Type 0} (P Q : X → Type 0) (xs : List X) → ((x : X) → P x → Q x) → AllByRecursion P xs → AllByRecursion Q xs
All-weaker P Q [] f all = tt
All-weaker P Q (x ∷ xs) f all = (f x all.0, All-weaker P Q xs f all.1)

pub misses : EveryMissIsTheMachines
misses settings client c name key s m g whole its_client goes_on_it none = (sym (every_look_is_the_machines (keyed settings c name client) goes s g.near m key goes g.tied) ∙ none, goes_with t)
  where
    goes : GoesByKeys (keyed settings c name client)
    goes = (every_map_is_keyed settings c name client).1

    call : Call
    call = asked_call s.next c (partition_of_key key) (get_of name key client)

    new : State
    new = asking (asked_call s.next c (partition_of_key key) (get_of name key client)) (opening_look_up key s)

    after : new ≡ asking (asked_call s.next c (partition_of_key key) (get_of g.near.name key s.client)) (record s { near = Some (opened s.next key g.near) })
    after =
        ap (λ n. asking (asked_call s.next c (partition_of_key key) (get_of n key client)) (opening_look_up key s)) (sym g.named)
        ∙ ap (λ k. asking (asked_call s.next c (partition_of_key key) (get_of g.near.name key k)) (opening_look_up key s)) (sym its_client)
        ∙ ap (λ x. asking (asked_call s.next c (partition_of_key key) (get_of g.near.name key s.client)) (record s { near = x })) (ap (option_map (opened s.next key)) g.tied.listens)

    t : IsTiedTo new (machine.opened s.next key m)
    t = every_miss_is_the_machines s new m key (sending_of (asked_call s.next c (partition_of_key key) (get_of g.near.name key s.client))) whole (record { near = g.near; tied = g.tied })
        (record { near = g.near; listens = g.tied.listens; none = none; asked = record { conn = c; goes = goes_on_it; sent = refl; after = after } })

    goes_with : IsTiedTo new (machine.opened s.next key m) → GoesWith c name new (machine.opened s.next key m)
    goes_with u =
        let same : opened s.next key g.near ≡ u.near = (let both : Some (opened s.next key g.near) ≡ Some u.near = sym (ap (option_map (opened s.next key)) g.tied.listens) ∙ u.tied.listens in cc) in
        record {
          near = u.near;
          tied = u.tied;
          named = ap (λ (x : Near). x.name) (sym same) ∙ g.named;
          gets = All-more (λ (x : Call). x.kind ≡ get_kind) s.calls call g.gets refl;
          awaited = subst (λ (x : Near). AreAwaited c (s.calls ++ call ∷ []) x.waiting) same
              (All-more (λ (r : Look). list_any (is_waiting c r.number) (s.calls ++ call ∷ []) ≡ true) g.near.waiting (record { number = s.next; key = key; overtaken = None })
              (All-weaker (λ (r : Look). list_any (is_waiting c r.number) s.calls ≡ true) (λ (r : Look). list_any (is_waiting c r.number) (s.calls ++ call ∷ []) ≡ true) g.near.waiting (λ r e. any_left (is_waiting c r.number) s.calls (call ∷ []) e) g.awaited)
              (any_last (is_waiting c s.next) s.calls call waits));
        }
      where
        waits : is_waiting c s.next (asked_call s.next c (partition_of_key key) (get_of name key client)) ≡ true
        waits = ap (λ b. b && (s.next == s.next)) (number_same c c refl) ∙ number_same s.next s.next refl
