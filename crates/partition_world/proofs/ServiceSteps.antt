-- Events at which the table service takes a step, or sends again: no member does, and what the service sends comes last on its links.
use Rattle.std.proofs.Common.{◌≡◌, ◌≢◌, ℕ, ◌+◌, ◌<◌, ◌≤◌, Bool, true, false, cond, not, ◌&&◌, ◌==◌, nat_lt, List, [], ◌∷◌, ◌++◌, map, length, Contains, Option, Some, None, Result, Ok, Err, IfOk, OnOk, OnErr, vec_len, refl, ap, sym, ◌∙◌, subst, append-nil, arith, ◌⊎◌, inl, inr}
use Rattle.partition_table.specs.Rows.{is_in, is_among, first_of}
use Rattle.partition_protocol.specs.Messages.{Sent, Freeze}
use Rattle.partition_protocol.specs.Service.{Service, telling, detecting, beginning, handing_over, move_refused, join_refused, handover_refused, MoveRefused as WhyNotMoved, AdvanceStep, Nothing, Freezes, MakesRow, advance_of, freezing_again, reopen_refused, reopening}
use Rattle.partition_protocol.specs.Recorded.{Recorded}
use Rattle.partition_protocol.specs.WellFormed.{IsWellFormed}
use Rattle.partition_protocol.specs.Claims.{IsLawful}
use Rattle.partition_protocol.specs.Node.{Pair}
use Rattle.partition_protocol.specs.World.{World as Machine, start, with_service, trail}
use Rattle.partition_protocol.specs.History.{Reset}
use Rattle.partition_protocol.specs.Links.{packets_from, sending}
use Rattle.partition_protocol.specs.Events.{Event, Happened as HappenedThere, Outcome, NothingDone, Done, RowMadeAt, MoveIsRefused, ReopenIsRefused, Resend, Detect, BeginMove, BeginJoin, BeginHandover, Advance, Reopen, done, row_made, unless_move_refused, unless_reopen_refused, with_reset, happens}
use Rattle.partition_protocol.specs.Events as there
use Rattle.partition_protocol.proofs.Lists.{In, in_right, contains_in, Every, every_from_in, cases, on_if}
use Rattle.partition_protocol.proofs.RowFacts.{in_map, number_other, less, not_less}
use Rattle.partition_protocol.proofs.LinkFacts.{packet, messages_to}
use Rattle.partition_protocol.proofs.EventFacts.{run_next}
use Rattle.partition_protocol.proofs.Bounds.{every_run_is_within}
use Rattle.partition_protocol.proofs.WellFormed.{every_run_is_well_formed}
use Rattle.member_wire.specs.Said.{Contents, said_with, written}
use Rattle.member_wire.specs.Spelling.{LengthsFit}
use Rattle.link_net.specs.Links.{Net, HasLists, HasRoom, list_of, spare_of, sent_to, with_sent}
use Rattle.table_service.specs.declared.service.Service.{Service as TableService}
use Rattle.table_service.specs.Services.{Setup, service_of, service_number, setup_of as service_setup}
use Rattle.table_service.specs.declared.told.Told.{Told}
use Rattle.table_service.specs.Sending.{IsTold, IsRowTold, AllFit}
use Rattle.table_service.specs.Refusals.{why_not_moved, why_not_reopened}
use Rattle.table_service.specs.declared.refusals.MoveRefused.{MoveRefused}
use Rattle.table_service.specs.declared.refusals.ReopenRefused.{ReopenRefused}
use Rattle.table_service.specs.Steps.{told_on_loss, advancing, told_on_advance, advanced_by}
use Rattle.table_service.specs.declared.moves.Advanced.{Advanced}
use Rattle.table_service.specs.declared.moves.Advanced.TheVariants as did_step
use Rattle.partition_world.specs.declared.world.World.{World}
use Rattle.partition_world.specs.declared.event.Happened.{Happened}
use Rattle.partition_world.specs.declared.event.Happened.TheVariants as happened
use Rattle.grid_base.specs.Shelves.{Meaning}
use Rattle.partition_world.specs.Shelves.{IsShelf}
use Rattle.partition_world.specs.Events.{happened_of}
use Rattle.partition_world.specs.InFlight.{contents_in}
use Rattle.partition_world.specs.Sending.{HasFit, flying}
use Rattle.partition_world.specs.Recorders.{trail_by, with_reopening}
use Rattle.partition_world.specs.Worlds.{setup_of, run_of, leading_pair, Comes, HasRun}
use Rattle.partition_world.proofs.Comings as comings
use Rattle.partition_world.proofs.Quiet as quiet
use Rattle.partition_world.proofs.EffectsLead.{lawful, Stood}
use Rattle.partition_world.proofs.SmallStates.{every_of_all}
use Rattle.partition_world.proofs.Sending.{named_itself}
use Rattle.partition_world.proofs.FewOnLinks.{count_to, count_all, telling_few, service_few}
use Rattle.partition_world.proofs.Leaders.{trail_found}
use Rattle.partition_world.proofs.LinkBytes as bytes
use Rattle.partition_world.proofs.LinkBytes.{sent_count}
use Rattle.partition_world.proofs.EventSends.{resend_service}

-- to an end that nothing is for
pub count_none : (h n : ℕ) (ss : List Sent) → Every (λ (s : Sent). s.to ≤ n) ss → n < h → count_to h ss ≡ 0
count_none h n [] below over = refl
count_none h n (s ∷ ss) below over = let l = below.0 in rw (messages_to, number_other s.to h (λ e. omega (arith, l, over, e))) (count_none h n ss below.1 over)

-- the partition stands by the service's row, unless that is lost
abbrev pub standing_by : {C : Type 0} → Recorded C → Service → Recorded C
standing_by r s = record r { standing = cond s.row.lost r.standing s.row }

module _ {S R Plan C State : Type 0} (k : Meaning S C State) (records : R → Recorded C → Type 0) (limits : C → Type 0) (world : World S R Plan C) (events : List (Event C)) (event : Event C) (comes : Comes k records limits world events event) where
  abbrev pub w : Machine C
  w = run_of k world events

  abbrev pub next : Machine C
  next = (happens k.object w event).world

  -- the event leaves this service and this record, and the service sends these messages. Nothing else changes
  pub record IsServed (s : Service) (r : Recorded C) (ss : List Sent) (out : Outcome) : Type 0 where
    pub outcome : (happens k.object w event).outcome ≡ out
    pub service : next.service ≡ s
    pub recorded : next.recorded ≡ r
    pub packets : next.packets ≡ w.packets ++ packets_from w.members ss
    pub nodes : next.nodes ≡ w.nodes
    pub crashed : next.crashed ≡ w.crashed
    pub released : next.released ≡ w.released

  pub served_sending : (s : Service) (r : Recorded C) (ss : List Sent) (out : Outcome)
      → happens k.object w event ≡ record { world = record w { service = s; packets = w.packets ++ packets_from w.members ss; recorded = r }; outcome = out } → IsServed s r ss out
  served_sending s r ss out h = record {
    outcome = ap (λ (x : HappenedThere C). x.outcome) h;
    service = ap (λ (x : HappenedThere C). x.world.service) h;
    recorded = ap (λ (x : HappenedThere C). x.world.recorded) h;
    packets = ap (λ (x : HappenedThere C). x.world.packets) h;
    nodes = ap (λ (x : HappenedThere C). x.world.nodes) h;
    crashed = ap (λ (x : HappenedThere C). x.world.crashed) h;
    released = ap (λ (x : HappenedThere C). x.world.released) h;
  }

  pub served_silent : (s : Service) (r : Recorded C) (out : Outcome) → happens k.object w event ≡ record { world = record w { service = s; recorded = r }; outcome = out } → IsServed s r [] out
  served_silent s r out h = record {
    outcome = ap (λ (x : HappenedThere C). x.outcome) h;
    service = ap (λ (x : HappenedThere C). x.world.service) h;
    recorded = ap (λ (x : HappenedThere C). x.world.recorded) h;
    packets = ap (λ (x : HappenedThere C). x.world.packets) h ∙ sym (append-nil w.packets);
    nodes = ap (λ (x : HappenedThere C). x.world.nodes) h;
    crashed = ap (λ (x : HappenedThere C). x.world.crashed) h;
    released = ap (λ (x : HappenedThere C). x.world.released) h;
  }

  -- a row more can be made
  pub row_room : (service_of world.service).row.version < 4294967295
  row_room =
      let bound = (every_run_is_within k.object (setup_of world).partition (setup_of world).members (setup_of world).backups events).row.version in
      let few = comes.may.room in
      let same = ap (λ (s : Service). s.row.version) comes.stands.agrees.service in
      omega (arith, bound, few, same)

  formed_next : IsWellFormed (setup_of world).partition (setup_of world).members (setup_of world).backups next
  formed_next =
      subst (IsWellFormed (setup_of world).partition (setup_of world).members (setup_of world).backups)
      (run_next k.object (start (setup_of world).partition (setup_of world).members (setup_of world).backups) events event)
      (every_run_is_well_formed k.object (setup_of world).partition (setup_of world).members (setup_of world).backups (events ++ event ∷ []))

  pub same_number : w.members ≡ service_number world.service
  same_number = ap (λ (s : Setup). s.members) (sym comes.stands.agrees.setup)

  -- what holds of the protocol's service holds of the code's
  pub of_code : (P : ℕ → Service → Type 0) → P w.members w.service → P (service_number world.service) (service_of world.service)
  of_code P p = subst (λ n. P n (service_of world.service)) same_number (subst (P w.members) (sym comes.stands.agrees.service) p)

  module _ (s : Service) (r : Recorded C) (ss : List Sent) (outcome : Outcome) (served : IsServed s r ss outcome) (out : List (ℕ × List ℕ)) (told : IsTold out ss) where
    -- each message is for an end
    to_ends : Every (λ (x : Sent). x.to ≤ w.members) ss
    to_ends = every_from_in (λ (x : Sent). x.to ≤ w.members) ss (λ x i. below x (contains_in (packet w.members x.to x.message) next.packets (there x i)))
      where
        there : (x : Sent) → In x ss → In (packet w.members x.to x.message) next.packets
        there x i =
            subst (In (packet w.members x.to x.message)) (sym served.packets)
            (in_right (packet w.members x.to x.message) w.packets (packets_from w.members ss) (in_map (λ (y : Sent). packet w.members y.to y.message) ss x i))

        below : (x : Sent) → Contains next.packets (packet w.members x.to x.message) → x.to ≤ w.members
        below x c = let l = (formed_next.packets (packet w.members x.to x.message) c).to in let same = ap (λ (z : Setup). z.members) comes.stands.agrees.setup in omega (arith, l, same)

    pub written_out : (c : Contents) → out ≡ map (written c) ss
    written_out c = told.told c

    -- there is room for them
    pub few_sent : ((h : ℕ) → count_to h ss ≤ 2) → (links : Net) → links.ends ≡ world.links.ends → HasRoom links world.members 2 → (to : ℕ) → length (sent_to to out) ≤ spare_of links world.members to
    few_sent few links ends room to = go (cases (nat_lt to links.ends))
      where
        as_many : length (sent_to to out) ≡ count_to to ss
        as_many = ap (λ o. length (sent_to to o)) (written_out (contents_in k w)) ∙ sent_count (contents_in k w) to ss

        go : (nat_lt to links.ends ≡ true) ⊎ (nat_lt to links.ends ≡ false) → length (sent_to to out) ≤ spare_of links world.members to
        go (inl e) =
            let inside = less to links.ends e in
            let members = comes.stands.agrees.members in
            let size = comes.stands.agrees.ends in
            let spare : 2 ≤ spare_of links world.members to = room to (omega (arith, ends, size, members)) inside in
            let most = few to in
            omega (arith, as_many, most, spare)
        go (inr e) =
            let outside = not_less to links.ends e in
            let size = comes.stands.agrees.ends in
            let none : count_to to ss ≡ 0 = count_none to w.members ss to_ends (omega (arith, outside, ends, size)) in
            omega (arith, as_many, none)

    -- so the event has run
    module _ (within : ℕ → State → Type 0) (applied : List ℕ → State → Option State) (shelf : IsShelf k limits within applied) (links : Net) (ends : links.ends ≡ world.links.ends)
        (lists : HasLists links (list_of world.links)) where
      stood : Stood k.object limits within w
      stood = comings.stood k records limits within applied shelf world events event comes

      law : IsLawful k.object
      law = lawful k limits within applied shelf

      links_next : (net : Net) → HasLists net (with_sent world.members out (list_of links)) → HasLists net (flying k next)
      links_next net sent f t =
          sent f t
          ∙ ap (λ bs. bs ++ cond (f == world.members) (sent_to t out) []) (lists f t ∙ comes.stands.agrees.links f t)
          ∙ ap (λ n. flying k w f t ++ cond (f == n) (sent_to t out) []) comes.stands.agrees.members
          ∙ ap (λ o. flying k w f t ++ cond (f == w.members) (sent_to t o) []) (written_out (contents_in k next))
          ∙ sym (bytes.sent_lists k law w stood.good stood.led event w.members (contents_in k next) ss served.packets (named_itself k next ss) f t)

      fits_next : HasFit k next
      fits_next =
          bytes.fits_next k law w stood.good stood.led event comes.stands.agrees.fit w.packets w.members (contents_in k next) ss (λ p i. i) served.packets (named_itself k next ss)
          (every_of_all (λ (x : Sent). LengthsFit (said_with (contents_in k next) x.message)) ss (told.fits (contents_in k next)))

      module _ (service : TableService) (setup : service_setup service ≡ setup_of world) (serves : service_of service ≡ s) where
        pub served_run : (new : World S R Plan C) → new ≡ record world { service = service; links = new.links; recorder = new.recorder } → records new.recorder r
            → HasLists new.links (with_sent world.members out (list_of links)) → new.links.ends ≡ links.ends → (happened : Happened) → happened_of happened ≡ outcome → HasRun k records world new events event happened
        served_run new rest recorded sent size happened same =
            quiet.quiet_run k records limits within applied shelf world events event comes new happened (same ∙ sym served.outcome)
            (record {
              setup = ap (λ (x : World S R Plan C). setup_of x) rest ∙ setup;
              members = ap (λ (x : World S R Plan C). x.members) rest;
              size = ap (λ (x : World S R Plan C). vec_len x.nodes) rest;
              crashed = ap (λ (x : World S R Plan C). x.crashed.items) rest ∙ comes.stands.agrees.crashed ∙ sym served.crashed;
              service = ap (λ (x : World S R Plan C). service_of x.service) rest ∙ serves ∙ sym served.service;
              ends = size ∙ ends;
              links = links_next new.links sent;
              fit = fits_next;
              recorded = subst (records new.recorder) (sym served.recorded) recorded;
            })
            (ap (λ (x : World S R Plan C). x.nodes.items) rest) served.nodes served.released

        -- the partition stands by the service's row, where this was recorded before
        pub stands_run : (recorder : R) (before : Recorded C) → records recorder before → r ≡ standing_by before s → (new : World S R Plan C)
            → ((x : Recorded C) → records recorder x → records new.recorder (standing_by x (service_of service))) → HasLists new.links (with_sent world.members out (list_of links)) → new.links.ends ≡ links.ends
            → new ≡ record world { service = service; links = new.links; recorder = new.recorder } → (happened : Happened) → happened_of happened ≡ outcome → HasRun k records world new events event happened
        stands_run recorder before keeps is new stands sent size rest happened same =
            served_run new rest (subst (records new.recorder) (ap (standing_by before) serves ∙ sym is) (stands before keeps)) sent size happened same

-- a member is told to have crashed

-- where a row is made, and where none is

pub loss_made : (made : Option ℕ) (v x : ℕ) (b : Bool) → made ≡ cond b (Some x) None → made ≡ Some v → RowMadeAt v ≡ cond b (RowMadeAt x) Done
loss_made made v x true is e = let same : x ≡ v = cc in ap RowMadeAt (sym same)
loss_made made v x false is e = absurd cc

pub loss_done : (made : Option ℕ) (x : ℕ) (b : Bool) → made ≡ cond b (Some x) None → made ≡ None → Done ≡ cond b (RowMadeAt x) Done
loss_done made x true is e = absurd cc
loss_done made x false is e = refl

pub loss_few : (members m : ℕ) (s : Service) (h : ℕ) → count_to h (told_on_loss members m s) ≤ 2
loss_few members m s h = on_if (λ ss. count_to h ss ≤ 2) (is_in s.row m) (telling members (detecting m s)) [] (let one = telling_few h m members (detecting m s) in omega (arith, one)) (omega arith)

module _ {S R Plan C State : Type 0} (k : Meaning S C State) (records : R → Recorded C → Type 0) (limits : C → Type 0) (world : World S R Plan C) (events : List (Event C)) (m : ℕ) (comes : Comes k records limits world events (Detect m)) where
  abbrev now : Machine C
  now = run_of k world events

  abbrev IsLoss : ℕ → Service → Type 0
  IsLoss n s =
      IsServed k records limits world events (Detect m) comes (detecting m s) (standing_by now.recorded (detecting m s)) (told_on_loss n m s)
      (cond (is_in s.row m) (RowMadeAt (detecting m s).row.version) Done)

  module _ (unnoticed : Bool) (is : unnoticed ≡ (nat_lt m world.members && is_among world.crashed.items m && not (is_among (service_of world.service).detected m))) (e : unnoticed ≡ true) where
    unnoticed_there : (nat_lt m now.members && is_among now.crashed m && not (is_among now.service.detected m)) ≡ true
    unnoticed_there =
        ap (λ n. nat_lt m n && is_among now.crashed m && not (is_among now.service.detected m)) (sym comes.stands.agrees.members)
        ∙ ap (λ ms. nat_lt m world.members && is_among ms m && not (is_among now.service.detected m)) (sym comes.stands.agrees.crashed)
        ∙ ap (λ (s : Service). nat_lt m world.members && is_among world.crashed.items m && not (is_among s.detected m)) (sym comes.stands.agrees.service) ∙ sym is ∙ e

    detects : happens k.object now (Detect m) ≡ cond (is_in now.service.row m) (row_made now (detecting m now.service)) (done (with_service now (detecting m now.service)))
    detects = rw unnoticed_there refl

    -- with a new row, or none
    served_by : (b : Bool) → happens k.object now (Detect m) ≡ cond b (row_made now (detecting m now.service)) (done (with_service now (detecting m now.service)))
        → IsServed k records limits world events (Detect m) comes (detecting m now.service) (standing_by now.recorded (detecting m now.service)) (cond b (telling now.members (detecting m now.service)) [])
        (cond b (RowMadeAt (detecting m now.service).row.version) Done)
    served_by true h =
        served_sending k records limits world events (Detect m) comes (detecting m now.service) (standing_by now.recorded (detecting m now.service)) (telling now.members (detecting m now.service))
        (RowMadeAt (detecting m now.service).row.version) h
    served_by false h = served_silent k records limits world events (Detect m) comes (detecting m now.service) (standing_by now.recorded (detecting m now.service)) Done h

    pub served_loss : IsLoss (service_number world.service) (service_of world.service)
    served_loss = of_code k records limits world events (Detect m) comes IsLoss (served_by (is_in now.service.row m) detects)

-- a row is told

pub tells_few : (members : ℕ) (s : Service) (h : ℕ) → count_to h (telling members s) ≤ 2
tells_few members s h = let one = telling_few h h members s in omega (arith, one)

-- where nothing is sent

pub silent_lists : (net : Net) (m : ℕ) → HasLists net (with_sent m [] (list_of net))
silent_lists net m f t = on_if (λ bs. list_of net f t ≡ list_of net f t ++ bs) (f == m) [] [] (sym (append-nil (list_of net f t))) (sym (append-nil (list_of net f t)))

none_fit : AllFit []
none_fit contents k d within = absurd (omega (arith, within))

pub none_told : IsTold [] []
none_told = record { told = λ contents. refl; fits = none_fit }

-- What the service has begun, where it was not refused
pub record IsBegun {W : Type 0} (n : ℕ) (after goes : Service) (came refusal : Option W) (made : Told ℕ) : Type 0 where
  pub refused : came ≡ refusal
  pub service : after ≡ goes
  pub told : IsRowTold n after made

pub begun : {E W : Type 0} (refusal_of : Result (Told ℕ) E → Option W) (n : ℕ) (after goes : Service) (refusal : Option W) (r : Result (Told ℕ) E) (made : Told ℕ) → r ≡ Ok made
    → refusal_of r ≡ refusal → OnOk r (after ≡ goes) → IfOk r (IsRowTold n after) → IsBegun n after goes (refusal_of (Ok made)) refusal made
begun refusal_of n after goes refusal r made is refused service told = record {
  refused = subst (λ x. refusal_of x ≡ refusal) is refused;
  service = subst (λ x. OnOk x (after ≡ goes)) is service;
  told = subst (λ x. IfOk x (IsRowTold n after)) is told;
}

-- and where it was
pub not_begun : {E W : Type 0} (refusal_of : Result (Told ℕ) E → Option W) (refusal : Option W) (same : Type 0) (r : Result (Told ℕ) E) (why : E) → r ≡ Err why → refusal_of r ≡ refusal → OnErr r same
    → (refusal_of (Err why) ≡ refusal) × same
not_begun refusal_of refusal same r why is refused stays = (subst (λ x. refusal_of x ≡ refusal) is refused, subst (λ x. OnErr x same) is stays)

module _ {S R Plan C State : Type 0} (k : Meaning S C State) (records : R → Recorded C → Type 0) (limits : C → Type 0) (world : World S R Plan C) (events : List (Event C)) (event : Event C) (comes : Comes k records limits world events event) where
  abbrev here : Machine C
  here = run_of k world events

  -- the row of this service is new, and told
  abbrev pub IsRowMade : Recorded C → ℕ → Service → Type 0
  IsRowMade r n s = IsServed k records limits world events event comes s (standing_by r s) (telling n s) (RowMadeAt s.row.version)

  pub row_served : (r : Recorded C) (s : Service) → happens k.object here event ≡ row_made (record here { recorded = r }) s → IsRowMade r here.members s
  row_served r s h = served_sending k records limits world events event comes s (standing_by r s) (telling here.members s) (RowMadeAt s.row.version) h

  -- what was refused leaves all as it was

  module _ (within : ℕ → State → Type 0) (applied : List ℕ → State → Option State) (shelf : IsShelf k limits within applied) (service : TableService) (links : Net)
      (setup : service_setup service ≡ setup_of world) (same : service_of service ≡ service_of world.service) (ends : links.ends ≡ world.links.ends) (lists : HasLists links (list_of world.links)) where
    pub unmoved_run : (recorder : R) → records recorder here.recorded → (out : Outcome) → happens k.object here event ≡ record { world = here; outcome = out } → (happened : Happened)
        → happened_of happened ≡ out → HasRun k records world (record world { service = service; links = links; recorder = recorder }) events event happened
    unmoved_run recorder recorded out h happened outcome =
        quiet.unmoved k records limits within applied shelf world events event comes out h (record world { service = service; links = links; recorder = recorder }) happened outcome
        (record {
          setup = setup;
          members = refl;
          size = refl;
          crashed = refl;
          service = same;
          ends = ends;
          links = lists;
          recorded = recorded;
        })
        refl

    pub refused_run : (refused : MoveRefused) (test : Option WhyNotMoved) (otherwise : HappenedThere C) → happens k.object here event ≡ unless_move_refused here test otherwise
        → Some (why_not_moved refused) ≡ test → HasRun k records world (record world { service = service; links = links }) events event (happened.MoveRefused refused)
    refused_run refused test otherwise h e =
        unmoved_run world.recorder comes.stands.agrees.recorded (MoveIsRefused (why_not_moved refused)) (h ∙ ap (λ x. unless_move_refused here x otherwise) (sym e)) (happened.MoveRefused refused) refl

-- a member is to take another's place

module _ {S R Plan C State : Type 0} (k : Meaning S C State) (records : R → Recorded C → Type 0) (limits : C → Type 0) (world : World S R Plan C) (events : List (Event C)) (from to : ℕ) (comes : Comes k records limits world events (BeginMove from to)) where
  abbrev moves_at : Machine C
  moves_at = run_of k world events

  pub served_move : (made : Service) → None ≡ move_refused (service_number world.service) from to (service_of world.service) → made ≡ beginning (Some from) to (service_of world.service)
      → IsRowMade k records limits world events (BeginMove from to) comes moves_at.recorded (service_number world.service) made
  served_move made none is =
      subst (IsRowMade k records limits world events (BeginMove from to) comes moves_at.recorded (service_number world.service)) (sym is)
      (of_code k records limits world events (BeginMove from to) comes
      (λ n s. None ≡ move_refused n from to s → IsRowMade k records limits world events (BeginMove from to) comes moves_at.recorded n (beginning (Some from) to s))
      (λ e. row_served k records limits world events (BeginMove from to) comes moves_at.recorded (beginning (Some from) to moves_at.service)
      (ap (λ x. unless_move_refused moves_at x (row_made moves_at (beginning (Some from) to moves_at.service))) (sym e)))
      none)

  pub refused_move : (within : ℕ → State → Type 0) (applied : List ℕ → State → Option State) (shelf : IsShelf k limits within applied) (service : TableService) (links : Net) → service_setup service ≡ setup_of world
      → service_of service ≡ service_of world.service → links.ends ≡ world.links.ends → HasLists links (list_of world.links) → (refused : MoveRefused)
      → Some (why_not_moved refused) ≡ move_refused (service_number world.service) from to (service_of world.service)
      → HasRun k records world (record world { service = service; links = links }) events (BeginMove from to) (happened.MoveRefused refused)
  refused_move within applied shelf service links setup same ends lists refused e =
      refused_run k records limits world events (BeginMove from to) comes within applied shelf service links setup same ends lists refused (move_refused moves_at.members from to moves_at.service)
      (row_made moves_at (beginning (Some from) to moves_at.service)) refl
      (e ∙ of_code k records limits world events (BeginMove from to) comes (λ n s. move_refused n from to s ≡ move_refused moves_at.members from to moves_at.service) refl)

-- a member is to join

module _ {S R Plan C State : Type 0} (k : Meaning S C State) (records : R → Recorded C → Type 0) (limits : C → Type 0) (world : World S R Plan C) (events : List (Event C)) (to : ℕ) (comes : Comes k records limits world events (BeginJoin to)) where
  abbrev joins_at : Machine C
  joins_at = run_of k world events

  pub served_join : (made : Service) → None ≡ join_refused (service_number world.service) to (service_of world.service) → made ≡ beginning None to (service_of world.service)
      → IsRowMade k records limits world events (BeginJoin to) comes joins_at.recorded (service_number world.service) made
  served_join made none is =
      subst (IsRowMade k records limits world events (BeginJoin to) comes joins_at.recorded (service_number world.service)) (sym is)
      (of_code k records limits world events (BeginJoin to) comes
      (λ n s. None ≡ join_refused n to s → IsRowMade k records limits world events (BeginJoin to) comes joins_at.recorded n (beginning None to s))
      (λ e. row_served k records limits world events (BeginJoin to) comes joins_at.recorded (beginning None to joins_at.service)
      (ap (λ x. unless_move_refused joins_at x (row_made joins_at (beginning None to joins_at.service))) (sym e)))
      none)

  pub refused_join : (within : ℕ → State → Type 0) (applied : List ℕ → State → Option State) (shelf : IsShelf k limits within applied) (service : TableService) (links : Net) → service_setup service ≡ setup_of world
      → service_of service ≡ service_of world.service → links.ends ≡ world.links.ends → HasLists links (list_of world.links) → (refused : MoveRefused)
      → Some (why_not_moved refused) ≡ join_refused (service_number world.service) to (service_of world.service)
      → HasRun k records world (record world { service = service; links = links }) events (BeginJoin to) (happened.MoveRefused refused)
  refused_join within applied shelf service links setup same ends lists refused e =
      refused_run k records limits world events (BeginJoin to) comes within applied shelf service links setup same ends lists refused (join_refused joins_at.members to joins_at.service)
      (row_made joins_at (beginning None to joins_at.service)) refl
      (e ∙ of_code k records limits world events (BeginJoin to) comes (λ n s. join_refused n to s ≡ join_refused joins_at.members to joins_at.service) refl)

-- a backup is to lead

module _ {S R Plan C State : Type 0} (k : Meaning S C State) (records : R → Recorded C → Type 0) (limits : C → Type 0) (world : World S R Plan C) (events : List (Event C)) (from to : ℕ) (comes : Comes k records limits world events (BeginHandover from to)) where
  abbrev hands_at : Machine C
  hands_at = run_of k world events

  abbrev IsHanded : ℕ → Service → Type 0
  IsHanded n s = IsServed k records limits world events (BeginHandover from to) comes (handing_over from to s) (standing_by hands_at.recorded (handing_over from to s)) [] Done

  pub served_handover : None ≡ handover_refused from to (service_of world.service) → IsHanded (service_number world.service) (service_of world.service)
  served_handover none =
      of_code k records limits world events (BeginHandover from to) comes (λ n s. None ≡ handover_refused from to s → IsHanded n s)
      (λ e. served_silent k records limits world events (BeginHandover from to) comes (handing_over from to hands_at.service) (standing_by hands_at.recorded (handing_over from to hands_at.service)) Done
      (ap (λ x. unless_move_refused hands_at x (done (with_service hands_at (handing_over from to hands_at.service)))) (sym e)))
      none

  pub refused_handover : (within : ℕ → State → Type 0) (applied : List ℕ → State → Option State) (shelf : IsShelf k limits within applied) (service : TableService) → service_setup service ≡ setup_of world
      → service_of service ≡ service_of world.service → (refused : MoveRefused)
      → Some (why_not_moved refused) ≡ handover_refused from to (service_of world.service)
      → HasRun k records world (record world { service = service }) events (BeginHandover from to) (happened.MoveRefused refused)
  refused_handover within applied shelf service setup same refused e =
      refused_run k records limits world events (BeginHandover from to) comes within applied shelf service world.links setup same refl (λ f t. refl) refused (handover_refused from to hands_at.service)
      (done (with_service hands_at (handing_over from to hands_at.service))) refl
      (e ∙ of_code k records limits world events (BeginHandover from to) comes (λ n s. handover_refused from to s ≡ handover_refused from to hands_at.service) refl)

-- the move under way takes its next step

-- the outcome of a step
abbrev pub step_outcome : AdvanceStep → Outcome
step_outcome Nothing = NothingDone
step_outcome (Freezes source target) = Done
step_outcome (MakesRow row) = RowMadeAt row.version

pub step_none : (did : Advanced) (step : AdvanceStep) → did ≡ advanced_by step → did ≡ did_step.Nothing → step ≡ Nothing
step_none did Nothing is e = refl
step_none did (Freezes source target) is e = absurd cc
step_none did (MakesRow row) is e = absurd cc

pub step_freezes : (did : Advanced) (step : AdvanceStep) → did ≡ advanced_by step → did ≡ did_step.Freezing → Done ≡ step_outcome step
step_freezes did Nothing is e = absurd cc
step_freezes did (Freezes source target) is e = refl
step_freezes did (MakesRow row) is e = absurd cc

pub step_makes : (did : Advanced) (version : ℕ) (step : AdvanceStep) → did ≡ advanced_by step → did ≡ did_step.Row version → RowMadeAt version ≡ step_outcome step
step_makes did version Nothing is e = absurd cc
step_makes did version (Freezes source target) is e = absurd cc
step_makes did version (MakesRow row) is e = let same : row.version ≡ version = cc in ap RowMadeAt (sym same)

pub freezes_some : (did : Advanced) (step : AdvanceStep) → did ≡ advanced_by step → did ≡ did_step.Freezing → step ≢ Nothing
freezes_some did step is e none = let same : did ≡ did_step.Nothing = is ∙ ap advanced_by none in absurd cc

pub makes_some : (did : Advanced) (version : ℕ) (step : AdvanceStep) → did ≡ advanced_by step → did ≡ did_step.Row version → step ≢ Nothing
makes_some did version step is e none = let same : did ≡ did_step.Nothing = is ∙ ap advanced_by none in absurd cc

pub step_few : (members : ℕ) (step : AdvanceStep) (s : Service) (h : ℕ) → count_to h (told_on_advance members step s) ≤ 2
step_few members Nothing s h = omega arith
step_few members (Freezes source target) s h = let one = count_all h (record { to = source; message = Freeze s.row.version } ∷ []) in omega (arith, one)
step_few members (MakesRow row) s h = tells_few members (advancing (MakesRow row) s) h

module _ {S R Plan C State : Type 0} (k : Meaning S C State) (records : R → Recorded C → Type 0) (limits : C → Type 0) (world : World S R Plan C) (events : List (Event C)) (comes : Comes k records limits world events Advance) where
  abbrev steps_at : Machine C
  steps_at = run_of k world events

  abbrev IsStep : AdvanceStep → ℕ → Service → Type 0
  IsStep step n s = IsServed k records limits world events Advance comes (advancing step s) (standing_by steps_at.recorded (advancing step s)) (told_on_advance n step s) (step_outcome step)

  step_served : (step : AdvanceStep) → happens k.object steps_at Advance ≡ there.advanced_by steps_at step → step ≢ Nothing → IsStep step steps_at.members steps_at.service
  step_served Nothing h other = absurd (other refl)
  step_served (Freezes source target) h other =
      let s : Service = advancing (Freezes source target) steps_at.service in
      served_sending k records limits world events Advance comes s (standing_by steps_at.recorded s) (told_on_advance steps_at.members (Freezes source target) steps_at.service) Done h
  step_served (MakesRow row) h other =
      let s : Service = advancing (MakesRow row) steps_at.service in
      served_sending k records limits world events Advance comes s (standing_by steps_at.recorded s) (telling steps_at.members s) (RowMadeAt row.version) h

  pub served_step : advance_of (service_of world.service) ≢ Nothing → IsStep (advance_of (service_of world.service)) (service_number world.service) (service_of world.service)
  served_step other =
      of_code k records limits world events Advance comes (λ n s. advance_of s ≢ Nothing → IsStep (advance_of s) n s) (λ moves. step_served (advance_of steps_at.service) refl moves) other

  -- no step is due
  pub no_step : (within : ℕ → State → Type 0) (applied : List ℕ → State → Option State) (shelf : IsShelf k limits within applied) (service : TableService) (links : Net) → service_setup service ≡ setup_of world
      → service_of service ≡ advancing (advance_of (service_of world.service)) (service_of world.service) → links.ends ≡ world.links.ends → HasLists links (list_of world.links)
      → advance_of (service_of world.service) ≡ Nothing → HasRun k records world (record world { service = service; links = links }) events Advance happened.Nothing
  no_step within applied shelf service links setup same ends lists none =
      unmoved_run k records limits world events Advance comes within applied shelf service links setup (same ∙ ap (λ step. advancing step (service_of world.service)) none) ends lists world.recorder comes.stands.agrees.recorded NothingDone
      (ap (there.advanced_by steps_at) (of_code k records limits world events Advance comes (λ n s. advance_of steps_at.service ≡ advance_of s) refl ∙ none)) happened.Nothing refl

-- a lost partition is reopened

module _ {S R Plan C State : Type 0} (k : Meaning S C State) (records : R → Recorded C → Type 0) (limits : C → Type 0) (world : World S R Plan C) (events : List (Event C)) (comes : Comes k records limits world events Reopen) where
  abbrev opens_at : Machine C
  opens_at = run_of k world events

  -- what is recorded before the row stands: the reset, with the trail so far
  abbrev pub with_opening : Recorded C
  with_opening = (with_reset opens_at (opens_at.service.row.version + 1)).recorded

  -- what holds of the protocol's partition holds of the code's
  of_setup : (P : ℕ → ℕ → ℕ → Service → Type 0) → P opens_at.partition opens_at.members opens_at.backups opens_at.service
      → P (setup_of world).partition (setup_of world).members (setup_of world).backups (service_of world.service)
  of_setup P p =
      subst (λ (z : Setup). P z.partition z.members z.backups (service_of world.service)) (sym comes.stands.agrees.setup)
      (subst (P opens_at.partition opens_at.members opens_at.backups) (sym comes.stands.agrees.service) p)

  pub served_opening : (made : Service) → None ≡ reopen_refused (setup_of world).partition (setup_of world).members (service_of world.service)
      → made ≡ reopening (setup_of world).partition (setup_of world).members (setup_of world).backups (service_of world.service) → IsRowMade k records limits world events Reopen comes with_opening (service_number world.service) made
  served_opening made none is =
      subst (IsRowMade k records limits world events Reopen comes with_opening (service_number world.service)) (sym is)
      (of_setup (λ p n b s. None ≡ reopen_refused p n s → IsRowMade k records limits world events Reopen comes with_opening n (reopening p n b s))
      (λ e. row_served k records limits world events Reopen comes with_opening (reopening opens_at.partition opens_at.members opens_at.backups opens_at.service)
      (ap (λ x. unless_reopen_refused opens_at x (row_made (with_reset opens_at (opens_at.service.row.version + 1)) (reopening opens_at.partition opens_at.members opens_at.backups opens_at.service))) (sym e)))
      none)

  -- the code's recorder has the reset then
  pub opening_recorded : (recorder : R) (version : ℕ) (made : Service) (leader : Option Pair) → version ≡ made.row.version
      → made ≡ reopening (setup_of world).partition (setup_of world).members (setup_of world).backups (service_of world.service)
      → leader ≡ leading_pair world (first_of opens_at.recorded.standing.members) → records recorder (with_reopening version leader opens_at.recorded) → records recorder with_opening
  opening_recorded recorder version made leader numbered is found recorded =
      subst (λ r. records recorder (with_reset opens_at r).recorded) same
      (subst (λ es. records recorder (record opens_at.recorded { log = opens_at.recorded.log ++ Reset version ∷ []; openings = record { reset = version; entries = es ++ Reset version ∷ [] } ∷ opens_at.recorded.openings })) trails recorded)
    where
      same : version ≡ opens_at.service.row.version + 1
      same = numbered ∙ ap (λ (s : Service). s.row.version) is ∙ ap (λ (s : Service). s.row.version + 1) comes.stands.agrees.service

      trails : trail_by opens_at.recorded leader ≡ trail opens_at
      trails = ap (trail_by opens_at.recorded) found ∙ sym (trail_found k records world opens_at comes.stands.agrees)

  pub refused_opening : (within : ℕ → State → Type 0) (applied : List ℕ → State → Option State) (shelf : IsShelf k limits within applied) (service : TableService) (links : Net) → service_setup service ≡ setup_of world
      → service_of service ≡ service_of world.service → links.ends ≡ world.links.ends → HasLists links (list_of world.links) → (recorder : R) → records recorder opens_at.recorded → (refused : ReopenRefused)
      → Some (why_not_reopened refused) ≡ reopen_refused (setup_of world).partition (setup_of world).members (service_of world.service)
      → HasRun k records world (record world { service = service; links = links; recorder = recorder }) events Reopen (happened.ReopenRefused refused)
  refused_opening within applied shelf service links setup same ends lists recorder recorded refused e =
      unmoved_run k records limits world events Reopen comes within applied shelf service links setup same ends lists recorder recorded (ReopenIsRefused (why_not_reopened refused))
      (ap (λ x. unless_reopen_refused opens_at x (row_made (with_reset opens_at (opens_at.service.row.version + 1)) (reopening opens_at.partition opens_at.members opens_at.backups opens_at.service))) there)
      (happened.ReopenRefused refused) refl
    where
      there : reopen_refused opens_at.partition opens_at.members opens_at.service ≡ Some (why_not_reopened refused)
      there = of_setup (λ p n b s. reopen_refused opens_at.partition opens_at.members opens_at.service ≡ reopen_refused p n s) refl ∙ sym e

-- the service sends again

-- by another name
pub told_same : (out items : List (ℕ × List ℕ)) (ss : List Sent) → items ≡ out → IsTold out ss → IsTold items ss
told_same out items ss e told = subst (λ o. IsTold o ss) (sym e) told

module _ {S R Plan C State : Type 0} (k : Meaning S C State) (records : R → Recorded C → Type 0) (limits : C → Type 0) (world : World S R Plan C) (events : List (Event C)) (comes : Comes k records limits world events (Resend world.members)) where
  abbrev sends_at : Machine C
  sends_at = run_of k world events

  pub served_again :
      IsServed k records limits world events (Resend world.members) comes (service_of world.service) sends_at.recorded (telling (service_number world.service) (service_of world.service) ++ freezing_again (service_of world.service)) Done
  served_again =
      of_code k records limits world events (Resend world.members) comes (λ n s. IsServed k records limits world events (Resend world.members) comes s sends_at.recorded (telling n s ++ freezing_again s) Done)
      (served_sending k records limits world events (Resend world.members) comes sends_at.service sends_at.recorded (telling sends_at.members sends_at.service ++ freezing_again sends_at.service) Done
      (subst (λ m. happens k.object sends_at (Resend m) ≡ done (sending sends_at sends_at.members (telling sends_at.members sends_at.service ++ freezing_again sends_at.service))) (sym comes.stands.agrees.members)
      (resend_service k.object sends_at)))

  pub again_few : (h : ℕ) → count_to h (telling (service_number world.service) (service_of world.service) ++ freezing_again (service_of world.service)) ≤ 2
  again_few h = service_few h h (service_number world.service) (service_of world.service)
