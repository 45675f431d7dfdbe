-- All that was sent on a near connection since its client came is one stream of messages, and is what the machine said.
use Rattle.std.proofs.Common.{◌≡◌, ℕ, zero, suc, ◌+◌, ◌≤◌, ◌<◌, ◌^◌, true, false, cond, ◌==◌, List, [], ◌∷◌, ◌++◌, map, length, Option, Some, None, option_map, All, nat_lt, slice_get, refl, ap, sym, ◌∙◌, subst, ⊎_elim, inl, inr, append_assoc, append-nil, length-append, arith, lit<}
use Rattle.std.specs.Prelude.{pos, nat_le, filter, Contains}
use Rattle.std.specs.Str.{IsUtf8}
use Rattle.std.specs.Int.{w32, cast_signed}
use Rattle.std.specs.List.{filter_map, flat_map, cons_option}
use Rattle.std.proofs.lemmas.Bool.Decides.{nat_tests}
use Rattle.std.proofs.lemmas.List.{length-map}
use Rattle.std.proofs.lemmas.List.Elements.{All-nil, All-cons, filter-append}
use Rattle.grid_base.specs.Errors.{want_of_memory}
use Rattle.grid_base.specs.Objects.{Object}
use Rattle.grid_base.specs.declared.names.CallId.{CallId}
use Rattle.grid_base.specs.declared.calls.Request.{Request}
use Rattle.frame_codec.specs.Laws.{spelled}
use Rattle.frame_codec.specs.declared.frames.Frame.{Frame}
use Rattle.fixed_fields.specs.Responses.{error_bytes}
use Rattle.message_frames.specs.Assembly.{most_messages, first_payload}
use Rattle.message_frames.specs.Grammar.{Unfragmented, ends_at_final}
use Rattle.message_frames.specs.Merging.{keeps_rules}
use Rattle.message_frames.specs.Writing.{IsWritable}
use Rattle.message_frames.proofs.HeardPieces.{AreFrames}
use Rattle.partition_table.specs.declared.Row.{Row}
use Rattle.client_codecs.specs.Replies.{authentication_reply}
use Rattle.event_codecs.specs.Writing.{frame, final_end_list, row_frame, rows_frames}
use Rattle.event_codecs.specs.declared.registration.Registration.TheVariants as registration
use Rattle.object_store.specs.Partitions.{Partition}
use Rattle.call_engine.specs.Calls.{Settings}
use Rattle.call_engine.specs.Objects.{partition_object}
use Rattle.partition_protocol.specs.Node.{Node}
use Rattle.partition_protocol.specs.Service.{numbers_below}
use Rattle.partition_protocol.specs.World.{start}
use Rattle.partition_protocol.specs.Events.{Event, happens, run}
use Rattle.partition_protocol.proofs.Answers.{map_append}
use Rattle.partition_protocol.proofs.Extends.{run_append}
use Rattle.partition_protocol.proofs.Lists.{In, in_left, in_right, in_cases, in_contains, contains_in}
use Rattle.partition_protocol.proofs.RowFacts.{number_same, number_other}
use Rattle.request_codecs.specs.Openings.{authentication_correlation, invalidations_correlation, rows_correlation, opening}
use Rattle.near_protocol.specs.Client.{Said, Answer, Refusal, Invalidation, Rows}
use Rattle.near_protocol.specs.Near.{Occurs, LooksUp, LooksUpInVain, Hears, world, happened, said_by, occurred as machine_occurred, opening_at, looked_up, looked_up_in_vain, missed_in_vain, hears, invalidated_by}
use Rattle.near_protocol.specs.Claims.{AreNamedOnce}
use Rattle.grid_client.specs.Calls.{correlation_of}
use Rattle.replay_run.specs.Runs.{Run, Arrival, At, Appended, world_at, events_at, is_at, partitions, call_of, arrived, refusal, is_skipped, asked, happening, given_out, occurred, known_at, rows_known, registered_reply}
use Rattle.near_run_laws.specs.Maps.{keyed}
use Rattle.near_run_laws.specs.Messages.{sent_to, AreSaidBy}
use Rattle.near_run_laws.specs.NearConnections.{IsRight, IsNear, grid_of, grid_after}
use Rattle.near_run_laws.specs.Sessions.{near_opened}
use Rattle.near_run_laws.specs.Readings.{pieces_sent, messages_sent}
use Rattle.near_run_laws.specs.Following.{Machine, step}
use Rattle.near_run_laws.specs.NearRuns.{IsNearRun, client_came, went_aside, event_happened, call_arrived, client_missed, client_missed_in_vain, client_hit, client_heard}
use Rattle.near_run_laws.specs.Pieces.{AllMean}
use Rattle.near_run_laws.specs.Feeds.{all_said}
use Rattle.near_run_laws.specs.Speaking.{Speak}
use Rattle.near_run_laws.specs.Modest.{IsModest}
use Rattle.near_run_laws.specs.Spoken.{EveryNearRunSpeaks}
use Rattle.near_run_laws.proofs.Attaching as attaching
use Rattle.near_run_laws.proofs.Following.{right, missed, no_call_on}
use Rattle.near_run_laws.proofs.Hearings.{error_writable}
use Rattle.near_run_laws.proofs.NearRuns.{before, every_near_run_goes_well}
use Rattle.near_run_laws.proofs.Quiet.{IsQuietMessage, quiet_authentication, quiet_invalidations, quiet_rows}
use Rattle.near_run_laws.proofs.Runs.{world_is, after_event, call_says, event_says}
use Rattle.near_run_laws.proofs.Says.{Speaks}
use Rattle.near_run_laws.proofs.Sent.{sent_to-append, said-append}
use Rattle.near_run_laws.proofs.Speaking.{every_message_says_it}
use Rattle.near_run_laws.proofs.Telling.{Tells, IsTold, tells, tells_refusal, tells_rows, row_told}

-- ---- messages that can be sent

-- a message of one piece, with a head
pub record CanBeSent (frames : List Frame) : Type 0 where
  pub writable : IsWritable frames
  pub head : 13 ≤ length (first_payload frames)

abbrev AllCanBeSent : List (List Frame) → Type 0
AllCanBeSent [] = Unit {0}
AllCanBeSent (frames ∷ more) = CanBeSent frames × AllCanBeSent more

rows_end : (rows : List (ℕ × Row)) → ends_at_final (map row_frame rows ++ frame final_end_list [] ∷ []) ≡ true
rows_end [] = refl
rows_end (placed ∷ rows) = rows_end rows

-- What speaks can be sent.
speaks_well : (name : List ℕ) (frames : List Frame) (said : Said (List ℕ)) → Speak name frames said → CanBeSent frames
speaks_well name frames (Answer number reply) (value, is, small, writable, reply_is) = subst CanBeSent (sym is) (record { writable = writable; head = omega arith })
speaks_well name frames (Refusal number) (code, first, is, small, fits) = subst CanBeSent (sym is) (record { writable = error_writable (correlation_of number) code first; head = omega arith })
speaks_well name frames (Invalidation key version number) (p, is, its, fit) = subst CanBeSent (sym is) (record { writable = record { each = fit.each; form = refl; fits = fit.all }; head = omega arith })
speaks_well name frames (Rows rows) (known, is, its, fit, rows_are) = subst CanBeSent (sym is) (record { writable = record { each = fit.each; form = rows_end known; fits = fit.all }; head = omega arith })

-- ---- a stream of them

stream_frames : (sent : List (List Frame)) → AllCanBeSent sent → All AreFrames (pieces_sent sent)
stream_frames [] all = All-nil AreFrames
stream_frames (frames ∷ sent) all = All-cons AreFrames (Unfragmented frames) (pieces_sent sent) all.0.writable.each (stream_frames sent all.1)

stream_rules : (n : ℕ) (sent : List (List Frame)) → AllCanBeSent sent → n + length sent ≤ most_messages → keeps_rules 13 [] n (pieces_sent sent) ≡ true
stream_rules n [] all room = refl
stream_rules n (frames ∷ sent) all room =
    let long : nat_le 13 (length (first_payload frames)) ≡ true = (let l = all.0.head in grind (arith, nat_tests, l)) in
    let number : nat_lt n most_messages ≡ true = grind (arith, nat_tests, room) in
    let rest = stream_rules (n + 1) sent all.1 (omega (arith, room)) in
    rw (all.0.writable.form, all.0.writable.fits, long, number) rest

-- ---- what was said, by frames

record InFrames (name : List ℕ) (bytes : List (List ℕ)) (said : List (Said (List ℕ))) : Type 0 where
  sent : List (List Frame)
  is : bytes ≡ map spelled sent
  can : AllCanBeSent sent
  mean : AllMean name (messages_sent sent) (map (λ s. Some s) said)

in_frames : (name : List ℕ) (bytes : List (List ℕ)) (said : List (Said (List ℕ))) → AreSaidBy (Tells name) bytes said → InFrames name bytes said
in_frames name [] [] all = record { sent = []; is = refl; can = tt; mean = tt }
in_frames name [] (s ∷ said) all = absurd all
in_frames name (b ∷ bytes) [] all = absurd all
in_frames name (b ∷ bytes) (s ∷ said) ((frames, is, speak), all) =
    let rest = in_frames name bytes said all in
    record {
      sent = frames ∷ rest.sent;
      is = ap (λ bs. b ∷ bs) rest.is ∙ ap (λ c. c ∷ map spelled rest.sent) is;
      can = (speaks_well name frames s speak, rest.can);
      mean = ((every_message_says_it name frames s speak).1, rest.mean);
    }

said_all : (said : List (Said (List ℕ))) → all_said (map (λ s. Some s) said) ≡ said
said_all [] = refl
said_all (s ∷ said) = ap (λ ss. s ∷ ss) (said_all said)

-- ---- limits of the runs before

-- a run that goes on from another
record GoesOnFrom (c : ℕ) (r next : Run) : Type 0 where
  members : next.members ≡ r.members
  events : (more : List At) × (next.events ≡ r.events ++ more)
  sent : (more : List (List ℕ)) × (sent_to c next.appended ≡ sent_to c r.appended ++ more)

events_front : (p : ℕ) (es more : List At) → events_at p (es ++ more) ≡ events_at p es ++ events_at p more
events_front p es more = ap (map (λ (e : At). e.event)) (filter-append (is_at p) es more) ∙ map_append (λ (e : At). e.event) (filter (is_at p) es) (filter (is_at p) more)

modest_before : (c : ℕ) (name : List ℕ) (r next : Run) → GoesOnFrom c r next → IsModest c name next → IsModest c name r
modest_before c name r next on modest = record {
  members = subst (λ n. n < 2 ^ 8) on.members modest.members;
  few = λ p. (let few = modest.few p in let longer = ap length (parted p) ∙ length-append (events_at p r.events) (events_at p on.events.0) in omega (arith, few, longer));
  proper = λ p e i. modest.proper p e (contains_in e (events_at p next.events) (subst (In e) (sym (parted p)) (in_left e (events_at p r.events) (events_at p on.events.0) (in_contains e (events_at p r.events) i))));
  short = modest.short;
  room = let room = modest.room in let longer = ap length on.sent.1 ∙ length-append (sent_to c r.appended) on.sent.0 in omega (arith, room, longer);
}
  where
    parted : (p : ℕ) → events_at p next.events ≡ events_at p r.events ++ events_at p on.events.0
    parted p = ap (events_at p) on.events.1 ∙ events_front p r.events on.events.0

-- ---- what was said

-- on a near connection, since its client came: the three answers to its opening, and then what the machine said
record Told (name : List ℕ) (r : Run) (s : Machine) (earlier : List (List ℕ)) (heard : List (Said (List ℕ))) : Type 0 where
  first : List ℕ
  second : List ℕ
  third : List ℕ
  accepted : IsQuietMessage first
  listens : IsQuietMessage second
  views : IsQuietMessage third
  since : List (List ℕ)
  sent : sent_to s.conn r.appended ≡ earlier ++ first ∷ second ∷ third ∷ since
  said : AreSaidBy (Tells name) since (heard ++ s.unread)
  processed : s.processed ≡ flat_map invalidated_by heard

-- more was said
told_more : (name : List ℕ) (r next : Run) (s t : Machine) (earlier : List (List ℕ)) (heard new : List (Said (List ℕ))) (appended : List Appended) → Told name r s earlier heard → next.appended ≡ r.appended ++ appended
    → AreSaidBy (Tells name) (sent_to s.conn appended) new → t.conn ≡ s.conn → t.unread ≡ s.unread ++ new → t.processed ≡ s.processed → Told name next t earlier heard
told_more name r next s t earlier heard new appended told is says conn unread processed = record {
  first = told.first;
  second = told.second;
  third = told.third;
  accepted = told.accepted;
  listens = told.listens;
  views = told.views;
  since = told.since ++ sent_to s.conn appended;
  sent = ap (λ c. sent_to c next.appended) conn ∙ ap (sent_to s.conn) is ∙ sent_to-append s.conn r.appended appended ∙ ap (λ xs. xs ++ sent_to s.conn appended) told.sent ∙ append_assoc earlier (told.first ∷ told.second ∷ told.third ∷ told.since) (sent_to s.conn appended);
  said = subst (AreSaidBy (Tells name) (told.since ++ sent_to s.conn appended)) (append_assoc heard s.unread new ∙ ap (λ ms. heard ++ ms) (sym unread))
      (said-append (Tells name) told.since (sent_to s.conn appended) (heard ++ s.unread) new told.said says);
  processed = processed ∙ told.processed;
}

-- the same of another run and machine that say no more
told_same : (name : List ℕ) (r next : Run) (s t : Machine) (earlier : List (List ℕ)) (heard : List (Said (List ℕ))) → Told name r s earlier heard → sent_to s.conn next.appended ≡ sent_to s.conn r.appended → t.conn ≡ s.conn → t.unread ≡ s.unread → t.processed ≡ s.processed → Told name next t earlier heard
told_same name r next s t earlier heard told is conn unread processed = record {
  first = told.first;
  second = told.second;
  third = told.third;
  accepted = told.accepted;
  listens = told.listens;
  views = told.views;
  since = told.since;
  sent = ap (λ c. sent_to c next.appended) conn ∙ is ∙ told.sent;
  said = subst (λ ms. AreSaidBy (Tells name) told.since (heard ++ ms)) (sym unread) told.said;
  processed = processed ∙ told.processed;
}

invalidated-append : (xs ys : List (Said (List ℕ))) → flat_map invalidated_by (xs ++ ys) ≡ flat_map invalidated_by xs ++ flat_map invalidated_by ys
invalidated-append [] ys = refl
invalidated-append (x ∷ xs) ys = ap (λ zs. invalidated_by x ++ zs) (invalidated-append xs ys) ∙ sym (append_assoc (invalidated_by x) (flat_map invalidated_by xs) (flat_map invalidated_by ys))

-- ---- one event more

module _ (settings : Settings) (client : ℕ) (name : List ℕ) (r next : Run) (s : Machine) (p : ℕ) (e : Event Request) (appended : List Appended) (members : next.members ≡ r.members) (backups : next.backups ≡ r.backups)
    (events : next.events ≡ r.events ++ record { partition = p; event = e } ∷ []) (adds : next.appended ≡ r.appended ++ appended) where
  abbrev o : Object Request Partition
  o = partition_object settings

  goes_on : GoesOnFrom s.conn r next
  goes_on = record { members = members; events = (record { partition = p; event = e } ∷ [], events); sent = (sent_to s.conn appended, ap (sent_to s.conn) adds ∙ sent_to-append s.conn r.appended appended) }

  events_here : events_at p next.events ≡ events_at p r.events ++ e ∷ []
  events_here = ap (events_at p) events ∙ events_front p r.events (record { partition = p; event = e } ∷ [])
      ∙ ap (λ b. events_at p r.events ++ map (λ (x : At). x.event) (cond b (record { partition = p; event = e } ∷ []) [])) (number_same p p refl)

  world_next : world_at (partition_object settings) next p ≡ after_event settings r s.conn name client p e
  world_next =
      ap (λ n. run (partition_object settings) (start p n next.backups) (events_at p next.events)) members
      ∙ ap (λ n. run (partition_object settings) (start p r.members n) (events_at p next.events)) backups
      ∙ ap (run (partition_object settings) (start p r.members r.backups)) events_here
      ∙ run_append (partition_object settings) (start p r.members r.backups) (events_at p r.events) (e ∷ [])
      ∙ ap (λ w. (happens (partition_object settings) w e).world) (sym (world_is settings s.conn name client r p))

  -- what was appended speaks
  told_event : (earlier : List (List ℕ)) (heard : List (Said (List ℕ))) → Told name r s earlier heard → 1 ≤ r.members → s.grid ≡ grid_of settings s.conn name client r → IsNear next s.conn s.member name → IsUtf8 name → IsModest s.conn name next
      → (Speaks settings (Tells name) s.conn s.member name p (after_event settings r s.conn name client p e)
      → AreSaidBy (Tells name) (sent_to s.conn appended) (said_by (partition_object settings) s.member s.conn (world (partition_object settings) (grid_of settings s.conn name client r) p) (grid_after settings s.conn name client r p e).changes p e))
      → Told name next (machine_occurred (partition_object settings) (keyed settings s.conn name client) s p e) earlier heard
  told_event earlier heard told one grid near text modest says =
      told_more name r next s (machine_occurred (partition_object settings) (keyed settings s.conn name client) s p e) earlier heard
      (said_by (partition_object settings) s.member s.conn (world (partition_object settings) s.grid p) (happened (partition_object settings) (keyed settings s.conn name client) s.grid p e).changes p e)
      appended told adds
      (subst (λ g. AreSaidBy (Tells name) (sent_to s.conn appended) (said_by (partition_object settings) s.member s.conn (world (partition_object settings) g p) (happened (partition_object settings) (keyed settings s.conn name client) g p e).changes p e)) (sym grid) (says speaks))
      refl refl refl
    where
      here : In e (events_at p next.events)
      here = subst (In e) (sym events_here) (in_right e (events_at p r.events) (e ∷ []) (inl refl))

      within : p < partitions
      within = (modest.proper p e (contains_in e (events_at p next.events) here)).0

      speaks : Speaks settings (Tells name) s.conn s.member name p (after_event settings r s.conn name client p e)
      speaks = subst (Speaks settings (Tells name) s.conn s.member name p) world_next (tells settings s.conn s.member name next (subst (λ n. 1 ≤ n) (sym members) one) text modest near.events p within)

-- ---- the rows that are told first

pub below : (n p : ℕ) → In p (numbers_below n) → p < n
below zero p i = absurd i
below (suc n) p i = ⊎_elim (λ j. let l = below n p j in omega (arith, l)) last (in_cases p (numbers_below n) (n ∷ []) i)
  where
    last : In p (n ∷ []) → p < suc n
    last (inl s) = omega (arith, s)
    last (inr j) = absurd j

counted : (n : ℕ) → length (numbers_below n) ≡ n
counted zero = refl
counted (suc n) = let before = counted n in let whole = length-append (numbers_below n) (n ∷ []) in omega (arith, before, whole)

few_of : {X Y : Type 0} (f : X → Option Y) (xs : List X) → length (filter_map f xs) ≤ length xs
few_of f [] = omega arith
few_of {X} {Y} f (x ∷ xs) = go (f x) (few_of f xs)
  where
    go : (y : Option Y) → length (filter_map f xs) ≤ length xs → length (cons_option y (filter_map f xs)) ≤ suc (length xs)
    go None l = omega (arith, l)
    go (Some y) l = omega (arith, l)

module _ (settings : Settings) (c m : ℕ) (name : List ℕ) (r : Run) (one : 1 ≤ r.members) (text : IsUtf8 name) (modest : IsModest c name r) (right : (q : ℕ) (e : Event Request) → Contains (events_at q r.events) e → IsRight c m q e) where
  rows_told : (ps : List ℕ) → ((p : ℕ) → In p ps → p < partitions) → All IsTold (filter_map (known_at (partition_object settings) r m) ps)
  rows_told [] within = All-nil IsTold
  rows_told (p ∷ ps) within = go (slice_get (world_at (partition_object settings) r p).nodes m) refl (rows_told ps (λ q i. within q (inr i)))
    where
      go : (x : Option Node) → slice_get (world_at (partition_object settings) r p).nodes m ≡ x → All IsTold (filter_map (known_at (partition_object settings) r m) ps)
          → All IsTold (cons_option (option_map (λ (node : Node). (p, node.known)) x) (filter_map (known_at (partition_object settings) r m) ps))
      go None at rest = rest
      go (Some a) at rest = All-cons IsTold (p, a.known) (filter_map (known_at (partition_object settings) r m) ps) (row_told settings c m name r one text modest right p (within p (inl refl)) a at) rest

-- ---- every run

-- the name is a text
text_of : {settings : Settings} {client : ℕ} {name : List ℕ} {r : Run} {s : Machine} {earlier : List (List ℕ)} {heard : List (Said (List ℕ))} → IsNearRun settings client name r s earlier heard → IsUtf8 name
text_of (client_came r k first capacity one within fresh new may) = may.text
text_of (went_aside r next s earlier heard run aside) = text_of run
text_of (event_happened r s earlier heard p e run quiet) = text_of run
text_of (call_arrived r s earlier heard own a skips run apart fitting found) = text_of run
text_of (client_missed r s earlier heard key own a skips run next none found) = text_of run
text_of (client_missed_in_vain r s earlier heard key own a skips run may request none skipped) = text_of run
text_of (client_hit r s earlier heard key value now run found) = text_of run
text_of (client_heard r s earlier heard message rest run is) = text_of run

module _ (settings : Settings) (client : ℕ) (name : List ℕ) where
  asked_now : (r : Run) (own : Option ℕ) (a : Arrival) (skips : List CallId) → is_skipped skips a.request.id ≡ false
      → asked (partition_object settings) skips r own a ≡ arrived r a (record { partition = a.request.partition; event = call_of a } ∷ []) (happening (partition_object settings) r own a)
  asked_now r own a skips found = ap (λ b. cond b (arrived r a [] (refusal a.made a.request (pos want_of_memory) 0 ∷ [])) (arrived r a (record { partition = a.request.partition; event = call_of a } ∷ []) (happening (partition_object settings) r own a))) found

  -- the run and its machine after an event, which they go well with
  went : {next : Run} {t : Machine} {earlier : List (List ℕ)} {heard : List (Said (List ℕ))} → IsNearRun settings client name next t earlier heard → AreNamedOnce t.grid → (z : Machine) → t ≡ z → IsNear next z.conn z.member name
  went {next} {t} {earlier} {heard} run named z is = subst (λ (y : Machine). IsNear next y.conn y.member name) is (every_near_run_goes_well settings client name next t earlier heard run named).follows.near

  told : {r : Run} {s : Machine} {earlier : List (List ℕ)} {heard : List (Said (List ℕ))} → IsNearRun settings client name r s earlier heard → AreNamedOnce s.grid → IsModest s.conn name r → Told name r s earlier heard
  told (client_came r k first capacity one within fresh new may) named modest = record {
    first = authentication_reply authentication_correlation true k.member;
    second = registered_reply (registration.Invalidations invalidations_correlation name);
    third = registered_reply (registration.Rows rows_correlation);
    accepted = quiet_authentication k.member;
    listens = quiet_invalidations name;
    views = quiet_rows;
    since = spelled (rows_frames rows_correlation (rows_known (partition_object settings) (near_opened (partition_object settings) r k name (opening client (Some name))) k.member)) ∷ [];
    sent = attaching.sent settings r k client name one within fresh may;
    said = (
      subst (λ rows. Tells name (spelled (rows_frames rows_correlation (rows_known (partition_object settings) (near_opened (partition_object settings) r k name (opening client (Some name))) k.member))) (Rows rows)) (sym (attaching.rows_told settings r k client name one within fresh may (numbers_below partitions)))
          (tells_rows name (rows_known (partition_object settings) (near_opened (partition_object settings) r k name (opening client (Some name))) k.member) (rows_told settings k.conn k.member name (near_opened (partition_object settings) r k name (opening client (Some name))) one may.text modest fresh.events (numbers_below partitions) (below partitions))
          (let few = few_of (known_at (partition_object settings) (near_opened (partition_object settings) r k name (opening client (Some name))) k.member) (numbers_below partitions) in let count = counted partitions in omega (arith, few, count))),
      tt,
    );
    processed = refl;
  }
  told (went_aside r next s earlier heard run aside) named modest =
      told_same name r next s s earlier heard
      (told run named (modest_before s.conn name r next (record { members = aside.members; events = ([], aside.events ∙ sym (append-nil r.events)); sent = ([], aside.sent ∙ sym (append-nil (sent_to s.conn r.appended))) }) modest))
      aside.sent refl refl refl
  told (event_happened r s earlier heard p e run quiet) named modest =
      let is : step settings client name s (Occurs p e) ≡ machine_occurred (partition_object settings) (keyed settings s.conn name client) s p e =
      ap (λ b. cond b s (machine_occurred (partition_object settings) (keyed settings s.conn name client) s p e)) (no_call_on s.conn e quiet)
      in
      let conn = ap (λ (z : Machine). z.conn) is in
      let now : IsModest s.conn name (occurred (partition_object settings) r p e) = subst (λ c. IsModest c name (occurred (partition_object settings) r p e)) conn modest in
      let once = before settings client name s (Occurs p e) named in
      let b = every_near_run_goes_well settings client name r s earlier heard run once in
      let new = given_out (partition_object settings) r p e in
      let old = told run once (modest_before s.conn name r (occurred (partition_object settings) r p e) (goes_on settings client name r (occurred (partition_object settings) r p e) s p e new refl refl refl refl) now) in
      let after : AreNamedOnce (grid_after settings s.conn name client r p e) =
      subst AreNamedOnce (ap (λ (z : Machine). z.grid) is ∙ ap (λ g. happened (partition_object settings) (keyed settings s.conn name client) g p e) b.follows.grid) named
      in
      subst (λ z. Told name (occurred (partition_object settings) r p e) z earlier heard) (sym is)
      (told_event settings client name r (occurred (partition_object settings) r p e) s p e new refl refl refl refl earlier heard old b.members b.follows.grid
      (went (event_happened r s earlier heard p e run quiet) named (machine_occurred (partition_object settings) (keyed settings s.conn name client) s p e) is) (text_of run) now
      (event_says settings r s.conn s.member name client p e b.members b.follows.near quiet after (Tells name)))
  told (call_arrived r s earlier heard own a skips run apart fitting found) named modest =
      let p = a.request.partition in
      let next = arrived r a (record { partition = p; event = call_of a } ∷ []) (happening (partition_object settings) r own a) in
      let run_is = asked_now r own a skips found in
      let is : step settings client name s (Occurs p (call_of a)) ≡ machine_occurred (partition_object settings) (keyed settings s.conn name client) s p (call_of a) =
      ap (λ b. cond b s (machine_occurred (partition_object settings) (keyed settings s.conn name client) s p (call_of a))) (number_other a.request.id.conn s.conn apart)
      in
      let conn = ap (λ (z : Machine). z.conn) is in
      let now : IsModest s.conn name next = subst (IsModest s.conn name) run_is (subst (λ c. IsModest c name (asked (partition_object settings) skips r own a)) conn modest) in
      let once = before settings client name s (Occurs p (call_of a)) named in
      let b = every_near_run_goes_well settings client name r s earlier heard run once in
      let new = happening (partition_object settings) r own a in
      let old = told run once (modest_before s.conn name r next (goes_on settings client name r next s p (call_of a) new refl refl refl refl) now) in
      let after : AreNamedOnce (grid_after settings s.conn name client r p (call_of a)) =
      subst AreNamedOnce (ap (λ (z : Machine). z.grid) is ∙ ap (λ g. happened (partition_object settings) (keyed settings s.conn name client) g p (call_of a)) b.follows.grid) named
      in
      let near = subst (λ z. IsNear z s.conn s.member name) run_is (went (call_arrived r s earlier heard own a skips run apart fitting found) named (machine_occurred (partition_object settings) (keyed settings s.conn name client) s p (call_of a)) is) in
      subst (λ z. Told name z (step settings client name s (Occurs p (call_of a))) earlier heard) (sym run_is)
      (subst (λ z. Told name next z earlier heard) (sym is)
      (told_event settings client name r next s p (call_of a) new refl refl refl refl earlier heard old b.members b.follows.grid near (text_of run) now
      (call_says settings r s.conn s.member name client own a b.members b.follows.near fitting after (Tells name))))
  told (client_missed r s earlier heard key own a skips run next_get none found) named modest =
      let p = a.request.partition in
      let next = arrived r a (record { partition = p; event = call_of a } ∷ []) (happening (partition_object settings) r own a) in
      let run_is = asked_now r own a skips found in
      let once = before settings client name s (LooksUp key a.now) named in
      let b = every_near_run_goes_well settings client name r s earlier heard run once in
      let waits = opening_at s key in
      let is = missed settings client name key r s a b.follows next_get none in
      let conn = ap (λ (z : Machine). z.conn) is in
      let now : IsModest s.conn name next = subst (IsModest s.conn name) run_is (subst (λ c. IsModest c name (asked (partition_object settings) skips r own a)) conn modest) in
      let new = happening (partition_object settings) r own a in
      let old = told run once (modest_before s.conn name r next (goes_on settings client name r next s p (call_of a) new refl refl refl refl) now) in
      let opened = told_same name r r s waits earlier heard old refl refl refl refl in
      let after : AreNamedOnce (grid_after settings s.conn name client r p (call_of a)) =
      subst AreNamedOnce (ap (λ (z : Machine). z.grid) is ∙ ap (λ g. happened (partition_object settings) (keyed settings s.conn name client) g p (call_of a)) b.follows.grid) named
      in
      let near = subst (λ z. IsNear z s.conn s.member name) run_is (went (client_missed r s earlier heard key own a skips run next_get none found) named (machine_occurred (partition_object settings) (keyed settings s.conn name client) waits p (call_of a)) is) in
      subst (λ z. Told name z (step settings client name s (LooksUp key a.now)) earlier heard) (sym run_is)
      (subst (λ z. Told name next z earlier heard) (sym is)
      (told_event settings client name r next waits p (call_of a) new refl refl refl refl earlier heard opened b.members b.follows.grid near (text_of run) now
      (call_says settings r s.conn s.member name client own a b.members b.follows.near (right settings client name key r s a b.follows next_get) after (Tells name))))
  told (client_missed_in_vain r s earlier heard key own a skips run may request none skipped) named modest =
      let next = arrived r a [] (refusal a.made a.request (pos want_of_memory) 0 ∷ []) in
      let run_is : asked (partition_object settings) skips r own a ≡ next =
      ap (λ b. cond b next (arrived r a (record { partition = a.request.partition; event = call_of a } ∷ []) (happening (partition_object settings) r own a))) skipped
      in
      let is : step settings client name s (LooksUpInVain key) ≡ missed_in_vain s key = ap (looked_up_in_vain (keyed settings s.conn name client) s key) none in
      let conn = ap (λ (z : Machine). z.conn) is in
      let once = before settings client name s (LooksUpInVain key) named in
      let now : IsModest s.conn name next = subst (IsModest s.conn name) run_is (subst (λ c. IsModest c name (asked (partition_object settings) skips r own a)) conn modest) in
      let new = refusal a.made a.request (pos want_of_memory) 0 ∷ [] in
      let old = told run once (modest_before s.conn name r next (record { members = refl; events = ([], refl); sent = (sent_to s.conn new, sent_to-append s.conn r.appended new) }) now) in
      let on_it : (a.request.id.conn == s.conn) ≡ true = number_same a.request.id.conn s.conn (ap (λ (q : Request). q.id.conn) request) in
      let bytes : sent_to s.conn new ≡ error_bytes (correlation_of s.next_number) (pos want_of_memory) (cast_signed w32 0) (pos 0) ∷ [] =
      ap (λ b. map (λ (x : Appended). x.bytes) (cond b new [])) on_it ∙ ap (λ (q : Request). error_bytes q.correlation (pos want_of_memory) (cast_signed w32 0) (pos 0) ∷ []) request
      in
      let says : AreSaidBy (Tells name) (sent_to s.conn new) (Refusal s.next_number ∷ []) =
      subst (λ xs. AreSaidBy (Tells name) xs (Refusal s.next_number ∷ [])) (sym bytes) (tells_refusal name s.next_number want_of_memory (cast_signed w32 0) may.room (lit< tt), tt)
      in
      subst (λ z. Told name z (step settings client name s (LooksUpInVain key)) earlier heard) (sym run_is)
      (subst (λ z. Told name next z earlier heard) (sym is) (told_more name r next s (missed_in_vain s key) earlier heard (Refusal s.next_number ∷ []) new old refl says refl refl refl))
  told (client_hit r s earlier heard key value now run found) named modest =
      let is = ap (looked_up (partition_object settings) (keyed settings s.conn name client) s key now) found in
      let old = told run (before settings client name s (LooksUp key now) named) (subst (λ c. IsModest c name r) (ap (λ (z : Machine). z.conn) is) modest) in
      subst (λ z. Told name r z earlier heard) (sym is) (told_same name r r s (looked_up (partition_object settings) (keyed settings s.conn name client) s key now (Some value)) earlier heard old refl refl refl refl)
  told (client_heard r s earlier heard message rest run unread) named modest =
      let is = ap (hears (keyed settings s.conn name client) s) unread in
      let old = told run (before settings client name s Hears named) (subst (λ c. IsModest c name r) (ap (λ (z : Machine). z.conn) is) modest) in
      subst (λ z. Told name r z earlier (heard ++ message ∷ [])) (sym is) (record {
        first = old.first;
        second = old.second;
        third = old.third;
        accepted = old.accepted;
        listens = old.listens;
        views = old.views;
        since = old.since;
        sent = old.sent;
        said = subst (AreSaidBy (Tells name) old.since) (ap (λ ms. heard ++ ms) unread ∙ sym (append_assoc heard (message ∷ []) rest)) old.said;
        processed = ap (λ is. is ++ invalidated_by message) old.processed ∙ ap (λ is. flat_map invalidated_by heard ++ is) (sym (append-nil (invalidated_by message))) ∙ sym (invalidated-append heard (message ∷ []));
      })

-- ---- one stream

pub every_near_run_speaks : EveryNearRunSpeaks
every_near_run_speaks settings client name r s earlier heard run named modest =
    let t = told settings client name run named modest in
    let f = in_frames name t.since (heard ++ s.unread) t.said in
    let sent = t.accepted.frames ∷ t.listens.frames ∷ t.views.frames ∷ f.sent in
    let can : AllCanBeSent sent = (
      record { writable = t.accepted.writable; head = t.accepted.head },
      (record { writable = t.listens.writable; head = t.listens.head }, (record { writable = t.views.writable; head = t.views.head }, f.can)),
    )
    in
    let bytes : sent_to s.conn r.appended ≡ earlier ++ map spelled sent =
    t.sent ∙ ap (λ xs. earlier ++ xs)
    (ap (λ b. b ∷ t.second ∷ t.third ∷ t.since) t.accepted.is ∙ ap (λ b. spelled t.accepted.frames ∷ b ∷ t.third ∷ t.since) t.listens.is
    ∙ ap (λ b. spelled t.accepted.frames ∷ spelled t.listens.frames ∷ b ∷ t.since) t.views.is ∙ ap (λ bs. spelled t.accepted.frames ∷ spelled t.listens.frames ∷ spelled t.views.frames ∷ bs) f.is)
    in
    let count = ap length bytes ∙ length-append earlier (map spelled sent) ∙ ap (λ n. length earlier + n) (length-map sent spelled) in
    let room = modest.room in
    record {
      sent = sent;
      bytes = bytes;
      stream = record { frames = stream_frames sent can; rules = stream_rules 0 sent can (omega (arith, count, room)) };
      says = None ∷ None ∷ None ∷ map (λ x. Some x) (heard ++ s.unread);
      mean = (t.accepted.quiet, (t.listens.quiet, (t.views.quiet, f.mean)));
      all = said_all (heard ++ s.unread);
      processed = t.processed;
    }
