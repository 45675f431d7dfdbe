-- What the events of a partition send on a near connection speaks, where its run is within the limits.
use Rattle.std.proofs.Common.{◌≡◌, ℕ, ◌+◌, ◌*◌, ◌≤◌, ◌<◌, ◌^◌, Bool, true, false, List, [], ◌∷◌, ◌++◌, map, length, sum_by, Option, Some, None, IfSome, All, slice_get, refl, ap, sym, ◌∙◌, subst, append-nil, length-append, arith, lit<, lit≤}
use Rattle.std.specs.Prelude.{ℤ, pos, negsuc, nat_le, nat_eq, Contains}
use Rattle.std.specs.Int.{w32, to_le_bytes}
use Rattle.std.specs.Int.RustNames.{FitsSigned}
use Rattle.std.specs.Option.{option_eq}
use Rattle.std.specs.Cmp.Lexicographic.{pointwise}
use Rattle.std.specs.Str.{IsUtf8}
use Rattle.std.proofs.lemmas.Bool.Decides.{nat_tests}
use Rattle.std.proofs.lemmas.Int.{ints}
use Rattle.std.proofs.lemmas.List.{length-map}
use Rattle.std.proofs.lemmas.List.Elements.{All-nil, All-cons, All-head, All-tail}
use Rattle.std.proofs.lemmas.List.Sums.{sum_by-cons}
use Rattle.grid_base.specs.Limits.{FitsFrame, most_bytes, CallFits}
use Rattle.grid_base.specs.Names.{key_of}
use Rattle.grid_base.specs.declared.calls.Answer.TheVariants.{Maybe}
use Rattle.grid_base.specs.declared.calls.Change.{Change}
use Rattle.grid_base.specs.declared.calls.GridCall.{GridCall}
use Rattle.grid_base.specs.declared.calls.GridCall.TheVariants as call
use Rattle.grid_base.specs.declared.calls.Request.{Request}
use Rattle.frame_codec.specs.Frames.{frame_length}
use Rattle.frame_codec.specs.Laws.{IsWithinLimits, spelled}
use Rattle.frame_codec.specs.declared.frames.Frame.{Frame}
use Rattle.fixed_fields.specs.Replies.{reply_bytes}
use Rattle.fixed_fields.specs.Responses.{unfragmented, final, response_head, error_bytes}
use Rattle.message_frames.specs.Assembly.{most_messages, most_frames, most_length}
use Rattle.message_frames.specs.Writing.{IsWritable}
use Rattle.map_codecs.specs.Calls.{get_kind}
use Rattle.partition_table.specs.Rows.{numbers_of}
use Rattle.partition_table.specs.declared.Row.{Row}
use Rattle.partition_table.specs.declared.RowMember.{RowMember}
use Rattle.event_codecs.specs.Sent.{FitMessage}
use Rattle.event_codecs.specs.SpelledEvents.{IsSeenRow}
use Rattle.event_codecs.specs.Events.{invalidation_kind, rows_kind}
use Rattle.event_codecs.specs.Writing.{frame, first_frame, final_end_list, begin_list, row_frame, seen, invalidation_frames, rows_frames}
use Rattle.request_codecs.specs.Openings.{invalidations_correlation, rows_correlation}
use Rattle.map_records.specs.MapEntries.{cleaned}
use Rattle.object_store.specs.Records.{Record, entry_in}
use Rattle.object_store.specs.Partitions.{Partition, record_at}
use Rattle.call_engine.specs.Calls.{Settings, answer}
use Rattle.call_engine.specs.Objects.{target_of, partition_object}
use Rattle.partition_protocol.specs.History.{Executed, Called}
use Rattle.partition_protocol.specs.Node.{Node}
use Rattle.partition_protocol.specs.World.{World}
use Rattle.partition_protocol.specs.Events.{Event, Call, Deliver, Lose, Repeat, Resend, Crash, Detect, BeginMove, BeginJoin, BeginHandover, Advance, Reopen}
use Rattle.partition_protocol.specs.Arrivals.{arrivals}
use Rattle.partition_protocol.specs.HistorySizes.{asked_of}
use Rattle.partition_protocol.proofs.Bounds.{every_run_is_within}
use Rattle.partition_protocol.proofs.HistorySizes.{every_logged_call_arrived}
use Rattle.partition_protocol.proofs.Lists.{In, in_contains, contains_in, every_from_in}
use Rattle.partition_protocol.proofs.Listings.{every_all}
use Rattle.partition_protocol.proofs.RowFacts.{both}
use Rattle.partition_protocol.proofs.WellFormed.{every_run_is_well_formed}
use Rattle.partition_world.specs.Answers.{state_before}
use Rattle.partition_world.specs.Events.{EventWithin}
use Rattle.partition_world.proofs.SmallStates.{every_of_all}
use Rattle.partition_world.proofs.Spelled.{below_few, numbers_every, numbers_length}
use Rattle.near_protocol.specs.Client.{Said, Answer, Refusal, Invalidation, Rows}
use Rattle.grid_client.specs.Nears.{Value}
use Rattle.grid_client.specs.Calls.{correlation_of}
use Rattle.replay_run.specs.Changes.{change_between, change_by}
use Rattle.replay_run.specs.Runs.{Run, world_at, events_at, partitions}
use Rattle.near_run_laws.specs.Hearings.{value_frame, answer_frames, refusal_frames}
use Rattle.near_run_laws.specs.Messages.{row_said}
use Rattle.near_run_laws.specs.Modest.{HasKey, BringsFitting, IsModest}
use Rattle.near_run_laws.specs.NearConnections.{IsGet, IsRight}
use Rattle.near_run_laws.specs.Speaking.{Speak}
use Rattle.near_run_laws.proofs.Hearings.{its_bytes}
use Rattle.near_run_laws.proofs.Runs.{arrived_event}
use Rattle.near_run_laws.proofs.Says.{Speaks}
use Rattle.near_run_laws.proofs.Values.{ValuesFit, clean_fits, every_call_is_replied}

-- These bytes are those of frames that say this.
abbrev pub Tells : List ℕ → List ℕ → Said (List ℕ) → Type 0
Tells name bytes said = (frames : List Frame) × (bytes ≡ spelled frames) × Speak name frames said

-- ---- refusals

pub tells_refusal : (name : List ℕ) (number code : ℕ) (first : ℤ) → number < most_messages → code < 2 ^ 31 → Tells name (error_bytes (correlation_of number) (pos code) first (pos 0)) (Refusal number)
tells_refusal name number code first small low =
    let fits : FitsSigned w32 (pos code) = omega (arith, ints, low) in
    (refusal_frames number (pos code) first, sym (append-nil _), (pos code, first, refl, small, fits))

-- ---- answers

two_within : (a b : Frame) → IsWithinLimits a → IsWithinLimits b → All IsWithinLimits (a ∷ b ∷ [])
two_within a b h k = All-cons IsWithinLimits a (b ∷ []) h (All-cons IsWithinLimits b [] k (All-nil IsWithinLimits))

abbrev answer_head : ℕ → Frame
answer_head number = record { flags = unfragmented; payload = response_head get_kind (correlation_of number) }

answer_writable : (number : ℕ) (value : Value) → IfSome value FitsFrame → IsWritable (answer_frames number value)
answer_writable number None fits = record {
  each = two_within (answer_head number) (value_frame None) (lit< tt, lit≤ tt) (lit< tt, lit≤ tt);
  form = refl;
  fits = refl;
}
answer_writable number (Some value) fits = record {
  each = two_within (answer_head number) (value_frame (Some value)) (lit< tt, lit≤ tt) (lit< tt, fits);
  form = refl;
  fits = let few : nat_le (sum_by frame_length (answer_frames number (Some value))) most_length ≡ true = grind (arith, nat_tests) in few;
}

tells_answer : (name : List ℕ) (number : ℕ) (value : Value) (reply : List ℕ) → number < most_messages → IfSome value FitsFrame → reply ≡ reply_bytes get_kind (correlation_of number) (Maybe value) → Tells name reply (Answer number reply)
tells_answer name number value reply small fits is =
    (answer_frames number value, is ∙ its_bytes number value, (value, refl, small, answer_writable number value fits, is))

-- ---- invalidations

tells_invalidation : (name : List ℕ) (p version number : ℕ) (key : List ℕ) → p < partitions → version < 2 ^ 32 → number < 2 ^ 32 → IsUtf8 name → length name + 30 ≤ most_bytes → FitsFrame key → 8 ≤ length key
    → Tells name (spelled (invalidation_frames invalidations_correlation p version number name key)) (Invalidation key version number)
tells_invalidation name p version number key within few seen_few text short fits long = (
  invalidation_frames invalidations_correlation p version number name key,
  refl,
  (
    p,
    refl,
    record { correlation = omega (arith, ints); partition = omega (arith, ints, within); parts = (few, seen_few, text, long) },
    record {
      each =
          let head : Frame = first_frame invalidation_kind invalidations_correlation (pos p) (to_le_bytes w32 version ++ to_le_bytes w32 number) in
          All-cons IsWithinLimits head (frame 0 name ∷ frame final key ∷ []) (lit< tt, lit≤ tt) (two_within (frame 0 name) (frame final key) (lit< tt, (let l : length name ≤ most_bytes = omega (arith, short) in l)) (lit< tt, fits));
      all = let all : nat_le (sum_by frame_length (invalidation_frames invalidations_correlation p version number name key)) most_length ≡ true = grind (arith, nat_tests) in all;
    },
  ),
)

-- ---- rows

-- a row of one of the partitions, within the limits
pub record IsTold (placed : ℕ × Row) : Type 0 where
  pub partition : placed.0 < partitions
  pub version : placed.1.version < 2 ^ 32
  pub members : length placed.1.members < 2 ^ 8

seen_rows : (known : List (ℕ × Row)) → All IsTold known → All IsSeenRow (map seen known)
seen_rows [] all = All-nil IsSeenRow
seen_rows (placed ∷ known) all =
    let h = All-head IsTold placed known all in
    let count = numbers_length placed.1.members in
    All-cons IsSeenRow (seen placed) (map seen known) (record { partition = h.partition; version = h.version; members = let few = h.members in omega (arith, few, count) }) (seen_rows known (All-tail IsTold placed known all))

row_within : (placed : ℕ × Row) → IsTold placed → IsWithinLimits (row_frame placed) × (frame_length (row_frame placed) ≤ 300)
row_within placed h =
    let count = numbers_length placed.1.members in
    let few = h.members in
    ((lit< tt, omega (arith, few, count)), omega (arith, few, count))

rows_within : (known : List (ℕ × Row)) → All IsTold known → All IsWithinLimits (map row_frame known ++ frame final_end_list [] ∷ []) × (sum_by frame_length (map row_frame known ++ frame final_end_list [] ∷ []) ≤ 300 * length known + 6)
rows_within [] all = (All-cons IsWithinLimits (frame final_end_list []) [] (lit< tt, lit≤ tt) (All-nil IsWithinLimits), lit≤ tt)
rows_within (placed ∷ known) all =
    let one = row_within placed (All-head IsTold placed known all) in
    let rest = rows_within known (All-tail IsTold placed known all) in
    let whole = sum_by-cons frame_length (row_frame placed) (map row_frame known ++ frame final_end_list [] ∷ []) in
    let size = one.1 in
    let sizes = rest.1 in
    (All-cons IsWithinLimits (row_frame placed) (map row_frame known ++ frame final_end_list [] ∷ []) one.0 rest.0, omega (arith, whole, size, sizes))

pub tells_rows : (name : List ℕ) (known : List (ℕ × Row)) → All IsTold known → length known ≤ 271 → Tells name (spelled (rows_frames rows_correlation known)) (Rows (map row_said known))
tells_rows name known all few = (rows_frames rows_correlation known, refl, (known, refl, record { correlation = omega (arith, ints); partition = tt; parts = seen_rows known all }, fit, refl))
  where
    fit : FitMessage (rows_frames rows_correlation known)
    fit =
        let h = rows_within known all in
        let rest : List Frame = map row_frame known ++ frame final_end_list [] ∷ [] in
        let size = h.1 in
        let count : length rest ≡ length known + 1 = length-append (map row_frame known) (frame final_end_list [] ∷ []) ∙ ap (λ n. n + 1) (length-map known row_frame) in
        record {
          each = All-cons IsWithinLimits (first_frame rows_kind rows_correlation (negsuc 0) []) (frame begin_list [] ∷ rest) (lit< tt, lit≤ tt) (All-cons IsWithinLimits (frame begin_list []) rest (lit< tt, lit≤ tt) h.0);
          all =
              let frames : nat_le (length (rows_frames rows_correlation known)) most_frames ≡ true = grind (arith, nat_tests, count, few) in
              let first : Frame = first_frame rows_kind rows_correlation (negsuc 0) [] in
              let begun : Frame = frame begin_list [] in
              let whole = sum_by-cons frame_length first (begun ∷ rest) in
              let behind = sum_by-cons frame_length begun rest in
              let total : sum_by frame_length (rows_frames rows_correlation known) ≤ most_length = omega (arith, whole, behind, size, few) in
              let bytes : nat_le (sum_by frame_length (rows_frames rows_correlation known)) most_length ≡ true = grind (arith, nat_tests, total) in
              both (nat_le (length (rows_frames rows_correlation known)) most_frames) (nat_le (sum_by frame_length (rows_frames rows_correlation known)) most_length) frames bytes;
        }

-- ---- the events of a partition

brings_within : (e : Event Request) → BringsFitting e → EventWithin (λ (request : Request). CallFits request.call) e
brings_within (Call k conn number request now) h = h.0
brings_within (Deliver f t k) h = tt
brings_within (Lose f t k) h = tt
brings_within (Repeat f t k) h = tt
brings_within (Resend k) h = tt
brings_within (Crash k) h = tt
brings_within (Detect k) h = tt
brings_within (BeginMove f t) h = tt
brings_within (BeginJoin t) h = tt
brings_within (BeginHandover f t) h = tt
brings_within Advance h = tt
brings_within Reopen h = tt

-- the key of a change is that of its call
key_fits : (c : GridCall) (before after : Record) (now : ℕ) (change : Change) → change_between c before after now ≡ Some change → CallFits c → HasKey c → FitsFrame change.key × (8 ≤ length change.key)
key_fits (call.Queue c) before after now change e fits long = absurd cc
key_fits (call.Map c) before after now change e fits long = go (option_eq (pointwise nat_eq) (entry_in before).value (entry_in after).value) refl
  where
    key_in : Option Change → List ℕ
    key_in None = []
    key_in (Some d) = d.key

    go : (b : Bool) → option_eq (pointwise nat_eq) (entry_in before).value (entry_in after).value ≡ b → FitsFrame change.key × (8 ≤ length change.key)
    go true t = absurd (let clash : None ≡ Some change = (rw t at e) in cc)
    go false t = (let same = (rw t at e) in let key : key_of c ≡ change.key = ap key_in same in (subst FitsFrame key fits.1, subst (λ k. 8 ≤ length k) key long))

-- what a get is answered
get_reply : (settings : Settings) (s : Partition) (number : ℕ) (request : Request) (now : ℕ) → ValuesFit s → IsGet number request
    → (value : Value) × IfSome value FitsFrame × ((partition_object settings).reply s request now ≡ reply_bytes get_kind (correlation_of number) (Maybe value))
get_reply settings s number request now fits get =
    let kept = record_at s (target_of request) in
    let entry = cleaned (entry_in kept) now in (
      entry.value,
      clean_fits (entry_in kept) now (fits (target_of request)),
      ap (λ c. reply_bytes request.kind request.correlation (answer settings kept c now)) get.call
          ∙ ap (λ k. reply_bytes k request.correlation (Maybe entry.value)) get.kind
          ∙ ap (λ k. reply_bytes get_kind k (Maybe entry.value)) get.correlation,
    )

module _ (settings : Settings) (c m : ℕ) (name : List ℕ) (r : Run) (one : 1 ≤ r.members) (text : IsUtf8 name) (modest : IsModest c name r) (right : (q : ℕ) (e : Event Request) → Contains (events_at q r.events) e → IsRight c m q e) (p : ℕ) (within : p < partitions) where
  abbrev es : List (Event Request)
  es = events_at p r.events

  abbrev u : World Request
  u = world_at (partition_object settings) r p

  few : length es + 1 < 2 ^ 32
  few = modest.few p

  kept : All (EventWithin (λ (request : Request). CallFits request.call)) es
  kept = every_all (EventWithin (λ (request : Request). CallFits request.call)) es (every_from_in (EventWithin (λ (request : Request). CallFits request.call)) es (λ e i. brings_within e (modest.proper p e (contains_in e es i)).1))

  -- a call of the log came by an event
  came : (x : Executed Request) → In (Called x) u.recorded.log → (k : ℕ) × In (Call k x.conn x.number x.call x.now) es
  came x i =
      let there = (every_logged_call_arrived (partition_object settings) p r.members r.backups es).each x (contains_in (Called x) u.recorded.log i) in
      arrived_event es (asked_of x) (in_contains (asked_of x) (arrivals es) there)

  -- a row that the member knows
  pub row_told : (a : Node) → slice_get u.nodes m ≡ Some a → IsTold (p, a.known)
  row_told a at =
      let bound = ((every_run_is_within (partition_object settings) p r.members r.backups es).nodes m a at).known.version in
      let of = (every_run_is_well_formed (partition_object settings) p r.members r.backups es).known m a at in
      let below = every_of_all (λ (q : RowMember). q.member < r.members) a.known.members of.below in
      let most = below_few r.members (numbers_of a.known) of.distinct (numbers_every r.members a.known.members below) in
      let count = numbers_length a.known.members in
      let small = modest.members in
      let short = few in
      record { partition = within; version = omega (arith, bound, short); members = omega (arith, most, count, small) }

  answered : (x : Executed Request) → In (Called x) u.recorded.log → x.conn ≡ c → Tells name x.reply (Answer x.number x.reply)
  answered x i own =
      let event = came x i in
      let get = ((right p (Call event.0 x.conn x.number x.call x.now) (contains_in (Call event.0 x.conn x.number x.call x.now) es event.1)).1 own).1 in
      let short = few in
      let replied = every_call_is_replied settings p r.members r.backups one es (omega (arith, short)) kept x i in
      let its = get_reply settings replied.0 x.number x.call x.now replied.1 get in
      tells_answer name x.number its.0 x.reply get.small its.1 (replied.2 ∙ its.2)

  changed : (x : Executed Request) → In (Called x) u.recorded.log → (d : Change) → change_by (partition_object settings) (state_before (partition_object settings) u x) x.call x.now ≡ Some d
      → Tells name (spelled (invalidation_frames invalidations_correlation p x.version x.seen name d.key)) (Invalidation d.key x.version x.seen)
  changed x i d is =
      let event = came x i in
      let fits = (modest.proper p (Call event.0 x.conn x.number x.call x.now) (contains_in (Call event.0 x.conn x.number x.call x.now) es event.1)).1 in
      let key = key_fits x.call.call _ _ x.now d is fits.0 fits.1 in
      let bound = (every_run_is_within (partition_object settings) p r.members r.backups es).log (Called x) (contains_in (Called x) u.recorded.log i) in
      let version = bound.0 in
      let number = bound.1 in
      let short = few in
      tells_invalidation name p x.version x.seen d.key within (omega (arith, version, short)) (omega (arith, number, short)) text modest.short key.0 key.1

  pub tells : Speaks settings (Tells name) c m name p u
  tells = record {
    refuses = tells_refusal name;
    rows = λ a at. tells_rows name ((p, a.known) ∷ []) (All-cons IsTold (p, a.known) [] (row_told a at) (All-nil IsTold)) (lit≤ tt);
    answers = answered;
    changes = λ x i d is named. changed x i d is;
  }
