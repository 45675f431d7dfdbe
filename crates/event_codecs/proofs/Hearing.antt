-- What is written is heard as one message, which spells the event that was written.
use Rattle.std.proofs.Common.{◌≡◌, ℕ, ◌≤◌, ℤ, pos, negsuc, Bool, true, false, List, [], ◌∷◌, ◌++◌, length, map, Option, Some, None, refl, sym, ap, ◌∙◌, append-nil, lit<, arith}
use Rattle.std.specs.Prelude.{IsTrue}
use Rattle.std.proofs.lemmas.List.Elements.{All-nil}
use Rattle.grid_base.specs.declared.calls.Change.{Change}
use Rattle.frame_codec.specs.Laws.{spelled}
use Rattle.frame_codec.specs.declared.frames.Frame.{Frame}
use Rattle.fixed_fields.specs.Frames.{content_of}
use Rattle.fixed_fields.specs.Responses.{final}
use Rattle.fixed_fields.specs.Structures.{is_plain}
use Rattle.message_frames.specs.Assembly.{first_payload}
use Rattle.message_frames.specs.Grammar.{Unfragmented, is_piece, ends_at_final}
use Rattle.message_frames.specs.Laws.{IsStream}
use Rattle.message_frames.specs.Messages.{heard}
use Rattle.message_frames.proofs.HeardPieces.{AreFrames, grammar_heard}
use Rattle.message_frames.proofs.Written.{written_message_heard}
use Rattle.partition_table.specs.declared.Row.{Row}
use Rattle.event_codecs.specs.Sent.{FitMessage, AreHeardAs}
use Rattle.event_codecs.specs.SpelledEvents.{IsEvent, HoldAll, Spells}
use Rattle.event_codecs.specs.Writing.{frame, value_frame, final_end_list, row_frame, row_bytes, seen, told, entry_frames, entry_event, invalidation_frames, rows_frames, begin_list}
use Rattle.event_codecs.specs.declared.events.ClientEvent.{ClientEvent}
use Rattle.event_codecs.specs.declared.events.ClientEvent.TheVariants.{Invalidation, Rows}
use Rattle.event_codecs.proofs.EventSpelling.{read_again}

-- ---- one message

-- nothing was sent before
nothing_sent : IsStream 13 []
nothing_sent = record { frames = All-nil AreFrames; rules = refl }

alone_heard : (frames : List Frame) → FitMessage frames → is_piece (Unfragmented frames) ≡ true → 13 ≤ length (first_payload frames) → heard false (spelled frames) ≡ record { messages = record { frames = frames } ∷ []; fault = None }
alone_heard frames fit form head =
    let adds = written_message_heard 13 [] frames (record { each = fit.each; form = form; fits = fit.all }) (record { stream = nothing_sent; head = head; number = lit< tt }) in
    ap (heard false) (sym (append-nil (spelled frames))) ∙ grammar_heard false (Unfragmented frames ∷ []) adds.stream

-- frames of an unfragmented message that spells an event
heard_as : (frames : List Frame) (event : ClientEvent) → IsEvent event → FitMessage frames → is_piece (Unfragmented frames) ≡ true → 13 ≤ length (first_payload frames) → Spells (record { frames = frames }) event → AreHeardAs frames event
heard_as frames event its fit form head s = record { heard = alone_heard frames fit form head; read = read_again (record { frames = frames }) event its s }

-- ---- entry events

inner_held : (value : Option (List ℕ)) → IsTrue (is_plain (value_frame 0 value)) × (content_of (value_frame 0 value) ≡ value)
inner_held (Some value) = (refl, refl)
inner_held None = (refl, refl)

last_held : (value : Option (List ℕ)) → IsTrue (is_plain (value_frame final value)) × (content_of (value_frame final value) ≡ value)
last_held (Some value) = (refl, refl)
last_held None = (refl, refl)

values_end : (key : List ℕ) (new old : Option (List ℕ)) → ends_at_final (frame 0 key ∷ value_frame 0 new ∷ value_frame final old ∷ []) ≡ true
values_end key (Some new) (Some old) = refl
values_end key (Some new) None = refl
values_end key None (Some old) = refl
values_end key None None = refl

pub entry_heard : (correlation : ℤ) (partition : ℕ) (change : Change) (with_value : Bool) → IsEvent (entry_event correlation partition change with_value) → FitMessage (entry_frames correlation partition change with_value)
    → AreHeardAs (entry_frames correlation partition change with_value) (entry_event correlation partition change with_value)
entry_heard correlation partition change with_value its fit =
    let new = told with_value change.new in
    let old = told with_value change.old in
    let first = inner_held new in
    let last = last_held old in
    heard_as (entry_frames correlation partition change with_value) (entry_event correlation partition change with_value) its fit (values_end change.key new old) (omega arith) (record {
      partition = pos partition;
      stated = refl;
      more = [];
      fields = refl;
      frames = (refl, refl, (first.0, first.1, (last.0, last.1, tt)));
    })

-- ---- invalidations

pub invalidation_heard : (correlation : ℤ) (partition version number : ℕ) (name key : List ℕ) → IsEvent (Invalidation correlation (pos partition) version number name key) → FitMessage (invalidation_frames correlation partition version number name key)
    → AreHeardAs (invalidation_frames correlation partition version number name key) (Invalidation correlation (pos partition) version number name key)
invalidation_heard correlation partition version number name key its fit =
    heard_as (invalidation_frames correlation partition version number name key) (Invalidation correlation (pos partition) version number name key) its fit refl (omega arith) (record {
      partition = pos partition;
      stated = refl;
      more = [];
      fields = refl;
      frames = ((refl, refl), ((refl, refl), tt));
    })

-- ---- rows

rows_end : (rows : List (ℕ × Row)) → ends_at_final (map row_frame rows ++ frame final_end_list [] ∷ []) ≡ true
rows_end [] = refl
rows_end (placed ∷ rows) = rows_end rows

rows_held : (rows : List (ℕ × Row)) → HoldAll (map row_frame rows) (map row_bytes (map seen rows))
rows_held [] = tt
rows_held (placed ∷ rows) = ((refl, refl), rows_held rows)

pub rows_heard : (correlation : ℤ) (rows : List (ℕ × Row)) → IsEvent (Rows correlation (map seen rows)) → FitMessage (rows_frames correlation rows) → AreHeardAs (rows_frames correlation rows) (Rows correlation (map seen rows))
rows_heard correlation rows its fit =
    heard_as (rows_frames correlation rows) (Rows correlation (map seen rows)) its fit (rows_end rows) (omega arith) (record {
      partition = negsuc 0;
      stated = tt;
      more = [];
      fields = refl;
      frames = record {
        opening = frame begin_list [];
        inside = map row_frame rows;
        closing = frame final_end_list [];
        rest = [];
        opened = refl;
        held = rows_held rows;
        closed = refl;
        spelled = refl;
      };
    })
