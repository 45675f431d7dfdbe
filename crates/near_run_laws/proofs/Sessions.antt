-- The session of a near connection hears the opening, and each get.
use Rattle.std.proofs.Common.{◌≡◌, ℕ, zero, suc, ◌+◌, take, ◌<◌, ◌==◌, Bool, true, false, not, cond, List, [], ◌∷◌, ◌++◌, length, drop, Option, Some, None, is_some, refl, ap, sym, ◌∙◌, subst, arith, append_assoc, append-nil, lit<, lit≤}
use Rattle.std.specs.Prelude.{ℤ, pos, codes, All, slice_index}
use Rattle.std.specs.List.{find, flat_map}
use Rattle.std.specs.Int.{w64}
use Rattle.std.specs.Int.RustNames.{FitsSigned}
use Rattle.std.proofs.lemmas.Int.{ints}
use Rattle.std.proofs.lemmas.Str.{IsUtf8-from_ascii}
use Rattle.std.proofs.lemmas.List.Concat.{flat_map-append}
use Rattle.std.proofs.lemmas.List.Elements.{All-nil, All-cons}
use Rattle.std.proofs.Math.Seq.{drop-append_seam}
use Rattle.grid_base.specs.declared.names.ClientKey.{ClientKey}
use Rattle.grid_base.specs.declared.names.ClientKey.TheVariants.{Known}
use Rattle.grid_base.specs.declared.calls.Request.{Request}
use Rattle.grid_base.specs.declared.calls.MapCall.{MapCall}
use Rattle.grid_base.specs.declared.calls.MapCall.TheVariants.{Get}
use Rattle.frame_codec.specs.Laws.{spelled, IsWithinLimits}
use Rattle.frame_codec.specs.Frames.{frame_bytes}
use Rattle.frame_codec.specs.declared.frames.Frame.{Frame}
use Rattle.message_frames.specs.Assembly.{most_messages}
use Rattle.message_frames.specs.Grammar.{Piece, piece_frames, piece_bytes, stream_of}
use Rattle.message_frames.specs.Laws.{IsStream, messages_in}
use Rattle.message_frames.specs.Messages.{Heard, prefix_of, shortest_start, messages_of, fault_of}
use Rattle.message_frames.specs.declared.message.Message.{Message}
use Rattle.message_frames.specs.Writing.{IsWritable}
use Rattle.message_frames.proofs.HeardPieces.{grammar_heard, unheard}
use Rattle.partition_protocol.proofs.RowFacts.{number_same}
use Rattle.session_core.specs.Items.{identity_after, identity_after_all, items_from, items_of}
use Rattle.session_core.specs.declared.item.Item.{Item}
use Rattle.session_core.specs.declared.item.Item.TheVariants.{Call}
use Rattle.compose_words.specs.Sayings.{FitMessage, message_of, bytes_of}
use Rattle.compose_words.specs.Sessions.{Say, item_said, identity_said}
use Rattle.compose_words.specs.declared.saying.Saying.{Saying}
use Rattle.compose_words.specs.declared.saying.Saying.TheVariants.{Hello, OnMap, Listen}
use Rattle.compose_words.specs.declared.saying.Listening.TheVariants as listening
use Rattle.compose_words.proofs.Streams.{said_bytes}
use Rattle.request_codecs.specs.Openings.{authentication_frames, listener_frames, view_frames, opening}
use Rattle.grid_client.specs.Calls.{correlation_of}
use Rattle.replay_run.specs.Runs.{Run, Connection, is_connection, connection_of, is_open, items_on, updated, with_bytes, items_by, took_bytes, left_so_often, forsaken, calls, handled_all, next_line}
use Rattle.replay_run.proofs.Lines.{calls_come}
use Rattle.near_run_laws.specs.Maps.{get_request}
use Rattle.near_run_laws.specs.Sessions.{HasSent, MayOpen, opening_items, EveryOpeningIsHeard, near_opened, get_bytes, MayGet, EveryGetIsHeard, EveryOpeningIsServed, EveryGetIsServed}

-- ---- a stream that goes on

-- what was heard so far, and what that gave
record Goes (conn member : ℕ) (text : List ℕ) (items : List Item) (identity : Option ClientKey) : Type 0 where
  pieces : List Piece
  is : text ≡ stream_of true pieces
  stream : IsStream (shortest_start true) pieces
  items_are : items_of conn member (messages_of true text) ≡ items
  identity_is : identity_after_all conn None (messages_of true text) ≡ identity
  whole : fault_of true text ≡ None

stream_longer : (pieces : List Piece) (piece : Piece) → stream_of true pieces ++ piece_bytes piece ≡ stream_of true (pieces ++ piece ∷ [])
stream_longer pieces piece =
    append_assoc (prefix_of true) (flat_map piece_bytes pieces) (piece_bytes piece)
    ∙ ap (λ bytes. prefix_of true ++ (flat_map piece_bytes pieces ++ bytes)) (sym (append-nil (piece_bytes piece)))
    ∙ ap (λ bytes. prefix_of true ++ bytes) (sym (flat_map-append piece_bytes pieces (piece ∷ [])))

-- a message gives one item
items_length : (conn member number : ℕ) (identity : Option ClientKey) (messages : List Message) → length (items_from conn member number identity messages) ≡ length messages
items_length conn member number identity [] = refl
items_length conn member number identity (message ∷ messages) = ap (λ n. suc n) (items_length conn member (number + 1) (identity_after conn identity message) messages)

module _ (conn member : ℕ) where
  numbered : (text : List ℕ) (items : List Item) (identity : Option ClientKey) → Goes conn member text items identity → length (messages_of true text) ≡ length items
  numbered text items identity g = sym (items_length conn member 0 None (messages_of true text)) ∙ ap (λ (xs : List Item). length xs) g.items_are

  -- what is said more
  goes_on : (text : List ℕ) (items : List Item) (identity : Option ClientKey) → Goes conn member text items identity → (correlation : ℤ) (saying : Saying) (bytes : List ℕ) → Say correlation saying bytes
      → length (messages_of true text) < most_messages
      → Goes conn member (text ++ bytes) (items ++ item_said member (record { conn = conn; number = length (messages_of true text) }) identity correlation saying ∷ []) (identity_said conn identity saying)
  goes_on text items identity g correlation saying bytes say room =
      let heard_before = ap (λ (h : Heard). h.messages) (grammar_heard true g.pieces g.stream) in
      let count : length (messages_of true text) ≡ length (messages_in g.pieces) = ap (λ t. length (messages_of true t)) g.is ∙ ap (λ (ms : List Message). length ms) heard_before in
      let a = say g.pieces (record { stream = g.stream; number = subst (λ n. n < most_messages) count room }) in
      record {
        pieces = g.pieces ++ a.piece ∷ [];
        is = ap (λ t. t ++ bytes) g.is ∙ ap (λ b. stream_of true g.pieces ++ b) a.spelled ∙ stream_longer g.pieces a.piece;
        stream = a.stream;
        items_are =
            subst (λ t. items_of conn member (messages_of true (t ++ bytes)) ≡ items_of conn member (messages_of true t) ++ item_said member (record { conn = conn; number = length (messages_of true t) }) (identity_after_all conn None (messages_of true t)) correlation saying ∷ []) (sym g.is) (a.item conn member)
            ∙ ap (λ xs. xs ++ item_said member (record { conn = conn; number = length (messages_of true text) }) (identity_after_all conn None (messages_of true text)) correlation saying ∷ []) g.items_are
            ∙ ap (λ k. items ++ item_said member (record { conn = conn; number = length (messages_of true text) }) k correlation saying ∷ []) g.identity_is;
        identity_is =
            subst (λ t. identity_after_all conn None (messages_of true (t ++ bytes)) ≡ identity_said conn (identity_after_all conn None (messages_of true t)) saying) (sym g.is) (a.client conn)
            ∙ ap (λ k. identity_said conn k saying) g.identity_is;
        whole = subst (λ t. fault_of true (t ++ bytes) ≡ None) (sym g.is) a.whole;
      }

  -- at first
  begins : Goes conn member (prefix_of true) [] None
  begins =
      let stream : IsStream (shortest_start true) [] = record { frames = All-nil (λ (piece : Piece). All IsWithinLimits (piece_frames piece)); rules = refl } in
      let nothing = grammar_heard true [] stream in
      record {
        pieces = [];
        is = refl;
        stream = stream;
        items_are = ap (λ (h : Heard). items_of conn member h.messages) nothing;
        identity_is = ap (λ (h : Heard). identity_after_all conn None h.messages) nothing;
        whole = ap (λ (h : Heard). h.fault) nothing;
      }

-- ---- the opening

is_dev : (i : ℕ) → slice_index (codes "dev") i < 128
is_dev zero = lit< tt
is_dev (suc zero) = lit< tt
is_dev (suc (suc zero)) = lit< tt
is_dev (suc (suc (suc i))) = lit< tt

abbrev AreWithin : List Frame → Type 0
AreWithin [] = Unit {0}
AreWithin (frame ∷ frames) = IsWithinLimits frame × AreWithin frames

within : (frames : List Frame) → AreWithin frames → All IsWithinLimits frames
within [] are = All-nil IsWithinLimits
within (frame ∷ frames) are = All-cons IsWithinLimits frame frames are.0 (within frames are.1)

fits_first : FitsSigned w64 (pos 1)
fits_first = omega (arith, ints)

fits_second : FitsSigned w64 (pos 2)
fits_second = omega (arith, ints)

fits_third : FitsSigned w64 (pos 3)
fits_third = omega (arith, ints)

fitting : (frames : List Frame) → IsWritable frames → FitMessage frames
fitting frames w = record { each = w.each; all = w.fits }

module _ (client : ℕ) (name : List ℕ) (may : MayOpen client name) where
  abbrev hello : Saying
  hello = Hello (record { client = Some client; name = codes "dev" })

  says_hello : Say (pos 1) hello (bytes_of (pos 1) hello)
  says_hello = said_bytes (pos 1) hello fits_first tt (record { fits = may.small; text = IsUtf8-from_ascii (codes "dev") is_dev })
      (record { each = within (authentication_frames (pos 1) client) ((lit< tt, lit≤ tt), ((lit< tt, lit≤ tt), tt)); all = refl })

  says_map : Say (pos 2) (Listen (listening.Invalidations name)) (bytes_of (pos 2) (Listen (listening.Invalidations name)))
  says_map = said_bytes (pos 2) (Listen (listening.Invalidations name)) fits_second tt may.text (fitting (listener_frames (Some name)) may.fits)

  says_rows : Say (pos 3) (Listen listening.Rows) (bytes_of (pos 3) (Listen listening.Rows))
  says_rows = said_bytes (pos 3) (Listen listening.Rows) fits_third tt tt (record { each = within view_frames ((lit< tt, lit≤ tt), tt); all = refl })

  the_bytes : opening client (Some name) ≡ ((prefix_of true ++ bytes_of (pos 1) hello) ++ bytes_of (pos 2) (Listen (listening.Invalidations name))) ++ bytes_of (pos 3) (Listen listening.Rows)
  the_bytes =
      let first = authentication_frames (pos 1) client in
      let second = listener_frames (Some name) in
      ap (λ b. prefix_of true ++ b) (flat_map-append frame_bytes (first ++ second) view_frames ∙ ap (λ b. b ++ spelled view_frames) (flat_map-append frame_bytes first second))
      ∙ sym (append_assoc (prefix_of true) (spelled first ++ spelled second) (spelled view_frames))
      ∙ ap (λ b. b ++ spelled view_frames) (sym (append_assoc (prefix_of true) (spelled first) (spelled second)))

  opens : (conn member : ℕ) → Goes conn member (opening client (Some name)) (opening_items member name) (Some (Known client))
  opens conn member = subst (λ t. Goes conn member t (opening_items member name) (Some (Known client))) (sym the_bytes) third
    where
      first : Goes conn member (prefix_of true ++ bytes_of (pos 1) hello) (take 1 (opening_items member name)) (Some (Known client))
      first = goes_on conn member (prefix_of true) [] None (begins conn member) (pos 1) hello (bytes_of (pos 1) hello) says_hello
          (let n = numbered conn member (prefix_of true) [] None (begins conn member) in omega (arith, n))

      second : Goes conn member ((prefix_of true ++ bytes_of (pos 1) hello) ++ bytes_of (pos 2) (Listen (listening.Invalidations name))) (take 2 (opening_items member name)) (Some (Known client))
      second = goes_on conn member (prefix_of true ++ bytes_of (pos 1) hello) (take 1 (opening_items member name)) (Some (Known client)) first (pos 2) (Listen (listening.Invalidations name)) (bytes_of (pos 2) (Listen (listening.Invalidations name))) says_map
          (let n = numbered conn member (prefix_of true ++ bytes_of (pos 1) hello) (take 1 (opening_items member name)) (Some (Known client)) first in omega (arith, n))

      third : Goes conn member (((prefix_of true ++ bytes_of (pos 1) hello) ++ bytes_of (pos 2) (Listen (listening.Invalidations name))) ++ bytes_of (pos 3) (Listen listening.Rows)) (opening_items member name) (Some (Known client))
      third = goes_on conn member ((prefix_of true ++ bytes_of (pos 1) hello) ++ bytes_of (pos 2) (Listen (listening.Invalidations name))) (take 2 (opening_items member name)) (Some (Known client)) second (pos 3) (Listen listening.Rows) (bytes_of (pos 3) (Listen listening.Rows)) says_rows
          (let n = numbered conn member ((prefix_of true ++ bytes_of (pos 1) hello) ++ bytes_of (pos 2) (Listen (listening.Invalidations name))) (take 2 (opening_items member name)) (Some (Known client)) second in omega (arith, n))

has_sent : (conn member client : ℕ) (text : List ℕ) (items : List Item) → Goes conn member text items (Some (Known client)) → HasSent conn client text
has_sent conn member client text items g = record { pieces = g.pieces; is = g.is; stream = g.stream; known = g.identity_is; whole = g.whole }

pub every_opening_is_heard : EveryOpeningIsHeard
every_opening_is_heard conn member client name may =
    let g = opens client name may conn member in
    (has_sent conn member client (opening client (Some name)) (opening_items member name) g, g.items_are)

-- ---- a get

fits_number : (number : ℕ) → number < most_messages → FitsSigned w64 (correlation_of number)
fits_number number small = omega (arith, ints, small)

fits_thread : FitsSigned w64 (pos 0)
fits_thread = omega (arith, ints)

module _ (conn member client : ℕ) (name key text : List ℕ) (sent : HasSent conn client text) (may : MayGet name client (length (messages_of true text)) key) where
  abbrev the_get : MapCall
  the_get = Get name key (record { client = Known client; thread = pos 0 })

  says_get : Say (correlation_of (length (messages_of true text))) (OnMap the_get) (get_bytes name client (length (messages_of true text)) key)
  says_get = said_bytes (correlation_of (length (messages_of true text))) (OnMap the_get) (fits_number (length (messages_of true text)) may.room) tt
      (record { name = may.text; key = may.whole; numbers = All-cons (FitsSigned w64) (pos 0) [] fits_thread (All-nil (FitsSigned w64)); processor = tt })
      (fitting (message_of (correlation_of (length (messages_of true text))) (OnMap the_get)).frames may.fits)

  gets : Goes conn member (text ++ get_bytes name client (length (messages_of true text)) key) (items_of conn member (messages_of true text) ++ Call (get_request conn name client (length (messages_of true text)) key) ∷ []) (Some (Known client))
  gets = goes_on conn member text (items_of conn member (messages_of true text)) (Some (Known client))
      (record { pieces = sent.pieces; is = sent.is; stream = sent.stream; items_are = refl; identity_is = sent.known; whole = sent.whole })
      (correlation_of (length (messages_of true text))) (OnMap the_get) (get_bytes name client (length (messages_of true text)) key) says_get may.room

pub every_get_is_heard : EveryGetIsHeard
every_get_is_heard conn member client name key text sent may =
    let g = gets conn member client name key text sent may in
    (has_sent conn member client (text ++ get_bytes name client (length (messages_of true text)) key) (items_of conn member (messages_of true text) ++ Call (get_request conn name client (length (messages_of true text)) key) ∷ []) g, g.items_are)

-- ---- lines

-- the connection, with more bytes
pub find_updated : (new : Connection) (ks : List Connection) (k : Connection) → find (is_connection new.conn) ks ≡ Some k → find (is_connection new.conn) (updated new ks) ≡ Some new
find_updated new [] k e = absurd cc
find_updated new (j ∷ ks) k e = go (j.conn == new.conn) refl e (find_updated new ks k)
  where
    go : (b : Bool) → (j.conn == new.conn) ≡ b → cond b (Some j) (find (is_connection new.conn) ks) ≡ Some k → (find (is_connection new.conn) ks ≡ Some k → find (is_connection new.conn) (updated new ks) ≡ Some new)
        → cond ((cond b new j).conn == new.conn) (Some (cond b new j)) (find (is_connection new.conn) (updated new ks)) ≡ Some new
    go true t s ih = ap (λ x. cond x (Some new) (find (is_connection new.conn) (updated new ks))) (number_same new.conn new.conn refl)
    go false t s ih = ap (λ x. cond x (Some j) (find (is_connection new.conn) (updated new ks))) t ∙ ih s

-- it is open still, so that nobody leaves who waits
lasts : (r next : Run) (k : Connection) (bytes : List ℕ) → connection_of r k.conn ≡ Some k → next.connections ≡ (took_bytes r k bytes).connections → fault_of true (k.bytes ++ bytes) ≡ None → forsaken next k.conn ≡ next
lasts r next k bytes there same whole = ap (λ b. cond b next (left_so_often k.conn (length next.waiters) next)) still_open
  where
    still_open : is_open (connection_of next k.conn) ≡ true
    still_open = ap (λ ks. is_open (find (is_connection k.conn) ks)) same ∙ ap is_open (find_updated (with_bytes k bytes) r.connections k there) ∙ ap (λ f. not (is_some f)) whole

pub every_get_is_served : EveryGetIsServed
every_get_is_served o skips r k client name key there takes sent may =
    ap (λ b. cond b (forsaken (handled_all o skips taken k (items_by k (get_bytes name client (length (messages_of true k.bytes)) key))) k.conn) (next_line r)) takes
    ∙ ap (λ items. forsaken (handled_all o skips taken k items) k.conn) (ap (drop (length (items_on k))) heard.1 ∙ drop-append_seam (items_on k) (Call request ∷ []))
    ∙ lasts r (calls o skips taken k.member request) k (get_bytes name client (length (messages_of true k.bytes)) key) there (calls_come o skips taken k.member request).connections heard.0.whole
  where
    taken : Run
    taken = took_bytes r k (get_bytes name client (length (messages_of true k.bytes)) key)

    request : Request
    request = get_request k.conn name client (length (messages_of true k.bytes)) key

    heard : HasSent k.conn client (k.bytes ++ get_bytes name client (length (messages_of true k.bytes)) key)
        × (items_of k.conn k.member (messages_of true (k.bytes ++ get_bytes name client (length (messages_of true k.bytes)) key)) ≡ items_of k.conn k.member (messages_of true k.bytes) ++ Call (get_request k.conn name client (length (messages_of true k.bytes)) key) ∷ [])
    heard = every_get_is_heard k.conn k.member client name key k.bytes sent may

pub every_opening_is_served : EveryOpeningIsServed
every_opening_is_served o skips r k client name there takes empty may =
    ap (λ b. cond b (forsaken (handled_all o skips (took_bytes r k (opening client (Some name))) k (items_by k (opening client (Some name)))) k.conn) (next_line r)) takes
    ∙ ap (λ items. forsaken (handled_all o skips (took_bytes r k (opening client (Some name))) k items) k.conn) items
    ∙ lasts r (near_opened o r k name (opening client (Some name))) k (opening client (Some name)) there refl (ap (λ b. fault_of true (b ++ opening client (Some name))) empty ∙ heard.0.whole)
  where
    heard : HasSent k.conn client (opening client (Some name)) × (items_of k.conn k.member (messages_of true (opening client (Some name))) ≡ opening_items k.member name)
    heard = every_opening_is_heard k.conn k.member client name may

    none : items_on k ≡ []
    none = ap (λ b. items_of k.conn k.member (messages_of true b)) empty ∙ ap (items_of k.conn k.member) (unheard true [] (λ bytes e. absurd cc))

    all : items_on (with_bytes k (opening client (Some name))) ≡ opening_items k.member name
    all = ap (λ b. items_of k.conn k.member (messages_of true (b ++ opening client (Some name)))) empty ∙ heard.1

    items : items_by k (opening client (Some name)) ≡ opening_items k.member name
    items = ap (λ (xs : List Item). drop (length xs) (items_on (with_bytes k (opening client (Some name))))) none ∙ all
