-- What the lines of a script keep to.
use Rattle.std.proofs.Common.{◌≡◌, ℕ, zero, suc, ◌+◌, ◌*◌, ◌/◌, ◌%◌, ◌<◌, ◌≤◌, ◌^◌, ◌==◌, Bool, true, false, nat_lt, ℤ, pos, negsuc, flat_map, List, [], ◌∷◌, ◌++◌, length, decimal, map, not, Some, All, refl, subst, sym, arith, lit<, lit≤, length-append}
use Rattle.std.specs.Prelude.{codes, if◌then◌else◌}
use Rattle.std.specs.List.{join_with_byte, list_all}
use Rattle.std.specs.Int.{w32, w64, to_le_bytes, to_be_bytes, cast_unsigned}
use Rattle.std.proofs.lemmas.List.Elements.{All-nil, All-cons, All-append}
use Rattle.std.proofs.lemmas.Fmt.{length-decimal-le}
use Rattle.hex.specs.Hex.{encode_lower, lower_digits}
use Rattle.hex.proofs.HexLemmas.{length-encode_with}
use Rattle.frame_codec.specs.Laws.{spelled as spelled_frames, IsBytes as AreBytes}
use Rattle.fixed_fields.specs.Fields.{int32_bytes, int64_bytes, uuid_bytes}
use Rattle.fixed_fields.specs.Spelled.{request_head, with_parts}
use Rattle.client_codecs.specs.Authentications.{authentication_kind}
use Rattle.map_codecs.specs.SpelledCalls.{kind_of_call, parts_of, numbers_of, call_fields, call_message}
use Rattle.grid_base.specs.declared.calls.MapCall.{MapCall}
use Rattle.grid_base.specs.declared.calls.MapCall.TheVariants as Calls
use Rattle.grid_base.specs.declared.calls.GridCall.TheVariants.{Map}
use Rattle.message_frames.specs.Messages.{prefix_of}
use Rattle.request_codecs.specs.Openings.{authentication_frames}
use Rattle.request_codecs.specs.Requests.{request_bytes}
use Rattle.script_lang.specs.Lines.{IsWithin}
use Rattle.script_lang.specs.Spelling.{spelled, BringsBytes}
use Rattle.script_lang.specs.Words.{space, newline}
use Rattle.script_lang.specs.declared.line.Line.{Line}
use Rattle.script_lang.specs.declared.line.Line.TheVariants as Lines
use Rattle.workload_gen.specs.Calls.{client_on, conn_of, owner_of, stated_hash, key_of, put, get}
use Rattle.workload_gen.specs.Draws.{draws_of, step_of, step_at, generator_at, word_of, behind}
use Rattle.workload_gen.specs.Script.{each_below, connection_lines, step_line, crash_lines, round_lines, sample_lines}
use Rattle.workload_gen.specs.declared.steps.Step.{Step}
use Rattle.workload_gen.specs.declared.steps.Step.TheVariants.{Put, Get, Flow, Move, Advance, Resend}
use Rattle.workload_gen.specs.declared.steps.Draws.{Draws}
use Rattle.workload_gen.proofs.ByteLists.{low_first_are, high_first_are, both_are, literal_are, HaveBytes, frames_are, by_index, HasNoNewline, literal_has_none, words_have_none, words_are_short, AreSmall, arrival_has_none}

-- a line that can be read again
pub record IsReadable (line : Line) : Type 0 where
  pub brings : BringsBytes line
  pub within : IsWithin 4 (length (spelled line)) line
  pub whole : HasNoNewline (spelled line)
  pub short : length (spelled line) ≤ 154

-- ---- one line

numbers_line : (line : Line) (keyword ns : List ℕ) → spelled line ≡ join_with_byte space (keyword ∷ map decimal ns) → list_all (λ x. not (x == newline)) keyword ≡ true
    → AreSmall ns → length keyword + 21 * length ns ≤ 154 → BringsBytes line → IsWithin 4 (length (spelled line)) line → IsReadable line
numbers_line line keyword ns words passes small few brings within = record {
  brings = brings;
  within = within;
  whole = subst HasNoNewline (sym words) (words_have_none keyword ns passes small);
  short = subst (λ (text : List ℕ). length text ≤ 154) (sym words) (words_are_short keyword ns small few);
}

arrival_is : (conn : ℕ) (bytes : List ℕ) → conn < 4 → 1 ≤ length bytes → length bytes ≤ 73 → AreBytes bytes → IsReadable (Lines.Arrive conn bytes)
arrival_is conn bytes few some short are =
    let size = length-encode_with lower_digits bytes in
    let line = length-append (decimal conn) (space ∷ encode_lower bytes) in
    let digit : length (decimal conn) ≤ 1 = length-decimal-le 1 conn (omega arith) (omega arith) (omega arith) in
    record {
      brings = by_index bytes are;
      within = (omega arith, some, omega (arith, size, line));
      whole = arrival_has_none conn bytes (omega arith) (by_index bytes are);
      short = omega (arith, size, line, digit);
    }

-- ---- what arrives

head_is : (kind : ℕ) (correlation partition : ℤ) → AreBytes (request_head kind correlation partition)
head_is kind correlation partition =
    let first = to_le_bytes w32 kind in
    let second = int64_bytes correlation in
    both_are (first ++ second) (int32_bytes partition) (both_are first second (low_first_are 0 4 kind) (low_first_are 0 8 (cast_unsigned w64 correlation))) (low_first_are 0 4 (cast_unsigned w32 partition))

uuid_is : (number : ℕ) → AreBytes (uuid_bytes (Some number))
uuid_is number =
    let high = to_le_bytes w64 (number / 2 ^ 64) in
    both_are (0 ∷ high) (to_le_bytes w64 (number % 2 ^ 64)) (both_are (0 ∷ []) high (literal_are (0 ∷ []) refl) (low_first_are 0 8 (number / 2 ^ 64))) (low_first_are 0 8 (number % 2 ^ 64))

opening_is : (conn : ℕ) → AreBytes (prefix_of true ++ spelled_frames (authentication_frames (pos 0) (client_on conn)))
opening_is conn =
    let head = request_head authentication_kind (pos 0) (negsuc 0) in
    let uuid = uuid_bytes (Some (client_on conn)) in
    let first = both_are (head ++ uuid) (1 ∷ []) (both_are head uuid (head_is authentication_kind (pos 0) (negsuc 0)) (uuid_is (client_on conn))) (literal_are (1 ∷ []) refl) in
    both_are (prefix_of true) (spelled_frames (authentication_frames (pos 0) (client_on conn))) (literal_are (prefix_of true) refl)
    (frames_are (authentication_frames (pos 0) (client_on conn)) (first, (literal_are (codes "dev") refl, tt)))

numbers_are : (numbers : List ℤ) → AreBytes (flat_map int64_bytes numbers)
numbers_are [] = All-nil (λ byte. byte < 256)
numbers_are (number ∷ numbers) = both_are (int64_bytes number) (flat_map int64_bytes numbers) (low_first_are 0 8 (cast_unsigned w64 number)) (numbers_are numbers)

call_is : (round partition : ℕ) (call : MapCall) → HaveBytes (with_parts (parts_of call) []) → AreBytes (request_bytes (pos round) partition (Map call))
call_is round partition call have =
    let head = request_head (kind_of_call call) (pos round) (pos partition) in
    let first = both_are (head ++ call_fields call) [] (both_are head (call_fields call) (head_is (kind_of_call call) (pos round) (pos partition)) (numbers_are (numbers_of call))) (All-nil (λ byte. byte < 256)) in
    frames_are (call_message (pos round) (pos partition) call [] []).frames (first, have)

key_is : (partition : ℕ) → AreBytes (key_of partition)
key_is partition = both_are (to_be_bytes w32 (stated_hash partition)) (255 ∷ 255 ∷ 255 ∷ 245 ∷ []) (high_first_are 4 (stated_hash partition)) (literal_are (255 ∷ 255 ∷ 255 ∷ 245 ∷ []) refl)

put_is : (round partition : ℕ) → AreBytes (request_bytes (pos round) partition (put round partition))
put_is round partition =
    call_is round partition (Calls.Put (codes "m") (key_of partition) (owner_of partition) (to_be_bytes w64 round) (pos 0)) (literal_are (codes "m") refl, (key_is partition, (high_first_are 8 round, tt)))

get_is : (round partition : ℕ) → AreBytes (request_bytes (pos round) partition (get partition))
get_is round partition = call_is round partition (Calls.Get (codes "m") (key_of partition) (owner_of partition)) (literal_are (codes "m") refl, (key_is partition, tt))

-- ---- the lines of a script

connection_is : (conn : ℕ) → conn < 4 → All IsReadable (connection_lines conn)
connection_is conn few =
    let connect = Lines.OpenConn conn conn in
    let bytes = prefix_of true ++ spelled_frames (authentication_frames (pos 0) (client_on conn)) in
    let connected : IsReadable connect = numbers_line connect (codes "open") (conn ∷ conn ∷ []) refl refl (omega arith, (omega arith, tt)) (omega arith) tt (omega arith, few) in
    All-cons IsReadable connect (Lines.Arrive conn bytes ∷ []) connected (All-cons IsReadable (Lines.Arrive conn bytes) [] (arrival_is conn bytes few (omega arith) (omega arith) (opening_is conn)) (All-nil IsReadable))

on_if : {X : Type 0} (P : X → Type 0) (b : Bool) (x y : X) → P x → P y → P (if b then x else y)
on_if P true x y p q = p
on_if P false x y p q = q

below_four : (n : ℕ) → n % 4 < 4
below_four n = omega arith

step_is : (round : ℕ) (draws : Draws) → draws.partition ≤ 270 → draws.first < 4 → draws.second < 4 → IsReadable (step_line round (step_of draws))
step_is round draws p first second =
    let partition = draws.partition in
    let move = Move partition draws.first draws.second in
    let advance = Advance partition in
    let resend = Resend partition draws.first in
    let last = if draws.kind == 14 then advance else resend in
    let moves = if draws.kind == 13 then move else last in
    let flows = if draws.kind == 12 then Flow else moves in
    let gets = if nat_lt draws.kind 12 then Get partition else flows in
    let P : Step → Type 0 = λ step. IsReadable (step_line round step) in
    let put_is_so : P (Put partition) = arrival_is (conn_of partition) (request_bytes (pos round) partition (put round partition)) (below_four partition) (omega arith) (omega arith) (put_is round partition) in
    let get_is_so : P (Get partition) = arrival_is (conn_of partition) (request_bytes (pos round) partition (get partition)) (below_four partition) (omega arith) (omega arith) (get_is round partition) in
    let flow_is_so : P Flow = numbers_line (Lines.FlowAll 50) (codes "flow all") (50 ∷ []) refl refl (lit< tt, tt) (omega arith) tt (lit≤ tt, lit≤ tt) in
    let move_is_so : P move = numbers_line (Lines.Move partition draws.first draws.second) (codes "move") (partition ∷ draws.first ∷ draws.second ∷ []) refl refl (omega arith, (omega arith, (omega arith, tt))) (omega arith) tt (p, first, second) in
    let advance_is_so : P advance = numbers_line (Lines.Advance partition) (codes "advance") (partition ∷ []) refl refl (omega arith, tt) (omega arith) tt p in
    let resend_is_so : P resend = numbers_line (Lines.Resend partition draws.first) (codes "resend") (partition ∷ draws.first ∷ []) refl refl (omega arith, (omega arith, tt)) (omega arith) tt (p, omega arith) in
    on_if P (nat_lt draws.kind 8) (Put partition) gets put_is_so
    (on_if P (nat_lt draws.kind 12) (Get partition) flows get_is_so
    (on_if P (draws.kind == 12) Flow moves flow_is_so
    (on_if P (draws.kind == 13) move last move_is_so
    (on_if P (draws.kind == 14) advance resend advance_is_so resend_is_so))))

crash_is : (round : ℕ) → All IsReadable (crash_lines round)
crash_is round =
    let crash : IsReadable (Lines.Crash 3) = numbers_line (Lines.Crash 3) (codes "crash") (3 ∷ []) refl refl (lit< tt, tt) (omega arith) tt (lit< tt) in
    let detect : IsReadable (Lines.Detect 3) = numbers_line (Lines.Detect 3) (codes "detect") (3 ∷ []) refl refl (lit< tt, tt) (omega arith) tt (lit< tt) in
    on_if (All IsReadable) (round == 1000) (Lines.Crash 3 ∷ Lines.Detect 3 ∷ []) [] (All-cons IsReadable (Lines.Crash 3) (Lines.Detect 3 ∷ []) crash (All-cons IsReadable (Lines.Detect 3) [] detect (All-nil IsReadable))) (All-nil IsReadable)

below_partitions : (n : ℕ) → n % 271 ≤ 270
below_partitions n = omega arith

round_is : (number rounds : ℕ) → All IsReadable (round_lines number rounds)
round_is number rounds =
    let generator = generator_at number rounds in
    let step = step_is (rounds + 1) (draws_of generator) (below_partitions (word_of (behind generator))) (below_four (word_of (behind (behind generator)))) (below_four (word_of (behind (behind (behind generator))))) in
    All-cons IsReadable (step_line (rounds + 1) (step_at number rounds)) (crash_lines (rounds + 1)) step (crash_is (rounds + 1))

each_is : (n : ℕ) (f : ℕ → List Line) → ((k : ℕ) → k < n → All IsReadable (f k)) → All IsReadable (each_below n f)
unfolding each_below
each_is zero f each = All-nil IsReadable
each_is (suc n) f each = All-append IsReadable (each_below n f) (f n) (each_is n f (λ k below. each k (omega arith))) (each n (omega arith))

pub all_are : (number : ℕ) → All IsReadable (sample_lines number)
all_are number =
    let grid : IsReadable (Lines.Grid 4 1 100) = numbers_line (Lines.Grid 4 1 100) (codes "grid") (4 ∷ 1 ∷ 100 ∷ []) refl refl (lit< tt, (lit< tt, (lit< tt, tt))) (omega arith) tt (lit≤ tt, lit≤ tt, lit≤ tt, lit≤ tt) in
    let flow : IsReadable (Lines.FlowAll 1000) = numbers_line (Lines.FlowAll 1000) (codes "flow all") (1000 ∷ []) refl refl (lit< tt, tt) (omega arith) tt (lit≤ tt, lit≤ tt) in
    let last : IsReadable Lines.End = record { brings = tt; within = tt; whole = literal_has_none (codes "end") refl; short = omega arith } in
    let connections = each_below 4 connection_lines in
    let rounds = each_below 2000 (round_lines number) in
    All-append IsReadable (Lines.Grid 4 1 100 ∷ connections ++ rounds) (Lines.FlowAll 1000 ∷ Lines.End ∷ [])
    (All-append IsReadable (Lines.Grid 4 1 100 ∷ connections) rounds
    (All-cons IsReadable (Lines.Grid 4 1 100) connections grid (each_is 4 connection_lines connection_is))
    (each_is 2000 (round_lines number) (λ k below. round_is number k)))
    (All-cons IsReadable (Lines.FlowAll 1000) (Lines.End ∷ []) flow (All-cons IsReadable Lines.End [] last (All-nil IsReadable)))
