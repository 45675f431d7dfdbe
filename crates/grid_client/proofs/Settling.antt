-- The bytes of a request are long enough to have a correlation; and what becomes of calls.
use Rattle.std.proofs.Common.{◌≡◌, ℕ, ◌<◌, ◌≤◌, Bool, true, false, cond, ℤ, List, [], ◌∷◌, ◌++◌, length, take, drop, get_or, Option, Some, None, ap, sym, ◌∙◌, arith, length-append, length-take, length-drop}
use Rattle.std.specs.Prelude.{slice_get, slice_set}
use Rattle.std.specs.List.{position, remove}
use Rattle.std.specs.Option.{option_map_or}
use Rattle.std.proofs.lemmas.Option.{slice_get-get_or}
use Rattle.grid_base.specs.declared.calls.GridCall.{GridCall}
use Rattle.fixed_fields.specs.Fields.{int64_bytes}
use Rattle.request_codecs.specs.Requests.{request_bytes}
use Rattle.request_codecs.specs.Readdressing.{readdressed}
use Rattle.request_codecs.proofs.Addresses.{every_request_is_readdressed}
use Rattle.grid_client.specs.Lists.{erased_by, changed_by}
use Rattle.grid_client.specs.Calls.{number_in, is_answered_by, is_elsewhere, refusing, settled, settled_at, awaited_number, answered_number}
use Rattle.grid_client.specs.declared.calls.Call.{Call}
use Rattle.grid_client.specs.declared.messages.Head.{Head}
use Rattle.grid_client.proofs.Lists.{position_is, position_any, position_erased, position_changed, position_not_any}

pub asked_is_long : (correlation : ℤ) (partition : ℕ) (call : GridCall) → 18 ≤ length (request_bytes correlation partition call)
asked_is_long correlation partition call = (every_request_is_readdressed correlation correlation partition call).0

pub again_is_long : (correlation : ℤ) (request : List ℕ) → 18 ≤ length request → 18 ≤ length (readdressed correlation request)
again_is_long correlation request long =
    omega (arith, length-append (take 10 request ++ int64_bytes correlation) (drop 18 request), length-append (take 10 request) (int64_bytes correlation), length-take 10 request, length-drop 18 request, long)

-- ---- the call that a message answers

at_place : (calls : List Call) (place : ℕ) (call : Call) → slice_get calls place ≡ Some call
    → option_map_or (λ (c : Call). slice_set calls place (refusing c)) (slice_get calls place) calls ≡ slice_set calls place (refusing call)
at_place calls place call is = ap (λ (o : Option Call). option_map_or (λ (c : Call). slice_set calls place (refusing c)) o calls) is

call_there : (test : Call → Bool) (calls : List Call) (place : ℕ) → Some place ≡ position test calls → (call : Call) × (slice_get calls place ≡ Some call)
call_there test calls place found = by calls (position_is test calls place found).1
  where
    by : (cs : List Call) → place < length cs → (call : Call) × (slice_get cs place ≡ Some call)
    by [] less = absurd (omega (arith, less))
    by (c ∷ cs) less = (get_or (c ∷ cs) place c, slice_get-get_or (c ∷ cs) place c less)

pub settled_there : (test : Call → Bool) (code : Option ℤ) (calls : List Call) (place : ℕ) → Some place ≡ position test calls → settled_at place code calls ≡ settled test code calls
settled_there test code calls place found = by (option_map_or is_elsewhere code false)
  where
    by : (b : Bool) → cond b (option_map_or (λ (c : Call). slice_set calls place (refusing c)) (slice_get calls place) calls) (remove calls place) ≡ cond b (changed_by test refusing calls) (erased_by test calls)
    by true = let it = call_there test calls place found in at_place calls place it.0 it.1 ∙ position_changed test refusing calls place it.0 found it.1
    by false = position_erased test calls place found

pub answered_there : (conn : ℕ) (head : Head) (calls : List Call) (number place : ℕ) → Some number ≡ number_in head.correlation
    → Some place ≡ position (is_answered_by conn number head.kind) calls → Some number ≡ answered_number conn head calls
answered_there conn head calls number place known found =
    sym (ap (awaited_number conn head.kind calls) (sym known) ∙ ap (λ (b : Bool). cond b (Some number) None) (position_any (is_answered_by conn number head.kind) calls place found))

pub answered_nowhere : (conn : ℕ) (head : Head) (calls : List Call) (number : ℕ) → Some number ≡ number_in head.correlation
    → None ≡ position (is_answered_by conn number head.kind) calls → None ≡ answered_number conn head calls
answered_nowhere conn head calls number known none =
    sym (ap (awaited_number conn head.kind calls) (sym known) ∙ ap (λ (b : Bool). cond b (Some number) None) (position_not_any (is_answered_by conn number head.kind) calls none))

pub no_number : (conn : ℕ) (head : Head) (calls : List Call) → None ≡ number_in head.correlation → None ≡ answered_number conn head calls
no_number conn head calls none = sym (ap (awaited_number conn head.kind calls) (sym none))
