-- How many bytes near clients send.
use Rattle.std.proofs.Common.{◌≡◌, ℕ, ◌+◌, ◌*◌, ◌≤◌, List, [], length, length-append, ap, arith}
use Rattle.std.specs.Option.{option_map_or}
use Rattle.session_core.specs.Places.{partition_of_key}
use Rattle.grid_client.specs.Nears.{Near}
use Rattle.grid_client.specs.Calls.{asked_call}
use Rattle.grid_client.specs.States.{get_of}
use Rattle.script_lang.specs.Limits.{most_line_bytes}
use Rattle.replay_run.specs.Grids.{most_arriving}
use Rattle.script_run.specs.NearClients.{NearClient, opening_of, get_sent, map_name}
use Rattle.script_run.specs.Grids.{IsOnOne}

opening_size : (c : ℕ) (name : List ℕ) → length (opening_of c name) ≡ 102 + length name
opening_size c name = simp length-append (omega arith)

pub opening_fits : (c : ℕ) (name : List ℕ) → 2 * length name ≤ most_line_bytes → (1 ≤ length (opening_of c name)) × (2 * length (opening_of c name) ≤ most_arriving)
opening_fits c name short = let size = opening_size c name in (omega (arith, size), omega (arith, size, short))

get_size : (number conn partition client : ℕ) (name key : List ℕ) → length (asked_call number conn partition (get_of name key client)).request ≡ 42 + (length name + length key)
get_size number conn partition client name key = simp length-append (omega arith)

pub get_fits : (n : NearClient) (key : List ℕ) → IsOnOne n.conn n.read n.state → 2 * length key ≤ most_line_bytes → (1 ≤ length (get_sent n key).request) × (2 * length (get_sent n key).request ≤ most_arriving)
get_fits n key one short =
    let named : map_name n ≡ one.near.name = ap (λ near. option_map_or (λ (x : Near). x.name) near []) one.keeps in
    let size = get_size n.state.next n.conn (partition_of_key key) n.state.client (map_name n) key in
    let name = ap length named in
    let few = one.short in (omega (arith, size), omega (arith, size, name, few, short))
