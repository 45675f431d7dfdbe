-- A near client that was handed the next bytes of its connection's output.
use Rattle.std.proofs.Common.{◌≡◌, ℕ, ◌+◌, ◌-◌, ◌≤◌, min, List, length, take, drop, ap, sym, ◌∙◌, length-take, length-drop, drop-drop, arith}
use Rattle.std.proofs.lemmas.List.{take_min, drop_min}
use Rattle.grid_client.specs.Hearing.{Told, HasFed, told_by_piece}
use Rattle.grid_client.specs.States.{State}
use Rattle.grid_client.specs.declared.heard.FedClient.{FedClient}
use Rattle.script_run.specs.declared.client.NearClient.{NearClient as KeptClient}
use Rattle.script_run.specs.NearClients.{NearClient, piece, told, fed}
use Rattle.script_run.specs.Grids.{IsNear}
use Rattle.script_run.proofs.OneConnection.{fed_one}

-- so many bytes of the output are the piece, and what is left is the rest
module _ (most : ℕ) (kept : KeptClient) (n : NearClient) (bytes : ℕ) (is : IsNear kept n) (few : bytes ≡ min (length kept.output.items - kept.handed) most) where
  abbrev left : List ℕ
  left = drop kept.handed kept.output.items

  swapped : bytes ≡ min most (length n.unread)
  swapped = let same = sym (length-drop kept.handed kept.output.items) ∙ ap length is.unread in omega (arith, few, same)

  its_piece : take bytes left ≡ piece most n
  its_piece = ap (λ (xs : List ℕ). take bytes xs) is.unread ∙ ap (λ (k : ℕ). take k n.unread) swapped ∙ take_min most n.unread

  its_rest : drop (kept.handed + bytes) kept.output.items ≡ drop most n.unread
  its_rest =
      sym (drop-drop bytes kept.handed kept.output.items) ∙ ap (λ (xs : List ℕ). drop bytes xs) is.unread ∙ ap (λ (k : ℕ). drop k n.unread) swapped ∙ drop_min most n.unread

  pub as_many : bytes ≡ length (piece most n)
  as_many = swapped ∙ sym (length-take most n.unread)

  as_told : told_by_piece kept.conn n.read (take bytes left) kept.client ≡ told most n
  as_told =
      ap (λ (c : ℕ). told_by_piece c n.read (take bytes left) kept.client) is.conn
      ∙ ap (λ (p : List ℕ). told_by_piece n.conn n.read p kept.client) its_piece
      ∙ ap (λ (s : State). told_by_piece n.conn n.read (piece most n) s) is.client

  -- The client was handed them.
  module _ (new : State) (given : FedClient) (has : HasFed kept.conn n.read (take bytes left) kept.client new given) where
    pub told_fed : given.heard.items ≡ (told most n).heard
    told_fed = has.heard ∙ ap (λ (t : Told). t.heard) as_told

    pub near_fed : (after : KeptClient) → after.conn ≡ kept.conn → after.client ≡ new → drop after.handed after.output.items ≡ drop (kept.handed + bytes) kept.output.items → after.handed ≤ length after.output.items → IsNear after (fed most n)
    near_fed after conn client unread handed = record {
      conn = conn ∙ is.conn;
      within = is.within;
      client = client ∙ has.after ∙ ap (λ (t : Told). t.after) as_told;
      unread = unread ∙ its_rest;
      handed = handed;
      one = fed_one most n is.one;
    }
