-- What a member becomes as it adopts a row, case by case, and what it then sends.
use Rattle.std.proofs.Common.{◌≡◌, ℕ, Bool, true, false, not, ◌&&◌, ◌||◌, if◌then◌else◌, List, [], ◌∷◌, ◌++◌, None, refl, sym, ◌∙◌, ap, ◌⊎◌, inl, inr}
use Rattle.std.specs.List.{flat_map}
use Rattle.partition_table.specs.declared.Row.{Row}
use Rattle.partition_table.specs.declared.RowMember.{RowMember}
use Rattle.partition_table.specs.Rows.{is_primary, is_backup, is_in, backups_of}
use Rattle.partition_protocol.specs.Messages.{Sync, Sent}
use Rattle.partition_protocol.specs.Node.{Held, Node}
use Rattle.partition_protocol.specs.CatchUp.{catch_up}
use Rattle.partition_protocol.specs.Adoption.{adopted_row, adopt_as_primary, adopt_as_other, is_before_reset, stays_primary, carried_answers, sent_on_adopting}
use Rattle.partition_protocol.specs.Replica.{to_one, lags}
use Rattle.partition_protocol.proofs.Lists.{cases}
use Rattle.partition_protocol.proofs.RowFacts.{first_among}
use Rattle.primary_hold.specs.Adopting.{drops_contents, pair_in}
use Rattle.primary_hold.specs.Views.{bare}
use Rattle.replica_node.specs.Takings.{state_in}

-- one that follows

pub adopted_follows : (m : ℕ) (row : Row) (node : Node) → is_primary row m ≡ false → adopted_row m row node ≡ adopt_as_other row (pair_in m row node)
adopted_follows m row node other = go (cases (is_in row m)) (cases (is_before_reset row node))
  where
    go : (is_in row m ≡ true) ⊎ (is_in row m ≡ false) → (is_before_reset row node ≡ true) ⊎ (is_before_reset row node ≡ false)
        → adopted_row m row node ≡ adopt_as_other row (pair_in m row node)
    go (inl i) (inl r) = rw (other, i, r) refl
    go (inl i) (inr r) = rw (other, i, r) refl
    go (inr i) (inl r) = rw (other, i, r) refl
    go (inr i) (inr r) = rw (other, i, r) refl

pub sent_following : (m : ℕ) (row : Row) (node : Node) → is_primary row m ≡ false → sent_on_adopting m (adopted_row m row node) ≡ []
sent_following m row node p = ap (sent_on_adopting m) (adopted_follows m row node p) ∙ rw p refl

-- a backup is in the row and not its primary
pub backup_follows : (m : ℕ) (row : Row) → is_backup row m ≡ true → is_primary row m ≡ false
backup_follows m row backup = go (cases (is_primary row m))
  where
    go : (is_primary row m ≡ true) ⊎ (is_primary row m ≡ false) → is_primary row m ≡ false
    go (inl p) = absurd (cc (rw p at backup))
    go (inr p) = p

-- the row is known from then on
pub adopted_known : (m : ℕ) (row : Row) (node : Node) → (adopted_row m row node).known ≡ row
adopted_known m row node = go (cases (is_primary row m))
  where
    go : (is_primary row m ≡ true) ⊎ (is_primary row m ≡ false) → (adopted_row m row node).known ≡ row
    go (inl p) = rw p refl
    go (inr p) = ap (λ (a : Node). a.known) (adopted_follows m row node p)

-- one that leads

-- it has just become primary of the row: nothing is acknowledged, and it has executed nothing
abbrev started : Row → ℕ → List Held → Node
started row count held = record {
  known = row;
  pair = record { version = row.version; count = count };
  opening = false;
  acks = [];
  earlier = None;
  recent = 0;
  adopted = count;
  frozen = false;
  held = held;
}

adopted_begins : (m : ℕ) (row : Row) (node : Node) → is_primary row m ≡ true → is_primary node.known m ≡ false → is_before_reset row node ≡ false
    → adopted_row m row node ≡ started row node.pair.count []
adopted_begins m row node p k r = rw (p, k, r) refl

adopted_anew : (m : ℕ) (row : Row) (node : Node) → is_primary row m ≡ true → is_before_reset row node ≡ true
    → adopted_row m row node ≡ started row 0 (carried_answers m node)
adopted_anew m row node p r = go (cases (is_primary node.known m))
  where
    go : (is_primary node.known m ≡ true) ⊎ (is_primary node.known m ≡ false) → adopted_row m row node ≡ started row 0 (carried_answers m node)
    go (inl k) = rw (p, k, r) refl
    go (inr k) = rw (p, k, r) refl

same_flat : {X Y : Type 0} (f g : X → List Y) → ((x : X) → f x ≡ g x) → (xs : List X) → flat_map f xs ≡ flat_map g xs
same_flat f g same [] = refl
same_flat f g same (x ∷ xs) = ap (λ l. l ++ flat_map f xs) (same x) ∙ ap (λ l. g x ++ l) (same_flat f g same xs)

-- who has heard from nobody sends the whole contents
first_catch_up : (row : Row) (count : ℕ) (held : List Held) (b : RowMember) → catch_up (started row count held) b ≡ to_one b.member (Sync row count)
first_catch_up row count held b = go (cases b.eligible)
  where
    go : (b.eligible ≡ true) ⊎ (b.eligible ≡ false) → catch_up (started row count held) b ≡ to_one b.member (Sync row count)
    go (inl e) = rw e refl
    go (inr e) = rw e refl

abbrev pub whole_to_each : Row → ℕ → List Sent
whole_to_each row count = flat_map (λ (b : RowMember). to_one b.member (Sync row count)) (backups_of row)

sent_beginning : (m : ℕ) (row : Row) (count : ℕ) (held : List Held) → is_primary row m ≡ true → whole_to_each row count ≡ sent_on_adopting m (started row count held)
sent_beginning m row count held p =
    sym (rw p (same_flat (catch_up (started row count held)) (λ (b : RowMember). to_one b.member (Sync row count)) (first_catch_up row count held) (backups_of row)))

-- a primary is in its row, so that it drops contents for the reset alone
before_reset : (m : ℕ) (row : Row) (node : Node) → is_primary row m ≡ true → is_before_reset row node ≡ drops_contents m row node
before_reset m row node p = go (is_before_reset row node) (first_among _ m p)
  where
    go : (b : Bool) → is_in row m ≡ true → b ≡ (b || not (is_in row m))
    go true i = refl
    go false i = rw i refl

pub sent_dropped : (m : ℕ) (row : Row) (node : Node) → is_primary row m ≡ true → drops_contents m row node ≡ true → whole_to_each row 0 ≡ sent_on_adopting m (adopted_row m row node)
sent_dropped m row node p d =
    sent_beginning m row 0 (carried_answers m node) p ∙ sym (ap (sent_on_adopting m) (adopted_anew m row node p (before_reset m row node p ∙ d)))

pub sent_kept : (m : ℕ) (row : Row) (node : Node) → is_primary row m ≡ true → stays_primary row node m ≡ false → drops_contents m row node ≡ false
    → whole_to_each row node.pair.count ≡ sent_on_adopting m (adopted_row m row node)
sent_kept m row node p s d =
    let r : is_before_reset row node ≡ false = before_reset m row node p ∙ d in
    sent_beginning m row node.pair.count [] p ∙ sym (ap (sent_on_adopting m) (adopted_begins m row node p (was_other r s) r))
  where
    other_at : (k r : Bool) → r ≡ false → (k && not r) ≡ false → k ≡ false
    other_at true true e f = absurd (cc e)
    other_at true false e f = f
    other_at false r e f = refl

    was_other : is_before_reset row node ≡ false → stays_primary row node m ≡ false → is_primary node.known m ≡ false
    was_other r s = other_at (is_primary node.known m) (is_before_reset row node) r s

-- it goes on, and nobody has acknowledged anything in the new version
abbrev pub lagging : Node → List Sent
lagging node = flat_map (λ (b : RowMember). if lags node b.member then catch_up node b else []) (backups_of node.known)

pub sent_staying : (m : ℕ) (row : Row) (node : Node) → is_primary row m ≡ true → stays_primary row node m ≡ true → lagging (bare (adopted_row m row node)) ≡ sent_on_adopting m (adopted_row m row node)
sent_staying m row node p s =
    let is = stays p (both_of (is_primary node.known m) (is_before_reset row node) s) in
    ap (λ (n : Node). lagging (bare n)) is ∙ each ∙ sym (ap (sent_on_adopting m) is)
  where
    both_of : (k r : Bool) → (k && not r) ≡ true → (k ≡ true) × (r ≡ false)
    both_of true true e = absurd (cc e)
    both_of true false e = (refl, refl)
    both_of false r e = absurd (cc e)

    next : Node
    next = adopt_as_primary row true node.held node

    stays : is_primary row m ≡ true → (is_primary node.known m ≡ true) × (is_before_reset row node ≡ false) → adopted_row m row node ≡ next
    stays p (k, r) = rw (p, k, r) refl

    each : lagging (bare next) ≡ sent_on_adopting m next
    each = rw p refl

-- the state that is left

pub state_dropped : {State : Type 0} (empty : State) (m : ℕ) (row : Row) (node : Node) (state : State) → drops_contents m row node ≡ true → empty ≡ state_in empty m row node state
state_dropped empty m row node state d = rw d refl

pub state_kept : {State : Type 0} (empty : State) (m : ℕ) (row : Row) (node : Node) (state : State) → drops_contents m row node ≡ false → state ≡ state_in empty m row node state
state_kept empty m row node state d = rw d refl
