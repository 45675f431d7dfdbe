-- That an answer which was written before a call was read stands first.
use Rattle.std.proofs.Common.{◌≡◌, ◌⊎◌, ⊎_elim, ℕ, zero, suc, ◌+◌, ◌<◌, ◌≤◌, true, List, [], ◌∷◌, ◌++◌, length, take, drop, Some, slice_get, refl, sym, ap, ◌∙◌, subst, arith}
use Rattle.std.specs.List.{concat}
use Rattle.std.proofs.lemmas.List.{length-append, take-take, take-append-drop}
use Rattle.grid_base.specs.declared.calls.Request.{Request}
use Rattle.grid_edge.specs.Doors.{Book, Return}
use Rattle.hand_cell.specs.declared.names.Key.{Key}
use Rattle.hand_cell.specs.declared.outcome.LiveOutcome.{LiveOutcome}
use Rattle.hand_cell.specs.Told.{Told}
use Rattle.loop_journal.specs.Journals.{own_of, bytes_read, bytes_written}
use Rattle.loop_journal.specs.declared.entry.Entry.{Entry}
use Rattle.loop_journal.specs.declared.entry.Entry.TheVariants.{Started, Finished}
use Rattle.loop_journal.specs.declared.entry.NotedCall.{NotedCall}
use Rattle.loop_journal.proofs.Owning.{own_cut, read_both, written_both, read_own, written_own}
use Rattle.message_frames.specs.Messages.{messages_of}
use Rattle.message_frames.proofs.Staying.{heard_messages_stay}
use Rattle.partition_threads.specs.declared.workplace.Workplace.{Workplace}
use Rattle.session_core.specs.Items.{items_of}
use Rattle.session_core.specs.declared.item.Item.{Item}
use Rattle.session_core.proofs.ItemLists.{items_go_on}
use Rattle.live_session.specs.Times.{HasCome}
use Rattle.live_session.proofs.Places.{same_some, none_some}
use Rattle.live_server.specs.Order.{KeepsOrder}
use Rattle.live_server.specs.Serving.{WasServed}
use Rattle.live_server.specs.Times.{IsAnsweredIn, IsReadIn, AnswersStandFirst}

less_or_more : (n m : ℕ) → (n < m) ⊎ (m ≤ n)
less_or_more n m = grind arith

-- what stands around an element
pub cut_at : {A : Type 0} (xs : List A) (i : ℕ) (x : A) → slice_get xs i ≡ Some x → (before : List A) × (after : List A) × (xs ≡ before ++ x ∷ after) × (length before ≡ i)
cut_at [] i x e = absurd (none_some x e)
cut_at (y ∷ xs) zero x e = ([], xs, ap (λ z. z ∷ xs) (same_some y x e), refl)
cut_at (y ∷ xs) (suc i) x e = let rest = cut_at xs i x e in (y ∷ rest.0, rest.1, ap (λ l. y ∷ l) rest.2, ap suc rest.3)

-- of two fronts of a list the longer one begins with the other
pub fronts : {A : Type 0} (short behind long last : List A) → short ++ behind ≡ long ++ last → length short ≤ length long → (more : List A) × (long ≡ short ++ more)
fronts [] behind long last e less = (long, refl)
fronts (x ∷ short) behind [] last e less = absurd (omega (arith, less))
fronts (x ∷ short) behind (y ∷ long) last e less =
    let same : y ≡ x = cc in
    let others : short ++ behind ≡ long ++ last = cc in
    let rest = fronts short behind long last others (omega (arith, less)) in
    (rest.0, ap (λ z. z ∷ long) same ∙ ap (λ l. x ∷ l) rest.1)

-- a message that has come whole has come whole in more bytes
come_in_more : (conn member : ℕ) (text more : List ℕ) (number : ℕ) → HasCome conn member text number → HasCome conn member (text ++ more) number
come_in_more conn member text more number come =
    let later = heard_messages_stay true text more in
    let items = items_go_on conn member (messages_of true text) later.0 in
    let whole : items_of conn member (messages_of true (text ++ more)) ≡ items_of conn member (messages_of true text) ++ items.0 = ap (items_of conn member) later.1 ∙ items.1 in
    let long : length (items_of conn member (messages_of true (text ++ more))) ≡ length (items_of conn member (messages_of true text)) + length items.0
    = ap (λ (l : List Item). length l) whole ∙ length-append (items_of conn member (messages_of true text)) items.0 in
    omega (arith, long, come)

come_by : (conn member : ℕ) (text : List ℕ) (few many number : ℕ) → few ≤ many → HasCome conn member (take few text) number → HasCome conn member (take many text) number
come_by conn member text few many number less come =
    let front : take few (take many text) ≡ take few text = take-take few many text less in
    subst (λ (l : List ℕ). HasCome conn member l number) (take-append-drop few (take many text))
    (come_in_more conn member (take few (take many text)) (drop few (take many text)) number (subst (λ (l : List ℕ). HasCome conn member l number) (sym front) come))

module _ {T P E O : Type 0} (key_of : E → Key) (tells : P → List E → E → LiveOutcome → Type 0) (call_of : ℕ → Request → ℕ → E) (place : Workplace T P E O) (given : List ℕ) (journal : List Entry) (passes : List (Told E)) (book : Book) where
  module _ (back : Return) (served : WasServed key_of tells call_of place given journal passes book.arrivals back) (first rest : List Entry) (whole : journal ≡ first ++ rest) (call : NotedCall)
      (mine : call.id.conn ≡ back.number) (at : ℕ) where
    -- Where some byte of a call's answer is written, its outcome was found before
    found_within : IsAnsweredIn key_of tells call_of place given journal passes book first back served call.id.number → slice_get journal at ≡ Some (Finished call) → at < length first
    found_within answered there = ⊎_elim (λ (less : at < length first). less) (λ (more : length first ≤ at). absurd (late more)) (less_or_more at (length first))
      where
        late : length first ≤ at → ⊥
        late more =
            let cut = cut_at journal at (Finished call) there in
            let before : List Entry = cut.0 in
            let long : length before ≡ at = cut.3 in
            let grown = fronts first rest before (Finished call ∷ cut.1) (sym whole ∙ cut.2) (omega (arith, more, long)) in
            let its = served.answered.answers.in_time.finished (own_of back.number before) (own_of back.number cut.1) call
            (served.answered.by_journal ∙ (ap (own_of back.number) cut.2 ∙ own_cut back.number before (Finished call) cut.1 mine)) in
            let none : bytes_written back.number (own_of back.number before) ≤ length (concat (take call.id.number served.answered.answers.replies)) = its.none_of_it in
            let own : bytes_written back.number (own_of back.number before) ≡ bytes_written back.number before = written_own back.number before in
            let all : bytes_written back.number before ≡ bytes_written back.number first + bytes_written back.number grown.0 = ap (bytes_written back.number) grown.1 ∙ written_both back.number first grown.0 in
            omega (arith, answered, none, own, all)

    -- Where its message has not come whole, it is started behind that
    started_behind : ¬ IsReadIn key_of tells call_of place given journal passes book first back served call.id.number → slice_get journal at ≡ Some (Started call) → length first ≤ at
    started_behind unread there = ⊎_elim (λ (less : at < length first). absurd (unread (early less))) (λ (more : length first ≤ at). more) (less_or_more at (length first))
      where
        early : at < length first → IsReadIn key_of tells call_of place given journal passes book first back served call.id.number
        early less =
            let cut = cut_at journal at (Started call) there in
            let before : List Entry = cut.0 in
            let long : length before ≡ at = cut.3 in
            let grown = fronts before (Started call ∷ cut.1) first rest (sym cut.2 ∙ whole) (omega (arith, less, long)) in
            let its = served.answered.answers.in_time.started (own_of back.number before) (own_of back.number cut.1) call
            (served.answered.by_journal ∙ (ap (own_of back.number) cut.2 ∙ own_cut back.number before (Started call) cut.1 mine)) in
            let own : bytes_read back.number (own_of back.number before) ≡ bytes_read back.number before = read_own back.number before in
            let all : bytes_read back.number first ≡ bytes_read back.number before + bytes_read back.number grown.0 = ap (bytes_read back.number) grown.1 ∙ read_both back.number before grown.0 in
            come_by back.number served.arrival.member served.answered.read (bytes_read back.number (own_of back.number before)) (bytes_read back.number first) call.id.number (omega (arith, own, all)) its.come

  pub answers_stand_first : KeepsOrder key_of journal passes → AnswersStandFirst key_of tells call_of place given journal passes book
  answers_stand_first keeps one two served other first rest call next at at' whole mine theirs same answered unread seen seen' =
      let a = keeps.noted call at seen in
      let b = keeps.noted next at' seen' in
      let within : a.finish < length first = found_within one served first rest whole call mine a.finish answered a.finished in
      let behind : length first ≤ b.start = started_behind two other first rest whole next theirs b.start unread b.started in
      keeps.in_order call next at at' seen seen' same (omega (arith, within, behind))
