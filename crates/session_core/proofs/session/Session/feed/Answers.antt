use Rattle.std.specs.Prelude.{true}
use Rattle.std.proofs.Common.{◌≡◌, ℕ, ◌+◌, Bool, List, ◌++◌, length, ap, sym, ◌∙◌, subst, arith}
use Rattle.message_frames.specs.MessageReaders.{StandsFor as ReaderStandsFor}
use Rattle.message_frames.specs.Messages.{messages_of}
use Rattle.session_core.specs.Items.{identity_after_all, items_from, items_of}
use Rattle.session_core.specs.Sessions.{SessionState, StandsFor, session_after}
use Rattle.session_core.proofs.Standing.{state, numbered, later_session, later_items}
use Rattle.session_core.proofs.session.Session.feed.Goals as goal

-- There are numbers for the messages of the piece.

-- src/session.rt:88:15
pub given_by_all-requires : goal.given_by_all-requires
given_by_all-requires c =
    let i = c.self.inside in
    let few = numbered (state i.conn i.member i.reader i.identity i.count) c.args.piece.now c.in_ok-pending.pending.messages c.in_ok-pending.ensures.messages c.self.invariant.0 c.self.invariant.1 in
    omega (arith, few, ap length c.messages.ensures)

-- src/session.rt:92:31
pub overflow_cast-self : goal.overflow_cast-self
overflow_cast-self c =
    let i = c.self.inside in
    let few = numbered (state i.conn i.member i.reader i.identity i.count) c.args.piece.now c.in_ok-pending.pending.messages c.in_ok-pending.ensures.messages c.self.invariant.0 c.self.invariant.1 in
    omega (arith, few, ap length c.commit-fed.ensures.messages, c.len.ensures, c.commit-fed.result.messages.ok)

-- src/session.rt:92:17
pub overflow_add-self : goal.overflow_add-self
overflow_add-self c =
    let i = c.self.inside in
    let few = numbered (state i.conn i.member i.reader i.identity i.count) c.args.piece.now c.in_ok-pending.pending.messages c.in_ok-pending.ensures.messages c.self.invariant.0 c.self.invariant.1 in
    omega (arith, few, ap length c.commit-fed.ensures.messages, c.len.ensures, c.commit-fed.result.messages.ok)

-- The session stands for the text with the piece behind it.

-- src/session.rt:90:21
pub invariant_of-self-in-Ok : goal.invariant_of-self-in-Ok
invariant_of-self-in-Ok c =
    let i = c.self.inside in
    let text = c.self.invariant.0 in
    let reader = λ (prefix : Bool) (text : List ℕ) (stands : ReaderStandsFor i.reader prefix text). c.commit-fed.ensures.after ∙ c.in_ok-pending.ensures.after prefix text stands in
    let identity = c.in-Ok.ensures.identity ∙ ap (identity_after_all i.conn i.identity) c.messages.ensures in
    let count : i.count + c.len.result ≡ i.count + length c.in_ok-pending.pending.messages = omega (arith, ap length c.commit-fed.ensures.messages, c.len.ensures, c.commit-fed.result.messages.ok) in
    (text ++ c.args.piece.now, later_session (state i.conn i.member i.reader i.identity i.count) c.args.piece.now c.in_ok-pending.pending.messages c.in_ok-pending.ensures.messages text c.self.invariant.1 c.commit-fed.new.self c.in-Ok.given.identity _ reader identity count)

-- src/session.rt:75:5
pub returns-in-Ok-clause-stands : goal.returns-in-Ok-clause-stands
returns-in-Ok-clause-stands c text stands =
    let i = c.self.inside in
    let its = subst (λ (s : SessionState). StandsFor s text) (sym c.self.view_is) stands in
    let reader = λ (prefix : Bool) (text : List ℕ) (stands : ReaderStandsFor i.reader prefix text). c.commit-fed.ensures.after ∙ c.in_ok-pending.ensures.after prefix text stands in
    let identity = c.in-Ok.ensures.identity ∙ ap (identity_after_all i.conn i.identity) c.messages.ensures in
    let count : i.count + c.len.result ≡ i.count + length c.in_ok-pending.pending.messages = omega (arith, ap length c.commit-fed.ensures.messages, c.len.ensures, c.commit-fed.result.messages.ok) in
    later_session (state i.conn i.member i.reader i.identity i.count) c.args.piece.now c.in_ok-pending.pending.messages c.in_ok-pending.ensures.messages text its c.commit-fed.new.self c.in-Ok.given.identity _ reader identity count
    ∙ ap (λ (s : SessionState). session_after s.conn s.member (text ++ c.args.piece.now)) c.self.view_is

-- src/session.rt:75:5
pub returns-in-Ok-clause-items : goal.returns-in-Ok-clause-items
returns-in-Ok-clause-items c text stands =
    let i = c.self.inside in
    let items = c.in-Ok.given.items.items in
    let its = subst (λ (s : SessionState). StandsFor s text) (sym c.self.view_is) stands in
    let given = c.in-Ok.ensures.items ∙ ap (items_from i.conn i.member i.count i.identity) c.messages.ensures in
    let P : SessionState → Type 0 = λ s. items_of s.conn s.member (messages_of true text) ++ items ≡ items_of s.conn s.member (messages_of true (text ++ c.args.piece.now)) in
    subst P c.self.view_is (later_items (state i.conn i.member i.reader i.identity i.count) c.args.piece.now c.in_ok-pending.pending.messages c.in_ok-pending.ensures.messages text its items given)
