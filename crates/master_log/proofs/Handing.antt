-- A message that a live member takes is one of its partition's, and the member can take it.
use Rattle.std.proofs.Common.{◌≡◌, ℕ, ◌<◌, ◌≤◌, true, false, List, length, Some, slice_get, ap, sym, ◌∙◌, subst, arith}
use Rattle.partition_protocol.proofs.Events.{get_in}
use Rattle.partition_protocol.proofs.Lists.{contains_in}
use Rattle.masters_protocol.specs.Members.{Member, Message, Store, Stored, Ask, Tell, log_of, is_gathered}
use Rattle.masters_protocol.specs.Machine.{Masters as Machine, Packet, Event, is_live, link}
use Rattle.masters_protocol.specs.Claims.{IsSound, PacketFits, Fits}
use Rattle.master_wire.specs.declared.decision.Decision.{Decision}
use Rattle.master_log.specs.declared.masters.Masters.{Masters}
use Rattle.master_log.specs.Standing.{StandsFor, run_of}
use Rattle.master_log.proofs.Agreement.{is_sound}
use Rattle.master_log.proofs.Runs.{from_is}
use Rattle.master_log.proofs.Waiting.{from_link}

-- no log of a message is too long
short_log : (size : ℕ) (x : Message Decision) → Fits size x → length (log_of x) ≤ 10000
short_log size (Store t l) f = f.1
short_log size (Stored t c) f = omega arith
short_log size (Ask t) f = omega arith
short_log size (Tell t l) f = f.1

module _ (masters : Masters) (events : List (Event Decision)) (stands : StandsFor masters events) where
  abbrev w : Machine Decision
  w = run_of masters events

  sound : IsSound w
  sound = is_sound masters events stands

  module _ (f t i : ℕ) (p : Packet Decision) (there : slice_get (link f t w.packets) i ≡ Some p) where
    fits : PacketFits w.size p
    fits = sound.packets_fit p (contains_in p w.packets (from_link f t w.packets p (get_in (link f t w.packets) i p there)))

    pub from_small : f < masters.size
    from_small = subst (λ k. f < k) (sym stands.shows.size) (subst (λ k. k < w.size) (from_is masters w stands.shows f t i p there) fits.from)

    pub message_short : (x : Message Decision) → x ≡ p.message → length (log_of x) ≤ 10000
    message_short x e = subst (λ (y : Message Decision). length (log_of y) ≤ 10000) (sym e) (short_log w.size p.message fits.message)

  module _ (m : ℕ) (n : Member Decision) (at : slice_get w.members m ≡ Some n) where
    pub log_short : length n.log ≤ 10000
    log_short = (sound.members_fit m n at).log

    pub member_rests : is_live w m ≡ true → is_gathered masters.size m n ≡ false
    member_rests lives = ap (λ k. is_gathered k m n) stands.shows.size ∙ sound.gathers m n (lives, at)
