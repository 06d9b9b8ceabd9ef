-- The turns of gates for which nothing waits.
use Rattle.std.proofs.Common.{◌≡◌, ℕ, ◌+◌, ◌<◌, arith, true, Bool, cond, false, drop, List, Option, None, sym, ap, ◌∙◌}
use Rattle.p2p_address.specs.declared.ip.IpAddr.{IpAddr}
use Rattle.p2p_tracker_mailbox.specs.Lines.{Lines, line_of, first_of, with_line}
use Rattle.p2p_tracker_mailbox.specs.declared.answer.HandshakeItem.{HandshakeItem}
use Rattle.p2p_tracker_mailbox.specs.declared.mailbox.Mailbox.{Mailbox}
use Rattle.p2p_gates.specs.Handshaking.{Handshaking}
use Rattle.p2p_gates.specs.HandshakeTurns.{line_turn, handshake_turn}
use Rattle.p2p_gates.specs.Gates.{places_after}
use Rattle.p2p_tracker_calls.specs.Gates.{Known}
use Rattle.p2p_gates.specs.Listening.{Listening}
use Rattle.p2p_gates.specs.ListenerTurns.{begins, stepped_by, receive_turn, update_turn, listener_turn}
use Rattle.p2p_gates.specs.Stepping.{idle_turn}
use Rattle.p2p_gates.specs.declared.arrival.Arrival.{Arrival}
use Rattle.p2p_tracker_calls.specs.declared.gates.Reply.{Reply}
use Rattle.p2p_tracker_calls.specs.declared.gates.Reply.TheVariants as reply
use Rattle.p2p_gates.specs.declared.stepped.Stepped.{Stepped}
use Rattle.p2p_runtime.specs.QuotaPlaces.{Places}
use Rattle.std.proofs.lemmas.Bool.{false≢true}
use Rattle.p2p_gates.proofs.Emptied.{with_line-none}

module _ {P : Type 0} where
  -- a handshake for which nothing waits
  pub handshake-waits : (h : Handshaking P) (m : Mailbox P) (now name : ℕ) (lines : Lines (HandshakeItem P))
      → name ≡ h.name → h.has_ended ≡ false
      → first_of (line_of m.handshakes name) ≡ None → lines ≡ with_line m.handshakes name (drop 1)
      → line_turn None h (record m { handshakes = lines }) now ≡ handshake_turn h m now
  handshake-waits h m now name lines named goes none after =
      ap (λ (l : Lines (HandshakeItem P)). line_turn None h (record m { handshakes = l }) now)
      (after ∙ with_line-none m.handshakes name none)
      ∙ (ap (λ (r : Option (HandshakeItem P)). line_turn r h m now)
      (sym none ∙ ap (λ (n : ℕ). first_of (line_of m.handshakes n)) named)
      ∙ ap (λ (b : Bool). cond b (idle_turn h m) (line_turn (first_of (line_of m.handshakes h.name)) h m now))
      (sym goes))

  -- a listener that no update waits for
  pub listener-receives : (l : Listening P) (k : Known) (m : Mailbox P) (name now : ℕ)
      (heard : Option (List IpAddr)) → heard ≡ None → m.heard ≡ None
      → receive_turn l k (record m { heard = heard }) name now
      ≡ listener_turn l k m name now
  listener-receives l k m name now heard e none =
      ap (λ (h : Option (List IpAddr)). receive_turn l k (record m { heard = h }) name now)
      (e ∙ sym none)
      ∙ ap (λ (h : Option (List IpAddr)). update_turn l k m name now h) (sym none)

  -- a handshake that begins has a place
  pub place-begins : (r : Reply) (name timeout now : ℕ) (a : Arrival P) (s : Stepped P) (before after : Places)
      → s ≡ stepped_by r name a timeout now → after ≡ places_after r before → begins s ≡ true → 0 < after.held
  place-begins reply.Private name timeout now a s before after e f b = absurd (false≢true (sym (ap begins e) ∙ b))
  place-begins reply.Unregistered name timeout now a s before after e f b = absurd (false≢true (sym (ap begins e) ∙ b))
  place-begins (reply.Limited x y) name timeout now a s before after e f b = absurd (false≢true (sym (ap begins e) ∙ b))
  place-begins reply.TooMany name timeout now a s before after e f b = absurd (false≢true (sym (ap begins e) ∙ b))
  place-begins reply.Admitted name timeout now a s before after e f b =
      let held : after.held ≡ before.held + 1 = ap (λ (p : Places). p.held) f in omega arith
