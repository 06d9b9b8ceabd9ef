-- What most entries drop of the ends of links: none.
use Rattle.std.proofs.Common.{◌≡◌, ℕ, Bool, true, false, cond, List, [], ◌∷◌, refl, ap, ◌∙◌, Option, Some, None}
use Rattle.p2p_log.specs.declared.queue.Queue.{Queue}
use Rattle.p2p_log.specs.declared.item.Item.{Item}
use Rattle.p2p_log.specs.declared.entry.Entry.{Entry}
use Rattle.p2p_log.specs.declared.entry.Reply.{Reply}
use Rattle.p2p_log.specs.declared.entry.Reply.TheVariants as reply
use Rattle.p2p_log.specs.declared.event.Act.{Act}
use Rattle.p2p_log.specs.declared.event.Act.TheVariants as act
use Rattle.p2p_log_rules.specs.declared.row.Half.{Half}
use Rattle.p2p_log_rules.specs.Connections.{half_at, is_end}
use Rattle.p2p_log_rules.specs.Dropping.{LinkEnd, dialing_end, arrival_end, half_end, drops_of, listening_end}
use Rattle.p2p_log_rules.specs.Facts.{taken}
use Rattle.p2p_log_rules.specs.Handshakes.{came_over}
use Rattle.p2p_log_rules.specs.Puts.{gave_up, broke_off, turns_away}
use Rattle.p2p_log_rules.proofs.Dropping.{all_of, drops_none, drops_of-none, drops_of-attempt, drops_of-handshake, drops_of-send, drops_of-receive, drops_of-listener}

-- an entry drops no end
abbrev pub DropsNone : List Entry → Entry → Type 0
DropsNone log e = drops_of log e ≡ []

unless : (b : Bool) (o : Option LinkEnd) → b ≡ false → all_of (cond b o None) ≡ []
unless b o h = ap (λ c. all_of (cond c o None)) h

-- ---- entries that drop none

pub drops_none-act : (log : List Entry) (e : Entry) → drops_none e.event.act ≡ true → DropsNone log e
drops_none-act log e h = drops_of-none log e h

-- whether a reply says that something was done, that a connection ended, or what the gates told
abbrev pub is_idle_reply : Reply → Bool
is_idle_reply reply.Ok = false
is_idle_reply (reply.Ended why) = false
is_idle_reply (reply.Gates g) = false
is_idle_reply _ = true

idle_breaks : (r : Reply) (items : List Item) (puts : List (Queue × Item)) → is_idle_reply r ≡ true → broke_off r items puts ≡ false
idle_breaks reply.Ok items puts h = cc
idle_breaks _ items puts h = refl

idle_lives : (r : Reply) → is_idle_reply r ≡ true → is_end r ≡ false
idle_lives (reply.Ended why) h = cc
idle_lives _ h = refl

idle_admits : (r : Reply) → is_idle_reply r ≡ true → turns_away r ≡ false
idle_admits (reply.Gates g) h = cc
idle_admits _ h = refl

-- whether an act stops a node, by which many ends are dropped
abbrev pub is_stop : Act → Bool
is_stop (act.Stop by_start n) = true
is_stop _ = false

-- by what it comes to: nothing was given up or broken off, nobody was turned away, and no connection ended
done_by : (log : List Entry) (e : Entry) (a : Act) → e.event.act ≡ a → is_stop a ≡ false → gave_up e.puts ≡ false → broke_off e.reply (taken log e) e.puts ≡ false → is_end e.reply ≡ false
    → turns_away e.reply ≡ false → DropsNone log e
done_by log e (act.Attempt k n) is goes_on kept whole lives let_in = drops_of-attempt log e k n is ∙ unless (gave_up e.puts) (dialing_end log n k) kept
done_by log e (act.Handshake h n) is goes_on kept whole lives let_in = drops_of-handshake log e h n is ∙ unless (broke_off e.reply (taken log e) e.puts) (listening_end (came_over log h)) whole
done_by log e (act.SendStep conn n) is goes_on kept whole lives let_in = drops_of-send log e conn n is ∙ unless (is_end e.reply) (half_end (half_at log n conn)) lives
done_by log e (act.RecvStep conn n) is goes_on kept whole lives let_in = drops_of-receive log e conn n is ∙ unless (is_end e.reply) (half_end (half_at log n conn)) lives
done_by log e (act.Listener n) is goes_on kept whole lives let_in = drops_of-listener log e n is ∙ unless (turns_away e.reply) (arrival_end (taken log e)) let_in
done_by log e (act.Stop by_start n) is goes_on kept whole lives let_in = cc
done_by log e _ is goes_on kept whole lives let_in = drops_of-none log e (ap drops_none is)

pub drops_none-done : (log : List Entry) (e : Entry) → is_stop e.event.act ≡ false → gave_up e.puts ≡ false → broke_off e.reply (taken log e) e.puts ≡ false → is_end e.reply ≡ false → turns_away e.reply ≡ false → DropsNone log e
drops_none-done log e goes_on kept whole lives let_in = done_by log e e.event.act refl goes_on kept whole lives let_in

pub drops_none-idle : (log : List Entry) (e : Entry) → is_stop e.event.act ≡ false → is_idle_reply e.reply ≡ true → e.puts ≡ [] → DropsNone log e
drops_none-idle log e goes_on idle none =
    drops_none-done log e goes_on (ap gave_up none) (idle_breaks e.reply (taken log e) e.puts idle) (idle_lives e.reply idle) (idle_admits e.reply idle)

-- ---- a half that ends its connection drops the end that it writes to

module _ (log : List Entry) (e : Entry) where
  pub drops_sender : (conn n : ℕ) (half : Half) → e.event.act ≡ act.SendStep conn n → is_end e.reply ≡ true → half_at log n conn ≡ Some half → drops_of log e ≡ (half.link, half.writes) ∷ []
  drops_sender conn n half is ends at = drops_of-send log e conn n is ∙ (ap (λ b. all_of (cond b (half_end (half_at log n conn)) None)) ends ∙ ap (λ o. all_of (half_end o)) at)

  pub drops_receiver : (conn n : ℕ) (half : Half) → e.event.act ≡ act.RecvStep conn n → is_end e.reply ≡ true → half_at log n conn ≡ Some half → drops_of log e ≡ (half.link, half.writes) ∷ []
  drops_receiver conn n half is ends at = drops_of-receive log e conn n is ∙ (ap (λ b. all_of (cond b (half_end (half_at log n conn)) None)) ends ∙ ap (λ o. all_of (half_end o)) at)
