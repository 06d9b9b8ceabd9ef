-- The handshake that has the listening end of a link is one that the listener keeps.
use Rattle.std.proofs.Common.{◌≡◌, ℕ, Bool, true, false, List, ap, sym, ◌∙◌, Option, Some, None}
use Rattle.p2p_base.specs.declared.key.Key.{Key}
use Rattle.p2p_tracker_mailbox.specs.Mailboxes.{with_item_in}
use Rattle.p2p_tracker_mailbox.specs.declared.answer.HandshakeItem.TheVariants as shake
use Rattle.p2p_tracker_mailbox.specs.declared.mailbox.Mailbox.{Mailbox}
use Rattle.p2p_gates.specs.Handshaking.{Handshaking}
use Rattle.p2p_log.specs.declared.config.Config.{Config}
use Rattle.p2p_log.specs.declared.entry.Entry.{Entry}
use Rattle.p2p_log_rules.specs.declared.row.ListeningEnd.TheVariants as listening
use Rattle.p2p_log_rules.specs.Handshakes.{is_handshaking, is_accepted}
use Rattle.p2p_log_rules.specs.Links.{listening_ends_of}
use Rattle.p2p_log_rules.proofs.HandshakeEnds.{ends_lead}
use Rattle.p2p_net_queues.specs.Tables as table
use Rattle.p2p_net_gates.specs.Handshaking.{is_accepting, finished_in}
use Rattle.p2p_net_gates.specs.ListenerStands.{facts_of, HandshakeIs, ListenerStands}
use Rattle.p2p_net_gates.specs.declared.listening.Listening.{Listening}

module _ (configs : List Config) (log : List Entry) (n link name : ℕ) (l : Listening) (s : ListenerStands configs log n l) (is : listening_ends_of log n link ≡ Some (listening.Handshake name)) where
  runs : is_handshaking log n name ≡ true
  runs = (ends_lead log n link name is).0

  -- it tells whether its peer may connect
  pub end_accepts : is_accepting (table.at l.handshakes name) ≡ is_accepted log n name
  end_accepts = by (table.at l.handshakes name) (s.handshakes name)
    where
      by : (o : Option (Handshaking Key)) → HandshakeIs (facts_of configs log n name) name (is_handshaking log n name) o → is_accepting o ≡ is_accepted log n name
      by None none = let f : true ≡ false = sym runs ∙ none in cc
      by (Some h) it = it.1.accepted

  -- and it is told of its keys
  pub end_finished : (ok : Bool) (way : Mailbox Key) → finished_in (table.at l.handshakes name) ok way ≡ with_item_in way name (shake.Finished ok)
  end_finished ok way = by (table.at l.handshakes name) (s.handshakes name)
    where
      by : (o : Option (Handshaking Key)) → HandshakeIs (facts_of configs log n name) name (is_handshaking log n name) o → finished_in o ok way ≡ with_item_in way name (shake.Finished ok)
      by None none = let f : true ≡ false = sym runs ∙ none in cc
      by (Some h) it = ap (λ k. with_item_in way k (shake.Finished ok)) it.1.name
