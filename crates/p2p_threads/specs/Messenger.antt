-- A shared messenger: what a call is told, and the messenger after it.
use Rattle.std.specs.Prelude.{length}
use Rattle.std.specs.Int.{w64, to_be_bytes}
use Rattle.p2p_flow.specs.declared.plain.Recipients.TheVariants.{One}
use Rattle.p2p_router.specs.Messenger.{Desk, content_answered, content_taken, subscribed, shut}
use Rattle.p2p_threads.specs.declared.messenger.MessengerCall.{MessengerCall}
use Rattle.p2p_threads.specs.declared.messenger.MessengerCall.TheVariants.{Content, Subscribe, Close}
use Rattle.p2p_threads.specs.declared.messenger.MessengerReply.{MessengerReply}
use Rattle.p2p_threads.specs.declared.messenger.MessengerReply.TheVariants as told

module _ {P : Type 0} where
  abbrev pub messenger_reply : Desk P → MessengerCall P → MessengerReply
  messenger_reply d (Content recipient channel number priority) = told.Outcome (content_answered d.binding)
  messenger_reply d Subscribe = told.Subscription (length d.lists)
  messenger_reply d Close = told.Closed

  abbrev pub messenger_next : Desk P → MessengerCall P → Desk P
  messenger_next d (Content recipient channel number priority) = content_taken d (One recipient) channel (to_be_bytes w64 number) priority
  messenger_next d Subscribe = subscribed d
  messenger_next d Close = shut d
