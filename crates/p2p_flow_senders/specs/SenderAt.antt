-- A sender of the trait as contracts see it.
use Rattle.std.specs.Prelude.{List}
use Rattle.std.specs.declared.cmp.Ordering.{Ordering}
use Rattle.p2p_flow_senders.specs.Senders.{Sends}
use Rattle.p2p_flow_senders.specs.declared.sender.LimitedSender.{Ghosts}

-- the sender `s`, by how its keys are compared, whom a checked value admits, and the members of `LimitedSender`
abbrev pub sender_at : {S K W C : Type 0} → (K → K → Ordering) → (C → List K) → Ghosts S K W C → S → Sends W K C
sender_at cmp checked members s = record {
  cmp = cmp;
  checked = checked;
  serves = members.serves s;
  gave = members.gave s;
  rate = members.rate s;
  stands = members.stands s;
  offered = members.offered s;
  refusal = members.refusal s;
  due = members.due s;
  content = members.content s;
  content_due = members.content_due s;
  told = members.told s;
  asked = members.asked s;
  handed = members.handed s;
  told_after = members.told_after s;
}
