-- The frames of a router's relays, and what a mailbox says of content.
use Rattle.std.specs.Prelude.{ℕ, Bool, true, false, List, Option, Some, None}
use Rattle.p2p_base.specs.Queue.{oldest, without_oldest}
use Rattle.p2p_base.specs.declared.key.Key.{Key}
use Rattle.p2p_base.specs.declared.outcome.Unreliable.{Unreliable}
use Rattle.p2p_base.specs.declared.outcome.Unreliable.TheVariants.{Outcome, Rejected}
use Rattle.p2p_flow.specs.Lanes.{lane, with_lane}
use Rattle.p2p_wire.specs.declared.encoded.EncodedData.{EncodedData}
use Rattle.p2p_router.specs.Routing.{with_link}
use Rattle.p2p_router.specs.declared.link.Link.{Link}
use Rattle.p2p_net_router.specs.Items.{key_cmp}

abbrev pub refuses : Unreliable → Bool
refuses (Outcome f) = false
refuses Rejected = true

-- the frame, where it was not refused
abbrev pub frame_taken_in : Bool → List ℕ → Option (List ℕ)
frame_taken_in true frame = None
frame_taken_in false frame = Some frame

-- the oldest frame of a lane, where there is a link
abbrev pub frame_waiting : Option Link → Bool → Option EncodedData
frame_waiting None priority = None
frame_waiting (Some l) priority = oldest (lane l.relay priority)

-- the links without it
abbrev pub without_frame : Option Link → List (Key × Link) → Key → Bool → List (Key × Link)
without_frame None links key priority = links
without_frame (Some l) links key priority =
    with_link key_cmp links key (record { conn = l.conn; relay = with_lane l.relay priority (without_oldest (lane l.relay priority)) })
