-- The links as values: what each call makes of them.
use Rattle.std.specs.Prelude.{ℕ, ◌+◌, Bool, true, false, List, [], ◌∷◌, ◌++◌, map, length, None}
use Rattle.std.specs.BTreeMap.{insert_entry}
use Rattle.std.specs.Ordering.{nat_cmp}
use Rattle.p2p_log.specs.declared.queue.Queue.TheVariants as queue
use Rattle.p2p_log.specs.declared.queue.Side.{Side}
use Rattle.p2p_log.specs.declared.queue.Side.TheVariants as side
use Rattle.p2p_log.specs.declared.item.Item.{Item}
use Rattle.p2p_log.specs.declared.item.Item.TheVariants as item
use Rattle.p2p_log.specs.declared.item.Envelope.{Envelope}
use Rattle.p2p_log.specs.declared.entry.Reply.TheVariants as reply
use Rattle.p2p_log_rules.specs.declared.row.Opening.{Opening}
use Rattle.p2p_log_rules.specs.declared.row.Row.{Row}
use Rattle.p2p_log_rules.specs.Effect.{only, ping_puts}
use Rattle.p2p_log_rules.specs.Pings.{ping_frame}
use Rattle.p2p_net_queues.specs.Tables.{pushed_at}
use Rattle.p2p_net_links.specs.declared.links.Links.{Links}

abbrev pub no_links : Links
no_links = record { outward = []; inward = []; dialers = []; openings = []; dropped_outward = []; dropped_inward = []; cut = [] }

-- a link more, over which keys are exchanged between these
abbrev pub opened_with : ℕ → Opening → Links → Links
opened_with link o l = record l { dialers = insert_entry nat_cmp l.dialers link o.node; openings = insert_entry nat_cmp l.openings link o }

-- one direction of the links
abbrev pub way_of : Links → Side → List (ℕ × List Envelope)
way_of l side.Out = l.outward
way_of l side.In = l.inward

abbrev pub with_way : Links → Side → List (ℕ × List Envelope) → Links
with_way l side.Out w = record l { outward = w }
with_way l side.In w = record l { inward = w }

-- these frames in flight too, as the puts of an entry from this place on
abbrev pub written_way : ℕ → ℕ → Side → ℕ → List ((ℕ × ℕ) × Item) → List (ℕ × List Envelope) → List (ℕ × List Envelope)
written_way entry link s place [] w = w
written_way entry link s place (f ∷ fs) w =
    written_way entry link s (place + 1) fs (pushed_at w link (record { entry = entry; place = place; queue = queue.Link link s; item = f.1 }))

-- the row that takes and puts these frames too
abbrev pub batch_row : ℕ → Side → List ((ℕ × ℕ) × Item) → Row → Row
batch_row link s fs r = record r { takes = r.takes ++ map (λ (f : (ℕ × ℕ) × Item). f.0) fs; puts = r.puts ++ map (λ (f : (ℕ × ℕ) × Item). (queue.Link link s, f.1)) fs }

-- a ping in flight too, where one is due, as the first put of an entry
abbrev pub pinged_way : Bool → ℕ → ℕ → Side → List (ℕ × List Envelope) → List (ℕ × List Envelope)
pinged_way true entry link s w = pushed_at w link (record { entry = entry; place = 0; queue = queue.Link link s; item = item.Frame None ping_frame })
pinged_way false entry link s w = w

-- and these frames after it
abbrev pub batch_way : Bool → ℕ → ℕ → Side → List ((ℕ × ℕ) × Item) → List (ℕ × List Envelope) → List (ℕ × List Envelope)
batch_way due entry link s fs w = written_way entry link s (length (ping_puts due (queue.Link link s))) fs (pinged_way due entry link s w)

-- the row of a batch, with a ping before it where one is due
abbrev pub write_frames_row : ℕ → Side → Bool → List ((ℕ × ℕ) × Item) → Row
write_frames_row link s false [] = only reply.Idle
write_frames_row link s due fs = batch_row link s fs (record (only reply.Ok) { puts = ping_puts due (queue.Link link s) })
