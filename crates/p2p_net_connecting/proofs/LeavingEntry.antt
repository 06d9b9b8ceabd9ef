-- The entry of a step of a connection with which it ends: it ends that connection alone, and begins, makes and admits none.
use Rattle.std.proofs.Common.{◌≡◌, ℕ, Bool, true, false, List, [], ◌∷◌, ◌++◌, refl, ◌∙◌, Some, None}
use Rattle.std.specs.Prelude.{◌==◌}
use Rattle.p2p_log_rules.proofs.Bools.{and_false}
use Rattle.p2p_log.specs.declared.config.Config.{Config}
use Rattle.p2p_log.specs.declared.item.Envelope.{Envelope}
use Rattle.p2p_log.specs.declared.end.Cause.{Cause}
use Rattle.p2p_log.specs.declared.entry.Ended.{Ended}
use Rattle.p2p_log.specs.declared.entry.Entry.{Entry}
use Rattle.p2p_log.specs.declared.entry.Reply.TheVariants as reply
use Rattle.p2p_log_rules.specs.declared.row.Half.{Half}
use Rattle.p2p_log_rules.specs.declared.row.Row.{Row}
use Rattle.p2p_log_rules.specs.Connections.{begins_connection, ends_connection}
use Rattle.p2p_log_rules.specs.Effect.{entry_of}
use Rattle.p2p_log_rules.specs.Ending.{end_row}
use Rattle.p2p_log_rules.specs.Facts.{registers_at, stops, turns}
use Rattle.p2p_log_rules.specs.Spawning.{connections_of}
pub use Rattle.p2p_log_rules.proofs.Connections.{half_act}
use Rattle.p2p_log_rules.proofs.Connections.{steps_sender, begins_is}
use Rattle.p2p_log_rules.proofs.Families.{kinds_of, are_apart}
use Rattle.p2p_log_rules.proofs.Spawning.{connections_of-unmade}
use Rattle.p2p_net_connections.proofs.Ended.{EndsOne}
use Rattle.p2p_net_links.specs.declared.links.Links.{Links}
use Rattle.p2p_log_rules.specs.Dropping.{drops_of}
use Rattle.p2p_log_rules.proofs.Handshakes.{handshake_kinds}
use Rattle.p2p_log_rules.proofs.Routing.{route_kinds}
use Rattle.p2p_log_rules.proofs.Closing.{reader_kinds}
use Rattle.p2p_net_links.proofs.Drops.{drops_sender, drops_receiver}
use Rattle.p2p_net_tracker.specs.GivenBack.{side_freed_by}
use Rattle.p2p_net_tracker.specs.Stands.{asks_of}
use Rattle.p2p_net_tracker.proofs.EndSteps.{sender_ends, receiver_ends}
use Rattle.p2p_net_tracker.proofs.GivenBack.{sender_gives, receiver_gives}
use Rattle.p2p_net_node.specs.declared.node.Node.{Node}
use Rattle.p2p_net_connecting.proofs.Leaving.{Leaving, half_is}
use Rattle.p2p_net_node.proofs.Performing.{asked}
use Rattle.p2p_net_node.proofs.Receivers.{SendsNothing, pings_ended}
use Rattle.p2p_log_rules.proofs.Steps.{steps_tracker, steps_spawner}
use Rattle.p2p_log_rules.proofs.Answers.{takes_answer}

-- ---- what such a step is not

module _ (conn n : ℕ) where
  pub no_router : (sends : Bool) → are_apart (kinds_of (half_act sends conn n)) route_kinds ≡ true
  no_router true = refl
  no_router false = refl

  pub no_channel : (configs : List Config) (sends : Bool) (k : ℕ) → registers_at configs k (half_act sends conn n) ≡ []
  no_channel configs true k = refl
  no_channel configs false k = refl

  pub no_turn : (sends : Bool) (k : ℕ) → turns k (half_act sends conn n) ≡ false
  no_turn true k = refl
  no_turn false k = refl

  pub no_stop : (sends : Bool) → stops n (half_act sends conn n) ≡ false
  no_stop true = refl
  no_stop false = refl

  pub no_spawner : (sends : Bool) → steps_spawner n (half_act sends conn n) ≡ false
  no_spawner true = refl
  no_spawner false = refl

  pub no_tracker : (sends : Bool) → steps_tracker n (half_act sends conn n) ≡ false
  no_tracker true = refl
  no_tracker false = refl

  pub no_question : (sends : Bool) → asks_of n (half_act sends conn n) ≡ None
  no_question true = refl
  no_question false = refl

  pub no_answer : (why : Ended) (sends : Bool) (k : ℕ) → takes_answer k (half_act sends conn n) (reply.Ended why) ≡ false
  no_answer why true k = refl
  no_answer why false k = refl

  pub no_listener : (sends : Bool) → are_apart (kinds_of (half_act sends conn n)) handshake_kinds ≡ true
  no_listener true = refl
  no_listener false = refl

  pub no_send : (sends : Bool) → SendsNothing (half_act sends conn n)
  no_send true = (refl, refl)
  no_send false = (refl, refl)

  pub no_close : (sends : Bool) → are_apart (kinds_of (half_act sends conn n)) reader_kinds ≡ true
  no_close true = refl
  no_close false = refl

-- ---- the entry

module _ {configs : List Config} {log : List Entry} {n conn : ℕ} {half : Half} {why : Ended} {c : Cause} {taken : List Envelope} {x w y : Node} {l m links : Links} {r : Row}
    (t : Leaving configs log n conn half why c taken x w y l m links r) (at seed : ℕ) where
  abbrev pub entry : Bool → Entry
  entry sends = entry_of (asked at seed (half_act sends conn n)) (end_row log n conn half why c taken)

  pub ends_only : (sends : Bool) (k : ℕ) → ends_connection n k log (entry sends) ≡ (k == conn)
  ends_only true k = sender_ends log (entry true) n conn refl refl k
  ends_only false k = receiver_ends log (entry false) n conn refl refl k

  -- with it goes the reservation of its side
  pub frees_side : (sends : Bool) → side_freed_by log (entry sends) ≡ Some half.writes
  frees_side true = sender_gives log (entry true) n conn why half refl (half_is t) refl
  frees_side false = receiver_gives log (entry false) n conn why half refl (half_is t) refl

  pub begins_none : (sends : Bool) (k : ℕ) → begins_connection n k log (entry sends) ≡ false
  begins_none sends k = begins_is log (entry sends) n k ∙ and_false (steps_sender n k (half_act sends conn n))

  pub makes_none : (sends : Bool) (k : ℕ) → connections_of (log ++ entry sends ∷ []) n k ≡ connections_of log n k
  makes_none sends k = connections_of-unmade log (entry sends) n (no_spawner conn n sends) k

  pub ends_one : (sends : Bool) → EndsOne configs log (entry sends) n conn
  ends_one sends = record {
    ends = ends_only sends;
    makes_none = makes_none sends;
    no_begin = begins_none sends;
    no_ping = pings_ended configs log (entry sends) n refl;
  }

  -- the end of its link that it writes to is dropped
  pub drops_end : (sends : Bool) → drops_of log (entry sends) ≡ (half.link, half.writes) ∷ []
  drops_end true = drops_sender log (entry true) conn n half refl refl (half_is t)
  drops_end false = drops_receiver log (entry false) conn n half refl refl (half_is t)
