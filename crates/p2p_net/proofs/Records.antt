-- What a world keeps, with one more entry.
use Rattle.std.proofs.Common.{◌≡◌, ℕ, ◌≤◌, max, arith, true, false, List, [], ◌∷◌, ◌++◌, length, refl, ap, sym, subst, ◌∙◌}
use Rattle.std.proofs.lemmas.Bool.{and_parts}
use Rattle.std.proofs.lemmas.Bool.Decides.{nat_tests}
use Rattle.std.specs.Prelude.{nat_le, ◌&&◌}
use Rattle.p2p_log.specs.declared.config.Config.{Config}
use Rattle.p2p_log.specs.declared.event.Event.{Event}
use Rattle.p2p_log.specs.declared.entry.Entry.{Entry}
use Rattle.p2p_log_rules.specs.declared.row.Row.{Row}
use Rattle.p2p_log_rules.specs.Facts.{events_of, latest_moment}
use Rattle.p2p_log_rules.specs.Effect.{row, entry_of, effect}
use Rattle.p2p_log_rules.specs.Valid.{may_act, is_valid_event}
use Rattle.p2p_log_rules.specs.Lawful.{IsLawful}
use Rattle.p2p_log_rules.proofs.Facts.{events_of-append}
use Rattle.p2p_net_queues.proofs.Meters.{latest_moment-entry}
use Rattle.p2p_log_rules.proofs.Lawful.{IsLawful-nil, IsLawful-append}
use Rattle.p2p_net_links.specs.declared.links.Links.{Links}
use Rattle.p2p_net_node.specs.declared.node.Node.{Node}
use Rattle.p2p_net_node.specs.Ready as ready
use Rattle.p2p_net_node.specs.Requested.{AreRequested}
use Rattle.p2p_net_node.specs.declared.requested.Requested.{Requested}
use Rattle.p2p_net_node.specs.Stands.{WorldStands}
use Rattle.p2p_net.specs.World.{WorldView, KeptStands, IsRecorded}
use Rattle.p2p_net.specs.Refusals.{ApplyRefused}
use Rattle.p2p_net.specs.declared.error.RunError.{RunError}
use Rattle.p2p_net.specs.declared.error.RunError.TheVariants as error
use Rattle.p2p_net_links.specs.Links.{no_links}
use Rattle.p2p_net_node.specs.Places.{node_of}
use Rattle.p2p_net.specs.Events.{WorldDoes, WorldRecords}
use Rattle.p2p_net.proofs.Acting.{simulates}
use Rattle.p2p_net_node.proofs.Performing.{Simulates}
use Rattle.p2p_net_node.proofs.Readying.{may_act-nodes}

event-effect : (configs : List Config) (log : List Entry) (v : Event) → (effect configs log v).event ≡ v
unfolding effect
event-effect configs log v = refl

-- an event that may be asked for has an act that may
pub valid_act : (configs : List Config) (events : List Event) (v : Event) → is_valid_event configs events v ≡ true → may_act configs events v.act ≡ true
unfolding is_valid_event
valid_act configs events v h = (and_parts (nat_le (latest_moment events) v.at) (may_act configs events v.act) h).1

-- and it is not before the log
pub moment_is_late : (configs : List Config) (log : List Entry) (nodes : List Node) (rs : List Requested) (links : Links) (last : ℕ) (v : Event) → KeptStands configs log nodes rs links last → is_valid_event configs (events_of log) v ≡ true
    → latest_moment (events_of log) ≤ v.at
unfolding is_valid_event
moment_is_late configs log nodes rs links last v k valid =
    by (latest_moment (events_of log)) v.at (and_parts (nat_le (latest_moment (events_of log)) v.at) (may_act configs (events_of log) v.act) valid).0
  where
    by : (latest at : ℕ) → nat_le latest at ≡ true → latest ≤ at
    by latest at after = grind (arith, nat_tests)

-- what the code tests of an event
tested : (configs : List Config) (log : List Entry) (nodes : List Node) (rs : List Requested) (links : Links) (last : ℕ) (v : Event) → KeptStands configs log nodes rs links last → ready.may_apply nodes rs log last v ≡ is_valid_event configs (events_of log) v
unfolding is_valid_event
tested configs log nodes rs links last v k =
    ap (λ m. nat_le m v.at && ready.may_act nodes rs log v.act) k.last_is
    ∙ ap (λ b. nat_le (latest_moment (events_of log)) v.at && b) (may_act-nodes configs log nodes links rs v.act k.world k.requested)

-- of these nodes and requests
pub tested_of : (configs : List Config) (log : List Entry) (nodes ns : List Node) (rs qs : List Requested) (links : Links) (last : ℕ) (v : Event) → KeptStands configs log nodes rs links last → ns ≡ nodes → qs ≡ rs
    → ready.may_apply ns qs log last v ≡ is_valid_event configs (events_of log) v
tested_of configs log nodes ns rs qs links last v k same alike =
    ap (λ l. ready.may_apply l qs log last v) same ∙ (ap (λ l. ready.may_apply nodes l log last v) alike ∙ tested configs log nodes rs links last v k)

events_of-effect : (configs : List Config) (log : List Entry) (v : Event) → events_of (log ++ effect configs log v ∷ []) ≡ events_of log ++ v ∷ []
events_of-effect configs log v = events_of-append log (effect configs log v) ∙ ap (λ e. events_of log ++ e ∷ []) (event-effect configs log v)

-- a world whose log has one more entry, and that was the last moment
pub kept_more : (configs : List Config) (log later : List Entry) (nodes : List Node) (rs : List Requested) (links : Links) (v : Event) → IsLawful configs (events_of log) log → latest_moment (events_of log) ≤ v.at → AreRequested configs (events_of log ++ v ∷ []) rs
    → later ≡ log ++ effect configs log v ∷ [] → WorldStands configs later nodes links → KeptStands configs later nodes rs links v.at
kept_more configs log later nodes rs links v lawful late requested is s = record {
  world = s;
  requested = subst (λ l. AreRequested configs (events_of l) rs) (sym is) (subst (λ l. AreRequested configs l rs) (sym (events_of-effect configs log v)) requested);
  lawful = subst (λ l. IsLawful configs (events_of l) l) (sym is)
      (subst (λ l. IsLawful configs l (log ++ effect configs log v ∷ [])) (sym (events_of-effect configs log v)) (IsLawful-append configs (events_of log) log v lawful));
  last_is =
      let grown : latest_moment (events_of later) ≡ max (latest_moment (events_of log)) v.at =
      ap (λ l. latest_moment (events_of l)) is
      ∙ (latest_moment-entry log (effect configs log v) ∙ ap (λ (w : Event). max (latest_moment (events_of log)) w.at) (event-effect configs log v))
      in
      omega (arith, late, grown);
}

pub entry_of-effect : (configs : List Config) (log : List Entry) (v : Event) (r : Row) → r ≡ row configs log v.at v.seed v.act → entry_of v r ≡ effect configs log v
unfolding effect
entry_of-effect configs log v r h = ap (entry_of v) h

-- what the code records of an event
pub recorded : (configs : List Config) (log later : List Entry) (v : Event) (k : ℕ) (nodes new : List Node) (l links : Links) (e : Entry) → WorldStands configs log nodes l → IsLawful configs (events_of log) log
    → is_valid_event configs (events_of log) v ≡ true → latest_moment (events_of log) ≤ v.at → k ≡ length log → WorldRecords k (node_of log v.act) v nodes new l links e → later ≡ log ++ e ∷ [] → IsRecorded configs log v later new links
recorded configs log later v k nodes new l links e s lawful valid late at made grown =
    let r : Row = made.0 in
    let h : Simulates configs log v new links r = simulates configs log v nodes new l links r s lawful (valid_act configs (events_of log) v valid) late (subst (λ i. WorldDoes i (node_of log v.act) v nodes new l links r) at made.1.1) in
    let log_is : later ≡ log ++ effect configs log v ∷ [] = grown ∙ (ap (λ x. log ++ x ∷ []) made.1.0 ∙ ap (λ x. log ++ x ∷ []) (entry_of-effect configs log v r h.row_is)) in
    record { log_is = log_is; stands = subst (λ ls. WorldStands configs ls new links) (sym log_is) h.stands }

-- an event that is refused leaves its world
pub refused : (w : WorldView) (v : Event) (e : RunError) → e ≡ error.Event (length w.log) → is_valid_event w.configs (events_of w.log) v ≡ false → ApplyRefused w v e w
refused w v e is invalid = subst (λ (r : RunError). ApplyRefused w v r w) (sym is) ((refl, invalid), refl)

-- a world in which nothing was asked
pub stands_new : (configs kept : List Config) (log : List Entry) (nodes : List Node) (links : Links) → kept ≡ configs → log ≡ [] → links ≡ no_links → WorldStands configs [] nodes no_links → WorldStands kept log nodes links
stands_new configs kept log nodes links same none bare s =
    subst (λ c. WorldStands c log nodes links) (sym same) (subst (λ l. WorldStands configs l nodes links) (sym none) (subst (WorldStands configs [] nodes) (sym bare) s))

pub kept_new : (given configs : List Config) (log : List Entry) (nodes : List Node) (rs : List Requested) (links : Links) → configs ≡ given → log ≡ [] → WorldStands configs log nodes links → AreRequested given [] rs → KeptStands configs log nodes rs links 0
kept_new given configs log nodes rs links same none s requested = record {
  world = s;
  requested = subst (λ l. AreRequested configs (events_of l) rs) (sym none) (subst (λ c. AreRequested c [] rs) (sym same) requested);
  lawful = subst (λ l. IsLawful configs (events_of l) l) (sym none) (IsLawful-nil configs);
  last_is = sym (ap (λ l. latest_moment (events_of l)) none);
}
