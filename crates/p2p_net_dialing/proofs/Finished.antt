-- What the code makes of the end of an exchange of keys is what is written of it.
use Rattle.std.proofs.Common.{◌≡◌, ℕ, Bool, List, refl, sym, subst, Option, Some, None}
use Rattle.std.specs.Prelude.{slice_get}
use Rattle.p2p_base.specs.declared.key.Key.{Key}
use Rattle.p2p_log.specs.declared.entry.Reply.TheVariants as reply
use Rattle.p2p_log_rules.specs.declared.row.Opening.{Opening}
use Rattle.p2p_log_rules.specs.declared.row.ListeningEnd.{ListeningEnd}
use Rattle.p2p_log_rules.specs.declared.row.Row.{Row}
use Rattle.p2p_log_rules.specs.Effect.{only}
use Rattle.p2p_net_queues.specs.Tables as table
use Rattle.p2p_net_queues.specs.Tables.{AreBut}
use Rattle.p2p_net_gates.specs.Attempts.{dialed_key}
use Rattle.p2p_net_links.specs.Cutting.{is_cut_at}
use Rattle.p2p_net_links.specs.declared.links.Links.{Links}
use Rattle.p2p_net_dialing.specs.Finishing.{said, TellsBoth, FinishesBy, FinishesOver}
use Rattle.p2p_net_node.specs.declared.node.Node.{Node}

module _ (k link : ℕ) (ok : Bool) (o : Opening) (nodes : List Node) (x y : Node) (l : Links) (cut : Bool) (dialed : Option Key) (end : Option ListeningEnd) (r : Row)
    (at_first : slice_get nodes o.node ≡ Some x) (at_second : slice_get nodes o.to ≡ Some y)
    (cut_is : cut ≡ is_cut_at l link) (dialed_is : dialed ≡ dialed_key (table.at x.dialing.attempts o.attempt)) (end_is : end ≡ table.at y.listening.ends link) where
  -- what is said of the keys, as the code finds it
  over : (v : Option Bool) (new : List Node) (links : Links) → said ok cut dialed end y ≡ v → FinishesBy v k link o end nodes new l links r → FinishesOver k link ok o nodes new l links r
  over v new links is h = record {
    first = x;
    second = y;
    at_first = at_first;
    at_second = at_second;
    finishes =
        subst (λ c. FinishesBy (said ok c (dialed_key (table.at x.dialing.attempts o.attempt)) (table.at y.listening.ends link) y) k link o (table.at y.listening.ends link) nodes new l links r) cut_is
        (subst (λ d. FinishesBy (said ok cut d (table.at y.listening.ends link) y) k link o (table.at y.listening.ends link) nodes new l links r) dialed_is
        (subst (λ p. FinishesBy (said ok cut dialed p y) k link o p nodes new l links r) end_is (subst (λ w. FinishesBy w k link o end nodes new l links r) (sym is) h)));
  }

  -- it is waited for
  pub not_told : said ok cut dialed end y ≡ None → r ≡ only reply.Pending → FinishesOver k link ok o nodes nodes l l r
  not_told is pending = over None nodes l is (pending, (refl, refl))

  -- both ends are told
  pub was_told : (agree : Bool) (new : List Node) (links : Links) → said ok cut dialed end y ≡ Some agree → TellsBoth k o agree end nodes new r
      → AreBut link None l.openings links.openings × (links ≡ record l { openings = links.openings }) → FinishesOver k link ok o nodes new l links r
  was_told agree new links is told h = over (Some agree) new links is (told, h)
