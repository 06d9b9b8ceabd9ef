-- The links after an entry that cuts one of them.
use Rattle.std.proofs.Common.{◌≡◌, ℕ, Bool, true, false, cond, List, [], ◌∷◌, ◌++◌, refl, ap, sym, ◌∙◌, Option, Some, None}
use Rattle.std.specs.Prelude.{◌==◌, ◌||◌, is_some}
use Rattle.p2p_log.specs.declared.config.Config.{Config}
use Rattle.p2p_log.specs.declared.queue.Queue.TheVariants as queue
use Rattle.p2p_log.specs.declared.queue.Side.{Side}
use Rattle.p2p_log.specs.declared.queue.Side.TheVariants as side
use Rattle.p2p_log.specs.declared.entry.Entry.{Entry}
use Rattle.p2p_log.specs.declared.entry.Reply.TheVariants as reply
use Rattle.p2p_log.specs.declared.event.Act.TheVariants as act
use Rattle.p2p_log.specs.QueueCode.{same_queue}
use Rattle.p2p_log.specs.Lines.{line}
use Rattle.p2p_log.proofs.QueueNames.{queue_from_same}
use Rattle.p2p_log_rules.specs.Cutting.{is_cut, is_broken, can_be_cut}
use Rattle.p2p_log_rules.specs.Dialed.{dialer_of}
use Rattle.p2p_log_rules.specs.Dropping.{is_dropped}
use Rattle.p2p_log_rules.specs.Told.{told}
use Rattle.p2p_log_rules.proofs.Cutting.{is_cut-append}
use Rattle.p2p_log_rules.proofs.Dialed.{link_kinds}
use Rattle.p2p_log_rules.proofs.Dropping.{drops_none, is_dropped-kept}
use Rattle.p2p_log_rules.proofs.Families.{kinds_of, are_apart}
use Rattle.p2p_log_rules.proofs.Links.{exchange_kinds, openings_of-kept}
use Rattle.p2p_log_rules.proofs.LinkTells.{apart_none}
use Rattle.p2p_net_queues.specs.Tables.{at, waiting}
use Rattle.p2p_net_queues.proofs.Tables.{waiting-cleared_at, at-inserted}
use Rattle.p2p_net_links.specs.Cutting.{is_cut_at, is_broken_at, can_be_cut_at, cut_with}
use Rattle.p2p_net_links.specs.Dropping.{is_dropped_at}
use Rattle.p2p_net_links.specs.Links.{way_of}
use Rattle.p2p_net_links.specs.Stands.{LinksStand}
use Rattle.p2p_net_links.specs.declared.links.Links.{Links}
use Rattle.p2p_net_links.proofs.Changes.{same_link, dialers_kept}
use Rattle.p2p_net_links.proofs.Drops.{drops_none-act}

-- an entry cuts this link: nothing is in flight over it after it, and what is in flight over others is what was
pub record CutsLink (log : List Entry) (e : Entry) (link : ℕ) : Type 0 where
  pub acts : e.event.act ≡ act.Cut link
  pub done : e.reply ≡ reply.Ok
  pub emptied : (s : Side) → line (log ++ e ∷ []) (queue.Link link s) ≡ []
  pub kept : (s : Side) (k : ℕ) → same_queue (queue.Link link s) (queue.Link k s) ≡ false → line (log ++ e ∷ []) (queue.Link k s) ≡ line log (queue.Link k s)

module _ (configs : List Config) (log : List Entry) (l : Links) (link : ℕ) (st : LinksStand configs log l) where
  -- what the links say of an end, and of whether the link can be cut, is what the log says
  pub broken_is : (s : Side) → is_broken_at l s link ≡ is_broken log link s
  broken_is s = ap (λ b. b || is_cut_at l link) (st.dropped link s) ∙ ap (λ b. is_dropped log link s || b) (st.cut link)

  pub can_be_cut_is : can_be_cut_at l link ≡ can_be_cut log link
  can_be_cut_is = by (st.dialers link) (st.cut link) (st.dropped link side.Out) (st.dropped link side.In)
    where
      by : at l.dialers link ≡ dialer_of log link → is_cut_at l link ≡ is_cut log link → is_dropped_at l side.Out link ≡ is_dropped log link side.Out → is_dropped_at l side.In link ≡ is_dropped log link side.In
          → can_be_cut_at l link ≡ can_be_cut log link
      by dialed cut outward inward = cc

  module _ (e : Entry) (c : CutsLink log e link) where
    line_now : (s : Side) (k : ℕ) (b : Bool) → same_queue (queue.Link link s) (queue.Link k s) ≡ b → cond b [] (waiting (way_of l s) k) ≡ line (log ++ e ∷ []) (queue.Link k s)
    line_now s k true is = sym (ap (line (log ++ e ∷ [])) (queue_from_same (queue.Link link s) (queue.Link k s) is) ∙ c.emptied s)
    line_now s k false is = st.waits s k ∙ sym (c.kept s k is)

    waits_now : (s : Side) (k : ℕ) → waiting (way_of (cut_with link l) s) k ≡ line (log ++ e ∷ []) (queue.Link k s)
    waits_now side.Out k =
        waiting-cleared_at link k l.outward
        ∙ (ap (λ b. cond b [] (waiting l.outward k)) (sym (same_link side.Out side.Out link k)) ∙ line_now side.Out k (same_queue (queue.Link link side.Out) (queue.Link k side.Out)) refl)
    waits_now side.In k =
        waiting-cleared_at link k l.inward
        ∙ (ap (λ b. cond b [] (waiting l.inward k)) (sym (same_link side.In side.In link k)) ∙ line_now side.In k (same_queue (queue.Link link side.In) (queue.Link k side.In)) refl)

    same_drops : (s : Side) (k : ℕ) → is_dropped_at (cut_with link l) s k ≡ is_dropped_at l s k
    same_drops side.Out k = refl
    same_drops side.In k = refl

    one_more : (b : Bool) (o : Option (Unit {0})) → is_some (cond b (Some tt) o) ≡ (is_some o || b)
    one_more true None = refl
    one_more true (Some u) = refl
    one_more false None = refl
    one_more false (Some u) = refl

    pub links_cut : LinksStand configs (log ++ e ∷ []) (cut_with link l)
    links_cut = record {
      waits = waits_now;
      dialers = dialers_kept log e l.dialers st.dialers (apart_none (told log) log e link_kinds (ap (λ a. are_apart (kinds_of a) link_kinds) c.acts));
      openings = λ k. st.openings k ∙ sym (openings_of-kept log e (apart_none (told log) log e exchange_kinds (ap (λ a. are_apart (kinds_of a) exchange_kinds) c.acts)) k);
      dropped = λ k s. same_drops s k ∙ (st.dropped k s ∙ sym (is_dropped-kept log e (drops_none-act log e (ap drops_none c.acts)) k s));
      cut = λ k.
          ap (λ (o : Option (Unit {0})). is_some o) (at-inserted link k tt l.cut)
          ∙ (one_more (k == link) (at l.cut k) ∙ (ap (λ b. b || (k == link)) (st.cut k) ∙ sym (is_cut-append log e link c.acts c.done k)));
    }
