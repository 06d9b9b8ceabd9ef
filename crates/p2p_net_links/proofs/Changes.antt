-- The links after one more entry.
use Rattle.std.proofs.Common.{◌≡◌, ℕ, ◌+◌, Bool, true, false, cond, List, [], ◌∷◌, ◌++◌, length, drop, refl, ap, sym, ◌∙◌, arith, append_assoc, append-nil, subst, Option, Some, None}
use Rattle.std.specs.Prelude.{◌==◌, filter, map, ◌&&◌, ◌||◌, is_some}
use Rattle.std.specs.List.{list_any}
use Rattle.std.specs.BTreeMap.{is_at, insert_entry}
use Rattle.std.specs.Ordering.{nat_cmp}
use Rattle.std.proofs.lemmas.Bool.Decides.{nat_tests}
use Rattle.p2p_log.specs.declared.config.Config.{Config}
use Rattle.p2p_log.specs.declared.queue.Queue.{Queue}
use Rattle.p2p_log.specs.declared.queue.Queue.TheVariants as queue
use Rattle.p2p_log.specs.declared.queue.Side.{Side}
use Rattle.p2p_log.specs.declared.queue.Side.TheVariants as side
use Rattle.p2p_log.specs.declared.item.Item.{Item}
use Rattle.p2p_log.specs.declared.item.Item.TheVariants as item
use Rattle.p2p_log.specs.declared.item.Envelope.{Envelope}
use Rattle.p2p_log.specs.declared.entry.Entry.{Entry}
use Rattle.p2p_log.specs.declared.entry.Reply.{Reply}
use Rattle.p2p_log.specs.declared.entry.Reply.TheVariants as reply
use Rattle.p2p_log.specs.declared.event.Act.{Act}
use Rattle.p2p_log.specs.declared.event.Act.TheVariants as act
use Rattle.p2p_log.specs.QueueCode.{same_queue}
use Rattle.p2p_log.specs.Lines.{line, stands_in, placed}
use Rattle.p2p_log.proofs.Queues.{same_queue-sym}
use Rattle.p2p_log_rules.specs.declared.row.Opening.{Opening}
use Rattle.p2p_log_rules.specs.Cutting.{is_cut}
use Rattle.p2p_log_rules.specs.Dropping.{is_dropped}
use Rattle.p2p_log_rules.specs.Effect.{ping_puts}
use Rattle.p2p_log_rules.specs.Facts.{state_from, with_named}
use Rattle.p2p_log_rules.specs.Links.{openings_of}
use Rattle.p2p_log_rules.specs.Dialed.{dialer_of}
use Rattle.p2p_log_rules.specs.Pings.{ping_frame}
use Rattle.p2p_log_rules.specs.Tellings.{Telling}
use Rattle.p2p_log_rules.specs.Tellings as telling
use Rattle.p2p_log_rules.specs.Told.{done_tells, link_tells, tells, told}
use Rattle.p2p_log_rules.proofs.Cutting.{cut_kinds, is_cut-kept, is_cut-none}
use Rattle.p2p_log_rules.proofs.Dialed.{link_kinds, dialer_of-kept, dialer_of-linked}
use Rattle.p2p_log_rules.proofs.TellingKinds.{Kind, same_kind}
use Rattle.p2p_log_rules.proofs.TellingKinds as kind
use Rattle.p2p_log_rules.proofs.Families.{telling_kind, kinds_of, has, are_apart}
use Rattle.p2p_log_rules.proofs.Links.{exchange_kinds, openings_of-kept, openings_of-linked, openings_of-finished, openings_of-none}
use Rattle.p2p_log_rules.proofs.LinkTells.{weaker, tells_act, TellsNone, apart_none}
use Rattle.p2p_log_rules.proofs.Tellings.{or_left}
use Rattle.p2p_net_queues.specs.Tables.{at, waiting, pushed_at, popped_at}
use Rattle.p2p_net_queues.proofs.Holding.{longer}
use Rattle.p2p_net_queues.proofs.Tables.{waiting-pushed_at, waiting-popped_at, at-inserted}
use Rattle.p2p_net_links.specs.Cutting.{is_cut_at}
use Rattle.p2p_net_links.specs.Dropping.{dropped_of, is_dropped_at}
use Rattle.p2p_net_links.specs.Links.{no_links, way_of, with_way, written_way, batch_way, opened_with}
use Rattle.p2p_net_links.specs.Stands.{LinksStand}
use Rattle.p2p_net_links.specs.declared.links.Links.{Links}
use Rattle.p2p_log_rules.proofs.Dropping.{is_dropped-none, is_dropped-kept}
use Rattle.p2p_net_links.proofs.Drops.{DropsNone}

-- whether two sides are the same
abbrev pub same_side : Side → Side → Bool
same_side side.Out side.Out = true
same_side side.In side.In = true
same_side _ _ = false

pub ways : (l : Links) (s t : Side) (w : List (ℕ × List Envelope)) → way_of (with_way l s w) t ≡ cond (same_side s t) w (way_of l t)
ways l side.Out side.Out w = refl
ways l side.Out side.In w = refl
ways l side.In side.Out w = refl
ways l side.In side.In w = refl

pub same_way : (l : Links) (s t : Side) → same_side s t ≡ true → way_of l s ≡ way_of l t
same_way l side.Out side.Out h = refl
same_way l side.In side.In h = refl
same_way l side.Out side.In h = cc
same_way l side.In side.Out h = cc

pub same_link : (s t : Side) (k j : ℕ) → same_queue (queue.Link k s) (queue.Link j t) ≡ (same_side s t && is_at (nat_cmp j) k)
same_link side.Out side.Out k j = grind (arith, nat_tests)
same_link side.Out side.In k j = grind (arith, nat_tests)
same_link side.In side.Out k j = grind (arith, nat_tests)
same_link side.In side.In k j = grind (arith, nat_tests)

-- the line of one direction of one link, with another list in the place of what it held
changed :
    (l : Links) (s t : Side) (k j : ℕ) (w : List (ℕ × List Envelope)) (f : List Envelope → List Envelope) → ((i : ℕ) → waiting w i ≡ cond (is_at (nat_cmp i) k) (f (waiting (way_of l s) i)) (waiting (way_of l s) i))
    → waiting (way_of (with_way l s w) t) j ≡ cond (same_queue (queue.Link k s) (queue.Link j t)) (f (waiting (way_of l t) j)) (waiting (way_of l t) j)
changed l s t k j w f h =
    ap (λ v. waiting v j) (ways l s t w)
    ∙ ((elim (same_side s t) as (λ b. same_side s t ≡ b → waiting (cond b w (way_of l t)) j ≡ cond (b && is_at (nat_cmp j) k) (f (waiting (way_of l t) j)) (waiting (way_of l t) j)) [
      | true ↦ λ same. h j ∙ ap (λ v. cond (is_at (nat_cmp j) k) (f (waiting v j)) (waiting v j)) (same_way l s t same)
      | false ↦ λ other. refl
    ]) refl
    ∙ ap (λ b. cond b (f (waiting (way_of l t) j)) (waiting (way_of l t) j)) (sym (same_link s t k j)))

-- ---- who dialed, by the log

-- no links stand for no log
pub dialers_new : (k : ℕ) → at no_links.dialers k ≡ dialer_of [] k
unfolding told state_from
dialers_new k = refl

-- ---- an entry that leaves alone who dialed, between whom keys are exchanged, and which links were cut

-- the kinds of tellings by which a link is made, an exchange over one ends, and one is cut
abbrev pub opening_kinds : List Kind
opening_kinds = kind.link_opened ∷ kind.exchange_ended ∷ kind.link_cut ∷ []

-- it tells of none
abbrev pub OpensNone : List Entry → Entry → Type 0
OpensNone log e = TellsNone (told log) log e opening_kinds

-- it ends no exchange, and cuts no link
pub exchanges_less : (log : List Entry) (e : Entry) → OpensNone log e → TellsNone (told log) log e exchange_kinds
exchanges_less log e none = weaker (λ t. has opening_kinds (telling_kind t)) (λ t. has exchange_kinds (telling_kind t)) (λ t h. less (same_kind kind.link_opened (telling_kind t)) (same_kind kind.exchange_ended (telling_kind t)) (same_kind kind.link_cut (telling_kind t)) h) (tells (told log) log e) none
  where
    less : (a b c : Bool) → (a || (b || (c || false))) ≡ false → (a || (b || false)) ≡ false
    less true b c h = h
    less false true c h = h
    less false false c h = refl

pub cuts_less : (log : List Entry) (e : Entry) → OpensNone log e → TellsNone (told log) log e cut_kinds
cuts_less log e none = weaker (λ t. has opening_kinds (telling_kind t)) (λ t. has cut_kinds (telling_kind t)) (λ t h. less (same_kind kind.link_opened (telling_kind t)) (same_kind kind.exchange_ended (telling_kind t)) (same_kind kind.link_cut (telling_kind t)) h) (tells (told log) log e) none
  where
    less : (a b c : Bool) → (a || (b || (c || false))) ≡ false → (c || false) ≡ false
    less true b c h = cc
    less false true c h = cc
    less false false c h = h

-- it makes no link
abbrev pub DialsNone : List Entry → Entry → Type 0
DialsNone log e = TellsNone (told log) log e link_kinds

pub dials_less : (log : List Entry) (e : Entry) → OpensNone log e → DialsNone log e
dials_less log e none = weaker (λ t. has opening_kinds (telling_kind t)) (λ t. has link_kinds (telling_kind t)) less (tells (told log) log e) none
  where
    less : (t : Telling) → has opening_kinds (telling_kind t) ≡ false → has link_kinds (telling_kind t) ≡ false
    less t none = ap (λ b. b || false) (or_left (same_kind kind.link_opened (telling_kind t)) ((same_kind kind.exchange_ended (telling_kind t)) || ((same_kind kind.link_cut (telling_kind t)) || false)) none)

-- by its act
pub openings_unmoved : (log : List Entry) (e : Entry) → are_apart (kinds_of e.event.act) opening_kinds ≡ true → OpensNone log e
openings_unmoved log e apart = apart_none (told log) log e opening_kinds apart

-- or by its reply, whatever its act: whether that says that it was done
abbrev pub is_ok_reply : Reply → Bool
is_ok_reply reply.Ok = true
is_ok_reply _ = false

undone : (about : Telling → Bool) (r : Reply) (us : List Telling) → is_ok_reply r ≡ false → list_any about (done_tells r us) ≡ false
undone about reply.Ok us h = cc
undone about _ us h = refl

pub openings_unanswered : (log : List Entry) (e : Entry) → is_ok_reply e.reply ≡ false → OpensNone log e
openings_unanswered log e h = by e.event.act refl
  where
    by : (a : Act) → e.event.act ≡ a → OpensNone log e
    by (act.Connect d from n to) acts =
        ap (list_any (λ t. has opening_kinds (telling_kind t))) (tells_act (told log) log e (act.Connect d from n to) acts)
        ∙ undone (λ t. has opening_kinds (telling_kind t)) e.reply (telling.dial_answered n d (length log) ∷ link_tells n d (length log) to e.puts) h
    by (act.Finish link ok) acts =
        ap (list_any (λ t. has opening_kinds (telling_kind t))) (tells_act (told log) log e (act.Finish link ok) acts) ∙ undone (λ t. has opening_kinds (telling_kind t)) e.reply (telling.exchange_ended link ∷ []) h
    by (act.Cut link) acts =
        ap (list_any (λ t. has opening_kinds (telling_kind t))) (tells_act (told log) log e (act.Cut link) acts) ∙ undone (λ t. has opening_kinds (telling_kind t)) e.reply (telling.link_cut link ∷ []) h
    by a acts = openings_unmoved log e (ap (λ b. are_apart (kinds_of b) opening_kinds) acts)

-- or by its puts: a dial that was answered, but not with a link
pub openings_linkless : (log : List Entry) (e : Entry) (d n to : ℕ) (from : _) (one : Queue × Item) → e.event.act ≡ act.Connect d from n to → e.puts ≡ one ∷ [] → OpensNone log e
openings_linkless log e d n to from one acts puts =
    ap (list_any (λ t. has opening_kinds (telling_kind t))) (tells_act (told log) log e (act.Connect d from n to) acts)
    ∙ (ap (λ p. list_any (λ t. has opening_kinds (telling_kind t)) (done_tells e.reply (telling.dial_answered n d (length log) ∷ link_tells n d (length log) to p))) puts ∙ lone e.reply)
  where
    lone : (r : Reply) → list_any (λ t. has opening_kinds (telling_kind t)) (done_tells r (telling.dial_answered n d (length log) ∷ [])) ≡ false
    lone reply.Ok = refl
    lone _ = refl

-- ---- one that changes them

-- who dialed and who is dialed over the link that it makes, and that is the only one that begins
pub record Opens (log : List Entry) (e : Entry) (o : Opening) : Type 0 where
  pub dialers : (k : ℕ) → dialer_of (log ++ e ∷ []) k ≡ with_named (length log) (Some o.node) (dialer_of log) k
  pub openings : (k : ℕ) → openings_of (log ++ e ∷ []) k ≡ with_named (length log) (Some o) (openings_of log) k
  pub cuts : TellsNone (told log) log e cut_kinds

pub openings_opened : (log : List Entry) (e : Entry) (o : Opening) (from : _) (one two : Queue × Item) (rest : List (Queue × Item)) → e.event.act ≡ act.Connect o.attempt from o.node o.to → e.reply ≡ reply.Ok
    → e.puts ≡ one ∷ two ∷ rest → Opens log e o
openings_opened log e o from one two rest acts answered puts = record {
  dialers = dialer_of-linked log e o.attempt o.node o.to from one two rest acts answered puts;
  openings = openings_of-linked log e o.attempt o.node o.to from one two rest acts answered puts;
  cuts = apart_none (told log) log e cut_kinds (ap (λ a. are_apart (kinds_of a) cut_kinds) acts);
}

-- an exchange ends
pub record Finishes (log : List Entry) (e : Entry) (link : ℕ) : Type 0 where
  pub dials : DialsNone log e
  pub cuts : TellsNone (told log) log e cut_kinds
  pub openings : (k : ℕ) → openings_of (log ++ e ∷ []) k ≡ with_named link None (openings_of log) k

pub openings_finished : (log : List Entry) (e : Entry) (link : ℕ) (ok : Bool) → e.event.act ≡ act.Finish link ok → e.reply ≡ reply.Ok → Finishes log e link
openings_finished log e link ok acts answered = record {
  dials = apart_none (told log) log e link_kinds (ap (λ a. are_apart (kinds_of a) link_kinds) acts);
  cuts = apart_none (told log) log e cut_kinds (ap (λ a. are_apart (kinds_of a) cut_kinds) acts);
  openings = openings_of-finished log e link ok acts answered;
}

-- ---- and by the links

-- no links stand for no log
pub openings_new : (k : ℕ) → at no_links.openings k ≡ openings_of [] k
openings_new k = sym (openings_of-none k)

pub dialers_kept : (log : List Entry) (e : Entry) (dialers : List (ℕ × ℕ)) → ((k : ℕ) → at dialers k ≡ dialer_of log k) → DialsNone log e → (k : ℕ) → at dialers k ≡ dialer_of (log ++ e ∷ []) k
dialers_kept log e dialers is none k = is k ∙ sym (dialer_of-kept log e none k)

-- an entry that leaves these alone
pub openings_kept : (log : List Entry) (e : Entry) (openings : List (ℕ × Opening)) → ((k : ℕ) → at openings k ≡ openings_of log k) → OpensNone log e → (k : ℕ) → at openings k ≡ openings_of (log ++ e ∷ []) k
openings_kept log e openings is none k = is k ∙ sym (openings_of-kept log e (exchanges_less log e none) k)

-- another of this name, or none any more
named : (name k : ℕ) (o : Option Opening) (openings : List (ℕ × Opening)) (before : ℕ → Option Opening) → ((j : ℕ) → at openings j ≡ before j)
    → cond (k == name) o (at openings k) ≡ with_named name o before k
named name k o openings before is = ap (λ v. cond (k == name) o v) (is k)

-- ---- which ends were dropped

-- no links stand for no log
pub dropped_new : (link : ℕ) (s : Side) → is_dropped_at no_links s link ≡ is_dropped [] link s
dropped_new link side.Out = sym (is_dropped-none link side.Out)
dropped_new link side.In = sym (is_dropped-none link side.In)

-- ---- which links were cut

-- no links stand for no log
pub cut_new : (link : ℕ) → is_cut_at no_links link ≡ is_cut [] link
cut_new link = sym (is_cut-none link)

-- an entry that cuts none
pub cut_kept : (log : List Entry) (e : Entry) (l : Links) → ((k : ℕ) → is_cut_at l k ≡ is_cut log k) → TellsNone (told log) log e cut_kinds → (k : ℕ) → is_cut_at l k ≡ is_cut (log ++ e ∷ []) k
cut_kept log e l is none k = is k ∙ sym (is_cut-kept log e none k)

-- ---- the links

-- an entry that leaves them alone
pub links_frame : (configs : List Config) (log : List Entry) (e : Entry) (l : Links) → LinksStand configs log l → ((s : Side) (link : ℕ) → line (log ++ e ∷ []) (queue.Link link s) ≡ line log (queue.Link link s))
    → OpensNone log e → DropsNone log e → LinksStand configs (log ++ e ∷ []) l
links_frame configs log e l st lines same none = record {
  waits = λ s link. st.waits s link ∙ sym (lines s link);
  dialers = dialers_kept log e l.dialers st.dialers (dials_less log e same);
  openings = openings_kept log e l.openings st.openings same;
  dropped = λ link s. st.dropped link s ∙ sym (is_dropped-kept log e none link s);
  cut = cut_kept log e l st.cut (cuts_less log e same);
}

same_ways : (l : Links) (s : Side) (ds : List (ℕ × ℕ)) (os : List (ℕ × Opening)) → way_of (record l { dialers = ds; openings = os }) s ≡ way_of l s
same_ways l side.Out ds os = refl
same_ways l side.In ds os = refl

same_dialers : (l : Links) (s : Side) (w : List (ℕ × List Envelope)) → (with_way l s w).dialers ≡ l.dialers
same_dialers l side.Out w = refl
same_dialers l side.In w = refl

same_openings : (l : Links) (s : Side) (w : List (ℕ × List Envelope)) → (with_way l s w).openings ≡ l.openings
same_openings l side.Out w = refl
same_openings l side.In w = refl

same_cut : (l : Links) (s : Side) (w : List (ℕ × List Envelope)) → (with_way l s w).cut ≡ l.cut
same_cut l side.Out w = refl
same_cut l side.In w = refl

same_dropped : (l : Links) (s t : Side) (w : List (ℕ × List Envelope)) → dropped_of (with_way l s w) t ≡ dropped_of l t
same_dropped l side.Out side.Out w = refl
same_dropped l side.Out side.In w = refl
same_dropped l side.In side.Out w = refl
same_dropped l side.In side.In w = refl

-- an entry that changes one direction, which is this one after it, and not who dialed, between whom keys are exchanged, and which ends were dropped
pub with_way_kept : (configs : List Config) (log : List Entry) (e : Entry) (l : Links) (s : Side) (w : List (ℕ × List Envelope)) → LinksStand configs log l → OpensNone log e → DropsNone log e
    → ((t : Side) (j : ℕ) → waiting (way_of (with_way l s w) t) j ≡ line (log ++ e ∷ []) (queue.Link j t)) → LinksStand configs (log ++ e ∷ []) (with_way l s w)
with_way_kept configs log e l s w st same none now = record {
  waits = now;
  dialers = λ k. ap (λ (m : List (ℕ × ℕ)). at m k) (same_dialers l s w) ∙ dialers_kept log e l.dialers st.dialers (dials_less log e same) k;
  openings = λ k. ap (λ (m : List (ℕ × Opening)). at m k) (same_openings l s w) ∙ openings_kept log e l.openings st.openings same k;
  dropped = λ link t. ap (λ (m : List (ℕ × Unit {0})). is_some (at m link)) (same_dropped l s t w) ∙ (st.dropped link t ∙ sym (is_dropped-kept log e none link t));
  cut = λ link. ap (λ (m : List (ℕ × Unit {0})). is_some (at m link)) (same_cut l s w) ∙ cut_kept log e l st.cut (cuts_less log e same) link;
}

same_drops : (l : Links) (s : Side) (ds : List (ℕ × ℕ)) (os : List (ℕ × Opening)) → dropped_of (record l { dialers = ds; openings = os }) s ≡ dropped_of l s
same_drops l side.Out ds os = refl
same_drops l side.In ds os = refl

-- an entry that changes no direction, cuts no link and drops no end, where these are who dialed and between whom keys are exchanged after it
with_openings : (configs : List Config) (log : List Entry) (e : Entry) (l : Links) (ds : List (ℕ × ℕ)) (os : List (ℕ × Opening)) → LinksStand configs log l
    → ((s : Side) (link : ℕ) → line (log ++ e ∷ []) (queue.Link link s) ≡ line log (queue.Link link s))
    → ((k : ℕ) → at ds k ≡ dialer_of (log ++ e ∷ []) k) → ((k : ℕ) → at os k ≡ openings_of (log ++ e ∷ []) k) → TellsNone (told log) log e cut_kinds → DropsNone log e
    → LinksStand configs (log ++ e ∷ []) (record l { dialers = ds; openings = os })
with_openings configs log e l ds os st lines dials is cuts none = record {
  waits = λ s link. ap (λ w. waiting w link) (same_ways l s ds os) ∙ (st.waits s link ∙ sym (lines s link));
  dialers = dials;
  openings = is;
  dropped = λ link s. ap (λ (m : List (ℕ × Unit {0})). is_some (at m link)) (same_drops l s ds os) ∙ (st.dropped link s ∙ sym (is_dropped-kept log e none link s));
  cut = cut_kept log e l st.cut cuts;
}

-- the link of the entry's name is made, and keys are exchanged over it from then on
pub links_opened : (configs : List Config) (log : List Entry) (e : Entry) (l : Links) (o : Opening) → LinksStand configs log l
    → ((s : Side) (link : ℕ) → line (log ++ e ∷ []) (queue.Link link s) ≡ line log (queue.Link link s))
    → Opens log e o → DropsNone log e → LinksStand configs (log ++ e ∷ []) (opened_with (length log) o l)
links_opened configs log e l o st lines opened none =
    with_openings configs log e l (insert_entry nat_cmp l.dialers (length log) o.node) (insert_entry nat_cmp l.openings (length log) o) st lines
    (λ k. at-inserted (length log) k o.node l.dialers ∙ (ap (λ v. cond (k == length log) (Some o.node) v) (st.dialers k) ∙ sym (opened.dialers k)))
    (λ k. at-inserted (length log) k o l.openings ∙ (named (length log) k (Some o) l.openings (openings_of log) st.openings ∙ sym (opened.openings k)))
    opened.cuts none

-- an exchange of keys has ended
pub links_finished : (configs : List Config) (log : List Entry) (e : Entry) (l ls : Links) (link : ℕ) → LinksStand configs log l
    → ((s : Side) (j : ℕ) → line (log ++ e ∷ []) (queue.Link j s) ≡ line log (queue.Link j s))
    → Finishes log e link
    → ((k : ℕ) → at ls.openings k ≡ cond (k == link) None (at l.openings k)) → ls ≡ record l { openings = ls.openings }
    → DropsNone log e → LinksStand configs (log ++ e ∷ []) ls
links_finished configs log e l ls link st lines finished out rest none =
    subst (LinksStand configs (log ++ e ∷ [])) (sym rest)
    (with_openings configs log e l l.dialers ls.openings st lines (dialers_kept log e l.dialers st.dialers finished.dials)
    (λ k. out k ∙ (named link k None l.openings (openings_of log) st.openings ∙ sym (finished.openings k))) finished.cuts none)

-- a line without its first, by its code
first_gone : (log : List Entry) (p q : Queue) (x : Envelope) (rest : List Envelope) (b : Bool) → same_queue p q ≡ b → (b ≡ true → line log q ≡ line log p) → line log p ≡ x ∷ rest → cond b (drop 1 (line log q)) (line log q) ≡ cond b rest (line log q)
first_gone log p q x rest true e same first = ap (drop 1) (same refl ∙ first)
first_gone log p q x rest false e same first = refl

same_end : (s t : Side) (k j : ℕ) (log : List Entry) → same_queue (queue.Link k s) (queue.Link j t) ≡ true → line log (queue.Link j t) ≡ line log (queue.Link k s)
same_end side.Out side.Out k j log h = ap (λ i. line log (queue.Link i side.Out)) (let e : j ≡ k = grind (arith, nat_tests) in e)
same_end side.In side.In k j log h = ap (λ i. line log (queue.Link i side.In)) (let e : j ≡ k = grind (arith, nat_tests) in e)
same_end side.Out side.In k j log h = cc
same_end side.In side.Out k j log h = cc

-- the oldest frame of one direction is taken
pub links_taken : (configs : List Config) (log : List Entry) (e : Entry) (l : Links) (s : Side) (k : ℕ) (x : Envelope) (rest : List Envelope) → LinksStand configs log l → line log (queue.Link k s) ≡ x ∷ rest
    → ((t : Side) (j : ℕ) → line (log ++ e ∷ []) (queue.Link j t) ≡ cond (same_queue (queue.Link k s) (queue.Link j t)) rest (line log (queue.Link j t)))
    → OpensNone log e → DropsNone log e → LinksStand configs (log ++ e ∷ []) (with_way l s (popped_at (way_of l s) k))
links_taken configs log e l s k x rest st first lines kept none =
    with_way_kept configs log e l s (popped_at (way_of l s) k) st kept none
    (λ t j.
    changed l s t k j (popped_at (way_of l s) k) (drop 1) (λ i. waiting-popped_at k i (way_of l s))
    ∙ (ap (λ v. cond (same_queue (queue.Link k s) (queue.Link j t)) (drop 1 v) v) (st.waits t j)
    ∙ (first_gone log (queue.Link k s) (queue.Link j t) x rest (same_queue (queue.Link k s) (queue.Link j t)) refl (same_end s t k j log) first ∙ sym (lines t j))))

-- ---- a batch

-- what a batch puts
abbrev pub frames_put : ℕ → Side → List ((ℕ × ℕ) × Item) → List (Queue × Item)
frames_put link s fs = map (λ (f : (ℕ × ℕ) × Item). (queue.Link link s, f.1)) fs

pushed_frame : (b : Bool) (l rest : List Envelope) (x : Envelope) → cond b (cond b (l ++ x ∷ []) l ++ rest) (cond b (l ++ x ∷ []) l) ≡ cond b (l ++ x ∷ rest) l
pushed_frame true l rest x = append_assoc l (x ∷ []) rest
pushed_frame false l rest x = refl

nothing : (b : Bool) (l : List Envelope) → l ≡ cond b (l ++ []) l
nothing true l = sym (append-nil l)
nothing false l = refl

waiting-written : (entry k : ℕ) (s : Side) (p : ℕ) (fs : List ((ℕ × ℕ) × Item)) (w : List (ℕ × List Envelope)) (i : ℕ)
    → waiting (written_way entry k s p fs w) i ≡ cond (is_at (nat_cmp i) k) (waiting w i ++ placed entry p (frames_put k s fs)) (waiting w i)
waiting-written entry k s p [] w i = nothing (is_at (nat_cmp i) k) (waiting w i)
waiting-written entry k s p (f ∷ fs) w i =
    let x : Envelope = record { entry = entry; place = p; queue = queue.Link k s; item = f.1 } in
    waiting-written entry k s (p + 1) fs (pushed_at w k x) i
    ∙ (ap (λ l. cond (is_at (nat_cmp i) k) (l ++ placed entry (p + 1) (frames_put k s fs)) l) (waiting-pushed_at k i x w)
    ∙ pushed_frame (is_at (nat_cmp i) k) (waiting w i) (placed entry (p + 1) (frames_put k s fs)) x)

placed_in : (entry p k j : ℕ) (s t : Side) (fs : List ((ℕ × ℕ) × Item)) (b : Bool) → same_queue (queue.Link j t) (queue.Link k s) ≡ b
    → filter (stands_in (queue.Link j t)) (placed entry p (frames_put k s fs)) ≡ cond b (placed entry p (frames_put k s fs)) []
placed_in entry p k j s t [] true e = refl
placed_in entry p k j s t [] false e = refl
placed_in entry p k j s t (f ∷ fs) b e =
    let x : Envelope = record { entry = entry; place = p; queue = queue.Link k s; item = f.1 } in
    let rest = placed entry (p + 1) (frames_put k s fs) in
    ap (λ c. cond c (x ∷ filter (stands_in (queue.Link j t)) rest) (filter (stands_in (queue.Link j t)) rest)) e
    ∙ (ap (λ l. cond b (x ∷ l) l) (placed_in entry (p + 1) k j s t fs b e)
    ∙ (elim b as (λ c. cond c (x ∷ cond c rest []) (cond c rest []) ≡ cond c (x ∷ rest) []) [ true ↦ refl | false ↦ refl ]))

-- these frames are written to one direction
frames_written : (configs : List Config) (log : List Entry) (e : Entry) (l : Links) (s : Side) (k entry : ℕ) (fs : List ((ℕ × ℕ) × Item)) → LinksStand configs log l
    → ((t : Side) (j : ℕ) → line (log ++ e ∷ []) (queue.Link j t) ≡ line log (queue.Link j t) ++ filter (stands_in (queue.Link j t)) (placed entry 0 (frames_put k s fs)))
    → OpensNone log e → DropsNone log e → LinksStand configs (log ++ e ∷ []) (with_way l s (written_way entry k s 0 fs (way_of l s)))
frames_written configs log e l s k entry fs st lines kept none =
    with_way_kept configs log e l s (written_way entry k s 0 fs (way_of l s)) st kept none
    (λ t j.
    let put = placed entry 0 (frames_put k s fs) in
    let same = same_queue (queue.Link k s) (queue.Link j t) in
    changed l s t k j (written_way entry k s 0 fs (way_of l s)) (λ v. v ++ put) (λ i. waiting-written entry k s 0 fs (way_of l s) i)
    ∙ (ap (λ v. cond same (v ++ put) v) (st.waits t j)
    ∙ (longer same (line log (queue.Link j t)) put
    ∙ (ap (λ v. line log (queue.Link j t) ++ v) (sym (placed_in entry 0 k j s t fs same (same_queue-sym (queue.Link j t) (queue.Link k s)))) ∙ sym (lines t j)))))

-- a ping, as the first of the frames of a batch
abbrev ping_before : List ((ℕ × ℕ) × Item) → List ((ℕ × ℕ) × Item)
ping_before fs = ((0, 0), item.Frame None ping_frame) ∷ fs

-- a batch is written to one direction, with a ping before it where one is due
pub links_written : (configs : List Config) (log : List Entry) (e : Entry) (l : Links) (s : Side) (k entry : ℕ) (due : Bool) (fs : List ((ℕ × ℕ) × Item)) → LinksStand configs log l
    → ((t : Side) (j : ℕ) → line (log ++ e ∷ []) (queue.Link j t) ≡ line log (queue.Link j t) ++ filter (stands_in (queue.Link j t)) (placed entry 0 (ping_puts due (queue.Link k s) ++ frames_put k s fs)))
    → OpensNone log e → DropsNone log e → LinksStand configs (log ++ e ∷ []) (with_way l s (batch_way due entry k s fs (way_of l s)))
links_written configs log e l s k entry true fs st lines kept none = frames_written configs log e l s k entry (ping_before fs) st lines kept none
links_written configs log e l s k entry false fs st lines kept none = frames_written configs log e l s k entry fs st lines kept none
