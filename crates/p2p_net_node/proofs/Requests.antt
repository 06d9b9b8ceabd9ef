-- What was requested of nodes, after one more event.
use Rattle.std.proofs.Common.{◌≡◌, ℕ, ◌+◌, ◌<◌, ◌^◌, Bool, true, false, cond, List, [], ◌∷◌, ◌++◌, length, map, refl, ap, sym, subst, ◌∙◌, arith, append-nil, eqb-true, Option, Some, None}
use Rattle.std.specs.Prelude.{slice_get, slice_set, ◌==◌, ◌||◌, ◌&&◌, not, is_some, nat_lt}
use Rattle.std.proofs.lemmas.Bool.{and_parts, not-true}
use Rattle.std.proofs.lemmas.Bool.Decides.{nat_tests}
use Rattle.std.proofs.lemmas.List.{length-set}
use Rattle.p2p_log.specs.declared.config.Config.{Config}
use Rattle.p2p_log.specs.declared.entry.Entry.{Entry}
use Rattle.p2p_log.specs.declared.event.Event.{Event}
use Rattle.p2p_log.specs.declared.event.Rate.{Rate}
use Rattle.p2p_log.specs.declared.event.Act.{Act}
use Rattle.p2p_log.specs.declared.event.Act.TheVariants as act
use Rattle.p2p_log_rules.specs.Facts.{has_started, starts, registered, registers_at, with_capacity, capacity_for, capacity_in, sum_capacities}
use Rattle.p2p_log_rules.specs.Effect.{mailbox_size_at}
use Rattle.p2p_log_rules.specs.Valid.{is_quota, fits_usize}
use Rattle.p2p_log_rules.specs.Valid as valid
use Rattle.p2p_log_rules.proofs.Bools.{or_true, or_false, and_true, and_false}
use Rattle.p2p_log_rules.proofs.Facts.{has_started-append, registered-append}
use Rattle.p2p_net_channels.proofs.Registering.{capacity-last, sum_capacities-last}
use Rattle.p2p_net_queues.specs.Tables as table
use Rattle.p2p_net_node.specs.Places.{node_of}
use Rattle.p2p_net_node.specs.Requested.{nothing_requested, capacity_by, with_request, MayNote, IsRequested, AreRequested}
use Rattle.p2p_net_node.specs.declared.node.Node.{Node}
use Rattle.p2p_net_node.specs.declared.requested.Requested.{Requested}
use Rattle.p2p_net_node.proofs.Nodes.{slice_get-set, below}

-- ---- what valid input says of a channel that is asked for

pub record MayRegister (configs : List Config) (events : List Event) (c n : ℕ) (rate : Rate) : Type 0 where
  pub fresh : has_started events n ≡ false
  pub absent : capacity_in (registered configs events n) c ≡ None
  pub quota : is_quota rate ≡ true
  pub counted : capacity_for (slice_get configs n) rate < 2 ^ 64
  pub room : mailbox_size_at configs n + (sum_capacities (registered configs events n) + capacity_for (slice_get configs n) rate) < 2 ^ 64

counts : (k : ℕ) → fits_usize k ≡ true → k < 2 ^ 64
counts k h = grind (arith, nat_tests)

no_capacity : (o : Option ℕ) → is_some o ≡ false → o ≡ None
no_capacity None h = refl
no_capacity (Some k) h = cc

pub may_register-is : (configs : List Config) (events : List Event) (c n : ℕ) (rate : Rate) → valid.may_register configs events c n rate ≡ true → MayRegister configs events c n rate
may_register-is configs events c n rate may =
    let capacity = capacity_for (slice_get configs n) rate in
    let regs = registered configs events n in
    let halves = and_parts ((not (has_started events n) && not (is_some (capacity_in regs c))) && is_quota rate) (fits_usize capacity && fits_usize (mailbox_size_at configs n + (sum_capacities regs + capacity))) may in
    let named = and_parts (not (has_started events n) && not (is_some (capacity_in regs c))) (is_quota rate) halves.0 in
    let fresh = and_parts (not (has_started events n)) (not (is_some (capacity_in regs c))) named.0 in
    let fit = and_parts (fits_usize capacity) (fits_usize (mailbox_size_at configs n + (sum_capacities regs + capacity))) halves.1 in
    record {
      fresh = not-true (has_started events n) fresh.0;
      absent = no_capacity (capacity_in regs c) (not-true (is_some (capacity_in regs c)) fresh.1);
      quota = named.1;
      counted = counts capacity fit.0;
      room = counts (mailbox_size_at configs n + (sum_capacities regs + capacity)) fit.1;
    }

pub sum_below : (m t c total k : ℕ) → total ≡ t → k ≡ c → m + (t + c) < 2 ^ 64 → total + k < 2 ^ 64
sum_below m t c total k a b h = grind arith

-- ---- before the first event

nothing_is : (configs : List Config) (n : ℕ) → IsRequested configs [] n nothing_requested
unfolding has_started registered
nothing_is configs n = record { started = refl; capacities = λ c. refl; total = refl }

-- of no node anything was requested by no events
pub requested_none : (configs : List Config) (rs : List Requested) → length rs ≡ length configs → ((n : ℕ) (r : Requested) → slice_get rs n ≡ Some r → r ≡ nothing_requested) → AreRequested configs [] rs
requested_none configs rs long each = record { long = long; each = λ n r there. subst (IsRequested configs [] n) (sym (each n r there)) (nothing_is configs n) }

-- ---- after one more event

-- whether it starts, and the channels that it registers at the node
IsRequested-more :
    (configs : List Config) (events : List Event) (ev : Event) (n : ℕ) (old new : Requested) (b : Bool) (l : List (ℕ × ℕ)) → IsRequested configs events n old → starts n ev.act ≡ b → registers_at configs n ev.act ≡ l
    → new.started ≡ (old.started || b) → ((c : ℕ) → table.at new.capacities c ≡ capacity_in (registered configs events n ++ l) c) → new.total ≡ sum_capacities (registered configs events n ++ l)
    → IsRequested configs (events ++ ev ∷ []) n new
IsRequested-more configs events ev n old new b l q start more started capacities total =
    let all : registered configs (events ++ ev ∷ []) n ≡ registered configs events n ++ l = registered-append configs events ev n ∙ ap (λ m. registered configs events n ++ m) more in
    record {
      started = started ∙ (ap (λ a. a || b) q.started ∙ (ap (λ a. has_started events n || a) (sym start) ∙ sym (has_started-append events ev n)));
      capacities = λ c. capacities c ∙ ap (λ m. capacity_in m c) (sym all);
      total = total ∙ ap sum_capacities (sym all);
    }

-- no channel more
IsRequested-started : (configs : List Config) (events : List Event) (ev : Event) (n : ℕ) (old : Requested) (b a : Bool) → IsRequested configs events n old → starts n ev.act ≡ b → registers_at configs n ev.act ≡ [] → a ≡ (old.started || b)
    → IsRequested configs (events ++ ev ∷ []) n (record old { started = a })
IsRequested-started configs events ev n old b a q start none is =
    let same : registered configs events n ≡ registered configs events n ++ [] = sym (append-nil (registered configs events n)) in
    IsRequested-more configs events ev n old (record old { started = a }) b [] q start none is (λ c. q.capacities c ∙ ap (λ m. capacity_in m c) same) (q.total ∙ ap sum_capacities same)

-- nothing more
IsRequested-kept : (configs : List Config) (events : List Event) (ev : Event) (n : ℕ) (r : Requested) → IsRequested configs events n r → starts n ev.act ≡ false → registers_at configs n ev.act ≡ [] → IsRequested configs (events ++ ev ∷ []) n r
IsRequested-kept configs events ev n r q start none = IsRequested-started configs events ev n r false r.started q start none (sym (or_false r.started))

-- an act requests nothing of a node that it does not name
starts_elsewhere : (log : List Entry) (a : Act) (n m : ℕ) → n ≡ node_of log a → (n == m) ≡ false → starts m a ≡ false
starts_elsewhere log (act.Start k) n m here ne = ap (λ i. i == m) (sym here) ∙ ne
starts_elsewhere log (act.Stop by_start k) n m here ne = ap (λ b. by_start && b) (ap (λ i. i == m) (sym here) ∙ ne) ∙ and_false by_start
starts_elsewhere log _ n m here ne = refl

registers_elsewhere : (configs : List Config) (log : List Entry) (a : Act) (n m : ℕ) → n ≡ node_of log a → (n == m) ≡ false → registers_at configs m a ≡ []
registers_elsewhere configs log (act.Register c k rate) n m here ne = ap (λ b. map (with_capacity configs m) (cond b ((c, rate) ∷ []) [])) (ap (λ i. i == m) (sym here) ∙ ne)
registers_elsewhere configs log _ n m here ne = refl

named_is : (n k : ℕ) → n ≡ k → (k == n) ≡ true
named_is n k here = grind (arith, nat_tests)

-- a channel that is asked for at the node
registers_here : (configs : List Config) (n m c k : ℕ) (rate : Rate) → n ≡ m → k ≡ capacity_for (slice_get configs n) rate → registers_at configs n (act.Register c m rate) ≡ (c, k) ∷ []
registers_here configs n m c k rate here amount = ap (λ b. map (with_capacity configs n) (cond b ((c, rate) ∷ []) [])) (named_is n m here) ∙ ap (λ j. (c, j) ∷ []) (sym amount)

module _ (configs : List Config) (log : List Entry) (events : List Event) (n : ℕ) (x : Node) (amount : (rate : Rate) → capacity_by x rate ≡ capacity_for (slice_get configs n) rate) where
  -- what the node's own requests are after an event that names it
  noted : (ev : Event) (r : Requested) (a : Act) → ev.act ≡ a → n ≡ node_of log a → IsRequested configs events n r → valid.may_act configs events a ≡ true → IsRequested configs (events ++ ev ∷ []) n (with_request x a r)
  noted ev r (act.Register c m rate) is here q may =
      let k = capacity_by x rate in
      let asked : MayRegister configs events c n rate =
      may_register-is configs events c n rate (ap (λ i. valid.may_register configs events c i rate) here ∙ (and_parts (nat_lt m (length configs)) (valid.may_register configs events c m rate) may).1)
      in
      IsRequested-more configs events ev n r (with_request x (act.Register c m rate) r) false ((c, k) ∷ []) q (ap (starts n) is) (ap (registers_at configs n) is ∙ registers_here configs n m c k rate here (amount rate))
      (sym (or_false r.started))
      (λ d. capacity-last r.capacities (registered configs events n) c k d q.capacities (q.capacities c ∙ asked.absent))
      (ap (λ t. t + k) q.total ∙ sym (sum_capacities-last (registered configs events n) c k))
  noted ev r (act.Start m) is here q may = IsRequested-started configs events ev n r true true q (ap (starts n) is ∙ named_is n m here) (ap (registers_at configs n) is) (sym (or_true r.started))
  noted ev r (act.Stop by_start m) is here q may =
      IsRequested-started configs events ev n r by_start (r.started || by_start) q (ap (starts n) is ∙ (ap (λ b. by_start && b) (named_is n m here) ∙ and_true by_start)) (ap (registers_at configs n) is) refl
  noted ev r a is here q may = IsRequested-kept configs events ev n r q (ap (starts n) is) (ap (registers_at configs n) is)

  -- and what is noted can be counted
  pub may_note : (a : Act) (r : Requested) → n ≡ node_of log a → IsRequested configs events n r → valid.may_act configs events a ≡ true → MayNote x a r
  may_note (act.Register c m rate) r here q may =
      let asked : MayRegister configs events c n rate =
      may_register-is configs events c n rate (ap (λ i. valid.may_register configs events c i rate) here ∙ (and_parts (nat_lt m (length configs)) (valid.may_register configs events c m rate) may).1)
      in (
        subst (λ k. k < 2 ^ 64) (sym (amount rate)) asked.counted,
        sum_below (mailbox_size_at configs n) (sum_capacities (registered configs events n)) (capacity_for (slice_get configs n) rate) r.total (capacity_by x rate) q.total (amount rate) asked.room,
      )
  may_note a r here q may = tt

  -- what an event requests of the node that it names is noted
  pub requests_noted : (rs : List Requested) (ev : Event) (r : Requested) → n ≡ node_of log ev.act → slice_get rs n ≡ Some r → AreRequested configs events rs → valid.may_act configs events ev.act ≡ true
      → AreRequested configs (events ++ ev ∷ []) (slice_set rs n (with_request x ev.act r))
  requests_noted rs ev r here there q may = record {
    long = length-set rs n (with_request x ev.act r) ∙ q.long;
    each = λ m s is. by m s (n == m) refl (sym (slice_get-set rs n m (with_request x ev.act r) (below rs n r there)) ∙ is);
  }
    where
      by : (m : ℕ) (s : Requested) (b : Bool) → (n == m) ≡ b → cond b (Some (with_request x ev.act r)) (slice_get rs m) ≡ Some s → IsRequested configs (events ++ ev ∷ []) m s
      by m s true same is =
          let it : with_request x ev.act r ≡ s = cc in
          subst (λ z. IsRequested configs (events ++ ev ∷ []) m z) it (subst (λ i. IsRequested configs (events ++ ev ∷ []) i (with_request x ev.act r)) (eqb-true n m same) (noted ev r ev.act refl here (q.each n r there) may))
      by m s false ne is = IsRequested-kept configs events ev m s (q.each m s is) (starts_elsewhere log ev.act n m here ne) (registers_elsewhere configs log ev.act n m here ne)
