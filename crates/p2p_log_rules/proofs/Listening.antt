-- What the gates of a node's listener go by, after one more entry.
use Rattle.std.proofs.Common.{◌≡◌, ℕ, ◌≤◌, Bool, true, false, cond, max, List, [], ◌∷◌, ◌++◌, length, refl, ap, sym, subst, ◌∙◌, arith, append_assoc, append-nil, eq-eqb, Option, Some, None}
use Rattle.std.proofs.Math.Path.{fun_ext}
use Rattle.std.specs.Prelude.{◌==◌, ◌&&◌, not, flat_map, unwrap_or}
use Rattle.std.specs.BTreeMap.{is_at}
use Rattle.std.specs.List.{list_any}
use Rattle.std.proofs.lemmas.Grind.{flat_map-append}
use Rattle.p2p_address.specs.Addresses.{subnet_of}
use Rattle.p2p_address.specs.declared.ip.IpAddr.{IpAddr}
use Rattle.p2p_runtime.specs.QuotaKeys.{with_admission}
use Rattle.p2p_runtime.specs.QuotaLaw.{admits}
use Rattle.p2p_tracker_calls.specs.Gates.{GateRules, Known, limited_reply, is_private, is_unregistered, turned_away, first_told, unless_refused, reply_to, known_after}
use Rattle.p2p_tracker_calls.specs.Heard.{ip_cmp}
use Rattle.p2p_tracker_calls.specs.Quotas.{Rates, Passed, verdict, passed_after}
use Rattle.p2p_tracker_calls.specs.declared.gates.Reply.TheVariants as gates
use Rattle.p2p_tracker_calls.specs.declared.gates.Reply.{Reply as Gates}
use Rattle.p2p_log.specs.declared.config.Config.{Config}
use Rattle.p2p_log.specs.declared.item.Item.{Item}
use Rattle.p2p_log.specs.declared.item.Item.TheVariants as item
use Rattle.p2p_log.specs.declared.entry.Entry.{Entry}
use Rattle.p2p_log.specs.declared.entry.Reply.{Reply}
use Rattle.p2p_log.specs.declared.entry.Reply.TheVariants as reply
use Rattle.p2p_log.specs.declared.event.Event.{Event}
use Rattle.p2p_log.specs.declared.event.Act.{Act}
use Rattle.p2p_log.specs.declared.event.Act.TheVariants as act
use Rattle.p2p_log_rules.specs.Facts.{events_of, latest_moment, taken, state_from}
use Rattle.p2p_log_rules.specs.Judged.{is_counted, passed_address, passed_subnet}
use Rattle.p2p_log_rules.specs.Listening.{hears, passes_address, passes_subnet, comes_to_quotas, known_in, known_of, gate_rules_at}
use Rattle.p2p_log_rules.specs.Tellings.{Telling, last_or}
use Rattle.p2p_log_rules.specs.Tellings as telling
use Rattle.p2p_log_rules.specs.Told.{admitted_as, begun_tells, arrival_tells, judged_tells, heard_tells, gates_tell, act_tells, tells, told_by, told}
use Rattle.p2p_log_rules.proofs.Facts.{events_of-append}
use Rattle.p2p_log_rules.proofs.TellingKinds.{Kind}
use Rattle.p2p_log_rules.proofs.TellingKinds as kind
use Rattle.p2p_log_rules.proofs.Families.{telling_kind, kinds_of, has, are_apart, untold_of}
use Rattle.p2p_log_rules.proofs.Others.{none_listed, last_kept}
use Rattle.p2p_log_rules.proofs.LinkTells.{tells_act}
use Rattle.p2p_log_rules.proofs.Told.{listener_quiet}
use Rattle.p2p_log_rules.proofs.Tellings.{told-append, last_or-append, append_quiet}

-- ---- after more tellings

-- the kinds of tellings of what a listener took, and what it was told
abbrev pub hearing_kinds : List Kind
hearing_kinds = kind.update_taken ∷ kind.arrival_judged ∷ []

-- such a telling of the listener of a node
abbrev pub is_hearing : ℕ → Telling → Bool
is_hearing n (telling.update_taken m addresses) = m == n
is_hearing n (telling.arrival_judged m at from g) = m == n
is_hearing n _ = false

of_kinds : (n : ℕ) (t : Telling) → has hearing_kinds (telling_kind t) ≡ false → is_hearing n t ≡ false
of_kinds n (telling.update_taken m addresses) h = cc
of_kinds n (telling.arrival_judged m at from g) h = cc
of_kinds n _ h = refl

-- field by field
abbrev fields : List IpAddr → (IpAddr → List ℕ) → (IpAddr → List ℕ) → ℕ → Known
fields a p r x = record { addresses = a; passed = record { addresses = p; subnets = r }; latest = x }

known_by_fields : (a b : List IpAddr) (p q r s : IpAddr → List ℕ) (x y : ℕ) → a ≡ b → ((ip : IpAddr) → p ip ≡ q ip) → ((ip : IpAddr) → r ip ≡ s ip) → x ≡ y → fields a p r x ≡ fields b q s y
known_by_fields a b p q r s x y ab pq rs xy =
    ap (λ l. fields l p r x) ab ∙ (ap (λ f. fields b f r x) (fun_ext pq) ∙ (ap (λ f. fields b q f x) (fun_ext rs) ∙ ap (fields b q s) xy))

module _ (n : ℕ) where
  no_update : (t : Telling) → is_hearing n t ≡ false → hears n t ≡ None
  no_update (telling.update_taken m addresses) h = ap (λ b. cond b (Some addresses) None) h
  no_update _ h = refl

  no_address : (ip : IpAddr) (t : Telling) → is_hearing n t ≡ false → passes_address n ip t ≡ []
  no_address ip (telling.arrival_judged m at from g) h = ap (λ b. cond b (cond (is_at (ip_cmp from) ip && passed_address g) (at ∷ []) []) []) h
  no_address ip _ h = refl

  no_subnet : (ip : IpAddr) (t : Telling) → is_hearing n t ≡ false → passes_subnet n ip t ≡ []
  no_subnet ip (telling.arrival_judged m at from g) h = ap (λ b. cond b (cond (is_at (ip_cmp (subnet_of from)) ip && passed_subnet g) (at ∷ []) []) []) h
  no_subnet ip _ h = refl

  none_comes : (t : Telling) → is_hearing n t ≡ false → comes_to_quotas n t ≡ None
  none_comes (telling.arrival_judged m at from g) h = ap (λ b. cond b (cond (is_counted g) (Some at) None) None) h
  none_comes _ h = refl

  -- what is known, and what is told after
  abbrev known_told : List Telling → Known → Known
  known_told us k = record {
    addresses = last_or k.addresses (hears n) us;
    passed = record { addresses = λ ip. k.passed.addresses ip ++ flat_map (passes_address n ip) us; subnets = λ ip. k.passed.subnets ip ++ flat_map (passes_subnet n ip) us };
    latest = last_or k.latest (comes_to_quotas n) us;
  }

  known_in-more : (ts us : List Telling) → known_in (ts ++ us) n ≡ known_told us (known_in ts n)
  known_in-more ts us =
      let k : Known = known_told us (known_in ts n) in
      known_by_fields (last_or [] (hears n) (ts ++ us)) k.addresses (λ ip. flat_map (passes_address n ip) (ts ++ us)) k.passed.addresses
      (λ ip. flat_map (passes_subnet n ip) (ts ++ us)) k.passed.subnets (last_or 0 (comes_to_quotas n) (ts ++ us)) k.latest
      (last_or-append [] (hears n) ts us) (λ ip. flat_map-append (passes_address n ip) ts us) (λ ip. flat_map-append (passes_subnet n ip) ts us) (last_or-append 0 (comes_to_quotas n) ts us)

  -- where nothing is told of it
  known_same : (us : List Telling) (k : Known) → list_any (is_hearing n) us ≡ false → known_told us k ≡ k
  known_same us k h =
      let t : Known = known_told us k in
      known_by_fields t.addresses k.addresses t.passed.addresses k.passed.addresses t.passed.subnets k.passed.subnets t.latest k.latest
      (last_kept (is_hearing n) (hears n) no_update k.addresses us h)
      (λ ip. ap (λ l. k.passed.addresses ip ++ l) (none_listed (is_hearing n) (passes_address n ip) (no_address ip) us h) ∙ append-nil (k.passed.addresses ip))
      (λ ip. ap (λ l. k.passed.subnets ip ++ l) (none_listed (is_hearing n) (passes_subnet n ip) (no_subnet ip) us h) ∙ append-nil (k.passed.subnets ip))
      (last_kept (is_hearing n) (comes_to_quotas n) none_comes k.latest us h)

  known_others : (ts us : List Telling) → list_any (is_hearing n) us ≡ false → known_in (ts ++ us) n ≡ known_in ts n
  known_others ts us h = known_in-more ts us ∙ known_same us (known_in ts n) h

-- ---- one arrival

-- what is known once one from this address was told this
abbrev known_judged : IpAddr → ℕ → Gates → Known → Known
known_judged ip at g k = record {
  addresses = k.addresses;
  passed = record {
    addresses = λ q. k.passed.addresses q ++ cond (is_at (ip_cmp ip) q && passed_address g) (at ∷ []) [];
    subnets = λ q. k.passed.subnets q ++ cond (is_at (ip_cmp (subnet_of ip)) q && passed_subnet g) (at ∷ []) [];
  };
  latest = cond (is_counted g) at k.latest;
}

-- one that a quota refuses is not charged there
refused : (here : Bool) (at : ℕ) (l : List ℕ) → l ++ cond (here && false) (at ∷ []) [] ≡ l
refused true at l = append-nil l
refused false at l = append-nil l

passed : (here : Bool) (at : ℕ) (l : List ℕ) → l ++ cond (here && true) (at ∷ []) [] ≡ cond here (l ++ at ∷ []) l
passed true at l = refl
passed false at l = append-nil l

module _ (rates : Rates) (k : Known) (ip : IpAddr) (at : ℕ) where
  -- one that an earlier gate refuses
  turned : (g : Gates) → passed_address g ≡ false → passed_subnet g ≡ false → is_counted g ≡ false → known_judged ip at g k ≡ k
  turned g no_address no_subnet no_count =
      let j : Known = known_judged ip at g k in
      known_by_fields j.addresses k.addresses j.passed.addresses k.passed.addresses j.passed.subnets k.passed.subnets j.latest k.latest refl
      (λ q. ap (λ b. k.passed.addresses q ++ cond (is_at (ip_cmp ip) q && b) (at ∷ []) []) no_address ∙ refused (is_at (ip_cmp ip) q) at (k.passed.addresses q))
      (λ q. ap (λ b. k.passed.subnets q ++ cond (is_at (ip_cmp (subnet_of ip)) q && b) (at ∷ []) []) no_subnet ∙ refused (is_at (ip_cmp (subnet_of ip)) q) at (k.passed.subnets q))
      (ap (λ b. cond b at k.latest) no_count)

  abbrev admits_address : Bool
  admits_address = admits rates.address (k.passed.addresses ip) at

  abbrev admits_subnet : Bool
  admits_subnet = admits rates.subnet (k.passed.subnets (subnet_of ip)) at

  -- what the reply shows of both quotas
  shows_address : (a s place : Bool) → passed_address (limited_reply (not a, not s) place) ≡ a
  shows_address true true true = refl
  shows_address true true false = refl
  shows_address true false place = refl
  shows_address false s place = refl

  shows_subnet : (a s place : Bool) → passed_subnet (limited_reply (not a, not s) place) ≡ s
  shows_subnet true true true = refl
  shows_subnet true true false = refl
  shows_subnet true false place = refl
  shows_subnet false true place = refl
  shows_subnet false false place = refl

  shows_count : (a s place : Bool) → is_counted (limited_reply (not a, not s) place) ≡ true
  shows_count true true true = refl
  shows_count true true false = refl
  shows_count true false place = refl
  shows_count false s place = refl

  charge : (past : IpAddr → List ℕ) (who q : IpAddr) (b : Bool) → past q ++ cond (is_at (ip_cmp who) q && b) (at ∷ []) [] ≡ cond b (with_admission ip_cmp past who at q) (past q)
  charge past who q true = passed (is_at (ip_cmp who) q) at (past q)
  charge past who q false = refused (is_at (ip_cmp who) q) at (past q)

  charge_all : (past : IpAddr → List ℕ) (who q : IpAddr) (b : Bool) → cond b (with_admission ip_cmp past who at q) (past q) ≡ (cond b (with_admission ip_cmp past who at) past) q
  charge_all past who q true = refl
  charge_all past who q false = refl

  -- one that comes to them is charged where it is not refused
  counted : (place : Bool) → known_judged ip at (limited_reply (verdict rates k.passed ip at) place) k ≡ record { addresses = k.addresses; passed = passed_after rates k.passed ip at; latest = at }
  counted place =
      let g : Gates = limited_reply (verdict rates k.passed ip at) place in
      let j : Known = known_judged ip at g k in
      let p : Passed = passed_after rates k.passed ip at in
      known_by_fields j.addresses k.addresses j.passed.addresses p.addresses j.passed.subnets p.subnets j.latest at refl
      (λ q. ap (λ b. k.passed.addresses q ++ cond (is_at (ip_cmp ip) q && b) (at ∷ []) []) (shows_address admits_address admits_subnet place)
      ∙ (charge k.passed.addresses ip q admits_address ∙ charge_all k.passed.addresses ip q admits_address))
      (λ q. ap (λ b. k.passed.subnets q ++ cond (is_at (ip_cmp (subnet_of ip)) q && b) (at ∷ []) []) (shows_subnet admits_address admits_subnet place)
      ∙ (charge k.passed.subnets (subnet_of ip) q admits_subnet ∙ charge_all k.passed.subnets (subnet_of ip) q admits_subnet))
      (ap (λ b. cond b at k.latest) (shows_count admits_address admits_subnet place))

  -- by the first gate that refuses it, where one does
  gated : (private unregistered place : Bool)
      → known_judged ip at (first_told (cond private (Some gates.Private) (cond unregistered (Some gates.Unregistered) None)) (limited_reply (verdict rates k.passed ip at) place)) k
      ≡ unless_refused (cond private (Some gates.Private) (cond unregistered (Some gates.Unregistered) None)) k (record { addresses = k.addresses; passed = passed_after rates k.passed ip at; latest = at })
  gated true unregistered place = turned gates.Private refl refl refl
  gated false true place = turned gates.Unregistered refl refl refl
  gated false false place = counted place

-- an arrival that was told what the rules say, at a moment that is not before the last
judged : (rules : GateRules) (k : Known) (ip : IpAddr) (at : ℕ) (place : Bool) → k.latest ≤ at → known_judged ip at (reply_to rules k place ip at) k ≡ known_after rules k ip at
judged rules k ip at place late =
    let now : max k.latest at ≡ at = omega (arith, late) in
    let private : Bool = is_private rules ip in
    let unregistered : Bool = is_unregistered rules k.addresses ip in
    let gate : Option Gates = turned_away rules k.addresses ip in
    ap (λ t. known_judged ip at (first_told gate (limited_reply (verdict rules.rates k.passed ip t) place)) k) now
    ∙ (gated rules.rates k ip at private unregistered place
    ∙ ap (λ t. unless_refused gate k (record { addresses = k.addresses; passed = passed_after rules.rates k.passed ip t; latest = t })) (sym now))

-- ---- a step of the listener

-- where it took an arrival, it told it what the rules say, at a moment that is not before the last that came to the quotas
abbrev pub IsJudged : GateRules → Known → ℕ → Reply → List Item → Type 0
IsJudged rules k at r (item.Arrival from key link ∷ items) = (k.latest ≤ at) × ((place : Bool) × (r ≡ reply.Gates (reply_to rules k place from.ip at)))
IsJudged rules k at r _ = Unit {0}

-- what is known once this was taken at a moment: addresses, or an arrival, which is held against the quotas where it comes to them
abbrev pub took_known : GateRules → ℕ → List Item → Known → Known
took_known rules at (item.Addresses addresses ∷ items) k = record k { addresses = addresses }
took_known rules at (item.Arrival from key link ∷ items) k = known_after rules k from.ip at
took_known rules at _ k = k

module _ (n at : ℕ) (k : Known) where
  abbrev t_update : List IpAddr → Known
  t_update addresses = known_told n (telling.update_taken n addresses ∷ []) k

  updated : (addresses : List IpAddr) → known_told n (telling.update_taken n addresses ∷ []) k ≡ cond (n == n) (record k { addresses = addresses }) k
  updated addresses =
      let t : Known = t_update addresses in
      known_by_fields t.addresses (unwrap_or (cond (n == n) (Some addresses) None) k.addresses) t.passed.addresses k.passed.addresses t.passed.subnets k.passed.subnets t.latest k.latest
      refl (λ q. append-nil (k.passed.addresses q)) (λ q. append-nil (k.passed.subnets q)) refl
      ∙ by (n == n)
    where
      by : (b : Bool) → record { addresses = unwrap_or (cond b (Some addresses) None) k.addresses; passed = k.passed; latest = k.latest } ≡ cond b (record k { addresses = addresses }) k
      by true = refl
      by false = refl

  told_arrival : (from : IpAddr) (g : Gates) → known_told n (telling.arrival_judged n at from g ∷ []) k ≡ cond (n == n) (known_judged from at g k) k
  told_arrival from g =
      let t : Known = known_told n (telling.arrival_judged n at from g ∷ []) k in
      known_by_fields t.addresses k.addresses
      t.passed.addresses (λ q. k.passed.addresses q ++ cond (n == n) (cond (is_at (ip_cmp from) q && passed_address g) (at ∷ []) []) [])
      t.passed.subnets (λ q. k.passed.subnets q ++ cond (n == n) (cond (is_at (ip_cmp (subnet_of from)) q && passed_subnet g) (at ∷ []) []) [])
      t.latest (unwrap_or (cond (n == n) (cond (is_counted g) (Some at) None) None) k.latest)
      refl (λ q. ap (λ l. k.passed.addresses q ++ l) (append-nil (cond (n == n) (cond (is_at (ip_cmp from) q && passed_address g) (at ∷ []) []) [])))
      (λ q. ap (λ l. k.passed.subnets q ++ l) (append-nil (cond (n == n) (cond (is_at (ip_cmp (subnet_of from)) q && passed_subnet g) (at ∷ []) []) [])))
      refl
      ∙ by (n == n)
    where
      counts : (b : Bool) → unwrap_or (cond b (Some at) None) k.latest ≡ cond b at k.latest
      counts true = refl
      counts false = refl

      by : (b : Bool)
          → record {
            addresses = k.addresses;
            passed = record {
              addresses = λ q. k.passed.addresses q ++ cond b (cond (is_at (ip_cmp from) q && passed_address g) (at ∷ []) []) [];
              subnets = λ q. k.passed.subnets q ++ cond b (cond (is_at (ip_cmp (subnet_of from)) q && passed_subnet g) (at ∷ []) []) [];
            };
            latest = unwrap_or (cond b (cond (is_counted g) (Some at) None) None) k.latest;
          }
          ≡ cond b (known_judged from at g k) k
      by true = let j : Known = known_judged from at g k in ap (λ t. record j { latest = t }) (counts (is_counted g))
      by false =
          known_by_fields k.addresses k.addresses (λ q. k.passed.addresses q ++ []) k.passed.addresses (λ q. k.passed.subnets q ++ []) k.passed.subnets k.latest k.latest
          refl (λ q. append-nil (k.passed.addresses q)) (λ q. append-nil (k.passed.subnets q)) refl

  heard : (rules : GateRules) (r : Reply) (items : List Item) → IsJudged rules k at r items → known_told n (heard_tells n at r items) k ≡ took_known rules at items k
  heard rules r (item.Addresses addresses ∷ items) h = updated addresses ∙ ap (λ b. cond b (record k { addresses = addresses }) k) (eq-eqb n n refl)
  heard rules r (item.Arrival from key link ∷ items) h =
      let g : Gates = reply_to rules k h.1.0 from.ip at in
      ap (λ a. known_told n (judged_tells n at from.ip a) k) h.1.1
      ∙ (told_arrival from.ip g ∙ (ap (λ b. cond b (known_judged from.ip at g k) k) (eq-eqb n n refl) ∙ judged rules k from.ip at h.1.0 h.0))
  heard rules r _ h = known_same n [] k refl

-- what a step of the listener tells before that is of other things
abbrev others_told : ℕ → ℕ → ℕ → Reply → List Item → List Telling
others_told m name at r items = arrival_tells m (admitted_as name r) items ++ (begun_tells m at (admitted_as name r) items ++ gates_tell r items)

others_quiet : (n m name at : ℕ) (r : Reply) (items : List Item) → list_any (is_hearing n) (others_told m name at r items) ≡ false
others_quiet n m name at r items = listener_quiet (is_hearing n) name at m r items (record { took = λ link handshake. refl; begun = λ from key link. refl; drops = λ link. refl })

module _ (configs : List Config) (log : List Entry) (e : Entry) (n : ℕ) where
  -- an entry that tells nothing of it leaves it alone
  pub known_of-kept : list_any (is_hearing n) (tells (told log) log e) ≡ false → known_of configs (log ++ e ∷ []) n ≡ known_of configs log n
  unfolding known_of
  known_of-kept none = ap (λ l. known_in l n) (told-append log e) ∙ known_others n (told log) (tells (told log) log e) none

  -- as where its act tells of others
  pub known_of-apart : are_apart (kinds_of e.event.act) hearing_kinds ≡ true → known_of configs (log ++ e ∷ []) n ≡ known_of configs log n
  known_of-apart apart = known_of-kept (untold_of (is_hearing n) hearing_kinds (of_kinds n) (told log) log e apart)

  -- a step of the listener
  pub known_of-listened : e.event.act ≡ act.Listener n → IsJudged (gate_rules_at configs n) (known_of configs log n) e.event.at e.reply (taken log e)
      → known_of configs (log ++ e ∷ []) n ≡ took_known (gate_rules_at configs n) e.event.at (taken log e) (known_of configs log n)
  unfolding known_of
  known_of-listened acts h =
      let ts : List Telling = told log in
      let first : List Telling = others_told n (length log) e.event.at e.reply (taken log e) in
      let after : List Telling = heard_tells n e.event.at e.reply (taken log e) in
      ap (λ l. known_in l n) (told-append log e)
      ∙ (ap (λ us. known_in (ts ++ us) n) (tells_act ts log e (act.Listener n) acts)
      ∙ (ap (λ l. known_in l n) (sym (append_assoc ts first after))
      ∙ (known_in-more n (ts ++ first) after
      ∙ (ap (known_told n after) (known_others n ts first (others_quiet n n (length log) e.event.at e.reply (taken log e))) ∙ heard n e.event.at (known_in ts n) (gate_rules_at configs n) e.reply (taken log e) h))))

  -- nor does one that took nothing
  pub known_of-untaken : taken log e ≡ [] → known_of configs (log ++ e ∷ []) n ≡ known_of configs log n
  known_of-untaken none = by e.event.act refl
    where
      by : (a : Act) → e.event.act ≡ a → known_of configs (log ++ e ∷ []) n ≡ known_of configs log n
      by (act.Listener m) acts =
          known_of-kept
          (ap (list_any (is_hearing n)) (tells_act (told log) log e (act.Listener m) acts)
          ∙ append_quiet (is_hearing n) (others_told m (length log) e.event.at e.reply (taken log e)) (heard_tells m e.event.at e.reply (taken log e)) (others_quiet n m (length log) e.event.at e.reply (taken log e))
          (ap (λ i. list_any (is_hearing n) (heard_tells m e.event.at e.reply i)) none))
      by a acts = known_of-apart (ap (λ b. are_apart (kinds_of b) hearing_kinds) acts)

-- ---- the last arrival that came to the quotas is not after the log

latest_moment-more : (es : List Event) (v : Event) → latest_moment (es ++ v ∷ []) ≡ max (latest_moment es) v.at
latest_moment-more [] v = omega arith
latest_moment-more (u ∷ es) v = let rest = latest_moment-more es v in omega arith

module _ (n : ℕ) where
  comes_by : (ts : List Telling) (log : List Entry) (e : Entry) (x : ℕ) → last_or x (comes_to_quotas n) (tells ts log e) ≤ max x e.event.at
  unfolding tells
  comes_by ts log e x = by e.event.act refl
    where
      kept : (us : List Telling) → list_any (is_hearing n) us ≡ false → last_or x (comes_to_quotas n) us ≤ max x e.event.at
      kept us h = subst (λ y. y ≤ max x e.event.at) (sym (last_kept (is_hearing n) (comes_to_quotas n) (none_comes n) x us h)) (omega arith)

      one : (here counted : Bool) → unwrap_or (cond here (cond counted (Some e.event.at) None) None) x ≤ max x e.event.at
      one true true = omega arith
      one true false = omega arith
      one false counted = omega arith

      judge : (m : ℕ) (from : IpAddr) (r : Reply) → last_or x (comes_to_quotas n) (judged_tells m e.event.at from r) ≤ max x e.event.at
      judge m from (reply.Gates g) = one (m == n) (is_counted g)
      judge m from _ = kept [] refl

      hear : (m : ℕ) (r : Reply) (items : List Item) → last_or x (comes_to_quotas n) (heard_tells m e.event.at r items) ≤ max x e.event.at
      hear m r (item.Addresses addresses ∷ items) = omega arith
      hear m r (item.Arrival from key link ∷ items) = judge m from.ip r
      hear m r _ = omega arith

      by : (a : Act) → e.event.act ≡ a → last_or x (comes_to_quotas n) (tells ts log e) ≤ max x e.event.at
      by (act.Listener m) is =
          let first : List Telling = others_told m (length log) e.event.at e.reply (taken log e) in
          let after : List Telling = heard_tells m e.event.at e.reply (taken log e) in
          subst (λ y. y ≤ max x e.event.at)
          (sym (ap (λ a. last_or x (comes_to_quotas n) (act_tells ts log (length log) e.event.at e.event.seed e.reply (taken log e) e.puts a)) is
          ∙ (last_or-append x (comes_to_quotas n) first after
          ∙ ap (λ y. last_or y (comes_to_quotas n) after) (last_kept (is_hearing n) (comes_to_quotas n) (none_comes n) x first (others_quiet n m (length log) e.event.at e.reply (taken log e))))))
          (hear m e.reply (taken log e))
      by a is = kept (tells ts log e) (untold_of (is_hearing n) hearing_kinds (of_kinds n) ts log e (ap (λ b. are_apart (kinds_of b) hearing_kinds) is))

  late_from : (before es : List Entry) (ts : List Telling) → last_or 0 (comes_to_quotas n) ts ≤ latest_moment (events_of before)
      → last_or 0 (comes_to_quotas n) (state_from told_by before es ts) ≤ latest_moment (events_of (before ++ es))
  unfolding state_from
  late_from before [] ts h = subst (λ l. last_or 0 (comes_to_quotas n) ts ≤ latest_moment (events_of l)) (sym (append-nil before)) h
  late_from before (e ∷ es) ts h =
      subst (λ l. last_or 0 (comes_to_quotas n) (state_from told_by before (e ∷ es) ts) ≤ latest_moment (events_of l)) (append_assoc before (e ∷ []) es)
      (late_from (before ++ e ∷ []) es (ts ++ tells ts before e) (subst (λ y. y ≤ latest_moment (events_of (before ++ e ∷ []))) (sym (last_or-append 0 (comes_to_quotas n) ts (tells ts before e))) more))
    where
      more : last_or (last_or 0 (comes_to_quotas n) ts) (comes_to_quotas n) (tells ts before e) ≤ latest_moment (events_of (before ++ e ∷ []))
      more =
          let now = comes_by ts before e (last_or 0 (comes_to_quotas n) ts) in
          let longer : latest_moment (events_of (before ++ e ∷ [])) ≡ max (latest_moment (events_of before)) e.event.at = ap latest_moment (events_of-append before e) ∙ latest_moment-more (events_of before) e.event in
          omega (arith, now, longer, h)

  pub known_of-late : (configs : List Config) (log : List Entry) → (known_of configs log n).latest ≤ latest_moment (events_of log)
  unfolding known_of told
  known_of-late configs log = late_from [] log [] (omega arith)

-- nothing is known before the first
pub known_of-none : (configs : List Config) (n : ℕ) → known_of configs [] n ≡ record { addresses = []; passed = record { addresses = λ ip. []; subnets = λ ip. [] }; latest = 0 }
unfolding known_of told state_from
known_of-none configs n = refl
