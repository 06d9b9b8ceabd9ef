-- The way of a node's senders, and what a check of one of them does there.
use Rattle.std.specs.Prelude.{◌≡◌, ◌≢◌, ℕ, ◌<◌, List, [], ◌∷◌, Option, Some, None, slice_get, unwrap_or}
use Rattle.std.specs.declared.cmp.Ordering.{Ordering}
use Rattle.p2p_runtime.specs.QuotaLaw.{Rate, rate_of}
use Rattle.p2p_runtime.specs.QuotaKeys.{KeptByKey, StandsForEach}
use Rattle.p2p_flow.specs.declared.plain.Recipients.{Recipients}
use Rattle.p2p_flow.specs.declared.plain.Recipients.TheVariants as to

-- a channel's limiter, the subscription by which lists of peers come, and the peers that are known
pub record Limit (P : Type 0) : Type 0 where
  pub channel : ℕ
  pub kept : KeptByKey P
  pub subscription : ℕ
  pub known : List P

-- what carries content, and the limits of the channels, each at its sender's place
pub record Limits (P M : Type 0) : Type 0 where
  pub messenger : M
  pub limits : List (Limit P)

-- the name of a sender without a quota: its channel, and the longest message that it sends
pub record OnChannel : Type 0 where
  pub channel : ℕ
  pub max_size : ℕ

-- a sender's name: its channel, the longest message that it sends, and the place of its limit
pub record Named : Type 0 where
  pub channel : ℕ
  pub max_size : ℕ
  pub place : ℕ

-- what a check gave: the channel of its sender, and the recipients that were admitted
pub record Checked (P : Type 0) : Type 0 where
  pub channel : ℕ
  pub recipients : List P

module _ {P : Type 0} where
  -- a limit that admitted nothing
  abbrev pub fresh_limit : ℕ → Rate → ℕ → List P → Limit P
  fresh_limit channel rate subscription known = record {
    channel = channel;
    kept = record { rate = rate; arrivals = []; latest = 0 };
    subscription = subscription;
    known = known;
  }

  abbrev pub rate_in : Option (Limit P) → Rate
  rate_in None = rate_of 0 0
  rate_in (Some l) = l.kept.rate

  -- the channel and the subscription of a limit
  abbrev pub named_in : Option (Limit P) → Option (ℕ × ℕ)
  named_in None = None
  named_in (Some l) = Some (l.channel, l.subscription)

  abbrev pub known_at : Option (Limit P) → List P
  known_at None = []
  known_at (Some l) = l.known

  abbrev pub StandsIn : (P → P → Ordering) → Option (Limit P) → (P → List ℕ) → ℕ → Type 0
  StandsIn cmp None past latest = ⊥
  StandsIn cmp (Some l) past latest = StandsForEach cmp l.kept past latest

module _ {P M : Type 0} where
  abbrev pub limit_at : Limits P M → ℕ → Option (Limit P)
  limit_at w place = slice_get w.limits place

  -- there is a limit, and its subscription was made at the messenger
  abbrev pub IsHeard : (M → ℕ) → M → Option (Limit P) → Type 0
  IsHeard subscriptions messenger None = ⊥
  IsHeard subscriptions messenger (Some l) = l.subscription < subscriptions messenger

  abbrev pub IsLimitOf : (M → ℕ) → M → ℕ → Option (Limit P) → Type 0
  IsLimitOf subscriptions messenger channel None = ⊥
  IsLimitOf subscriptions messenger channel (Some l) =
      (l.channel ≡ channel) × (l.subscription < subscriptions messenger)

  -- the sender has its limit there
  abbrev pub HasLimit : (M → ℕ) → Named → Limits P M → Type 0
  HasLimit subscriptions s w = IsLimitOf subscriptions w.messenger s.channel (limit_at w s.place)

  -- the peers that a limit knows once a list that waits was taken
  abbrev pub known_of : (M → ℕ → Option (List P)) → M → Limit P → List P
  known_of waiting messenger l = unwrap_or (waiting messenger l.subscription) l.known

  -- the entries that are tested for these recipients
  abbrev pub offered_by : (M → ℕ → Option (List P)) → M → Limit P → Recipients P → List P
  offered_by waiting messenger l to.All = known_of waiting messenger l
  offered_by waiting messenger l (to.Some keys) = keys
  offered_by waiting messenger l (to.One key) = key ∷ []

  abbrev pub offered_in : (M → ℕ → Option (List P)) → M → Option (Limit P) → Recipients P → List P
  offered_in waiting messenger None recipients = []
  offered_in waiting messenger (Some l) recipients = offered_by waiting messenger l recipients

  -- what is known after a check of these recipients
  abbrev pub known_after : (M → ℕ → Option (List P)) → M → Limit P → Recipients P → List P
  known_after waiting messenger l to.All = known_of waiting messenger l
  known_after waiting messenger l (to.Some keys) = l.known
  known_after waiting messenger l (to.One key) = l.known

  abbrev pub known_in : (M → ℕ → Option (List P)) → M → Option (Limit P) → Recipients P → List P
  known_in waiting messenger None recipients = []
  known_in waiting messenger (Some l) recipients = known_after waiting messenger l recipients

  -- the messenger after a check of these recipients
  abbrev pub messenger_by : (M → ℕ → M) → M → Limit P → Recipients P → M
  messenger_by after_try_peers messenger l to.All = after_try_peers messenger l.subscription
  messenger_by after_try_peers messenger l (to.Some keys) = messenger
  messenger_by after_try_peers messenger l (to.One key) = messenger

  abbrev pub messenger_in : (M → ℕ → M) → M → Option (Limit P) → Recipients P → M
  messenger_in after_try_peers messenger None recipients = messenger
  messenger_in after_try_peers messenger (Some l) recipients = messenger_by after_try_peers messenger l recipients

  -- a way with other content handed in
  abbrev pub with_messenger : Limits P M → M → Limits P M
  with_messenger w messenger = record { messenger = messenger; limits = w.limits }

  -- what a check of these recipients leaves of a way, but for the admissions at its place: the limit there has its channel and its
  -- subscription as before, and knows the list that was taken; every other limit is as it was
  pub record IsAsked (waiting : M → ℕ → Option (List P)) (after_try_peers : M → ℕ → M) (old : Limits P M) (place : ℕ)
      (recipients : Recipients P) (new : Limits P M) : Type 0 where
    pub messenger : new.messenger ≡ messenger_in after_try_peers old.messenger (limit_at old place) recipients
    pub named : named_in (limit_at new place) ≡ named_in (limit_at old place)
    pub known : known_at (limit_at new place) ≡ known_in waiting old.messenger (limit_at old place) recipients
    pub others : (other : ℕ) → other ≢ place → limit_at new other ≡ limit_at old other
