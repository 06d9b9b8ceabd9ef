-- Of what kind the message was that a step took, by what the step answered.
use Rattle.std.proofs.Common.{◌≡◌, ℕ, Bool, List, [], ◌∷◌, refl, ap, ◌∙◌, Option, Some, None}
use Rattle.std.specs.BTreeMap.{insert_entry, is_at}
use Rattle.std.specs.Map.{remove_entry}
use Rattle.p2p_base.specs.declared.key.Key.{Key}
use Rattle.p2p_flow.specs.Lanes.{Lanes}
use Rattle.p2p_flow.specs.declared.plain.Recipients.{Recipients}
use Rattle.p2p_wire.specs.declared.encoded.EncodedData.{EncodedData}
use Rattle.p2p_router.specs.declared.link.Link.{Link}
use Rattle.p2p_router.specs.Routes.{Routes}
use Rattle.p2p_router.specs.Routing.{addressed, copies}
use Rattle.p2p_router.specs.Messenger.{Desk, message_taken}
use Rattle.p2p_router.specs.Step.{stepped_on, told_of}
use Rattle.p2p_router.specs.declared.message.Message.{Message}
use Rattle.p2p_router.specs.declared.message.Message.TheVariants as message
use Rattle.p2p_router.specs.declared.stepped.Routed.{Routed}
use Rattle.p2p_router.specs.declared.stepped.Stepped.TheVariants as stepped
use Rattle.p2p_router.specs.declared.stepped.Told.{Told}
use Rattle.p2p_net_router.specs.Items.{key_cmp}

pub record WasReady (a : Routes Key) (d : Desk Key) (o : Option (Message Key)) (peer : Key) (conn : ℕ) (told : Told Key) : Type 0 where
  pub relay : Lanes EncodedData
  pub is : o ≡ Some (message.Ready peer relay conn)
  pub told_is : told ≡ told_of (message_taken d) (insert_entry key_cmp a.links peer (record { conn = conn; relay = relay })) a.subscriptions

pub was_ready : (a : Routes Key) (d : Desk Key) (o : Option (Message Key)) (peer : Key) (conn : ℕ) (replaced : Option Link) (told : Told Key) → stepped.Ready peer conn replaced told ≡ stepped_on key_cmp a d o → WasReady a d o peer conn told
was_ready a d None peer conn replaced told h = cc
was_ready a d (Some (message.Ready p relay c)) peer conn replaced told h =
    let e : p ≡ peer = cc in
    let f : c ≡ conn = cc in
    let g : told ≡ told_of (message_taken d) (insert_entry key_cmp a.links p (record { conn = c; relay = relay })) a.subscriptions = cc in
    record {
      relay = relay;
      is = ap (λ k. Some (message.Ready k relay c)) e ∙ ap (λ n. Some (message.Ready peer relay n)) f;
      told_is = g
          ∙ (ap (λ k. told_of (message_taken d) (insert_entry key_cmp a.links k (record { conn = c; relay = relay })) a.subscriptions) e
          ∙ ap (λ n. told_of (message_taken d) (insert_entry key_cmp a.links peer (record { conn = n; relay = relay })) a.subscriptions) f);
    }
was_ready a d (Some (message.Release p)) peer conn replaced told h = cc
was_ready a d (Some (message.Content whom encoded priority)) peer conn replaced told h = cc
was_ready a d (Some (message.SubscribePeers s)) peer conn replaced told h = cc

pub record WasSubscription (a : Routes Key) (d : Desk Key) (o : Option (Message Key)) (s : ℕ) (told : Told Key) : Type 0 where
  pub is : o ≡ Some (message.SubscribePeers s)
  pub told_is : told ≡ told_of (message_taken d) a.links (s ∷ [])

pub was_subscription : (a : Routes Key) (d : Desk Key) (o : Option (Message Key)) (s : ℕ) (told : Told Key) → stepped.SubscribePeers s told ≡ stepped_on key_cmp a d o → WasSubscription a d o s told
was_subscription a d None s told h = cc
was_subscription a d (Some (message.Ready p relay c)) s told h = cc
was_subscription a d (Some (message.Release p)) s told h = cc
was_subscription a d (Some (message.Content whom encoded priority)) s told h = cc
was_subscription a d (Some (message.SubscribePeers t)) s told h =
    let e : t ≡ s = cc in
    let g : told ≡ told_of (message_taken d) a.links (t ∷ []) = cc in
    record { is = ap (λ n. Some (message.SubscribePeers n)) e; told_is = g ∙ ap (λ n. told_of (message_taken d) a.links (n ∷ [])) e }

pub record WasContent (a : Routes Key) (o : Option (Message Key)) (encoded : EncodedData) (rs : List (Routed Key)) : Type 0 where
  pub whom : Recipients Key
  pub priority : Bool
  pub is : o ≡ Some (message.Content whom encoded priority)
  pub copies_are : rs ≡ copies key_cmp a.links encoded priority (addressed a.links whom)

pub was_content : (a : Routes Key) (d : Desk Key) (o : Option (Message Key)) (encoded : EncodedData) (rs : List (Routed Key)) → stepped.Content encoded rs ≡ stepped_on key_cmp a d o → WasContent a o encoded rs
was_content a d None encoded rs h = cc
was_content a d (Some (message.Ready p relay c)) encoded rs h = cc
was_content a d (Some (message.Release p)) encoded rs h = cc
was_content a d (Some (message.Content whom e priority)) encoded rs h =
    let f : e ≡ encoded = cc in
    let g : rs ≡ copies key_cmp a.links e priority (addressed a.links whom) = cc in
    record {
      whom = whom;
      priority = priority;
      is = ap (λ x. Some (message.Content whom x priority)) f;
      copies_are = g ∙ ap (λ x. copies key_cmp a.links x priority (addressed a.links whom)) f;
    }
was_content a d (Some (message.SubscribePeers s)) encoded rs h = cc

pub record WasRelease (a : Routes Key) (d : Desk Key) (o : Option (Message Key)) (peer : Key) (told : Told Key) : Type 0 where
  pub is : o ≡ Some (message.Release peer)
  pub told_is : told ≡ told_of (message_taken d) (remove_entry (is_at (key_cmp peer)) a.links) a.subscriptions

pub was_release : (a : Routes Key) (d : Desk Key) (o : Option (Message Key)) (peer : Key) (told : Told Key) → stepped.Release peer told ≡ stepped_on key_cmp a d o → WasRelease a d o peer told
was_release a d None peer told h = cc
was_release a d (Some (message.Ready p relay c)) peer told h = cc
was_release a d (Some (message.Release p)) peer told h =
    let e : p ≡ peer = cc in
    let g : told ≡ told_of (message_taken d) (remove_entry (is_at (key_cmp p)) a.links) a.subscriptions = cc in
    record {
      is = ap (λ k. Some (message.Release k)) e;
      told_is = g ∙ ap (λ k. told_of (message_taken d) (remove_entry (is_at (key_cmp k)) a.links) a.subscriptions) e;
    }
was_release a d (Some (message.Content whom e priority)) peer told h = cc
was_release a d (Some (message.SubscribePeers s)) peer told h = cc

pub was_idle : (a : Routes Key) (d : Desk Key) (o : Option (Message Key)) → stepped.Idle ≡ stepped_on key_cmp a d o → o ≡ None
was_idle a d None h = refl
was_idle a d (Some (message.Ready p relay c)) h = cc
was_idle a d (Some (message.Release p)) h = cc
was_idle a d (Some (message.Content whom e priority)) h = cc
was_idle a d (Some (message.SubscribePeers s)) h = cc
