-- What a step tells, from the parts of a router.
use Rattle.std.proofs.Common.{◌≡◌, ℕ, Bool, List, ap, ◌∙◌}
use Rattle.std.specs.Map.{keys_of}
use Rattle.p2p_router.specs.Messenger.{Desk, told_all}
use Rattle.p2p_router.specs.Routes.{Routes}
use Rattle.p2p_router.specs.Step.{heard, told_of}
use Rattle.p2p_router.specs.declared.link.Link.{Link}
use Rattle.p2p_router.specs.declared.stepped.Told.{Told}

module _ {P : Type 0} where
  -- the parts of a router
  abbrev pub made_of : List (P × Link) → List (ℕ × P) → List ℕ → Bool → Routes P
  made_of links peers subscriptions failed = record { links = links; peers = peers; subscriptions = subscriptions; failed = failed }

  pub told_after : (F : List (P × Link) → List (P × Link)) (r : Routes P) (d : Desk P) (links new : List (P × Link)) (peers : List (ℕ × P)) (subs same : List ℕ) (failed : Bool) (told : Told P)
      → made_of links peers subs failed ≡ r → new ≡ F links → same ≡ subs → told ≡ told_of d new same → told ≡ told_of d (F r.links) r.subscriptions
  told_after F r d links new peers subs same failed told view new_is same_is told_is =
      told_is
      ∙ (ap (λ l. told_of d l same) new_is ∙ (ap (told_of d (F links)) same_is ∙ ap (λ (x : Routes P). told_of d (F x.links) x.subscriptions) view))

  pub routes_after :
      (F : List (P × Link) → List (P × Link)) (G : List (P × Link) → List (ℕ × P) → List (ℕ × P)) (r : Routes P) (d : Desk P)
      (links new : List (P × Link)) (peers peers_new : List (ℕ × P)) (subs same kept : List ℕ) (failed : Bool) (told : Told P)
      → made_of links peers subs failed ≡ r → new ≡ F links → peers_new ≡ G links peers → same ≡ subs → told ≡ told_of d new same → kept ≡ told.subscriptions
      → made_of new peers_new kept failed ≡ made_of (F r.links) (G r.links r.peers) (heard d r.subscriptions) r.failed
  routes_after F G r d links new peers peers_new subs same kept failed told view new_is peers_is same_is told_is kept_is =
      ap (λ l. made_of new peers_new l failed) (kept_is ∙ (ap (λ (t : Told P). t.subscriptions) told_is ∙ ap (heard d) same_is))
      ∙ (ap (λ l. made_of l peers_new (heard d subs) failed) new_is
      ∙ (ap (λ l. made_of (F links) l (heard d subs) failed) peers_is
      ∙ ap (λ (x : Routes P). made_of (F x.links) (G x.links x.peers) (heard d x.subscriptions) x.failed) view))

  pub desk_after : (F : List (P × Link) → List (P × Link)) (r : Routes P) (d e : Desk P) (links new : List (P × Link)) (peers : List (ℕ × P)) (subs same : List ℕ) (failed : Bool)
      → made_of links peers subs failed ≡ r → new ≡ F links → same ≡ subs → e ≡ told_all d (keys_of new) (heard d same) → e ≡ told_all d (keys_of (F r.links)) (heard d r.subscriptions)
  desk_after F r d e links new peers subs same failed view new_is same_is e_is =
      e_is
      ∙ (ap (λ l. told_all d (keys_of l) (heard d same)) new_is
      ∙ (ap (λ l. told_all d (keys_of (F links)) (heard d l)) same_is ∙ ap (λ (x : Routes P). told_all d (keys_of (F x.links)) (heard d x.subscriptions)) view))
