-- With nothing held, the receiving half takes what it hears, where what it heard is read off its answer.
use Rattle.std.proofs.Common.{◌≡◌, ℕ, Bool, true, false, cond, List, Option, Some, None, Result, refl, ap, sym, subst}
use Rattle.std.specs.Prelude.{IfOk, is_some}
use Rattle.std.specs.Option.{option_map}
use Rattle.std.proofs.lemmas.Bool.{false≢true}
use Rattle.p2p_flow_connection.specs.Arriving.{Arrived}
use Rattle.p2p_runtime.specs.declared.streams.Failed.{Failed}
use Rattle.p2p_wire.specs.declared.error.CodecError.{CodecError}
use Rattle.p2p_wire.specs.declared.frame.Data.{Data}
use Rattle.p2p_discovery_directory.specs.Asking.{Way}
use Rattle.p2p_discovery.specs.declared.payload.Payload.{Payload}
use Rattle.p2p_discovery_peer.specs.Judging.{Judge}
use Rattle.p2p_discovery_peer.specs.Receiving.{is_running, only, with_heard, with_held, with_kept, received}
use Rattle.p2p_discovery_peer.specs.declared.peer.gossip.Gossip.{Gossip}
use Rattle.p2p_discovery_peer.specs.declared.peer.live.Live.{Live}
use Rattle.p2p_discovery_peer.specs.declared.peer.stepped.Stepped.{Stepped}
use Rattle.p2p_discovery_peer.specs.declared.peer.stepped.Stepped.TheVariants as stepped

pub none-mapped : {A B : Type 0} (f : A → B) (o : Option A) → option_map f o ≡ None → o ≡ None
none-mapped f None e = refl
none-mapped f (Some x) e = absurd (false≢true (sym (ap is_some e)))

module _ {P E : Type 0} (r : Result (Stepped P) E) (heard : Stepped P → Result (Option (List ℕ)) Failed)
    (says : List ℕ → Result (Payload P) CodecError) (j : Judge P) (now : ℕ) (l : Live P) (a : Arrived P) (w : Way P) where
  pub next-taken : l.inbox.held ≡ None
      → IfOk r (λ s. s ≡ (with_heard says j now (heard s) l a w).stepped)
      → IfOk r (λ s. s ≡ (with_held says j now l.inbox.held (heard s) l a w).stepped)
  next-taken e h = subst (λ (o : Option (P × Data)). IfOk r (λ s. s ≡ (with_held says j now o (heard s) l a w).stepped)) (sym e) h

  pub first-taken : is_running l.stage ≡ true → l.held ≡ None
      → IfOk r (λ s. s ≡ (with_held says j now l.inbox.held (heard s) l a w).stepped)
      → IfOk r (λ s. s ≡ (received says j now l a w (heard s)).stepped)
  first-taken running e h =
      subst (λ (b : Bool). IfOk r (λ s. s ≡ (cond b (with_kept says j now l.held (heard s) l a w) (only stepped.Idle l a w)).stepped)) (sym running)
      (subst (λ (o : Option (Gossip P)). IfOk r (λ s. s ≡ (with_kept says j now o (heard s) l a w).stepped)) (sym e) h)
