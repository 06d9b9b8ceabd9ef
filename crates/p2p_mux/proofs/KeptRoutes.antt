-- A route that is written back as it was found leaves the routes as they were.
use Rattle.std.proofs.Common.{◌≡◌, ℕ, List, Some, Option, Result, Ok, Err, sym, ap, subst, ◌∙◌}
use Rattle.std.proofs.lemmas.Map.Steps.{set_value_same}
use Rattle.std.specs.Prelude.{IfOk, OnOk, OnErr}
use Rattle.std.specs.BTreeMap.{is_at}
use Rattle.std.specs.Map.{set_value}
use Rattle.std.specs.Ordering.{nat_cmp}
use Rattle.p2p_base.specs.Queue.{enqueue_answer, enqueued}
use Rattle.p2p_base.specs.declared.policy.Keep.TheVariants.{Refuse}
use Rattle.p2p_mux.specs.Muxed.{Muxed, route_in, with_messages}
use Rattle.p2p_mux.specs.MuxerSteps.{IsTurn}
use Rattle.p2p_mux.specs.MuxerTurns.{routed_as, route_turn}
use Rattle.p2p_mux.specs.declared.routes.Route.{Route}
use Rattle.p2p_mux.specs.declared.stepped.MuxStepped.{MuxStepped}

module _ {P : Type 0} where
  pub route_kept : (routes : List (ℕ × Route P)) (s : ℕ) (r new : Route P) → route_in routes s ≡ Some r → new ≡ r
      → set_value (is_at (nat_cmp s)) routes new ≡ routes
  route_kept routes s r new found same =
      ap (λ (x : Route P). set_value (is_at (nat_cmp s)) routes x) same ∙ set_value_same (is_at (nat_cmp s)) routes r found

  abbrev pub with_routes : Muxed P → List (ℕ × Route P) → Muxed P
  with_routes q routes = record {
    control = q.control;
    requests = q.requests;
    routes = routes;
    backup = q.backup;
    ended = q.ended;
  }

  -- the queues once a route that was found stands with another queue, or as it was
  pub route_turned : {X : Type 0} (q : Muxed P) (s : ℕ) (m : P × List ℕ) (r new : Route P) (routes : List (ℕ × Route P))
      (result : Result MuxStepped X) → route_in q.routes s ≡ Some r
      → routes ≡ set_value (is_at (nat_cmp s)) q.routes new
      → IfOk result (λ x. x ≡ routed_as r.request s (enqueue_answer Refuse r.messages m))
      → OnOk result (new ≡ with_messages r (enqueued Refuse r.messages m)) → OnErr result (new ≡ r)
      → IsTurn (route_turn (route_in q.routes s) s m q) q result (with_routes q routes)
  route_turned {X = X} q s m r new routes (Ok x) found written answer after same =
      let ok : Result MuxStepped X = Ok x in
      let P' : Option (Route P) → Type 0 = λ o. IsTurn (route_turn o s m q) q ok (with_routes q routes) in
      subst P' (sym found) (record {
        answer = answer;
        queues_then = ap (λ (l : List (ℕ × Route P)). with_routes q l)
            (written ∙ ap (λ (y : Route P). set_value (is_at (nat_cmp s)) q.routes y) after);
      })
  route_turned q s m r new routes (Err e) found written answer after same =
      ap (λ (l : List (ℕ × Route P)). with_routes q l) (written ∙ route_kept q.routes s r new found same)
