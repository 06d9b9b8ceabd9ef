-- What a step of a listener comes to, by what it took.
use Rattle.std.proofs.Common.{◌≡◌, ℕ, true, drop, List, Option, Some, None, Result, Ok, Err, IfOk, OnOk, refl, sym, ap, ◌∙◌, subst}
use Rattle.std.proofs.lemmas.Bool.{false≢true}
use Rattle.std.specs.Prelude.{slice_get}
use Rattle.p2p_address.specs.declared.ip.IpAddr.{IpAddr}
use Rattle.p2p_tracker_mailbox.specs.declared.mailbox.Mailbox.{Mailbox}
use Rattle.p2p_tracker_calls.specs.Gates.{Known}
use Rattle.p2p_tracker_calls.specs.declared.gates.Reply.{Reply}
use Rattle.p2p_gates.specs.Counting.{CountsFrom, CountsOldest, CountsAfter}
use Rattle.p2p_gates.specs.Gates.{reply_to, known_after, places_after}
use Rattle.p2p_gates.specs.Listening.{Listening, StandsFor, with_rest}
use Rattle.p2p_gates.specs.ListenerSteps.{IsTurned, Passes, Receives, IsStepOf}
use Rattle.p2p_gates.specs.ListenerTurns.{ListenerTurn, begins, stepped_by, way_by, line_turn, update_turn}
use Rattle.p2p_gates.specs.Quotas.{KeepsRates}
use Rattle.p2p_gates.specs.Stepping.{gone_on}
use Rattle.p2p_gates.specs.declared.arrival.Arrival.{Arrival}
use Rattle.p2p_gates.specs.declared.stepped.Input.TheVariants as input
use Rattle.p2p_gates.specs.declared.stepped.Stepped.{Stepped}
use Rattle.p2p_gates.specs.declared.stepped.Stepped.TheVariants as stepped
use Rattle.p2p_gates.proofs.Turning.{listener-receives, place-begins}

module _ {P : Type 0} where
  -- no arrival waits
  pub idles : (l new : Listening P) (m : Mailbox P) (name now : ℕ) → slice_get l.arrivals 0 ≡ None → new ≡ l
      → Receives l m name now stepped.Idle new m
  idles l new m name now none same = subst (λ (x : Listening P). Receives l m name now stepped.Idle x m) (sym same) (record {
    turned = λ k st. subst (λ o. IsTurned (line_turn l k m name now o) stepped.Idle l m) (sym none) (record {
      answer = refl;
      stands = st;
      arrivals = refl;
      places = refl;
      way = refl;
    });
    placed = λ b. absurd (false≢true b);
    rest = refl;
    rates = record { addresses = refl; subnets = refl };
    quotas = subst (λ o. CountsOldest l l.quotas o) (sym none) refl;
  })

module _ {P E : Type 0} where
  -- an arrival was judged, and was told this
  pub passes : (l new : Listening P) (m way : Mailbox P) (name now : ℕ) (a : Arrival P) (r : Reply) (t : Result (Stepped P) E)
      → ((k : Known) → StandsFor l k → r ≡ reply_to l k a.from.ip now)
      → ((k : Known) → StandsFor l k → StandsFor new (known_after l k a.from.ip now))
      → new.places ≡ places_after r l.places → new.arrivals ≡ l.arrivals → new ≡ with_rest l new
      → KeepsRates l.quotas new.quotas → CountsFrom l new.quotas a.from.ip
      → IfOk t (λ s. s ≡ stepped_by r name a new.handshake_timeout now) → OnOk t (way ≡ way_by r name a m)
      → IfOk t (λ s. Passes l m name now a s new way)
  passes l new m way name now a r (Ok s) told stands places arrivals rest rates counted stepped put =
      let answer : s ≡ stepped_by r name a l.handshake_timeout now =
      stepped ∙ ap (λ (x : Listening P). stepped_by r name a x.handshake_timeout now) rest in
      record {
        turned = λ k st. record {
          answer = answer ∙ ap (λ x. stepped_by x name a l.handshake_timeout now) (told k st);
          stands = stands k st;
          arrivals = arrivals;
          places = places ∙ ap (λ x. places_after x l.places) (told k st);
          way = put ∙ ap (λ x. way_by x name a m) (told k st);
        };
        placed = place-begins r name l.handshake_timeout now a s l.places new.places answer places;
        rest = rest;
        rates = rates;
        quotas = counted;
      }
  passes l new m way name now a r (Err e) told stands places arrivals rest rates counted stepped put = tt

  -- the oldest arrival was taken
  pub receives : (l left new : Listening P) (m way : Mailbox P) (name now : ℕ) (a : Arrival P) (t : Result (Stepped P) E)
      → left ≡ record l { arrivals = drop 1 l.arrivals } → slice_get l.arrivals 0 ≡ Some a
      → IfOk t (λ s. Passes left m name now a s new way) → IfOk t (λ s. Receives l m name now s new way)
  receives l left new m way name now a (Err e) taken first p = tt
  receives l left new m way name now a (Ok s) taken first p =
      let Left : Listening P = record l { arrivals = drop 1 l.arrivals } in
      let q : Passes Left m name now a s new way = subst (λ (x : Listening P). Passes x m name now a s new way) taken p in
      record {
        turned = λ k st.
            let turn = q.turned k (record { addresses = st.addresses; passed = st.passed }) in
            subst (λ o. IsTurned (line_turn l k m name now o) s new way) (sym first) (record {
              answer = turn.answer;
              stands = turn.stands;
              arrivals = turn.arrivals;
              places = turn.places;
              way = turn.way;
            });
        placed = q.placed;
        rest = q.rest;
        rates = record { addresses = q.rates.addresses; subnets = q.rates.subnets };
        quotas = subst (λ o. CountsOldest l new.quotas o) (sym first) q.quotas;
      }

  -- no update waits
  pub awaits : (l new : Listening P) (m way : Mailbox P) (name now : ℕ) (heard : Option (List IpAddr)) (t : Result (Stepped P) E)
      → heard ≡ None → m.heard ≡ None → IfOk t (λ s. Receives l (record m { heard = heard }) name now s new way)
      → IfOk t (λ s. IsStepOf l m name now s new way)
  awaits l new m way name now heard (Err e) taken none p = tt
  awaits l new m way name now heard (Ok s) taken none p = record {
    turned = λ k st. subst (λ (u : ListenerTurn P). IsTurned u s new way) (listener-receives l k m name now heard taken none) (p.turned k st);
    placed = p.placed;
    rest = p.rest;
    rates = p.rates;
    quotas = subst (λ o. CountsAfter l new.quotas o) (sym none) p.quotas;
  }

  -- an update was taken
  pub updates : (l new : Listening P) (m way : Mailbox P) (name now : ℕ) (addresses : List IpAddr) (t : Result (Stepped P) E)
      → m.heard ≡ Some addresses → way ≡ record m { heard = None } → IfOk t (λ s. s ≡ gone_on input.Update None)
      → ((k : Known) → StandsFor l k → OnOk t (StandsFor new (record k { addresses = addresses })))
      → new ≡ record l { registered = new.registered } → IfOk t (λ s. IsStepOf l m name now s new way)
  updates l new m way name now addresses (Err e) heard taken answer stands after = tt
  updates l new m way name now addresses (Ok s) heard taken answer stands after = record {
    turned = λ k st. subst (λ o. IsTurned (update_turn l k m name now o) s new way) (sym heard) (record {
      answer = answer;
      stands = stands k st;
      arrivals = ap (λ (x : Listening P). x.arrivals) after;
      places = ap (λ (x : Listening P). x.places) after;
      way = taken;
    });
    placed = λ b. absurd (false≢true (sym (ap begins answer) ∙ b));
    rest = after ∙ ap (λ (x : Listening P). record l { arrivals = x.arrivals; registered = new.registered; quotas = x.quotas; places = x.places }) (sym after);
    rates = record {
      addresses = ap (λ (x : Listening P). x.quotas.addresses.rate) after;
      subnets = ap (λ (x : Listening P). x.quotas.subnets.rate) after;
    };
    quotas = subst (λ o. CountsAfter l new.quotas o) (sym heard) (ap (λ (x : Listening P). x.quotas) after);
  }
