use Rattle.std.proofs.Common.{◌≡◌, ℕ, Bool, true, false, cond, List, refl, ap, sym, ◌∙◌, eqb-true, Some}
use Rattle.std.specs.Prelude.{◌==◌}
use Rattle.p2p_net_queues.specs.Tables as table
use Rattle.p2p_net_queues.specs.Tables.{AreBut}
use Rattle.p2p_net_queues.proofs.Tables.{AreBut-inserted}
use Rattle.p2p_net_gates.proofs.listening.Listening.finish.Goals as goal

-- a value that is put back
put_back : {V : Type 0} (name : ℕ) (v : V) (old new : List (ℕ × V)) → AreBut name (Some v) old new → table.at old name ≡ Some v → (k : ℕ) → table.at new k ≡ table.at old k
put_back name v old new but there k = but k ∙ by (k == name) refl
  where
    by : (b : Bool) → (k == name) ≡ b → cond b (Some v) (table.at old k) ≡ table.at old k
    by true is = sym (ap (table.at old) (eqb-true k name is) ∙ there)
    by false is = refl

pub returns-in_ok-insert-in-Some-clause-handshakes : goal.returns-in_ok-insert-in-Some-clause-handshakes
returns-in_ok-insert-in-Some-clause-handshakes c =
    let old = c.args.self.now.handshakes in
    let name = c.args.handshake in
    let told = c.finished.new.self in
    put_back name told old c.insert.new.self (AreBut-inserted name told old c.remove.new.self c.insert.new.self c.remove.ensures.rest c.in_ok-insert-in-Some.ensures)
    (sym c.remove.ensures.value ∙ (c.in-Some.is ∙ ap Some (sym c.in_ok-finished-in-Some.ensures.same)))
