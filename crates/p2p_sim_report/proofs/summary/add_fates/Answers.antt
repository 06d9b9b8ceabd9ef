-- The fate that was added is that of the first of the copies that are left.
use Rattle.std.proofs.Common.{rules, ◌≡◌, ◌+◌, ◌∙◌, ap, sym, List, [], ◌∷◌, ◌++◌, Option, ℕ, drop, append_assoc}
use Rattle.std.proofs.lemmas.List.{at_drop_more}
use Rattle.p2p_base.specs.declared.key.Key.{Key}
use Rattle.p2p_log.specs.declared.report.Fate.{Fate}
use Rattle.p2p_log.specs.Fates.{fate_of}
use Rattle.p2p_sim_report.specs.SummaryText.{send_fates}
use Rattle.p2p_sim_report.proofs.summary.add_fates.Goals as goal

pub loop-place-preserved : goal.loop-place-preserved
loop-place-preserved c =
    let log = c.args.report.now.log in
    let send = c.args.send in
    let place = c.loop-place.place in
    let keys = c.args.keys.now in
    let any : Key = record { 0 = 0 } in
    let before = c.loop-place.fates.items in
    let here = fate_of log (send, place) in
    let rest : List (Option Fate) = send_fates log send (place + 1) (drop (place + 1) keys) in
    let left : List Key → List (Option Fate) = λ ks. before ++ send_fates log send place ks in
    let pushed : c.push.new.self.items ≡ before ++ here ∷ [] = search rules in
    ap (λ (fs : List (Option Fate)). fs ++ rest) pushed
    ∙ (append_assoc before (here ∷ []) rest
    ∙ (sym (at_drop_more left keys place any c.loop-place-test.true) ∙ c.loop-place.invariant))
