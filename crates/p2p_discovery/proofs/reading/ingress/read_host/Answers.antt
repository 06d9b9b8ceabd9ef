use Rattle.std.proofs.Common.{◌≡◌, ap, sym, ◌∙◌, subst, List, ℕ, Ok}
use Rattle.std.specs.Str.{IsUtf8}
use Rattle.std.specs.String.{string_bytes}
use Rattle.std.proofs.lemmas.Bool.{false≢true}
use Rattle.std.proofs.lemmas.Str.{IsUtf8-had}
use Rattle.p2p_discovery.proofs.Hosts.{host-text, host-not_text}
use Rattle.p2p_discovery.proofs.reading.ingress.read_host.Goals as goal

pub returns-in-Ok : goal.returns-in-Ok
returns-in-Ok c =
    let items : string_bytes c.in-Ok.host ≡ c.in_ok-host.host = ap (λ v. v.items) c.in-Ok.ensures.ok ∙ c.into_inner.ensures in
    host-text c.args.bytes c.in_ok-host.host c.in_ok-host.bytes c.in_ok-host.ensures (subst IsUtf8 items (IsUtf8-had (string_bytes c.in-Ok.host) c.in-Ok.host.ok))
    ∙ ap (λ (host : List ℕ). Ok (host, c.in_ok-host.bytes)) (sym (c.new.ensures ∙ items))

pub returns-in-Err : goal.returns-in-Err
returns-in-Err c = λ _. host-not_text c.args.bytes c.in_ok-host.host c.in_ok-host.bytes c.in_ok-host.ensures (λ text. false≢true (c.in-Err.ensures.succeeds (subst IsUtf8 (sym c.into_inner.ensures) text)))
