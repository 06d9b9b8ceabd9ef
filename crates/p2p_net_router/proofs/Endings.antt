-- Which connections have ended, with one more entry.
use Rattle.std.proofs.Common.{◌≡◌, ℕ, Bool, false, List, [], ◌∷◌, ◌++◌, ap, sym, ◌∙◌}
use Rattle.std.specs.Prelude.{◌==◌, ◌||◌}
use Rattle.std.specs.BTreeMap.{BTreeMap}
use Rattle.p2p_base.specs.declared.key.Key.{Key}
use Rattle.p2p_router.specs.declared.link.Link.{Link}
use Rattle.p2p_log.specs.declared.config.Config.{Config}
use Rattle.p2p_log.specs.declared.entry.Entry.{Entry}
use Rattle.p2p_log_rules.specs.Connections.{ends_connection, is_ended}
pub use Rattle.p2p_log_rules.proofs.Connections.{is_ended-append, is_ended-kept, is_ended-none, ends_untold, ends_none-act}
use Rattle.p2p_net_router.specs.Ends.{AreEnded}
use Rattle.p2p_net_router.specs.Stands.{IsEnding}

-- the same connections have ended
pub ended_same :
    (f g : ℕ → Bool) (peers : BTreeMap ℕ Key) (links : List (Key × Link)) → ((c : ℕ) → g c ≡ f c) → AreEnded f peers links → AreEnded g peers links
ended_same f g peers links same h = record {
  relays = λ k l at. let c = h.relays k l at in record { high = c.high ∙ sym (same l.conn); low = c.low ∙ sym (same l.conn) };
  known = λ c k at. same c ∙ h.known c k at;
}

pub ended_beside :
    (log : List Entry) (e : Entry) (n : ℕ) (peers : BTreeMap ℕ Key) (links : List (Key × Link))
    → ((conn : ℕ) → ends_connection n conn log e ≡ false) → AreEnded (is_ended log n) peers links → AreEnded (is_ended (log ++ e ∷ []) n) peers links
ended_beside log e n peers links none h = ended_same (is_ended log n) (is_ended (log ++ e ∷ []) n) peers links (λ c. is_ended-kept log e n c (none c)) h

-- the connection that an entry ends has ended, and the others as before
pub ending_ended :
    (configs : List Config) (log : List Entry) (e : Entry) (n conn : ℕ) (key : Key) → IsEnding configs log e n conn key
    → (c : ℕ) → is_ended (log ++ e ∷ []) n c ≡ (is_ended log n c || (c == conn))
ending_ended configs log e n conn key g c = is_ended-append log e n c ∙ ap (λ b. is_ended log n c || b) (g.ends c)
