-- Entries in which no connection of a node admits anything, and in which the node sends nothing and drops no reader.
use Rattle.std.proofs.Common.{◌≡◌, ℕ, Bool, true, false, cond, List, [], ◌∷◌, ◌++◌, Some, refl, ap, sym, ◌∙◌, arith}
use Rattle.std.specs.Prelude.{◌==◌, ◌&&◌, not, slice_get}
use Rattle.std.proofs.lemmas.Bool.Decides.{nat_tests}
use Rattle.p2p_log.specs.declared.config.Config.{Config}
use Rattle.p2p_log.specs.declared.queue.Queue.TheVariants as queue
use Rattle.p2p_log.specs.declared.entry.Entry.{Entry}
use Rattle.p2p_log.specs.declared.event.Recipients.{Recipients}
use Rattle.p2p_log.specs.declared.event.Act.{Act}
use Rattle.p2p_log.specs.declared.event.Act.TheVariants as act
use Rattle.p2p_log.specs.Lines.{line}
use Rattle.p2p_log_rules.specs.Checking.{checked_at, Check, check_of}
use Rattle.p2p_log_rules.specs.Connections.{is_done, is_end}
use Rattle.p2p_log_rules.specs.Facts.{taken, stops}
use Rattle.p2p_log_rules.specs.Metering.{Metered, pings, messages, limit_at, admitted_by}
use Rattle.p2p_log_rules.proofs.Connections.{steps_receiver}
use Rattle.p2p_log_rules.proofs.Metering.{admits_one, admitted_is}
use Rattle.p2p_log_rules.specs.Valid.{checked_by}
use Rattle.p2p_log_rules.proofs.Checks.{check_kinds, IsMade, is_made, checked_at-apart, checked_at-spent_elsewhere, checked_at-elsewhere}
use Rattle.p2p_log_rules.proofs.Channels.{is_stopped-kept}
use Rattle.p2p_log_rules.proofs.Closing.{reader_kinds, is_closed-apart, is_closed-kept}
use Rattle.p2p_log_rules.proofs.Families.{kinds_of, are_apart}
use Rattle.p2p_log_rules.proofs.Sends.{send_kinds, Asks, sent_moments-apart, sent_moments-elsewhere}
use Rattle.p2p_net_channels.specs.Stands.{AdmitsNone, SendsNone, ClosesNone}
use Rattle.p2p_net_connections.specs.Stands.{ReceivesNone}
use Rattle.p2p_net_node.specs.Places.{channels, connections, at, or_first, node_checking, names}

-- an entry of another act than a step of a receiving half of the node
pub admits-unreceived : (limit n conn : ℕ) (what : Metered) (log : List Entry) (e : Entry) (a : Act) → e.event.act ≡ a → steps_receiver n conn a ≡ false
    → admitted_by limit n conn what log e ≡ []
admits-unreceived limit n conn what log e a is none =
    admitted_is limit n conn what log e
    ∙ (ap (λ b. cond (steps_receiver n conn b && not (is_end e.reply) && admits_one limit what (taken log e) e.puts) (e.event.at ∷ []) []) is
    ∙ ap (λ b. cond (b && not (is_end e.reply) && admits_one limit what (taken log e) e.puts) (e.event.at ∷ []) []) none)

-- one that takes nothing
pub admits-untaken : (limit n conn : ℕ) (what : Metered) (log : List Entry) (e : Entry) → taken log e ≡ [] → admitted_by limit n conn what log e ≡ []
admits-untaken limit n conn what log e none =
    admitted_is limit n conn what log e
    ∙ (ap (λ items. cond (steps_receiver n conn e.event.act && not (is_end e.reply) && admits_one limit what items e.puts) (e.event.at ∷ []) []) none
    ∙ never (steps_receiver n conn e.event.act && not (is_end e.reply)))
  where
    never : (b : Bool) → cond (b && false) (e.event.at ∷ []) [] ≡ []
    never true = refl
    never false = refl

-- one that ends its connection
pub admits-ended : (limit n conn : ℕ) (what : Metered) (log : List Entry) (e : Entry) → is_end e.reply ≡ true → admitted_by limit n conn what log e ≡ []
admits-ended limit n conn what log e ends =
    admitted_is limit n conn what log e
    ∙ (ap (λ b. cond (steps_receiver n conn e.event.act && not b && admits_one limit what (taken log e) e.puts) (e.event.at ∷ []) []) ends
    ∙ never (steps_receiver n conn e.event.act) (admits_one limit what (taken log e) e.puts))
  where
    never : (b c : Bool) → cond (b && false && c) (e.event.at ∷ []) [] ≡ []
    never true c = refl
    never false c = refl

-- ---- by the parts that an act names

receives_elsewhere : (log : List Entry) (n conn : ℕ) (a : Act) → names log a (at connections n) ≡ false → steps_receiver n conn a ≡ false
receives_elsewhere log n conn (act.RecvStep d m) h = grind (arith, nat_tests)
receives_elsewhere log n conn _ h = refl

delivers_elsewhere : (log : List Entry) (n conn : ℕ) (a : Act) → names log a (at channels n) ≡ false → steps_receiver n conn a ≡ false
delivers_elsewhere log n conn (act.RecvStep d m) h = grind (arith, nat_tests)
delivers_elsewhere log n conn _ h = refl

pub receives_unnamed : (configs : List Config) (log : List Entry) (e : Entry) (n : ℕ) (a : Act) → e.event.act ≡ a → names log a (at connections n) ≡ false
    → ((conn : ℕ) → line (log ++ e ∷ []) (queue.Held n conn) ≡ line log (queue.Held n conn)) → ReceivesNone configs log e n
receives_unnamed configs log e n a is h held =
    record { held = held; no_ping = λ conn. admits-unreceived (limit_at configs n) n conn pings log e a is (receives_elsewhere log n conn a h) }

pub admits_unnamed : (configs : List Config) (log : List Entry) (e : Entry) (n : ℕ) (a : Act) → e.event.act ≡ a → names log a (at channels n) ≡ false → AdmitsNone configs log e n
admits_unnamed configs log e n a is h conn c = admits-unreceived (limit_at configs n) n conn (messages c) log e a is (delivers_elsewhere log n conn a h)

-- ---- entries of other acts, and ones that take nothing

pub receives_apart : (configs : List Config) (log : List Entry) (e : Entry) (n : ℕ) (a : Act) → e.event.act ≡ a → ((conn : ℕ) → steps_receiver n conn a ≡ false)
    → ((conn : ℕ) → line (log ++ e ∷ []) (queue.Held n conn) ≡ line log (queue.Held n conn)) → ReceivesNone configs log e n
receives_apart configs log e n a is none held = record { held = held; no_ping = λ conn. admits-unreceived (limit_at configs n) n conn pings log e a is (none conn) }

pub admits_apart : (configs : List Config) (log : List Entry) (e : Entry) (n : ℕ) (a : Act) → e.event.act ≡ a → ((conn : ℕ) → steps_receiver n conn a ≡ false) → AdmitsNone configs log e n
admits_apart configs log e n a is none conn c = admits-unreceived (limit_at configs n) n conn (messages c) log e a is (none conn)

pub receives_nothing : (configs : List Config) (log : List Entry) (e : Entry) (n : ℕ) → taken log e ≡ []
    → ((conn : ℕ) → line (log ++ e ∷ []) (queue.Held n conn) ≡ line log (queue.Held n conn)) → ReceivesNone configs log e n
receives_nothing configs log e n none held = record { held = held; no_ping = λ conn. admits-untaken (limit_at configs n) n conn pings log e none }

pub admits_nothing : (configs : List Config) (log : List Entry) (e : Entry) (n : ℕ) → taken log e ≡ [] → AdmitsNone configs log e n
admits_nothing configs log e n none conn c = admits-untaken (limit_at configs n) n conn (messages c) log e none

-- ---- entries that end a connection

pub admits_ended : (configs : List Config) (log : List Entry) (e : Entry) (n : ℕ) → is_end e.reply ≡ true → AdmitsNone configs log e n
admits_ended configs log e n ends conn c = admits-ended (limit_at configs n) n conn (messages c) log e ends

pub pings_ended : (configs : List Config) (log : List Entry) (e : Entry) (n : ℕ) → is_end e.reply ≡ true → (conn : ℕ) → admitted_by (limit_at configs n) n conn pings log e ≡ []
pings_ended configs log e n ends conn = admits-ended (limit_at configs n) n conn pings log e ends

-- ---- sends

-- whether an act asks the quota of no channel, makes no check and sends by none
abbrev pub SendsNothing : Act → Type 0
SendsNothing a = (are_apart (kinds_of a) send_kinds ≡ true) × (are_apart (kinds_of a) check_kinds ≡ true)

pub sends_apart : (log : List Entry) (e : Entry) (n : ℕ) (a : Act) → e.event.act ≡ a → SendsNothing a → SendsNone log e n
sends_apart log e n a is none = record {
  moments = λ c k. sent_moments-apart log e n c k (ap (λ b. are_apart (kinds_of b) send_kinds) is ∙ none.0);
  checks = λ name. checked_at-apart log e n name (ap (λ b. are_apart (kinds_of b) check_kinds) is ∙ none.1);
}

-- an offer of another node
offers_elsewhere : (log : List Entry) (e : Entry) (n c m : ℕ) (to : Recipients) → Asks e m c to → (m == n) ≡ false → ((name : ℕ) → checked_at (log ++ e ∷ []) n name ≡ checked_at log n name) → SendsNone log e n
offers_elsewhere log e n c m to asks away checks = record { moments = λ d k. sent_moments-elsewhere log e m c to asks n d k away; checks = checks }

-- a check is of the node at which its entry checks
pub checking_is : (log : List Entry) (check : ℕ) (c : Check) → check_of log check ≡ Some c → node_checking (slice_get log check) ≡ c.node
checking_is log check c has = let made : IsMade log check c = is_made log check c has in ap node_checking made.here ∙ ap (λ a. or_first (checked_by a)) made.asks

pub sends_unnamed : (log : List Entry) (e : Entry) (n : ℕ) (a : Act) → e.event.act ≡ a → names log a (at channels n) ≡ false → SendsNone log e n
sends_unnamed log e n (act.Send bytes c m priority to) is h =
    offers_elsewhere log e n c m to (Asks.sends bytes priority is) (let other : (m == n) ≡ false = grind (arith, nat_tests) in other)
    (λ name. checked_at-apart log e n name (ap (λ b. are_apart (kinds_of b) check_kinds) is))
sends_unnamed log e n (act.Check c m to) is h =
    let other : (m == n) ≡ false = grind (arith, nat_tests) in
    offers_elsewhere log e n c m to (Asks.checks is) other (λ name. checked_at-elsewhere log e n name c m to is other)
sends_unnamed log e n (act.SendChecked bytes check priority) is h =
    let other : (node_checking (slice_get log check) == n) ≡ false = grind (arith, nat_tests) in
    record {
      moments = λ c k. sent_moments-apart log e n c k (ap (λ b. are_apart (kinds_of b) send_kinds) is);
      checks = λ name. checked_at-spent_elsewhere log e n name bytes check priority is (λ c has. ap (λ m. m == n) (sym (checking_is log check c has)) ∙ other);
    }
sends_unnamed log e n a is h = sends_apart log e n a is (refl, refl)

-- ---- readers

pub closes_apart : (log : List Entry) (e : Entry) (n : ℕ) (a : Act) → e.event.act ≡ a → are_apart (kinds_of a) reader_kinds ≡ true → stops n a ≡ false → ClosesNone log e n
closes_apart log e n a is apart goes_on = record {
  readers = λ c. is_closed-apart log e n c (ap (λ b. are_apart (kinds_of b) reader_kinds) is ∙ apart);
  goes_on = is_stopped-kept log e n (ap (stops n) is ∙ goes_on);
}

pub closes_unnamed : (log : List Entry) (e : Entry) (n : ℕ) (a : Act) → e.event.act ≡ a → names log a (at channels n) ≡ false → ClosesNone log e n
closes_unnamed log e n (act.Close d m) is h =
    let other : (m == n) ≡ false = grind (arith, nat_tests) in
    record {
      readers = λ c. is_closed-kept log e n c m d is (ap (λ b. (b && (d == c)) && is_done e.reply) other);
      goes_on = is_stopped-kept log e n (ap (stops n) is);
    }
closes_unnamed log e n (act.Stop by_start m) is h = closes_apart log e n (act.Stop by_start m) is refl (let other : (m == n) ≡ false = grind (arith, nat_tests) in other)
closes_unnamed log e n a is h = closes_apart log e n a is refl refl
