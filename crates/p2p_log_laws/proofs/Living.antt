-- A connection that begins, runs or ends was made, and has not ended before; and it ends for a reason.
use Rattle.std.proofs.Common.{◌≡◌, ℕ, ◌≤◌, Bool, true, false, cond, List, [], ◌∷◌, ◌++◌, length, Option, Some, None, ◌⊎◌, inl, inr, refl, ap, sym, subst, ◌∙◌, append-nil, append_assoc}
use Rattle.std.specs.Prelude.{◌||◌, map, nat_le, nat_lt}
use Rattle.std.specs.List.{list_any, AllByRecursion as Each}
use Rattle.std.proofs.lemmas.Bool.{and_parts, false≢true}
use Rattle.p2p_log.specs.declared.config.Config.{Config}
use Rattle.p2p_log.specs.declared.queue.Queue.TheVariants as queue
use Rattle.p2p_log.specs.declared.item.Item.{Item}
use Rattle.p2p_log.specs.declared.item.Item.TheVariants as item
use Rattle.p2p_log.specs.declared.item.Envelope.{Envelope}
use Rattle.p2p_log.specs.declared.end.Cause.{Cause}
use Rattle.p2p_log.specs.declared.end.Cause.TheVariants as cause
use Rattle.p2p_log.specs.declared.entry.Ended.{Ended}
use Rattle.p2p_log.specs.declared.entry.Ended.TheVariants as ended
use Rattle.p2p_log.specs.declared.entry.Entry.{Entry}
use Rattle.p2p_log.specs.declared.entry.Reply.TheVariants as reply
use Rattle.p2p_log.specs.declared.event.Event.{Event}
use Rattle.p2p_log.specs.declared.event.Act.{Act}
use Rattle.p2p_log.specs.declared.event.Act.TheVariants as act
use Rattle.p2p_log.specs.Lines.{name_of, live, line}
use Rattle.p2p_log_rules.specs.declared.row.Half.{Half}
use Rattle.p2p_log_rules.specs.declared.row.Row.{Row}
use Rattle.p2p_log_rules.specs.Closing.{is_closed, refused_by}
use Rattle.p2p_log_rules.specs.Connections.{is_done, is_end, is_answer, begins_connection, runs, ends_connection, live_half, is_begun, has_run, is_running, is_ended}
use Rattle.p2p_log_rules.specs.Cutting.{is_broken}
use Rattle.p2p_log_rules.specs.Dropping.{other_side}
use Rattle.p2p_log_rules.specs.Effect
use Rattle.p2p_log_rules.specs.Effect.{row, effect, limit_at}
use Rattle.p2p_log_rules.specs.Ending.{end_row}
use Rattle.p2p_log_rules.specs.Facts.{is_up, channels, capacity_in, taken}
use Rattle.p2p_log_rules.specs.Frames.{message_in, is_ping_in}
use Rattle.p2p_log_rules.specs.Lawful.{IsLawful}
use Rattle.p2p_log_rules.specs.Metering.{pings, messages, may_pass}
use Rattle.p2p_log_rules.specs.Pings.{ping_is_due}
use Rattle.p2p_log_rules.specs.Spawning.{Spawned, connections_of}
use Rattle.p2p_log_rules.proofs.Connections.{half_act, IsEndOf, begin_of, runs_is, is_begun-append, is_begun-none, has_run-append, has_run-none, is_ended-append, is_ended-none, half_parts, is_live}
use Rattle.p2p_log_rules.proofs.Moves.{one_taken, first_has}
use Rattle.p2p_log_rules.proofs.Spawning.{connections_of-late, connections_of-next}
use Rattle.p2p_log_laws.specs.Endings.{IsNoFrame, IsOnNoChannel, HasReason}
use Rattle.p2p_log_laws.proofs.Ending.{ending}
use Rattle.p2p_log_laws.proofs.Fitting.{fits, StandsFit}
use Rattle.p2p_log_laws.proofs.Prefixes.{at_end}

-- ---- the row of an end

-- the connection had a half that had not ended and that ran, and the row is that of an end for a reason that is true
pub record IsEndRow (configs : List Config) (log : List Entry) (n conn : ℕ) (r : Row) : Type 0 where
  pub half : Half
  pub lived : live_half log n conn ≡ Some half
  pub ran : is_running log n conn ≡ true
  pub why : Ended
  pub drops : Cause
  pub taken : List Envelope
  pub is : r ≡ end_row log n conn half why drops taken
  pub reason : HasReason configs log n conn half (map name_of taken) why

module _ (configs : List Config) (log : List Entry) (n conn at : ℕ) (fitting : Each StandsFit (live log)) where
  abbrev Ends : Row → Type 0
  Ends r = is_end r.reply ≡ true → IsEndRow configs log n conn r

  module _ (half : Half) (lived : live_half log n conn ≡ Some half) (ran : is_running log n conn ≡ true) where
    -- ---- a step of a sending half that runs

    written_ends : (broken : Bool) → is_broken log half.link (other_side half.writes) ≡ broken → (due : Bool) (xs : List Envelope)
        → Ends (Effect.written_row log n conn half broken due xs)
    written_ends broken is false [] h = absurd (false≢true h)
    written_ends true is false (x ∷ xs) h =
        record { half = half; lived = lived; ran = ran; why = ended.SendFailed; drops = cause.ConnectionEnded; taken = x ∷ xs; is = refl; reason = is }
    written_ends true is true xs h =
        record { half = half; lived = lived; ran = ran; why = ended.SendFailed; drops = cause.ConnectionEnded; taken = xs; is = refl; reason = is }
    written_ends false is false (x ∷ xs) h = absurd (false≢true h)
    written_ends false is true xs h = absurd (false≢true h)

    -- what it is told is to end
    is_kill : (i : Item) → fits (queue.Control n conn) i ≡ true → i ≡ item.Kill
    is_kill item.Kill fit = refl
    is_kill _ fit = absurd (cc)

    told_kills : (x : Envelope) (xs : List Envelope) → line log (queue.Control n conn) ≡ x ∷ xs → x.item ≡ item.Kill
    told_kills x xs first =
        is_kill x.item (subst (λ q. fits q x.item ≡ true) (one_taken log (queue.Control n conn) x xs first) (first_has StandsFit log (queue.Control n conn) x xs fitting first))

    told_ends : (xs : List Envelope) → line log (queue.Control n conn) ≡ xs → (room : Bool) (r : Row) → Ends r → Ends (Effect.told_to_end_row log n conn half xs room r)
    told_ends (x ∷ xs) is true r rest h =
        record {
          half = half;
          lived = lived;
          ran = ran;
          why = ended.Killed;
          drops = cause.ConnectionEnded;
          taken = x ∷ [];
          is = refl;
          reason = record { oldest = x; later = xs; stood = is; takes = refl; kind = told_kills x xs is };
        }
    told_ends [] is room r rest h = rest h
    told_ends (x ∷ xs) is false r rest h = rest h

    running_ends : (due : Bool) → Ends (Effect.running_row configs log n conn half due)
    running_ends due =
        let most : ℕ = Effect.beside_ping due (Effect.batch_size_at configs n) in
        let broken : Bool = is_broken log half.link (other_side half.writes) in
        told_ends (line log (queue.Control n conn)) refl (nat_lt 0 most) (Effect.written_row log n conn half broken due (Effect.batch log n conn most))
        (written_ends broken refl due (Effect.batch log n conn most))

    -- ---- a step of a receiving half

    never : (r : Row) → is_end r.reply ≡ false → Ends r
    never r lives h = absurd (false≢true (sym lives ∙ h))

    delivered_ends : (o : Option Cause) (name copy : ℕ × ℕ) (message : ℕ × List ℕ) → Ends (Effect.delivered_row o n name half.peer copy message)
    delivered_ends None name copy message = never (Effect.delivered_row None n name half.peer copy message) refl
    delivered_ends (Some why) name copy message = never (Effect.delivered_row (Some why) n name half.peer copy message) refl

    passed_ends : (name copy : ℕ × ℕ) (message : ℕ × List ℕ) (capacity : ℕ) (other : Row) → Ends other → (b : Bool) → Ends (cond b (Effect.deliver_row log n name half.peer copy message capacity) other)
    passed_ends name copy message capacity other h true =
        delivered_ends (refused_by (is_closed log n message.0) (nat_le capacity (length (line log (queue.Channel n message.0))))) name copy message
    passed_ends name copy message capacity other h false = h

    pinged_ends : (name : ℕ × ℕ) (other : Row) → Ends other → (b : Bool) → Ends (cond b (Effect.taken_row name) other)
    pinged_ends name other h true = never (Effect.taken_row name) refl
    pinged_ends name other h false = h

    -- the first frame in flight
    module _ (x : Envelope) (later : List Envelope) (first : line log (queue.Link half.link (other_side half.writes)) ≡ x ∷ later) where
      refused_ends : (why : Ended) (c : Cause) → HasReason configs log n conn half (name_of x ∷ []) why → Ends (Effect.refused_row configs log n conn at half why c x)
      refused_ends why c reason h = record { half = half; lived = lived; ran = ran; why = why; drops = c; taken = x ∷ []; is = refl; reason = reason }

      message_ends : (copy : ℕ × ℕ) (frame : List ℕ) → x.item ≡ item.Frame (Some copy) frame → (o : Option (ℕ × List ℕ)) → message_in frame (limit_at configs n) ≡ o
          → Ends (Effect.message_row configs log n conn at half x copy o)
      message_ends copy frame is None read =
          refused_ends ended.DecodeFailed cause.FrameRefused
          (record { oldest = x; later = later; stood = first; takes = refl; kind = subst (IsNoFrame (limit_at configs n)) (sym is) read })
      message_ends copy frame is (Some message) read = by (capacity_in (channels configs log n) message.0) refl
        where
          by : (o : Option ℕ) → capacity_in (channels configs log n) message.0 ≡ o
              → Ends (elim o [
                | None ↦ Effect.refused_row configs log n conn at half ended.InvalidChannel cause.ChannelUnregistered x
                | Some capacity ↦
                    cond (may_pass configs log n conn at (messages message.0))
                    (Effect.deliver_row log n (name_of x) half.peer copy message capacity)
                    (Effect.hold_row n conn (name_of x) (item.Held message.0 message.1 copy))
              ])
          by None none =
              refused_ends ended.InvalidChannel cause.ChannelUnregistered
              (record { oldest = x; later = later; stood = first; takes = refl; kind = subst (IsOnNoChannel configs log n) (sym is) (message, read, none) })
          by (Some capacity) some =
              passed_ends (name_of x) copy message capacity (Effect.hold_row n conn (name_of x) (item.Held message.0 message.1 copy))
              (never (Effect.hold_row n conn (name_of x) (item.Held message.0 message.1 copy)) refl) (may_pass configs log n conn at (messages message.0))

      ping_ends : (frame : List ℕ) → x.item ≡ item.Frame None frame → (b : Bool) → is_ping_in frame (limit_at configs n) ≡ b → Ends (Effect.ping_row configs log n conn at half x b)
      ping_ends frame is false read =
          refused_ends ended.DecodeFailed cause.FrameRefused
          (record { oldest = x; later = later; stood = first; takes = refl; kind = subst (IsNoFrame (limit_at configs n)) (sym is) read })
      ping_ends frame is true read =
          pinged_ends (name_of x) (Effect.hold_row n conn (name_of x) item.Ping) (never (Effect.hold_row n conn (name_of x) item.Ping) refl) (may_pass configs log n conn at pings)

      frame_ends : (i : Item) → x.item ≡ i → Ends (Effect.frame_row configs log n conn at half x i)
      frame_ends (item.Frame (Some copy) frame) is = message_ends copy frame is (message_in frame (limit_at configs n)) refl
      frame_ends (item.Frame None frame) is = ping_ends frame is (is_ping_in frame (limit_at configs n)) refl
      frame_ends _ is = λ h. absurd (false≢true h)

    receive_ends : (frames : List Envelope) → line log (queue.Link half.link (other_side half.writes)) ≡ frames → Ends (Effect.receive_row configs log n conn at half frames)
    receive_ends [] first = by (is_broken log half.link (other_side half.writes)) refl
      where
        by : (b : Bool) → is_broken log half.link (other_side half.writes) ≡ b
            → Ends (cond b (end_row log n conn half ended.ReceiveFailed cause.ConnectionEnded []) (Effect.only reply.Idle))
        by true is h = record { half = half; lived = lived; ran = ran; why = ended.ReceiveFailed; drops = cause.ConnectionEnded; taken = []; is = refl; reason = is }
        by false is h = absurd (false≢true h)
    receive_ends (x ∷ xs) first = frame_ends x xs first x.item refl

    by_capacity : (name copy : ℕ × ℕ) (message : ℕ × List ℕ) (o : Option ℕ)
        → Ends (elim o [
          | None ↦ Effect.only reply.Idle
          | Some capacity ↦ cond (may_pass configs log n conn at (messages message.0)) (Effect.deliver_row log n name half.peer copy message capacity) (Effect.only reply.Idle)
        ])
    by_capacity name copy message None = never (Effect.only reply.Idle) refl
    by_capacity name copy message (Some capacity) = passed_ends name copy message capacity (Effect.only reply.Idle) (never (Effect.only reply.Idle) refl) (may_pass configs log n conn at (messages message.0))

    retry_ends : (name : ℕ × ℕ) (i : Item) → Ends (Effect.retry_row configs log n conn at half name i)
    retry_ends name (item.Held c bytes copy) = by_capacity name copy (c, bytes) (capacity_in (channels configs log n) c)
    retry_ends name item.Ping = pinged_ends name (Effect.only reply.Idle) (never (Effect.only reply.Idle) refl) (may_pass configs log n conn at pings)
    retry_ends name _ = λ h. absurd (false≢true h)

    held_ends : (xs frames : List Envelope) → line log (queue.Link half.link (other_side half.writes)) ≡ frames → Ends (Effect.held_row configs log n conn at half xs frames)
    held_ends [] frames first = receive_ends frames first
    held_ends (x ∷ xs) frames first = retry_ends (name_of x) x.item

  -- ---- by what is known of its half

  answered_ends : (xs : List Envelope) → Ends (Effect.takes_oldest xs)
  answered_ends [] h = absurd (false≢true h)
  answered_ends (x ∷ xs) h = absurd (false≢true h)

  half_ends : (half : Half) → live_half log n conn ≡ Some half → (begun running : Bool) → is_running log n conn ≡ running → Ends (Effect.half_row configs log n conn at half begun running)
  half_ends half lived false running ran = λ h. absurd (false≢true h)
  half_ends half lived true false ran = answered_ends (line log (queue.RouterAnswer n conn))
  half_ends half lived true true ran = running_ends half lived ran (ping_is_due configs log n conn at)

  sender_ends : (o : Option Half) → live_half log n conn ≡ o → Ends (Effect.sender_row configs log n conn at o)
  sender_ends None lived = λ h. absurd (false≢true h)
  sender_ends (Some half) lived = half_ends half lived (is_begun log n conn) (is_running log n conn) refl

  send_ends : Ends (Effect.send_step_row configs log conn n at)
  send_ends = by (is_up log n)
    where
      by : (b : Bool) → Ends (cond b (Effect.sender_row configs log n conn at (live_half log n conn)) (Effect.only reply.Gone))
      by true = sender_ends (live_half log n conn) refl
      by false = λ h. absurd (false≢true h)

  receiver_ends : (half : Half) → live_half log n conn ≡ Some half → (b : Bool) → is_running log n conn ≡ b → Ends (cond b (Effect.receiver_row configs log n conn at half) (Effect.only reply.Idle))
  receiver_ends half lived true ran = held_ends half lived ran (line log (queue.Held n conn)) (line log (queue.Link half.link (other_side half.writes))) refl
  receiver_ends half lived false ran = λ h. absurd (false≢true h)

  receiving_ends : (o : Option Half) → live_half log n conn ≡ o → Ends (Effect.receiving_row configs log n conn at o)
  receiving_ends None lived = λ h. absurd (false≢true h)
  receiving_ends (Some half) lived = receiver_ends half lived (is_running log n conn) refl

  receive_step_ends : Ends (Effect.recv_step_row configs log conn n at)
  receive_step_ends = by (is_up log n)
    where
      by : (b : Bool) → Ends (cond b (Effect.receiving_row configs log n conn at (live_half log n conn)) (Effect.only reply.Gone))
      by true = receiving_ends (live_half log n conn) refl
      by false = λ h. absurd (false≢true h)

-- ---- all acts

-- the row of an act that ends a connection
abbrev EndsBy : List Config → List Entry → ℕ → ℕ → ℕ → ℕ → Act → Type 0
EndsBy configs log at seed n conn a = is_end (row configs log at seed a).reply ≡ true → IsEndRow configs log n conn (row configs log at seed a)

pub end_row_is : (configs : List Config) (log : List Entry) (ev : Event) (n conn : ℕ) → Each StandsFit (live log) → IsEndOf (effect configs log ev) n conn
    → IsEndRow configs log n conn (row configs log ev.at ev.seed ev.act)
unfolding effect row
end_row_is configs log ev n conn fitting end = by end.sends end.acts end.says
  where
    by : (sends : Bool) → ev.act ≡ half_act sends conn n → EndsBy configs log ev.at ev.seed n conn ev.act
    by true acts = subst (EndsBy configs log ev.at ev.seed n conn) (sym acts) (send_ends configs log n conn ev.at fitting)
    by false acts = subst (EndsBy configs log ev.at ev.seed n conn) (sym acts) (receive_step_ends configs log n conn ev.at fitting)

-- ---- what begins, runs or ends was made

-- an entry makes it
abbrev pub IsMade : List Entry → ℕ → ℕ → Type 0
IsMade log n conn = (c : Spawned) × (connections_of log n conn ≡ Some c)

-- a step of a half is gone, or its connection has not ended
abbrev pub IsOfLive : List Entry → ℕ → ℕ → Row → Type 0
IsOfLive log n conn r = (r ≡ Effect.only reply.Gone) ⊎ ((half : Half) × (live_half log n conn ≡ Some half))

module _ (configs : List Config) (log : List Entry) (n conn at : ℕ) where
  gone_or_live : (f : Option Half → Row) → f None ≡ Effect.only reply.Gone → (o : Option Half) → live_half log n conn ≡ o → IsOfLive log n conn (f o)
  gone_or_live f gone None is = inl gone
  gone_or_live f gone (Some half) is = inr (half, is)

  up_or_gone : (r : Row) → IsOfLive log n conn r → (b : Bool) → IsOfLive log n conn (cond b r (Effect.only reply.Gone))
  up_or_gone r h true = h
  up_or_gone r h false = inl refl

  sends_live : IsOfLive log n conn (Effect.send_step_row configs log conn n at)
  sends_live = up_or_gone (Effect.sender_row configs log n conn at (live_half log n conn)) (gone_or_live (Effect.sender_row configs log n conn at) refl (live_half log n conn) refl) (is_up log n)

  receives_live : IsOfLive log n conn (Effect.recv_step_row configs log conn n at)
  receives_live = up_or_gone (Effect.receiving_row configs log n conn at (live_half log n conn)) (gone_or_live (Effect.receiving_row configs log n conn at) refl (live_half log n conn) refl) (is_up log n)

module _ (configs : List Config) (log : List Entry) (ev : Event) (n conn : ℕ) where
  abbrev r : Row
  r = row configs log ev.at ev.seed ev.act

  pub steps_live : (sends : Bool) → ev.act ≡ half_act sends conn n → IsOfLive log n conn r
  unfolding row
  steps_live true acts = subst (λ a. IsOfLive log n conn (row configs log ev.at ev.seed a)) (sym acts) (sends_live configs log n conn ev.at)
  steps_live false acts = subst (λ a. IsOfLive log n conn (row configs log ev.at ev.seed a)) (sym acts) (receives_live configs log n conn ev.at)

  -- a step that does something is of a connection that was made
  steps_made : (sends : Bool) → ev.act ≡ half_act sends conn n → (r ≡ Effect.only reply.Gone → ⊥) → IsMade log n conn
  steps_made sends acts does = elim (steps_live sends acts) [
    | inl gone ↦ absurd (does gone)
    | inr live ↦ let parts = half_parts log n conn live.0 (is_live log n conn live.0 live.1).at in (parts.connection, parts.made)
  ]

  -- and stays so
  still_made : IsMade log n conn → IsMade (log ++ effect configs log ev ∷ []) n conn
  still_made made = (made.0, connections_of-next log (effect configs log ev) n conn made.0 made.1)

  -- what an entry makes true of it, where it was not before, it makes true by a step that does something
  next_made : (old new : Bool) → (old ≡ true → IsMade log n conn) → (new ≡ true → IsMade log n conn) → (old || new) ≡ true → IsMade (log ++ effect configs log ev ∷ []) n conn
  next_made true new was now h = still_made (was refl)
  next_made false new was now h = still_made (now h)

  pub ends_made : ends_connection n conn log (effect configs log ev) ≡ true → IsMade log n conn
  ends_made h = elim (ending configs log ev n conn h) [
    | inl end ↦ let parts = half_parts log n conn end.half (is_live log n conn end.half end.lived).at in (parts.connection, parts.made)
    | inr over ↦ (over.connection, over.made)
  ]

  begins_made : begins_connection n conn log (effect configs log ev) ≡ true → IsMade log n conn
  unfolding effect
  begins_made h = let begin = begin_of log (effect configs log ev) n conn h in steps_made true begin.0 (λ gone. false≢true (ap (λ (k : Row). is_done k.reply) (sym gone) ∙ begin.1))

  runs_made : runs n conn log (effect configs log ev) ≡ true → IsMade log n conn
  runs_made h = begins_made (and_parts (begins_connection n conn log (effect configs log ev)) (list_any is_answer (taken log (effect configs log ev))) (sym (runs_is log (effect configs log ev) n conn) ∙ h)).0

module _ (configs : List Config) (script : List Event) (log : List Entry) (lawful : IsLawful configs script log) where
  abbrev Makes : (List Entry → ℕ → ℕ → Bool) → List Entry → Type 0
  Makes test l = (n conn : ℕ) → test l n conn ≡ true → IsMade l n conn

  none_ended : Makes is_ended []
  none_ended n conn h = absurd (false≢true (sym (is_ended-none n conn) ∙ h))

  none_begun : Makes is_begun []
  none_begun n conn h = absurd (false≢true (sym (is_begun-none n conn) ∙ h))

  none_run : Makes has_run []
  none_run n conn h = absurd (false≢true (sym (has_run-none n conn) ∙ h))

  pub ended_made : (n conn : ℕ) → is_ended log n conn ≡ true → IsMade log n conn
  ended_made = at_end configs (Makes is_ended) none_ended more script log lawful
    where
      more : (before : List Entry) (ev : Event) → Makes is_ended before → Makes is_ended (before ++ effect configs before ev ∷ [])
      more before ev old n conn h =
          next_made configs before ev n conn (is_ended before n conn) (ends_connection n conn before (effect configs before ev)) (old n conn) (ends_made configs before ev n conn)
          (sym (is_ended-append before (effect configs before ev) n conn) ∙ h)

  pub begun_made : (n conn : ℕ) → is_begun log n conn ≡ true → IsMade log n conn
  begun_made = at_end configs (Makes is_begun) none_begun more script log lawful
    where
      more : (before : List Entry) (ev : Event) → Makes is_begun before → Makes is_begun (before ++ effect configs before ev ∷ [])
      more before ev old n conn h =
          next_made configs before ev n conn (is_begun before n conn) (begins_connection n conn before (effect configs before ev)) (old n conn) (begins_made configs before ev n conn)
          (sym (is_begun-append before (effect configs before ev) n conn) ∙ h)

  pub run_made : (n conn : ℕ) → has_run log n conn ≡ true → IsMade log n conn
  run_made = at_end configs (Makes has_run) none_run more script log lawful
    where
      more : (before : List Entry) (ev : Event) → Makes has_run before → Makes has_run (before ++ effect configs before ev ∷ [])
      more before ev old n conn h =
          next_made configs before ev n conn (has_run before n conn) (runs n conn before (effect configs before ev)) (old n conn) (runs_made configs before ev n conn)
          (sym (has_run-append before (effect configs before ev) n conn) ∙ h)

  -- none that an entry not made yet names
  unmade_late : (n conn : ℕ) → length log ≤ conn → IsMade log n conn → ⊥
  unmade_late n conn late made = let none : connections_of log n conn ≡ None = connections_of-late log n conn late in cc

  pub unended_late : (n conn : ℕ) → length log ≤ conn → is_ended log n conn ≡ false
  unended_late n conn late = by (is_ended log n conn) refl
    where
      by : (b : Bool) → is_ended log n conn ≡ b → b ≡ false
      by false is = refl
      by true is = absurd (unmade_late n conn late (ended_made n conn is))

  pub unbegun_late : (n conn : ℕ) → length log ≤ conn → is_begun log n conn ≡ false
  unbegun_late n conn late = by (is_begun log n conn) refl
    where
      by : (b : Bool) → is_begun log n conn ≡ b → b ≡ false
      by false is = refl
      by true is = absurd (unmade_late n conn late (begun_made n conn is))

-- ---- once it has ended

-- it stays so
pub ended_longer : (log more : List Entry) (n conn : ℕ) → is_ended log n conn ≡ true → is_ended (log ++ more) n conn ≡ true
ended_longer log [] n conn h = ap (λ l. is_ended l n conn) (append-nil log) ∙ h
ended_longer log (e ∷ es) n conn h =
    ap (λ l. is_ended l n conn) (sym (append_assoc log (e ∷ []) es))
    ∙ ended_longer (log ++ e ∷ []) es n conn (is_ended-append log e n conn ∙ ap (λ b. b || ends_connection n conn log e) h)
