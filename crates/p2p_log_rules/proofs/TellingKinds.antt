-- The kinds of tellings: one for each, of its name.
use Rattle.std.specs.Prelude.{ℕ, ◌==◌, Bool}

pub data Kind : Type 0 where
  node_started : Kind
  node_stopped : Kind
  list_asked : Kind
  list_taken : Kind
  answer_taken : Kind
  dial_asked : Kind
  dial_due : Kind
  attempt_begun : Kind
  addresses_told : Kind
  dial_answered : Kind
  link_opened : Kind
  addresses_taken : Kind
  link_taken : Kind
  attempt_ended : Kind
  end_dropped : Kind
  connection_made : Kind
  channel_registered : Kind
  exchange_ended : Kind
  arrival_taken : Kind
  handshake_begun : Kind
  handshake_took : Kind
  handshake_ended : Kind
  half_stepped : Kind
  connection_ended : Kind
  blocks_ended : Kind
  set_asked : Kind
  addresses_asked : Kind
  block_asked : Kind
  connection_heard : Kind
  dial_weighed : Kind
  listen_weighed : Kind
  release_heard : Kind
  sets_wanted : Kind
  blocks_wanted : Kind
  lists_wanted : Kind
  ready_routed : Kind
  release_routed : Kind
  peers_listed : Kind
  connection_ran : Kind
  ping_put : Kind
  item_admitted : Kind
  sends_admitted : Kind
  check_made : Kind
  check_spent : Kind
  reader_dropped : Kind
  question_answered : Kind
  link_cut : Kind
  update_taken : Kind
  arrival_judged : Kind

-- each has a number, by which it is told from the others
abbrev pub code : Kind → ℕ
code node_started = 0
code node_stopped = 1
code list_asked = 2
code list_taken = 3
code answer_taken = 4
code dial_asked = 5
code dial_due = 6
code attempt_begun = 7
code addresses_told = 8
code dial_answered = 9
code link_opened = 10
code addresses_taken = 11
code link_taken = 12
code attempt_ended = 13
code end_dropped = 14
code connection_made = 15
code channel_registered = 16
code exchange_ended = 17
code arrival_taken = 18
code handshake_begun = 19
code handshake_took = 20
code handshake_ended = 21
code half_stepped = 22
code connection_ended = 23
code blocks_ended = 24
code set_asked = 25
code addresses_asked = 26
code block_asked = 27
code connection_heard = 28
code dial_weighed = 29
code listen_weighed = 30
code release_heard = 31
code sets_wanted = 32
code blocks_wanted = 33
code lists_wanted = 34
code ready_routed = 35
code release_routed = 36
code peers_listed = 37
code connection_ran = 38
code ping_put = 39
code item_admitted = 40
code sends_admitted = 41
code check_made = 42
code check_spent = 43
code reader_dropped = 44
code question_answered = 45
code link_cut = 46
code update_taken = 47
code arrival_judged = 48

abbrev pub same_kind : Kind → Kind → Bool
same_kind j k = code j == code k
