-- A copy's way to its relay, as a row records it.
use Rattle.p2p_log_rules.specs.declared.row.Row.{Row}
use Rattle.p2p_log_rules.specs.Effect.{Spread}

-- what a row puts and ends
abbrev pub spread_of : Row → Spread
spread_of r = record { puts = r.puts; ends = r.ends }

-- the row with these puts and ends
abbrev pub with_spread : Row → Spread → Row
with_spread r s = record r { puts = s.puts; ends = s.ends }
