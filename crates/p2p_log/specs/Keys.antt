-- The order of keys.
use Rattle.std.specs.Ordering.{nat_cmp}
use Rattle.std.specs.declared.cmp.Ordering.{Ordering}
use Rattle.p2p_base.specs.declared.key.Key.{Key}

abbrev pub key_cmp : Key → Key → Ordering
key_cmp a b = nat_cmp a.0 b.0
