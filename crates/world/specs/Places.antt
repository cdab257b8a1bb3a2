-- Where the bytes of a datagram lie.
use Rattle.std.specs.Prelude.{ℕ, nat_le, Bool, ◌&&◌, List}
use Rattle.std.specs.List.{list_all}
use Rattle.world.specs.declared.sent.Place.{Place}

-- the place ends among so many bytes
abbrev pub is_within : ℕ → Place → Bool
is_within size p = nat_le p.start p.end && nat_le p.end size

abbrev pub are_within : ℕ → List Place → Bool
are_within size places = list_all (is_within size) places
