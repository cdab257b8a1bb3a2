-- The round trip that a datagram's head tells.
use Rattle.std.specs.Prelude.{ℕ, Option}
use Rattle.std.specs.Option.{option_map}
use Rattle.tw_num.specs.Rate.{RoundTrip}
use Rattle.tw_types.specs.declared.datagram.Echo.{Echo}
use Rattle.tw_types.specs.declared.datagram.Head.{Head}

-- the round trip of an echo in a packet that was sent at sent and received at h
abbrev pub trip : Echo → ℕ → ℕ → RoundTrip
trip echo sent h = record { a = echo.a; b = echo.b; sent = sent; h = h }

-- the round trip of a packet with this head that was received at h, where it has an echo
abbrev pub trip_of : Head → ℕ → Option RoundTrip
trip_of head h = option_map (λ (echo : Echo). trip echo head.sent h) head.echo
