-- What the system's calls give.
use Rattle.std.specs.Prelude.{◌≡◌, ◌⊎◌, Option, Some, None}
use Rattle.std.specs.declared.io.ErrorKind.{ErrorKind}
use Rattle.std.specs.declared.io.ErrorKind.TheVariants.{WouldBlock, Interrupted}
use Rattle.std.specs.declared.net.socket_addr.SocketAddr.{SocketAddr}
use Rattle.std.specs.declared.net.socket_addr.SocketAddr.TheVariants.{V4, V6}
use Rattle.std.specs.Net.Addr.{ipv4_octets}
use Rattle.std.specs.Net.Socket.{v4_ip, v4_port}
use Rattle.tw_io.specs.declared.addr.Addr.{Addr}

-- the address and port of IPv4, and None for IPv6
abbrev pub addr_of : SocketAddr → Option Addr
addr_of (V4 a) = Some (record { ip = ipv4_octets (v4_ip a); port = v4_port a })
addr_of (V6 a) = None

-- an error that only says that nothing came: a wait was in vain, or a signal ended it
abbrev pub IsVain : ErrorKind → Type 0
IsVain kind = (kind ≡ WouldBlock) ⊎ (kind ≡ Interrupted)
