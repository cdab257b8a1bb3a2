-- What is known of a link over the system.
use Rattle.std.specs.Prelude.{ℕ, Bool, is_some}
use Rattle.tw_system.specs.declared.link.UdpLink.{UdpLink}

-- it is bound
abbrev pub is_bound : {N : Type 0} → UdpLink N → Bool
is_bound link = is_some link.bound

-- how often `bind` or `recv` failed
abbrev pub fault_count : {N : Type 0} → UdpLink N → ℕ
fault_count link = link.faults

-- how often `send` failed
abbrev pub loss_count : {N : Type 0} → UdpLink N → ℕ
loss_count link = link.losses
