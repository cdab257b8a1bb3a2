-- An address as a node's text has it.
use Rattle.tw_io.specs.declared.addr.Addr.{Addr}
use Rattle.tw_machine.specs.NodeText.{Address}

abbrev pub address_of : Addr → Address
address_of at = record { ip = at.ip; port = at.port }
