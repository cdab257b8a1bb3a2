use Rattle.std.specs.Prelude.{ℕ, List, drop}
use Rattle.tw_io.specs.declared.unread.Unread.{Unread}

-- the bytes that are left
abbrev pub unread : Unread → List ℕ
unread u = drop u.at u.bytes.items
