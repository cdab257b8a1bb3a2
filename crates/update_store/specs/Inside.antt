-- What the fields of a store mean, and what is true of them.
use Rattle.std.specs.Prelude.{◌≤◌, ◌≡◌, List, [], length, IfSome, IsNone}
use Rattle.std.specs.Option.{option_map}
use Rattle.tw_types.specs.declared.message.Kept.{Kept}
use Rattle.tw_types.specs.Waiting.{Held}
use Rattle.update_store.specs.Stock.{Stock, IsStock}
use Rattle.update_store.specs.declared.store.HeldDecision.{HeldDecision}
use Rattle.update_store.specs.declared.store.Store.TheInside.{Inside}

-- a held decision with its payloads
abbrev pub with_payloads : List Kept → HeldDecision → Held
with_payloads payloads h = record { decision = h.decision; first = h.first; source = h.source; payloads = payloads }

abbrev pub stock_of : Inside → Stock
stock_of s = record { n = s.n; waiting = record { pending = s.pending; held = option_map (with_payloads s.payloads) s.held } }

-- payloads are kept with a held decision alone, and its window has at most 32 entries
pub record IsInside (s : Inside) : Type 0 where
  pub stock : IsStock (stock_of s)
  pub alone : IsNone s.held → s.payloads ≡ []
  pub window : IfSome s.held (λ h. length h.decision.window.items ≤ 32)
