-- One item more of a list.
use Rattle.std.proofs.Common.{◌≡◌, ℕ, suc, ◌+◌, ◌-◌, ◌*◌, ◌^◌, ◌<◌, ◌≤◌, List, [], ◌∷◌, ◌++◌, length, get_or, take, Result, Ok, Err, refl, sym, ap, subst, ◌∙◌, arith}
use Rattle.std.specs.List.{flat_map}
use Rattle.std.proofs.lemmas.List.{flat_map_more, take_more}
use Rattle.std.proofs.lemmas.Nat.{mul-le}
use Rattle.wire_head.specs.Writing.{Writes}
use Rattle.wire_head.proofs.Written.{written_then}
use Rattle.wire_head.proofs.Zeros.{written_none}
use Rattle.tw_types.specs.declared.datagram.WireFault.{WireFault}
use Rattle.wire_head.specs.Reading.{◌>>=◌}
use Rattle.wire_body.specs.Lists.{items_at}

module _ {X : Type 0} (size : ℕ) (item_at : List X → List ℕ → ℕ → Result X WireFault) (bytes : List ℕ) where
  pub items_more : (before : List X) (count i place : ℕ) → i < count → items_at size item_at (count - i) before bytes (place + size * i) ≡ (item_at before bytes (place + size * i) >>= λ x. items_at size item_at (count - (i + 1)) (before ++ x ∷ []) bytes (place + size * (i + 1)))
  unfolding items_at
  items_more before count i place lt =
      let k : count - i ≡ suc (count - (i + 1)) = omega arith in
      let next : place + size * i + size ≡ place + size * (i + 1) = grind arith in
      rw (k, next) refl

  pub items_first : (before : List X) (count place : ℕ) → before ≡ [] → items_at size item_at (count - 0) before bytes (place + size * 0) ≡ items_at size item_at count [] bytes place
  items_first before count place none =
      let k : count - 0 ≡ count = omega arith in
      let first : place + size * 0 ≡ place = omega arith in
      rw (k, first, none) refl

  -- where the next item is read, those behind it decide
  pub items_on : (before : List X) (count i place : ℕ) (x : X) {read : Result X WireFault} {all : Result (List X) WireFault} → i < count → read ≡ item_at before bytes (place + size * i) → read ≡ Ok x → items_at size item_at (count - i) before bytes (place + size * i) ≡ all → items_at size item_at (count - (i + 1)) (before ++ x ∷ []) bytes (place + size * (i + 1)) ≡ all
  items_on before count i place x lt is e rest =
      let on : items_at size item_at (count - i) before bytes (place + size * i) ≡ items_at size item_at (count - (i + 1)) (before ++ x ∷ []) bytes (place + size * (i + 1)) = items_more before count i place lt ∙ rw (sym is ∙ e) refl in
      sym on ∙ rest

  -- where it isn't, its fault is that of the list
  pub items_fault : (before : List X) (count i place : ℕ) (fault : WireFault) {read : Result X WireFault} {all : Result (List X) WireFault} → i < count → read ≡ item_at before bytes (place + size * i) → read ≡ Err fault → items_at size item_at (count - i) before bytes (place + size * i) ≡ all → all ≡ Err fault
  items_fault before count i place fault lt is e rest = sym rest ∙ items_more before count i place lt ∙ rw (sym is ∙ e) refl

  pub items_end : (before : List X) (count i place : ℕ) → count ≤ i → items_at size item_at (count - i) before bytes place ≡ Ok before
  unfolding items_at
  items_end before count i place le =
      let k : count - i ≡ 0 = omega arith in
      rw k refl

  -- where none is left, those that were read are all
  pub items_all : (before : List X) (count i place : ℕ) {all : Result (List X) WireFault} → count ≤ i → items_at size item_at (count - i) before bytes place ≡ all → all ≡ Ok before
  items_all before count i place le rest = sym rest ∙ items_end before count i place le

pub none_read : {X : Type 0} (items : List X) → items ≡ [] → length items ≡ 0
none_read items none = ap length none

-- an item of fewer than 64 bytes stands within the room of so many
pub is_room : (size i count place : ℕ) → size < 64 → i < count → place + 64 * count < 2 ^ 14 → place + size * i < 2 ^ 14
is_room size i count place small lt room = omega (arith, mul-le size i 64 count (omega arith) (omega arith))

-- one item more was written
pub written_item : {X : Type 0} (f : X → List ℕ) (old : List ℕ) (place : ℕ) (items : List X) (i : ℕ) (x : X) (mid : List ℕ) (between : ℕ) (new : List ℕ) (end : ℕ) → i < length items → x ≡ get_or items i x → Writes old place (flat_map f (take i items)) mid between → Writes mid between (f x) new end → Writes old place (flat_map f (take (i + 1) items)) new end
written_item {X} f old place items i x mid between new end lt is w v =
    let longer : take (i + 1) items ≡ take i items ++ x ∷ [] = take_more items i x lt ∙ ap (λ (y : X). take i items ++ y ∷ []) (sym is) in
    let text : flat_map f (take i items) ++ f x ≡ flat_map f (take (i + 1) items) = flat_map_more f [] (take i items) x ∙ ap (flat_map f) (sym longer) in
    subst (λ (t : List ℕ). Writes old place t new end) text (written_then w v)

-- before the first
pub written_nothing : (old : List ℕ) (place : ℕ) → place ≤ length old → Writes old place [] old place
written_nothing old place le = written_none old place le
