-- One field more, in a row of fields that are zero.
use Rattle.std.proofs.Common.{◌≡◌, ℕ, zero, suc, ◌+◌, ◌-◌, ◌*◌, ◌<◌, ◌≤◌, ◌==◌, List, ◌++◌, length, Result, Ok, refl, sym, ap, subst, ◌∙◌, append_assoc, add-one, arith}
use Rattle.std.specs.Int.{w64}
use Rattle.std.proofs.lemmas.List.{append-nil, take-append-drop}
use Rattle.tw_types.specs.Bytes.{eight, zeros}
use Rattle.tw_types.specs.declared.datagram.WireFault.{WireFault}
use Rattle.wire_head.specs.Reading.{◌>>=◌, field_at, zeros_at}
use Rattle.wire_head.specs.Writing.{Writes}
use Rattle.wire_head.proofs.Written.{written_then}

abbrev zero_at : List ℕ → ℕ → Result ℕ WireFault
zero_at bytes place = field_at w64 (λ n. n == 0) bytes place

pub zeros_more : (count i : ℕ) (bytes : List ℕ) (place : ℕ) → i < count → zeros_at (count - i) bytes (place + 8 * i) ≡ (zero_at bytes (place + 8 * i) >>= λ none. zeros_at (count - (i + 1)) bytes (place + 8 * (i + 1)))
unfolding zeros_at
zeros_more count i bytes place lt =
    let k : count - i ≡ suc (count - (i + 1)) = omega arith in
    let next : place + 8 * i + 8 ≡ place + 8 * (i + 1) = omega arith in
    rw (k, next) refl

pub zeros_end : (count i : ℕ) (bytes : List ℕ) (place : ℕ) → count ≤ i → zeros_at (count - i) bytes (place + 8 * i) ≡ Ok tt
unfolding zeros_at
zeros_end count i bytes place le =
    let k : count - i ≡ 0 = omega arith in
    rw k refl

zeros_push : (k : ℕ) → zeros k ++ eight 0 ≡ eight 0 ++ zeros k
zeros_push zero = sym (append-nil (eight 0))
zeros_push (suc k) = append_assoc (eight 0) (zeros k) (eight 0) ∙ ap (λ (x : List ℕ). eight 0 ++ x) (zeros_push k)

-- one more field of zeros was written
pub written_more : (old : List ℕ) (place k : ℕ) (mid new : List ℕ) (between end : ℕ) → Writes old place (zeros k) mid between → Writes mid between (eight 0) new end → Writes old place (zeros (k + 1)) new end
written_more old place k mid new between end w v =
    let one-more : zeros k ++ eight 0 ≡ zeros (k + 1) = zeros_push k ∙ ap zeros (sym (add-one k)) in
    subst (λ (x : List ℕ). Writes old place x new end) one-more (written_then w v)

-- before the first
pub written_none : (old : List ℕ) (place : ℕ) → place ≤ length old → Writes old place (zeros 0) old place
written_none old place le = record {
  bytes = sym (take-append-drop place old);
  end_is = omega arith;
  room = le;
}
