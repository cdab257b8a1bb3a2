-- One text written behind another.
use Rattle.std.proofs.Common.{◌≡◌, ℕ, List, [], ◌++◌, length, take, drop, sym, ap, subst, ◌∙◌, append_assoc, arith}
use Rattle.std.proofs.lemmas.List.{take_at, drop_at, drop-drop, length-append, length-take, length-drop, append-nil}
use Rattle.wire_head.specs.Writing.{Writes}

pub written_then : {old : List ℕ} {place : ℕ} {a mid : List ℕ} {between : ℕ} {b new : List ℕ} {end : ℕ} → Writes old place a mid between → Writes mid between b new end → Writes old place (a ++ b) new end
written_then {old} {place} {a} {mid} {between} {b} {new} {end} w v =
    let first-end = w.end_is in
    let first-room = w.room in
    let second-end = v.end_is in
    let second-room = v.room in
    let front : length (take place old ++ a) ≡ between = omega (arith, length-append (take place old) a, length-take place old) in
    let regrouped : mid ≡ (take place old ++ a) ++ drop between old = w.bytes ∙ sym (append_assoc (take place old) a (drop between old)) in
    let same-length : length mid ≡ length old = omega (arith, front, ap length regrouped, length-append (take place old ++ a) (drop between old), length-drop between old) in
    let taken : take between mid ≡ take place old ++ a = ap (take between) regrouped ∙ take_at (take place old ++ a) (drop between old) between front in
    let kept : drop between mid ≡ drop between old = ap (drop between) regrouped ∙ drop_at (take place old ++ a) (drop between old) between front in
    let behind : drop end mid ≡ drop end old = ap (λ (k : ℕ). drop k mid) second-end ∙ sym (drop-drop (length b) between mid) ∙ ap (drop (length b)) kept ∙ drop-drop (length b) between old ∙ ap (λ (k : ℕ). drop k old) (sym second-end) in
    record {
      bytes = v.bytes ∙ rw (taken, behind) (append_assoc (take place old) a (b ++ drop end old) ∙ ap (λ (x : List ℕ). take place old ++ x) (sym (append_assoc a b (drop end old))));
      end_is = omega (arith, length-append a b);
      room = omega arith;
    }

pub written_last : {old : List ℕ} {place : ℕ} {a new : List ℕ} {end : ℕ} → Writes old place a new end → Writes old place (a ++ []) new end
written_last {old} {place} {a} {new} {end} w = subst (λ (x : List ℕ). Writes old place x new end) (sym (append-nil a)) w
