-- An aged end is a floor of a fraction that the key and the reading determine, so the order of keys is that of the ends.
use Rattle.std.proofs.Common.{◌≡◌, ℕ, zero, suc, ◌+◌, ◌-◌, ◌*◌, ◌/◌, ◌^◌, ◌<◌, ◌≤◌, refl, sym, arith}
use Rattle.std.proofs.Math.Nat.{div-mul-le_self, mul-add-div_right, lt-mul-div-succ}
use Rattle.std.proofs.lemmas.Nat.{le-div}
use Rattle.tw_num.specs.Interval.{aged_low}
use Rattle.tw_num.specs.Elapsed.{up}
use Rattle.clock_sync.specs.Keys.{low_end, high_end}

pub div_mono : (a b d : ℕ) → 0 < d → a ≤ b → a / d ≤ b / d
div_mono a b d p h = grind arith

pub div_below : (n k d : ℕ) → 0 < d → n < k * d → n / d < k
div_below n k d p h = grind arith

pub low_now_le : (lo d m n : ℕ) → 0 < d → m ≤ d → lo * d ≤ n + m → lo - 1 ≤ n / d
low_now_le zero d m n p q h = omega arith
low_now_le (suc lo) d m n p q h = grind (arith, le-div)

pub low_now_ge : (lo d m n : ℕ) → 0 < d → 0 < m → n ≡ lo * d - m → n / d ≤ lo - 1
low_now_ge zero d m n p q h = grind arith
low_now_ge (suc lo) d m n p q h =
    let below : n < suc lo * d = less (suc lo * d) n m (grind arith) q h in
    let b : n / d < suc lo = div_below n (suc lo) d p below in
    omega arith
  where
    less : (x n m : ℕ) → 0 < x → 0 < m → n ≡ x - m → n < x
    less x n m p q h = omega arith

pub later_le : (lo d k n : ℕ) → 0 < d → lo * d + k ≤ n → lo + k / d ≤ n / d
later_le lo d k n p h = rw (sym (mul-add-div_right p lo k)) (div_mono (lo * d + k) n d p h)

pub later_ge : (lo d k n : ℕ) → 0 < d → n ≤ lo * d + k → n / d ≤ lo + k / d
later_ge lo d k n p h = rw (sym (mul-add-div_right p lo k)) (div_mono n (lo * d + k) d p h)

-- the end of a key that is not below that of an interval, and the end of its own key

pub low_le : (p h h0 lo low : ℕ) → h0 ≤ h → lo * (1000000 + p) + 2 ^ 60 * 1000000 ≤ low + h0 * 1000000 → aged_low lo (h - h0) p ≤ low_end p h low
low_le p h h0 lo low before key = go (h - h0) refl
  where
    go : (t : ℕ) → h - h0 ≡ t → aged_low lo t p ≤ low_end p h low
    go zero e = low_now_le lo (1000000 + p) 1000000 (low + h * 1000000 - (2 ^ 60 + 1) * 1000000) (omega arith) (omega arith) (omega arith)
    go (suc t) e = later_le lo (1000000 + p) (t * 1000000) (low + h * 1000000 - (2 ^ 60 + 1) * 1000000) (omega arith) (omega arith)

pub low_ge : (p h h0 lo low : ℕ) → h0 ≤ h → lo * (1000000 + p) + 2 ^ 60 * 1000000 ≡ low + h0 * 1000000 → low_end p h low ≤ aged_low lo (h - h0) p
low_ge p h h0 lo low before key = go (h - h0) refl
  where
    go : (t : ℕ) → h - h0 ≡ t → low_end p h low ≤ aged_low lo t p
    go zero e = low_now_ge lo (1000000 + p) 1000000 (low + h * 1000000 - (2 ^ 60 + 1) * 1000000) (omega arith) (omega arith) (omega arith)
    go (suc t) e = later_ge lo (1000000 + p) (t * 1000000) (low + h * 1000000 - (2 ^ 60 + 1) * 1000000) (omega arith) (omega arith)

pub high_ge : (p h h0 hi high : ℕ) → p ≤ 1000 → h0 ≤ h → high + h0 * 1000000 ≤ hi * (1000000 - p) + 2 ^ 60 * 1000000 → high_end p h high ≤ hi + up (h - h0) p
high_ge p h h0 hi high small before key = later_ge hi (1000000 - p) ((h - h0 + 1) * 1000000) (high + (h + 1) * 1000000 - 2 ^ 60 * 1000000) (omega arith) (omega arith)

pub high_le : (p h h0 hi high : ℕ) → p ≤ 1000 → h0 ≤ h → hi * (1000000 - p) + 2 ^ 60 * 1000000 ≡ high + h0 * 1000000 → hi + up (h - h0) p ≤ high_end p h high
high_le p h h0 hi high small before key = later_le hi (1000000 - p) ((h - h0 + 1) * 1000000) (high + (h + 1) * 1000000 - 2 ^ 60 * 1000000) (omega arith) (omega arith)

-- ends that are in order stay so

pub stay_in_order : (a b x y P Q m d : ℕ) → 0 < P → 0 < Q → m ≤ P → Q ≤ m → x ≤ a + d * m → b + d * m ≤ y → a / P ≤ b / Q → x / P ≤ y / Q
stay_in_order a b x y P Q m d p q mp qm ax by o =
    let top : a < (a / P + 1) * P = grind (arith, lt-mul-div-succ) in
    let low : a / P * Q ≤ b = grind (arith, div-mul-le_self) in
    let dp : d * m ≤ d * P = grind arith in
    let dq : d * Q ≤ d * m = grind arith in
    let l : x / P < a / P + 1 + d = div_below x (a / P + 1 + d) P p (grind arith) in
    let r : a / P + d ≤ y / Q = le-div (a / P + d) y Q q (grind arith) in
    omega arith
