-- What is found by process, over a range of processes.
use Rattle.std.proofs.Common.{◌≡◌, ℕ, ◌+◌, ◌<◌, ◌≤◌, zero, suc, Bool, true, false, List, [], ◌∷◌, length, map, Option, Some, None, refl, ap, ◌∙◌, cond, arith, eqb, inl, inr}
use Rattle.std.specs.Prelude.{IfSome, find, filter, ◌==◌}
use Rattle.std.specs.List.{filter_map, range_with_len, cons_option, AllByRecursion, list_any}
use Rattle.std.proofs.lemmas.Bool.Decides.{nat_tests}
use Rattle.tw_types.specs.declared.message.Member.{Member}
use Rattle.tw_types.specs.declared.message.Seat.{Seat}
use Rattle.tw_types.specs.declared.message.Report.{Report}
use Rattle.tw_types.specs.declared.message.Decision.{Decision}
use Rattle.tw_types.specs.Ranges.{Distinct, Ascends, IsMadeBy}
use Rattle.tw_types.specs.Decisions.{is_same_member}
use Rattle.tw_types.specs.Groups.{ascending, seat_of}
use Rattle.group_maker.proofs.Ascending.{report_of}

-- ---- filters and finds

pub all_kept : {X : Type 0} (P : X → Type 0) (t : X → Bool) (xs : List X) → AllByRecursion P xs → AllByRecursion P (filter t xs)
all_kept P t [] h = tt
all_kept P t (x ∷ xs) h = go (t x) (all_kept P t xs h.1)
  where
    go : (b : Bool) → AllByRecursion P (filter t xs) → AllByRecursion P (cond b (x ∷ filter t xs) (filter t xs))
    go true rest = (h.0, rest)
    go false rest = rest

pub all_pass : {X : Type 0} (t : X → Bool) (xs : List X) → AllByRecursion (λ x. t x ≡ true) (filter t xs)
all_pass t [] = tt
all_pass t (x ∷ xs) = go (t x) refl (all_pass t xs)
  where
    go : (b : Bool) → t x ≡ b → AllByRecursion (λ y. t y ≡ true) (filter t xs) → AllByRecursion (λ y. t y ≡ true) (cond b (x ∷ filter t xs) (filter t xs))
    go true e rest = (e, rest)
    go false e rest = rest

pub distinct_kept : (t : Report → Bool) (xs : List Report) → Distinct xs → Distinct (filter t xs)
distinct_kept t [] h = tt
distinct_kept t (x ∷ xs) h = go (t x) (distinct_kept t xs h.1)
  where
    go : (b : Bool) → Distinct (filter t xs) → Distinct (cond b (x ∷ filter t xs) (filter t xs))
    go true rest = (all_kept (λ (q : Report). (x.member.who ≡ q.member.who) → ⊥) t xs h.0, rest)
    go false rest = rest

pub find_all : {X : Type 0} (P : X → Type 0) (t : X → Bool) (xs : List X) → AllByRecursion P xs → IfSome (find t xs) P
find_all P t [] h = tt
find_all P t (x ∷ xs) h = go (t x) (find_all P t xs h.1)
  where
    go : (b : Bool) → IfSome (find t xs) P → IfSome (cond b (Some x) (find t xs)) P
    go true rest = h.0
    go false rest = rest

pub find_passes : {X : Type 0} (t : X → Bool) (xs : List X) → IfSome (find t xs) (λ x. t x ≡ true)
find_passes t [] = tt
find_passes t (x ∷ xs) = go (t x) refl (find_passes t xs)
  where
    go : (b : Bool) → t x ≡ b → IfSome (find t xs) (λ y. t y ≡ true) → IfSome (cond b (Some x) (find t xs)) (λ y. t y ≡ true)
    go true e rest = e
    go false e rest = rest

-- a report that is found is of the process that was looked for
pub found_of : (reports : List Report) (who : ℕ) → IfSome (report_of reports who) (λ (r : Report). r.member.who ≡ who)
found_of reports who = go (report_of reports who) (find_passes (λ (r : Report). r.member.who == who) reports)
  where
    go : (o : Option Report) → IfSome o (λ (r : Report). (r.member.who == who) ≡ true) → IfSome o (λ (r : Report). r.member.who ≡ who)
    go None h = tt
    go (Some r) h = grind (arith, nat_tests)

-- ---- over a range

pub all_found : (P : Report → Type 0) (h : ℕ → Option Report) (ks : List ℕ) → ((k : ℕ) → IfSome (h k) P) → AllByRecursion P (filter_map h ks)
all_found P h [] f = tt
all_found P h (k ∷ ks) f = go (h k) (f k) (all_found P h ks f)
  where
    go : (o : Option Report) → IfSome o P → AllByRecursion P (filter_map h ks) → AllByRecursion P (cons_option o (filter_map h ks))
    go None p rest = rest
    go (Some r) p rest = (p, rest)

pub few_found : (h : ℕ → Option Report) (a k : ℕ) → length (filter_map h (range_with_len a k)) ≤ k
few_found h a zero = omega arith
few_found h a (suc k) = go (h a) (few_found h (a + 1) k)
  where
    go : (o : Option Report) → length (filter_map h (range_with_len (a + 1) k)) ≤ k → length (cons_option o (filter_map h (range_with_len (a + 1) k))) ≤ suc k
    go None rest = omega arith
    go (Some r) rest = omega arith

module _ (best : Decision) (me : Member) (t : ℕ) (h : ℕ → Option Report) (is_of : (q : ℕ) → IfSome (h q) (λ (r : Report). r.member.who ≡ q)) where
  above : (x a k : ℕ) → x < a → AllByRecursion (λ (s : Seat). x < s.member.who) (map (seat_of best me t) (filter_map h (range_with_len a k)))
  above x a zero lt = tt
  above x a (suc k) lt = go (h a) (is_of a) (above x (a + 1) k (omega arith))
    where
      go : (o : Option Report) → IfSome o (λ (r : Report). r.member.who ≡ a) → AllByRecursion (λ (s : Seat). x < s.member.who) (map (seat_of best me t) (filter_map h (range_with_len (a + 1) k)))
          → AllByRecursion (λ (s : Seat). x < s.member.who) (map (seat_of best me t) (cons_option o (filter_map h (range_with_len (a + 1) k))))
      go None p rest = rest
      go (Some r) p rest = (omega (arith, p), rest)

  pub seats_ascend : (a k : ℕ) → Ascends (map (seat_of best me t) (filter_map h (range_with_len a k)))
  seats_ascend a zero = tt
  seats_ascend a (suc k) = go (h a) (is_of a) (seats_ascend (a + 1) k)
    where
      go : (o : Option Report) → IfSome o (λ (r : Report). r.member.who ≡ a) → Ascends (map (seat_of best me t) (filter_map h (range_with_len (a + 1) k)))
          → Ascends (map (seat_of best me t) (cons_option o (filter_map h (range_with_len (a + 1) k))))
      go None p rest = rest
      go (Some r) p rest = (above r.member.who (a + 1) k (omega (arith, p)), rest)

  -- the owner's seat is among them, with its support
  made_here : (r : Report) (rest : List Report) → is_same_member r.member me ≡ true → IsMadeBy me.who t (map (seat_of best me t) (r ∷ rest))
  made_here r rest same = rw same (inl (grind (arith, nat_tests), refl, refl))

  made_later : (o : Option Report) (rest : List Report) → IsMadeBy me.who t (map (seat_of best me t) rest) → IsMadeBy me.who t (map (seat_of best me t) (cons_option o rest))
  made_later None rest made = made
  made_later (Some r) rest made = inr made

  pub owner_makes : (r : Report) → h me.who ≡ Some r → is_same_member r.member me ≡ true → (a k : ℕ) → a ≤ me.who → me.who < a + k
      → IsMadeBy me.who t (map (seat_of best me t) (filter_map h (range_with_len a k)))
  owner_makes r e same a zero le lt = absurd (omega arith)
  owner_makes r e same a (suc k) le lt = go (eqb a me.who) refl (λ more. owner_makes r e same (a + 1) k more (omega arith))
    where
      go : (b : Bool) → eqb a me.who ≡ b → (a + 1 ≤ me.who → IsMadeBy me.who t (map (seat_of best me t) (filter_map h (range_with_len (a + 1) k))))
          → IsMadeBy me.who t (map (seat_of best me t) (filter_map h (range_with_len a (suc k))))
      go true eq rest =
          let here : a ≡ me.who = grind (arith, nat_tests) in
          let found : h a ≡ Some r = ap h here ∙ e in
          rw found (made_here r (filter_map h (range_with_len (a + 1) k)) same)
      go false eq rest =
          let other : (a ≡ me.who) → ⊥ = grind (arith, nat_tests) in
          made_later (h a) (filter_map h (range_with_len (a + 1) k)) (rest (omega arith))

-- ---- how many are found

module _ (h g : ℕ → Option Report) (w : ℕ) (same : (q : ℕ) → ((q ≡ w) → ⊥) → h q ≡ g q) where
  same_range : (a k : ℕ) → w < a → filter_map h (range_with_len a k) ≡ filter_map g (range_with_len a k)
  same_range a zero lt = refl
  same_range a (suc k) lt =
      ap (λ o. cons_option o (filter_map h (range_with_len (a + 1) k))) (same a (λ e. omega arith)) ∙ ap (cons_option (g a)) (same_range (a + 1) k (omega arith))

  pub one_more : (r : Report) → h w ≡ Some r → g w ≡ None → (a k : ℕ) → a ≤ w → w < a + k
      → length (filter_map h (range_with_len a k)) ≡ length (filter_map g (range_with_len a k)) + 1
  one_more r there none a zero le lt = absurd (omega arith)
  one_more r there none a (suc k) le lt = go (eqb a w) refl (λ more. one_more r there none (a + 1) k more (omega arith))
    where
      here : a ≡ w → length (cons_option (h a) (filter_map h (range_with_len (a + 1) k))) ≡ length (cons_option (g a) (filter_map g (range_with_len (a + 1) k))) + 1
      here e =
          let found : h a ≡ Some r = ap h e ∙ there in
          let missing : g a ≡ None = ap g e ∙ none in
          let rest = same_range (a + 1) k (omega arith) in
          rw (found, missing, rest) (omega arith)

      later : (o p : Option Report) → o ≡ p → length (filter_map h (range_with_len (a + 1) k)) ≡ length (filter_map g (range_with_len (a + 1) k)) + 1
          → length (cons_option o (filter_map h (range_with_len (a + 1) k))) ≡ length (cons_option p (filter_map g (range_with_len (a + 1) k))) + 1
      later o None e rest = rw e rest
      later o (Some x) e rest = rw e (omega arith)

      go : (b : Bool) → eqb a w ≡ b → (a + 1 ≤ w → length (filter_map h (range_with_len (a + 1) k)) ≡ length (filter_map g (range_with_len (a + 1) k)) + 1)
          → length (cons_option (h a) (filter_map h (range_with_len (a + 1) k))) ≡ length (cons_option (g a) (filter_map g (range_with_len (a + 1) k))) + 1
      go true eq rest = here (grind (arith, nat_tests))
      go false eq rest =
          let other : (a ≡ w) → ⊥ = grind (arith, nat_tests) in
          later (h a) (g a) (same a other) (rest (omega arith))

none_found : (a k : ℕ) → length (filter_map (report_of []) (range_with_len a k)) ≡ 0
none_found a zero = refl
none_found a (suc k) = none_found (a + 1) k

not_there : (who : ℕ) (xs : List Report) → AllByRecursion (λ (q : Report). (who ≡ q.member.who) → ⊥) xs → report_of xs who ≡ None
not_there who [] h = refl
not_there who (x ∷ xs) h = go (x.member.who == who) refl (not_there who xs h.1)
  where
    go : (b : Bool) → (x.member.who == who) ≡ b → report_of xs who ≡ None → cond b (Some x) (report_of xs who) ≡ None
    go true e rest = absurd (h.0 (grind (arith, nat_tests)))
    go false e rest = rest

-- each of reports of different processes gets its seat
pub ascending-length : (n : ℕ) (xs : List Report) → Distinct xs → AllByRecursion (λ (r : Report). r.member.who < n) xs → length (ascending n xs) ≡ length xs
ascending-length n [] apart low = none_found 0 n
ascending-length n (x ∷ xs) apart low =
    let more = one_more (report_of (x ∷ xs)) (report_of xs) x.member.who others x here (not_there x.member.who xs apart.0) 0 n (omega arith) (omega (arith, low.0)) in
    let rest = ascending-length n xs apart.1 low.1 in
    omega (arith, more, rest)
  where
    here : report_of (x ∷ xs) x.member.who ≡ Some x
    here = let yes : (x.member.who == x.member.who) ≡ true = grind (arith, nat_tests) in rw yes refl

    others : (q : ℕ) → ((q ≡ x.member.who) → ⊥) → report_of (x ∷ xs) q ≡ report_of xs q
    others q ne = let no : (x.member.who == q) ≡ false = grind (arith, nat_tests) in rw no refl

-- a member's own report is the one of its process
pub own_report : (me : Member) (xs : List Report) → Distinct xs → list_any (λ (r : Report). is_same_member r.member me) xs ≡ true
    → (r : Report) × (report_of xs me.who ≡ Some r) × (is_same_member r.member me ≡ true)
own_report me [] apart there = cc
own_report me (x ∷ xs) apart there = go (is_same_member x.member me) refl (λ rest. own_report me xs apart.1 rest)
  where
    later : (b : Bool) → (x.member.who == me.who) ≡ b → (r : Report) → report_of xs me.who ≡ Some r → is_same_member r.member me ≡ true
        → (r : Report) × (cond b (Some x) (report_of xs me.who) ≡ Some r) × (is_same_member r.member me ≡ true)
    later true e r found same =
        let apart_from = find_all (λ (q : Report). (x.member.who ≡ q.member.who) → ⊥) (λ (r : Report). r.member.who == me.who) xs apart.0 in
        let other = rw found at apart_from in
        absurd (other (grind (arith, nat_tests)))
    later false e r found same = (r, found, same)

    go : (b : Bool) → is_same_member x.member me ≡ b → (list_any (λ (r : Report). is_same_member r.member me) xs ≡ true → (r : Report) × (report_of xs me.who ≡ Some r) × (is_same_member r.member me ≡ true))
        → (r : Report) × (report_of (x ∷ xs) me.who ≡ Some r) × (is_same_member r.member me ≡ true)
    go true e rest = let yes : (x.member.who == me.who) ≡ true = grind (arith, nat_tests) in (x, rw yes refl, e)
    go false e rest =
        let found = rest (rw e at there) in
        later (x.member.who == me.who) refl found.0 found.1 found.2
