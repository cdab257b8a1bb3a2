-- How deliveries go on from one to the next, and what the run is.
use Rattle.std.proofs.Common.{◌≡◌, ◌≢◌, refl, sym, subst, ◌∙◌, ap, ℕ, zero, suc, ◌+◌, ◌-◌, ◌≤◌, ◌<◌, nat_le, nat_lt, Bool, true, false, cond, List, [], ◌∷◌, map, length, filter, filter_map, find, Option, Some, None, arith}
use Rattle.std.specs.Prelude.{◌==◌, ◌&&◌, max, slice_get, slice_set}
use Rattle.std.specs.List.{list_all, range_with_len, cons_option, AllByRecursion}
use Rattle.std.specs.Option.{option_map, option_map_or}
use Rattle.std.proofs.lemmas.Bool.Decides.{nat_tests}
use Rattle.std.proofs.Math.ListN.{length-set}
use Rattle.std.proofs.lemmas.Option.{slice_get_within}
use Rattle.tw_types.specs.declared.team.Team.{Team}
use Rattle.tw_types.specs.declared.message.UpdateId.{UpdateId}
use Rattle.tw_types.specs.declared.message.Kept.{Kept}
use Rattle.tw_types.specs.declared.message.Decision.{Decision}
use Rattle.tw_types.specs.Beliefs.{Log, log_length}
use Rattle.tw_types.specs.Updates.{is_named, is_weak, is_unordered, waits_before, WaitInOrder, may_be_early, next_weak, marked}
use Rattle.tw_types.specs.Logs.{log_at, passed_one, marked_at}
use Rattle.tw_types.specs.Deliveries.{fulfils, positions_from, passes_at, may_pass, is_in_run, run, pass_of, passes, run_passed, early_at, may_go_early, early_positions, as_early, earlies, marked_each, earlies_marked, weaks, weaks_marked, MayBePassed, IsLongestRun, next_pass, PassStep, next_early, IsNextEarly, FirstEarly, EarlyStep, FirstWeak, WeakStep}

-- ---- neighbouring numbers

one_less : (a b : ℕ) → a < b → b - a ≡ suc (b - (a + 1))
one_less a b h = omega arith

nothing_left : (a b : ℕ) → b ≤ a → b - a ≡ 0
nothing_left a b h = omega arith

-- the numbers from a to below b
abbrev numbers : ℕ → ℕ → List ℕ
numbers a b = range_with_len a (b - a)

numbers_cons : (a b : ℕ) → a < b → numbers a b ≡ a ∷ numbers (a + 1) b
numbers_cons a b h = ap (range_with_len a) (one_less a b h)

numbers_none : (a b : ℕ) → b ≤ a → numbers a b ≡ []
numbers_none a b h = ap (range_with_len a) (nothing_left a b h)

filter_same : (p q : ℕ → Bool) (a n : ℕ) → ((j : ℕ) → a ≤ j → p j ≡ q j) → filter p (range_with_len a n) ≡ filter q (range_with_len a n)
filter_same p q a zero h = refl
filter_same p q a (suc n) h =
    ap (λ b. cond b (a ∷ filter p (range_with_len (a + 1) n)) (filter p (range_with_len (a + 1) n))) (h a (omega arith))
    ∙ ap (λ xs. cond (q a) (a ∷ xs) xs) (filter_same p q (a + 1) n (λ j l. h j (omega (arith, l))))

filter_none : (p : ℕ → Bool) (a n : ℕ) → ((j : ℕ) → a ≤ j → p j ≡ false) → filter p (range_with_len a n) ≡ []
filter_none p a zero h = refl
filter_none p a (suc n) h =
    ap (λ b. cond b (a ∷ filter p (range_with_len (a + 1) n)) (filter p (range_with_len (a + 1) n))) (h a (omega arith))
    ∙ filter_none p (a + 1) n (λ j l. h j (omega (arith, l)))

-- where none of the numbers below b is taken, they may be left out
pub skipped : (n : ℕ) (p : ℕ → Bool) (a b end : ℕ) → a + n ≡ b → ((j : ℕ) → a ≤ j → j < b → p j ≡ false) → filter p (numbers a end) ≡ filter p (numbers b end)
skipped zero p a b end e h = let same : a ≡ b = omega arith in ap (λ x. filter p (numbers x end)) same
skipped (suc n) p a b end e h = go (nat_lt a end) refl (skipped n p (a + 1) b end (omega (arith, e)) (λ j l. h j (omega (arith, l))))
  where
    go : (t : Bool) → nat_lt a end ≡ t → filter p (numbers (a + 1) end) ≡ filter p (numbers b end) → filter p (numbers a end) ≡ filter p (numbers b end)
    go true t more =
        let l : a < end = search (arith, nat_tests) in
        ap (filter p) (numbers_cons a end l)
        ∙ ap (λ b. cond b (a ∷ filter p (numbers (a + 1) end)) (filter p (numbers (a + 1) end))) (h a (omega arith) (omega (arith, e)))
        ∙ more
    go false t more =
        let l : end ≤ a = search (arith, nat_tests) in
        ap (filter p) (numbers_none a end l) ∙ sym (ap (filter p) (numbers_none b end (omega (arith, e, l))))

-- the first of some numbers that is taken
pub record IsFirst (p : ℕ → Bool) (a end i : ℕ) : Type 0 where
  pub from : a ≤ i
  pub within : i < end
  pub taken : p i ≡ true
  pub before : (j : ℕ) → a ≤ j → j < i → p j ≡ false

first_in : (p : ℕ → Bool) (a n i : ℕ) → find p (range_with_len a n) ≡ Some i → IsFirst p a (a + n) i
first_in p a zero i e = absurd (cc)
first_in p a (suc n) i e = go (p a) refl e (first_in p (a + 1) n i)
  where
    go : (t : Bool) → p a ≡ t → cond t (Some a) (find p (range_with_len (a + 1) n)) ≡ Some i → (find p (range_with_len (a + 1) n) ≡ Some i → IsFirst p (a + 1) (a + 1 + n) i) → IsFirst p a (a + suc n) i
    go true t f more = let same : a ≡ i = cc in subst (IsFirst p a (a + suc n)) same (record { from = omega arith; within = omega arith; taken = t; before = λ j l m. absurd (omega (arith, l, m)) })
    go false t f more = let r = more f in let from = r.from in let within = r.within in record {
      from = omega (arith, from);
      within = omega (arith, within);
      taken = r.taken;
      before = λ j l m. before r j l m (nat_lt a j) refl;
    }
      where
        before : IsFirst p (a + 1) (a + 1 + n) i → (j : ℕ) → a ≤ j → j < i → (b : Bool) → nat_lt a j ≡ b → p j ≡ false
        before r j l m true s = r.before j (let k : a < j = search (arith, nat_tests) in omega (arith, k)) m
        before r j l m false s = let same : a ≡ j = (let k : j ≤ a = search (arith, nat_tests) in omega (arith, k, l)) in subst (λ x. p x ≡ false) same t

none_in : (p : ℕ → Bool) (a n : ℕ) → find p (range_with_len a n) ≡ None → filter p (range_with_len a n) ≡ []
none_in p a zero e = refl
none_in p a (suc n) e = go (p a) refl e (none_in p (a + 1) n)
  where
    go : (t : Bool) → p a ≡ t → cond t (Some a) (find p (range_with_len (a + 1) n)) ≡ None → (find p (range_with_len (a + 1) n) ≡ None → filter p (range_with_len (a + 1) n) ≡ []) → cond t (a ∷ filter p (range_with_len (a + 1) n)) (filter p (range_with_len (a + 1) n)) ≡ []
    go true t f more = absurd (cc)
    go false t f more = more f

no_other : (p : ℕ → Bool) (a n : ℕ) → find p (range_with_len a n) ≡ None → (j : ℕ) → a ≤ j → j < a + n → p j ≡ false
no_other p a zero e j l m = absurd (omega (arith, l, m))
no_other p a (suc n) e j l m = go (p a) refl e (λ f k. no_other p (a + 1) n f j k (omega (arith, m)))
  where
    go : (t : Bool) → p a ≡ t → cond t (Some a) (find p (range_with_len (a + 1) n)) ≡ None → (find p (range_with_len (a + 1) n) ≡ None → a + 1 ≤ j → p j ≡ false) → p j ≡ false
    go true t f more = absurd (cc)
    go false t f more = by (nat_lt a j) refl
      where
        by : (b : Bool) → nat_lt a j ≡ b → p j ≡ false
        by true s = more f (let k : a < j = search (arith, nat_tests) in omega (arith, k))
        by false s = let same : a ≡ j = (let k : j ≤ a = search (arith, nat_tests) in omega (arith, k, l)) in subst (λ x. p x ≡ false) same t

-- that one is found, and where there is none nothing is
pub first_found : (p : ℕ → Bool) (n a end i : ℕ) → end - a ≡ n → IsFirst p a end i → find p (numbers a end) ≡ Some i
first_found p zero a end i e f = let from = f.from in let within = f.within in absurd (omega (arith, e, from, within))
first_found p (suc n) a end i e f = ap (find p) (numbers_cons a end (omega (arith, e))) ∙ go (nat_lt a i) refl (first_found p n (a + 1) end i (omega (arith, e)))
  where
    go : (t : Bool) → nat_lt a i ≡ t → (IsFirst p (a + 1) end i → find p (numbers (a + 1) end) ≡ Some i) → cond (p a) (Some a) (find p (numbers (a + 1) end)) ≡ Some i
    go true t more =
        let l : a < i = search (arith, nat_tests) in
        ap (λ b. cond b (Some a) (find p (numbers (a + 1) end))) (f.before a (omega arith) l)
        ∙ more (record { from = omega (arith, l); within = f.within; taken = f.taken; before = λ j m. f.before j (omega (arith, m)) })
    go false t more =
        let from = f.from in
        let same : a ≡ i = (let l : i ≤ a = search (arith, nat_tests) in omega (arith, l, from)) in
        ap (λ b. cond b (Some a) (find p (numbers (a + 1) end))) (subst (λ x. p x ≡ true) (sym same) f.taken) ∙ ap Some same

pub none_found : (p : ℕ → Bool) (n a end : ℕ) → end - a ≡ n → ((j : ℕ) → a ≤ j → j < end → p j ≡ false) → find p (numbers a end) ≡ None
none_found p zero a end e h = ap (find p) (numbers_none a end (omega (arith, e)))
none_found p (suc n) a end e h =
    ap (find p) (numbers_cons a end (omega (arith, e)))
    ∙ ap (λ b. cond b (Some a) (find p (numbers (a + 1) end))) (h a (omega arith) (omega (arith, e)))
    ∙ none_found p n (a + 1) end (omega (arith, e)) (λ j m. h j (omega (arith, m)))

filter_map_same : {X Y : Type 0} (f g : X → Option Y) (xs : List X) → ((x : X) → f x ≡ g x) → filter_map f xs ≡ filter_map g xs
filter_map_same f g [] h = refl
filter_map_same f g (x ∷ xs) h = ap (λ o. cons_option o (filter_map f xs)) (h x) ∙ ap (cons_option (g x)) (filter_map_same f g xs h)

-- ---- the entries of a log

-- a position with an entry is one of the log
pub at_within : (i : ℕ) (log : Log) (k : Kept) → log_at i log ≡ Some k → (log.base ≤ i) × (i < log_length log)
at_within i log k is = go (nat_le log.base i) refl is
  where
    go : (b : Bool) → nat_le log.base i ≡ b → cond b (slice_get log.entries (i - log.base)) None ≡ Some k → (log.base ≤ i) × (i < log_length log)
    go true t is =
        let below : log.base ≤ i = search (arith, nat_tests) in
        let within = slice_get_within log.entries (i - log.base) k is in
        (below, omega (arith, below, within))
    go false t is = absurd (cc)

-- where no position may pass or go early, and where one may
pub may_none : (test : Kept → Bool) (found : Option Kept) → found ≡ None → option_map_or test found false ≡ false
may_none test found none = ap (λ o. option_map_or test o false) none

pub may_some : (test : Kept → Bool) (found : Option Kept) (k : Kept) → found ≡ Some k → option_map_or test found false ≡ test k
may_some test found k is = ap (λ o. option_map_or test o false) is

-- ---- the run goes on

-- at a position at the cursor that may pass
run_cons : (team : Team) (d : Decision) (log : Log) → log.passed < log_length log → may_pass team d log log.passed ≡ true → run team d log ≡ log.passed ∷ run team d (passed_one log)
run_cons team d log within may =
    ap (filter (is_in_run team d log)) (numbers_cons log.passed (log_length log) within)
    ∙ ap (λ b. cond b (log.passed ∷ rest) rest) first
    ∙ ap (λ xs. log.passed ∷ xs) (filter_same (is_in_run team d log) (is_in_run team d (passed_one log)) (log.passed + 1) (log_length log - (log.passed + 1)) same)
  where
    rest : List ℕ
    rest = filter (is_in_run team d log) (numbers (log.passed + 1) (log_length log))

    longer : (j : ℕ) → log.passed ≤ j → is_in_run team d log j ≡ (may_pass team d log log.passed && list_all (may_pass team d log) (numbers (log.passed + 1) (j + 1)))
    longer j l = ap (list_all (may_pass team d log)) (numbers_cons log.passed (j + 1) (omega (arith, l)))

    same : (j : ℕ) → log.passed + 1 ≤ j → is_in_run team d log j ≡ is_in_run team d (passed_one log) j
    same j l = longer j (omega (arith, l)) ∙ ap (λ b. b && list_all (may_pass team d log) (numbers (log.passed + 1) (j + 1))) may

    first : is_in_run team d log log.passed ≡ true
    first =
        longer log.passed (omega arith)
        ∙ ap (λ b. b && list_all (may_pass team d log) (numbers (log.passed + 1) (log.passed + 1))) may
        ∙ ap (list_all (may_pass team d log)) (numbers_none (log.passed + 1) (log.passed + 1) (omega arith))

-- at one that may not
run_none : (team : Team) (d : Decision) (log : Log) → may_pass team d log log.passed ≡ false → run team d log ≡ []
run_none team d log may = filter_none (is_in_run team d log) log.passed (log_length log - log.passed) (λ j l.
    ap (list_all (may_pass team d log)) (numbers_cons log.passed (j + 1) (omega (arith, l)))
    ∙ ap (λ b. b && list_all (may_pass team d log) (numbers (log.passed + 1) (j + 1))) may)

-- what the next pass tells of all
pub pass_step : (team : Team) (d : Decision) (log : Log) → PassStep team d log (next_pass team d log)
unfolding passes run_passed
pass_step team d log = go (log_at log.passed log) refl
  where
    stays : (r : List ℕ) → r ≡ [] → record log { passed = log.passed + length r } ≡ log
    stays r e = ap (λ (xs : List ℕ). record log { passed = log.passed + length xs }) e ∙ ap (λ (n : ℕ). record log { passed = n }) (omega arith)

    none : may_pass team d log log.passed ≡ false → (filter_map (λ (i : ℕ). option_map (pass_of i) (log_at i log)) (run team d log) ≡ []) × (record log { passed = log.passed + length (run team d log) } ≡ log)
    none may = (ap (filter_map (λ (i : ℕ). option_map (pass_of i) (log_at i log))) (run_none team d log may), stays (run team d log) (run_none team d log may))

    go : (found : Option Kept) → log_at log.passed log ≡ found → PassStep team d log (next_pass team d log)
    go None is = rw is (none (may_none (passes_at team d log.passed) (log_at log.passed log) is))
    go (Some k) is = by (passes_at team d log.passed k) refl
      where
        by : (t : Bool) → passes_at team d log.passed k ≡ t → PassStep team d log (next_pass team d log)
        by true t =
            let within = at_within log.passed log k is in
            let more = run_cons team d log within.1 (may_some (passes_at team d log.passed) (log_at log.passed log) k is ∙ t) in
            rw is (rw t (record {
              update = k;
              there = is;
              begins =
                  ap (filter_map (λ (i : ℕ). option_map (pass_of i) (log_at i log))) more
                  ∙ ap (λ o. cons_option (option_map (pass_of log.passed) o) (filter_map (λ (i : ℕ). option_map (pass_of i) (log_at i log)) (run team d (passed_one log)))) is;
              goes_on =
                  ap (λ (xs : List ℕ). record log { passed = log.passed + length xs }) more
                  ∙ ap (λ (n : ℕ). record log { passed = n }) (omega arith);
            }))
        by false t = rw is (rw t (none (may_some (passes_at team d log.passed) (log_at log.passed log) k is ∙ t)))

-- ---- the run is the longest one

-- a position that may pass is one of the log
may_within : (team : Team) (d : Decision) (log : Log) (i : ℕ) → may_pass team d log i ≡ true → i < log_length log
may_within team d log i may = go (log_at i log) refl
  where
    go : (found : Option Kept) → log_at i log ≡ found → i < log_length log
    go None is = absurd (cc (may, may_none (passes_at team d i) (log_at i log) is))
    go (Some k) is = (at_within i log k is).1

-- what is left of it when the position at the cursor passed
one_passed : (log : Log) (n : ℕ) → log_length log - log.passed ≡ suc n → log_length (passed_one log) - (passed_one log).passed ≡ n
one_passed log n e = omega (arith, e)

-- the positions of the run are neighbours, each of them may pass, and the one behind them may not
pub record RunShape (team : Team) (d : Decision) (log : Log) : Type 0 where
  pub neighbours : run team d log ≡ range_with_len log.passed (length (run team d log))
  pub within : length (run team d log) ≤ log_length log - log.passed
  pub each : (i : ℕ) → log.passed ≤ i → i < log.passed + length (run team d log) → may_pass team d log i ≡ true
  pub ends : may_pass team d log (log.passed + length (run team d log)) ≡ false

run_shape_none : (team : Team) (d : Decision) (log : Log) → may_pass team d log log.passed ≡ false → RunShape team d log
run_shape_none team d log may =
    let none = run_none team d log may in
    let count : length (run team d log) ≡ 0 = ap length none in
    record {
      neighbours = none ∙ sym (ap (range_with_len log.passed) count);
      within = omega (arith, count);
      each = λ i l m. absurd (omega (arith, count, l, m));
      ends = ap (may_pass team d log) (let same : log.passed + length (run team d log) ≡ log.passed = omega (arith, count) in same) ∙ may;
    }

run_shape_cons : (team : Team) (d : Decision) (log : Log) → may_pass team d log log.passed ≡ true → RunShape team d (passed_one log) → RunShape team d log
run_shape_cons team d log may r =
    let begins = may_within team d log log.passed may in
    let more = run_cons team d log begins may in
    let count : length (run team d log) ≡ suc (length (run team d (passed_one log))) = ap length more in
    let within = r.within in
    record {
      neighbours = more ∙ ap (λ xs. log.passed ∷ xs) r.neighbours ∙ sym (ap (range_with_len log.passed) count);
      within = omega (arith, count, within, begins);
      each = λ i l m. each i l (omega (arith, count, m)) (nat_lt log.passed i) refl;
      ends = ap (may_pass team d log) (let same : log.passed + length (run team d log) ≡ log.passed + 1 + length (run team d (passed_one log)) = omega (arith, count) in same) ∙ r.ends;
    }
  where
    each : (i : ℕ) → log.passed ≤ i → i < log.passed + 1 + length (run team d (passed_one log)) → (t : Bool) → nat_lt log.passed i ≡ t → may_pass team d log i ≡ true
    each i l m true s = r.each i (let k : log.passed < i = search (arith, nat_tests) in omega (arith, k)) m
    each i l m false s = let same : log.passed ≡ i = (let k : i ≤ log.passed = search (arith, nat_tests) in omega (arith, k, l)) in subst (λ x. may_pass team d log x ≡ true) same may

run_shape_of : (n : ℕ) (team : Team) (d : Decision) (log : Log) → log_length log - log.passed ≡ n → RunShape team d log
run_shape_of zero team d log e = go (may_pass team d log log.passed) refl
  where
    go : (t : Bool) → may_pass team d log log.passed ≡ t → RunShape team d log
    go true t = let l = may_within team d log log.passed t in absurd (omega (arith, e, l))
    go false t = run_shape_none team d log t
run_shape_of (suc n) team d log e = go (may_pass team d log log.passed) refl (run_shape_of n team d (passed_one log) (one_passed log n e))
  where
    go : (t : Bool) → may_pass team d log log.passed ≡ t → RunShape team d (passed_one log) → RunShape team d log
    go true t more = run_shape_cons team d log t more
    go false t more = run_shape_none team d log t

pub run_shape : (team : Team) (d : Decision) (log : Log) → RunShape team d log
run_shape team d log = run_shape_of (log_length log - log.passed) team d log refl

pub run_is_longest : (team : Team) (d : Decision) (log : Log) → IsLongestRun team d log (length (run team d log))
run_is_longest team d log =
    let r = run_shape team d log in
    record {
      may = record { within = r.within; each = r.each };
      longest = λ other m. longest other m (nat_lt (length (run team d log)) other) refl;
    }
  where
    longest : (other : ℕ) → MayBePassed team d log other → (t : Bool) → nat_lt (length (run team d log)) other ≡ t → other ≤ length (run team d log)
    longest other m true s =
        let l : length (run team d log) < other = search (arith, nat_tests) in
        let may = m.each (log.passed + length (run team d log)) (omega arith) (omega (arith, l)) in
        absurd (cc (may, (run_shape team d log).ends))
    longest other m false s = search (arith, nat_tests)

-- ---- an entry is marked

-- the log with another entry there
abbrev put : ℕ → Kept → Log → Log
put i k log = record log { entries = slice_set log.entries (i - log.base) k }

marked_is : (i : ℕ) (log : Log) (k : Kept) → log_at i log ≡ Some k → marked_at i log ≡ put i (as_early k) log
marked_is i log k is = rw is refl

get_other : (xs : List Kept) (i j : ℕ) (k : Kept) → j ≢ i → slice_get (slice_set xs i k) j ≡ slice_get xs j
get_other [] i j k ne = refl
get_other (x ∷ xs) zero zero k ne = absurd (ne refl)
get_other (x ∷ xs) zero (suc j) k ne = refl
get_other (x ∷ xs) (suc i) zero k ne = refl
get_other (x ∷ xs) (suc i) (suc j) k ne = get_other xs i j k (λ e. ne (ap suc e))

get_same : (xs : List Kept) (i : ℕ) (k : Kept) → i < length xs → slice_get (slice_set xs i k) i ≡ Some k
get_same [] i k l = absurd (omega (arith, l))
get_same (x ∷ xs) zero k l = refl
get_same (x ∷ xs) (suc i) k l = get_same xs i k (omega (arith, l))

at_put_other : (i j : ℕ) (k : Kept) (log : Log) → log.base ≤ i → j ≢ i → log_at j (put i k log) ≡ log_at j log
at_put_other i j k log below ne = go (nat_le log.base j) refl
  where
    go : (t : Bool) → nat_le log.base j ≡ t → cond (nat_le log.base j) (slice_get (slice_set log.entries (i - log.base) k) (j - log.base)) None ≡ cond (nat_le log.base j) (slice_get log.entries (j - log.base)) None
    go true t =
        let l : log.base ≤ j = search (arith, nat_tests) in
        rw t (get_other log.entries (i - log.base) (j - log.base) k (λ e. ne (let same : j ≡ i = omega (arith, e, l, below) in same)))
    go false t = rw t refl

at_put : (i : ℕ) (k : Kept) (log : Log) → log.base ≤ i → i < log_length log → log_at i (put i k log) ≡ Some k
at_put i k log below within =
    let t : nat_le log.base i ≡ true = search (arith, nat_tests) in
    ap (λ b. cond b (slice_get (slice_set log.entries (i - log.base) k) (i - log.base)) None) t
    ∙ get_same log.entries (i - log.base) k (omega (arith, below, within))

put_length : (i : ℕ) (k : Kept) (log : Log) → log_length (put i k log) ≡ log_length log
put_length i k log = ap (λ n. log.base + n) (length-set log.entries (i - log.base) k)

-- what is known of a log of which one entry was marked
pub record OneMarked (i : ℕ) (k : Kept) (log : Log) (new : Log) : Type 0 where
  pub length : log_length new ≡ log_length log
  pub passed : new.passed ≡ log.passed
  pub base : new.base ≡ log.base
  pub same : log_at i new ≡ Some (as_early k)
  pub others : (j : ℕ) → j ≢ i → log_at j new ≡ log_at j log

pub one_marked : (i : ℕ) (k : Kept) (log : Log) → log_at i log ≡ Some k → OneMarked i k log (marked_at i log)
one_marked i k log is =
    let within = at_within i log k is in
    subst (OneMarked i k log) (sym (marked_is i log k is)) (record {
      length = put_length i (as_early k) log;
      passed = refl;
      base = refl;
      same = at_put i (as_early k) log within.0 within.1;
      others = λ j ne. at_put_other i j (as_early k) log within.0 ne;
    })

-- ---- the early ones go on

-- at the first position of one
record AtFirst (team : Team) (d : Decision) (first : ℕ) (log : Log) (i : ℕ) (k : Kept) : Type 0 where
  there : log_at i log ≡ Some k
  is_first : IsFirst (may_go_early team d log) first (log_length log) i

-- an update that was marked doesn't go early again
marked_stays : (team : Team) (d : Decision) (i : ℕ) (k : Kept) → early_at team d i (as_early k) ≡ false
marked_stays team d i k = go (is_unordered k.entry.order)
  where
    go : (b : Bool) → (b && false && fulfils team d i k.entry.atom) ≡ false
    go true = refl
    go false = refl

-- of the log with the mark, the positions that go early are those behind it
left : (team : Team) (d : Decision) (first : ℕ) (log : Log) (i : ℕ) (k : Kept) → AtFirst team d first log i k → early_positions team d (i + 1) (marked_at i log) ≡ filter (may_go_early team d log) (numbers (i + 1) (log_length log))
left team d first log i k f =
    let m = one_marked i k log f.there in
    ap (λ n. filter (may_go_early team d (marked_at i log)) (numbers (i + 1) n)) m.length
    ∙ filter_same (may_go_early team d (marked_at i log)) (may_go_early team d log) (i + 1) (log_length log - (i + 1)) (λ j l.
    ap (λ o. option_map_or (early_at team d j) o false) (m.others j (λ e. omega (arith, e, l))))

-- and from the first one on there are no others
none_before : (team : Team) (d : Decision) (first : ℕ) (log : Log) (i : ℕ) (k : Kept) → AtFirst team d first log i k → (j : ℕ) → first ≤ j → j < i + 1 → may_go_early team d (marked_at i log) j ≡ false
none_before team d first log i k f j l h = go (nat_lt j i) refl
  where
    go : (t : Bool) → nat_lt j i ≡ t → may_go_early team d (marked_at i log) j ≡ false
    go true t =
        let less : j < i = search (arith, nat_tests) in
        ap (λ o. option_map_or (early_at team d j) o false) ((one_marked i k log f.there).others j (λ e. omega (arith, e, less)))
        ∙ f.is_first.before j l less
    go false t =
        let same : i ≡ j = (let m : i ≤ j = search (arith, nat_tests) in omega (arith, m, h)) in
        subst (λ x. may_go_early team d (marked_at i log) x ≡ false) same (
        may_some (early_at team d i) (log_at i (marked_at i log)) (as_early k) (one_marked i k log f.there).same ∙ marked_stays team d i k)

left_again : (team : Team) (d : Decision) (first : ℕ) (log : Log) (i : ℕ) (k : Kept) → AtFirst team d first log i k → (other : ℕ) → first ≤ other → other ≤ i + 1 → early_positions team d other (marked_at i log) ≡ early_positions team d (i + 1) (marked_at i log)
left_again team d first log i k f other l h =
    skipped (i + 1 - other) (may_go_early team d (marked_at i log)) other (i + 1) (log_length (marked_at i log)) (omega (arith, h)) (λ j m. none_before team d first log i k f j (omega (arith, l, m)))

early_cons : (team : Team) (d : Decision) (first : ℕ) (log : Log) (i : ℕ) (k : Kept) → AtFirst team d first log i k → early_positions team d first log ≡ i ∷ early_positions team d (i + 1) (marked_at i log)
early_cons team d first log i k f =
    let from = f.is_first.from in
    skipped (i - first) (may_go_early team d log) first i (log_length log) (omega (arith, from)) f.is_first.before
    ∙ ap (filter (may_go_early team d log)) (numbers_cons i (log_length log) f.is_first.within)
    ∙ ap (λ b. cond b (i ∷ filter (may_go_early team d log) (numbers (i + 1) (log_length log))) (filter (may_go_early team d log) (numbers (i + 1) (log_length log)))) f.is_first.taken
    ∙ ap (λ xs. i ∷ xs) (sym (left team d first log i k f))

-- an entry reads as early with the mark or without
reads_early : (i : ℕ) (k : Kept) (log : Log) → log_at i log ≡ Some k → (j : ℕ) → option_map as_early (log_at j log) ≡ option_map as_early (log_at j (marked_at i log))
reads_early i k log is j = go (j == i) refl
  where
    go : (t : Bool) → (j == i) ≡ t → option_map as_early (log_at j log) ≡ option_map as_early (log_at j (marked_at i log))
    go true t =
        let same : i ≡ j = search (arith, nat_tests) in
        subst (λ x. option_map as_early (log_at x log) ≡ option_map as_early (log_at x (marked_at i log))) same (
        ap (option_map as_early) is ∙ sym (ap (option_map as_early) (one_marked i k log is).same))
    go false t = sym (ap (option_map as_early) ((one_marked i k log is).others j (λ e. absurd (let f : (j == i) ≡ true = search (arith, nat_tests) in cc (t, f)))))

first_early : (team : Team) (d : Decision) (first : ℕ) (log : Log) (i : ℕ) (k : Kept) → AtFirst team d first log i k → FirstEarly team d first log i
unfolding earlies earlies_marked
first_early team d first log i k f =
    let cons = early_cons team d first log i k f in
    let from = f.is_first.from in
    let new : Log = marked_at i log in
    let again : (other : ℕ) → first ≤ other → other ≤ i + 1 → early_positions team d other new ≡ early_positions team d first new = λ other l h.
    left_again team d first log i k f other l h ∙ sym (left_again team d first log i k f first (omega arith) (omega (arith, from))) in
    let behind : (other : ℕ) → first ≤ other → other ≤ i + 1 → earlies team d other new ≡ earlies team d first new = λ other l h.
    ap (filter_map (λ (j : ℕ). option_map as_early (log_at j new))) (again other l h) in
    let goes_on_behind : (other : ℕ) → first ≤ other → other ≤ i + 1 → earlies_marked team d other new ≡ earlies_marked team d first new = λ other l h.
    ap (λ xs. marked_each xs new) (again other l h) in
    let begins : earlies team d first log ≡ as_early k ∷ earlies team d (i + 1) new =
    ap (filter_map (λ (j : ℕ). option_map as_early (log_at j log))) cons
    ∙ ap (λ o. cons_option (option_map as_early o) (filter_map (λ (j : ℕ). option_map as_early (log_at j log)) (early_positions team d (i + 1) new))) f.there
    ∙ ap (λ xs. as_early k ∷ xs) (filter_map_same (λ (j : ℕ). option_map as_early (log_at j log)) (λ (j : ℕ). option_map as_early (log_at j new)) (early_positions team d (i + 1) new) (reads_early i k log f.there)) in
    let goes_on : earlies_marked team d first log ≡ earlies_marked team d (i + 1) new = ap (λ xs. marked_each xs log) cons in
    record {
      update = k;
      there = f.there;
      from = from;
      begins = begins ∙ ap (λ xs. as_early k ∷ xs) (behind (i + 1) (omega (arith, from)) (omega arith));
      goes_on = goes_on ∙ goes_on_behind (i + 1) (omega (arith, from)) (omega arith);
      behind = behind;
      goes_on_behind = goes_on_behind;
    }

-- a position that goes early has an entry
early_there : (team : Team) (d : Decision) (log : Log) (i : ℕ) → may_go_early team d log i ≡ true → (k : Kept) × (log_at i log ≡ Some k)
early_there team d log i may = go (log_at i log) refl
  where
    go : (found : Option Kept) → log_at i log ≡ found → (k : Kept) × (log_at i log ≡ Some k)
    go None is = absurd (cc (may, may_none (early_at team d i) (log_at i log) is))
    go (Some k) is = (k, is)

-- the next early position is the least one
pub next_is_least : (team : Team) (d : Decision) (log : Log) (from : ℕ) → IsNextEarly team d log from (next_early team d log from)
next_is_least team d log from = go (next_early team d log from) refl
  where
    first : ℕ
    first = max from log.passed

    go : (found : Option ℕ) → next_early team d log from ≡ found → IsNextEarly team d log from found
    go None is = λ i l m. by i l m (may_go_early team d log i) refl
      where
        by : (i : ℕ) → from ≤ i → log.passed ≤ i → (t : Bool) → may_go_early team d log i ≡ t → may_go_early team d log i ≡ false
        by i l m true t =
            let there = early_there team d log i t in
            let within = (at_within i log there.0 there.1).1 in
            absurd (cc (t, no_other (may_go_early team d log) first (log_length log - first) is i (let b : max from log.passed ≤ i = omega (arith, l, m) in b) (let b : i < max from log.passed + (log_length log - max from log.passed) = omega (arith, l, m, within) in b)))
        by i l m false t = t
    go (Some i) is =
        let f = first_in (may_go_early team d log) first (log_length log - first) i is in
        let from_first : max from log.passed ≤ i = f.from in
        record {
          not_below = omega (arith, from_first);
          not_passed = omega (arith, from_first);
          early = f.taken;
          least = λ other l m may. least f other l m may (nat_lt other i) refl;
        }
      where
        least : IsFirst (may_go_early team d log) first (first + (log_length log - first)) i → (other : ℕ) → from ≤ other → log.passed ≤ other → may_go_early team d log other ≡ true → (t : Bool) → nat_lt other i ≡ t → i ≤ other
        least f other l m may true s = absurd (cc (may, f.before other (let b : max from log.passed ≤ other = omega (arith, l, m) in b) (search (arith, nat_tests))))
        least f other l m may false s = search (arith, nat_tests)

-- what the first early position tells of all
pub early_step : (team : Team) (d : Decision) (first : ℕ) (log : Log) → EarlyStep team d first log (find (may_go_early team d log) (positions_from first log))
unfolding earlies earlies_marked
early_step team d first log = go (find (may_go_early team d log) (positions_from first log)) refl
  where
    go : (found : Option ℕ) → find (may_go_early team d log) (positions_from first log) ≡ found → EarlyStep team d first log found
    go None is =
        let none : early_positions team d first log ≡ [] = none_in (may_go_early team d log) first (log_length log - first) is in
        (ap (filter_map (λ (j : ℕ). option_map as_early (log_at j log))) none, ap (λ xs. marked_each xs log) none)
    go (Some i) is =
        let f = first_in (may_go_early team d log) first (log_length log - first) i is in
        let from = f.from in
        let within = f.within in
        let there = early_there team d log i f.taken in
        first_early team d first log i there.0 (record {
          there = there.1;
          is_first = record { from = f.from; within = omega (arith, from, within); taken = f.taken; before = f.before };
        })

-- ---- the pending ones go on

-- an update that waits before another has another id
other_id : (a b : Kept) → waits_before a b ≡ true → (is_named a.entry.id b ≡ false) × (is_named b.entry.id a ≡ false)
other_id a b before = (grind (arith, nat_tests, before), grind (arith, nat_tests, before))

-- where none of these updates has the id none is marked
none_marked : (x : Kept) (pending : List Kept) → AllByRecursion (λ (o : Kept). waits_before x o ≡ true) pending → map (marked x.entry.id) pending ≡ pending
none_marked x [] all = refl
none_marked x (o ∷ pending) all =
    ap (λ b. cond b (as_early o) o ∷ map (marked x.entry.id) pending) (other_id x o all.0).0 ∙ ap (λ xs. o ∷ xs) (none_marked x pending all.1)

-- marking changes no order
order_stays : (x : Kept) (id : UpdateId) (pending : List Kept) → AllByRecursion (λ (o : Kept). waits_before x o ≡ true) pending → AllByRecursion (λ (o : Kept). waits_before x o ≡ true) (map (marked id) pending)
order_stays x id [] all = tt
order_stays x id (o ∷ pending) all = (go (is_named id o), order_stays x id pending all.1)
  where
    go : (b : Bool) → waits_before x (cond b (as_early o) o) ≡ true
    go true = all.0
    go false = all.0

-- what holds of all holds of the one that is found
found_one : (P : Kept → Type 0) (test : Kept → Bool) (pending : List Kept) (k : Kept) → AllByRecursion P pending → find test pending ≡ Some k → P k
found_one P test [] k all e = absurd (cc)
found_one P test (x ∷ pending) k all e = go (test x) refl e (found_one P test pending k all.1)
  where
    go : (t : Bool) → test x ≡ t → cond t (Some x) (find test pending) ≡ Some k → (find test pending ≡ Some k → P k) → P k
    go true t f more = let same : x ≡ k = cc in subst P same all.0
    go false t f more = more f

not_early_again : (k : Kept) → may_be_early (as_early k) ≡ false
not_early_again k = go (is_weak k.entry.atom) (is_unordered k.entry.order)
  where
    go : (a b : Bool) → (a && b && false) ≡ false
    go true true = refl
    go true false = refl
    go false b = refl

named : (k : Kept) → is_named k.entry.id k ≡ true
named k = grind (arith, nat_tests)

-- one that is delivered before its others, and one that isn't
weak_first : (x : Kept) (pending : List Kept) → WaitInOrder (x ∷ pending) → may_be_early x ≡ true → FirstWeak (x ∷ pending) x
weak_first x pending w t =
    let new : map (marked x.entry.id) (x ∷ pending) ≡ as_early x ∷ pending = ap (λ b. cond b (as_early x) x ∷ map (marked x.entry.id) pending) (named x) ∙ ap (λ xs. as_early x ∷ xs) (none_marked x pending w.0) in
    let left : weaks (as_early x ∷ pending) ≡ weaks pending = ap (λ b. map as_early (cond b (as_early x ∷ filter may_be_early pending) (filter may_be_early pending))) (not_early_again x) in
    let left_marked : weaks_marked (as_early x ∷ pending) ≡ as_early x ∷ weaks_marked pending = ap (λ b. cond b (as_early (as_early x)) (as_early x) ∷ weaks_marked pending) (not_early_again x) in
    record {
      begins = ap (λ b. map as_early (cond b (x ∷ filter may_be_early pending) (filter may_be_early pending))) t ∙ ap (λ xs. as_early x ∷ xs) (sym left ∙ sym (ap weaks new));
      goes_on = ap (λ b. cond b (as_early x) x ∷ weaks_marked pending) t ∙ sym left_marked ∙ sym (ap weaks_marked new);
      order = subst WaitInOrder (sym new) w;
    }

weak_later : (x : Kept) (pending : List Kept) (k : Kept) → WaitInOrder (x ∷ pending) → may_be_early x ≡ false → next_weak pending ≡ Some k → FirstWeak pending k → FirstWeak (x ∷ pending) k
weak_later x pending k w t is r =
    let before : waits_before x k ≡ true = found_one (λ (o : Kept). waits_before x o ≡ true) may_be_early pending k w.0 is in
    let new : map (marked k.entry.id) (x ∷ pending) ≡ x ∷ map (marked k.entry.id) pending = ap (λ b. cond b (as_early x) x ∷ map (marked k.entry.id) pending) (other_id x k before).1 in
    let skip : (ps : List Kept) → weaks (x ∷ ps) ≡ weaks ps = λ ps. ap (λ b. map as_early (cond b (x ∷ filter may_be_early ps) (filter may_be_early ps))) t in
    let stays : (ps : List Kept) → weaks_marked (x ∷ ps) ≡ x ∷ weaks_marked ps = λ ps. ap (λ b. cond b (as_early x) x ∷ weaks_marked ps) t in
    record {
      begins = skip pending ∙ r.begins ∙ ap (λ xs. as_early k ∷ xs) (sym (skip (map (marked k.entry.id) pending)) ∙ sym (ap weaks new));
      goes_on = stays pending ∙ ap (λ xs. x ∷ xs) r.goes_on ∙ sym (stays (map (marked k.entry.id) pending)) ∙ sym (ap weaks_marked new);
      order = subst WaitInOrder (sym new) (order_stays x k.entry.id pending w.0, r.order);
    }

weak_some : (pending : List Kept) (k : Kept) → WaitInOrder pending → next_weak pending ≡ Some k → FirstWeak pending k
weak_some [] k w is = absurd (cc)
weak_some (x ∷ pending) k w is = go (may_be_early x) refl is (weak_some pending k w.1)
  where
    go : (t : Bool) → may_be_early x ≡ t → cond t (Some x) (next_weak pending) ≡ Some k → (next_weak pending ≡ Some k → FirstWeak pending k) → FirstWeak (x ∷ pending) k
    go true t f more = let same : x ≡ k = cc in subst (FirstWeak (x ∷ pending)) same (weak_first x pending w t)
    go false t f more = weak_later x pending k w t f (more f)

weak_none : (pending : List Kept) → next_weak pending ≡ None → (weaks pending ≡ []) × (weaks_marked pending ≡ pending)
weak_none [] is = (refl, refl)
weak_none (x ∷ pending) is = go (may_be_early x) refl is (weak_none pending)
  where
    go : (t : Bool) → may_be_early x ≡ t → cond t (Some x) (next_weak pending) ≡ None → (next_weak pending ≡ None → (weaks pending ≡ []) × (weaks_marked pending ≡ pending)) → (weaks (x ∷ pending) ≡ []) × (weaks_marked (x ∷ pending) ≡ x ∷ pending)
    go true t f more = absurd (cc)
    go false t f more = (
      ap (λ b. map as_early (cond b (x ∷ filter may_be_early pending) (filter may_be_early pending))) t ∙ (more f).0,
      ap (λ b. cond b (as_early x) x ∷ weaks_marked pending) t ∙ ap (λ xs. x ∷ xs) (more f).1,
    )

-- what the next weak one tells of all
pub weak_step : (pending : List Kept) → WaitInOrder pending → WeakStep pending (next_weak pending)
weak_step pending w = go (next_weak pending) refl
  where
    go : (found : Option Kept) → next_weak pending ≡ found → WeakStep pending found
    go None is = weak_none pending is
    go (Some k) is = weak_some pending k w is
