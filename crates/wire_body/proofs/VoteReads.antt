-- Promises and no-decisions: what is read is spelled so, and what is spelled so is read.
use Rattle.std.proofs.Common.{◌≡◌, ℕ, zero, suc, ◌+◌, ◌*◌, ◌^◌, ◌<◌, ◌≤◌, ◌⊎◌, inl, inr, cond, Bool, true, false, not, nat_lt, nat_le, ◌==◌, ◌&&◌, ◌||◌, List, [], ◌∷◌, length, Option, Some, None, refl, sym, ap, ◌∙◌, append_assoc, arith}
use Rattle.std.specs.Prelude.{IfSome, is_some}
use Rattle.std.specs.List.{flat_map, list_all, fold, AllByRecursion}
use Rattle.std.specs.Option.{option_map}
use Rattle.std.specs.Int.{w8, w64}
use Rattle.std.proofs.lemmas.Bool.{eqb-true}
use Rattle.std.proofs.lemmas.Bool.{and_parts, and_from}
use Rattle.std.proofs.lemmas.Bool.Decides.{nat_tests}
use Rattle.tw_types.specs.declared.message.Member.{Member}
use Rattle.tw_types.specs.declared.message.Kind.{Kind}
use Rattle.tw_types.specs.declared.message.Kind.TheVariants.{Informed, Ready}
use Rattle.tw_types.specs.declared.message.Report.{Report}
use Rattle.tw_types.specs.declared.message.Decision.{Decision}
use Rattle.tw_types.specs.declared.datagram.Head.{Head}
use Rattle.tw_types.specs.declared.datagram.WireFault.TheVariants.{Field}
use Rattle.tw_types.specs.Bytes.{eight, presence, counted, IsCount}
use Rattle.tw_types.specs.Ranges.{ReportFits, IsBelow, Distinct, IsTold, PromiseFits, IsNotBelow, IsOf, IsGreatest, NoDecisionFits}
use Rattle.tw_types.specs.Spelling.{kind_number, report_bytes, decision_bytes, body_bytes}
use Rattle.wire_head.specs.Reading.{is_count}
use Rattle.wire_head.proofs.Numbers.{IsBytes, wide8, wide64, Reads}
use Rattle.wire_head.proofs.Steps.{step, last, last_to, renamed, respelled, fixed_reads, checked_reads, count_reads, positive_reads, byte_to_reads, byte_below_reads, guarded_to}
use Rattle.wire_body.specs.Decisions.{is_told, decision_at, decision_size}
use Rattle.wire_body.specs.Votes.{is_reporter, kind_from, is_reported_group, last_kind, report_at, sender, is_informed, is_with_decision, number_if, Promised, promise_at, promise_of, optional_size, later, latest, Gathered, is_report_count, reports_at, no_decision_at, no_decision_of}
use Rattle.wire_body.proofs.ListReads.{Row, list_reads, counted_reads, optional_reads, presence_known, presence_again, all_map, all_passed, all_pass, IsNext, row_to, row_from}
use Rattle.wire_body.proofs.DecisionReads.{IsTold as IsToldNumber, told_to, told_from, IsToldCount, count_to, count_from, IsDecision, decision_reads}

-- ---- reports

abbrev IsOther : ℕ → Report → Type 0
IsOther who r = (r.member.who ≡ who) → ⊥

not_same : (a b : ℕ) → not (a == b) ≡ true → a ≡ b → ⊥
not_same a b t e = absurd (grind (arith, nat_tests))

same_not : (a b : ℕ) → ((a ≡ b) → ⊥) → not (a == b) ≡ true
same_not a b differ = by_test (a == b) refl
  where
    by_test : (t : Bool) → (a == b) ≡ t → not (a == b) ≡ true
    by_test true e = absurd (differ (eqb-true a b e))
    by_test false e = rw e refl

record IsReporter (n : ℕ) (told : Option Member) (before : List Report) (who : ℕ) : Type 0 where
  limit : who < n
  told_is : IsToldNumber (option_map (λ (m : Member). m.who) told) who
  other : AllByRecursion (IsOther who) before

reporter_to : (n : ℕ) (told : Option Member) (before : List Report) (who : ℕ) → is_reporter n told before who ≡ true → IsReporter n told before who
reporter_to n told before who t =
    let h = and_parts (nat_lt who n && is_told (option_map (λ (m : Member). m.who) told) who) (list_all (λ (r : Report). not (r.member.who == who)) before) t in
    let g = and_parts (nat_lt who n) (is_told (option_map (λ (m : Member). m.who) told) who) h.0 in
    record {
      limit = let l = g.0 in grind (arith, nat_tests);
      told_is = told_to (option_map (λ (m : Member). m.who) told) who g.1;
      other = all_passed (λ (r : Report). not (r.member.who == who)) (IsOther who) (λ r p. not_same r.member.who who p) before h.1;
    }

reporter_from : (n : ℕ) (told : Option Member) (before : List Report) (who : ℕ) → IsReporter n told before who → is_reporter n told before who ≡ true
reporter_from n told before who is =
    let l = is.limit in
    and_from (nat_lt who n && is_told (option_map (λ (m : Member). m.who) told) who) (list_all (λ (r : Report). not (r.member.who == who)) before)
    (and_from (nat_lt who n) (is_told (option_map (λ (m : Member). m.who) told) who) (grind (arith, nat_tests)) (told_from (option_map (λ (m : Member). m.who) told) who is.told_is))
    (all_pass (λ (r : Report). not (r.member.who == who)) (IsOther who) (λ r p. same_not r.member.who who p) before is.other)

kind_back : (k : ℕ) → k ≤ 1 → kind_number (kind_from k) ≡ k
kind_back zero le = refl
kind_back (suc zero) le = refl
kind_back (suc (suc k)) le = absurd (omega arith)

kind_again : (k : Kind) → kind_from (kind_number k) ≡ k
kind_again Informed = refl
kind_again Ready = refl

last_kind_small : (told : Option Member) → last_kind told ≤ 1
last_kind_small None = omega arith
last_kind_small (Some m) = omega arith

record IsReportedGroup (number : ℕ) (told : Option Member) (kind group : ℕ) : Type 0 where
  count : IsCount group
  below : kind ≡ 0 → group < number
  some : told ≡ None → 1 ≤ group

reported_to : (number : ℕ) (told : Option Member) (kind group : ℕ) → is_reported_group number told kind group ≡ true → IsReportedGroup number told kind group
reported_to number told kind group t =
    let h = and_parts (is_count group && (not (kind == 0) || nat_lt group number)) (is_some told || nat_le 1 group) t in
    let g = and_parts (is_count group) (not (kind == 0) || nat_lt group number) h.0 in
    record {
      count = let l = g.0 in grind (arith, nat_tests);
      below = λ e. let l = rw e at g.1 in grind (arith, nat_tests);
      some = λ e. let l = rw e at h.1 in grind (arith, nat_tests);
    }

reported_from : (number : ℕ) (told : Option Member) (kind group : ℕ) → IsReportedGroup number told kind group → is_reported_group number told kind group ≡ true
reported_from number told kind group is =
    let c = is.count in
    and_from (is_count group && (not (kind == 0) || nat_lt group number)) (is_some told || nat_le 1 group)
    (and_from (is_count group) (not (kind == 0) || nat_lt group number) (grind (arith, nat_tests)) (by_kind kind is.below))
    (by_told told is.some)
  where
    by_kind : (k : ℕ) → (k ≡ 0 → group < number) → (not (k == 0) || nat_lt group number) ≡ true
    by_kind zero below = let l = below refl in grind (arith, nat_tests)
    by_kind (suc k) below = let other : (suc k == 0) ≡ false = grind (arith, nat_tests) in rw other refl

    by_told : (m : Option Member) → (m ≡ None → 1 ≤ group) → (is_some m || nat_le 1 group) ≡ true
    by_told None some = let l = some refl in grind (arith, nat_tests)
    by_told (Some m) some = refl

-- a report that fits a vote on this number; where none was told it is gathered
record IsReport (n number : ℕ) (told : Option Member) (before : List Report) (r : Report) : Type 0 where
  fits : ReportFits n r
  below : r.kind ≡ Informed → r.group < number
  who : IsToldNumber (option_map (λ (m : Member). m.who) told) r.member.who
  incarnation : IsToldNumber (option_map (λ (m : Member). m.incarnation) told) r.member.incarnation
  kind : kind_number r.kind ≤ last_kind told
  some : told ≡ None → 1 ≤ r.group
  other : AllByRecursion (IsOther r.member.who) before

informed_zero : (k : Kind) → kind_number k ≡ 0 → k ≡ Informed
informed_zero Informed e = refl
informed_zero Ready e = absurd (omega arith)

zero_informed : (k : Kind) → k ≡ Informed → kind_number k ≡ 0
zero_informed k e = rw e refl

report_reads : (n : ℕ) → n < 2 ^ 8 → (number : ℕ) (told : Option Member) (bytes : List ℕ) (fits : IsBytes bytes) (before : List Report) (place next : ℕ) → next ≡ place + 51 → Reads bytes place (IsReport n number told before) report_bytes (λ r. next) (report_at n number told before bytes place)
unfolding report_at
report_reads n small number told bytes fits before place next e =
    respelled report_bytes (λ r. simp append_assoc)
    (renamed (IsReport n number told before)
    (step (λ (r : Report). r.member.who) (checked_reads w8 (2 ^ 8) wide8 (is_reporter n told before) (Field place) (IsReporter n told before) (reporter_to n told before) (λ m is. let l = is.limit in (omega arith, reporter_from n told before m is)) bytes fits place (place + 1) refl) (λ who who-is.
    step (λ (r : Report). r.member.incarnation) (checked_reads w64 (2 ^ 64) wide64 (λ i. is_count i && is_told (option_map (λ (m : Member). m.incarnation) told) i) (Field (place + 1)) (IsToldCount (option_map (λ (m : Member). m.incarnation) told)) (count_to (option_map (λ (m : Member). m.incarnation) told)) (count_from (option_map (λ (m : Member). m.incarnation) told)) bytes fits (place + 1) (place + 9) (omega arith)) (λ incarnation incarnation-is.
    step (λ (r : Report). kind_number r.kind) (byte_to_reads bytes fits (place + 9) (place + 10) (last_kind told) (let l = last_kind_small told in omega arith) (omega arith)) (λ kind kind-is.
    step (λ (r : Report). r.group) (checked_reads w64 (2 ^ 64) wide64 (is_reported_group number told kind) (Field (place + 10)) (IsReportedGroup number told kind) (reported_to number told kind) (λ g is. let c = is.count in (omega arith, reported_from number told kind g is)) bytes fits (place + 10) (place + 18) (omega arith)) (λ group group-is.
    step (λ (r : Report). r.turn) (count_reads bytes fits (place + 18) (place + 26) (omega arith)) (λ turn turn-is.
    step (λ (r : Report). r.length) (count_reads bytes fits (place + 26) (place + 34) (omega arith)) (λ length length-is.
    step (λ (r : Report). r.support) (optional_reads 1 _ IsCount eight bytes fits (place + 34) (place + 43) (omega arith) (count_reads bytes fits (place + 34 + 1) (place + 43) (omega arith))) (λ support support-is.
    step (λ (r : Report). r.reading) (count_reads bytes fits (place + 43) next (omega arith)) (λ reading reading-is.
    last (record { member = record { who = who; incarnation = incarnation }; kind = kind_from kind; group = group; turn = turn; length = length; support = support; reading = reading }))
    (λ reading reading-is r is. ap (λ (z : Report). z.reading) is))
    (λ support support-is r is. ap (λ (z : Report). z.support) is.1))
    (λ length length-is r is. ap (λ (z : Report). z.length) is.1.1))
    (λ turn turn-is r is. ap (λ (z : Report). z.turn) is.1.1.1))
    (λ group group-is r is. ap (λ (z : Report). z.group) is.1.1.1.1))
    (λ kind kind-is r is. ap (λ (z : Report). kind_number z.kind) is.1.1.1.1.1 ∙ kind_back kind (let l = last_kind_small told in omega arith)))
    (λ incarnation incarnation-is r is. ap (λ (z : Report). z.member.incarnation) is.1.1.1.1.1.1))
    (λ who who-is r is. ap (λ (z : Report). z.member.who) is.1.1.1.1.1.1.1))
    (λ r is.
    let group = is.1.1.1.0 in
    let a = is.1.1.1.1 in
    record {
      fits = record { who = is.0.limit; incarnation = is.1.0.count; group = group.count; turn = a.0; length = a.1.0; support = a.1.1.0; reading = a.1.1.1.0 };
      below = λ e. group.below (zero_informed r.kind e);
      who = is.0.told_is;
      incarnation = is.1.0.told_is;
      kind = is.1.1.0;
      some = group.some;
      other = is.0.other;
    })
    (λ r is.
    let f = is.fits in (
      record { limit = f.who; told_is = is.who; other = is.other },
      (
        record { count = f.incarnation; told_is = is.incarnation },
        (
          is.kind,
          (
            record { count = f.group; below = λ e. is.below (informed_zero r.kind e); some = is.some },
            (f.turn, (f.length, (f.support, (f.reading, ap (λ (k : Kind). record { member = r.member; kind = k; group = r.group; turn = r.turn; length = r.length; support = r.support; reading = r.reading }) (sym (kind_again r.kind)))))),
          ),
        ),
      ),
    )))

-- ---- a promise

kind_small : (k : Kind) → kind_number k ≤ 1
kind_small Informed = omega arith
kind_small Ready = omega arith

informed_to : (k : Kind) → is_informed k ≡ true → k ≡ Informed
informed_to Informed t = refl
informed_to Ready t = absurd cc

number_small : (b : Bool) → number_if b < 2 ^ 8
number_small true = omega arith
number_small false = omega arith

number_one : (b : Bool) → 1 ≡ number_if b → b ≡ true
number_one true e = refl
number_one false e = absurd (omega arith)

number_none : (b : Bool) → 0 ≡ number_if b → b ≡ false
number_none true e = absurd (omega arith)
number_none false e = refl

told_decision : (n : ℕ) (r : Report) (o : Option Decision) → presence o ≡ number_if (is_with_decision r) → IfSome o (IsDecision n (Some r.group) (Some r.turn)) → IsTold n r o
told_decision n r None e is = λ informed.
    let none = number_none (is_with_decision r) e in
    let one : is_informed r.kind ≡ true = rw informed refl in
    let low = rw one at none in
    grind (arith, nat_tests)
told_decision n r (Some d) e is =
    let h = and_parts (is_informed r.kind) (nat_le 1 r.group) (number_one (is_with_decision r) e) in
    (informed_to r.kind h.0, (let l = h.1 in grind (arith, nat_tests)), is.group, is.turn, is.fits)

decision_told : (n : ℕ) (r : Report) (o : Option Decision) → IsTold n r o → (presence o ≡ number_if (is_with_decision r)) × IfSome o (IsDecision n (Some r.group) (Some r.turn))
decision_told n r None is = (none_told r.kind is, tt)
  where
    none_told : (k : Kind) → (k ≡ Informed → r.group ≡ 0) → 0 ≡ number_if (is_informed k && nat_le 1 r.group)
    none_told Informed is = let z = is refl in rw z refl
    none_told Ready is = refl
decision_told n r (Some d) is =
    let one : is_informed r.kind ≡ true = rw is.0 refl in
    let some : nat_le 1 r.group ≡ true = let l = is.1 in grind (arith, nat_tests) in
    (rw (one, some) refl, record { fits = is.4; group = is.2; turn = is.3 })

pub promise_reads : (n : ℕ) → n < 2 ^ 8 → (h : Head) (bytes : List ℕ) (fits : IsBytes bytes) → Reads bytes 57 (λ (p : Promised). PromiseFits n h p.number p.report p.decision) (λ p. body_bytes (promise_of p)) (λ p. 117 + optional_size p.decision) (promise_at n h bytes)
unfolding promise_at
promise_reads n small h bytes fits =
    renamed (λ (p : Promised). PromiseFits n h p.number p.report p.decision)
    (step (λ (p : Promised). p.number) (positive_reads bytes fits 57 65 refl) (λ number number-is.
    step (λ (p : Promised). p.report) (report_reads n small number (Some (sender h)) bytes fits [] 65 116 refl) (λ report report-is.
    step (λ (p : Promised). presence p.decision) (fixed_reads bytes fits 116 117 w8 (2 ^ 8) wide8 (number_if (is_with_decision report)) (number_small (is_with_decision report)) (Field 116) refl) (λ present present-is.
    step (λ (p : Promised). p.decision) (guarded_to (present == 1) 0 (decision_at n (Some report.group) (Some report.turn)) (IsDecision n (Some report.group) (Some report.turn)) decision_bytes bytes fits 117 (λ o. 117 + optional_size o) refl (decision_reads n small (Some report.group) (Some report.turn) bytes fits 117)) (λ decision decision-is.
    last_to (record { number = number; report = report; decision = decision }) (λ p. 117 + optional_size p.decision) refl)
    (λ decision decision-is p is. ap (λ (z : Promised). z.decision) is))
    (λ present present-is p is. presence_known present p.decision (present_small present report present-is) is.0.there))
    (λ report report-is p is. ap (λ (z : Promised). z.report) is.1.1))
    (λ number number-is p is. ap (λ (z : Promised). z.number) is.1.1.1))
    (λ p is.
    let r = is.1.0 in
    record { number_fits = is.0; report = r.fits; who = r.who; incarnation = r.incarnation; below = r.below; decision = told_decision n p.report p.decision is.1.1.0 is.1.1.1.0.inner })
    (λ p is.
    let t = decision_told n p.report p.decision is.decision in (
      is.number_fits,
      (
        record { fits = is.report; below = is.below; who = is.who; incarnation = is.incarnation; kind = kind_small p.report.kind; some = λ e. absurd cc; other = tt },
        (t.0, (record { there = presence_again p.decision; inner = t.1 }, refl)),
      ),
    ))
  where
    present_small : (present : ℕ) (report : Report) → present ≡ number_if (is_with_decision report) → present ≤ 1
    present_small present report e = by_flag (is_with_decision report) e
      where
        by_flag : (b : Bool) → present ≡ number_if b → present ≤ 1
        by_flag true e = omega arith
        by_flag false e = omega arith

-- ---- the greatest group and turn

abbrev IsUpTo : ℕ × ℕ → ℕ × ℕ → Type 0
IsUpTo p q = (p.0 < q.0) ⊎ ((p.0 ≡ q.0) × (p.1 ≤ q.1))

up_to_then : (p q r : ℕ × ℕ) → IsUpTo p q → IsUpTo q r → IsUpTo p r
up_to_then p q r a b = grind arith

-- the later of two is one of them, and not before the other
record IsLater (p : ℕ × ℕ) (r : Report) (q : ℕ × ℕ) : Type 0 where
  one : (q ≡ p) ⊎ (q ≡ (r.group, r.turn))
  first : IsUpTo p q
  second : IsNotBelow q.0 q.1 r

is_later : (p : ℕ × ℕ) (r : Report) → IsLater p r (later p r)
is_later p r = by_test (nat_lt p.0 r.group || ((p.0 == r.group) && nat_lt p.1 r.turn)) refl
  where
    by_test : (b : Bool) → (nat_lt p.0 r.group || ((p.0 == r.group) && nat_lt p.1 r.turn)) ≡ b → IsLater p r (cond b (r.group, r.turn) p)
    by_test true e = record { one = inr refl; first = grind (arith, nat_tests); second = inr (refl, omega arith) }
    by_test false e = record { one = inl refl; first = inr (refl, omega arith); second = grind (arith, nat_tests) }

-- the fold gives its start or one of the reports, and nothing before any of them
record IsLatest (p : ℕ × ℕ) (reports : List Report) (q : ℕ × ℕ) : Type 0 where
  one : (q ≡ p) ⊎ IsOf q.0 q.1 reports
  start : IsUpTo p q
  all : AllByRecursion (IsNotBelow q.0 q.1) reports

is_latest : (p : ℕ × ℕ) (reports : List Report) → IsLatest p reports (fold later p reports)
is_latest p [] = record { one = inl refl; start = inr (refl, omega arith); all = tt }
is_latest p (r ∷ reports) =
    let l = is_later p r in
    let z = is_latest (later p r) reports in
    let q = fold later (later p r) reports in
    record {
      one = one_of q z.one l.one;
      start = up_to_then p (later p r) q l.first z.start;
      all = (not_below q l.second z.start, z.all);
    }
  where
    one_of : (q : ℕ × ℕ) → (q ≡ later p r) ⊎ IsOf q.0 q.1 reports → (later p r ≡ p) ⊎ (later p r ≡ (r.group, r.turn)) → (q ≡ p) ⊎ (((r.group ≡ q.0) × (r.turn ≡ q.1)) ⊎ IsOf q.0 q.1 reports)
    one_of q (inr of) other = inr (inr of)
    one_of q (inl e) (inl f) = inl (e ∙ f)
    one_of q (inl e) (inr f) = inr (inl (sym (ap (λ (z : ℕ × ℕ). z.0) (e ∙ f)), sym (ap (λ (z : ℕ × ℕ). z.1) (e ∙ f))))

    not_below : (q : ℕ × ℕ) → IsNotBelow (later p r).0 (later p r).1 r → IsUpTo (later p r) q → IsNotBelow q.0 q.1 r
    not_below q a b = above (later p r).0 (later p r).1 q.0 q.1 a b
      where
        above : (g t g' t' : ℕ) → IsNotBelow g t r → (g < g') ⊎ ((g ≡ g') × (t ≤ t')) → IsNotBelow g' t' r
        above g t g' t' a b = grind arith

abbrev pair : ℕ → ℕ → ℕ × ℕ
pair g t = (g, t)

later_none : (r : Report) → later (pair 0 0) r ≡ pair r.group r.turn
later_none r = by_test (nat_lt 0 r.group || ((0 == r.group) && nat_lt 0 r.turn)) refl
  where
    by_test : (b : Bool) → (nat_lt 0 r.group || ((0 == r.group) && nat_lt 0 r.turn)) ≡ b → cond b (pair r.group r.turn) (pair 0 0) ≡ pair r.group r.turn
    by_test true e = refl
    by_test false e =
        let g : r.group ≡ 0 = grind (arith, nat_tests) in
        let t : r.turn ≡ 0 = grind (arith, nat_tests) in
        rw (g, t) refl

greatest_is : (reports : List Report) → 1 ≤ length reports → IsGreatest (latest reports).0 (latest reports).1 reports
greatest_is [] some = absurd (omega arith)
greatest_is (r ∷ reports) some =
    let z = is_latest (0, 0) (r ∷ reports) in
    let rest = is_latest (later (0, 0) r) reports in
    record { reported = first_or (fold later (later (0, 0) r) reports) rest.one; greatest = z.all }
  where
    first_or : (q : ℕ × ℕ) → (q ≡ later (0, 0) r) ⊎ IsOf q.0 q.1 reports → ((r.group ≡ q.0) × (r.turn ≡ q.1)) ⊎ IsOf q.0 q.1 reports
    first_or q (inl e) = let f = e ∙ later_none r in inl (sym (ap (λ (z : ℕ × ℕ). z.0) f), sym (ap (λ (z : ℕ × ℕ). z.1) f))
    first_or q (inr of) = inr of

of_up_to : (g t g' t' : ℕ) (reports : List Report) → IsOf g t reports → AllByRecursion (IsNotBelow g' t') reports → IsUpTo (g, t) (g', t')
of_up_to g t g' t' [] of all = absurd of
of_up_to g t g' t' (r ∷ reports) (inl is) all = let a = all.0 in let e = is.0 in let f = is.1 in grind arith
of_up_to g t g' t' (r ∷ reports) (inr of) all = of_up_to g t g' t' reports of all.1

-- there is one greatest
greatest_one : (g t g' t' : ℕ) (reports : List Report) → IsGreatest g t reports → IsGreatest g' t' reports → (g ≡ g') × (t ≡ t')
greatest_one g t g' t' reports a b =
    let p = of_up_to g t g' t' reports a.reported b.greatest in
    let q = of_up_to g' t' g t reports b.reported a.greatest in
    (grind arith, grind arith)

-- ---- a no-decision

abbrev IsGathered : ℕ → ℕ → Report → Type 0
IsGathered n number r = ReportFits n r × IsBelow number r

abbrev AreOthers : Report → Report → Type 0
AreOthers q r = (q.member.who ≡ r.member.who) → ⊥

report_item : (n : ℕ) → n < 2 ^ 8 → (number : ℕ) (bytes : List ℕ) (fits : IsBytes bytes) (before : List Report) (place : ℕ) → Reads bytes place (IsNext (IsGathered n number) AreOthers before) report_bytes (λ r. place + 51) (report_at n number None before bytes place)
report_item n small number bytes fits before place =
    renamed (IsNext (IsGathered n number) AreOthers before) (report_reads n small number None bytes fits before place (place + 51) refl)
    (λ r is. let informed = informed_zero r.kind (let k = is.kind in omega arith) in record { fits = (is.fits, record { kind = informed; group = is.some refl; below = is.below informed }); goes = is.other })
    (λ r is. record { fits = is.fits.0; below = λ e. is.fits.1.below; who = tt; incarnation = tt; kind = let z = zero_informed r.kind is.fits.1.kind in omega arith; some = λ e. is.fits.1.group; other = is.goes })

record IsReportCount (n k : ℕ) : Type 0 where
  some : 1 ≤ k
  all : k ≤ n

record AreReports (n number : ℕ) (reports : List Report) : Type 0 where
  count : IsReportCount n (length reports)
  each : AllByRecursion (IsGathered n number) reports
  distinct : Distinct reports

reports_reads : (n : ℕ) → n < 2 ^ 8 → (number : ℕ) (bytes : List ℕ) (fits : IsBytes bytes) (place : ℕ) → Reads bytes place (AreReports n number) (counted w8 (flat_map report_bytes)) (λ reports. place + 1 + 51 * length reports) (reports_at n number bytes place)
unfolding reports_at
reports_reads n small number bytes fits place =
    renamed (AreReports n number)
    (counted_reads w8 (2 ^ 8) wide8 (is_report_count n) (IsReportCount n) (λ k t. record { some = grind (arith, nat_tests); all = grind (arith, nat_tests) }) (λ k is. let a = is.some in let b = is.all in (omega arith, grind (arith, nat_tests))) _ (Row (IsNext (IsGathered n number) AreOthers) []) (flat_map report_bytes) (λ reports. place + 1 + 51 * length reports) bytes fits place
    (λ k. list_reads 51 (report_at n number None) (IsNext (IsGathered n number) AreOthers) report_bytes bytes (report_item n small number bytes fits) k (place + 1)))
    (λ reports is. let a = row_to (IsGathered n number) AreOthers Distinct tt (λ r rest a b. (a, b)) (λ r rest a. a) reports is.1 in record { count = is.0; each = a.0; distinct = a.1 })
    (λ reports is. (is.count, row_from (IsGathered n number) AreOthers Distinct tt (λ r rest a b. (a, b)) (λ r rest a. a) reports is.each is.distinct))

all_zip : (n number : ℕ) (reports : List Report) → AllByRecursion (ReportFits n) reports → AllByRecursion (IsBelow number) reports → AllByRecursion (IsGathered n number) reports
all_zip n number [] a b = tt
all_zip n number (r ∷ reports) a b = ((a.0, b.0), all_zip n number reports a.1 b.1)

pub no_decision_reads : (n : ℕ) → n < 2 ^ 8 → (bytes : List ℕ) (fits : IsBytes bytes) → Reads bytes 57 (λ (g : Gathered). NoDecisionFits n g.number g.group g.turn g.skip g.reports g.best) (λ g. body_bytes (no_decision_of g)) (λ g. 83 + 51 * length g.reports + decision_size g.best) (no_decision_at n bytes)
unfolding no_decision_at
no_decision_reads n small bytes fits =
    renamed (λ (g : Gathered). NoDecisionFits n g.number g.group g.turn g.skip g.reports g.best)
    (step (λ (g : Gathered). g.number) (positive_reads bytes fits 57 65 refl) (λ number number-is.
    step (λ (g : Gathered). g.group) (positive_reads bytes fits 65 73 refl) (λ group group-is.
    step (λ (g : Gathered). g.turn) (count_reads bytes fits 73 81 refl) (λ turn turn-is.
    step (λ (g : Gathered). g.skip) (byte_below_reads bytes fits 81 82 n small refl) (λ skip skip-is.
    step (λ (g : Gathered). g.reports) (reports_reads n small number bytes fits 82) (λ reports reports-is.
    step (λ (g : Gathered). g.best) (decision_reads n small (Some (latest reports).0) (Some (latest reports).1) bytes fits (83 + 51 * length reports)) (λ best best-is.
    last_to (record { number = number; group = group; turn = turn; skip = skip; reports = reports; best = best }) (λ g. 83 + 51 * length g.reports + decision_size g.best) refl)
    (λ best best-is g is. ap (λ (z : Gathered). z.best) is))
    (λ reports reports-is g is. ap (λ (z : Gathered). z.reports) is.1))
    (λ skip skip-is g is. ap (λ (z : Gathered). z.skip) is.1.1))
    (λ turn turn-is g is. ap (λ (z : Gathered). z.turn) is.1.1.1))
    (λ group group-is g is. ap (λ (z : Gathered). z.group) is.1.1.1.1))
    (λ number number-is g is. ap (λ (z : Gathered). z.number) is.1.1.1.1.1))
    (λ g is.
    let r = is.1.1.1.1.0 in
    let d = is.1.1.1.1.1.0 in
    record {
      number_fits = is.0;
      group_fits = is.1.0;
      turn_fits = is.1.1.0;
      skip_fits = is.1.1.1.0;
      at_least_one = r.count.some;
      at_most = r.count.all;
      each = all_map (IsGathered n g.number) (ReportFits n) (λ q a. a.0) g.reports r.each;
      distinct = r.distinct;
      below = all_map (IsGathered n g.number) (IsBelow g.number) (λ q a. a.1) g.reports r.each;
      best_fits = d.fits;
      greatest = rw (d.group, d.turn) (greatest_is g.reports r.count.some);
    })
    (λ g is.
    let same = greatest_one g.best.group g.best.turn (latest g.reports).0 (latest g.reports).1 g.reports is.greatest (greatest_is g.reports is.at_least_one) in (
      is.number_fits,
      (
        is.group_fits,
        (
          is.turn_fits,
          (
            is.skip_fits,
            (
              record { count = record { some = is.at_least_one; all = is.at_most }; each = all_zip n g.number g.reports is.each is.below; distinct = is.distinct },
              (record { fits = is.best_fits; group = same.0; turn = same.1 }, refl),
            ),
          ),
        ),
      ),
    ))
