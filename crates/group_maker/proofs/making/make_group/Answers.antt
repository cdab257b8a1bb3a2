-- Of a ballot to which nothing is objected before its payloads comes what they and the start say, and a group that is made is in
-- range and fits its owner's log.
use Rattle.std.proofs.Common.{◌≡◌, ◌∙◌, ◌+◌, ◌/◌, ◌^◌, ◌<◌, ◌≤◌, true, false, nat_le, nat_lt, length, Option, None, Ok, subst, sym, ap, arith, rules}
use Rattle.std.specs.Prelude.{count_by}
use Rattle.std.specs.List.{list_any}
use Rattle.std.specs.Option.{option_map}
use Rattle.std.proofs.lemmas.Bool.Decides.{nat_tests}
use Rattle.tw_types.specs.declared.message.UpdateId.{UpdateId}
use Rattle.tw_types.specs.declared.message.Entry.{Entry}
use Rattle.tw_types.specs.declared.message.Report.{Report}
use Rattle.tw_types.specs.declared.message.Decision.{Decision}
use Rattle.tw_types.specs.Ranges.{DecisionFits}
use Rattle.tw_types.specs.Refusals.{first_refusal}
use Rattle.tw_types.specs.Decisions.{or_none, decision_length, is_same_member}
use Rattle.tw_types.specs.Logs.{log_room, fit_tests}
use Rattle.tw_types.specs.Reports.{is_by_informed}
use Rattle.tw_types.specs.Waiting.{entries_from}
use Rattle.tw_types.specs.Groups.{ascending, consistent, start_of, first_decision}
use Rattle.group_maker.proofs.Fitting.{made_fits}
use Rattle.group_maker.proofs.FittingLog.{made_fits_log}
use Rattle.group_maker.proofs.Missing.{missing}
use Rattle.group_maker.proofs.Objected.{Passes, passes, needed_are, outcome_of, made_by, first_is}
use Rattle.group_maker.proofs.making.make_group.Goals as goal

pub returns-in-Some-clause-exact : goal.returns-in-Some-clause-exact
returns-in-Some-clause-exact g c = λ l stands.
    let team = c.args.team.now in
    let b = c.args.b.now in
    let payloads = g.P.Payloads.payloads c.args.p.now in
    let best_is : c.or_none-best.result ≡ or_none b.best = cc in
    let reports_are : c.deref-2.result.now ≡ consistent b = c.deref-2.ensures.0 ∙ c.consistent-reports.ensures in
    let informed : c.from-majority.result ≤ count_by is_by_informed b.reports.items = rw (← c.deref.ensures.0, ← c.informed_count.ensures) c.if-informed_count-majority.false in
    let own : list_any (λ (r : Report). is_same_member r.member c.args.me) c.deref-2.result.now ≡ true = sym c.has_report_of.ensures ∙ c.if-not-has_report_of.false in
    let longer : c.args.log.now.length ≤ decision_length c.or_none-best.result = omega arith in
    let many : c.from-majority.result ≤ length c.deref-2.result.now = rw (c.deref-2.ensures.0, ← c.len.ensures.value) c.if-len-majority.false in
    let near : nat_lt (c.args.log.now.passed + log_room) (decision_length c.or_none-best.result) ≡ false = sym c.is_behind.ensures ∙ c.if-is_behind.false in
    let p : Passes team b l c.args.me = passes team b l c.args.me c.args.log.now c.from-majority.result c.or_none-best.result c.deref-2.result.now stands (c.from-majority.ensures ∙ c.maj.ensures) best_is reports_are informed own longer many near in
    let found : c.first_missing.result ≡ option_map (λ (e : Entry). e.id) (missing payloads (entries_from c.args.log.now.length c.or_none-best.result)) = rw (c.entries_from.ensures, c.length-2.ensures.value) at c.first_missing.ensures in
    let o = needed_are b l payloads c.args.log.now c.or_none-best.result c.first_missing.result stands best_is found in
    let made = made_by team b l payloads c.args.me c.args.t p in
    sym (made ∙ ap (λ (x : Option UpdateId). outcome_of x (nat_le (2 ^ 61) (start_of team b)) (first_decision team b c.args.me c.args.t)) (o ∙ c.in-Some.is))

pub returns-then-start-clause-exact : goal.returns-then-start-clause-exact
returns-then-start-clause-exact g c = λ l stands.
    let team = c.args.team.now in
    let b = c.args.b.now in
    let payloads = g.P.Payloads.payloads c.args.p.now in
    let best_is : c.or_none-best.result ≡ or_none b.best = cc in
    let reports_are : c.deref-2.result.now ≡ consistent b = c.deref-2.ensures.0 ∙ c.consistent-reports.ensures in
    let informed : c.from-majority.result ≤ count_by is_by_informed b.reports.items = rw (← c.deref.ensures.0, ← c.informed_count.ensures) c.if-informed_count-majority.false in
    let own : list_any (λ (r : Report). is_same_member r.member c.args.me) c.deref-2.result.now ≡ true = sym c.has_report_of.ensures ∙ c.if-not-has_report_of.false in
    let longer : c.args.log.now.length ≤ decision_length c.or_none-best.result = omega arith in
    let many : c.from-majority.result ≤ length c.deref-2.result.now = rw (c.deref-2.ensures.0, ← c.len.ensures.value) c.if-len-majority.false in
    let near : nat_lt (c.args.log.now.passed + log_room) (decision_length c.or_none-best.result) ≡ false = sym c.is_behind.ensures ∙ c.if-is_behind.false in
    let p : Passes team b l c.args.me = passes team b l c.args.me c.args.log.now c.from-majority.result c.or_none-best.result c.deref-2.result.now stands (c.from-majority.ensures ∙ c.maj.ensures) best_is reports_are informed own longer many near in
    let found : c.first_missing.result ≡ option_map (λ (e : Entry). e.id) (missing payloads (entries_from c.args.log.now.length c.or_none-best.result)) = rw (c.entries_from.ensures, c.length-2.ensures.value) at c.first_missing.ensures in
    let o = needed_are b l payloads c.args.log.now c.or_none-best.result c.first_missing.result stands best_is found in
    let made = made_by team b l payloads c.args.me c.args.t p in
    let none : c.first_missing.result ≡ None = search rules in
    let late : nat_le (2 ^ 61) (start_of team b) ≡ true = grind (arith, nat_tests, c.start_of-start.ensures.exact) in
    sym (made ∙ ap (λ (x : Option UpdateId). outcome_of x (nat_le (2 ^ 61) (start_of team b)) (first_decision team b c.args.me c.args.t)) (o ∙ none)
    ∙ ap (λ late. outcome_of None late (first_decision team b c.args.me c.args.t)) late)

pub returns-clause-exact : goal.returns-clause-exact
returns-clause-exact g c = λ l stands.
    let team = c.args.team.now in
    let b = c.args.b.now in
    let payloads = g.P.Payloads.payloads c.args.p.now in
    let best_is : c.or_none-best.result ≡ or_none b.best = cc in
    let reports_are : c.deref-2.result.now ≡ consistent b = c.deref-2.ensures.0 ∙ c.consistent-reports.ensures in
    let informed : c.from-majority.result ≤ count_by is_by_informed b.reports.items = rw (← c.deref.ensures.0, ← c.informed_count.ensures) c.if-informed_count-majority.false in
    let own : list_any (λ (r : Report). is_same_member r.member c.args.me) c.deref-2.result.now ≡ true = sym c.has_report_of.ensures ∙ c.if-not-has_report_of.false in
    let longer : c.args.log.now.length ≤ decision_length c.or_none-best.result = omega arith in
    let many : c.from-majority.result ≤ length c.deref-2.result.now = rw (c.deref-2.ensures.0, ← c.len.ensures.value) c.if-len-majority.false in
    let near : nat_lt (c.args.log.now.passed + log_room) (decision_length c.or_none-best.result) ≡ false = sym c.is_behind.ensures ∙ c.if-is_behind.false in
    let p : Passes team b l c.args.me = passes team b l c.args.me c.args.log.now c.from-majority.result c.or_none-best.result c.deref-2.result.now stands (c.from-majority.ensures ∙ c.maj.ensures) best_is reports_are informed own longer many near in
    let found : c.first_missing.result ≡ option_map (λ (e : Entry). e.id) (missing payloads (entries_from c.args.log.now.length c.or_none-best.result)) = rw (c.entries_from.ensures, c.length-2.ensures.value) at c.first_missing.ensures in
    let o = needed_are b l payloads c.args.log.now c.or_none-best.result c.first_missing.result stands best_is found in
    let made = made_by team b l payloads c.args.me c.args.t p in
    let none : c.first_missing.result ≡ None = search rules in
    let late : nat_le (2 ^ 61) (start_of team b) ≡ false = grind (arith, nat_tests, c.start_of-start.ensures.exact) in
    let first : c.decision_from.result ≡ first_decision team b c.args.me c.args.t = first_is team b c.args.me c.args.t c.or_none-best.result c.deref-4.result.now c.start_of-start.result best_is (c.deref-4.ensures.0 ∙ c.seated-members.ensures ∙ ap (ascending team.n) (c.deref-3.ensures.0 ∙ c.consistent-reports.ensures)) c.start_of-start.ensures.exact c.decision_from.ensures in
    ap Ok first ∙ sym (made ∙ ap (λ (x : Option UpdateId). outcome_of x (nat_le (2 ^ 61) (start_of team b)) (first_decision team b c.args.me c.args.t)) (o ∙ none)
    ∙ ap (λ late. outcome_of None late (first_decision team b c.args.me c.args.t)) late)

pub returns-clause-fits : goal.returns-clause-fits
returns-clause-fits g c = λ ballot time.
    let team = c.args.team.now in
    let b = c.args.b.now in
    let best_is : c.or_none-best.result ≡ or_none b.best = cc in
    let first : c.decision_from.result ≡ first_decision team b c.args.me c.args.t = first_is team b c.args.me c.args.t c.or_none-best.result c.deref-4.result.now c.start_of-start.result best_is (c.deref-4.ensures.0 ∙ c.seated-members.ensures ∙ ap (ascending team.n) (c.deref-3.ensures.0 ∙ c.consistent-reports.ensures)) c.start_of-start.ensures.exact c.decision_from.ensures in
    let reports_are : c.deref-2.result.now ≡ consistent b = c.deref-2.ensures.0 ∙ c.consistent-reports.ensures in
    let there : list_any (λ (r : Report). is_same_member r.member c.args.me) (consistent c.args.b.now) ≡ true = rw (← reports_are) (sym c.has_report_of.ensures ∙ c.if-not-has_report_of.false) in
    let many : c.args.team.now.n / 2 + 1 ≤ length (consistent c.args.b.now) = rw (← reports_are, ← (c.from-majority.ensures ∙ c.maj.ensures)) (rw (c.deref-2.ensures.0, ← c.len.ensures.value) c.if-len-majority.false) in
    let start : start_of c.args.team.now c.args.b.now < 2 ^ 61 = rw (← c.start_of-start.ensures.exact) c.if-start.false in
    subst (DecisionFits c.args.team.now.n) (sym first) (made_fits c.args.team.now c.args.b.now c.args.me c.args.t ballot time there many start)

pub returns-clause-fits_log : goal.returns-clause-fits_log
returns-clause-fits_log g c = λ l stands seat all.
    let team = c.args.team.now in
    let b = c.args.b.now in
    let payloads = g.P.Payloads.payloads c.args.p.now in
    let best_is : c.or_none-best.result ≡ or_none b.best = cc in
    let reports_are : c.deref-2.result.now ≡ consistent b = c.deref-2.ensures.0 ∙ c.consistent-reports.ensures in
    let informed : c.from-majority.result ≤ count_by is_by_informed b.reports.items = rw (← c.deref.ensures.0, ← c.informed_count.ensures) c.if-informed_count-majority.false in
    let own : list_any (λ (r : Report). is_same_member r.member c.args.me) c.deref-2.result.now ≡ true = sym c.has_report_of.ensures ∙ c.if-not-has_report_of.false in
    let longer : c.args.log.now.length ≤ decision_length c.or_none-best.result = omega arith in
    let many : c.from-majority.result ≤ length c.deref-2.result.now = rw (c.deref-2.ensures.0, ← c.len.ensures.value) c.if-len-majority.false in
    let near : nat_lt (c.args.log.now.passed + log_room) (decision_length c.or_none-best.result) ≡ false = sym c.is_behind.ensures ∙ c.if-is_behind.false in
    let p : Passes team b l c.args.me = passes team b l c.args.me c.args.log.now c.from-majority.result c.or_none-best.result c.deref-2.result.now stands (c.from-majority.ensures ∙ c.maj.ensures) best_is reports_are informed own longer many near in
    let found : c.first_missing.result ≡ option_map (λ (e : Entry). e.id) (missing payloads (entries_from c.args.log.now.length c.or_none-best.result)) = rw (c.entries_from.ensures, c.length-2.ensures.value) at c.first_missing.ensures in
    let o = needed_are b l payloads c.args.log.now c.or_none-best.result c.first_missing.result stands best_is found in
    let first : c.decision_from.result ≡ first_decision team b c.args.me c.args.t = first_is team b c.args.me c.args.t c.or_none-best.result c.deref-4.result.now c.start_of-start.result best_is (c.deref-4.ensures.0 ∙ c.seated-members.ensures ∙ ap (ascending team.n) (c.deref-3.ensures.0 ∙ c.consistent-reports.ensures)) c.start_of-start.ensures.exact c.decision_from.ensures in
    let none : c.first_missing.result ≡ None = search rules in
    subst (λ (d : Decision). first_refusal (fit_tests l payloads d) ≡ None) (sym first) (made_fits_log team b l payloads c.args.me c.args.t p.own p.longer p.near (o ∙ none) seat all)
