-- The word, and whose clock it is, and nothing behind.
use Rattle.std.proofs.Common.{arith, rules, ◌≡◌, sym, ◌∙◌, [], ◌∷◌}
use Rattle.std.specs.Prelude.{codes}
use Rattle.std.specs.Fmt.{decimal}
use Rattle.tw_machine.proofs.LineNumbers.{same_number}
use Rattle.schedule_text.specs.Fields.{fields_left}
use Rattle.schedule_text.proofs.Taken.{on_err}
use Rattle.record_text.proofs.Lines.{from_cut, clock_cut, clock_named}
use Rattle.record_text.proofs.node_line.read_clock.Goals as goal

pub returns-in_err-word-2-clause-refused : goal.returns-in_err-word-2-clause-refused
returns-in_err-word-2-clause-refused c = on_err c.from_residual-in_err-word-2.result c.from_residual-in_err-word-2.ensures.0 (λ h.
    let whole = clock_cut _ c.args.line.now c.args.n h.0 (omega arith) c.of-fields.ensures h.1 h.2 in
    cc (whole, c.in_ok-word.ensures.taken, c.in_err-word-2.ensures.none))

pub returns-in_err-end-clause-refused : goal.returns-in_err-end-clause-refused
returns-in_err-end-clause-refused c = on_err c.from_residual-in_err-end.result c.from_residual-in_err-end.ensures.0 (λ h.
    let whole = clock_cut _ c.args.line.now c.args.n h.0 (omega arith) c.of-fields.ensures h.1 h.2 in
    let left : fields_left c.word-2.new.self ≡ [] = cc (whole, c.in_ok-word.ensures.taken, c.in_ok-word-2.ensures.taken) in
    c.in_err-end.ensures.some left)

pub returns-then-is_word-clause-read : goal.returns-then-is_word-clause-read
returns-then-is_word-clause-read c =
    let clock : c.in_ok-word.field-0.now ≡ codes "clock" = c.is_word.ensures.0 (search rules) in
    let none : c.in_ok-word-2.field-0.now ≡ codes "none" = c.is_word-2.ensures.0 (search rules) in
    let parts : fields_left c.of-fields.result ≡ codes "clock" ∷ codes "none" ∷ [] = cc (clock, none, c.in_ok-word.ensures.taken, c.in_ok-word-2.ensures.taken, c.in_ok-end.ensures.none) in
    (from_cut 32 c.args.line.now _ (sym c.of-fields.ensures ∙ parts), tt)

pub returns-in_err-who-clause-refused : goal.returns-in_err-who-clause-refused
returns-in_err-who-clause-refused c = on_err c.from_residual-in_err-who.result c.from_residual-in_err-who.ensures.0 (λ h.
    let whole = clock_cut _ c.args.line.now c.args.n h.0 (omega arith) c.of-fields.ensures h.1 h.2 in
    let named = clock_named _ _ _ _ _ c.args.n h.0 whole c.in_ok-word.ensures.taken c.in_ok-word-2.ensures.taken (λ e. let yes = c.is_word-2.ensures.1 e in cc (yes, c.if-is_word.false)) h.2 in
    c.in_err-who.ensures.refused named.0 [] (omega (arith, named.1)) named.2)

pub returns-in_err-end-2-clause-refused : goal.returns-in_err-end-2-clause-refused
returns-in_err-end-2-clause-refused c = on_err c.from_residual-in_err-end-2.result c.from_residual-in_err-end-2.ensures.0 (λ h.
    let whole = clock_cut _ c.args.line.now c.args.n h.0 (omega arith) c.of-fields.ensures h.1 h.2 in
    let named = clock_named _ _ _ _ _ c.args.n h.0 whole c.in_ok-word.ensures.taken c.in_ok-word-2.ensures.taken (λ e. let yes = c.is_word-2.ensures.1 e in cc (yes, c.if-is_word.false)) h.2 in
    let left : fields_left c.number.new.self ≡ [] = cc (named.2, c.in_ok-who.ensures.taken.1) in
    c.in_err-end-2.ensures.some left)

pub returns-then-who-from-clause-refused : goal.returns-then-who-from-clause-refused
returns-then-who-from-clause-refused c = λ h.
    let whole = clock_cut _ c.args.line.now c.args.n h.0 (omega arith) c.of-fields.ensures h.1 h.2 in
    let named = clock_named _ _ _ _ _ c.args.n h.0 whole c.in_ok-word.ensures.taken c.in_ok-word-2.ensures.taken (λ e. let yes = c.is_word-2.ensures.1 e in cc (yes, c.if-is_word.false)) h.2 in
    let word : decimal c.in_ok-who.who ≡ decimal named.0 = cc (named.2, c.in_ok-who.ensures.taken.1) in
    let same = same_number c.in_ok-who.who named.0 c.in_ok-who.ensures.taken.0 (omega (arith, named.1)) word in
    omega (arith, same, named.1, c.from.ensures, c.if-who-from.true)

pub returns-clause-read : goal.returns-clause-read
returns-clause-read c =
    let clock : c.in_ok-word.field-0.now ≡ codes "clock" = c.is_word.ensures.0 (search rules) in
    let parts : fields_left c.of-fields.result ≡ codes "clock" ∷ decimal c.in_ok-who.who ∷ [] = cc (clock, c.in_ok-word.ensures.taken, c.in_ok-who.ensures.taken.1, c.in_ok-end-2.ensures.none) in
    (from_cut 32 c.args.line.now _ (sym c.of-fields.ensures ∙ parts), omega (arith, c.from.ensures, c.if-who-from.false))
