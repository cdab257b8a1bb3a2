-- What stands behind the first word is the update's fields, and nothing behind them.
use Rattle.std.proofs.Common.{rules, ◌≡◌, sym, ◌∙◌, [], ◌∷◌}
use Rattle.std.specs.Prelude.{codes}
use Rattle.tw_machine.specs.Grammar.{order_word, atom_word, hex_word}
use Rattle.schedule_text.specs.Fields.{fields_left}
use Rattle.schedule_text.proofs.Taken.{on_err}
use Rattle.record_text.proofs.Lines.{from_cut, send_cut}
use Rattle.record_text.proofs.client.update_in.Goals as goal

pub returns-in_err-update-clause-refused : goal.returns-in_err-update-clause-refused
returns-in_err-update-clause-refused c = on_err c.from_residual-in_err-update.result c.from_residual-in_err-update.ensures.0 (λ order atom payload e fits.
    let whole = send_cut _ c.args.line.now order atom payload c.of-fields.ensures e in
    let first = c.in_ok-word.ensures.taken in
    let left : fields_left c.word.new.self ≡ order_word order ∷ atom_word atom ∷ hex_word payload ∷ [] = cc (whole, first) in
    c.in_err-update.ensures.refused order atom payload [] fits left)

pub returns-in_err-end-clause-refused : goal.returns-in_err-end-clause-refused
returns-in_err-end-clause-refused c = on_err c.from_residual-in_err-end.result c.from_residual-in_err-end.ensures.0 (λ order atom payload e fits.
    let whole = send_cut _ c.args.line.now order atom payload c.of-fields.ensures e in
    let first = c.in_ok-word.ensures.taken in
    let next = c.in_ok-update.ensures.taken.1 in
    let left : fields_left c.update.new.self ≡ [] = cc (whole, first, next) in
    c.in_err-end.ensures.some left)

pub returns-clause-read : goal.returns-clause-read
returns-clause-read c =
    let send : c.in_ok-word.field-0.now ≡ codes "send" = c.is_word.ensures.0 (search rules) in
    let first = c.in_ok-word.ensures.taken in
    let next = c.in_ok-update.ensures.taken.1 in
    let last = c.in_ok-end.ensures.none in
    let parts : fields_left c.of-fields.result ≡ codes "send" ∷ order_word c.in_ok-update.update.0 ∷ atom_word c.in_ok-update.update.1 ∷ hex_word c.in_ok-update.update.2.items ∷ [] = cc (send, first, next, last) in
    (from_cut 32 c.args.line.now _ (sym c.of-fields.ensures ∙ parts), c.in_ok-update.ensures.taken.0)
