-- What stands behind two words isn't the digits of a payload.
use Rattle.std.proofs.Common.{◌≡◌, ◌∷◌}
use Rattle.tw_machine.specs.Grammar.{hex_word}
use Rattle.schedule_text.specs.Fields.{fields_left}
use Rattle.schedule_text.proofs.Taken.{on_err}
use Rattle.schedule_text.proofs.fields.Fields.update.Goals as goal

pub returns-in_err-payload-clause-refused : goal.returns-in_err-payload-clause-refused
returns-in_err-payload-clause-refused c = on_err c.from_residual-in_err-payload.result c.from_residual-in_err-payload.ensures.0 (λ order atom bytes more fits e.
    let first = c.in_ok-word.ensures.taken in
    let second = c.in_ok-word-2.ensures.taken in
    let left : fields_left c.word-2.new.self ≡ hex_word bytes ∷ more = cc in
    c.in_err-payload.ensures.refused bytes more fits left)
