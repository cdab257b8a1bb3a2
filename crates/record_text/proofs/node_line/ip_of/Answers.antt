-- Four numbers with a point between each two, and nothing behind them.
use Rattle.std.proofs.Common.{arith, refl, ◌≡◌, ap, sym, ◌∙◌, get_or, [], ◌++◌, map, ◌<◌}
use Rattle.std.specs.Fmt.{decimal}
use Rattle.std.proofs.lemmas.List.{append-nil}
use Rattle.tw_machine.proofs.Lines.{parted}
use Rattle.tw_machine.proofs.LineNumbers.{same_numbers}
use Rattle.schedule_text.proofs.Taken.{on_err}
use Rattle.record_text.proofs.Lines.{from_cut, ip_cut, small_bytes, byte_at, four_cells}
use Rattle.record_text.proofs.node_line.ip_of.Goals as goal
use Rattle.record_text.proofs.node_line.ip_of.Goals.{then-a-gt255-via-then-a-gt255, then-a-gt255-via-else-a-gt255+then-b-gt255, then-a-gt255-via-else-a-gt255+else-b-gt255+then-c-gt255, then-a-gt255-via-else-a-gt255+else-b-gt255+else-c-gt255+then-d-gt255}

pub returns-in_err-a-clause-refused : goal.returns-in_err-a-clause-refused
returns-in_err-a-clause-refused c = on_err c.from_residual.result c.from_residual.ensures.0 (λ ip four bytes e.
    c.in_err-a.ensures.refused ip [] four (small_bytes ip bytes) (c.parted-parts.ensures ∙ ip_cut c.args.word.now ip four bytes e ∙ sym (append-nil (map decimal ip))))

pub returns-in_err-end-clause-refused : goal.returns-in_err-end-clause-refused
returns-in_err-end-clause-refused c = on_err c.from_residual-in_err-end.result c.from_residual-in_err-end.ensures.0 (λ ip four bytes e.
    let cells = c.parted-parts.ensures ∙ ip_cut c.args.word.now ip four bytes e ∙ sym (append-nil (map decimal ip)) in
    let same = same_numbers c.in_ok-a.field-0 ip _ [] (omega arith) c.in_ok-a.ensures.taken.0 (small_bytes ip bytes) (sym c.in_ok-a.ensures.taken.1 ∙ cells) in
    c.in_err-end.ensures.some same.1)

pub returns-then-a-gt255-clause-refused : goal.returns-then-a-gt255-clause-refused
returns-then-a-gt255-clause-refused c = λ ip four bytes e.
    let cells = c.parted-parts.ensures ∙ ip_cut c.args.word.now ip four bytes e ∙ sym (append-nil (map decimal ip)) in
    let same = same_numbers c.in_ok-a.field-0 ip _ [] (omega arith) c.in_ok-a.ensures.taken.0 (small_bytes ip bytes) (sym c.in_ok-a.ensures.taken.1 ∙ cells) in
    let first : get_or c.in_ok-a.field-0 0 0 < 256 = rw same.0 (byte_at ip bytes 0) in
    let second : get_or c.in_ok-a.field-0 1 0 < 256 = rw same.0 (byte_at ip bytes 1) in
    let third : get_or c.in_ok-a.field-0 2 0 < 256 = rw same.0 (byte_at ip bytes 2) in
    let fourth : get_or c.in_ok-a.field-0 3 0 < 256 = rw same.0 (byte_at ip bytes 3) in
    elim c.then-a-gt255.branch [
      | then-a-gt255-via-then-a-gt255 w ↦ omega arith
      | then-a-gt255-via-else-a-gt255+then-b-gt255 w ↦ omega arith
      | then-a-gt255-via-else-a-gt255+else-b-gt255+then-c-gt255 w ↦ omega arith
      | then-a-gt255-via-else-a-gt255+else-b-gt255+else-c-gt255+then-d-gt255 w ↦ omega arith
    ]

pub returns-clause-read : goal.returns-clause-read
returns-clause-read c =
    let four = four_cells c.in_ok-a.field-0 (omega arith) in
    let parts : parted 46 c.args.word.now ≡ map decimal c.in_ok-a.field-0 =
    sym c.parted-parts.ensures ∙ c.in_ok-a.ensures.taken.1 ∙ ap (λ r. map decimal c.in_ok-a.field-0 ++ r) c.in_ok-end.ensures.none ∙ append-nil (map decimal c.in_ok-a.field-0) in
    from_cut 46 c.args.word.now _ (parts ∙ ap (map decimal) four)

pub returns-clause-fits : goal.returns-clause-fits
returns-clause-fits c = (refl, (omega (arith, c.if-a-gt255.false), (omega (arith, c.if-b-gt255.false), (omega (arith, c.if-c-gt255.false), (omega (arith, c.if-d-gt255.false), tt)))))
