-- The word, the number, the address and the port, and nothing behind them.
use Rattle.std.proofs.Common.{arith, rules, ◌≡◌, sym, ◌∙◌, [], ◌∷◌}
use Rattle.std.specs.Prelude.{codes}
use Rattle.std.specs.Fmt.{decimal}
use Rattle.tw_machine.specs.NodeText.{ip_text}
use Rattle.tw_machine.proofs.LineNumbers.{same_number}
use Rattle.schedule_text.specs.Fields.{fields_left}
use Rattle.schedule_text.proofs.Taken.{on_err}
use Rattle.record_text.proofs.Lines.{from_cut, peer_cut}
use Rattle.record_text.proofs.node_line.read_peer.Goals as goal
use Rattle.record_text.proofs.node_line.read_peer.Goals.{then-not-is_word-via-then-not-is_word, then-not-is_word-via-else-not-is_word+in_ok-number+then-branch-from, then-port-eq0-via-then-port-eq0, then-port-eq0-via-else-port-eq0+then-port-from}

pub returns-in_err-number-clause-refused : goal.returns-in_err-number-clause-refused
returns-in_err-number-clause-refused c = on_err c.from_residual-in_err-number.result c.from_residual-in_err-number.ensures.0 (λ at e fits.
    let whole = peer_cut _ c.args.line.now c.args.who at (omega arith) c.of-fields.ensures e fits in
    let left : fields_left c.word.new.self ≡ decimal c.args.who ∷ ip_text at.ip ∷ decimal at.port ∷ [] = cc (whole, c.in_ok-word.ensures.taken) in
    c.in_err-number.ensures.refused c.args.who (ip_text at.ip ∷ decimal at.port ∷ []) (omega arith) left)

pub returns-then-not-is_word-clause-refused : goal.returns-then-not-is_word-clause-refused
returns-then-not-is_word-clause-refused c = λ at e fits.
    let whole = peer_cut _ c.args.line.now c.args.who at (omega arith) c.of-fields.ensures e fits in
    let word : c.in_ok-word.field-0.now ≡ codes "peer" = cc (whole, c.in_ok-word.ensures.taken) in
    elim c.then-not-is_word.branch [
      | then-not-is_word-via-then-not-is_word w ↦ (let yes = c.is_word.ensures.1 word in cc (yes, w.if-not-is_word.true))
      | then-not-is_word-via-else-not-is_word+in_ok-number+then-branch-from w ↦
          (let number : decimal w.in_ok-number.field-0 ≡ decimal c.args.who = cc (whole, c.in_ok-word.ensures.taken, w.in_ok-number.ensures.taken.1) in
          let same = same_number w.in_ok-number.field-0 c.args.who w.in_ok-number.ensures.taken.0 (omega arith) number in
          w.if-branch-from.true (same ∙ sym w.from.ensures))
    ]

pub returns-in_err-word-2-clause-refused : goal.returns-in_err-word-2-clause-refused
returns-in_err-word-2-clause-refused c = on_err c.from_residual-in_err-word-2.result c.from_residual-in_err-word-2.ensures.0 (λ at e fits.
    let whole = peer_cut _ c.args.line.now c.args.who at (omega arith) c.of-fields.ensures e fits in
    cc (whole, c.in_ok-word.ensures.taken, c.in_ok-number.ensures.taken.1, c.in_err-word-2.ensures.none))

pub returns-in_err-ip-clause-refused : goal.returns-in_err-ip-clause-refused
returns-in_err-ip-clause-refused c = on_err c.from_residual-in_err-ip.result c.from_residual-in_err-ip.ensures.0 (λ at e fits.
    let whole = peer_cut _ c.args.line.now c.args.who at (omega arith) c.of-fields.ensures e fits in
    let word : c.in_ok-word-2.field-0.now ≡ ip_text at.ip = cc (whole, c.in_ok-word.ensures.taken, c.in_ok-number.ensures.taken.1, c.in_ok-word-2.ensures.taken) in
    c.in_err-ip.ensures.refused at.ip fits.four fits.bytes word)

pub returns-in_err-port-clause-refused : goal.returns-in_err-port-clause-refused
returns-in_err-port-clause-refused c = on_err c.from_residual-in_err-port.result c.from_residual-in_err-port.ensures.0 (λ at e fits.
    let whole = peer_cut _ c.args.line.now c.args.who at (omega arith) c.of-fields.ensures e fits in
    let left : fields_left c.word-2.new.self ≡ decimal at.port ∷ [] = cc (whole, c.in_ok-word.ensures.taken, c.in_ok-number.ensures.taken.1, c.in_ok-word-2.ensures.taken) in
    c.in_err-port.ensures.refused at.port [] (omega (arith, fits.most)) left)

pub returns-in_err-end-clause-refused : goal.returns-in_err-end-clause-refused
returns-in_err-end-clause-refused c = on_err c.from_residual-in_err-end.result c.from_residual-in_err-end.ensures.0 (λ at e fits.
    let whole = peer_cut _ c.args.line.now c.args.who at (omega arith) c.of-fields.ensures e fits in
    let left : fields_left c.number-2.new.self ≡ [] = cc (whole, c.in_ok-word.ensures.taken, c.in_ok-number.ensures.taken.1, c.in_ok-word-2.ensures.taken, c.in_ok-port.ensures.taken.1) in
    c.in_err-end.ensures.some left)

pub returns-then-port-eq0-clause-refused : goal.returns-then-port-eq0-clause-refused
returns-then-port-eq0-clause-refused c = λ at e fits.
    let whole = peer_cut _ c.args.line.now c.args.who at (omega arith) c.of-fields.ensures e fits in
    let port : decimal c.in_ok-port.port ≡ decimal at.port = cc (whole, c.in_ok-word.ensures.taken, c.in_ok-number.ensures.taken.1, c.in_ok-word-2.ensures.taken, c.in_ok-port.ensures.taken.1) in
    let same = same_number c.in_ok-port.port at.port c.in_ok-port.ensures.taken.0 (omega (arith, fits.most)) port in
    elim c.then-port-eq0.branch [
      | then-port-eq0-via-then-port-eq0 w ↦ omega (arith, fits.least)
      | then-port-eq0-via-else-port-eq0+then-port-from w ↦ omega (arith, fits.most)
    ]

pub returns-clause-read : goal.returns-clause-read
returns-clause-read c =
    let peer : c.in_ok-word.field-0.now ≡ codes "peer" = c.is_word.ensures.0 (search rules) in
    let number : c.in_ok-number.field-0 ≡ c.args.who = c.if-branch-from.false ∙ c.from.ensures in
    let ip : c.in_ok-word-2.field-0.now ≡ ip_text c.in_ok-ip.ip = c.in_ok-ip.ensures.read in
    let parts : fields_left c.of-fields.result ≡ codes "peer" ∷ decimal c.args.who ∷ ip_text c.in_ok-ip.ip ∷ decimal c.in_ok-port.port ∷ [] =
    cc (peer, number, ip, c.in_ok-word.ensures.taken, c.in_ok-number.ensures.taken.1, c.in_ok-word-2.ensures.taken, c.in_ok-port.ensures.taken.1, c.in_ok-end.ensures.none) in (
      from_cut 32 c.args.line.now _ (sym c.of-fields.ensures ∙ parts),
      record {
        four = c.in_ok-ip.ensures.fits.0;
        bytes = c.in_ok-ip.ensures.fits.1;
        least = omega (arith, c.if-port-eq0.false);
        most = omega (arith, c.if-port-from.false, c.from-else-port-eq0.ensures);
      },
    )
