use Rattle.std.proofs.Common.{◌∙◌, arith}
use Rattle.wire_head.proofs.Heads.{head_reads, is_found, is_not_long}
use Rattle.wire_head.proofs.head.read_head.Goals as goal

pub returns-clause-found : goal.returns-clause-found
returns-clause-found c = is_found _ _ _ c.first_fields.ensures.line (λ i. omega (arith, c.type_inv.bytes i)) c.first_fields.ensures.exact

pub returns-clause-only : goal.returns-clause-only
returns-clause-only c head kind rest fits first last e =
    let a = (head_reads _ _ c.first_fields.ensures.line (λ i. omega (arith, c.type_inv.bytes i))).again (head, kind) rest (record { head = fits; kind = record { first = first; last = last } }) e in
    (c.first_fields.ensures.exact ∙ a.0, a.1)

pub returns-clause-cut : goal.returns-clause-cut
returns-clause-cut c head kind more fits first last some e =
    c.first_fields.ensures.exact ∙ (head_reads _ _ c.first_fields.ensures.line (λ i. omega (arith, c.type_inv.bytes i))).cut (head, kind) more (record { head = fits; kind = record { first = first; last = last } }) some e

pub returns-clause-never_long : goal.returns-clause-never_long
returns-clause-never_long c = is_not_long _ _ _ c.first_fields.ensures.exact
