use Rattle.std.proofs.Common.{sym, ◌∙◌}
use Rattle.std.specs.Prelude.{string_bytes, codes}
use Rattle.timewheel.proofs.OneWord.{only_one}
use Rattle.timewheel.proofs.run.is_replay.Goals as goal

pub returns-in-len1 : goal.returns-in-len1
returns-in-len1 c =
    let one = only_one string_bytes c.args.words.now c.word-item.result (codes "replay") c.in-len1.len_at_least c.in-len1.len_below c.word-item.is in
    (λ yes. one.0 (sym c.as_str.ensures.value ∙ c.names_replay.ensures.0 yes), λ same. c.names_replay.ensures.1 (c.as_str.ensures.value ∙ one.1 same))
