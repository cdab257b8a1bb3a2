use Rattle.std.proofs.Common.{rules}
use Rattle.schedule_text.proofs.grammar.act_of_word.Goals as goal

pub returns-then-is_word-3-clause-read : goal.returns-then-is_word-3-clause-read
returns-then-is_word-3-clause-read c = search rules
