use Rattle.app_table.proofs.Edits.{put_over}
use Rattle.app_table.proofs.table.put_over.Goals as goal

pub returns-clause-content : goal.returns-clause-content
returns-clause-content c = let put = put_over c.args.key c.args.value c.args.place c.args.entries.now.items c.requires in cc
