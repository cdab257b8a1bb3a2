use Rattle.state_transfer.proofs.Whole.{bytes_are, whole_answer, part_answer, served}
use Rattle.state_transfer.proofs.laws.pieces_make_their_snapshot.Goals as goal

pub returns-clause-bytes : goal.returns-clause-bytes
returns-clause-bytes c followed from position snapshot pieces least most are all = bytes_are followed from position snapshot most pieces least are all

pub returns-clause-whole : goal.returns-clause-whole
returns-clause-whole c followed from position snapshot pieces last most are cut near all = whole_answer followed from position snapshot most pieces last are cut near all

pub returns-clause-part : goal.returns-clause-part
returns-clause-part c followed from position snapshot pieces last most are cut near some = part_answer followed from position snapshot most pieces last are cut near some

pub returns-clause-served : goal.returns-clause-served
returns-clause-served c from group position snapshot offset body aligned within is = served from group position snapshot offset body aligned within is
