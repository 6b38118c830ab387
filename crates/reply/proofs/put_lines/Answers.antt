use Rattle.reply.proofs.Putting.{putting}
use Rattle.reply.proofs.put_lines.Goals as goal

pub put_line-at-requires : goal.put_line-at-requires
put_line-at-requires c = search putting

pub returns : goal.returns
returns c = search putting
