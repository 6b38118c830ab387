use Rattle.stored.proofs.Putting.{range_put}
use Rattle.stored.proofs.write.put_range.Goals as goal

pub returns : goal.returns
returns c = range_put _ c.args.close c.requires c.put_decimal-p.ensures c.put_byte-q.ensures c.put_decimal-r.ensures c.put_byte.ensures
