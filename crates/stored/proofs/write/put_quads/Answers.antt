use Rattle.stored.proofs.Putting.{range_put}
use Rattle.stored.proofs.write.put_quads.Goals as goal

pub returns : goal.returns
returns c = range_put _ c.args.close c.requires c.put_quad-p.ensures c.put_byte-q.ensures c.put_quad-r.ensures c.put_byte.ensures
