use Rattle.stored.proofs.Putting.{room_1, room_5, room_6, line_put}
use Rattle.stored.proofs.write.put_line.Goals as goal

pub put_range-i-requires : goal.put_range-i-requires
put_range-i-requires c = room_1 c.args.l _ _ c.requires

pub put_range-n-requires : goal.put_range-n-requires
put_range-n-requires c = room_5 c.args.l _ _ c.requires c.put_range-i.ensures c.put_range-j.ensures c.put_range-k.ensures c.put_quads-m.ensures

pub put_range-requires : goal.put_range-requires
put_range-requires c = room_6 c.args.l _ _ c.requires c.put_range-i.ensures c.put_range-j.ensures c.put_range-k.ensures c.put_quads-m.ensures c.put_range-n.ensures

pub returns : goal.returns
returns c = line_put c.args.l _ _ c.requires c.put_range-i.ensures c.put_range-j.ensures c.put_range-k.ensures c.put_quads-m.ensures c.put_range-n.ensures c.put_range.ensures
