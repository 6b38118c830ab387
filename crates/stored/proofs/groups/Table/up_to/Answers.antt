use mathlib.Core.Path.{sym}
use lib.Seq.{length-take-le}
use Rattle.stored.proofs.Turning.{place_of}
use Rattle.stored.proofs.groups.Table.up_to.Goals as goal

pub slice_bounds-result-end : goal.slice_bounds-result-end
slice_bounds-result-end c = sym (length-take-le _ c.args.self.now.s.now (place_of c.args.self.now.marked c.args.k c.requires))
