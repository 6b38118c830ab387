use Rattle.text.proofs.WrittenLaws.{and_then}
use Rattle.text.proofs.written.put_dotted.Goals as goal

pub returns : goal.returns
returns c =
    and_then c.put_small-p.ensures c.put_byte.ensures
