use Rattle.rules.proofs.RowLaws.{row_put}
use Rattle.rules.proofs.rows.put_row.Goals as goal

pub returns-clause-put : goal.returns-clause-put
returns-clause-put c = row_put _ c.row_words.ensures c.put_words.ensures.put
