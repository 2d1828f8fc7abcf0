use Rattle.specification.proofs.worked.worked_texts.Goals as goal
use Rattle.specification.proofs.rows.Texts as row

pub returns : goal.returns
returns c = row.malformed_lines
