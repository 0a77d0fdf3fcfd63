-- `text_read::read_text` meets its contract.
use Rattle.text_read.proofs.Runs.{text_read_lem}
use Rattle.text_read.proofs.read_text.Goals as goal

pub returns : goal.returns
returns c = text_read_lem _ _ c.requires _ c.strip_prefix.ensures.cases
