use Rattle.history_report.proofs.TextLemmas.{text_fixes_calls}
use Rattle.history_report.proofs.laws.law_text.Goals as goal

pub returns : goal.returns
returns c = text_fixes_calls
