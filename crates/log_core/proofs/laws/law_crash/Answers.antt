use Rattle.log_core.proofs.crashes.Recovered.{crashes_are_recovered, present_words_have_all}
use Rattle.log_core.proofs.crashes.ClearingSteps.{clearings_stop}
use Rattle.log_core.proofs.laws.law_crash.Goals as goal

pub returns : goal.returns
returns c = record { each_crash = crashes_are_recovered; clearings = clearings_stop; none_lost = present_words_have_all }
