use Rattle.std.proofs.Common.{refl}
use Rattle.persistence.proofs.RowLemmas.{left_at, not_before, not_other, not_shorter}
use Rattle.persistence.proofs.laws.law_rows.Goals as goal

pub returns-clause-mark_then_fence : goal.returns-clause-mark_then_fence
returns-clause-mark_then_fence c = refl

pub returns-clause-fence_of_another_seat : goal.returns-clause-fence_of_another_seat
returns-clause-fence_of_another_seat c = (refl, refl)

pub returns-clause-later_mark : goal.returns-clause-later_mark
returns-clause-later_mark c = refl

pub returns-clause-lost_exchange : goal.returns-clause-lost_exchange
returns-clause-lost_exchange c = (refl, refl)

pub returns-clause-won_exchange : goal.returns-clause-won_exchange
returns-clause-won_exchange c = (refl, refl)

pub returns-clause-floor : goal.returns-clause-floor
returns-clause-floor c = refl

pub returns-clause-oldest_and_newest : goal.returns-clause-oldest_and_newest
returns-clause-oldest_and_newest c = (refl, refl)

pub returns-clause-left : goal.returns-clause-left
returns-clause-left c = left_at

pub returns-clause-never_left : goal.returns-clause-never_left
returns-clause-never_left c = (not_before, not_other, not_shorter)

pub returns-clause-drawn_of_seed : goal.returns-clause-drawn_of_seed
returns-clause-drawn_of_seed c = (refl, refl)
