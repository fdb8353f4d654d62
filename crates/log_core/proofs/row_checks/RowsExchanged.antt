-- Rows of exchanges: of a slot, of a link and of the head, won and lost.
use Rattle.std.proofs.Common.{ℕ, refl, arith, ap}
use Rattle.log_entry.specs.declared.calls.Reply.{Reply}
use Rattle.log_entry.specs.declared.calls.Reply.TheVariants.{Wrote}
use Rattle.log_core.specs.worked_rows.Rows.{SlotWon, SlotLost, WriteEnds, LinkWon, LinkLost, HeadWon, HeadLost}

pub slot_won : SlotWon
slot_won = (refl, refl, refl, refl, refl, refl, refl, refl, refl, refl, refl, refl, refl, refl, refl, refl, refl)

pub slot_lost : SlotLost
slot_lost = (refl, refl, refl, refl, refl, refl, refl, refl, refl, refl, refl)

count_of : Reply → ℕ
count_of (Wrote count) = count
count_of _ = 0

pub write_ends : WriteEnds
unfolding count_of
write_ends = (
  refl,
  refl,
  refl,
  refl,
  refl,
  record { at_tail = refl; position = refl; seat = refl; number = refl; op = refl; fits = refl },
  λ may. omega (arith, ap count_of may.fits),
  λ may. omega (arith, may.position),
)

pub link_won : LinkWon
link_won = (
  refl,
  refl,
  refl,
  refl,
  refl,
  record { valid = refl; ready = refl; link = refl; at_end = refl; owned = refl; in_log = refl; content = refl },
  λ may. cc,
  refl,
  refl,
  refl,
  refl,
  refl,
  refl,
  refl,
  refl,
)

pub link_lost : LinkLost
link_lost = (refl, refl, refl, refl, refl)

pub head_won : HeadWon
head_won = (refl, refl, refl, refl, refl, refl, refl, refl, refl, refl, refl, refl, refl)

pub head_lost : HeadLost
head_lost = (refl, refl, refl, refl, refl)
