-- The worked images have the answers that are stated.
use Rattle.std.proofs.Common.{[], refl, arith}
use Rattle.opening_rules.specs.Opening.{ByHeader, ByWalk, BySlack}
use Rattle.opening_rules.specs.Rows.{BehindTailAccepted, LinkToItself, NamedTwice, ByteBehindEnd, OneByteShort, OneByteLong, SealInFirstSlot, SlotAfterSeal, BaseNotDue, BadHeaders}

pub behind_tail_accepted : BehindTailAccepted
behind_tail_accepted = record { header = refl; passes = (refl, refl); slack = λ virt block slack. let none = slack.mapped in cc }

pub link_to_itself : LinkToItself
link_to_itself = ByWalk refl (record { rest = []; refuses = refl })

pub named_twice : NamedTwice
named_twice = ByWalk refl (record { rest = []; refuses = refl })

pub byte_behind_end : ByteBehindEnd
byte_behind_end = BySlack refl (record {
  rest = [];
  passes = (refl, refl);
  block = 1;
  slack = record {
    virt = 0;
    here = record { mapped = refl; at = 1; inside = omega arith; past_end = omega arith; nonzero = λ same. cc };
    before = λ earlier other less. absurd (omega (arith, less));
  };
  gives = refl;
})

pub one_byte_short : OneByteShort
one_byte_short = ByHeader refl

pub one_byte_long : OneByteLong
one_byte_long = ByHeader refl

pub seal_in_first_slot : SealInFirstSlot
seal_in_first_slot = ByWalk refl (record { rest = []; refuses = refl })

pub slot_after_seal : SlotAfterSeal
slot_after_seal = ByWalk refl (record { rest = []; refuses = refl })

pub base_not_due : BaseNotDue
base_not_due = ByWalk refl (record { rest = []; refuses = refl })

pub bad_headers : BadHeaders
bad_headers = (ByHeader refl, ByHeader refl, ByHeader refl, ByHeader refl, ByHeader refl)
