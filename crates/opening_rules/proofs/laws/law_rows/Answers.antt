use Rattle.opening_rules.proofs.WorkedRows.{behind_tail_accepted, link_to_itself, named_twice, byte_behind_end, one_byte_short, one_byte_long, seal_in_first_slot, slot_after_seal, base_not_due, bad_headers}
use Rattle.opening_rules.proofs.laws.law_rows.Goals as goal

pub returns : goal.returns
returns c = record {
  behind_tail = behind_tail_accepted;
  link_to_itself = link_to_itself;
  named_twice = named_twice;
  byte_behind_end = byte_behind_end;
  one_byte_short = one_byte_short;
  one_byte_long = one_byte_long;
  seal_in_first_slot = seal_in_first_slot;
  slot_after_seal = slot_after_seal;
  base_not_due = base_not_due;
  bad_headers = bad_headers;
}
