use Rattle.std.proofs.Common.{◌≡◌, ℕ, true, sym, ◌∙◌, ap}
use Rattle.log_entry.specs.Fields.{field}
use Rattle.log_entry.specs.declared.layouts.TheConstants.{INDIRECT_BLOCK}
use Rattle.log_image.specs.Entries.{names, direct_meaning, indirect_meaning}
use Rattle.pmem_words.specs.Seats.{Seat}
use Rattle.log_core.specs.Steps.{content_of, blocks_but}
use Rattle.log_core.specs.Works.{words_of}
use Rattle.log_image.specs.Chains.{is_listed}
use Rattle.log_blocks.specs.Taking.{taken}
use Rattle.log_blocks.specs.Committing.{taken_out}
use Rattle.log_blocks.proofs.NewEntries.{not_noted, put_in, new_direct, new_indirect, committed_by}
use Rattle.log_blocks.proofs.committing.commit.Goals as goal
use Rattle.log_blocks.proofs.committing.commit.Goals.{then-of-eq-DIRECT, else-of-eq-DIRECT}

-- what stands in the seat before it counts as won
put_so : (seat tail won : Seat) → tail ≡ record seat { walk = record seat.walk { at_tail = true } } → won ≡ record tail { calling = record tail.calling { won = true } } → won ≡ put_in seat
put_so seat tail won at_tail is = is ∙ ap (λ (t : Seat). record t { calling = record t.calling { won = true } }) at_tail

pub returns : goal.returns
returns c = let s : Seat = c.args.seat.now in put_so c.if-of-eq-DIRECT.seat c.set_at_tail.new.self c.set_won.new.self c.set_at_tail.ensures c.set_won.ensures ∙ elim c.if-of-eq-DIRECT.branch [
  | then-of-eq-DIRECT w ↦ ap put_in (w.seat-is ∙ (w.take_direct.ensures ∙ (ap (λ (t : Seat). taken t (direct_meaning c.args.entry)) w.leave_direct.ensures
      ∙ not_noted (record s { blocks = blocks_but (words_of s) (λ (other : ℕ). is_listed (names (direct_meaning c.args.entry)) other) s.blocks }) (direct_meaning c.args.entry) c.requires.not_noting)))
      ∙ committed_by s c.args.entry (direct_meaning c.args.entry) (new_direct s c.args.entry (sym c.of.ensures ∙ w.if-of-eq-DIRECT.true))
  | else-of-eq-DIRECT w ↦ ap put_in (w.seat-is ∙ (w.commit_indirect.ensures ∙ ap (λ (block : ℕ). taken_out (indirect_meaning block (content_of s block)) s) w.of-else-of-eq-DIRECT.ensures))
      ∙ committed_by s c.args.entry (indirect_meaning (field INDIRECT_BLOCK c.args.entry) (content_of s (field INDIRECT_BLOCK c.args.entry)))
      (new_indirect s c.args.entry (λ direct. w.if-of-eq-DIRECT.false (c.of.ensures ∙ direct)))
]
