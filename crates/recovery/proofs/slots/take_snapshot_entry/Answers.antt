use Rattle.std.proofs.Common.{◌∙◌}
use Rattle.log_image.specs.Entries.{direct_meaning, all_names}
use Rattle.log_image.specs.Image.{shape_by}
use Rattle.recovery.proofs.SlotsLemmas.{entry_taken}
use Rattle.recovery.proofs.slots.take_snapshot_entry.Goals as goal

pub returns : goal.returns
returns c = λ chain size entries has.
    entry_taken (shape_by c.args.geometry) c.take_in_snapshot.new.table c.take_direct.new.taken chain size entries
    (direct_meaning c.args.word) (c.in_ok-take_direct.ensures chain (all_names entries) has.named) (c.take_in_snapshot.ensures.map entries has.map) (c.take_in_snapshot.ensures.size ∙ has.sized)
