use Rattle.std.proofs.Common.{◌∷◌, []}
use Rattle.log_image.specs.Maps.{size_after}
use Rattle.log_image.specs.Entries.{meaning, all_names}
use Rattle.log_image.specs.Image.{shape_by}
use Rattle.recovery.proofs.SlotsLemmas.{entry_taken}
use Rattle.recovery.proofs.slots.take_log_entry.Goals as goal

pub returns : goal.returns
returns c = λ chain size entries has.
    entry_taken (shape_by c.args.geometry) c.take_in.new.table c.take_names.new.taken chain (size_after (shape_by c.args.geometry) size (meaning c.args.words.now (shape_by c.args.geometry) c.args.word ∷ [])) entries
    (meaning c.args.words.now (shape_by c.args.geometry) c.args.word) (c.in_ok-take_names.ensures chain (all_names entries) has.named) (c.take_in.ensures.map entries has.map) (c.take_in.ensures.size size [] (record { same = has.sized })).same
