use Rattle.std.proofs.Common.{◌+◌}
use Rattle.std.proofs.lemmas.List.FromFn.{length-range_with_len}
use Rattle.log_entry.specs.Fields.{field}
use Rattle.log_entry.specs.declared.layouts.TheConstants.{DIRECT_BLOCK, DIRECT_COUNT}
use Rattle.log_image.specs.Entries.{direct_meaning}
use Rattle.log_image.specs.Image.{shape_by}
use Rattle.recovery.proofs.RulesLemmas.{fits_in, fits_not}
use Rattle.recovery.proofs.rules.direct_fits.Goals as goal

pub returns-then-not-is_in_limits : goal.returns-then-not-is_in_limits
returns-then-not-is_in_limits c =
    fits_not (shape_by c.args.geometry) c.args.longest (field DIRECT_COUNT c.args.word + 1) (direct_meaning c.args.word)
    (length-range_with_len (field DIRECT_BLOCK c.args.word) (field DIRECT_COUNT c.args.word + 1)) (cc)

pub returns : goal.returns
returns c =
    fits_in (shape_by c.args.geometry) c.args.longest (field DIRECT_COUNT c.args.word + 1) (direct_meaning c.args.word) c.are_in_data.result
    (length-range_with_len (field DIRECT_BLOCK c.args.word) (field DIRECT_COUNT c.args.word + 1)) (cc) (cc)
