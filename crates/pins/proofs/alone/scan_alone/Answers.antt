use Rattle.pmem_words.specs.Courses.{over}
use Rattle.pmem_words.specs.PlainWords.{plain}
use Rattle.pmem_words.proofs.LeadsLemmas.{safe_by, ends_by}
use Rattle.pins.specs.Scanning.{scan_script}
use Rattle.pins.proofs.OneScan.{one_scan}
use Rattle.pins.proofs.ScanOverPlain.{ScannedAlone, scanned_alone}
use Rattle.pins.proofs.alone.scan_alone.Goals as goal

pub drive-requires : goal.drive-requires
drive-requires c =
    rw c.new.ensures (safe_by scan_script (over scan_script plain) _ _ _ _ (scanned_alone c.args.generation c.args.seat.now c.args.memory.now c.requires.some c.requires.few))

pub returns : goal.returns
returns c =
    let alone : ScannedAlone c.args.generation c.args.seat.now c.args.memory.now c.drive.result c.drive.new.seat c.drive.new.memory =
    ends_by scan_script (over scan_script plain) _ _ _ _ _ _ _ (scanned_alone c.args.generation c.args.seat.now c.args.memory.now c.requires.some c.requires.few) (rw c.new.ensures at c.drive.ensures) in
    record {
      scan = alone.scan;
      each = λ other is. one_scan c.args.generation c.args.seat.now.seats c.args.memory.now.pins c.drive.result other alone.scan is;
      seen = alone.seen;
      seat = alone.seat;
      memory = alone.memory;
    }
