use Rattle.pins.proofs.PinWithin.{pins_within, unpins_within}
use Rattle.pins.proofs.ScanWithin.{scans_within}
use Rattle.pins.proofs.laws.law_within.Goals as goal

pub returns : goal.returns
returns c = record { pins = pins_within; unpins = unpins_within; scans = scans_within }
