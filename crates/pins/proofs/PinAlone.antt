-- A pin taken where no other seat makes a step.
use Rattle.std.proofs.Common.{◌≡◌, ◌==◌, ℕ, Bool, true, false, if◌then◌else◌, List, refl}
use Rattle.log_core.specs.Files.{Write}
use Rattle.log_core.specs.Steps.{Note, StoresOwnPin, NoKind}
use Rattle.log_core.specs.After.{history_after}
use Rattle.log_core.proofs.machines.Silent.{IsSilent, silent_alone}
use Rattle.pins.specs.declared.pin.Pin.TheVariants.{Begin, Publish, Confirm}
use Rattle.pins.specs.Steps.{generation_in}
use Rattle.pins.specs.Pinning.{pin_script}
use Rattle.pins.specs.Within.{MayPin, HasPinned, PinsAlone}
use Rattle.pins.proofs.PinWithin.{pins_within}

store_silent : (b : Bool) (seat : ℕ) (history : List Write) (note : Note) (value f : ℕ) → history_after history seat note (if b then StoresOwnPin value else NoKind) f ≡ history
store_silent true seat history note value f = refl
store_silent false seat history note value f = refl

pin_silent : IsSilent pin_script
pin_silent q seat Begin s history note f = refl
pin_silent q seat Publish s history note f = store_silent (s.number == seat) seat history note (generation_in s.hold.head) f
pin_silent q seat Confirm s history note f = refl

pub pins_alone : PinsAlone
pins_alone s p at = silent_alone pin_script MayPin HasPinned Begin s p at pins_within pin_silent
