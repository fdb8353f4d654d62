-- What taking a pin means.
use Rattle.std.specs.Prelude.{ℕ, ◌≡◌, ◌+◌, ◌-◌, ◌*◌, ◌^◌, ◌<◌, ◌≤◌, ◌==◌, Bool, true, false, refl}
use Rattle.std.proofs.Common.{arith}
use Rattle.std.proofs.lemmas.Bool.{eqb-false}
use Rattle.log_entry.specs.declared.words.Head.{Head}
use Rattle.pmem_words.specs.Seats.{Seat}
use Rattle.pmem_words.specs.Scripts.{After, Script, Lowers}
use Rattle.asks.specs.declared.ask.Ask.{Ask}
use Rattle.asks.specs.declared.ask.Ask.TheVariants.{Load, Store}
use Rattle.asks.specs.declared.ask.Place.TheVariants.{Image, Pin as PinWord}
use Rattle.pmem_words.specs.declared.machine.Turn.{Turn}
use Rattle.pmem_words.specs.declared.machine.Turn.TheVariants.{Go, Done}
use Rattle.pins.specs.declared.TheConstants.{HEAD_WORD}
use Rattle.pins.specs.declared.pin.Pin.{Pin}
use Rattle.pins.specs.declared.pin.Pin.TheVariants.{Begin, Publish, Confirm}
use Rattle.pins.specs.Steps.{generation_in, head_of, head_found, pin_stored}

-- it loads the head, or stores the generation of the head found
abbrev pub pin_asks : Pin → Seat → Ask
pin_asks Begin s = Load (Image HEAD_WORD)
pin_asks Publish s = Store (PinWord s.number) (generation_in s.hold.head)
pin_asks Confirm s = Load (Image HEAD_WORD)

-- the head found again is of no generation before the one stored
abbrev pub pin_admits : Pin → Seat → ℕ → Type 0
pin_admits Begin s a = Unit {0}
pin_admits Publish s a = Unit {0}
pin_admits Confirm s a = s.hold.pin ≤ generation_in a

-- by whether the head found again is of the generation stored: it ends, or stores that of the head found
abbrev pub confirm_machine : Bool → Pin
confirm_machine true = Confirm
confirm_machine false = Publish

abbrev pub confirm_turn : Bool → ℕ → Turn Head
confirm_turn true a = Done (head_of a)
confirm_turn false a = Go

abbrev pub confirm_after : Bool → Seat → ℕ → After Pin Head
confirm_after same s a = record { machine = confirm_machine same; seat = head_found s a; turn = confirm_turn same a }

abbrev pub pin_after : Pin → Seat → ℕ → After Pin Head
pin_after Begin s a = record { machine = Publish; seat = head_found s a; turn = Go }
pin_after Publish s a = record { machine = Confirm; seat = pin_stored s (generation_in s.hold.head); turn = Go }
pin_after Confirm s a = confirm_after (s.hold.pin == generation_in a) s a

-- more than two steps for each generation from that of the head found, or the one stored, on
abbrev pub pin_measure : Pin → Seat → ℕ
pin_measure Begin s = 2 * 2 ^ 32 + 2
pin_measure Publish s = 2 * (2 ^ 32 - generation_in s.hold.head) + 1
pin_measure Confirm s = 2 * (2 ^ 32 - s.hold.pin)

abbrev pub pin_script : Script Pin Head
pin_script = record { asks = pin_asks; admits = pin_admits; after = pin_after; measure = pin_measure }

confirm_lowers : (b : Bool) (s : Seat) (a : ℕ) → s.hold.pin == generation_in a ≡ b → s.hold.pin ≤ generation_in a → (confirm_after b s a).turn ≡ Go
    → pin_measure (confirm_after b s a).machine (confirm_after b s a).seat < 2 * (2 ^ 32 - s.hold.pin)
confirm_lowers true s a e h go = cc
confirm_lowers false s a e h go = omega (arith, eqb-false s.hold.pin (generation_in a) e)

pub pin_lowers : Lowers pin_script
pin_lowers Begin s a h go = omega arith
pin_lowers Publish s a h go = omega arith
pin_lowers Confirm s a h go = confirm_lowers (s.hold.pin == generation_in a) s a refl h go
