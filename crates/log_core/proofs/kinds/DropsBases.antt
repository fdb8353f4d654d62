-- All bases are given up: what a core knows of the seat stays.
use Rattle.std.proofs.Common.{ℕ, [], refl, arith}
use Rattle.pmem_words.specs.Seats.{Seat}
use Rattle.log_core.specs.Views.{Ghost}
use Rattle.log_core.specs.Origin.{Origin}
use Rattle.log_core.specs.Cores.{Core}
use Rattle.log_core.specs.Works.{DropsBases, state_after_work}
use Rattle.log_core.specs.Knows.{Knows}
use Rattle.log_core.proofs.kinds.Bases.{bases_facts}

pub drop_facts : (o : Origin) (c : Core) (n : ℕ) (s : Seat) (g : Ghost) (pin began : ℕ) → Knows o c n s g pin began → Knows o c n (state_after_work s DropsBases) g pin began
drop_facts o c n s g pin began f = bases_facts o c n s g pin began [] [] f
    (record { most = omega arith; whole = omega arith; from_first = λ some. absurd (some refl); bytes = λ running place at inside. absurd (omega (arith, inside)) })
    (λ reading running. refl)
