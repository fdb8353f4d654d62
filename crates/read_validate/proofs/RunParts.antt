-- A look that drives its present part to the part's end.
use Rattle.std.proofs.Common.{◌≡◌, ℕ, sym, subst}
use Rattle.pmem_words.specs.Seats.{Seat}
use Rattle.pmem_words.specs.Scripts.{Script}
use Rattle.pmem_words.specs.Conducts.{Conduct}
use Rattle.pmem_words.specs.Courses.{over}
use Rattle.pmem_words.specs.Drives.{IsSafe, Ends, RanOn, RanPart}
use Rattle.pmem_words.specs.Parts.{Next, Into, End, Embeds}
use Rattle.pmem_words.specs.declared.machine.Turn.{Turn}
use Rattle.pmem_words.specs.declared.machine.Turn.TheVariants.{Go}
use Rattle.pmem_words.proofs.Stages.{safe_stage, last_admitted, ran_stage, ended_stage}
use Rattle.read_validate.specs.declared.look.Look.{Look}
use Rattle.read_validate.specs.declared.query.Seen.{Seen}
use Rattle.read_validate.specs.declared.query.Stage.{Stage}
use Rattle.read_validate.specs.Looking.{LookAdmits, at_stage, look_script, look_lowers}

module _ {W A OutA : Type 0} (store : Conduct W) (l : Look) {part : Script A OutA} {inject : A → Stage} {next : OutA → Seat → Next Look Seen} (embeds : Embeds part look_script (λ n. at_stage l.query (inject n)) next) {p : A} {s : Seat} {v : W} (is : l.stage ≡ inject p) (safe : IsSafe look_script (over look_script store) l s v) where
  safe_there : IsSafe look_script (over look_script store) (at_stage l.query (inject p)) s v
  safe_there = subst (λ (stage : Stage). IsSafe look_script (over look_script store) (at_stage l.query stage) s v) is safe

  -- the part may be driven
  pub part_safe : ((n : A) (t : Seat) (a : ℕ) → LookAdmits (at_stage l.query (inject n)) t a → part.admits n t a) → IsSafe part (over part store) p s v
  part_safe leaves = safe_stage store embeds leaves p s v safe_there

  module _ {end : OutA} {t : Seat} {x : W} (e : Ends part (over part store) p s v end t x) where
    -- at its end the look admits the answer
    pub joint_at : LookAdmits (at_stage l.query (inject e.machine)) e.seat e.last
    joint_at = last_admitted store embeds e safe_there

    -- and goes on
    pub runs_on : {stage : Stage} {u : Seat} → next end t ≡ Into (at_stage l.query stage) u → RanOn look_script (over look_script store) l s v (at_stage l.query stage) u x
    runs_on {stage} {u} into = subst (λ (from : Stage). RanOn look_script (over look_script store) (at_stage l.query from) s v (at_stage l.query stage) u x) (sym is) (ran_stage store embeds look_lowers safe_there e into)

    -- or has ended
    pub runs_out : {out : Seen} {u : Seat} → next end t ≡ End out u → Ends look_script (over look_script store) l s v out u x
    runs_out {out} {u} ended = subst (λ (from : Stage). Ends look_script (over look_script store) (at_stage l.query from) s v out u x) (sym is) (ended_stage store embeds e ended)

-- where it has gone on
pub gone_on : {W : Type 0} (store : Conduct W) {l next : Look} {s u : Seat} {v x : W} {turn : Turn Seen} {stage : Stage} → turn ≡ Go → next ≡ at_stage l.query stage →
    RanOn look_script (over look_script store) l s v (at_stage l.query stage) u x → RanPart look_script (over look_script store) l s v turn next u x
gone_on store {l} {next} {s} {u} {v} {x} {turn} {stage} go is ran =
    subst (λ (r : Turn Seen). RanPart look_script (over look_script store) l s v r next u x) (sym go)
    (subst (λ (n : Look). RanOn look_script (over look_script store) l s v n u x) (sym is) ran)
