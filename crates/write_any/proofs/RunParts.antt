-- A write that drives its present part to the part's end.
use Rattle.std.proofs.Common.{◌≡◌, ℕ, Bool, true, false, Option, Some, None, refl, sym, ap, subst}
use Rattle.log_entry.specs.declared.calls.WriteRefusal.{WriteRefusal}
use Rattle.pmem_words.specs.Seats.{Seat}
use Rattle.pmem_words.specs.Scripts.{Script}
use Rattle.pmem_words.specs.Conducts.{Conduct}
use Rattle.pmem_words.specs.Courses.{over}
use Rattle.pmem_words.specs.Drives.{IsSafe, Ends, RanOn, RanPart}
use Rattle.pmem_words.specs.Parts.{Next, Into, End, Embeds}
use Rattle.pmem_words.specs.declared.machine.Turn.{Turn}
use Rattle.pmem_words.specs.declared.machine.Turn.TheVariants.{Go}
use Rattle.pmem_words.specs.declared.written.Written.{Written}
use Rattle.pmem_words.proofs.Stages.{safe_stage, last_admitted, ran_stage, ended_stage}
use Rattle.write_any.specs.declared.stage.Stage.{Stage}
use Rattle.write_any.specs.declared.stage.Target.{Target}
use Rattle.write_any.specs.declared.write.Write.{Write}
use Rattle.write_any.specs.Writing.{WriteAdmits, at_stage, still_giving, unpinned_by, written, write_script, write_lowers}

module _ {W A OutA : Type 0} (store : Conduct W) (w : Write) {part : Script A OutA} {inject : A → Stage} {next : OutA → Seat → Next Write Written} (embeds : Embeds part write_script (λ n. at_stage w.target (inject n)) next) {p : A} {s : Seat} {v : W} (is : w.stage ≡ inject p) (safe : IsSafe write_script (over write_script store) w s v) where
  safe_there : IsSafe write_script (over write_script store) (at_stage w.target (inject p)) s v
  safe_there = subst (λ (stage : Stage). IsSafe write_script (over write_script store) (at_stage w.target stage) s v) is safe

  -- the part may be driven
  pub part_safe : ((n : A) (t : Seat) (a : ℕ) → WriteAdmits (at_stage w.target (inject n)) t a → part.admits n t a) → IsSafe part (over part store) p s v
  part_safe leaves = safe_stage store embeds leaves p s v safe_there

  module _ {end : OutA} {t : Seat} {x : W} (e : Ends part (over part store) p s v end t x) where
    -- at its end the write admits the answer
    pub joint_at : WriteAdmits (at_stage w.target (inject e.machine)) e.seat e.last
    joint_at = last_admitted store embeds e safe_there

    -- and goes on
    pub runs_on : {stage : Stage} {u : Seat} → next end t ≡ Into (at_stage w.target stage) u → RanOn write_script (over write_script store) w s v (at_stage w.target stage) u x
    runs_on {stage} {u} into = subst (λ (from : Stage). RanOn write_script (over write_script store) (at_stage w.target from) s v (at_stage w.target stage) u x) (sym is) (ran_stage store embeds write_lowers safe_there e into)

    -- or has ended
    pub runs_out : {out : Written} {u : Seat} → next end t ≡ End out u → Ends write_script (over write_script store) w s v out u x
    runs_out {out} {u} ended = subst (λ (from : Stage). Ends write_script (over write_script store) (at_stage w.target from) s v out u x) (sym is) (ended_stage store embeds e ended)

-- where it has gone on
pub gone_on : {W : Type 0} (store : Conduct W) {w next : Write} {s u : Seat} {v x : W} {turn : Turn Written} {stage : Stage} → turn ≡ Go → next ≡ at_stage w.target stage →
    RanOn write_script (over write_script store) w s v (at_stage w.target stage) u x → RanPart write_script (over write_script store) w s v turn next u x
gone_on store {w} {next} {s} {u} {v} {x} {turn} {stage} go is ran =
    subst (λ (r : Turn Written). RanPart write_script (over write_script store) w s v r next u x) (sym go)
    (subst (λ (n : Write). RanOn write_script (over write_script store) w s v n u x) (sym is) ran)

-- after the pin was given up
pub gives : (none : Bool) (t : Target) (refusal : Option WriteRefusal) (stage : Stage) (s : Seat) → Some stage ≡ still_giving none refusal → unpinned_by none t refusal s ≡ Into (at_stage t stage) s
gives true t refusal stage s is = cc
gives false t refusal stage s is = (let same : stage ≡ Rattle.write_any.specs.declared.stage.Stage.TheVariants.Giving refusal (Rattle.block_bitmap.specs.Giving.give_of Rattle.block_bitmap.specs.declared.give.GiveFrom.TheVariants.Owned) = cc in ap (λ (n : Stage). Into (at_stage t n) s) (sym same))

pub gives_none : (none : Bool) (t : Target) (refusal : Option WriteRefusal) (s : Seat) → None ≡ still_giving none refusal → unpinned_by none t refusal s ≡ End (written t refusal s) s
gives_none true t refusal s is = refl
gives_none false t refusal s is = cc
