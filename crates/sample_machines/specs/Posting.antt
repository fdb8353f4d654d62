-- What a post means: it is said by what its parts mean.
use Rattle.std.specs.Prelude.{ℕ, ◌≡◌, ◌+◌, ◌-◌, ◌*◌, ◌<◌, ◌==◌, nat_lt, Bool, true, false, length}
use Rattle.std.proofs.Common.{arith}
use Rattle.pmem_words.specs.Seats.{Seat}
use Rattle.pmem_words.specs.Scripts.{After, Script, Lowers}
use Rattle.pmem_words.specs.Parts.{Next, Into, End, onward, LowersOn, lowers_onward}
use Rattle.asks.specs.declared.ask.Ask.{Ask}
use Rattle.pmem_words.specs.declared.machine.Turn.TheVariants.{Go, Done}
use Rattle.sample_machines.specs.declared.offer.Offer.{Offer}
use Rattle.sample_machines.specs.declared.post.Stage.{Stage}
use Rattle.sample_machines.specs.declared.post.Stage.TheVariants.{Laying, Offering}
use Rattle.sample_machines.specs.declared.post.Post.{Post}
use Rattle.sample_machines.specs.Laying.{lay_script, lay_lowers}
use Rattle.sample_machines.specs.Offering.{offer_script, offer_after_if, offer_ends, next_slot}

abbrev pub at_stage : Post → Stage → Post
at_stage m stage = record m { stage = stage }

-- laying from the first byte on
abbrev pub laying : Post → Post
laying m = at_stage m (Laying (record { first = m.first; next = 0 }))

abbrev pub offering : Post → Post
offering m = at_stage m (Offering (record { value = m.value }))

-- a post that has not begun
abbrev pub post_of : ℕ → ℕ → ℕ → Post
post_of first value limit = record { first = first; value = value; limit = limit; stage = Laying (record { first = first; next = 0 }) }

-- after the bytes are laid
abbrev pub laid : Post → Unit {0} → Seat → Next Post Bool
laid m _ s = Into (offering m) s

-- once more, if a slot is left
abbrev pub again_if : Bool → Post → Seat → Next Post Bool
again_if true again s = Into again s
again_if false again s = End false s

-- after the offer
abbrev pub offered : Post → Bool → Seat → Next Post Bool
offered m true s = End true s
offered m false s = again_if (nat_lt s.walk.tail_slot m.limit) (laying m) s

abbrev pub stage_asks : Stage → Seat → Ask
stage_asks (Laying p) s = lay_script.asks p s
stage_asks (Offering p) s = offer_script.asks p s

abbrev pub part_admits : Stage → Seat → ℕ → Type 0
part_admits (Laying p) s a = lay_script.admits p s a
part_admits (Offering p) s a = offer_script.admits p s a

-- what the part admits, at a slot below the limit and with few bytes
pub record PostAdmits (m : Post) (s : Seat) (a : ℕ) : Type 0 where
  pub part : part_admits m.stage s a
  pub slot : s.walk.tail_slot < m.limit
  pub few : length s.calling.bytes < 65536

abbrev pub stage_after : Post → Stage → Seat → ℕ → After Post Bool
stage_after m (Laying p) s a = onward (λ n. at_stage m (Laying n)) (laid m) (lay_script.after p s a)
stage_after m (Offering p) s a = onward (λ n. at_stage m (Offering n)) (offered m) (offer_script.after p s a)

-- more than the steps of one round
abbrev pub stage_measure : Stage → Seat → ℕ
stage_measure (Laying p) s = lay_script.measure p s + 1
stage_measure (Offering p) s = 0

abbrev pub post_measure : Post → Seat → ℕ
post_measure m s = (m.limit - s.walk.tail_slot) * 65540 + stage_measure m.stage s

abbrev pub post_script : Script Post Bool
post_script = record {
  asks = λ m s. stage_asks m.stage s;
  admits = PostAdmits;
  after = λ m s a. stage_after m m.stage s a;
  measure = post_measure;
}

again_lowers : (b : Bool) (m : Post) (s : Seat) → s.walk.tail_slot < m.limit → length s.calling.bytes < 65536
    → LowersOn post_measure ((m.limit - s.walk.tail_slot) * 65540 + 0) (again_if b (laying m) (next_slot s))
again_lowers true m s slot few = omega arith
again_lowers false m s slot few = tt

offered_lowers : (b : Bool) (m : Post) (p : Offer) (s : Seat) (o : Bool) → s.walk.tail_slot < m.limit → length s.calling.bytes < 65536 → (offer_after_if b p s).turn ≡ Done o
    → LowersOn post_measure ((m.limit - s.walk.tail_slot) * 65540 + 0) (offered m o (offer_after_if b p s).seat)
offered_lowers true m p s true slot few e = tt
offered_lowers true m p s false slot few e = absurd (let two : true ≡ false = cc in let bad : ⊥ = cc in bad)
offered_lowers false m p s true slot few e = tt
offered_lowers false m p s false slot few e = again_lowers (nat_lt (s.walk.tail_slot + 1) m.limit) m s slot few

lowers_at : (m : Post) (stage : Stage) (s : Seat) (a : ℕ) → part_admits stage s a → s.walk.tail_slot < m.limit → length s.calling.bytes < 65536 → (stage_after m stage s a).turn ≡ Go
    → post_measure (stage_after m stage s a).machine (stage_after m stage s a).seat < (m.limit - s.walk.tail_slot) * 65540 + stage_measure stage s
lowers_at m (Laying p) s a h slot few go =
    lowers_onward (λ n. at_stage m (Laying n)) (laid m) post_measure ((m.limit - s.walk.tail_slot) * 65540 + (lay_script.measure p s + 1)) (lay_script.after p s a)
    (λ g. let falls : lay_script.measure (lay_script.after p s a).machine (lay_script.after p s a).seat < lay_script.measure p s = lay_lowers p s a h g in omega arith)
    (λ o d. omega arith) go
lowers_at m (Offering p) s a h slot few go =
    lowers_onward (λ n. at_stage m (Offering n)) (offered m) post_measure ((m.limit - s.walk.tail_slot) * 65540 + 0) (offer_script.after p s a)
    (λ g. absurd (offer_ends (a == 0) p s g))
    (λ o d. offered_lowers (a == 0) m p s o slot few d) go

pub post_lowers : Lowers post_script
post_lowers m s a h go = lowers_at m m.stage s a h.part h.slot h.few go
