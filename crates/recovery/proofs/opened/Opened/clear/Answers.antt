-- Clearing keeps what the words stand for.
use Rattle.std.proofs.Common.{◌≡◌, ℕ, List, length, Vec, Global, sym, ap, ◌∙◌, subst}
use Rattle.log_image.specs.Tails.{IsCleared}
use Rattle.log_image.specs.Image.{shape_by}
use Rattle.recovery.specs.Openings.{as_tail}
use Rattle.recovery.proofs.ClearingLemmas.{whole_kept, inside_kept, kept_after, recovered_by, changed_words}
use Rattle.recovery.proofs.opened.Opened.clear.Goals as goal

pub clear_after-requires-clause-whole : goal.clear_after-requires-clause-whole
clear_after-requires-clause-whole c =
    ap (λ (l : List ℕ). length l) c.deref_mut.ensures.value
    ∙ whole_kept c.args.self.geometry c.args.self.words.items c.args.self.taken.items c.args.self.generation c.args.self.position c.args.self.size c.args.self.tail c.args.self.kept

pub clear_after-requires-clause-inside : goal.clear_after-requires-clause-inside
clear_after-requires-clause-inside c =
    inside_kept c.args.self.geometry c.args.self.words.items c.args.self.taken.items c.args.self.generation c.args.self.position c.args.self.size c.args.self.tail c.args.self.kept

pub new-requires : goal.new-requires
new-requires c =
    let old = c.args.self.words.items in
    let same : c.deref_mut.result.now ≡ old = c.deref_mut.ensures.value in
    let cleared : IsCleared (shape_by c.args.self.geometry) (as_tail c.args.self.tail) old c.clear_after.new.words = rw same at c.clear_after.ensures in
    rw (changed_words old c.clear_after.new.words c.args.self.words.len c.args.self.words.ok.0 cleared.same_length)
    (kept_after c.args.self.geometry old c.clear_after.new.words c.args.self.taken.items c.args.self.generation c.args.self.position c.args.self.size c.args.self.tail cleared c.args.self.kept)

pub returns-clause-recovered : goal.returns-clause-recovered
returns-clause-recovered c =
    let old = c.args.self.words.items in
    let same : c.deref_mut.result.now ≡ old = c.deref_mut.ensures.value in
    let cleared : IsCleared (shape_by c.args.self.geometry) (as_tail c.args.self.tail) old c.clear_after.new.words = rw same at c.clear_after.ensures in
    let words : c.new.result.words.items ≡ c.clear_after.new.words =
    ap (λ (v : Vec ℕ Global). v.items) c.new.ensures.same_words ∙ changed_words old c.clear_after.new.words c.args.self.words.len c.args.self.words.ok.0 cleared.same_length in
    recovered_by c.args.self.geometry old c.args.self.taken.items c.args.self.generation c.args.self.position c.args.self.size c.args.self.tail c.new.result
    (subst (λ (l : List ℕ). IsCleared (shape_by c.args.self.geometry) (as_tail c.args.self.tail) old l) (sym words) cleared) c.args.self.kept
