-- What a crash leaves of an image is recovered, of whichever run it stands for; and the newest words have all writes.
use Rattle.std.proofs.Common.{◌≡◌, ℕ, List, length, refl, sym, ◌∙◌, ap, subst, arith}
use Rattle.std.proofs.lemmas.List.{ext_get_or, get_or_push}
use Rattle.persistence.specs.Memory.{Memory, cell}
use Rattle.persistence.specs.Choices.{chosen}
use Rattle.persistence.specs.declared.survivors.Choice.TheVariants.{Newest}
use Rattle.persistence.proofs.ChoiceLemmas.{length-chosen, chosen_at}
use Rattle.persistence.specs.Survivors.{Survives}
use Rattle.log_image.specs.Stands.{Stands}
use Rattle.log_core.specs.Files.{end_of}
use Rattle.log_core.specs.Cores.{Core}
use Rattle.log_core.specs.Crashes.{IsRecovered, file_after_first}
use Rattle.log_core.proofs.crashes.Recovered.{crashes_are_recovered, present_words_have_all}
use Rattle.crash_model.specs.Images.{SharedNow, AreRecovered, HaveAllWrites}

pub left_recovered : (i : SharedNow) (words : List ℕ) → Survives i.cells.memory words → AreRecovered i words
left_recovered i words left o c stands = subst (λ (d : Core). IsRecovered o d words) stands.reached.ends
    (crashes_are_recovered o stands.reached.steps words stands.start stands.reached.is_run
    (subst (λ (m : Memory). Survives m words) (sym (ap (λ (d : Core). d.memory) stands.reached.ends ∙ stands.memory)) left))

-- the newest words are the present ones
newest_words : (memory : Memory) → chosen Newest memory ≡ memory.now.words
newest_words memory = ext_get_or 0 (chosen Newest memory) memory.now.words (length-chosen Newest memory)
    (λ word inside. chosen_at Newest memory word (let long = length-chosen Newest memory in omega (arith, inside, long))
    ∙ get_or_push (cell memory word).past (cell memory word).present 0 (length (cell memory word).past) refl)

pub newest_has : (i : SharedNow) (words : List ℕ) → words ≡ chosen Newest i.cells.memory → HaveAllWrites i words
newest_has i words is o c stands = subst (λ (found : List ℕ). Stands found (file_after_first o c (length c.history)) i.position)
    (ap (λ (memory : Memory). memory.now.words) stands.memory ∙ sym (is ∙ newest_words i.cells.memory))
    (subst (λ (position : ℕ). Stands c.memory.now.words (file_after_first o c (length c.history)) position) stands.position
    (subst (λ (d : Core). Stands d.memory.now.words (file_after_first o d (length d.history)) (end_of o d.history)) stands.reached.ends
    (present_words_have_all o stands.reached.steps stands.start stands.reached.is_run)))
