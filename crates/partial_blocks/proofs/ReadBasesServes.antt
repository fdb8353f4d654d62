-- A read of the bases that a call lacks is lawful within a core.
use Rattle.std.proofs.Common.{◌≡◌, ◌<◌, ◌+◌, ◌-◌, ◌*◌, ◌⊎◌, inl, inr, nat_lt, ℕ, suc, true, List, [], ◌∷◌, ◌++◌, length, refl, sym, ◌∙◌, ap, subst, arith, append_assoc, Option, Some, None, is_some, unwrap_or}
use Rattle.std.proofs.lemmas.List.{length-append}
use Rattle.log_image.specs.Chains.{is_listed}
use Rattle.pmem_words.specs.Maps.{map_at}
use Rattle.pmem_words.specs.declared.machine.Turn.TheVariants.{Done}
use Rattle.pmem_words.specs.Seats.{Seat}
use Rattle.pmem_words.specs.Parts.{LowersOn, lowers_onward}
use Rattle.log_core.specs.Views.{Ghost}
use Rattle.log_core.specs.Origin.{Origin}
use Rattle.log_core.specs.Answers.{Enters}
use Rattle.log_core.specs.Works.{OpensBase, MayOpenBase, words_of, last_or}
use Rattle.log_core.specs.Within.{no_record, Lawful, Serves, FitsNext}
use Rattle.log_core.proofs.BlockWords.{q_range}
use Rattle.log_core.proofs.machines.Entering.{enters_same, enters_works}
use Rattle.log_core.proofs.machines.MachineLaws.{Law, HasBegun, Told, has_begun, lawful_stage, promised}
use Rattle.partial_blocks.specs.declared.read_base.ReadBase.{ReadBase}
use Rattle.partial_blocks.specs.declared.read_bases.ReadBases.{ReadBases}
use Rattle.partial_blocks.specs.Touching.{lacks_base, HasTouchedBases}
use Rattle.partial_blocks.specs.ReadingBase.{read_base_of, read_base_script, base_word_added}
use Rattle.partial_blocks.specs.ReadingBases.{reading, read_bases_of, base_opened, next_by, bases_next, read_bases_script, read_bases_lowers, MayLook}
use Rattle.partial_blocks.specs.BasesWithin.{with_bases, with_base_words, MayReadBase, MayLookForBases, MayReadBases, HasReadBases, ReadsBasesWithin}
use Rattle.partial_blocks.proofs.Embedding.{at_base}
use Rattle.partial_blocks.proofs.BasePlaces.{none_place}
use Rattle.partial_blocks.proofs.TouchedBases.{lacking_end, room_for, each_push, once_push}
use Rattle.partial_blocks.proofs.ReadBaseServes.{append_none, seat_after, read_base_law}

last_push : (number : ℕ) (bases : List ℕ) (virt : ℕ) → last_or number (bases ++ virt ∷ []) ≡ virt
last_push number [] virt = refl
last_push number (base ∷ bases) virt = last_push base bases virt

-- a base may be added where one is lacking
pub may_open : (offset : ℕ) (s : Seat) → MayLookForBases offset s → (virt : ℕ) → lacks_base offset s ≡ Some virt → MayOpenBase s virt
may_open offset s looks virt is = record {
  reads = looks.reads;
  few = room_for offset s looks.bases virt is;
  whole = looks.bases.whole;
  other = none_place s.calling.bases virt (lacking_end offset s virt is).lacks_it.none;
}

-- and its block is known
pub block_known : (offset : ℕ) (s : Seat) (virt : ℕ) → lacks_base offset s ≡ Some virt → map_at s.walk.map virt ≡ Some (unwrap_or (map_at s.walk.map virt) 0)
block_known offset s virt is = go (map_at s.walk.map virt) (lacking_end offset s virt is).lacks_it.mapped
  where
    go : (found : Option ℕ) → is_some found ≡ true → found ≡ Some (unwrap_or found 0)
    go None some = cc
    go (Some block) some = refl

-- so the read may begin there
pub may_begin : (offset : ℕ) (o : Origin) (seat : ℕ) (s : Seat) (g : Ghost) → MayLookForBases offset s → (virt : ℕ) → lacks_base offset s ≡ Some virt →
    MayReadBases offset (unwrap_or (map_at s.walk.map virt) 0) o seat (base_opened virt s) g
may_begin offset o seat s g looks virt is = record { before = s; looks = looks; virt = virt; lacking = is; block_is = block_known offset s virt is; opened = refl }

pub enters_opened : (offset : ℕ) (s : Seat) (g : Ghost) → MayLookForBases offset s → (virt : ℕ) → lacks_base offset s ≡ Some virt → Enters g s (base_opened virt s) []
enters_opened offset s g looks virt is = enters_works g s (OpensBase virt ∷ []) (may_open offset s looks virt is, tt) refl

-- the part may run there
pub part_may : (offset block : ℕ) (o : Origin) (seat : ℕ) (s : Seat) (g : Ghost) → MayReadBases offset block o seat s g → MayReadBase block o seat s g
part_may offset block o seat s g may = subst (λ (u : Seat). MayReadBase block o seat u g) (sym may.opened) (record {
  reads = record { valid = may.looks.reads.valid; own_table = may.looks.reads.own_table; at_tail = may.looks.reads.at_tail };
  none_kept = may.looks.none_kept;
  begun = (let long = length-append may.before.calling.bases (may.virt ∷ []) in omega (arith, long));
  few = (let long = length-append may.before.calling.bases (may.virt ∷ []) in let room = room_for offset may.before may.looks.bases may.virt may.lacking in omega (arith, long, room));
  whole = may.looks.bases.whole ∙ ap (λ (n : ℕ). n * words_of may.before) (let long = length-append may.before.calling.bases (may.virt ∷ []) in let same : length may.before.calling.bases ≡ length (may.before.calling.bases ++ may.virt ∷ []) - 1 = omega (arith, long) in same);
  block_is = ap (λ (v : ℕ). map_at may.before.walk.map v) (last_push 0 may.before.calling.bases may.virt) ∙ may.block_is;
})

-- and where it has ended the next base may be looked for
module _ (offset : ℕ) (before : Seat) (looks : MayLookForBases offset before) (virt : ℕ) (is : lacks_base offset before ≡ Some virt) (words : List ℕ) (long : length words ≡ words_of before) where
  looks_there : MayLookForBases offset (with_base_words words (base_opened virt before))
  looks_there = record {
    reads = record { valid = looks.reads.valid; own_table = looks.reads.own_table; at_tail = looks.reads.at_tail };
    none_kept = looks.none_kept;
    in_file = record { some = looks.in_file.some; inside = looks.in_file.inside };
    bases = record {
      once = once_push before.calling.bases virt looks.bases.once (none_place before.calling.bases virt (lacking_end offset before virt is).lacks_it.none);
      each = λ other listed. by other (each_push before.calling.bases virt other listed);
      mapped = λ other listed. there other (each_push before.calling.bases virt other listed);
      whole = (let more = length-append before.calling.base_words words in let many = length-append before.calling.bases (virt ∷ []) in let whole = looks.bases.whole in
          let split : length (before.calling.bases ++ virt ∷ []) * words_of before ≡ length before.calling.bases * words_of before + words_of before = ap (λ (n : ℕ). n * words_of before) many ∙ omega arith in
          omega (arith, more, whole, long, split));
    };
  }
    where
      there : (other : ℕ) → (is_listed before.calling.bases other ≡ true) ⊎ (other ≡ virt) → is_some (map_at before.walk.map other) ≡ true
      there other (inl listed) = looks.bases.mapped other listed
      there other (inr same) = ap (λ (v : ℕ). is_some (map_at before.walk.map v)) same ∙ (lacking_end offset before virt is).lacks_it.mapped

      by : (other : ℕ) → (is_listed before.calling.bases other ≡ true) ⊎ (other ≡ virt) → (other ≡ Rattle.partial_blocks.specs.Touching.first_touched offset before) ⊎ (other ≡ Rattle.partial_blocks.specs.Touching.last_touched offset before)
      by other (inl listed) = looks.bases.each other listed
      by other (inr same) = subst (λ (v : ℕ). (v ≡ Rattle.partial_blocks.specs.Touching.first_touched offset before) ⊎ (v ≡ Rattle.partial_blocks.specs.Touching.last_touched offset before)) (sym same) (lacking_end offset before virt is).end

pub looks_then : (offset block : ℕ) (o : Origin) (seat : ℕ) (s : Seat) (g : Ghost) (may : MayReadBases offset block o seat s g) (words : List ℕ) → length words ≡ words_of s → MayLookForBases offset (with_base_words words s)
looks_then offset block o seat s g may words long = subst (λ (u : Seat). MayLookForBases offset (with_base_words words u)) (sym may.opened)
    (looks_there offset may.before may.looks may.virt may.lacking words (long ∙ ap (λ (u : Seat). words_of u) may.opened))

module _ (offset : ℕ) (o : Origin) (seat : ℕ) (s0 : Seat) (g0 : Ghost) where
  -- a part begins at a state with more bases and words than there were at first
  pub record IsOpened (block : ℕ) (start : Seat) (ghost : Ghost) : Type 0 where
    pub may : MayReadBases offset block o seat start ghost
    pub more : List ℕ
    pub words : List ℕ
    pub is : start ≡ with_bases more words s0
    pub ghost_is : ghost ≡ g0

  pub record IsReadingBases (m : ReadBases) (s : Seat) (g : Ghost) : Type 0 where
    pub block : ℕ
    pub machine : m ≡ reading offset m.part
    pub at : HasBegun (read_base_law block) o seat (IsOpened block) m.part s g

  abbrev R : Unit {0} → Seat → Ghost → Type 0
  R out s g = HasReadBases offset s0 g0 out s g

  -- where the part has ended
  module _ (block : ℕ) (start : Seat) (ghost : Ghost) (opened : IsOpened block start ghost) (t : Seat) (h : Ghost) (words : List ℕ) (long : length words ≡ words_of start) (left : t ≡ with_base_words words start) (same : h ≡ ghost) where
    looks : MayLookForBases offset t
    looks = subst (λ (u : Seat). MayLookForBases offset u) (sym left) (looks_then offset block o seat start ghost opened.may words long)

    is_more : t ≡ with_bases opened.more (opened.words ++ words) s0
    is_more = left ∙ (ap (λ (u : Seat). with_base_words words u) opened.is
        ∙ ap (λ (l : List ℕ). record s0 { calling = record s0.calling { bases = s0.calling.bases ++ opened.more; base_words = l } }) (append_assoc s0.calling.base_words opened.words words))

    next_is_opened : (virt : ℕ) → lacks_base offset t ≡ Some virt → IsOpened (unwrap_or (map_at t.walk.map virt) 0) (base_opened virt t) h
    next_is_opened virt is = record {
      may = may_begin offset o seat t h looks virt is;
      more = opened.more ++ virt ∷ [];
      words = opened.words ++ words;
      is = ap (λ (u : Seat). base_opened virt u) is_more
          ∙ ap (λ (l : List ℕ). record s0 { calling = record s0.calling { bases = l; base_words = s0.calling.base_words ++ (opened.words ++ words) } }) (append_assoc s0.calling.bases opened.more (virt ∷ []));
      ghost_is = same ∙ opened.ghost_is;
    }

    on_end : (found : Option ℕ) → lacks_base offset t ≡ found → FitsNext no_record IsReadingBases R t h (next_by found offset t)
    on_end None is = (
      enters_same h t t refl,
      record {
        none_lacks = is;
        bases = looks.bases;
        more = opened.more;
        words = opened.words ++ words;
        left = is_more;
        ghost = same ∙ opened.ghost_is;
      },
    )
    on_end (Some virt) is = (
      enters_opened offset t h looks virt is,
      record {
        block = unwrap_or (map_at t.walk.map virt) 0;
        machine = refl;
        at = has_begun (read_base_law (unwrap_or (map_at t.walk.map virt) 0)) o seat (IsOpened (unwrap_or (map_at t.walk.map virt) 0)) (base_opened virt t) h (next_is_opened virt is)
            (part_may offset (unwrap_or (map_at t.walk.map virt) 0) o seat (base_opened virt t) h (may_begin offset o seat t h looks virt is));
      },
    )

  -- each base read brings it nearer to its end
  lowers_next : (t : Seat) (bases left : ℕ) → length t.calling.bases ≡ bases → ((virt : ℕ) → lacks_base offset t ≡ Some virt → length t.calling.bases < 2) → (found : Option ℕ) → lacks_base offset t ≡ found →
      LowersOn read_bases_script.measure ((2 - bases) * 1024 + suc left) (next_by found offset t)
  lowers_next t bases left many room None is = tt
  lowers_next t bases left many room (Some virt) is = (let low = room virt is in let next = length-append t.calling.bases (virt ∷ []) in let wide = (q_range t.geometry).1 in
      let split : 2 - bases ≡ 2 - length (t.calling.bases ++ virt ∷ []) + 1 = omega (arith, many, low, next) in
      let all : (2 - bases) * 1024 ≡ (2 - length (t.calling.bases ++ virt ∷ [])) * 1024 + 1024 = ap (λ (n : ℕ). n * 1024) split ∙ omega arith in
      omega (arith, all, wide))

  module _ (block : ℕ) where
    joins : (m : ReadBase) (s : Seat) (g : Ghost) (a : ℕ) (at : HasBegun (read_base_law block) o seat (IsOpened block) m s g) → Told (read_base_law block) o seat (IsOpened block) m s g at a → read_base_script.admits m s a → read_bases_script.admits (reading offset m) s a
    joins m s g a at told admits = record {
      part = admits;
      joint = λ done. joint done;
      falls = lowers_onward (λ n. reading offset n) (λ out t. bases_next offset t) read_bases_script.measure ((2 - length s.calling.bases) * 1024 + (words_of s - m.word)) after
          (λ go. (let lower = Rattle.partial_blocks.specs.ReadingBase.read_base_lowers m s a admits go in let same = many in
          let bases : (2 - length after.seat.calling.bases) * 1024 ≡ (2 - length s.calling.bases) * 1024 = ap (λ (n : ℕ). (2 - n) * 1024) same in omega (arith, bases, lower)))
          (λ out done. subst (λ (n : ℕ). LowersOn read_bases_script.measure ((2 - length s.calling.bases) * 1024 + n) (bases_next offset after.seat)) (let low = admits.inside in let some : suc (words_of s - m.word - 1) ≡ words_of s - m.word = omega (arith, low) in some)
          (lowers_next after.seat (length s.calling.bases) (words_of s - m.word - 1) many (joint done).room (lacks_base offset after.seat) refl));
    }
      where
        after : Rattle.pmem_words.specs.Scripts.After ReadBase (Unit {0})
        after = read_base_script.after m s a

        many : length after.seat.calling.bases ≡ length s.calling.bases
        many = ap (λ (u : Seat). length u.calling.bases) (seat_after (nat_lt (m.word + 1) (words_of s)) m (base_word_added a s))

        joint : after.turn ≡ Done tt → MayLook offset after.seat
        joint done = (let ended = told.ends tt done in
            let l = looks block at.start at.ghost at.before after.seat _ ended.words ended.whole ended.left ended.ghost in
            record { in_file = l.in_file; room = room_for offset after.seat l.bases })

    stage : (m : ReadBase) (s : Seat) (g : Ghost) → HasBegun (read_base_law block) o seat (IsOpened block) m s g → Lawful o seat read_bases_script no_record IsReadingBases R (reading offset m) s g
    stage = lawful_stage o seat no_record IsReadingBases R (read_base_law block) (IsOpened block) (at_base offset)
        (λ m s a admits. admits.part) joins
        (λ m s g at. record { block = block; machine = refl; at = at })
        (λ start ghost out t h opened may left. on_end block start ghost opened t h left.words left.whole left.left left.ghost (lacks_base offset t) refl)

  pub read_bases_serve : Serves o seat read_bases_script no_record IsReadingBases R
  read_bases_serve m s g stands = subst (λ (n : ReadBases). Lawful o seat read_bases_script no_record IsReadingBases R n s g) (sym stands.machine) (stage stands.block m.part s g stands.at)

pub read_bases_begin : (offset block : ℕ) (o : Origin) (seat : ℕ) (s : Seat) (g : Ghost) → MayReadBases offset block o seat s g → IsReadingBases offset o seat s g (read_bases_of offset block) s g
read_bases_begin offset block o seat s g may = record {
  block = block;
  machine = refl;
  at = has_begun (read_base_law block) o seat (IsOpened offset o seat s g block) s g (record {
    may = may;
    more = [];
    words = [];
    is = ap (λ (l : List ℕ). record s { calling = record s.calling { bases = l } }) (append_none s.calling.bases)
        ∙ ap (λ (l : List ℕ). record s { calling = record s.calling { bases = s.calling.bases ++ []; base_words = l } }) (append_none s.calling.base_words);
    ghost_is = refl;
  }) (part_may offset block o seat s g may);
}

abbrev pub read_bases_law : (offset block : ℕ) → Law read_bases_script (read_bases_of offset block)
read_bases_law offset block = record {
  may = MayReadBases offset block;
  stands = λ o seat s0 g0 m s g. IsReadingBases offset o seat s0 g0 m s g;
  left = λ o seat s0 g0 out s g. HasReadBases offset s0 g0 out s g;
  begins = λ o seat s g may. read_bases_begin offset block o seat s g may;
  serves = λ o seat s0 g0 may. read_bases_serve offset o seat s0 g0;
  lowers = read_bases_lowers;
}

pub reads_bases_within : ReadsBasesWithin
reads_bases_within offset block = promised read_bases_script (read_bases_of offset block) (read_bases_law offset block)
