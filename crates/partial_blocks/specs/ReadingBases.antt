-- What it means to read the virtual blocks that a write touches in part.
use Rattle.std.specs.Prelude.{ℕ, ◌+◌, ◌-◌, ◌*◌, ◌<◌, ◌≡◌, [], ◌∷◌, ◌++◌, length, Option, Some, None, unwrap_or}
use Rattle.pmem_words.specs.Maps.{map_at}
use Rattle.pmem_words.specs.Seats.{Seat}
use Rattle.pmem_words.specs.Parts.{Next, Into, End, onward}
use Rattle.pmem_words.specs.Scripts.{Script, Lowers}
use Rattle.pmem_words.specs.declared.machine.Turn.TheVariants.{Go, Done}
use Rattle.partial_blocks.specs.declared.read_base.ReadBase.{ReadBase}
use Rattle.partial_blocks.specs.declared.read_bases.ReadBases.{ReadBases}
use Rattle.partial_blocks.specs.Touching.{IsInFile, lacks_base}
use Rattle.partial_blocks.specs.ReadingBase.{read_base_of, read_base_script, ReadBaseAdmits}

-- a read of this physical block
abbrev pub reading : ℕ → ReadBase → ReadBases
reading offset part = record { offset = offset; part = part }

abbrev pub read_bases_of : ℕ → ℕ → ReadBases
read_bases_of offset block = reading offset (read_base_of block)

-- a base is added, of which no word was read
abbrev pub base_opened : ℕ → Seat → Seat
base_opened virt s = record s { calling = record s.calling { bases = s.calling.bases ++ virt ∷ [] } }

-- the next base that the call lacks is to be read; where it lacks none it has ended
abbrev pub next_by : Option ℕ → ℕ → Seat → Next ReadBases (Unit {0})
next_by None offset s = End tt s
next_by (Some virt) offset s = Into (read_bases_of offset (unwrap_or (map_at s.walk.map virt) 0)) (base_opened virt s)

abbrev pub bases_next : ℕ → Seat → Next ReadBases (Unit {0})
bases_next offset s = next_by (lacks_base offset s) offset s

-- where it goes, by what its code answers
abbrev pub went_on : Option ReadBases → Seat → Next ReadBases (Unit {0})
went_on None s = End tt s
went_on (Some m) s = Into m s

-- the next base may be looked for: there is a free place where one is lacking
pub record MayLook (offset : ℕ) (s : Seat) : Type 0 where
  pub in_file : IsInFile offset s
  pub room : (virt : ℕ) → lacks_base offset s ≡ Some virt → length s.calling.bases < 2

-- the next base may be looked for where one was read, and it comes nearer to its end then
pub record ReadBasesAdmits (m : ReadBases) (s : Seat) (f : ℕ) : Type 0 where
  pub part : ReadBaseAdmits m.part s f
  pub joint : (read_base_script.after m.part s f).turn ≡ Done tt → MayLook m.offset (read_base_script.after m.part s f).seat
  pub falls : (onward (λ n. reading m.offset n) (λ out t. bases_next m.offset t) (read_base_script.after m.part s f)).turn ≡ Go →
      (2 - length (onward (λ n. reading m.offset n) (λ out t. bases_next m.offset t) (read_base_script.after m.part s f)).seat.calling.bases) * 1024
      + read_base_script.measure (onward (λ n. reading m.offset n) (λ out t. bases_next m.offset t) (read_base_script.after m.part s f)).machine.part
      (onward (λ n. reading m.offset n) (λ out t. bases_next m.offset t) (read_base_script.after m.part s f)).seat
      < (2 - length s.calling.bases) * 1024 + read_base_script.measure m.part s

abbrev pub read_bases_script : Script ReadBases (Unit {0})
read_bases_script = record {
  asks = λ m s. read_base_script.asks m.part s;
  admits = ReadBasesAdmits;
  after = λ m s f. onward (λ n. reading m.offset n) (λ out t. bases_next m.offset t) (read_base_script.after m.part s f);
  measure = λ m s. (2 - length s.calling.bases) * 1024 + read_base_script.measure m.part s;
}

pub read_bases_lowers : Lowers read_bases_script
read_bases_lowers m s f admits go = admits.falls go
