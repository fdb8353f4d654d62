-- The words that seats share, as contracts see them, and one step on them.
use Rattle.std.specs.Prelude.{ℕ, ◌<◌, List, length, slice_set, slice_index}
use Rattle.asks.specs.Asks.{place, becomes, answer}
use Rattle.asks.specs.declared.ask.Place.{Place}
use Rattle.asks.specs.declared.ask.Place.TheVariants.{Image, Pin, Map, FenceOf}
use Rattle.asks.specs.declared.ask.Ask.{Ask}
use Rattle.asks.specs.declared.ask.Ask.TheVariants.{Load, Store, Exchange, SetBits, ClearBits, Mark, Fence}

-- the image words, the words of the bitmap and the pin words
pub record SharedWords : Type 0 where
  pub words : List ℕ
  pub taken : List ℕ
  pub pins : List ℕ

-- the word at a place; a fence word is 0
abbrev pub word_at : SharedWords → Place → ℕ
word_at p (Image w) = slice_index p.words w
word_at p (Pin i) = slice_index p.pins i
word_at p (Map m) = slice_index p.taken m
word_at p (FenceOf i) = 0

-- the words with this one at a place; a fence word stays 0
abbrev pub with_word : SharedWords → Place → ℕ → SharedWords
with_word p (Image w) value = record p { words = slice_set p.words w value }
with_word p (Pin i) value = record p { pins = slice_set p.pins i value }
with_word p (Map m) value = record p { taken = slice_set p.taken m value }
with_word p (FenceOf i) value = p

-- of words with so many pin words: there is a word at the place that may get a value
abbrev pub HasWord : ℕ → SharedWords → Place → Type 0
HasWord pins p (Image w) = w < length p.words
HasWord pins p (Pin i) = i < pins
HasWord pins p (Map m) = m < length p.taken
HasWord pins p (FenceOf i) = ⊥

-- a word that may be loaded: those, and each fence word
abbrev pub CanLoad : ℕ → SharedWords → Place → Type 0
CanLoad pins p (Image w) = w < length p.words
CanLoad pins p (Pin i) = i < pins
CanLoad pins p (Map m) = m < length p.taken
CanLoad pins p (FenceOf i) = Unit {0}

-- the asks that such words take
abbrev pub TakesAsk : ℕ → SharedWords → Ask → Type 0
TakesAsk pins p (Load at) = CanLoad pins p at
TakesAsk pins p (Store at value) = HasWord pins p at
TakesAsk pins p (Exchange at before after) = HasWord pins p at
TakesAsk pins p (SetBits at bits) = HasWord pins p at
TakesAsk pins p (ClearBits at bits) = HasWord pins p at
TakesAsk pins p (Mark w) = w < length p.words
TakesAsk pins p Fence = Unit {0}

-- the word that an ask finds
abbrev pub found_by : SharedWords → Ask → ℕ
found_by p ask = word_at p (place 0 ask)

-- its answer
abbrev pub answer_of : SharedWords → Ask → ℕ
answer_of p ask = answer ask (found_by p ask)

-- and the words after it
abbrev pub words_after : SharedWords → Ask → SharedWords
words_after p ask = with_word p (place 0 ask) (becomes ask (found_by p ask))
