-- Adding to a text: a word stored behind what it has, one thing after the other, and nothing; what the memory holds that is given back.
-- Assumes nothing.
use Rattle.std.proofs.Common.{ℕ, ◌+◌, ◌-◌, ◌≤◌, ◌≡◌, List, [], ◌++◌, length, take, drop, refl, sym, ap, subst, ◌∙◌, append_assoc, append-nil, arith}
use Rattle.std.proofs.lemmas.List.{drop-drop, length-drop, length-append, length-take-le}
use Rattle.std.proofs.lemmas.Slice.{take-put_mid, drop-put_mid}
use borrow.Rule.Slice.PartMut.{put_mid}
use base.Fml.{GName}
use Rattle.numbers.specs.Store.{put}
use Rattle.numbers.proofs.Stores.{put_split}
use Rattle.words.specs.Added.{Lent, Added}

-- What a text shows whose bytes end there.
abbrev pub ending : (end : ℕ) (bytes : List ℕ) → GName → Lent
ending end bytes loan = record { added = take end bytes; free = drop end bytes; loan = loan }

pub stored : (end : ℕ) (bytes word written : List ℕ) (loan : GName) (old : Lent) → written ≡ word → ending end bytes loan ≡ old → end ≤ length bytes
    → Added (length word) old word (ending (end + length word) (put_mid end (end + length word - end) bytes written) loan)
stored end bytes word written loan old same e h =
    let count : length word ≡ end + length word - end = omega arith in
    let word_last = take-put_mid end (end + length word - end) bytes word (end + length word) refl h in
    let rest : drop (end + length word) (put_mid end (end + length word - end) bytes word) ≡ drop (end + length word) bytes = drop-put_mid end (end + length word - end) bytes word (end + length word) (omega arith) h count in
    rw (same, sym e) (
      word_last,
      rw (word_last, length-append) (omega arith),
      rest ∙ sym (drop-drop (length word) end bytes),
      rw (rest, length-drop (end + length word) bytes, length-drop end bytes) (omega arith),
      refl,
    )

-- What is added behind what was added.
pub added_then : (most more : ℕ) (old mid new : Lent) (first second : List ℕ) → Added most old first mid → Added more mid second new
    → Added (most + more) old (first ++ second) new
added_then most more old mid new first second s t =
    (t.0 ∙ ap (λ (l : List ℕ). l ++ second) s.0 ∙ append_assoc old.added first second, omega (arith, s.1, t.1), t.2 ∙ ap (λ (l : List ℕ). drop (length second) l) s.2 ∙ drop-drop (length second) (length first) old.free ∙ ap (λ (n : ℕ). drop n old.free) (sym (length-append first second)), omega (arith, s.3, t.3), t.4 ∙ s.4)

-- Nothing added.
pub added_none : (most : ℕ) (old : Lent) → Added most old [] old
added_none most old = (sym (append-nil old.added), omega arith, refl, omega arith, refl)

-- The same addition under another account of what it is and how long it can be.
pub added_as : (most more : ℕ) (old new : Lent) (word as_word : List ℕ) → word ≡ as_word → most ≤ more → Added most old word new → Added more old as_word new
added_as most more old new word as_word e h a =
    let b : Added most old as_word new = subst (λ (w : List ℕ). Added most old w new) e a in
    (b.0, omega (arith, b.1, h), b.2, omega (arith, b.3, h), b.4)

-- A text that goes on behind `at` bytes, where `most` more have room: it ends behind the word. In the memory that is given back the word is
-- put there, and no other byte is changed.
pub ends_behind : (most at : ℕ) (memory : List ℕ) (begun new : Lent) (word : List ℕ) → at + most ≤ length memory → begun.added ≡ take at memory
    → Added most begun word new → length new.added ≡ at + length word
ends_behind most at memory begun new word fits first a =
    ap (λ (l : List ℕ). length l) a.0 ∙ length-append begun.added word
    ∙ ap (λ (l : List ℕ). length l + length word) first ∙ ap (λ (n : ℕ). n + length word) (length-take-le at memory (omega (arith, fits)))

pub memory_put : (most at : ℕ) (memory : List ℕ) (begun new : Lent) (word : List ℕ) → at + most ≤ length memory → begun.added ≡ take at memory
    → begun.free ≡ drop at memory → Added most begun word new → new.added ++ new.free ≡ put memory at word
memory_put most at memory begun new word fits first rest a =
    let begins : length begun.added ≡ at = ap (λ (l : List ℕ). length l) first ∙ length-take-le at memory (omega (arith, fits)) in
    let whole : at + length word ≤ length memory = omega (arith, fits, a.1, begins, ends_behind most at memory begun new word fits first a) in
    rw (a.0, a.2, first, rest, append_assoc, drop-drop (length word) at memory)
    (sym (put_split memory at word whole ∙ append_assoc (take at memory) word (drop (at + length word) memory)))
