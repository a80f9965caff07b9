-- Laws of entries and tables: what was laid is read back, what was read is what stands there, and how long all of it is.
-- Assumes nothing.
use mathlib.Core.Path.{◌≡◌, refl, sym, ap, ◌∙◌}
use mathlib.Core.List.{List, [], ◌∷◌, ◌++◌, append_assoc, append-nil}
use Prim.Native.Nat.{ℕ, zero, suc, ◌+◌, ◌*◌, ◌-◌, ◌/◌, ◌%◌, ◌≤◌, ◌<◌}
use native.Mathlib.Nat.{sub-zero}
use native.Mathlib.Omega.{arith}
use lib.ListN.{length, length-append, get_or, take, drop}
use lib.Seq.{get_or-append_seam, take-add, drop-cons, length-take-le}
use native.Mathlib.Numerals.{add-one}
use Rattle.group.specs.declared.Entry.{Entry}
use Rattle.numbers.specs.Store.{put}
use Rattle.numbers.specs.Numbers.{number_at, bytes_of, Bytes}
use Rattle.group.specs.Sizes.{longest_record}
use Rattle.group.specs.Entries.{entry, entry_at, entry_bytes, entries_below, table_bytes}
use Rattle.group.specs.ForContracts.{Word}
use Rattle.numbers.proofs.Stores.{put_split}
use Rattle.numbers.proofs.NumberLaws.{length_bytes, count_at, three_bytes, four_bytes, number_after, number_from, number_of_bytes, bytes_of_number, number_small}

-- A count that three bytes hold, and a list of entries whose counts they hold.
abbrev pub Small : List Entry → Type 0
Small [] = Unit {0}
Small (e ∷ es) = (e.count < 16777216) × Small es

-- An entry's four bytes, joined to one number, and taken apart again.
pub entry_word : (s : List ℕ) (at n : ℕ) → get_or s (at + 1) 0 < 256 → get_or s (at + 2) 0 < 256 → get_or s (at + 3) 0 < 256
    → n ≡ get_or s at 0 * 16777216 + get_or s (at + 1) 0 * 65536 + get_or s (at + 2) 0 * 256 + get_or s (at + 3) 0
    → Word (entry_at s at) n
unfolding entry_at
entry_word s at n h2 h3 h4 e = record { is = omega (arith, count_at s at); small = omega (arith, count_at s at) }

pub word_apart : (e : Entry) (n : ℕ) → Word e n → entry (n / 16777216) (n % 16777216) ≡ e
word_apart e n w =
    let high : n / 16777216 ≡ e.flag = omega (arith, w.is, w.small) in
    let low : n % 16777216 ≡ e.count = omega (arith, w.is, w.small) in
    rw (high, low)

-- An entry's count as a number of four bytes: its own three, after a 0.
pub count_bytes : (s : List ℕ) (at n : ℕ) → get_or s (at + 1) 0 < 256 → get_or s (at + 2) 0 < 256 → get_or s (at + 3) 0 < 256 → n ≡ (entry_at s at).count
    → bytes_of 4 n ≡ 0 ∷ get_or s (at + 1) 0 ∷ get_or s (at + 2) 0 ∷ get_or s (at + 3) 0 ∷ []
unfolding entry_at
count_bytes s at n h2 h3 h4 e =
    let none : n / 16777216 % 256 ≡ 0 = omega (arith, count_at s at) in
    let first : n / 65536 % 256 ≡ get_or s (at + 1) 0 = omega (arith, count_at s at) in
    let second : n / 256 % 256 ≡ get_or s (at + 2) 0 = omega (arith, count_at s at) in
    let third : n % 256 ≡ get_or s (at + 3) 0 = omega (arith, count_at s at) in
    rw (four_bytes n, three_bytes n, none, first, second, third)

-- How long an entry and a table are, and how many entries are read.
pub length_entry : (e : Entry) → length (entry_bytes e) ≡ 4
unfolding entry_bytes
length_entry e = ap suc (length_bytes 3 e.count)

pub length_table : (es : List Entry) → length (table_bytes es) ≡ 4 * length es
unfolding table_bytes
length_table [] = refl
length_table (e ∷ es) = simp length-append (omega (arith, length_entry e, length_table es))

pub length_entries : (group : List ℕ) (top n : ℕ) → length (entries_below group top n) ≡ n
unfolding entries_below
length_entries group top zero = refl
length_entries group top (suc n) = ap suc (length_entries group (top - 4) n)

-- An entry that was laid is read back.
pub entry_of_bytes : (pre : List ℕ) (e : Entry) (post : List ℕ) → e.count < 16777216 → entry_at (pre ++ (entry_bytes e ++ post)) (length pre) ≡ e
unfolding entry_at entry_bytes
entry_of_bytes pre e post h =
    let count : number_at 3 (pre ++ (e.flag ∷ (bytes_of 3 e.count ++ post))) (length pre + 1) ≡ e.count =
    number_after 3 pre (e.flag ∷ (bytes_of 3 e.count ++ post)) 1
    ∙ number_from 3 (e.flag ∷ []) (bytes_of 3 e.count ++ post) 1 refl
    ∙ number_of_bytes 3 e.count post h in
    rw (count, get_or-append_seam pre e.flag (bytes_of 3 e.count ++ post) 0)

-- .. and so from the group that it was put into.
pub entry_put : (old : List ℕ) (at : ℕ) (e : Entry) → at + 4 ≤ length old → e.count < 16777216 → entry_at (put old at (entry_bytes e)) at ≡ e
entry_put old at e fits h =
    let pre : length (take at old) ≡ at = length-take-le at old (omega arith) in
    rw (put_split old at (entry_bytes e) (omega (arith, length_entry e)), append_assoc)
    (ap (entry_at (take at old ++ (entry_bytes e ++ drop (at + length (entry_bytes e)) old))) (sym pre)
    ∙ entry_of_bytes (take at old) e (drop (at + length (entry_bytes e)) old) h)

-- A table that was laid is read back.
pub entries_of_table : (pre : List ℕ) (es : List Entry) (post : List ℕ) (top : ℕ) → Small es → top ≡ length pre + 4 * length es
    → entries_below (pre ++ (table_bytes es ++ post)) top (length es) ≡ es
unfolding entries_below table_bytes
entries_of_table pre [] post top s h = refl
entries_of_table pre (e ∷ es) post top s h =
    let t : top - 4 ≡ length (pre ++ table_bytes es) = simp length-append (omega (arith, length_table es)) in
    let one : entry_at (pre ++ (table_bytes es ++ (entry_bytes e ++ post))) (top - 4) ≡ e =
    rw (t, ← append_assoc pre (table_bytes es) (entry_bytes e ++ post)) (entry_of_bytes (pre ++ table_bytes es) e post s.0) in
    let others : entries_below (pre ++ (table_bytes es ++ (entry_bytes e ++ post))) (top - 4) (length es) ≡ es =
    entries_of_table pre es (entry_bytes e ++ post) (top - 4) s.1 (omega arith) in
    let same : pre ++ (table_bytes (e ∷ es) ++ post) ≡ pre ++ (table_bytes es ++ (entry_bytes e ++ post)) =
    ap (λ (l : List ℕ). pre ++ l) (append_assoc (table_bytes es) (entry_bytes e) post) in
    ap (λ (s : List ℕ). entry_at s (top - 4) ∷ entries_below s (top - 4) (length es)) same
    ∙ ap (λ (x : Entry). x ∷ entries_below (pre ++ (table_bytes es ++ (entry_bytes e ++ post))) (top - 4) (length es)) one
    ∙ ap (λ (l : List Entry). e ∷ l) others

-- The bytes of the entry that stands somewhere are those that stand there, and its count is one that three bytes hold.
pub bytes_of_entry : (s : List ℕ) (at : ℕ) → Bytes s → at + 4 ≤ length s → entry_bytes (entry_at s at) ≡ take 4 (drop at s)
unfolding entry_bytes entry_at
bytes_of_entry s at b h =
    let rest : bytes_of 3 (number_at 3 s (at + 1)) ≡ take 3 (drop (suc at) s) = bytes_of_number 3 s (at + 1) b (omega arith) ∙ ap (λ (k : ℕ). take 3 (drop k s)) (add-one at) in
    rw (rest, drop-cons s at 0 (omega arith))

pub small_entries : (s : List ℕ) (top n : ℕ) → Bytes s → Small (entries_below s top n)
unfolding entries_below entry_at
small_entries s top zero b = tt
small_entries s top (suc n) b = (number_small 3 s (top - 4 + 1) b, small_entries s (top - 4) n b)

-- "A record is 1 to 16,777,215 bytes": no count of three bytes is longer.
pub count_longest : (s : List ℕ) (at : ℕ) → Bytes s → (entry_at s at).count ≤ longest_record
unfolding entry_at
count_longest s at b =
    let small : number_at 3 s (at + 1) < 16777216 = number_small 3 s (at + 1) b in
    omega arith

-- The table of the entries that are read is the part of the group that they are read from.
pub table_of_entries : (s : List ℕ) (top n : ℕ) → Bytes s → 4 * n ≤ top → top ≤ length s
    → take top s ≡ take (top - 4 * n) s ++ table_bytes (entries_below s top n)
unfolding entries_below table_bytes
table_of_entries s top zero b h l = rw (append-nil, sub-zero)
table_of_entries s top (suc n) b h l =
    let t : top ≡ top - 4 + 4 = omega arith in
    let one : take top s ≡ take (top - 4) s ++ entry_bytes (entry_at s (top - 4)) =
    ap (λ (k : ℕ). take k s) t ∙ take-add (top - 4) 4 s ∙ ap (λ (r : List ℕ). take (top - 4) s ++ r) (sym (bytes_of_entry s (top - 4) b (omega arith))) in
    let others : take (top - 4) s ≡ take (top - 4 - 4 * n) s ++ table_bytes (entries_below s (top - 4) n) =
    table_of_entries s (top - 4) n b (omega arith) (omega arith) in
    let m : top - 4 - 4 * n ≡ top - 4 * suc n = omega arith in
    one ∙ rw (others, m, append_assoc)
