-- Laws of `put`: what a store leaves before, at and after its place, and stores that meet; then what a slice to the
-- end holds, and what zeros are.
-- Assumes nothing.
use mathlib.Core.Path.{◌≡◌, refl, sym, ap, ◌∙◌}
use mathlib.Core.Bool.{true, ◌&&◌}
use mathlib.Core.List.{List, [], ◌∷◌, ◌++◌, append_assoc, append-nil}
use Prim.Native.Nat.{ℕ, zero, suc, ◌+◌, ◌-◌, ◌≤◌}
use native.Mathlib.Numerals.{add-one, add-two, add-three}
use native.Mathlib.Omega.{arith}
use native.Mathlib.Nat.{add-zero}
use borrow.Author.Tests.{eqb-true}
use lib.Dec.{eqb}
use borrow.Rule.Slice.PartMut.{put_mid}
use lib.ListN.{length, set, take, drop, replicate, length-set, length-append, length-drop}
use lib.Seq.{drop-drop, length-sets, sets-eq, take-set-le, drop-set-lt, length-take-le, drop_at, take-append_seam, take_all, drop-length}
use Rattle.std.specs.List.{list_all}
use Rattle.numbers.specs.Store.{put, zeros}
use Rattle.numbers.proofs.Tests.{both}

-- A store keeps the length, wherever it is.
pub length_put : (old : List ℕ) (at : ℕ) (new : List ℕ) → length (put old at new) ≡ length old
unfolding put
length_put old at new = length-sets old at new

-- A store of nothing.
pub put_none : (old : List ℕ) (at : ℕ) → put old at [] ≡ old
unfolding put
put_none old at = refl

-- A store within the list, in three pieces.
pub put_split : (old : List ℕ) (at : ℕ) (new : List ℕ) → at + length new ≤ length old
    → put old at new ≡ take at old ++ new ++ drop (at + length new) old
unfolding put
put_split old at new h = sets-eq new old at h

-- A store over a whole slice leaves nothing of what stood there.
pub put_whole : (old new : List ℕ) → length new ≡ length old → put old 0 new ≡ new
put_whole old new e =
    let all : 0 + length new ≡ length old = omega arith in
    let none : drop (0 + length new) old ≡ [] = ap (λ (n : ℕ). drop n old) all ∙ drop-length old in
    put_split old 0 new (omega arith) ∙ ap (λ (l : List ℕ). new ++ l) none ∙ append-nil new

-- What stands before a store, and what stands after it, stays.
pub take_put : (n : ℕ) (old : List ℕ) (at : ℕ) (new : List ℕ) → n ≤ at → take n (put old at new) ≡ take n old
unfolding put
take_put n old at [] h = refl
take_put n old at (a ∷ new) h = take_put n (set old at a) (suc at) new (omega arith) ∙ take-set-le n old at a h

pub drop_put : (n : ℕ) (old : List ℕ) (at : ℕ) (new : List ℕ) → at + length new ≤ n → drop n (put old at new) ≡ drop n old
unfolding put
drop_put n old at [] h = refl
drop_put n old at (a ∷ new) h = drop_put n (set old at a) (suc at) new (omega arith) ∙ drop-set-lt n old at a (omega arith)

-- What was stored stands there.
pub put_stands : (old : List ℕ) (at : ℕ) (new : List ℕ) → at + length new ≤ length old → take (length new) (drop at (put old at new)) ≡ new
put_stands old at new h =
    let pre : length (take at old) ≡ at = length-take-le at old (omega arith) in
    rw (put_split old at new h, append_assoc, drop_at (take at old) (new ++ drop (at + length new) old) at pre)
    (take-append_seam new (drop (at + length new) old))

-- Two stores, the second where the first ends.
pub put_put : (old : List ℕ) (at : ℕ) (a b : List ℕ) → put (put old at a) (at + length a) b ≡ put old at (a ++ b)
unfolding put
put_put old at [] b = rw add-zero
put_put old at (x ∷ a) b =
    let e : at + suc (length a) ≡ suc at + length a = omega arith in
    rw e (put_put (set old at x) (suc at) a b)

-- Two stores, the second before the first.
pub put_before : (old : List ℕ) (at : ℕ) (a b : List ℕ) → at + length a + length b ≤ length old → put (put old (at + length a) b) at a ≡ put old at (a ++ b)
put_before old at a b h =
    let n = at + length a in
    let pre : length (take n old) ≡ n = length-take-le n old (omega arith) in
    let long : at + length a ≤ length (put old n b) = rw (length_put old n b) (omega arith) in
    let whole : at + length (a ++ b) ≤ length old = rw (length-append a b) (omega arith) in
    let end : at + (length a + length b) ≡ n + length b = omega arith in
    let after : drop n (put old n b) ≡ b ++ drop (n + length b) old =
    rw (put_split old n b h, append_assoc) (drop_at (take n old) (b ++ drop (n + length b) old) n pre) in
    rw (put_split (put old n b) at a long, take_put at old n b (omega arith), after, put_split old at (a ++ b) whole, length-append a b, end, append_assoc, append_assoc, append_assoc)

-- A store over one that begins at the same place.
set_again : (old : List ℕ) (at x y : ℕ) → set (set old at x) at y ≡ set old at y
set_again [] at x y = refl
set_again (z ∷ old) zero x y = refl
set_again (z ∷ old) (suc at) x y = ap (λ (l : List ℕ). z ∷ l) (set_again old at x y)

pub put_over : (old : List ℕ) (at x y : ℕ) (more : List ℕ) → at + 1 + length more ≤ length old → set (put old at (x ∷ more)) at y ≡ put old at (y ∷ more)
unfolding put
put_over old at x y more h =
    let long : at + 1 + length more ≤ length (set old at x) = rw (length-set old at x) h in
    let before : set (put (set old at x) (at + 1) more) at y ≡ put (set old at x) at (y ∷ more) = put_before (set old at x) at (y ∷ []) more long in
    ap (λ (k : ℕ). set (put (set old at x) k more) at y) (sym (add-one at)) ∙ before ∙ ap (λ (l : List ℕ). put l (suc at) more) (set_again old at x y)

-- Four stores, one after the other.
pub put_four : (old : List ℕ) (at a b c d : ℕ)
    → set (set (set (set old at a) (at + 1) b) (at + 2) c) (at + 3) d ≡ put old at (a ∷ b ∷ c ∷ d ∷ [])
unfolding put
put_four old at a b c d = rw (add-one at, add-two at, add-three at)

-- Three stores, one after the other.
pub put_three : (old : List ℕ) (at a b c : ℕ) → set (set (set old at a) (at + 1) b) (at + 2) c ≡ put old at (a ∷ b ∷ c ∷ [])
unfolding put
put_three old at a b c = rw (add-one at, add-two at)

-- All that follows the first n.
pub take_rest : (n : ℕ) (l : List ℕ) → take (length l - n) (drop n l) ≡ drop n l
take_rest n l = take_all (length l - n) (drop n l) (omega (arith, length-drop n l))

-- Zeros, and what they are.
pub zeros_all : (bytes : List ℕ) → list_all (λ byte. eqb byte 0) bytes ≡ zeros bytes
zeros_all [] = refl
zeros_all (byte ∷ bytes) = ap (λ more. eqb byte 0 && more) (zeros_all bytes)

pub zeros_made : (n : ℕ) → zeros (replicate n 0) ≡ true
zeros_made zero = refl
zeros_made (suc n) = zeros_made n

pub zeros_are : (bytes : List ℕ) → zeros bytes ≡ true → replicate (length bytes) 0 ≡ bytes
zeros_are [] e = refl
zeros_are (byte ∷ bytes) e =
    let p = both (eqb byte 0) (zeros bytes) e in
    cc (eqb-true byte 0 p.0, zeros_are bytes p.1)

-- A slice's part written over is a store.
pub put_part : (old : List ℕ) (at k : ℕ) (new : List ℕ) → at + length new ≤ length old → k ≡ length new → put_mid at k old new ≡ put old at new
put_part old at k new fits e = rw (e, drop-drop (length new) at old, put_split old at new fits) (sym (append_assoc (take at old) new (drop (at + length new) old)))
