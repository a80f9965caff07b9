-- Between a test in the code, a Bool of a definition and a fact on numbers.
-- Assumes nothing.
use Rattle.numbers.specs.Numbers.{between}
use mathlib.Core.Path.{◌≡◌, refl, sym, ◌∙◌}
use mathlib.Core.Bool.{Bool, true, false, cond, ◌&&◌}
use Prim.Native.Nat.{ℕ, suc, ◌≤◌}
use native.Mathlib.Omega.{arith}
use lib.Dec.{leb}
use borrow.Author.Rules.{rules}
use borrow.Author.Tests.{leb-true, le-ltb, lt-ltb, le-leb, lt-leb, eq-eqb, ne_eqb}

-- What `search` closes a return by, where the tests on the way decide the tests of a definition.
pub ruleset tests = (le-leb, lt-leb, lt-ltb, le-ltb, eq-eqb, ne_eqb, rules)

-- What the test `!f(x)` tells of f's definition, where it was taken and where it was left.
pub fails : {r b : Bool} → r ≡ b → r ≡ false → b ≡ false
fails e h = sym e ∙ h

pub holds : {r b : Bool} → r ≡ b → r ≡ true → b ≡ true
holds e h = sym e ∙ h

-- Both halves of an `&&`, and the `&&` of both.
pub both : (a b : Bool) → a && b ≡ true → (a ≡ true) × (b ≡ true)
both true b e = (refl, e)
both false b e = let z : ◌≡◌ {A = ℕ} 0 1 = cc in absurd (omega arith)

pub and : {a b : Bool} → a ≡ true → b ≡ true → a && b ≡ true
and e f = rw (e, f)

-- A number that is between two is.
pub within : (low n high : ℕ) → between low n high ≡ true → (low ≤ n) × (n ≤ high)
within low n high e =
    let h = both (leb low n) (leb n high) e in
    (leb-true low n h.0, leb-true n high h.1)

pub is_within : {low n high : ℕ} → low ≤ n → n ≤ high → between low n high ≡ true
is_within g h = rw (le-leb _ _ g, le-leb _ _ h)

-- A link of a chain of refusals was passed.
pub passed : (b : Bool) (k : ℕ) {more : ℕ} → cond b (suc k) more ≡ 0 → (b ≡ false) × (more ≡ 0)
passed true k e = absurd (omega arith)
passed false k e = (refl, e)
