-- Two answers that meet the contract of `find` coincide.
-- Assumes nothing.
use Prim.Native.Nat.{ℕ}
use mathlib.Core.Path.{◌≡◌, sym, ◌∙◌}
use mathlib.Core.List.{List}
use Rattle.std.specs.Prelude.{Option}
use Rattle.seek.specs.Find.{find_call}

pub find_settled : (rows : List ℕ) (before b : ℕ) (x y : Option ℕ) → x ≡ find_call rows before b → y ≡ find_call rows before b → x ≡ y
find_settled rows before b x y e f = e ∙ sym f
