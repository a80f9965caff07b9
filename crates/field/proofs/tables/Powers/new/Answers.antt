-- The entries of `Powers::new` are the powers, by computation. Assumes nothing.
use mathlib.Core.Path.{refl}
use Rattle.field.specs.Tables.{powers_from, power_table}
use Rattle.field.specs.Field.{◌⊕◌, times_alpha, polynomial}
use Rattle.field.proofs.tables.Powers.new.Goals as goal

pub invariant_of-result : goal.invariant_of-result
unfolding power_table powers_from times_alpha ◌⊕◌ polynomial
invariant_of-result c = record { by_rule = refl }
